use Rattle.std.proofs.Common.{◌≡◌, ◌++◌, ◌∙◌, ◌+◌, [], List, Option, ℕ, append-nil, ap, sym, drop}
use Rattle.std.proofs.Math.ListN.{drop_of_length-le}
use Rattle.codec_payload_bandwidth_estimator.specs.declared.estimator.PacketFate.{PacketFate}
use Rattle.codec_payload_bandwidth_path.proofs.DepartureLemmas.{reported_nothing}
use Rattle.codec_payload_bandwidth_path.specs.Departures.{departed_in, reported_fates}
use Rattle.codec_payload_bandwidth_path.proofs.departures.Departures.append_reported.Goals as goal

pub returns : goal.returns
returns c =
    let past : drop c.loop-place.place c.args.statuses.now ≡ [] = drop_of_length-le c.args.statuses.now c.loop-place-test.false in
    let rest : reported_fates c.args.self.now.clock (departed_in (c.args.from + c.loop-place.place) c.args.self.now.count c.args.self.now) (drop c.loop-place.place c.args.statuses.now) ≡ [] =
    ap (λ (ss : List (Option ℕ)). reported_fates c.args.self.now.clock (departed_in (c.args.from + c.loop-place.place) c.args.self.now.count c.args.self.now) ss) past
    ∙ reported_nothing c.args.self.now.clock (departed_in (c.args.from + c.loop-place.place) c.args.self.now.count c.args.self.now) in
    sym (append-nil c.loop-place.fates.items) ∙ (ap (λ (xs : List PacketFate). c.loop-place.fates.items ++ xs) (sym rest) ∙ c.loop-place.invariant)
