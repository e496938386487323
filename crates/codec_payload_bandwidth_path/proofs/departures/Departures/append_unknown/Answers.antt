use Rattle.std.proofs.Common.{◌≡◌, ◌≤◌, ◌++◌, ◌∷◌, ◌+◌, ◌∙◌, [], List, ap, arith, rules}
use Rattle.codec_payload_bandwidth_estimator.specs.declared.estimator.PacketFate.{PacketFate}
use Rattle.codec_payload_bandwidth_path.proofs.DepartureLemmas.{departed_step, unknown_more}
use Rattle.codec_payload_bandwidth_path.specs.Departures.{departed_in, first_index, unknown_fate, unknown_fates}
use Rattle.codec_payload_bandwidth_path.proofs.departures.Departures.append_unknown.Goals as goal

pub loop-index-preserved : goal.loop-index-preserved
loop-index-preserved c =
    let above : first_index c.args.self.now ≤ c.loop-index.index = omega (arith, c.requires.above, c.loop-index.invariant.above) in
    let step : departed_in c.loop-index.index c.args.to c.args.self.now ≡ c.at.result ∷ departed_in (c.loop-index.index + 1) c.args.to c.args.self.now =
    departed_step c.loop-index.index c.args.to c.args.self.now above c.loop-index-test.true c.requires.within
    ∙ ap (λ (d : _). d ∷ departed_in (c.loop-index.index + 1) c.args.to c.args.self.now) (search rules) in
    let gained : c.push.new.self.items ≡ c.loop-index.fates.items ++ unknown_fate c.at.result ∷ [] = search rules in
    record {
      all =
          ap (λ (xs : List PacketFate). xs ++ unknown_fates (departed_in (c.loop-index.index + 1) c.args.to c.args.self.now)) gained
          ∙ (unknown_more c.loop-index.fates.items c.at.result (departed_in c.loop-index.index c.args.to c.args.self.now) (departed_in (c.loop-index.index + 1) c.args.to c.args.self.now) step
          ∙ c.loop-index.invariant.all);
      above = omega (arith, c.loop-index.invariant.above);
    }
