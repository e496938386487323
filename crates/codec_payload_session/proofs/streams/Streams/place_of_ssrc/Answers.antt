use Rattle.std.proofs.Common.{◌≡◌, ◌<◌, ℕ, length, subst}
use Rattle.std.specs.Prelude.{IfSome}
use Rattle.std.specs.List.{position}
use Rattle.codec_payload_session.specs.Arrivals.{Port, has_ssrc}
use Rattle.codec_payload_session.proofs.SsrcLemmas.{first_of, first_within}
use Rattle.codec_payload_session.proofs.streams.Streams.place_of_ssrc.Goals as goal

pub returns-clause-value : goal.returns-clause-value
returns-clause-value c =
    subst (λ (p : Port). c.find.result ≡ position (has_ssrc c.args.ssrc) p.streams) c.self.view_is
    (first_of c.args.ssrc c.self.inside.ssrcs c.self.inside.list.items c.find.result c.self.invariant.listed c.find.ensures)

pub returns-clause-within : goal.returns-clause-within
returns-clause-within c =
    subst (λ (p : Port). IfSome c.find.result (λ (place : ℕ). place < length p.streams)) c.self.view_is
    (first_within c.args.ssrc c.self.inside.ssrcs c.self.inside.list.items c.find.result c.self.invariant.listed c.find.ensures)
