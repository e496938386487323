use Rattle.std.proofs.Common.{◌∙◌, ◌<◌, length, ap, subst, sym}
use Rattle.codec_payload_session.specs.Arrivals.{Port}
use Rattle.codec_payload_session_stream.specs.Streams.{StreamState}
use Rattle.codec_payload_session_stream.proofs.WakingLemmas.{says_bound}
use Rattle.codec_payload_session.proofs.SsrcLemmas.{same_set}
use Rattle.codec_payload_session.proofs.streams.Streams.report_at.Goals as goal

pub invariant_of-self : goal.invariant_of-self
invariant_of-self c =
    let ss = c.self.inside.list.items in
    let within : c.args.place < length ss = subst (λ (p : Port). c.args.place < length p.streams) (sym c.self.view_is) c.requires in
    record {
      bound = says_bound _ _ c.forget.ensures;
      listed = c.self.invariant.listed ∙ sym (same_set ss c.args.place c.index_mut.result.now c.report.new.self within c.index_mut.ensures.value (ap (λ (s : StreamState). s.ssrc) c.report.ensures.after));
    }
