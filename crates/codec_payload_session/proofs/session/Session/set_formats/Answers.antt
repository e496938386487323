use Rattle.std.proofs.Common.{◌∙◌, List, subst, sym}
use Rattle.codec_payload_session.specs.Arrivals.{Port}
use Rattle.codec_payload_session.specs.Ports.{IsPort}
use Rattle.codec_payload_session_stream.specs.Renegotiation.{StayOrEnd}
use Rattle.codec_payload_session.specs.Renegotiation.{with_formats}
use Rattle.codec_payload_session_formats.specs.declared.formats.Format.{Format}
use Rattle.codec_payload_session_stream.specs.declared.stream.StreamState.{StreamState}
use Rattle.codec_payload_session.proofs.RenegotiationLemmas.{formats_keep}
use Rattle.codec_payload_session.proofs.session.Session.set_formats.Goals as goal

pub invariant_of-self-2 : goal.invariant_of-self-2
invariant_of-self-2 c =
    let p : Port = c.self.inside.streams in
    let ts : List StreamState = c.leave_formats.ensures.0 in
    let each : StayOrEnd c.replace-before.new.dest.items c.args.now.0 p.streams ts =
    subst (λ (l : List Format). StayOrEnd l c.args.now.0 p.streams ts) c.deref.ensures.value c.leave_formats.ensures.1 in
    record {
      usable = sym c.fault.ensures ∙ c.in_default.is;
      port = subst (λ (q : Port). IsPort (with_formats c.replace-before.new.dest c.self.inside.settings) q c.self.inside.counts) (sym c.leave_formats.ensures.2)
          (formats_keep c.self.inside.settings c.replace-before.new.dest c.self.inside.counts c.args.now.0 p ts each c.self.invariant.port);
      few = c.self.invariant.few;
    }
