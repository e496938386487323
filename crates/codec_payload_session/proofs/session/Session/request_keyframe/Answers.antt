use Rattle.std.proofs.Common.{◌≡◌, ◌∙◌, subst, sym}
use Rattle.std.specs.List.{position}
use Rattle.codec_payload_session.specs.Arrivals.{Port, has_ssrc}
use Rattle.codec_payload_session.specs.Keyframes.{KeyframeLeaves, answer_among}
use Rattle.codec_payload_session.specs.Ports.{IsPort, Session}
use Rattle.codec_payload_session_requests.specs.declared.requests.KeyframeAnswer.TheVariants as answers
use Rattle.codec_payload_session.proofs.KeyframeLemmas.{asked_keeps, keyframe_leaves}
use Rattle.codec_payload_session.proofs.session.Session.request_keyframe.Goals as goal

pub invariant_of-self : goal.invariant_of-self
invariant_of-self c =
    record {
      usable = c.self.invariant.usable;
      port = subst (λ (p : Port). IsPort c.self.inside.settings p c.self.inside.counts) (sym c.request_keyframe.ensures.after)
          (asked_keeps (position (has_ssrc c.args.ssrc) c.self.inside.streams.streams) c.self.inside.settings c.self.inside.counts c.self.inside.streams c.self.invariant.port);
      few = c.self.invariant.few;
    }

pub returns-clause-leaves : goal.returns-clause-leaves
returns-clause-leaves c = λ requested.
    let s : Session = record { settings = c.self.inside.settings; port = c.self.inside.streams; counts = c.self.inside.counts; telephone = c.self.inside.telephone; report_due = c.self.inside.report_due; transport = c.self.inside.transport } in
    let answered : answer_among (position (has_ssrc c.args.ssrc) s.port.streams) s.port.streams ≡ answers.Requested = sym c.request_keyframe.ensures.answer ∙ requested in
    subst (λ (p : Port). KeyframeLeaves c.args.ssrc (record s { port = p })) (sym c.request_keyframe.ensures.after) (keyframe_leaves c.args.ssrc s answered)
