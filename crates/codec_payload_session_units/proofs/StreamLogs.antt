-- The log of a stream's receiver is a chain of turns.
use Rattle.std.proofs.Common.{◌≡◌, ◌∙◌, refl, sym, ap, subst, ℕ, List, [], ◌∷◌, ◌++◌, Bool, true, inl, inr}
use Rattle.codec_payload_base.specs.declared.wire.Ticks.{Ticks}
use Rattle.codec_payload_buffer.proofs.MemberLemmas.{IsIn}
use Rattle.codec_payload_buffer.specs.Held.{Held}
use Rattle.codec_payload_buffer.specs.Steps.{State, arrived, pushed}
use Rattle.codec_payload_buffer.specs.Stretches.{after_pushes}
use Rattle.codec_payload_codec.specs.Depacketizers.{DepacketizerKind}
use Rattle.codec_payload_buffer_runs.proofs.order.TurnLemmas.{IsPush, IsReady, IsSpan, Setting, span_ready}
use Rattle.codec_payload_buffer_runs.proofs.units.UnitRows.{held_as}
use Rattle.codec_payload_buffer_runs.specs.Log.{Stretch, Turn, begun, with_pushes}
use Rattle.codec_payload_buffer_runs.specs.SentStream.{packets_of}
use Rattle.codec_payload_metadata.specs.declared.meta.RtpMeta.{RtpMeta}
use Rattle.codec_payload_payloader.specs.Packets.{Packet}
use Rattle.codec_payload_datagram_runs.proofs.LogLemmas.{Chained, IsTurn, pushes_more, turn_of, turn_ready}
use Rattle.codec_payload_datagram_runs.specs.WireLogs.{AnswersTurn}
use Rattle.codec_payload_datagram_runs.specs.declared.run.DatagramStep.{DatagramStep}
use Rattle.codec_payload_datagram_runs.specs.declared.run.DatagramStep.TheVariants as steps
use Rattle.codec_payload_session_units.specs.StreamUnits.{IsLogOfStream}

-- what is known of each packet may be stated in other words, if it is known of each delivery
pub log_known : (all_steps : List DatagramStep) (known told : ℕ → Packet → RtpMeta → Type 0) (packets : List Packet)
    → ((k : ℕ) (q : Packet) (meta : RtpMeta) → IsIn (steps.Deliver k meta.received) all_steps → known k q meta → told k q meta)
    → (at_end : Bool) (later : List DatagramStep) → ((step : DatagramStep) → IsIn step later → IsIn step all_steps) → (w : Stretch) (turns : List Turn) (end : Stretch)
    → IsLogOfStream known packets at_end later w turns end → IsLogOfStream told packets at_end later w turns end
log_known all_steps known told packets so at_end [] among w [] end log = log
log_known all_steps known told packets so at_end [] among w (turn ∷ turns) end log = absurd log
log_known all_steps known told packets so at_end (steps.Send i ∷ later) among w turns end log =
    log_known all_steps known told packets so at_end later (λ step is. among step (inr is)) w turns end log
log_known all_steps known told packets so at_end (steps.Deliver k now ∷ later) among w turns end log =
    let here : IsIn (steps.Deliver k log.1.received) all_steps =
    subst (λ (at : Ticks). IsIn (steps.Deliver k at) all_steps) (sym log.4) (among (steps.Deliver k now) (inl refl)) in (
      log.0,
      log.1,
      log.2,
      so k log.0 log.1 here log.3,
      log.4,
      log_known all_steps known told packets so at_end later (λ step is. among step (inr is)) (with_pushes w (arrived w.now.depacketizer log.1 log.0.payload ∷ [])) turns end log.5,
    )
log_known all_steps known told packets so at_end (steps.Pop now ∷ later) among w [] end log = absurd log
log_known all_steps known told packets so at_end (steps.Pop now ∷ later) among w (turn ∷ turns) end log =
    (log.0, log.1, log_known all_steps known told packets so at_end later (λ step is. among step (inr is)) (begun turn.after) turns end log.2)
log_known all_steps known told packets so at_end (steps.Finish ∷ later) among w turns end log =
    log_known all_steps known told packets so true later (λ step is. among step (inr is)) w turns end log

after_one : (s : State) (ps : List Held) (p : Held) → after_pushes s (ps ++ p ∷ []) ≡ pushed (after_pushes s ps) p
after_one s [] p = refl
after_one s (q ∷ ps) p = after_one (pushed s q) ps p

-- the log is a chain
pub chained : (c : Setting) (at_end : Bool) (later : List DatagramStep) (from : ℕ) (w : Stretch) (turns : List Turn) (end : Stretch) → IsReady c from w.left → IsSpan c w
    → IsLogOfStream c.known (packets_of c.units) at_end later w turns end → Chained c w.left turns end
chained c at_end [] from w [] end ready is log = (ap (λ (x : Stretch). x.left) log, subst (IsSpan c) (sym log) is)
chained c at_end [] from w (turn ∷ turns) end ready is log = absurd log
chained c at_end (steps.Send i ∷ later) from w turns end ready is log = chained c at_end later from w turns end ready is log
chained c at_end (steps.Deliver k now ∷ later) from w turns end ready is log =
    let reads = (span_ready c from w ready is).beyond.reads in
    let p : Held = arrived w.now.depacketizer log.1 log.0.payload in
    let push : IsPush c p = (k, log.0, log.2, log.3, ap (λ (x : DepacketizerKind). held_as x log.1 log.0.payload) reads) in
    chained c at_end later from (with_pushes w (p ∷ [])) turns end ready
    (record { sent = pushes_more c w.pushes (p ∷ []) is.sent (push, tt); now = ap (λ (s : State). pushed s p) is.now ∙ sym (after_one w.left w.pushes p) }) log.5
chained c at_end (steps.Pop now ∷ later) from w [] end ready is log = absurd log
chained c at_end (steps.Pop now ∷ later) from w (turn ∷ turns) end ready is log =
    let at = span_ready c from w ready is in
    let answers : AnswersTurn log.1.0 w.now turn.passed turn.answer turn.after = subst (λ (x : Stretch). AnswersTurn log.1.0 x.now turn.passed turn.answer turn.after) log.0 log.1.2 in
    let made = turn_of c from log.1.0 w.now turn.after turn.passed turn.answer at answers in
    let next = turn_ready c from w.now turn.after turn.passed turn.answer at made in (
      ap (λ (x : Stretch). x.left) log.0,
      subst (IsSpan c) (sym log.0) is,
      subst (λ (x : Stretch). IsTurn c x.now turn.after turn.passed turn.answer) (sym log.0) made,
      chained c at_end later next.0 (begun turn.after) turns end next.1 (record { sent = tt; now = refl }) log.2,
    )
chained c at_end (steps.Finish ∷ later) from w turns end ready is log = chained c true later from w turns end ready is log
