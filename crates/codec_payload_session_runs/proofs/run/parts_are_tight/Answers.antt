use Rattle.std.proofs.Common.{◌≡◌, ◌⊎◌, inl, inr, refl, ap, ℕ, Bool, true, false, List, [], ◌∷◌, ◌++◌, Option, None, Result, ◌∙◌}
use Rattle.codec_payload_base.specs.declared.wire.Ticks.{Ticks}
use Rattle.codec_payload_jitter.specs.declared.outcome.Outcome.{Outcome}
use Rattle.codec_payload_receiver.specs.declared.receiver.ReceiveError.{ReceiveError}
use Rattle.codec_payload_session_formats.specs.declared.formats.Format.{Format}
use Rattle.codec_payload_session_stream.specs.Streams.{is_no_memory}
use Rattle.codec_payload_session_runs.specs.Lives.{Answered, AreMadeBy, EdgesCall, FollowEach, FollowedWaits, IsMadeAs, IsMadeBy, ReceiverCall, answered_unless, finishes, followed_by, follows, notes, pairs, pops, receives, reports, to_follow, waits}
use Rattle.codec_payload_session_runs.specs.SessionRuns.{Call}
use Rattle.codec_payload_session_runs.specs.declared.run.SessionStep.{SessionStep}
use Rattle.codec_payload_session_runs.specs.declared.run.SessionStep.TheVariants as steps
use Rattle.codec_payload_session_runs.specs.declared.run.StepAnswer.{StepAnswer}
use Rattle.codec_payload_session_runs.proofs.run.parts_are_tight.Goals as goal

made_middle : (ssrc : ℕ) (f : Format) (w : FollowedWaits) (c : Call) (front : List ReceiverCall) (x : ReceiverCall) (rest : List ReceiverCall) → AreMadeBy ssrc f w c (front ++ x ∷ rest) → IsMadeBy ssrc f w c x
made_middle ssrc f w c [] x rest made = made.0
made_middle ssrc f w c (y ∷ front) x rest made = made_middle ssrc f w c front x rest made.1

note_shown : (ssrc : ℕ) (f : Format) (w : FollowedWaits) (step : SessionStep) (answer : StepAnswer) (given : List ReceiverCall) (e : EdgesCall) → IsMadeAs ssrc f w step answer given (notes e)
    → (now : Ticks) × (given ≡ receives now e.bytes e.received ∷ [])
note_shown ssrc f w (steps.Receive now micros datagram) answer given e made = (now, made)
note_shown ssrc f w (steps.Poll now) answer given e made = absurd made
note_shown ssrc f w (steps.End now s) answer given e made = absurd made
note_shown ssrc f w (steps.Finish now) answer given e made = absurd made
note_shown ssrc f w (steps.SetWaitLimits s p limits) answer given e made = absurd made
note_shown ssrc f w (steps.Report now s p) answer given e made = absurd made
note_shown ssrc f w (steps.AddPair s retransmission) answer given e made = absurd made
note_shown ssrc f w (steps.RemovePair s) answer given e made = absurd made
note_shown ssrc f w (steps.RequestKeyframe s) answer given e made = absurd made
note_shown ssrc f w steps.RestartTransport answer given e made = absurd made

abbrev IsBehind : List ReceiverCall → EdgesCall → Type 0
IsBehind front e = (before : List ReceiverCall) × (now : Ticks) × (front ≡ before ++ receives now e.bytes e.received ∷ [])

unless_receipt : (lost : Bool) (now : Ticks) (bytes : List ℕ) (answer : Result Outcome ReceiveError) (e : EdgesCall) → answered_unless lost bytes answer ≡ followed_by (notes e)
    → receives now bytes answer ≡ receives now e.bytes e.received
unless_receipt true now bytes answer e is = absurd (cc)
unless_receipt false now bytes answer e is =
    let same : (bytes, answer) ≡ (e.bytes, e.received) = cc in
    ap (λ (p : Answered). receives now p.0 p.1) same

is_receipt : (c : ReceiverCall) (e : EdgesCall) → to_follow c ≡ followed_by (notes e) → (now : Ticks) × (c ≡ receives now e.bytes e.received)
is_receipt (receives now bytes answer) e is = (now, unless_receipt (is_no_memory answer) now bytes answer e is)
is_receipt (pops now answer) e is = absurd (cc)
is_receipt finishes e is = absurd (cc)
is_receipt (waits limits) e is = absurd (cc)
is_receipt (follows wait) e is = absurd (cc)
is_receipt (pairs retransmission) e is = absurd (cc)
is_receipt reports e is = absurd (cc)
is_receipt (notes other) e is = absurd (cc)

behind : (last : Option Answered) (front : List ReceiverCall) (e : EdgesCall) (rest : List ReceiverCall) → FollowEach last (front ++ notes e ∷ rest) → ((front ≡ []) × (last ≡ followed_by (notes e))) ⊎ IsBehind front e
behind last [] e rest each = inl (refl, each.0)
behind last (c ∷ front) e rest each = by_rest (behind (to_follow c) front e rest each.1)
  where
    by_rest : ((front ≡ []) × (to_follow c ≡ followed_by (notes e))) ⊎ IsBehind front e → ((c ∷ front ≡ []) × (last ≡ followed_by (notes e))) ⊎ IsBehind (c ∷ front) e
    by_rest (inl here) =
        let is = is_receipt c e here.1 in
        inr ([], is.0, ap (λ (x : ReceiverCall). x ∷ front) is.1 ∙ ap (λ (xs : List ReceiverCall). receives is.0 e.bytes e.received ∷ xs) here.0)
    by_rest (inr there) = inr (c ∷ there.0, there.1, ap (λ (xs : List ReceiverCall). c ∷ xs) there.2)

abbrev none_in_front : Option Answered
none_in_front = None

found_behind : (front : List ReceiverCall) (e : EdgesCall) (rest : List ReceiverCall) → FollowEach None (front ++ notes e ∷ rest) → IsBehind front e
found_behind front e rest each = by_rest (behind None front e rest each)
  where
    by_rest : ((front ≡ []) × (none_in_front ≡ followed_by (notes e))) ⊎ IsBehind front e → IsBehind front e
    by_rest (inl here) = let no : none_in_front ≡ followed_by (notes e) = here.1 in absurd (cc)
    by_rest (inr there) = there

pub returns : goal.returns
returns c = record {
  pairs = λ ssrc f w now micros datagram s p outcome own rest is. is.made.0.0;
  unpairs = λ ssrc f w now micros datagram answer rest is. is.made.0.1;
  by_format = λ ssrc f w now micros datagram answer own rest is. is.made.0.1.1;
  reports = λ ssrc f w now event rest is. is.made.0;
  once = λ ssrc f w c part is. is.one_report;
  waits = λ ssrc f w now micros datagram answer wait rest is. is.made.0.1;
  notes = λ ssrc f w c front e rest is. note_shown ssrc f w c.step c.answer _ e (made_middle ssrc f w c front (notes e) rest is.made);
  behind = λ ssrc f w c front e rest is. found_behind front e rest is.follow_each;
}
