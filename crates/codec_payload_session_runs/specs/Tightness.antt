-- What a call of a session cannot make of the receiver of a stream.
use Rattle.std.specs.Prelude.{◌≡◌, ◌≤◌, ℕ, List, [], ◌∷◌, ◌++◌, Option, Some, None, Ok}
use Rattle.std.specs.Global.{Vec}
use Rattle.codec_payload_base.specs.declared.wire.Ticks.{Ticks}
use Rattle.codec_payload_datagrams.specs.declared.kinds.Retransmission.{Retransmission}
use Rattle.codec_payload_jitter.specs.declared.outcome.Outcome.{Outcome}
use Rattle.codec_payload_session_formats.specs.declared.formats.Format.{Format}
use Rattle.codec_payload_session_stream.specs.Units.{Event}
use Rattle.codec_payload_session_stream.specs.declared.arrival.Arrival.TheVariants as arrivals
use Rattle.codec_payload_session_runs.specs.Lives.{EdgesCall, FollowedWaits, IsInRange, IsPart, IsReportEvent, ReceiverCall, follows, many_reports, notes, pairs, receives, reports, shown_in}
use Rattle.codec_payload_session_runs.specs.SessionRuns.{Call}
use Rattle.codec_payload_session_runs.specs.declared.run.SessionStep.TheVariants as steps
use Rattle.codec_payload_session_runs.specs.declared.run.StepAnswer.{StepAnswer}
use Rattle.codec_payload_session_runs.specs.declared.run.StepAnswer.TheVariants as answers

-- the call of a datagram, and that of a poll
abbrev pub datagram_call : Ticks → Option ℕ → Vec ℕ → StepAnswer → Call
datagram_call now micros datagram answer = record { step = steps.Receive now micros datagram; answer = answer }

abbrev pub poll_call : Ticks → Option Event → Call
poll_call now event = record { step = steps.Poll now; answer = answers.Polled event }

-- a datagram that a stream took gives no retransmissions to the streams of another SSRC
abbrev pub PairsNoOther : Type 0
PairsNoOther =
    (ssrc : ℕ) (f : Format) (w : FollowedWaits) (now : Ticks) (micros : Option ℕ) (datagram : Vec ℕ) (s p : ℕ) (outcome : Outcome) (own : Option Retransmission) (rest : List ReceiverCall)
    → IsPart ssrc f w (datagram_call now micros datagram (answers.Received (Ok (arrivals.Stream s p outcome)))) (pairs own ∷ rest) → s ≡ ssrc

-- no datagram takes the retransmissions of a stream away whose format has a payload type for them
abbrev pub UnpairsNone : Type 0
UnpairsNone =
    (ssrc : ℕ) (f : Format) (w : FollowedWaits) (now : Ticks) (micros : Option ℕ) (datagram : Vec ℕ) (answer : StepAnswer) (rest : List ReceiverCall)
    → IsPart ssrc f w (datagram_call now micros datagram answer) (pairs None ∷ rest) → f.retransmission ≡ None

-- retransmissions that a datagram gives a stream have the payload type that its format has for them
abbrev pub PairsByFormat : Type 0
PairsByFormat =
    (ssrc : ℕ) (f : Format) (w : FollowedWaits) (now : Ticks) (micros : Option ℕ) (datagram : Vec ℕ) (answer : StepAnswer) (own : Retransmission) (rest : List ReceiverCall)
    → IsPart ssrc f w (datagram_call now micros datagram answer) (pairs (Some own) ∷ rest) → f.retransmission ≡ Some own.payload_type

-- a poll reports a stream only if its event is the report
abbrev pub ReportsWithReport : Type 0
ReportsWithReport =
    (ssrc : ℕ) (f : Format) (w : FollowedWaits) (now : Ticks) (event : Option Event) (rest : List ReceiverCall)
    → IsPart ssrc f w (poll_call now event) (reports ∷ rest) → IsReportEvent (answers.Polled event)

-- no call reports a stream twice
abbrev pub ReportsOnce : Type 0
ReportsOnce = (ssrc : ℕ) (f : Format) (w : FollowedWaits) (c : Call) (part : List ReceiverCall) → IsPart ssrc f w c part → many_reports part ≤ 1

-- a `max_wait` that a datagram sets is in the ranges of the stream
abbrev pub WaitsWithin : Type 0
WaitsWithin =
    (ssrc : ℕ) (f : Format) (w : FollowedWaits) (now : Ticks) (micros : Option ℕ) (datagram : Vec ℕ) (answer : StepAnswer) (wait : ℕ) (rest : List ReceiverCall)
    → IsPart ssrc f w (datagram_call now micros datagram answer) (follows wait ∷ rest) → IsInRange w wait

-- the edges of a stream follow a datagram that the stream took: it is the one that the answer shows
abbrev pub NotesWhatIsShown : Type 0
NotesWhatIsShown =
    (ssrc : ℕ) (f : Format) (w : FollowedWaits) (c : Call) (front : List ReceiverCall) (e : EdgesCall) (rest : List ReceiverCall)
    → IsPart ssrc f w c (front ++ notes e ∷ rest) → (now : Ticks) × (shown_in ssrc f.payload_type c ≡ receives now e.bytes e.received ∷ [])

-- they follow it right behind its receipt
abbrev pub NotesBehindReceipt : Type 0
NotesBehindReceipt =
    (ssrc : ℕ) (f : Format) (w : FollowedWaits) (c : Call) (front : List ReceiverCall) (e : EdgesCall) (rest : List ReceiverCall)
    → IsPart ssrc f w c (front ++ notes e ∷ rest) → (before : List ReceiverCall) × (now : Ticks) × (front ≡ before ++ receives now e.bytes e.received ∷ [])
