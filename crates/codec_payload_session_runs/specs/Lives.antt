-- Each stream of a session is a separate receiver.
use Rattle.std.specs.Prelude.{◌≡◌, ◌≤◌, ◌⊎◌, ℕ, suc, max, min, ◌==◌, ◌&&◌, not, if◌then◌else◌, Bool, true, false, List, [], ◌∷◌, ◌++◌, Option, Some, None, Result, Ok, Err}
use Rattle.std.specs.declared.alloc.AllocError.{AllocError}
use Rattle.codec_payload_base.specs.declared.wire.Ticks.{Ticks}
use Rattle.codec_payload_metadata.specs.Release.{Release}
use Rattle.codec_payload_jitter.specs.declared.outcome.Outcome.{Outcome}
use Rattle.codec_payload_jitter.specs.declared.waiting.WaitLimits.{WaitLimits}
use Rattle.codec_payload_rtp.specs.RtpPackets.{Packet}
use Rattle.codec_payload_rtp.specs.RtpReading.{rtp_at}
use Rattle.codec_payload_receiver.specs.Pops.{NamesFault, PopsGated, answer_of, is_large, is_too_large}
use Rattle.codec_payload_numbers.specs.Reports.{reported}
use Rattle.codec_payload_receiver.specs.Sessions.{Ends, ReceivesBytes, Session as Receiver}
use Rattle.codec_payload_receiver.specs.declared.pops.Popped.{Popped}
use Rattle.codec_payload_receiver.specs.declared.pops.Popped.TheVariants as popped
use Rattle.codec_payload_receiver.specs.declared.receiver.ReceiveError.{ReceiveError}
use Rattle.codec_payload_datagrams.specs.declared.kinds.Retransmission.{Retransmission}
use Rattle.codec_payload_feedback_wait.specs.Waits.{Wait}
use Rattle.codec_payload_feedback_wait.specs.declared.adaptive_wait.AdaptiveWaitSettings.{AdaptiveWaitSettings}
use Rattle.codec_payload_session_formats.specs.Formats.{is_video, limits_for}
use Rattle.codec_payload_session_requests.specs.Late.{late_for}
use Rattle.codec_payload_session_requests.specs.Named.{FollowsEdges, rules_for}
use Rattle.codec_payload_session_requests.specs.Requests.{Asking, feedback_by}
use Rattle.codec_payload_session_requests.specs.declared.requests.WaitRange.{WaitRange}
use Rattle.codec_payload_session.specs.Ports.{Session, new_session}
use Rattle.codec_payload_session_stream.specs.Streams.{Begins, is_no_memory, is_of}
use Rattle.codec_payload_session_formats.specs.declared.formats.Format.{Format}
use Rattle.codec_payload_session_formats.specs.declared.formats.SessionSettings.{SessionSettings}
use Rattle.codec_payload_session_stream.specs.declared.arrival.Arrival.{Arrival}
use Rattle.codec_payload_session_stream.specs.declared.arrival.Arrival.TheVariants as arrivals
use Rattle.codec_payload_session_stream.specs.Units.{Event}
use Rattle.codec_payload_session_stream.specs.declared.events.Event.TheVariants as events
use Rattle.codec_payload_session_stream.specs.declared.stream.Ending.{Ending}
use Rattle.codec_payload_session_stream.specs.declared.stream.StreamState.{StreamState}
use Rattle.codec_payload_stream_edges.specs.declared.followed.Followed.{Followed}
use Rattle.codec_payload_stream_edges.specs.declared.rules.EdgeRules.{EdgeRules}
use Rattle.codec_payload_session_runs.specs.SessionRuns.{Call, Runs}
use Rattle.codec_payload_session_runs.specs.declared.run.SessionStep.{SessionStep}
use Rattle.codec_payload_session_runs.specs.declared.run.SessionStep.TheVariants as steps
use Rattle.codec_payload_session_runs.specs.declared.run.StepAnswer.{StepAnswer}
use Rattle.codec_payload_session_runs.specs.declared.run.StepAnswer.TheVariants as answers

-- ---- a receiver alone

-- the edges of a stream's pictures follow a datagram (`StreamEdges::follow`): the rules, the datagram, what the receiver answered for it,
-- and the edges before and after
pub record EdgesCall : Type 0 where
  pub rules : EdgeRules
  pub bytes : List ℕ
  pub received : Result Outcome ReceiveError
  pub before : Option Followed
  pub after : Option Followed

-- a call of a receiver, with its answer: a datagram, a pop, the end of the stream, other wait limits, another `max_wait` alone, another
-- SSRC of retransmissions, a report, numbers that carry no media by the edges of the stream
pub data ReceiverCall : Type 0 where
  receives : Ticks → List ℕ → Result Outcome ReceiveError → ReceiverCall
  pops : Ticks → Option (Result (Popped Release) AllocError) → ReceiverCall
  finishes : ReceiverCall
  waits : WaitLimits → ReceiverCall
  follows : ℕ → ReceiverCall
  pairs : Option Retransmission → ReceiverCall
  reports : ReceiverCall
  notes : EdgesCall → ReceiverCall

abbrev pub DoesAlone : ReceiverCall → Receiver → Receiver → Type 0
DoesAlone (receives now bytes answer) r q = ReceivesBytes now bytes r answer q
DoesAlone (pops now answer) r q = PopsGated now.0 r (answer_of answer) q × NamesFault answer × (is_too_large answer ≡ is_large r.bound.most (answer_of answer))
DoesAlone finishes r q = Ends r q
DoesAlone (waits limits) r q = q ≡ record r { packets = record r.packets { wait_limits = limits } }
DoesAlone (follows wait) r q = q ≡ record r { packets = record r.packets { wait_limits = record r.packets.wait_limits { max_wait = Some wait } } }
DoesAlone (pairs retransmission) r q = q ≡ record r { stream = record r.stream { retransmission = retransmission } }
DoesAlone reports r q = q ≡ record r { reception = reported r.reception }
DoesAlone (notes e) r q = FollowsEdges e.rules e.bytes e.received e.before r e.after q

-- the calls of a receiver in order, and nothing else
abbrev pub RunsAlone : List ReceiverCall → Receiver → Receiver → Type 0
RunsAlone [] r q = q ≡ r
RunsAlone (c ∷ cs) r q = (mid : Receiver) × DoesAlone c r mid × RunsAlone cs mid q

-- ---- the edges of its pictures

-- a call of the edges is by these rules, and goes on from these edges
abbrev pub GoesOnFrom : EdgeRules → Option Followed → ReceiverCall → Type 0
GoesOnFrom k f (receives now bytes answer) = Unit {0}
GoesOnFrom k f (pops now answer) = Unit {0}
GoesOnFrom k f finishes = Unit {0}
GoesOnFrom k f (waits limits) = Unit {0}
GoesOnFrom k f (follows wait) = Unit {0}
GoesOnFrom k f (pairs retransmission) = Unit {0}
GoesOnFrom k f reports = Unit {0}
GoesOnFrom k f (notes e) = (e.rules ≡ k) × (e.before ≡ f)

abbrev pub edges_after : Option Followed → ReceiverCall → Option Followed
edges_after f (receives now bytes answer) = f
edges_after f (pops now answer) = f
edges_after f finishes = f
edges_after f (waits limits) = f
edges_after f (follows wait) = f
edges_after f (pairs retransmission) = f
edges_after f reports = f
edges_after f (notes e) = e.after

-- the edges of these calls follow one another by these rules, from the first edges on, and lead to the last ones
abbrev pub EdgesRun : EdgeRules → Option Followed → List ReceiverCall → Option Followed → Type 0
EdgesRun k f [] g = g ≡ f
EdgesRun k f (c ∷ cs) g = GoesOnFrom k f c × EdgesRun k (edges_after f c) cs g

-- a datagram, and what the receiver answered for it
abbrev pub Answered : Type 0
Answered = List ℕ × Result Outcome ReceiveError

abbrev pub answered_unless : (lost : Bool) → List ℕ → Result Outcome ReceiveError → Option Answered
answered_unless true bytes answer = None
answered_unless false bytes answer = Some (bytes, answer)

-- the datagram that the edges follow after this call: the call received it, and memory did not run out
abbrev pub to_follow : ReceiverCall → Option Answered
to_follow (receives now bytes answer) = answered_unless (is_no_memory answer) bytes answer
to_follow (pops now answer) = None
to_follow finishes = None
to_follow (waits limits) = None
to_follow (follows wait) = None
to_follow (pairs retransmission) = None
to_follow reports = None
to_follow (notes e) = None

-- the datagram that this call follows
abbrev pub followed_by : ReceiverCall → Option Answered
followed_by (receives now bytes answer) = None
followed_by (pops now answer) = None
followed_by finishes = None
followed_by (waits limits) = None
followed_by (follows wait) = None
followed_by (pairs retransmission) = None
followed_by reports = None
followed_by (notes e) = Some (e.bytes, e.received)

-- each datagram that was received is followed once, by the next call, and no other one is. `last` is the one that the call in front received
abbrev pub FollowEach : (last : Option Answered) → List ReceiverCall → Type 0
FollowEach last [] = last ≡ None
FollowEach last (c ∷ cs) = (last ≡ followed_by c) × FollowEach (to_follow c) cs

-- ---- what a call of the session is for the stream of an SSRC and payload type

abbrev pub is_same : ℕ → ℕ → ℕ → ℕ → Bool
is_same ssrc payload_type other_ssrc other_type = (other_ssrc == ssrc) && (other_type == payload_type)

abbrev pub one_call : Bool → ReceiverCall → List ReceiverCall
one_call true call = call ∷ []
one_call false call = []

abbrev pub given_by : (ssrc payload_type : ℕ) → Ticks → List ℕ → Result Arrival AllocError → List ReceiverCall
given_by ssrc payload_type now bytes (Ok (arrivals.Stream s p outcome)) = one_call (is_same ssrc payload_type s p) (receives now bytes (Ok outcome))
given_by ssrc payload_type now bytes (Ok (arrivals.Faulty s p fault)) = one_call (is_same ssrc payload_type s p) (receives now bytes (Err fault))
given_by ssrc payload_type now bytes (Ok arrivals.Rtcp) = []
given_by ssrc payload_type now bytes (Ok arrivals.Malformed) = []
given_by ssrc payload_type now bytes (Ok arrivals.Unknown) = []
given_by ssrc payload_type now bytes (Ok arrivals.Refused) = []
given_by ssrc payload_type now bytes (Ok arrivals.Unassociated) = []
given_by ssrc payload_type now bytes (Err e) = []

abbrev pub given_as : (ssrc payload_type : ℕ) → Ticks → List ℕ → StepAnswer → List ReceiverCall
given_as ssrc payload_type now bytes (answers.Received arrival) = given_by ssrc payload_type now bytes arrival
given_as ssrc payload_type now bytes (answers.Polled event) = []
given_as ssrc payload_type now bytes (answers.Reported block) = []
given_as ssrc payload_type now bytes (answers.PairAdded added) = []
given_as ssrc payload_type now bytes (answers.KeyframeAsked asked) = []
given_as ssrc payload_type now bytes answers.Done = []

-- the answer of a pop with a unit, or without memory for one
abbrev pub unit_or_memory : Result Release AllocError → Result (Popped Release) AllocError
unit_or_memory (Ok unit) = Ok (popped.Unit unit)
unit_or_memory (Err e) = Err e

abbrev pub released_by : (ssrc payload_type : ℕ) → Ticks → Option Event → List ReceiverCall
released_by ssrc payload_type now None = []
released_by ssrc payload_type now (Some (events.Begun s p)) = []
released_by ssrc payload_type now (Some (events.Unit s p time decodable keyframe unit)) = one_call (is_same ssrc payload_type s p) (pops now (Some (unit_or_memory unit)))
released_by ssrc payload_type now (Some (events.TooLarge s p unit)) = one_call (is_same ssrc payload_type s p) (pops now (Some (Ok (popped.TooLarge unit))))
released_by ssrc payload_type now (Some (events.Refused s p fault)) = one_call (is_same ssrc payload_type s p) (pops now (Some (Ok (popped.Refused fault))))
released_by ssrc payload_type now (Some (events.Feedback s p packet)) = []
released_by ssrc payload_type now (Some (events.Telephone s p time marker payload)) = []
released_by ssrc payload_type now (Some (events.Report packet)) = []
released_by ssrc payload_type now (Some (events.TransportFeedback packet)) = []
released_by ssrc payload_type now (Some (events.Ended s p why)) = []

abbrev pub released_as : (ssrc payload_type : ℕ) → Ticks → StepAnswer → List ReceiverCall
released_as ssrc payload_type now (answers.Polled event) = released_by ssrc payload_type now event
released_as ssrc payload_type now (answers.Received arrival) = []
released_as ssrc payload_type now (answers.Reported block) = []
released_as ssrc payload_type now (answers.PairAdded added) = []
released_as ssrc payload_type now (answers.KeyframeAsked asked) = []
released_as ssrc payload_type now answers.Done = []

abbrev pub shown_by : (ssrc payload_type : ℕ) → SessionStep → StepAnswer → List ReceiverCall
shown_by ssrc payload_type (steps.Receive now micros datagram) answer = given_as ssrc payload_type now datagram.items answer
shown_by ssrc payload_type (steps.Poll now) answer = released_as ssrc payload_type now answer
shown_by ssrc payload_type (steps.End now s) answer = []
shown_by ssrc payload_type (steps.Finish now) answer = []
shown_by ssrc payload_type (steps.SetWaitLimits s p limits) answer = []
shown_by ssrc payload_type (steps.Report now s p) answer = []
shown_by ssrc payload_type (steps.AddPair s retransmission) answer = []
shown_by ssrc payload_type (steps.RemovePair s) answer = []
shown_by ssrc payload_type (steps.RequestKeyframe s) answer = []
shown_by ssrc payload_type steps.RestartTransport answer = []

-- what the answer of a call shows of the stream: the datagram that it took, or the unit or refused frame that left it
abbrev pub shown_in : ℕ → ℕ → Call → List ReceiverCall
shown_in ssrc payload_type c = shown_by ssrc payload_type c.step c.answer

-- the datagrams that a run gave to the stream, and the units and refused frames of its events, in order
abbrev pub shown_of : ℕ → ℕ → List Call → List ReceiverCall
shown_of ssrc payload_type [] = []
shown_of ssrc payload_type (c ∷ cs) = shown_in ssrc payload_type c ++ shown_of ssrc payload_type cs

-- the first of the calls gave a datagram to the stream
abbrev pub StartsWithDatagram : ℕ → ℕ → List Call → Type 0
StartsWithDatagram ssrc payload_type [] = ⊥
StartsWithDatagram ssrc payload_type (c ∷ cs) =
    (now : Ticks) × (bytes : List ℕ) × (answer : Result Outcome ReceiveError) × (shown_in ssrc payload_type c ≡ receives now bytes answer ∷ [])

-- ---- the calls of the receiver that answers show: datagrams for which memory did not run out, and pops with a unit or a refused frame, or without memory

abbrev pub is_answer : Option (Result (Popped Release) AllocError) → Bool
is_answer None = false
is_answer (Some told) = true

abbrev pub is_shown : ReceiverCall → Bool
is_shown (receives now bytes answer) = not (is_no_memory answer)
is_shown (pops now answer) = is_answer answer
is_shown finishes = false
is_shown (waits limits) = false
is_shown (follows wait) = false
is_shown (pairs retransmission) = false
is_shown reports = false
is_shown (notes e) = false

abbrev pub with_shown : Bool → ReceiverCall → List ReceiverCall → List ReceiverCall
with_shown true c cs = c ∷ cs
with_shown false c cs = cs

abbrev pub shown : List ReceiverCall → List ReceiverCall
shown [] = []
shown (c ∷ cs) = with_shown (is_shown c) c (shown cs)

-- ---- what a call of the session makes of a receiver

-- the datagram is an RTP packet with the SSRC of these retransmissions
abbrev pub HasSsrcOf : List ℕ → Retransmission → Type 0
HasSsrcOf bytes retransmission = (packet : Packet) × (rtp_at bytes ≡ Ok packet) × (retransmission.ssrc ≡ packet.header.ssrc)

-- the answer to a datagram names a stream of this SSRC, or memory ran out for the datagram
abbrev pub NamesSsrc : ℕ → StepAnswer → Type 0
NamesSsrc ssrc (answers.Received (Ok (arrivals.Stream s p outcome))) = s ≡ ssrc
NamesSsrc ssrc (answers.Received (Ok (arrivals.Faulty s p fault))) = s ≡ ssrc
NamesSsrc ssrc (answers.Received (Ok arrivals.Rtcp)) = ⊥
NamesSsrc ssrc (answers.Received (Ok arrivals.Malformed)) = ⊥
NamesSsrc ssrc (answers.Received (Ok arrivals.Unknown)) = ⊥
NamesSsrc ssrc (answers.Received (Ok arrivals.Refused)) = ⊥
NamesSsrc ssrc (answers.Received (Ok arrivals.Unassociated)) = ⊥
NamesSsrc ssrc (answers.Received (Err e)) = Unit {0}
NamesSsrc ssrc (answers.Polled event) = ⊥
NamesSsrc ssrc (answers.Reported block) = ⊥
NamesSsrc ssrc (answers.PairAdded added) = ⊥
NamesSsrc ssrc (answers.KeyframeAsked asked) = ⊥
NamesSsrc ssrc answers.Done = ⊥

-- retransmissions with the SSRC of the datagram and the payload type that the format has for them; none exactly if the format has none
abbrev pub IsPairOf : Option ℕ → List ℕ → Option Retransmission → Type 0
IsPairOf again bytes None = again ≡ None
IsPairOf again bytes (Some own) = HasSsrcOf bytes own × (again ≡ Some own.payload_type)

-- retransmissions with that SSRC and the payload type that the format has for them; none exactly if the format has none
abbrev pub HasSsrc : ℕ → Option ℕ → Option Retransmission → Type 0
HasSsrc ssrc again None = again ≡ None
HasSsrc ssrc again (Some own) = (own.ssrc ≡ ssrc) × (again ≡ Some own.payload_type)

-- the event of a poll is a report
abbrev pub IsReportEvent : StepAnswer → Type 0
IsReportEvent (answers.Polled (Some (events.Report (Ok packet)))) = Unit {0}
IsReportEvent (answers.Polled (Some (events.Report (Err e)))) = ⊥
IsReportEvent (answers.Polled (Some (events.Begun s p))) = ⊥
IsReportEvent (answers.Polled (Some (events.Unit s p time decodable keyframe unit))) = ⊥
IsReportEvent (answers.Polled (Some (events.TooLarge s p unit))) = ⊥
IsReportEvent (answers.Polled (Some (events.Refused s p fault))) = ⊥
IsReportEvent (answers.Polled (Some (events.Feedback s p packet))) = ⊥
IsReportEvent (answers.Polled (Some (events.Telephone s p time marker payload))) = ⊥
IsReportEvent (answers.Polled (Some (events.TransportFeedback packet))) = ⊥
IsReportEvent (answers.Polled (Some (events.Ended s p why))) = ⊥
IsReportEvent (answers.Polled None) = ⊥
IsReportEvent (answers.Received arrival) = ⊥
IsReportEvent (answers.Reported block) = ⊥
IsReportEvent (answers.PairAdded added) = ⊥
IsReportEvent (answers.KeyframeAsked asked) = ⊥
IsReportEvent answers.Done = ⊥

-- the ranges in which the `max_wait` of a stream may follow the round trip, and how late missing packets arrive. None: it does not
pub record FollowedWaits : Type 0 where
  pub by_trip : Option WaitRange
  pub by_age : Option AdaptiveWaitSettings

abbrev pub trip_range : Option Asking → Option WaitRange
trip_range None = None
trip_range (Some asking) = asking.waits

abbrev pub age_range : Option Wait → Option AdaptiveWaitSettings
age_range None = None
age_range (Some wait) = Some wait.settings

abbrev pub waits_of : Option Asking → Option Wait → FollowedWaits
waits_of feedback late = record { by_trip = trip_range feedback; by_age = age_range late }

-- the ranges of a stream with this SSRC and format, by the settings of the session
abbrev pub waits_for : SessionSettings → ℕ → Format → FollowedWaits
waits_for settings ssrc f = waits_of (feedback_by settings.feedback ssrc f (limits_for settings (is_video f.spec.codec)).max_wait) (late_for settings f)

-- from the stream's own limit to the longest wait
abbrev pub IsInTrip : Option WaitRange → ℕ → Type 0
IsInTrip None wait = ⊥
IsInTrip (Some range) wait = (range.least ≤ wait) × (wait ≤ max range.most range.least)

-- from the shortest to the longest limit
abbrev pub IsInAge : Option AdaptiveWaitSettings → ℕ → Type 0
IsInAge None wait = ⊥
IsInAge (Some bounds) wait = (min bounds.shortest bounds.longest ≤ wait) × (wait ≤ bounds.longest)

abbrev pub IsInRange : FollowedWaits → ℕ → Type 0
IsInRange ranges wait = IsInTrip ranges.by_trip wait ⊎ IsInAge ranges.by_age wait

-- the answer of the call gives the stream a datagram
abbrev pub IsGiven : List ReceiverCall → Type 0
IsGiven [] = ⊥
IsGiven (c ∷ cs) = Unit {0}

-- What a call of the session, whose answer shows this of the stream with that SSRC and format, makes of the receiver of the stream. A
-- datagram is received at its time. If the stream takes it, `max_wait` may follow the round trip, or how late missing packets arrive, within the ranges of the stream. If it
-- is a retransmission whose stream is found, the answer names that stream, and the streams of its SSRC get the SSRC of the datagram. The edges follow the datagram that the
-- answer shows. A poll pops at its time, and may end the
-- stream first. If its event is a report, the poll may report the stream afterwards. A call for the wait limits or a report is passed on to the
-- stream that it names, and a pair to the streams of its SSRC
abbrev pub IsMadeAs : ℕ → Format → FollowedWaits → SessionStep → StepAnswer → List ReceiverCall → ReceiverCall → Type 0
IsMadeAs ssrc f w (steps.Receive now micros datagram) answer given (receives at bytes told) = (at ≡ now) × (bytes ≡ datagram.items)
IsMadeAs ssrc f w (steps.Receive now micros datagram) answer given (follows wait) = IsGiven given × IsInRange w wait
IsMadeAs ssrc f w (steps.Receive now micros datagram) answer given (pairs own) = NamesSsrc ssrc answer × IsPairOf f.retransmission datagram.items own
IsMadeAs ssrc f w (steps.Receive now micros datagram) answer given (notes e) = given ≡ receives now e.bytes e.received ∷ []
IsMadeAs ssrc f w (steps.Poll now) answer given (pops at told) = at ≡ now
IsMadeAs ssrc f w (steps.Poll now) answer given finishes = Unit {0}
IsMadeAs ssrc f w (steps.Poll now) answer given reports = IsReportEvent answer
IsMadeAs ssrc f w (steps.SetWaitLimits s p limits) answer given (waits own) = (is_same ssrc f.payload_type s p ≡ true) × (own ≡ limits)
IsMadeAs ssrc f w (steps.Report now s p) answer given reports = is_same ssrc f.payload_type s p ≡ true
IsMadeAs ssrc f w (steps.AddPair s retransmission) answer given (pairs own) = (s ≡ ssrc) × HasSsrc retransmission f.retransmission own
IsMadeAs ssrc f w (steps.RemovePair s) answer given (pairs own) = (s ≡ ssrc) × (own ≡ None)
IsMadeAs ssrc f w _ answer given _ = ⊥

abbrev pub IsMadeBy : ℕ → Format → FollowedWaits → Call → ReceiverCall → Type 0
IsMadeBy ssrc f w c call = IsMadeAs ssrc f w c.step c.answer (shown_in ssrc f.payload_type c) call

abbrev pub AreMadeBy : ℕ → Format → FollowedWaits → Call → List ReceiverCall → Type 0
AreMadeBy ssrc f w c [] = Unit {0}
AreMadeBy ssrc f w c (own ∷ rest) = IsMadeBy ssrc f w c own × AreMadeBy ssrc f w c rest

abbrev pub is_pop : ReceiverCall → Bool
is_pop (receives now bytes answer) = false
is_pop (pops now answer) = true
is_pop finishes = false
is_pop (waits limits) = false
is_pop (follows wait) = false
is_pop (pairs retransmission) = false
is_pop reports = false
is_pop (notes e) = false

abbrev pub one_more : Bool → ℕ → ℕ
one_more true n = suc n
one_more false n = n

abbrev pub many_pops : List ReceiverCall → ℕ
many_pops [] = 0
many_pops (c ∷ cs) = one_more (is_pop c) (many_pops cs)

abbrev pub is_finish : ReceiverCall → Bool
is_finish (receives now bytes answer) = false
is_finish (pops now answer) = false
is_finish finishes = true
is_finish (waits limits) = false
is_finish (follows wait) = false
is_finish (pairs retransmission) = false
is_finish reports = false
is_finish (notes e) = false

abbrev pub many_finishes : List ReceiverCall → ℕ
many_finishes [] = 0
many_finishes (c ∷ cs) = one_more (is_finish c) (many_finishes cs)

abbrev pub is_report : ReceiverCall → Bool
is_report (receives now bytes answer) = false
is_report (pops now answer) = false
is_report finishes = false
is_report (waits limits) = false
is_report (follows wait) = false
is_report (pairs retransmission) = false
is_report reports = true
is_report (notes e) = false

abbrev pub many_reports : List ReceiverCall → ℕ
many_reports [] = 0
many_reports (c ∷ cs) = one_more (is_report c) (many_reports cs)

abbrev pub is_pair : ReceiverCall → Bool
is_pair (receives now bytes answer) = false
is_pair (pops now answer) = false
is_pair finishes = false
is_pair (waits limits) = false
is_pair (follows wait) = false
is_pair (pairs retransmission) = true
is_pair reports = false
is_pair (notes e) = false

abbrev pub HasNoPair : List ReceiverCall → Type 0
HasNoPair [] = Unit {0}
HasNoPair (c ∷ cs) = (is_pair c ≡ false) × HasNoPair cs

-- at most one pair, in front of the other calls
abbrev pub IsPairFirst : List ReceiverCall → Type 0
IsPairFirst [] = Unit {0}
IsPairFirst (c ∷ cs) = HasNoPair cs

-- what one call makes of the receiver of a stream: what its answer shows, at most one pop, at most one end, at most one report, at most one pair, in front
-- of the rest, the edges right behind a datagram, and nothing that this call cannot make of this stream
pub record IsPart (ssrc : ℕ) (f : Format) (w : FollowedWaits) (c : Call) (part : List ReceiverCall) : Type 0 where
  pub made : AreMadeBy ssrc f w c part
  pub one_pop : many_pops part ≤ 1
  pub one_end : many_finishes part ≤ 1
  pub one_report : many_reports part ≤ 1
  pub pair_first : IsPairFirst part
  pub follow_each : FollowEach None part
  pub shows : shown part ≡ shown_in ssrc f.payload_type c

-- the projection of a run to the receiver of a stream: for each call its part, in order
abbrev pub Projects : ℕ → Format → FollowedWaits → List Call → List ReceiverCall → Type 0
Projects ssrc f w [] own = own ≡ []
Projects ssrc f w (c ∷ cs) own =
    (part : List ReceiverCall) × (rest : List ReceiverCall) × (own ≡ part ++ rest) × IsPart ssrc f w c part × Projects ssrc f w cs rest

-- ---- events

abbrev pub one_event : Bool → Event → List Event
one_event true event = event ∷ []
one_event false event = []

abbrev pub events_by : (ssrc payload_type : ℕ) → Option Event → List Event
events_by ssrc payload_type None = []
events_by ssrc payload_type (Some (events.Begun s p)) = one_event (is_same ssrc payload_type s p) (events.Begun s p)
events_by ssrc payload_type (Some (events.Unit s p time decodable keyframe unit)) = one_event (is_same ssrc payload_type s p) (events.Unit s p time decodable keyframe unit)
events_by ssrc payload_type (Some (events.TooLarge s p unit)) = one_event (is_same ssrc payload_type s p) (events.TooLarge s p unit)
events_by ssrc payload_type (Some (events.Refused s p fault)) = one_event (is_same ssrc payload_type s p) (events.Refused s p fault)
events_by ssrc payload_type (Some (events.Feedback s p packet)) = one_event (is_same ssrc payload_type s p) (events.Feedback s p packet)
events_by ssrc payload_type (Some (events.Telephone s p time marker payload)) = []
events_by ssrc payload_type (Some (events.Report packet)) = []
events_by ssrc payload_type (Some (events.TransportFeedback packet)) = []
events_by ssrc payload_type (Some (events.Ended s p why)) = one_event (is_same ssrc payload_type s p) (events.Ended s p why)

abbrev pub events_in : (ssrc payload_type : ℕ) → StepAnswer → List Event
events_in ssrc payload_type (answers.Polled event) = events_by ssrc payload_type event
events_in ssrc payload_type (answers.Received arrival) = []
events_in ssrc payload_type (answers.Reported block) = []
events_in ssrc payload_type (answers.PairAdded added) = []
events_in ssrc payload_type (answers.KeyframeAsked asked) = []
events_in ssrc payload_type answers.Done = []

-- the events of the streams with this SSRC and payload type
abbrev pub events_of : ℕ → ℕ → List Call → List Event
events_of ssrc payload_type [] = []
events_of ssrc payload_type (c ∷ cs) = events_in ssrc payload_type c.answer ++ events_of ssrc payload_type cs

-- the events in order: a stream is announced before its other events, and not twice; after its end a later stream may be. Says
-- whether a stream is announced before the events, and after them
abbrev pub AreInOrder : Bool → List Event → Bool → Type 0
AreInOrder announced [] after = after ≡ announced
AreInOrder announced (events.Begun s p ∷ es) after = (announced ≡ false) × AreInOrder true es after
AreInOrder announced (events.Unit s p time decodable keyframe unit ∷ es) after = (announced ≡ true) × AreInOrder true es after
AreInOrder announced (events.TooLarge s p unit ∷ es) after = (announced ≡ true) × AreInOrder true es after
AreInOrder announced (events.Refused s p fault ∷ es) after = (announced ≡ true) × AreInOrder true es after
AreInOrder announced (events.Feedback s p packet ∷ es) after = (announced ≡ true) × AreInOrder true es after
AreInOrder announced (events.Ended s p why ∷ es) after = (announced ≡ true) × AreInOrder false es after
AreInOrder announced (events.Telephone s p time marker payload ∷ es) after = ⊥
AreInOrder announced (events.Report packet ∷ es) after = ⊥
AreInOrder announced (events.TransportFeedback packet ∷ es) after = ⊥

-- the same, without an end
abbrev pub AreOfOne : Bool → List Event → Bool → Type 0
AreOfOne announced [] after = after ≡ announced
AreOfOne announced (events.Begun s p ∷ es) after = (announced ≡ false) × AreOfOne true es after
AreOfOne announced (events.Unit s p time decodable keyframe unit ∷ es) after = (announced ≡ true) × AreOfOne true es after
AreOfOne announced (events.TooLarge s p unit ∷ es) after = (announced ≡ true) × AreOfOne true es after
AreOfOne announced (events.Refused s p fault ∷ es) after = (announced ≡ true) × AreOfOne true es after
AreOfOne announced (events.Feedback s p packet ∷ es) after = (announced ≡ true) × AreOfOne true es after
AreOfOne announced (events.Ended s p why ∷ es) after = ⊥
AreOfOne announced (events.Telephone s p time marker payload ∷ es) after = ⊥
AreOfOne announced (events.Report packet ∷ es) after = ⊥
AreOfOne announced (events.TransportFeedback packet ∷ es) after = ⊥

-- ---- streams

-- no stream has this SSRC and payload type
abbrev pub IsAbsent : ℕ → ℕ → List StreamState → Type 0
IsAbsent ssrc payload_type [] = Unit {0}
IsAbsent ssrc payload_type (s ∷ ss) = (is_of ssrc payload_type s ≡ false) × IsAbsent ssrc payload_type ss

-- a stream of a session is a receiver alone. The run is cut in front of the datagram with which the stream began. The session had no
-- such stream there, and the settings of the run, except for pairs of SSRCs. The receiver was then a new one, with the settings of
-- its format and its SSRC. From there on it made exactly the calls of the projection. They show the datagrams that answers give to
-- its SSRC and payload type, and the units and refused frames of its events, in order. The edges of its pictures follow one another from none on. Its
-- announcement is the first of its events, and none of them is an end
pub record IsAlone (settings : SessionSettings) (calls : List Call) (ssrc : ℕ) (f : Format) (announced : Bool) (r : Receiver) : Type 0 where
  pub before : List Call
  pub during : List Call
  pub whole : calls ≡ before ++ during
  pub starts : StartsWithDatagram ssrc f.payload_type during
  pub reached : Session
  pub reaches : Runs before (new_session settings) reached
  pub absent : IsAbsent ssrc f.payload_type reached.port.streams
  pub pairs_alone : reached.settings ≡ record settings { pairs = reached.settings.pairs }
  pub fresh : StreamState
  pub begins : Begins reached.settings ssrc f fresh
  pub own : List ReceiverCall
  pub alone : RunsAlone own fresh.receiver r
  pub edges : Option Followed
  pub edged : EdgesRun (rules_for f settings.dependency_descriptor) None own edges
  pub projects : Projects ssrc f (waits_for settings ssrc f) during own
  pub shows : shown own ≡ shown_of ssrc f.payload_type during
  pub tells : AreOfOne false (events_of ssrc f.payload_type during) announced

abbrev pub EachIsAlone : SessionSettings → List Call → List StreamState → Type 0
EachIsAlone settings calls [] = Unit {0}
EachIsAlone settings calls (s ∷ ss) = IsAlone settings calls s.ssrc s.format s.announced s.receiver × EachIsAlone settings calls ss

-- whether a stream with this SSRC and payload type is announced
abbrev pub is_announced : ℕ → ℕ → List StreamState → Bool
is_announced ssrc payload_type [] = false
is_announced ssrc payload_type (s ∷ ss) = if is_of ssrc payload_type s then s.announced else is_announced ssrc payload_type ss

-- the events of each SSRC and payload type are in order
abbrev pub TellsInOrder : List Call → List StreamState → Type 0
TellsInOrder calls ss = (ssrc payload_type : ℕ) → AreInOrder false (events_of ssrc payload_type calls) (is_announced ssrc payload_type ss)

-- the poll whose event is the end of a stream
abbrev pub ending_poll : Ticks → ℕ → ℕ → Ending → Call
ending_poll now ssrc payload_type why = record { step = steps.Poll now; answer = answers.Polled (Some (events.Ended ssrc payload_type why)) }

-- the stream that ended with the poll after these calls: until then it was alone, and the poll made no unit of it
pub record EndedAlone (settings : SessionSettings) (before : List Call) (now : Ticks) (ssrc payload_type : ℕ) (why : Ending) : Type 0 where
  pub format : Format
  pub has_type : format.payload_type ≡ payload_type
  pub receiver : Receiver
  pub alone : IsAlone settings before ssrc format true receiver
  pub last : Receiver
  pub part : List ReceiverCall
  pub run : RunsAlone part receiver last
  pub made : AreMadeBy ssrc format (waits_for settings ssrc format) (ending_poll now ssrc payload_type why) part
  pub one_pop : many_pops part ≤ 1
  pub one_end : many_finishes part ≤ 1
  pub one_report : many_reports part ≤ 1
  pub no_unit : shown part ≡ []
  pub follow_each : FollowEach None part
  pub edges : Option Followed
  pub edged : EdgesRun (rules_for format settings.dependency_descriptor) alone.edges part edges

-- each stream whose end is an event of the run
abbrev pub EachEndedAlone : SessionSettings → List Call → Type 0
EachEndedAlone settings calls =
    (before after : List Call) (now : Ticks) (ssrc payload_type : ℕ) (why : Ending) → calls ≡ before ++ ending_poll now ssrc payload_type why ∷ after
    → EndedAlone settings before now ssrc payload_type why
