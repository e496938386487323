-- One stream of a session: the datagrams and calls that its receiver gets, and when the stream begins and ends.
use Rattle.std.specs.Prelude.{◌≡◌, ℕ, min, ◌+◌, ◌-◌, ◌%◌, ◌^◌, ◌==◌, ◌&&◌, not, nat_lt, nat_le, if◌then◌else◌, is_ok, Bool, true, false, List, [], ◌∷◌, Option, Some, None, Result, Ok, Err, length, map}
use Rattle.std.specs.Global.{Vec}
use Rattle.std.specs.declared.alloc.AllocError.{AllocError}
use Rattle.codec_payload_base.specs.declared.wire.Ticks.{Ticks}
use Rattle.codec_payload_codec.specs.Depacketizers.{DepacketizerState, configured_depacketizer, depacketizer_state_for}
use Rattle.codec_payload_metadata.specs.Release.{Release}
use Rattle.codec_payload_feedback_wait.specs.Waits.{Wait}
use Rattle.codec_payload_jitter.specs.Missing.{missing_numbers}
use Rattle.codec_payload_jitter.specs.Receiving.{deadline_of, next}
use Rattle.codec_payload_jitter.specs.declared.outcome.Outcome.{Outcome}
use Rattle.codec_payload_jitter.specs.declared.waiting.WaitLimits.{WaitLimits}
use Rattle.codec_payload_jitter.specs.declared.outcome.Outcome.TheVariants as outcomes
use Rattle.codec_payload_receiver.specs.Bounds.{counters_with}
use Rattle.codec_payload_receiver.specs.Pops.{NamesFault, PopsGated, answer_of, is_large, is_too_large}
use Rattle.codec_payload_receiver.specs.Sessions.{Ends, ReceivesBytes, Session as Receiver, session_by}
use Rattle.codec_payload_receiver.specs.declared.pops.Popped.{Popped}
use Rattle.codec_payload_receiver.specs.declared.pops.Popped.TheVariants as popped
use Rattle.codec_payload_receiver.specs.declared.receiver.Counters.{Counters}
use Rattle.codec_payload_receiver.specs.declared.receiver.ReceiveError.{ReceiveError}
use Rattle.codec_payload_receiver.specs.declared.receiver.ReceiveError.TheVariants as errors
use Rattle.codec_payload_receiver.specs.declared.receiver.Settings.{Settings}
use Rattle.codec_payload_rtp.specs.RtpPackets.{Packet}
use Rattle.codec_payload_rtp.specs.RtpReading.{rtp_at}
use Rattle.codec_payload_rtp.specs.declared.rtp.RtpError.{RtpError}
use Rattle.codec_payload_session_formats.specs.Formats.{HasSettings, is_video, limits_for}
use Rattle.codec_payload_session_requests.specs.Named.{FollowsEdges, rules_for}
use Rattle.codec_payload_session_requests.specs.Probes.{Probes, noted as probes_noted, packets_without, probes_for, probes_of}
use Rattle.codec_payload_session_requests.specs.Late.{late_after, late_for, limit_by, number_at as late_number}
use Rattle.codec_payload_session_formats.specs.Names.{are_of_one, names_after, no_names}
use Rattle.codec_payload_session_requests.specs.Requests.{Asking, Asks, answer_by, answered_if, asked_by, feedback_by, heard_by, is_heard, number_at, reported_by, request_counts_of, requests_due, round_trip_of, wait_by}
use Rattle.codec_payload_session_formats.specs.declared.formats.Format.{Format}
use Rattle.codec_payload_session_formats.specs.declared.formats.SessionSettings.{SessionSettings}
use Rattle.codec_payload_session_requests.specs.declared.requests.KeyframeAnswer.{KeyframeAnswer}
use Rattle.codec_payload_session_requests.specs.declared.requests.KeyframeAnswer.TheVariants as answers
use Rattle.codec_payload_session_formats.specs.declared.names.StreamNameIds.{StreamNameIds}
use Rattle.codec_payload_session_formats.specs.declared.names.StreamNames.{StreamNames}
use Rattle.codec_payload_stream_edges.specs.declared.followed.Followed.{Followed}
use Rattle.codec_payload_stream_edges.specs.declared.rules.EdgeRules.{EdgeRules}
use Rattle.codec_payload_session_stream.specs.declared.stream.Ending.{Ending}
use Rattle.codec_payload_session_stream.specs.declared.stream.Ending.TheVariants as endings
use Rattle.codec_payload_session_stream.specs.declared.stream.Stage.{Stage}
use Rattle.codec_payload_session_stream.specs.declared.stream.Stage.TheVariants as stages
use Rattle.codec_payload_session_stream.specs.Units.{Step}
use Rattle.codec_payload_session_stream.specs.declared.stream.Step.{Step as StepWith}
use Rattle.codec_payload_session_stream.specs.declared.stream.Step.TheVariants as steps
use Rattle.codec_payload_session_stream.specs.declared.reports.SenderClock.{SenderClock}
use Rattle.codec_payload_session_stream.specs.declared.stream.StreamInfo.{StreamInfo}

-- the edges of a stream's pictures, and the id of the header extension element with its dependency descriptor
pub record Edges : Type 0 where
  pub descriptor : Option ℕ
  pub followed : Option Followed

-- a stream, as contracts see it: its SSRC and format; its receiver; the edges of its pictures; its stage; whether it was announced; how many datagrams it
-- took, how many of them were accepted, and how many bytes of payload they had; when the latest one arrived; what it requests; which of its retransmissions are of
-- packets that came before; how late its missing packets arrive, if waiting follows that; the clock of its sender; whether this round of reports had a block about it; which header extensions have its
-- names, and the names that its accepted packets had
pub record StreamState : Type 0 where
  pub ssrc : ℕ
  pub format : Format
  pub receiver : Receiver
  pub edges : Edges
  pub stage : Stage
  pub announced : Bool
  pub taken : ℕ
  pub accepted : ℕ
  pub bytes : ℕ
  pub last : ℕ
  pub feedback : Option Asking
  pub probes : Option Probes
  pub late : Option Wait
  pub sender_clock : Option SenderClock
  pub was_reported : Bool
  pub name_ids : StreamNameIds
  pub names : StreamNames

-- the stream has this SSRC and payload type
abbrev pub is_of : ℕ → ℕ → StreamState → Bool
is_of ssrc payload_type s = (s.ssrc == ssrc) && (s.format.payload_type == payload_type)

-- a stream without datagrams; its receiver is a new one with the stream's settings, no edges are known, nothing was requested, no
-- sender report arrived, and it has no names
pub record Begins (settings : SessionSettings) (ssrc : ℕ) (f : Format) (s : StreamState) : Type 0 where
  pub ssrc_is : s.ssrc ≡ ssrc
  pub format : s.format ≡ f
  pub edges : s.edges ≡ record { descriptor = settings.dependency_descriptor; followed = None }
  pub stage : s.stage ≡ stages.Probation
  pub announced : s.announced ≡ false
  pub taken : s.taken ≡ 0
  pub accepted : s.accepted ≡ 0
  pub bytes : s.bytes ≡ 0
  pub last : s.last ≡ 0
  pub feedback : s.feedback ≡ feedback_by settings.feedback ssrc f (limits_for settings (is_video f.spec.codec)).max_wait
  pub probes : s.probes ≡ probes_for f
  pub late : s.late ≡ late_for settings f
  pub sender_clock : s.sender_clock ≡ None
  pub was_reported : s.was_reported ≡ false
  pub name_ids : s.name_ids ≡ settings.name_ids
  pub names : s.names ≡ no_names
  pub depacketizer : DepacketizerState
  pub known : depacketizer_state_for f.spec.codec ≡ Some depacketizer
  pub receiver_settings : Settings
  pub has_settings : HasSettings settings ssrc f receiver_settings
  pub receiver : session_by receiver_settings (configured_depacketizer f.spec.octet_align f.spec.clock_rate depacketizer) ≡ Ok s.receiver

-- ---- datagrams

abbrev pub is_no_memory : Result Outcome ReceiveError → Bool
is_no_memory (Ok outcome) = false
is_no_memory (Err (errors.Rtp e)) = false
is_no_memory (Err errors.Red) = false
is_no_memory (Err errors.Retransmission) = false
is_no_memory (Err errors.OutOfMemory) = true
is_no_memory (Err errors.BlocksOutOfMemory) = false

-- the packet was stored or has no media, so it counts for the end of probation
abbrev pub is_accepted : Result Outcome ReceiveError → Bool
is_accepted (Ok outcomes.Held) = true
is_accepted (Ok outcomes.HeldAndEvicted) = true
is_accepted (Ok (outcomes.Restarted with_kept)) = true
is_accepted (Ok outcomes.NoMedia) = true
is_accepted (Ok outcomes.Duplicate) = false
is_accepted (Ok outcomes.Late) = false
is_accepted (Ok outcomes.Suspect) = false
is_accepted (Ok outcomes.OtherStream) = false
is_accepted (Ok outcomes.Undecided) = false
is_accepted (Ok outcomes.Rtcp) = false
is_accepted (Err e) = false

abbrev pub is_probation : Stage → Bool
is_probation stages.Probation = true
is_probation stages.Playing = false
is_probation (stages.Leaving why at) = false
is_probation (stages.Draining why) = false

abbrev pub accepted_after : Bool → ℕ → ℕ
accepted_after true n = min (n + 1) (2 ^ 64 - 1)
accepted_after false n = n

-- probation ends once `probation` packets were accepted
abbrev pub stage_after : ℕ → ℕ → Stage → Stage
stage_after probation accepted stage = if is_probation stage && nat_le probation accepted then stages.Playing else stage

-- the number of bytes of payload of a packet, without padding
abbrev pub payload_size : Result Packet RtpError → ℕ
payload_size (Ok p) = length p.payload
payload_size (Err e) = 0

-- one more datagram was received at this time
abbrev pub heard : ℕ → ℕ → Bool → ℕ → StreamState → StreamState
heard now probation accepted size s = record s {
  taken = next s.taken;
  bytes = (s.bytes + size) % 2 ^ 64;
  last = now;
  accepted = accepted_after accepted s.accepted;
  stage = stage_after probation (accepted_after accepted s.accepted) s.stage;
}

abbrev pub heard_unless : Bool → ℕ → ℕ → Bool → ℕ → StreamState → StreamState
heard_unless true now probation accepted size s = s
heard_unless false now probation accepted size s = heard now probation accepted size s

-- frames wait for at most that time
abbrev pub waiting_for : Option ℕ → StreamState → StreamState
waiting_for None s = s
waiting_for (Some wait) s = record s {
  receiver = record s.receiver { packets = record s.receiver.packets { wait_limits = record s.receiver.packets.wait_limits { max_wait = Some wait } } };
}

-- waiting follows the round trip
abbrev pub following : StreamState → StreamState
following s = waiting_for (wait_by s.feedback) s

-- waiting follows how late missing packets arrive, if the format says so: by each datagram that the receiver accepted or dropped
abbrev pub late_noted : ℕ → List ℕ → StreamState → StreamState
late_noted now bytes s = record s { late = late_after now (late_number s.format bytes) (missing_numbers s.receiver.packets 64) s.late }

abbrev pub late_followed : Bool → ℕ → List ℕ → StreamState → StreamState
late_followed false now bytes s = s
late_followed true now bytes s = waiting_for (limit_by (late_noted now bytes s).late) (late_noted now bytes s)

-- the number of an accepted packet may answer a request, which measures the round trip, and its header extension may have names
abbrev pub received : ℕ → List ℕ → Bool → Receiver → StreamState → StreamState
received now bytes true r s = following (record s { receiver = r; feedback = heard_by now (number_at s.format bytes) s.feedback; names = names_after s.name_ids bytes s.names })
received now bytes false r s = record s { receiver = r }

-- a retransmission of a number that came before is counted apart
abbrev pub probed : List ℕ → Result Outcome ReceiveError → StreamState → StreamState
probed bytes answer s = record s { probes = probes_noted s.format bytes answer s.probes }

-- how packets of the stream say where pictures begin and end
abbrev pub edge_rules_of : StreamState → EdgeRules
edge_rules_of s = rules_for s.format s.edges.descriptor

-- the stream with this receiver and these edges
abbrev pub with_edges : Receiver → Option Followed → StreamState → StreamState
with_edges r followed s = record s { receiver = r; edges = record s.edges { followed = followed } }

-- the edges follow a datagram that the receiver answered so: the receiver notes which numbers carry no media
abbrev pub FollowsDatagram : List ℕ → Result Outcome ReceiveError → StreamState → StreamState → Type 0
FollowsDatagram bytes answer s t = FollowsEdges (edge_rules_of s) bytes answer s.edges.followed s.receiver t.edges.followed t.receiver × (t ≡ with_edges t.receiver t.edges.followed s)

-- the receiver receives the datagram, and then the edges follow it
pub record Hears (now : Ticks) (bytes : List ℕ) (s : StreamState) (answer : Result Outcome ReceiveError) (r : Receiver) (followed : Option Followed) : Type 0 where
  pub mid : Receiver
  pub receives : ReceivesBytes now bytes s.receiver answer mid
  pub follows : FollowsEdges (edge_rules_of s) bytes answer s.edges.followed mid followed r

-- the receiver receives the datagram, its number is noted, and the edges follow it; if memory runs out for it, nothing is counted
abbrev pub Takes : Ticks → ℕ → List ℕ → StreamState → Result Outcome ReceiveError → StreamState → Type 0
Takes now probation bytes s answer t =
    (r : Receiver) × (followed : Option Followed) × Hears now bytes s answer r followed
    × (t ≡ heard_unless (is_no_memory answer) now.0 probation (is_accepted answer) (payload_size (rtp_at bytes)) (late_followed (is_ok answer) now.0 bytes (received now.0 bytes (is_accepted answer) r (with_edges r followed (probed bytes answer s)))))

-- the stream is announced, and has the names of this sender under another SSRC
abbrev pub is_former : ℕ → StreamNames → StreamState → Bool
is_former ssrc names s = s.announced && not (s.ssrc == ssrc) && are_of_one names s.names

-- ---- the end

-- an earlier end stays
abbrev pub stage_left : Ending → ℕ → Stage → Stage
stage_left why at stages.Probation = stages.Leaving why at
stage_left why at stages.Playing = stages.Leaving why at
stage_left why at (stages.Leaving first before) = stages.Leaving first (min before at)
stage_left why at (stages.Draining first) = stages.Draining first

abbrev pub left : Ending → ℕ → StreamState → StreamState
left why at s = record s { stage = stage_left why at s.stage }

abbrev pub left_when : Bool → Ending → ℕ → StreamState → StreamState
left_when true why at s = left why at s
left_when false why at s = s

-- the wait limits of the stream are replaced, if it has this SSRC and payload type
abbrev pub waiting_when : Bool → WaitLimits → StreamState → StreamState
waiting_when true limits s = record s { receiver = record s.receiver { packets = record s.receiver.packets { wait_limits = limits } } }
waiting_when false limits s = s

abbrev pub waiting_if : ℕ → ℕ → WaitLimits → StreamState → StreamState
waiting_if ssrc payload_type limits s = waiting_when (is_of ssrc payload_type s) limits s

abbrev pub waiting_where : ℕ → ℕ → WaitLimits → List StreamState → List StreamState
waiting_where ssrc payload_type limits ss = map (waiting_if ssrc payload_type limits) ss

-- reports say this round trip of the stream with this SSRC and payload type, and waiting follows it
abbrev pub trip_when : Bool → Option ℕ → StreamState → StreamState
trip_when true round_trip s = following (record s { feedback = reported_by round_trip s.feedback })
trip_when false round_trip s = s

abbrev pub trip_if : ℕ → ℕ → Option ℕ → StreamState → StreamState
trip_if ssrc payload_type round_trip s = trip_when (is_of ssrc payload_type s) round_trip s

abbrev pub trips_where : ℕ → ℕ → Option ℕ → List StreamState → List StreamState
trips_where ssrc payload_type round_trip ss = map (trip_if ssrc payload_type round_trip) ss

-- why the stream ends at this time, if it does
abbrev pub end_by : ℕ → ℕ → ℕ → Stage → Option Ending
end_by now idle last stages.Probation = None
end_by now idle last stages.Playing = if nat_le idle (now - last) then Some endings.Timeout else None
end_by now idle last (stages.Leaving why at) = if nat_le at now then Some why else None
end_by now idle last (stages.Draining why) = None

abbrev pub end_of : ℕ → ℕ → StreamState → Option Ending
end_of now idle s = end_by now idle s.last s.stage

-- the receiver is finished, so that pops wait for nothing
abbrev pub Drains : Option Ending → StreamState → StreamState → Type 0
Drains None s t = t ≡ s
Drains (Some why) s t = (r : Receiver) × Ends s.receiver r × (t ≡ record s { receiver = r; stage = stages.Draining why })

-- ---- events

-- the packet with the requests that are due, if there are any; or memory ran out, and they stay due
abbrev pub step_of : {U : Type 0} → Result (Option (Vec ℕ)) AllocError → StepWith U
step_of (Ok None) = steps.Nothing
step_of (Ok (Some packet)) = steps.Feedback (Ok packet)
step_of (Err e) = steps.Feedback (Err e)

pub record RequestsWith {U : Type 0} (now : ℕ) (a : Asking) (s : StreamState) (answer : StepWith U) (t : StreamState) : Type 0 where
  pub told : Result (Option (Vec ℕ)) AllocError
  pub asking : Asking
  pub asks : Asks now (is_heard now s.last a) s.receiver a told asking
  pub answers : answer ≡ step_of told
  pub after : t ≡ record s { feedback = Some asking }

-- a stream without settings of requests requests nothing
abbrev pub RequestsBy : {U : Type 0} → Option Asking → ℕ → StreamState → StepWith U → StreamState → Type 0
RequestsBy None now s answer t = (answer ≡ steps.Nothing) × (t ≡ s)
RequestsBy (Some a) now s answer t = RequestsWith now a s answer t

-- a stream without a unit: while it plays it requests what it misses, and once it is drained it ends
abbrev pub RestsBy : {U : Type 0} → Stage → ℕ → StreamState → StepWith U → StreamState → Type 0
RestsBy stages.Probation now s answer t = (answer ≡ steps.Nothing) × (t ≡ s)
RestsBy stages.Playing now s answer t = RequestsBy s.feedback now s answer t
RestsBy (stages.Leaving why at) now s answer t = (answer ≡ steps.Nothing) × (t ≡ s)
RestsBy (stages.Draining why) now s answer t = (answer ≡ steps.Ended why) × (t ≡ s)

-- a unit, or memory ran out for it, or a unit above the bound, or a refused frame
abbrev pub step_with : {U : Type 0} → Result (Popped U) AllocError → StepWith U
step_with (Ok (popped.Unit unit)) = steps.Unit (Ok unit)
step_with (Ok (popped.TooLarge unit)) = steps.TooLarge unit
step_with (Ok (popped.Refused fault)) = steps.Refused fault
step_with (Err e) = steps.Unit (Err e)

-- the answer is a unit, which the receiver finds to be a keyframe
abbrev pub is_keyframe : {U : Type 0} → Result (Popped U) AllocError → Receiver → Bool
is_keyframe (Ok (popped.Unit unit)) r = r.gates.is_keyframe
is_keyframe (Ok (popped.TooLarge unit)) r = false
is_keyframe (Ok (popped.Refused fault)) r = false
is_keyframe (Err e) r = false

-- a keyframe that is released is the one that was asked for
abbrev pub Follows : Option (Result (Popped Release) AllocError) → ℕ → StreamState → Step → StreamState → Type 0
Follows None now s answer t = RestsBy s.stage now s answer t
Follows (Some told) now s answer t = (answer ≡ step_with told) × (t ≡ record s { feedback = answered_if (is_keyframe told s.receiver) s.feedback })

-- the answer of a pop of the stream's receiver; without a unit, what follows from the receiver after that pop
pub record Pops (now : Ticks) (s : StreamState) (answer : Step) (t : StreamState) : Type 0 where
  pub told : Option (Result (Popped Release) AllocError)
  pub receiver : Receiver
  pub pops : PopsGated now.0 s.receiver (answer_of told) receiver
  pub refused : NamesFault told
  pub large : is_too_large told ≡ is_large s.receiver.bound.most (answer_of told)
  pub follows : Follows told now.0 (record s { receiver = receiver }) answer t

-- an announced stream ends first, if its time has come
abbrev pub Plays : Ticks → ℕ → StreamState → Step → StreamState → Type 0
Plays now idle s answer t = (mid : StreamState) × Drains (end_of now.0 idle s) s mid × Pops now mid answer t

abbrev pub StepsBy : Bool → Bool → Ticks → ℕ → StreamState → Step → StreamState → Type 0
StepsBy true announced now idle s answer t = (answer ≡ steps.Nothing) × (t ≡ s)
StepsBy false false now idle s answer t = (answer ≡ steps.Begun) × (t ≡ record s { announced = true })
StepsBy false true now idle s answer t = Plays now idle s answer t

-- the next event of the stream: none in probation, and its beginning before all other events
abbrev pub Steps : Ticks → ℕ → StreamState → Step → StreamState → Type 0
Steps now idle s answer t = StepsBy (is_probation s.stage) s.announced now idle s answer t

-- ---- a keyframe that the caller asks for

-- the stream leaves or is drained
abbrev pub is_ending : Stage → Bool
is_ending stages.Probation = false
is_ending stages.Playing = false
is_ending (stages.Leaving why at) = true
is_ending (stages.Draining why) = true

-- a stream that ends requests nothing more
abbrev pub asked_unless : (ending : Bool) → StreamState → StreamState
asked_unless true s = s
asked_unless false s = record s { feedback = asked_by s.feedback }

abbrev pub asked_for : StreamState → StreamState
asked_for s = asked_unless (is_ending s.stage) s

abbrev pub answer_unless : (ending : Bool) → StreamState → KeyframeAnswer
answer_unless true s = answers.NoStream
answer_unless false s = answer_by s.feedback

abbrev pub answer_for : StreamState → KeyframeAnswer
answer_for s = answer_unless (is_ending s.stage) s

-- ---- deadlines

-- the time `ticks` after now, if 64 bits hold it
abbrev pub later : ℕ → ℕ → Option ℕ
later now ticks = if nat_lt (now + ticks) (2 ^ 64) then Some (now + ticks) else None

abbrev pub earlier : Option ℕ → Option ℕ → Option ℕ
earlier None b = b
earlier (Some a) None = Some a
earlier (Some a) (Some b) = Some (min a b)

abbrev pub due_announced : Bool → Option ℕ → Option ℕ → Option ℕ
due_announced false end deadline = Some 0
due_announced true end deadline = earlier end deadline

abbrev pub due_by : ℕ → Bool → Option ℕ → ℕ → Stage → Option ℕ
due_by idle announced deadline last stages.Probation = None
due_by idle announced deadline last stages.Playing = due_announced announced (later last idle) deadline
due_by idle announced deadline last (stages.Leaving why at) = due_announced announced (Some at) deadline
due_by idle announced deadline last (stages.Draining why) = Some 0

-- a stream requests only while it plays
abbrev pub request_deadline : Stage → Option Asking → Option ℕ
request_deadline stages.Probation feedback = None
request_deadline stages.Playing feedback = requests_due feedback
request_deadline (stages.Leaving why at) feedback = None
request_deadline (stages.Draining why) feedback = None

-- the time at which the stream may have a unit, or a request is due
abbrev pub work_deadline : StreamState → Option ℕ
work_deadline s = earlier (deadline_of s.receiver.packets) (request_deadline s.stage s.feedback)

-- the time at which the stream may have an event without a datagram
abbrev pub due_of : ℕ → StreamState → Option ℕ
due_of idle s = due_by idle s.announced (work_deadline s) s.last s.stage

-- the earliest of their times
abbrev pub due_in : ℕ → List StreamState → Option ℕ
due_in idle [] = None
due_in idle (s ∷ ss) = earlier (due_of idle s) (due_in idle ss)

-- the receiver of a stream, with counters without probes
abbrev pub told_receiver : StreamState → Receiver
told_receiver s = record s.receiver { packets = record s.receiver.packets { counters = packets_without s.probes s.receiver.packets.counters } }

-- the counters of a receiver
pub record HasCounters (r : Receiver) (c : Counters) : Type 0 where
  pub received : c.received ≡ (r.arrived.received + length r.choice.candidates) % 2 ^ 64
  pub rtcp : c.rtcp ≡ r.arrived.rtcp
  pub malformed : c.malformed ≡ r.arrived.malformed
  pub other_streams : c.other_streams ≡ r.arrived.other_streams
  pub undecided : c.undecided ≡ length r.choice.candidates
  pub packets : c.packets ≡ counters_with r.bound r.packets.counters
  pub too_large : c.too_large ≡ r.bound.units
  pub undecodable : c.undecodable ≡ r.gates.undecodable

-- the stream, as a caller sees it
pub record IsInfo (s : StreamState) (i : StreamInfo) : Type 0 where
  pub ssrc_is : i.ssrc ≡ s.ssrc
  pub payload_type : i.payload_type ≡ s.format.payload_type
  pub stage : i.stage ≡ s.stage
  pub taken : i.taken ≡ s.taken
  pub bytes : i.bytes ≡ s.bytes
  pub held : i.held ≡ length s.receiver.packets.buffer.held
  pub counters : HasCounters (told_receiver s) i.counters
  pub probes : i.probes ≡ probes_of s.probes
  pub round_trip : i.round_trip ≡ round_trip_of s.feedback
  pub requests : i.requests ≡ request_counts_of s.feedback
  pub sender_clock : i.sender_clock ≡ s.sender_clock

-- the same as values
abbrev pub counters_of : Receiver → Counters
counters_of r = record {
  received = (r.arrived.received + length r.choice.candidates) % 2 ^ 64;
  rtcp = r.arrived.rtcp;
  malformed = r.arrived.malformed;
  other_streams = r.arrived.other_streams;
  undecided = length r.choice.candidates;
  packets = counters_with r.bound r.packets.counters;
  too_large = r.bound.units;
  undecodable = r.gates.undecodable;
}

abbrev pub info_of : StreamState → StreamInfo
info_of s = record {
  ssrc = s.ssrc;
  payload_type = s.format.payload_type;
  stage = s.stage;
  taken = s.taken;
  bytes = s.bytes;
  held = length s.receiver.packets.buffer.held;
  counters = counters_of (told_receiver s);
  probes = probes_of s.probes;
  round_trip = round_trip_of s.feedback;
  requests = request_counts_of s.feedback;
  sender_clock = s.sender_clock;
}
