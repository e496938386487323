-- What a stream requests: the packets that its receiver misses, and a keyframe if its receiver needs one.
use Rattle.std.specs.Prelude.{◌≡◌, ◌⊎◌, ℕ, ◌+◌, ◌-◌, ◌*◌, ◌/◌, ◌&&◌, ◌||◌, not, nat_le, if◌then◌else◌, max, min, Bool, true, false, List, [], ◌∷◌, take, Option, Some, None, Result, Ok, Err}
use Rattle.std.specs.Global.{Vec}
use Rattle.std.specs.Option.{option_map}
use Rattle.std.specs.declared.alloc.AllocError.{AllocError}
use Rattle.codec_payload_feedback.specs.Feedback.{IsFeedback, Requests, Source, after_answered, after_feedback, deadline_of, is_idle, keyframe_is_due, new_requests, numbers_due, reporting, updated, wanting}
use Rattle.codec_payload_feedback.specs.declared.requests.RequestCounts.{RequestCounts}
use Rattle.codec_payload_jitter.specs.Missing.{missing_numbers}
use Rattle.codec_payload_feedback_requests.specs.NackSchedule.{requested_by, sure_answer_time}
use Rattle.codec_payload_feedback_requests.specs.RoundTrips.{known_trip}
use Rattle.codec_payload_feedback_requests.specs.declared.nack.NackSettings.{NackSettings}
use Rattle.codec_payload_rtp.specs.RtpPackets.{Packet}
use Rattle.codec_payload_rtp.specs.RtpReading.{rtp_at}
use Rattle.codec_payload_rtp.specs.declared.rtp.RtpError.{RtpError}
use Rattle.codec_payload_receiver.specs.Sessions.{Session as Receiver}
use Rattle.codec_payload_session_formats.specs.Formats.{is_video, resends}
use Rattle.codec_payload_session_formats.specs.declared.formats.FeedbackSettings.{FeedbackSettings}
use Rattle.codec_payload_session_formats.specs.declared.formats.Format.{Format}
use Rattle.codec_payload_session_formats.specs.declared.formats.Waiting.{Waiting}
use Rattle.codec_payload_session_formats.specs.declared.formats.Waiting.TheVariants as waitings
use Rattle.codec_payload_session_requests.specs.declared.requests.KeyframeAnswer.{KeyframeAnswer}
use Rattle.codec_payload_session_requests.specs.declared.requests.KeyframeAnswer.TheVariants as answers
use Rattle.codec_payload_session_requests.specs.declared.requests.WaitRange.{WaitRange}

-- who sends the requests of a stream, what is requested when, at most how many packets, whether keyframes are, for how
-- long after the latest datagram, how waiting follows the round trip, and whether the caller asked for a keyframe, of which none was
-- requested or released since
pub record Asking : Type 0 where
  pub source : Source
  pub requests : Requests
  pub most : ℕ
  pub pli : Bool
  pub silence : ℕ
  pub waits : Option WaitRange
  pub asked : Bool

-- ---- the requests of a new stream

-- of a longer name the first 255 bytes are sent
abbrev pub source_for : FeedbackSettings → Source
source_for f = record { ssrc = f.ssrc; cname = take 255 f.cname.items; has_report = f.has_report }

-- video whose missing packets are requested waits for the first answers
abbrev pub is_patient : Format → Bool
is_patient f = f.nack && is_video f.spec.codec

-- how long a frame of the format waits at most: the longest wait where waiting follows the round trip, else the stream's own limit. None:
-- there is none, or waiting follows how late packets arrive
abbrev pub longest_by : Waiting → Option ℕ → Option ℕ → Option ℕ
longest_by waitings.Fixed longest max_wait = max_wait
longest_by waitings.RoundTrip None max_wait = max_wait
longest_by waitings.RoundTrip (Some most) None = None
longest_by waitings.RoundTrip (Some most) (Some least) = Some (max most least)
longest_by waitings.Late longest max_wait = None

abbrev pub longest_for : FeedbackSettings → Format → Option ℕ → Option ℕ
longest_for f format max_wait = longest_by format.wait f.longest_wait max_wait

-- at most a quarter of the wait between two requests of a number, so that four leave in that time; but not less than the shortest retry
abbrev pub fitted : NackSettings → Option ℕ → NackSettings
fitted n None = n
fitted n (Some wait) = record n { retry = min n.retry (max n.shortest_retry (wait / 4)); longest_retry = min n.longest_retry (max n.shortest_retry (wait / 4)) }

-- two requests of a number are at least one tick apart, so that a loop of polls at one moment ends
abbrev pub spaced : NackSettings → NackSettings
spaced n = record n { retry = max 1 n.retry; shortest_retry = max 1 n.shortest_retry; longest_retry = max 1 n.longest_retry }

-- when a stream of the format requests a missing packet
abbrev pub nack_for : FeedbackSettings → Format → Option ℕ → NackSettings
nack_for f format max_wait = spaced (fitted f.nack (longest_for f format max_wait))

-- waiting follows the round trip between the stream's own limit and the longest wait, if the format says so
abbrev pub range_by : Waiting → Option ℕ → (is_patient : Bool) → Option ℕ → Option WaitRange
range_by waitings.Fixed longest patient least = None
range_by waitings.Late longest patient least = None
range_by waitings.RoundTrip None patient least = None
range_by waitings.RoundTrip (Some most) patient None = None
range_by waitings.RoundTrip (Some most) patient (Some least) = Some (record { least = least; most = most; is_patient = patient })

abbrev pub range_for : FeedbackSettings → Format → Option ℕ → Option WaitRange
range_for f format max_wait = range_by format.wait f.longest_wait (is_patient format) max_wait

abbrev pub asking_for : FeedbackSettings → ℕ → Format → Option ℕ → Asking
asking_for f ssrc format max_wait = record {
  source = source_for f;
  requests = new_requests ssrc (nack_for f format max_wait) (max 1 f.keyframe_interval);
  most = if format.nack then f.nack.capacity else 0;
  pli = format.pli;
  silence = f.silence;
  waits = range_for f format max_wait;
  asked = false;
}

-- a stream whose sender answers no requests has none
abbrev pub feedback_by : Option FeedbackSettings → ℕ → Format → Option ℕ → Option Asking
feedback_by None ssrc format max_wait = None
feedback_by (Some f) ssrc format max_wait = if format.nack || format.pli then Some (asking_for f ssrc format max_wait) else None

-- ---- a packet came

-- the first two bytes of a retransmission (RFC 4588, section 4)
abbrev pub original_number : List ℕ → Option ℕ
original_number (high ∷ low ∷ payload) = Some (high * 256 + low)
original_number payload = None

-- if the format has a payload type of retransmissions, another packet is no answer: it may only be late
abbrev pub own_number : Option ℕ → ℕ → Option ℕ
own_number None number = Some number
own_number (Some payload_type) number = None

abbrev pub number_by : Format → Result Packet RtpError → Option ℕ
number_by f (Ok p) = if resends f p.header.payload_type then original_number p.payload else own_number f.retransmission p.header.sequence_number
number_by f (Err e) = None

-- the number that a packet answers; that of a retransmission is its original number
abbrev pub number_at : Format → List ℕ → Option ℕ
number_at f bytes = number_by f (rtp_at bytes)

-- a number that was requested measures the round trip
abbrev pub after_number : ℕ → Option ℕ → Asking → Asking
after_number now None a = a
after_number now (Some number) a = record a { requests = after_answered now number a.requests }

abbrev pub heard_by : ℕ → Option ℕ → Option Asking → Option Asking
heard_by now number None = None
heard_by now number (Some a) = Some (after_number now number a)

-- ---- requests

-- the sender is not silent: its latest datagram arrived at most `silence` ago
abbrev pub is_heard : ℕ → ℕ → Asking → Bool
is_heard now last a = nat_le (now - last) a.silence

-- a keyframe is wanted: the receiver needs one, or the caller asked for one
abbrev pub wants_keyframe : Asking → Receiver → Bool
wants_keyframe a r = a.pli && (r.gates.gate.wants || a.asked)

-- what is requested is what the receiver misses now: packets, and a keyframe if it needs one, or if the caller asked for one.
-- Nothing is requested of a silent sender
abbrev pub refreshed : ℕ → Bool → Receiver → Asking → Asking
refreshed now heard r a = record a { requests = updated now (missing_numbers r.packets (if heard then a.most else 0)) (heard && wants_keyframe a r) a.requests }

-- if memory runs out, nothing has changed
abbrev pub Refreshes : ℕ → Bool → Receiver → Asking → Result (Unit {0}) AllocError → Asking → Type 0
Refreshes now heard r a (Ok done) b = b ≡ refreshed now heard r a
Refreshes now heard r a (Err e) b = b ≡ a

-- a packet with exactly the requests that are due, which count as sent then; without a packet none is due. A keyframe that was
-- requested is no longer asked for
pub record Sends (now : ℕ) (a : Asking) (packet : Option (List ℕ)) (b : Asking) : Type 0 where
  pub packet_is : IsFeedback a.source a.requests.ssrc (numbers_due now a.requests) (keyframe_is_due now a.requests) packet
  pub after : b ≡ record a { requests = after_feedback now a.requests; asked = a.asked && not (keyframe_is_due now a.requests) }

abbrev pub bytes_of : Option (Vec ℕ) → Option (List ℕ)
bytes_of None = None
bytes_of (Some bytes) = Some bytes.items

-- the requests that are due by what the receiver misses now; if memory runs out, no request counts as sent
abbrev pub Asks : ℕ → Bool → Receiver → Asking → Result (Option (Vec ℕ)) AllocError → Asking → Type 0
Asks now heard r a (Ok packet) b = Sends now (refreshed now heard r a) (bytes_of packet) b
Asks now heard r a (Err e) b = (b ≡ a) ⊎ (b ≡ refreshed now heard r a)

-- when the next request is due
abbrev pub requests_due : Option Asking → Option ℕ
requests_due None = None
requests_due (Some a) = deadline_of a.requests

-- a missing packet with this number was requested
abbrev pub has_requested : ℕ → Option Asking → Bool
has_requested number None = false
has_requested number (Some a) = requested_by number a.requests.nack

-- how many requests were sent; a stream that requests nothing sent none
abbrev pub request_counts_of : Option Asking → RequestCounts
request_counts_of None = record { numbers = 0; keyframes = 0 }
request_counts_of (Some a) = a.requests.counts

-- the round trip: what extended reports say, or else the median of the latest answers
abbrev pub round_trip_of : Option Asking → Option ℕ
round_trip_of None = None
round_trip_of (Some a) = known_trip a.requests.nack.trip

-- extended reports say this round trip
abbrev pub reported_by : Option ℕ → Option Asking → Option Asking
reported_by round_trip None = None
reported_by round_trip (Some a) = Some (record a { requests = reporting round_trip a.requests })

-- ---- a keyframe that the caller asks for

-- it is asked for, if the sender answers requests for keyframes
abbrev pub asked_when : (pli : Bool) → Asking → Asking
asked_when true a = record a { requests = wanting a.requests; asked = true }
asked_when false a = a

abbrev pub asked_by : Option Asking → Option Asking
asked_by None = None
asked_by (Some a) = Some (asked_when a.pli a)

abbrev pub answer_when : (pli : Bool) → KeyframeAnswer
answer_when true = answers.Requested
answer_when false = answers.NotNegotiated

abbrev pub answer_by : Option Asking → KeyframeAnswer
answer_by None = answers.NotNegotiated
answer_by (Some a) = answer_when a.pli

-- a keyframe that was released is the one that was asked for
abbrev pub answered_if : (keyframe : Bool) → Option Asking → Option Asking
answered_if keyframe None = None
answered_if keyframe (Some a) = Some (record a { asked = a.asked && not keyframe })

-- ---- waiting

-- until the last request of a number is answered, if the round trip is sure: at most the longest wait, and at least the stream's own
-- limit. Until then the longest wait in a stream that waits for the first answers
abbrev pub wait_for : Option WaitRange → Option ℕ → Option ℕ
wait_for None answer_time = None
wait_for (Some range) None = if range.is_patient then Some (max range.most range.least) else None
wait_for (Some range) (Some answer_time) = Some (max (min answer_time range.most) range.least)

-- how long a frame may wait
abbrev pub wait_of : Asking → Option ℕ
wait_of a = wait_for a.waits (sure_answer_time a.requests.nack)

abbrev pub wait_by : Option Asking → Option ℕ
wait_by None = None
wait_by (Some a) = wait_of a

abbrev pub is_none : List ℕ → Bool
is_none [] = true
is_none (n ∷ ns) = false

-- nothing is missing that is requested, and no keyframe is wanted
abbrev pub is_calm : Asking → Receiver → Bool
is_calm a r = not (wants_keyframe a r) && is_none (missing_numbers r.packets (min a.most 1))

-- nothing is requested, and nothing is to be requested
abbrev pub are_idle : Option Asking → Receiver → Bool
are_idle None r = true
are_idle (Some a) r = is_idle a.requests && is_calm a r

-- the same of a stream; one without requests requests nothing
abbrev pub IsCalm : Option Asking → Receiver → Type 0
IsCalm None r = Unit {0}
IsCalm (Some a) r = is_calm a r ≡ true

-- the sender is heard at both times, or misses nothing
abbrev pub MayRest : Option Asking → (now later last : ℕ) → Receiver → Type 0
MayRest None now later last r = Unit {0}
MayRest (Some a) now later last r = (is_calm a r ≡ true) ⊎ (is_heard now last a ≡ true) × (is_heard later last a ≡ true)
