-- The feedback for congestion control of a session: which arrivals it records, and when it sends which packet.
use Rattle.std.specs.Prelude.{◌≡◌, ℕ, Bool, true, false, List, if◌then◌else◌, Option, Some, None, Result, Ok, Err}
use Rattle.std.specs.Global.{Vec}
use Rattle.std.specs.declared.alloc.AllocError.{AllocError}
use Rattle.codec_payload_feedback_congestion.specs.declared.arrivals.ArrivalLogError.{ArrivalLogError}
use Rattle.codec_payload_feedback.specs.Transport.{IsTransportFeedback, Reporter, due_at, noted, reporter_by, restarted}
use Rattle.codec_payload_feedback.specs.declared.transport.TransportSettings.{TransportSettings}
use Rattle.codec_payload_feedback_requests.specs.Requests.{has_come}
use Rattle.codec_payload_rtp.specs.RtpPackets.{is_rtcp}
use Rattle.codec_payload_session_requests.specs.Requests.{source_for}
use Rattle.codec_payload_session_formats.specs.declared.formats.FeedbackSettings.{FeedbackSettings}
use Rattle.codec_payload_session_formats.specs.declared.formats.SessionSettings.{SessionSettings}

abbrev pub reporter_in : Result Reporter ArrivalLogError → Option Reporter
reporter_in (Ok r) = Some r
reporter_in (Err e) = None

abbrev pub reporter_if : Option FeedbackSettings → Option TransportSettings → Option Reporter
reporter_if None t = None
reporter_if (Some f) None = None
reporter_if (Some f) (Some t) = reporter_in (reporter_by t)

-- a session whose settings have a transport, and a sender of feedback, reports what arrives
abbrev pub reporter_for : SessionSettings → Option Reporter
reporter_for s = reporter_if s.feedback s.transport

-- ---- arrivals

-- a datagram of RTCP has no number
abbrev pub noted_by : ℕ → List ℕ → Reporter → Reporter
noted_by time bytes r = if is_rtcp bytes then r else noted time bytes r

-- a datagram arrived at that time, in quarters of a millisecond: if it is an RTP packet with a number of the transport, the number is in
-- the log, whatever the packet carries
abbrev pub noted_at : ℕ → List ℕ → Option Reporter → Option Reporter
noted_at time bytes None = None
noted_at time bytes (Some r) = Some (noted_by time bytes r)

abbrev pub restarted_if : Option Reporter → Option Reporter
restarted_if None = None
restarted_if (Some r) = Some (restarted r)

-- ---- feedback

-- when the next feedback is due
abbrev pub transport_deadline : Option Reporter → Option ℕ
transport_deadline None = None
transport_deadline (Some r) = due_at r

abbrev pub is_transport_due : ℕ → Reporter → Bool
is_transport_due now r = has_come (due_at r) now

-- the packet with the feedback that is due; without one nothing is due. If memory runs out nothing has changed, so it stays due
abbrev pub Sends : FeedbackSettings → ℕ → Reporter → Option (Result (Vec ℕ) AllocError) → Reporter → Type 0
Sends f now r None q = (is_transport_due now r ≡ false) × (q ≡ r)
Sends f now r (Some (Ok packet)) q = IsTransportFeedback (source_for f) now r (Some packet.items) q
Sends f now r (Some (Err e)) q = (is_transport_due now r ≡ true) × (q ≡ r)

abbrev pub SendsFrom : Option Reporter → FeedbackSettings → ℕ → Option (Result (Vec ℕ) AllocError) → Option Reporter → Type 0
SendsFrom None f now answer q = (answer ≡ None) × (q ≡ None)
SendsFrom (Some r) f now answer q = (after : Reporter) × Sends f now r answer after × (q ≡ Some after)

-- a session without feedback or without a transport sends none
abbrev pub SendsBy : Option FeedbackSettings → ℕ → Option Reporter → Option (Result (Vec ℕ) AllocError) → Option Reporter → Type 0
SendsBy None now r answer q = (answer ≡ None) × (q ≡ r)
SendsBy (Some f) now r answer q = SendsFrom r f now answer q
