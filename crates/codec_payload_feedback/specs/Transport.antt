-- Feedback about the arrival of each packet of a transport.
use Rattle.std.specs.Prelude.{◌≡◌, ℕ, ◌+◌, ◌-◌, ◌*◌, ◌/◌, ◌%◌, ◌^◌, nat_lt, max, min, if◌then◌else◌, Bool, true, false, List, [], ◌∷◌, ◌++◌, length, Option, Some, None, Result, Ok, Err}
use Rattle.std.specs.Int.{w16, from_be_bytes}
use Rattle.codec_payload_feedback_congestion.specs.Arrivals.{Log, after_reported, arrived, log_by, new_log}
use Rattle.codec_payload_feedback_congestion.specs.Feedback.{AppendsReported}
use Rattle.codec_payload_feedback_congestion.specs.Packet.{transport_feedback}
use Rattle.codec_payload_feedback_congestion.specs.Report.{count_reported, most_reported, report}
use Rattle.codec_payload_feedback_congestion.specs.declared.arrivals.ArrivalLogError.{ArrivalLogError}
use Rattle.codec_payload_feedback_requests.specs.Requests.{has_come}
use Rattle.codec_payload_rtcp.specs.RtcpWriting.{AreUnpadded}
use Rattle.codec_payload_rtp.specs.Elements.{Element}
use Rattle.codec_payload_rtp.specs.ExtensionFormats.{bytes_for, elements_of}
use Rattle.codec_payload_rtp.specs.RtpPackets.{Packet}
use Rattle.codec_payload_rtp.specs.RtpReading.{rtp_at}
use Rattle.codec_payload_rtp.specs.declared.rtp.RtpError.{RtpError}
use Rattle.codec_payload_feedback.specs.Feedback.{Source, description_part, report_part}
use Rattle.codec_payload_feedback.specs.declared.transport.TransportSettings.{TransportSettings}

-- the log; the number of the next feedback; the SSRC of the last packet with a number; when the last feedback was sent that left
-- nothing unreported
pub record Reporter : Type 0 where
  pub settings : TransportSettings
  pub log : Log
  pub counter : ℕ
  pub media_ssrc : ℕ
  pub sent : Option ℕ

abbrev pub reporter_with : TransportSettings → Result Log ArrivalLogError → Result Reporter ArrivalLogError
reporter_with settings (Ok log) = Ok (record { settings = settings; log = log; counter = 0; media_ssrc = 0; sent = None })
reporter_with settings (Err e) = Err e

-- nothing arrived; or the window is out of range
abbrev pub reporter_by : TransportSettings → Result Reporter ArrivalLogError
reporter_by settings = reporter_with settings (log_by settings.window)

abbrev pub restarted : Reporter → Reporter
restarted r = record r { log = new_log r.log.window; sent = None }

-- a feedback of at most 1,100 bytes each 100 ticks about the last 2,048 numbers
abbrev pub live_transport : ℕ → TransportSettings
live_transport id = record { extension_id = id; interval = 100; size = 1100; window = 2048 }

-- ---- arrivals

-- a time in ticks as quarters of a millisecond, rounded down, modulo 2^32
abbrev pub quarters_at : ℕ → ℕ → ℕ
quarters_at now rate = (now * 4000 / rate) % 4294967296

-- a number of two bytes
abbrev pub number_at : Option (List ℕ) → Option ℕ
number_at None = None
number_at (Some []) = None
number_at (Some (a ∷ [])) = None
number_at (Some (high ∷ low ∷ [])) = Some (from_be_bytes w16 (high ∷ low ∷ []))
number_at (Some (a ∷ b ∷ c ∷ more)) = None

-- the first element with the id, if it has two bytes
abbrev pub number_in : ℕ → List Element → Option ℕ
number_in id es = number_at (bytes_for (Some id) es)

abbrev pub noted_if : Option ℕ → ℕ → ℕ → Reporter → Reporter
noted_if None time ssrc r = r
noted_if (Some number) time ssrc r = record r { log = arrived number time r.log; media_ssrc = ssrc }

-- an RTP packet arrives at that time: its number is in the log
abbrev pub noted_packet : ℕ → Packet → Reporter → Reporter
noted_packet time p r = noted_if (number_in r.settings.extension_id (elements_of p.header.extension)) time p.header.ssrc r

abbrev pub noted_in : Result Packet RtpError → ℕ → Reporter → Reporter
noted_in (Ok p) time r = noted_packet time p r
noted_in (Err e) time r = r

-- a datagram arrives at that time: the number of an RTP packet is in the log
abbrev pub noted : ℕ → List ℕ → Reporter → Reporter
noted time datagram r = noted_in (rtp_at datagram) time r

-- ---- feedback

abbrev pub after_sent : Option ℕ → ℕ → ℕ
after_sent None interval = 0
after_sent (Some at) interval = min (at + max interval 1) (2 ^ 64 - 1)

-- the interval after the last feedback, or at once, if something is unreported
abbrev pub due_at : Reporter → Option ℕ
due_at r = if nat_lt r.log.reported (length r.log.slots) then Some (after_sent r.sent r.settings.interval) else None

-- at least one number
abbrev pub most_of : ℕ → ℕ
most_of size = max (most_reported size) 1

-- how many numbers the next feedback reports
abbrev pub count_of : Reporter → ℕ
count_of r = count_reported (most_of r.settings.size) r.log

abbrev pub sent_after : ℕ → Reporter → Option ℕ
sent_after now r = if nat_lt (r.log.reported + count_of r) (length r.log.slots) then r.sent else Some now

abbrev pub after_transport : ℕ → Reporter → Reporter
after_transport now r = record r { log = after_reported (count_of r) r.log; counter = (r.counter + 1) % 256; sent = sent_after now r }

-- control information that reports the next numbers; in a compound packet the report and the name come before it. None exactly if
-- none is due
abbrev pub IsTransportFeedback : Source → ℕ → Reporter → Option (List ℕ) → Reporter → Type 0
IsTransportFeedback s now r None t = (has_come (due_at r) now ≡ false) × (t ≡ r)
IsTransportFeedback s now r (Some bytes) t =
    (has_come (due_at r) now ≡ true) × (control : List ℕ) × AppendsReported [] control (report (most_of r.settings.size) r.counter r.log)
    × AreUnpadded (report_part s ++ (description_part s ++ transport_feedback s.ssrc r.media_ssrc control ∷ [])) bytes × (t ≡ after_transport now r)
