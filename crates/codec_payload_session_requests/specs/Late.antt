-- Waiting that follows how late missing packets arrive.
use Rattle.std.specs.Prelude.{ℕ, if◌then◌else◌, List, [], ◌∷◌, Option, Some, None, Result, Ok, Err}
use Rattle.std.specs.Global.{Box}
use Rattle.std.specs.Option.{option_map}
use Rattle.codec_payload_feedback_wait.specs.declared.adaptive_wait.AdaptiveWaitSettings.{AdaptiveWaitSettings}
use Rattle.codec_payload_feedback_wait.specs.Waits.{Wait, after_arrival, after_missing, limit_of, new_wait}
use Rattle.codec_payload_rtp.specs.RtpPackets.{Packet}
use Rattle.codec_payload_rtp.specs.RtpReading.{rtp_at}
use Rattle.codec_payload_rtp.specs.declared.rtp.RtpError.{RtpError}
use Rattle.codec_payload_session_formats.specs.Formats.{resends}
use Rattle.codec_payload_session_requests.specs.Requests.{original_number}
use Rattle.codec_payload_session_formats.specs.declared.formats.Format.{Format}
use Rattle.codec_payload_session_formats.specs.declared.formats.SessionSettings.{SessionSettings}
use Rattle.codec_payload_session_formats.specs.declared.formats.Waiting.{Waiting}
use Rattle.codec_payload_session_formats.specs.declared.formats.Waiting.TheVariants as waitings

-- what a stream keeps on the heap
abbrev pub unboxed : Option (Box Wait) → Option Wait
unboxed late = option_map (λ b. b.value) late

abbrev pub late_by : Waiting → AdaptiveWaitSettings → Option Wait
late_by waitings.Fixed bounds = None
late_by waitings.RoundTrip bounds = None
late_by waitings.Late bounds = Some (new_wait bounds)

-- the limit of a new stream
abbrev pub late_for : SessionSettings → Format → Option Wait
late_for settings f = late_by f.wait settings.late

-- the number of a packet; a retransmission has its original number
abbrev pub number_by : Format → Result Packet RtpError → Option ℕ
number_by f (Ok p) = if resends f p.header.payload_type then original_number p.payload else Some p.header.sequence_number
number_by f (Err e) = None

abbrev pub number_at : Format → List ℕ → Option ℕ
number_at f bytes = number_by f (rtp_at bytes)

-- the missing numbers, lowest first
abbrev pub missing_after : ℕ → List ℕ → Wait → Wait
missing_after now [] w = w
missing_after now (n ∷ ns) w = missing_after now ns (after_missing now n w)

abbrev pub arrived_after : ℕ → Option ℕ → Wait → Wait
arrived_after now None w = w
arrived_after now (Some number) w = after_arrival now number w

-- the number of a datagram arrived, and these are missing after it
abbrev pub late_after : ℕ → Option ℕ → List ℕ → Option Wait → Option Wait
late_after now number missing None = None
late_after now number missing (Some w) = Some (missing_after now missing (arrived_after now number w))

-- how long frames wait
abbrev pub limit_by : Option Wait → Option ℕ
limit_by None = None
limit_by (Some w) = Some (limit_of w)
