-- Settings to begin with, by purpose. 1: live media whose lost packets are retransmitted; 2: packets from a file; any other number:
-- live media without retransmission.
use Rattle.std.specs.Prelude.{◌≡◌, ℕ, ◌==◌, ◌||◌, ◌-◌, ◌^◌, if◌then◌else◌, Bool, true, false, List, take, length, nat_le, ◌&&◌}
use Rattle.codec_payload_c_receiving.specs.SessionNames.{no_name_ids}
use Rattle.codec_payload_c_receiving.specs.declared.adaptive_wait.AdaptiveWaitSettings.{AdaptiveWaitSettings}
use Rattle.codec_payload_handle.specs.declared.extension_ids.ExtensionIds.{ExtensionIds}
use Rattle.codec_payload_c_receiving.specs.declared.receiver.ReceiverSettings.{ReceiverSettings}
use Rattle.codec_payload_c_receiving.specs.declared.receiver.WaitLimits.{WaitLimits}
use Rattle.codec_payload_c_receiving.specs.declared.session_settings.SessionFeedback.{SessionFeedback}
use Rattle.codec_payload_c_receiving.specs.declared.session_settings.SessionSettings.{SessionSettings}

-- no header extension has an id
abbrev pub no_ids : ExtensionIds
no_ids = record { abs_capture_time = 0; video_orientation = 0; video_content_type = 0; video_timing = 0; layers_allocation = 0; audio_level = 0 }

-- ---- how long frames wait

-- the largest number of frames is no bound
abbrev pub at_most : ℕ → ℕ → WaitLimits
at_most start max_wait = record { max_wait = max_wait; hold_back = 2 ^ 64 - 1; start = start; has_max_wait = true }

abbrev pub by_number : WaitLimits
by_number = record { max_wait = 0; hold_back = 2 ^ 64 - 1; start = 0; has_max_wait = false }

abbrev pub audio_limits : ℕ → WaitLimits
audio_limits purpose = if purpose == 1 then at_most 1 200 else if purpose == 2 then by_number else at_most 1 100

abbrev pub video_limits : ℕ → WaitLimits
video_limits purpose = if purpose == 1 then at_most 2 200 else if purpose == 2 then by_number else at_most 1 100

-- video in a session waits for retransmissions, unless it is from a file
abbrev pub session_video_limits : ℕ → WaitLimits
session_video_limits purpose = if purpose == 2 then by_number else at_most 2 200

-- ---- a receiver

-- the codec has this number: VP8, VP9 and AV1
abbrev pub is_video : ℕ → Bool
is_video codec = (codec == 9) || (codec == 10) || (codec == 11)

abbrev pub limits_by : Bool → ℕ → WaitLimits
limits_by video purpose = if video then video_limits purpose else audio_limits purpose

-- the windows of video, also for a file of any codec
abbrev pub has_wide_windows : ℕ → ℕ → Bool
has_wide_windows codec purpose = is_video codec || (purpose == 2)

abbrev pub receiver_that_waits : WaitLimits → Bool → (codec rate payload_type : ℕ) → ReceiverSettings
receiver_that_waits limits wide codec rate payload_type = record {
  spec = record { codec = codec; rate = rate; first_id = 0; octet_align = false; vp8_ids = false; vp9_flexible = false };
  hold_back = limits.hold_back;
  start = limits.start;
  limit = 4096;
  max_unit = 1048576;
  max_wait = limits.max_wait;
  ssrc = 0;
  tick_rate = 1000;
  red_step = 0;
  rtx_ssrc = 0;
  forward = if wide then 12000 else 3000;
  backward = if wide then 5000 else 1000;
  payload_type = payload_type;
  red_payload_type = 0;
  rtx_payload_type = 0;
  red_rtx_payload_type = 0;
  from_keyframe = 1;
  has_max_wait = limits.has_max_wait;
  has_ssrc = false;
  has_red = false;
  has_rtx = false;
  has_red_rtx = false;
  extension_ids = no_ids;
  dependency_descriptor = 0;
}

-- a stream of the codec, without RED and retransmissions; units of video are marked
abbrev pub receiver_for : (codec rate payload_type purpose : ℕ) → ReceiverSettings
receiver_for codec rate payload_type purpose = receiver_that_waits (limits_by (is_video codec) purpose) (has_wide_windows codec purpose) codec rate payload_type

-- ---- a session

-- requests as for live media, of a session without a name
pub record IsFeedback (f : SessionFeedback) : Type 0 where
  pub keyframe_interval : f.keyframe_interval ≡ 100
  pub silence : f.silence ≡ 2000
  pub first_wait : f.first_wait ≡ 10
  pub retry : f.retry ≡ 100
  pub shortest_retry : f.shortest_retry ≡ 20
  pub longest_retry : f.longest_retry ≡ 400
  pub longest_wait : f.longest_wait ≡ 1500
  pub report_interval : f.report_interval ≡ 1000
  pub max_report : f.max_report ≡ 1200
  pub capacity : f.capacity ≡ 1024
  pub tries : f.tries ≡ 6
  pub ssrc : f.ssrc ≡ 0
  pub cname_len : f.cname_len ≡ 0
  pub has_report : f.has_report ≡ false
  pub has_longest_wait : f.has_longest_wait ≡ true
  pub has_report_interval : f.has_report_interval ≡ true
  pub extended : f.extended ≡ true

-- 20 to 400 ms, at first 200 ms; a packet is lost after 1 s
abbrev pub live_adaptive_wait : AdaptiveWaitSettings
live_adaptive_wait = record { shortest = 20; longest = 400; first = 200; lost_after = 1000 }

-- the stated numbers of streams, packets, bytes and milliseconds; nothing is requested, and units of video are marked
pub record IsSessionFor (purpose : ℕ) (s : SessionSettings) : Type 0 where
  pub audio : s.audio ≡ audio_limits purpose
  pub video : s.video ≡ session_video_limits purpose
  pub late : s.late ≡ live_adaptive_wait
  pub idle_timeout : s.idle_timeout ≡ 30000
  pub bye_wait : s.bye_wait ≡ 200
  pub probation : s.probation ≡ 2
  pub limit : s.limit ≡ 4096
  pub max_unit : s.max_unit ≡ 1048576
  pub max_streams : s.max_streams ≡ 64
  pub tick_rate : s.tick_rate ≡ 1000
  pub from_keyframe : s.from_keyframe ≡ 1
  pub has_feedback : s.has_feedback ≡ false
  pub feedback : IsFeedback s.feedback
  pub extension_ids : s.extension_ids ≡ no_ids
  pub has_transport : s.has_transport ≡ false
  pub transport : s.transport ≡ record { interval = 100; size = 1100; window = 2048; extension_id = 0 }
  pub name_ids : s.name_ids ≡ no_name_ids
  pub dependency_descriptor : s.dependency_descriptor ≡ 0

-- the session sends feedback with this SSRC and this name of 1 to 255 bytes; all else stays
pub record Named (ssrc : ℕ) (name : List ℕ) (s t : SessionSettings) : Type 0 where
  pub bytes : List ℕ
  pub has : take (length name) bytes ≡ name
  pub after : t ≡ record s { has_feedback = true; feedback = record s.feedback { ssrc = ssrc; cname = bytes; cname_len = length name } }

abbrev pub name_fits : List ℕ → Bool
name_fits name = nat_le 1 (length name) && nat_le (length name) 255

abbrev pub SetsFeedbackIf : Bool → ℕ → List ℕ → ℕ → SessionSettings → SessionSettings → Type 0
SetsFeedbackIf true ssrc name status s t = (status ≡ 0) × Named ssrc name s t
SetsFeedbackIf false ssrc name status s t = (status ≡ 37) × (t ≡ s)

-- status 37 exactly if the name has no byte, or more than 255; then nothing has changed
abbrev pub SetsFeedback : ℕ → List ℕ → ℕ → SessionSettings → SessionSettings → Type 0
SetsFeedback ssrc name status s t = SetsFeedbackIf (name_fits name) ssrc name status s t
