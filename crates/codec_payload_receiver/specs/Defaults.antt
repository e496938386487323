-- Settings by purpose: the fields that they set, and the defaults.
use Rattle.std.specs.Prelude.{◌≡◌, ℕ, Bool, true, false, [], Some, None}
use Rattle.codec_payload_base.specs.declared.wire.Codec.{Codec}
use Rattle.codec_payload_jitter.specs.declared.waiting.WaitLimits.{WaitLimits}
use Rattle.codec_payload_keyframes.specs.Keyframes.{is_video}
use Rattle.codec_payload_keyframes.specs.declared.unit_gate.FromKeyframe.TheVariants as modes
use Rattle.codec_payload_rtp.specs.declared.values.ExtensionIds.{ExtensionIds}
use Rattle.codec_payload_numbers.specs.declared.windows.Windows.{Windows}
use Rattle.codec_payload_receiver.specs.declared.receiver.Settings.{Settings}

-- no header extension has an id
abbrev pub no_ids : ExtensionIds
no_ids = record { abs_capture_time = None; video_orientation = None; video_content_type = None; video_timing = None; layers_allocation = None; audio_level = None }

-- the packets of 5 s behind at least, and more than twice as many ahead
abbrev pub audio_windows : Windows
audio_windows = record { forward = 3000; backward = 1000 }

abbrev pub video_windows : Windows
video_windows = record { forward = 12000; backward = 5000 }

abbrev pub windows_for : Bool → Windows
windows_for true = video_windows
windows_for false = audio_windows

-- the windows of video for VP8, VP9 and AV1
abbrev pub windows_of : Codec → Windows
windows_of codec = windows_for (is_video codec)

-- the stream has this payload type, clock rate, wait limits and windows. There is no SSRC, no payload type without media, no
-- RED and no retransmission. The caller's clock has ticks of milliseconds. Units of video are marked, and a unit has at most
-- 1 MiB
pub record HasDefaults (payload_type rate : ℕ) (limits : WaitLimits) (windows : Windows) (s : Settings) : Type 0 where
  pub payload_type_is : s.payload_type ≡ payload_type
  pub no_media : s.no_media.items ≡ []
  pub ssrc : s.ssrc ≡ None
  pub red : s.red ≡ None
  pub retransmission : s.retransmission ≡ None
  pub extension_ids : s.extension_ids ≡ no_ids
  pub clock_rate : s.clock_rate ≡ rate
  pub tick_rate : s.tick_rate ≡ 1000
  pub wait_limits : s.wait_limits ≡ limits
  pub limit : s.limit ≡ 4096
  pub forward : s.forward ≡ windows.forward
  pub backward : s.backward ≡ windows.backward
  pub from_keyframe : s.from_keyframe ≡ modes.Mark
  pub max_unit : s.max_unit ≡ Some 1048576
  pub dependency_descriptor : s.dependency_descriptor ≡ None
