-- Values of header extensions, for C.
use Rattle.std.specs.Prelude.{ℕ, ◌-◌, Bool, false, List, ◌++◌, Option, Some, None, is_some, length, take, replicate, if◌then◌else◌}
use lib.IntN.{ℤ, pos}
use Rattle.codec_payload_base.specs.declared.wire.extension.AbsCaptureTime.{AbsCaptureTime}
use Rattle.codec_payload_base.specs.declared.wire.extension.ExtensionValues.{ExtensionValues}
use Rattle.codec_payload_base.specs.declared.wire.extension.VideoTiming.{VideoTiming}
use Rattle.codec_payload_handle.specs.Extras.{or_zero}
use Rattle.codec_payload_handle.specs.declared.extension_values.ExtensionValues.{ExtensionValues as CValues}
use Rattle.codec_payload_handle.specs.declared.extension_values.VideoTiming.{VideoTiming as CTiming}

-- ---- from C

-- a value, if its flag is set
abbrev pub given : {A : Type 0} → Bool → A → Option A
given is_given value = if is_given then Some value else None

abbrev pub timing_given : CTiming → VideoTiming
timing_given t = record { flags = t.flags; encode_start = t.encode_start; encode_finish = t.encode_finish; packetize_complete = t.packetize_complete; last_left_pacer = t.last_left_pacer; network_1 = t.network_1; network_2 = t.network_2 }

-- each value whose flag is set; for the layers allocation the given number of bytes
abbrev pub values_given : CValues → ExtensionValues
values_given v = record {
  abs_capture_time = given v.has_abs_capture_time (record { capture_time = v.abs_capture_time; clock_offset = given v.has_clock_offset v.clock_offset });
  video_orientation = given v.has_video_orientation v.video_orientation;
  video_content_type = given v.has_video_content_type v.video_content_type;
  video_timing = given v.has_video_timing (timing_given v.video_timing);
  layers_allocation = given v.has_layers_allocation (take v.layers_allocation_len v.layers_allocation);
  audio_level = given v.has_audio_level v.audio_level;
  voice_activity = given v.has_voice_activity v.voice_activity;
}

-- ---- for C: a missing value is 0

abbrev pub int_or_zero : Option ℤ → ℤ
int_or_zero None = pos 0
int_or_zero (Some z) = z

abbrev pub is_true : Option Bool → Bool
is_true None = false
is_true (Some b) = b

abbrev pub capture_told : Option AbsCaptureTime → ℕ
capture_told None = 0
capture_told (Some t) = t.capture_time

abbrev pub offset_of : Option AbsCaptureTime → Option ℤ
offset_of None = None
offset_of (Some t) = t.clock_offset

abbrev pub timing_told : Option VideoTiming → CTiming
timing_told None = record { encode_start = 0; encode_finish = 0; packetize_complete = 0; last_left_pacer = 0; network_1 = 0; network_2 = 0; flags = 0 }
timing_told (Some t) = record { encode_start = t.encode_start; encode_finish = t.encode_finish; packetize_complete = t.packetize_complete; last_left_pacer = t.last_left_pacer; network_1 = t.network_1; network_2 = t.network_2; flags = t.flags }

abbrev pub layers_len : Option (List ℕ) → ℕ
layers_len None = 0
layers_len (Some bytes) = length bytes

-- the bytes, with zeros after them up to 255
abbrev pub layers_told : Option (List ℕ) → List ℕ
layers_told None = replicate 255 0
layers_told (Some bytes) = bytes ++ replicate (255 - length bytes) 0

abbrev pub values_told : ExtensionValues → CValues
values_told v = record {
  abs_capture_time = capture_told v.abs_capture_time;
  clock_offset = int_or_zero (offset_of v.abs_capture_time);
  video_timing = timing_told v.video_timing;
  video_orientation = or_zero v.video_orientation;
  video_content_type = or_zero v.video_content_type;
  audio_level = int_or_zero v.audio_level;
  layers_allocation_len = layers_len v.layers_allocation;
  layers_allocation = layers_told v.layers_allocation;
  has_abs_capture_time = is_some v.abs_capture_time;
  has_clock_offset = is_some (offset_of v.abs_capture_time);
  has_video_timing = is_some v.video_timing;
  has_video_orientation = is_some v.video_orientation;
  has_video_content_type = is_some v.video_content_type;
  has_audio_level = is_some v.audio_level;
  has_layers_allocation = is_some v.layers_allocation;
  has_voice_activity = is_some v.voice_activity;
  voice_activity = is_true v.voice_activity;
}
