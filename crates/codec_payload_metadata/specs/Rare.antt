-- Rare values of packets, as contracts see them.
use Rattle.std.specs.Prelude.{ℕ, List, Bool, ◌&&◌, Option, Some, None}
use Rattle.std.specs.Option.{is_none, option_map}
use lib.IntN.{ℤ}
use Rattle.codec_payload_base.specs.declared.wire.RtpHeader.{RtpHeader}
use Rattle.codec_payload_base.specs.declared.wire.SenderInfo.{SenderInfo}
use Rattle.codec_payload_base.specs.declared.wire.extension.AbsCaptureTime.{AbsCaptureTime}
use Rattle.codec_payload_base.specs.declared.wire.extension.ExtensionValues.{ExtensionValues}
use Rattle.codec_payload_base.specs.declared.wire.extension.VideoTiming.{VideoTiming}
use Rattle.codec_payload_metadata.specs.declared.known.PlainHeader.{PlainHeader}
use Rattle.codec_payload_metadata.specs.declared.known.Rare.{Rare}
use Rattle.codec_payload_metadata.specs.declared.meta.RtpMeta.{RtpMeta}

-- the capture time, if there is one
abbrev pub capture_of : Option Rare → Option AbsCaptureTime
capture_of None = None
capture_of (Some r) = r.abs_capture_time

-- the timing of a video frame
abbrev pub timing_of : Option Rare → Option VideoTiming
timing_of None = None
timing_of (Some r) = r.video_timing

-- the bytes of a layers allocation
abbrev pub layers_of : Option Rare → Option (List ℕ)
layers_of None = None
layers_of (Some r) = option_map (λ b. b.value) r.layers_allocation

-- the values of the latest sender report
abbrev pub sender_info_of : Option Rare → Option SenderInfo
sender_info_of None = None
sender_info_of (Some r) = r.last_sender_info

-- what a header says besides the rare values
abbrev pub plain_of : RtpHeader → PlainHeader
plain_of h = record {
  timestamp = h.timestamp;
  ssrc = h.ssrc;
  sequence_number = h.sequence_number;
  payload_type = h.payload_type;
  marker = h.marker;
  video_orientation = h.ext_vals.video_orientation;
  video_content_type = h.ext_vals.video_content_type;
  audio_level = h.ext_vals.audio_level;
  voice_activity = h.ext_vals.voice_activity;
}

-- the values of header extensions, with these rare ones
abbrev pub values_with : PlainHeader → Option Rare → ExtensionValues
values_with h r = record {
  abs_capture_time = capture_of r;
  video_orientation = h.video_orientation;
  video_content_type = h.video_content_type;
  video_timing = timing_of r;
  layers_allocation = layers_of r;
  audio_level = h.audio_level;
  voice_activity = h.voice_activity;
}

-- the header with these values of header extensions
abbrev pub header_with : PlainHeader → ExtensionValues → RtpHeader
header_with h values = record {
  payload_type = h.payload_type;
  sequence_number = h.sequence_number;
  timestamp = h.timestamp;
  ssrc = h.ssrc;
  marker = h.marker;
  ext_vals = values;
}

-- the metadata of a packet without its rare values
abbrev pub plain_meta : RtpMeta → RtpMeta
plain_meta m = record m {
  header = record m.header { ext_vals = record m.header.ext_vals { abs_capture_time = None; video_timing = None; layers_allocation = None } };
  last_sender_info = None;
}

-- the values of header extensions of a packet that has no rare ones
abbrev pub small_values : (orientation content_type : Option ℕ) → Option ℤ → Option Bool → ExtensionValues
small_values orientation content_type level voice = record {
  abs_capture_time = None;
  video_orientation = orientation;
  video_content_type = content_type;
  video_timing = None;
  layers_allocation = None;
  audio_level = level;
  voice_activity = voice;
}

-- none of these values is rare
abbrev pub are_plain : ExtensionValues → Option SenderInfo → Bool
are_plain v info = is_none v.abs_capture_time && is_none v.video_timing && is_none v.layers_allocation && is_none info
