-- Values of header extensions.
use Rattle.std.specs.Prelude.{None}
use Rattle.codec_payload_base.specs.declared.wire.extension.ExtensionValues.{ExtensionValues}

-- the field is absent
abbrev pub no_values : ExtensionValues
no_values = record {
  abs_capture_time = None;
  video_orientation = None;
  video_content_type = None;
  video_timing = None;
  layers_allocation = None;
  audio_level = None;
  voice_activity = None;
}
