-- Ids of header extensions, as C gives them.
use Rattle.std.specs.Prelude.{ℕ, ◌==◌, if◌then◌else◌, Option, Some, None}
use Rattle.codec_payload_rtp.specs.declared.values.ExtensionIds.{ExtensionIds}
use Rattle.codec_payload_handle.specs.declared.extension_ids.ExtensionIds.{ExtensionIds as CIds}

-- an id, if one was agreed on: 0 means none, since RFC 8285 has no id 0
abbrev pub id_given : ℕ → Option ℕ
id_given id = if id == 0 then None else Some id

-- the ids, from C
abbrev pub ids_given : CIds → ExtensionIds
ids_given ids = record {
  abs_capture_time = id_given ids.abs_capture_time;
  video_orientation = id_given ids.video_orientation;
  video_content_type = id_given ids.video_content_type;
  video_timing = id_given ids.video_timing;
  layers_allocation = id_given ids.layers_allocation;
  audio_level = id_given ids.audio_level;
}
