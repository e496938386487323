-- The names of the streams of a session, from C and for C.
use Rattle.std.specs.Prelude.{◌≡◌, ℕ, ◌-◌, List, ◌++◌, length, replicate, Option, Some, None}
use Rattle.std.specs.List.{position}
use Rattle.codec_payload_handle.specs.declared.object.PortSession.{PortSession}
use Rattle.codec_payload_session.specs.Ports.{names_among}
use Rattle.codec_payload_session_stream.specs.Streams.{is_of}
use Rattle.codec_payload_session_formats.specs.declared.names.StreamNameIds.{StreamNameIds}
use Rattle.codec_payload_session_formats.specs.declared.names.StreamNames.{StreamNames}
use Rattle.codec_payload_handle.specs.Ids.{id_given}
use Rattle.codec_payload_c_receiving.specs.declared.session_names.StreamNameIds.{StreamNameIds as CIds}
use Rattle.codec_payload_c_receiving.specs.declared.session_names.StreamNames.{StreamNames as CNames}

-- the ids, from C
abbrev pub names_given : CIds → StreamNameIds
names_given ids = record { mid = id_given ids.mid; rid = id_given ids.rid; repaired_rid = id_given ids.repaired_rid }

-- no id was agreed on
abbrev pub no_name_ids : CIds
no_name_ids = record { mid = 0; rid = 0; repaired_rid = 0 }

-- the number of bytes of a name, 0 without one
abbrev pub name_len : Option (List ℕ) → ℕ
name_len None = 0
name_len (Some name) = length name

-- the bytes of a name, with zeros after them up to 32
abbrev pub name_told : Option (List ℕ) → List ℕ
name_told None = replicate 32 0
name_told (Some name) = name ++ replicate (32 - length name) 0

abbrev pub names_info : StreamNames → CNames
names_info names = record {
  mid = name_told names.mid;
  rid = name_told names.rid;
  repaired_rid = name_told names.repaired_rid;
  mid_len = name_len names.mid;
  rid_len = name_len names.rid;
  repaired_rid_len = name_len names.repaired_rid;
}

-- the names of the stream with this SSRC and payload type
abbrev pub names_told_by : ℕ → ℕ → PortSession → Option StreamNames
names_told_by ssrc payload_type r = names_among (position (is_of ssrc payload_type) r.session.port.streams) r.session.port.streams

-- the names, if there is such a stream; otherwise status 32
abbrev pub TellsNames : Option StreamNames → ℕ → (before after : CNames) → Type 0
TellsNames None status before after = (status ≡ 32) × (after ≡ before)
TellsNames (Some names) status before after = (status ≡ 0) × (after ≡ names_info names)
