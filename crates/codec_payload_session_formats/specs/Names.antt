-- The names of streams in header extensions: MID (RFC 8843, section 15), RID and repaired RID (RFC 8852, section 3).
use Rattle.std.specs.Cmp.Lexicographic.{pointwise}
use Rattle.std.specs.Prelude.{ℕ, ◌&&◌, ◌||◌, nat_eq, nat_le, is_some, Bool, true, false, if◌then◌else◌, List, Option, Some, None, Result, Ok, Err, length}
use Rattle.codec_payload_rtp.specs.Elements.{Element}
use Rattle.codec_payload_rtp.specs.ExtensionFormats.{and_then, bytes_for, elements_of}
use Rattle.codec_payload_rtp.specs.RtpPackets.{Packet}
use Rattle.codec_payload_rtp.specs.RtpReading.{rtp_at}
use Rattle.codec_payload_rtp.specs.declared.rtp.RtpError.{RtpError}
use Rattle.codec_payload_session_formats.specs.declared.names.StreamNameIds.{StreamNameIds}
use Rattle.codec_payload_session_formats.specs.declared.names.StreamNames.{StreamNames}

-- no extension was agreed on
abbrev pub no_name_ids : StreamNameIds
no_name_ids = record { mid = None; rid = None; repaired_rid = None }

-- an extension was agreed on
abbrev pub is_any : StreamNameIds → Bool
is_any ids = is_some ids.mid || is_some ids.rid || is_some ids.repaired_rid

-- no packet had a name
abbrev pub no_names : StreamNames
no_names = record { mid = None; rid = None; repaired_rid = None }

-- a name has 1 to 32 bytes
abbrev pub name_of : List ℕ → Option (List ℕ)
name_of bytes = if nat_le 1 (length bytes) && nat_le (length bytes) 32 then Some bytes else None

-- the first element with the id is a name
abbrev pub name_for : Option ℕ → List Element → Option (List ℕ)
name_for id elements = and_then name_of (bytes_for id elements)

-- a name that arrives replaces the one from before
abbrev pub newer : Option (List ℕ) → Option (List ℕ) → Option (List ℕ)
newer None before = before
newer (Some name) before = Some name

-- the names after these elements
abbrev pub names_by : StreamNameIds → List Element → StreamNames → StreamNames
names_by ids elements names = record {
  mid = newer (name_for ids.mid elements) names.mid;
  rid = newer (name_for ids.rid elements) names.rid;
  repaired_rid = newer (name_for ids.repaired_rid elements) names.repaired_rid;
}

abbrev pub names_of_packet : StreamNameIds → Result Packet RtpError → StreamNames → StreamNames
names_of_packet ids (Ok p) names = names_by ids (elements_of p.header.extension) names
names_of_packet ids (Err e) names = names

-- the names of a stream after a datagram that it accepts
abbrev pub names_after : StreamNameIds → List ℕ → StreamNames → StreamNames
names_after ids bytes names = names_of_packet ids (rtp_at bytes) names

-- ---- senders

-- both names have the same bytes, or neither is known
abbrev pub is_same : Option (List ℕ) → Option (List ℕ) → Bool
is_same None None = true
is_same None (Some name) = false
is_same (Some name) None = false
is_same (Some name) (Some other) = pointwise nat_eq name other

-- the same MID, and the same RID or none: both are names of one sender
abbrev pub are_of_one : StreamNames → StreamNames → Bool
are_of_one a b = is_some a.mid && is_same a.mid b.mid && is_same a.rid b.rid
