-- Entries of a table of contents as the code has them.
use Rattle.std.specs.Prelude.{◌≡◌, ℕ, ◌<◌, Bool, List, length, Option, Some, None, Err}
use Rattle.codec_payload_base.specs.declared.error.PacketError.TheVariants as faults
use Rattle.codec_payload_audio.specs.declared.amr_wb.toc.TocEntry.{TocEntry}
use Rattle.codec_payload_audio.specs.AmrWb.{bit_of}
use Rattle.codec_payload_audio.specs.AmrWbReceived.{Entry, entries_at, entry_then}

abbrev pub entry_of : TocEntry → Entry
entry_of e = record { kind = e.frame_type; quality = bit_of e.quality }

-- what reading an entry says about the entries
abbrev pub ReadsEntry : Bool → List ℕ → List ℕ → Option TocEntry → Type 0
ReadsEntry octet old new None = entries_at octet old ≡ Err faults.ErrShortPacket
ReadsEntry octet old new (Some e) = (entries_at octet old ≡ entry_then (bit_of e.follows) (entry_of e) new (entries_at octet new)) × (length new < length old)
