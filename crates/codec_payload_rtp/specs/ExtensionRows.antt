-- Values under their ids, as they lie in memory.
use Rattle.std.specs.Prelude.{ℕ, List, take}
use Rattle.std.specs.Option.{option_map}
use Rattle.codec_payload_rtp.specs.ExtensionWriting.{Row}
use Rattle.codec_payload_rtp.specs.declared.writing.Row.{Row as LentRow}
use Rattle.codec_payload_rtp.specs.declared.writing.CaptureBytes.{CaptureBytes}

abbrev pub row_of : LentRow → Row
row_of row = record { id = row.id; bytes = option_map (λ b. b.now) row.bytes }

abbrev pub in_use : CaptureBytes → List ℕ
in_use capture = take capture.len capture.bytes
