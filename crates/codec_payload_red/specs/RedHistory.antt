-- The history as it lies in memory.
use Rattle.std.specs.Prelude.{List, map}
use Rattle.codec_payload_red.specs.declared.red.sender.SentPayload.{SentPayload}
use Rattle.codec_payload_red.specs.RedLevels.{Entry}

abbrev pub entry_of : SentPayload → Entry
entry_of p = record { bytes = p.bytes.items; time = p.time }

abbrev pub entries_of : List SentPayload → List Entry
entries_of ps = map entry_of ps
