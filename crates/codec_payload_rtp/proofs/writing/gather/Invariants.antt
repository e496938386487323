use Rattle.std.proofs.Common.{◌≡◌, ◌≤◌, ◌++◌, map, drop, take}
use Rattle.codec_payload_rtp.specs.Elements.{element_of}
use Rattle.codec_payload_rtp.specs.ExtensionRows.{row_of}
use Rattle.codec_payload_rtp.specs.ExtensionWriting.{rows_elements}
use Rattle.codec_payload_rtp.proofs.writing.gather.Given as goal

abbrev pub invariant-loop-row : goal.invariant-loop-row
invariant-loop-row l = record {
  few : l.count ≤ l.row-index;
  so_far : map element_of (take l.count l.elements) ++ rows_elements (map row_of (drop l.row-index l.rows)) ≡ rows_elements (map row_of l.rows);
}
