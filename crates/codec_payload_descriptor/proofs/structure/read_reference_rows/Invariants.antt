use Rattle.std.proofs.Common.{◌≡◌, ◌-◌, ◌≤◌, length, false}
use Rattle.codec_payload_syntax.specs.FieldReaders.{left}
use Rattle.codec_payload_descriptor.specs.Structures.{references}
use Rattle.codec_payload_syntax.specs.Syntax.{times}
use Rattle.codec_payload_descriptor.specs.Syntax.{read}
use Rattle.codec_payload_syntax.proofs.RepeatLemmas.{after}
use Rattle.codec_payload_descriptor.proofs.structure.read_reference_rows.Given as goal

-- the rows so far, and those that are left
abbrev pub invariant-loop-reader : goal.invariant-loop-reader
invariant-loop-reader l = record {
  within : length l.rows.items ≤ l.templates;
  same : after l.rows.items (read (times (l.templates - length l.rows.items) (references false)) (left l.reader)) ≡ read (times l.templates (references false)) (left l.fn.reader);
}

abbrev pub decreases-loop-reader : goal.decreases-loop-reader
decreases-loop-reader l = l.templates - length l.rows.items
