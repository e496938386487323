use Rattle.std.proofs.Common.{◌≡◌, ◌-◌, ◌≤◌, length}
use Rattle.codec_payload_syntax.specs.FieldReaders.{left}
use Rattle.codec_payload_syntax.specs.Syntax.{field, times}
use Rattle.codec_payload_descriptor.specs.Syntax.{read}
use Rattle.codec_payload_syntax.proofs.RepeatLemmas.{after}
use Rattle.codec_payload_descriptor.proofs.structure.read_rows.Given as goal

-- the rows so far, and those that are left
abbrev pub invariant-loop-reader : goal.invariant-loop-reader
invariant-loop-reader l = record {
  within : length l.rows.items ≤ l.templates;
  same : after l.rows.items (read (times (l.templates - length l.rows.items) (times l.count (field l.bits))) (left l.reader)) ≡ read (times l.templates (times l.count (field l.bits))) (left l.fn.reader);
}

abbrev pub decreases-loop-reader : goal.decreases-loop-reader
decreases-loop-reader l = l.templates - length l.rows.items
