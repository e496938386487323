use Rattle.std.proofs.Common.{◌≡◌, ◌-◌, ◌≤◌, length}
use Rattle.codec_payload_syntax.specs.FieldReaders.{left}
use Rattle.codec_payload_syntax.specs.Syntax.{field, times}
use Rattle.codec_payload_descriptor.specs.Syntax.{read}
use Rattle.codec_payload_syntax.proofs.RepeatLemmas.{after}
use Rattle.codec_payload_descriptor.proofs.fields.read_numbers.Given as goal

-- the numbers so far, and those that are left
abbrev pub invariant-loop-reader : goal.invariant-loop-reader
invariant-loop-reader l = record {
  within : length l.numbers ≤ l.count;
  same : after l.numbers (read (times (l.count - length l.numbers) (field l.bits)) (left l.reader)) ≡ read (times l.count (field l.bits)) (left l.fn.reader);
}

abbrev pub decreases-loop-reader : goal.decreases-loop-reader
decreases-loop-reader l = l.count - length l.numbers
