use Rattle.std.proofs.Common.{◌≡◌, ◌-◌, ◌≤◌, length}
use Rattle.codec_payload_syntax.specs.FieldReaders.{left}
use Rattle.codec_payload_descriptor.specs.Structures.{below}
use Rattle.codec_payload_syntax.specs.Syntax.{times}
use Rattle.codec_payload_descriptor.specs.Syntax.{read}
use Rattle.codec_payload_syntax.proofs.RepeatLemmas.{after}
use Rattle.codec_payload_descriptor.proofs.fields.read_numbers_below.Given as goal

-- the numbers so far, and those that are left
abbrev pub invariant-loop-reader : goal.invariant-loop-reader
invariant-loop-reader l = record {
  within : length l.numbers ≤ l.count;
  same : after l.numbers (read (times (l.count - length l.numbers) (below l.limit)) (left l.reader)) ≡ read (times l.count (below l.limit)) (left l.fn.reader);
}

abbrev pub decreases-loop-reader : goal.decreases-loop-reader
decreases-loop-reader l = l.count - length l.numbers
