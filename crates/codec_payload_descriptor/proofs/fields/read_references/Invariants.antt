use Rattle.std.proofs.Common.{◌≡◌, ◌-◌, ◌≤◌, length}
use Rattle.codec_payload_syntax.specs.FieldReaders.{left}
use Rattle.codec_payload_descriptor.specs.declared.error.DescriptorFault.TheVariants as faults
use Rattle.codec_payload_descriptor.specs.Structures.{next_reference}
use Rattle.codec_payload_syntax.specs.Syntax.{until_none}
use Rattle.codec_payload_descriptor.specs.Syntax.{read}
use Rattle.codec_payload_syntax.proofs.RepeatLemmas.{after}
use Rattle.codec_payload_descriptor.proofs.fields.read_references.Given as goal

-- the differences so far, and those that are left
abbrev pub invariant-loop-number : goal.invariant-loop-number
invariant-loop-number l = record {
  within : length l.numbers ≤ 16;
  same : after l.numbers (read (until_none (16 - length l.numbers) faults.References (next_reference l.own)) (left l.reader)) ≡ read (until_none 16 faults.References (next_reference l.own)) (left l.fn.reader);
}

abbrev pub decreases-loop-number : goal.decreases-loop-number
decreases-loop-number l = 16 - length l.numbers
