use Rattle.std.proofs.Common.{◌≡◌, ◌-◌, ◌∙◌, ◌<◌, ◌++◌, ◌∷◌, [], length, Some, None, Ok, arith, ap, sym, length-append}
use Rattle.codec_payload_syntax.specs.FieldReaders.{left}
use Rattle.codec_payload_descriptor.specs.declared.error.DescriptorFault.TheVariants as faults
use Rattle.codec_payload_descriptor.specs.Structures.{next_reference, references}
use Rattle.codec_payload_descriptor.specs.Syntax.{read}
use Rattle.codec_payload_syntax.proofs.RepeatLemmas.{until_more, until_fault, until_end, until_full}
use Rattle.codec_payload_descriptor.proofs.fields.read_references.Goals as goal

pub returns-in_err-number : goal.returns-in_err-number
unfolding references
returns-in_err-number c =
    let e = until_fault faults.Short (next_reference c.args.own) faults.References (16 - length c.loop-number.numbers) c.loop-number.numbers c.in_err-number.field-0.0 (left c.loop-number.reader) c.in_err-number.ensures in
    grind (arith, e, c.loop-number.invariant.same)

pub returns-in_default : goal.returns-in_default
unfolding references
returns-in_default c =
    let is : Ok (None, left c.read_next_reference.new.reader) ≡ read (next_reference c.args.own) (left c.loop-number.reader) = rw c.in_default.is at c.in_ok-number.ensures in
    sym (until_end faults.Short (next_reference c.args.own) faults.References (16 - length c.loop-number.numbers) c.loop-number.numbers (left c.loop-number.reader) (left c.read_next_reference.new.reader) is) ∙ c.loop-number.invariant.same

pub returns-then-len-eq-MOST_REFERENCES : goal.returns-then-len-eq-MOST_REFERENCES
unfolding references
returns-then-len-eq-MOST_REFERENCES c =
    let is : Ok (Some c.in-Some.number, left c.read_next_reference.new.reader) ≡ read (next_reference c.args.own) (left c.loop-number.reader) = rw c.in-Some.is at c.in_ok-number.ensures in
    sym (until_full faults.Short (next_reference c.args.own) faults.References 16 c.loop-number.numbers c.in-Some.number (left c.loop-number.reader) (left c.read_next_reference.new.reader) (omega arith) is) ∙ c.loop-number.invariant.same

pub loop-number-preserved : goal.loop-number-preserved
loop-number-preserved c =
    let is : Ok (Some c.in-Some.number, left c.read_next_reference.new.reader) ≡ read (next_reference c.args.own) (left c.loop-number.reader) = rw c.in-Some.is at c.in_ok-number.ensures in
    let lt : length c.loop-number.numbers < 16 = omega (arith, c.if-len-eq-MOST_REFERENCES.false) in
    let longer : c.push.new.self ≡ c.loop-number.numbers ++ c.in-Some.number ∷ [] = cc in
    record {
      within = omega (arith, ap length longer, length-append c.loop-number.numbers (c.in-Some.number ∷ []));
      same = until_more faults.Short (next_reference c.args.own) faults.References 16 c.loop-number.numbers c.push.new.self c.in-Some.number (left c.loop-number.reader) (left c.read_next_reference.new.reader) lt longer is ∙ c.loop-number.invariant.same;
    }
