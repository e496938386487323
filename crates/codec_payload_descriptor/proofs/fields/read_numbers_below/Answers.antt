use Rattle.std.proofs.Common.{◌≡◌, ◌∙◌, ◌<◌, ◌++◌, ◌∷◌, [], length, arith, ap, sym, length-append}
use Rattle.codec_payload_descriptor.specs.declared.error.DescriptorFault.TheVariants as faults
use Rattle.codec_payload_syntax.specs.FieldReaders.{left}
use Rattle.codec_payload_descriptor.specs.Structures.{below}
use Rattle.codec_payload_syntax.proofs.RepeatLemmas.{times_more, times_fault, times_end}
use Rattle.codec_payload_descriptor.proofs.fields.read_numbers_below.Goals as goal

pub returns-in_err-number : goal.returns-in_err-number
returns-in_err-number c =
    let lt : length c.loop-reader.numbers < c.args.count = omega arith in
    let e = times_fault faults.Short (below c.args.limit) c.args.count c.loop-reader.numbers c.in_err-number.field-0.0 (left c.loop-reader.reader) lt c.in_err-number.ensures.value in
    grind (arith, e, c.loop-reader.invariant.same)

pub loop-reader-preserved : goal.loop-reader-preserved
loop-reader-preserved c =
    let lt : length c.loop-reader.numbers < c.args.count = omega arith in
    let longer : c.push.new.self ≡ c.loop-reader.numbers ++ c.in_ok-number.number ∷ [] = cc in
    record {
      within = omega (arith, ap length longer, length-append c.loop-reader.numbers (c.in_ok-number.number ∷ []));
      same = times_more faults.Short (below c.args.limit) c.args.count c.loop-reader.numbers c.push.new.self c.in_ok-number.number (left c.loop-reader.reader) (left c.read_below.new.reader) lt longer c.in_ok-number.ensures.value ∙ c.loop-reader.invariant.same;
    }

pub returns : goal.returns
returns c = sym (times_end faults.Short (below c.args.limit) c.args.count c.loop-reader.numbers (left c.loop-reader.reader) (omega arith)) ∙ c.loop-reader.invariant.same
