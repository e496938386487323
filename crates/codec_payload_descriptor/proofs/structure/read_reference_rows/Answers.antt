use Rattle.std.proofs.Common.{◌∙◌, ◌∷◌, [], length, false, arith, ap, sym, length-append}
use Rattle.codec_payload_descriptor.specs.declared.error.DescriptorFault.TheVariants as faults
use Rattle.codec_payload_syntax.specs.FieldReaders.{left}
use Rattle.codec_payload_descriptor.specs.Structures.{references}
use Rattle.codec_payload_syntax.proofs.RepeatLemmas.{times_more, times_fault, times_end}
use Rattle.codec_payload_descriptor.proofs.ResultLemmas.{fails_with}
use Rattle.codec_payload_descriptor.proofs.structure.read_reference_rows.Goals as goal

pub returns-in_err-row : goal.returns-in_err-row
returns-in_err-row c =
    let e = times_fault faults.Short (references false) c.args.templates c.loop-reader.rows.items c.in_err-row.field-0.0 (left c.loop-reader.reader) (omega arith) c.in_err-row.ensures in
    fails_with _ _ _ _ c.from_residual.ensures (sym c.loop-reader.invariant.same ∙ e)

pub loop-reader-preserved : goal.loop-reader-preserved
loop-reader-preserved c =
    record {
      within = omega (arith, ap length c.in-Ok.ensures.items, length-append c.loop-reader.rows.items (c.in_ok-row.row ∷ []));
      same = times_more faults.Short (references false) c.args.templates c.loop-reader.rows.items c.push.new.self.items c.in_ok-row.row (left c.loop-reader.reader) (left c.read_references.new.reader) (omega arith) c.in-Ok.ensures.items c.in_ok-row.ensures ∙ c.loop-reader.invariant.same;
    }

pub returns : goal.returns
returns c = sym c.loop-reader.invariant.same ∙ times_end faults.Short (references false) c.args.templates c.loop-reader.rows.items (left c.loop-reader.reader) (omega arith)
