use Rattle.std.proofs.Common.{◌-◌, arith}
use Rattle.codec_payload_descriptor.specs.declared.error.DescriptorFault.TheVariants as faults
use Rattle.codec_payload_syntax.specs.FieldReaders.{left}
use Rattle.codec_payload_syntax.proofs.SyntaxLemmas.{field_joined}
use Rattle.codec_payload_descriptor.proofs.fields.read_mask.Goals as goal

pub returns : goal.returns
returns c = rw (c.from-2.ensures, c.from-3.ensures) (field_joined faults.Short c.args.bits (c.args.bits - 16) 16 c.in_ok-high.high c.in_ok-low.low (left c.args.reader.now) (left c.read_wide-2.new.reader) (left c.read_wide-3.new.reader) (omega arith) c.in_ok-high.ensures.value c.in_ok-low.ensures.value)
