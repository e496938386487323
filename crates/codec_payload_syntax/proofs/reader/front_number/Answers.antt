use Rattle.std.proofs.Common.{◌*◌, length, ap, ◌∙◌, arith}
use Rattle.codec_payload_base.specs.Bits.{bits}
use Rattle.codec_payload_syntax.proofs.ReaderLemmas.{be_number_bits, be_number_small}
use Rattle.codec_payload_syntax.proofs.reader.front_number.Goals as goal

pub returns-clause-says : goal.returns-clause-says
returns-clause-says c = ap (bits (8 * length c.args.bytes.now)) c.be_number.ensures ∙ be_number_bits c.args.bytes.now (λ i. omega (arith, c.type_inv.bytes i))

pub returns-clause-small : goal.returns-clause-small
returns-clause-small c = omega (arith, c.be_number.ensures, be_number_small c.args.bytes.now (λ i. omega (arith, c.type_inv.bytes i)))
