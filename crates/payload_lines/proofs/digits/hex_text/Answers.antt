use Rattle.std.proofs.Common.{rules, arith}
use Rattle.payload_lines.proofs.HexFieldLemmas.{IfOk-hex_field_of}
use Rattle.payload_lines.proofs.digits.hex_text.Goals as goal

pub returns-else-is_empty-clause-read_back : goal.returns-else-is_empty-clause-read_back
returns-else-is_empty-clause-read_back c =
    IfOk-hex_field_of c.encode.result c.args.bytes.now (search rules) (λ i. omega (arith, c.type_inv.bytes i)) c.encode.ensures
