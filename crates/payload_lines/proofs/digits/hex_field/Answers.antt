use Rattle.std.proofs.Common.{rules, ◌≡◌, Err}
use Rattle.hex.specs.Hex.{decode_of}
use Rattle.payload_lines.proofs.HexFieldLemmas.{hex_field_of-decoded, hex_field_of-refused}
use Rattle.payload_lines.proofs.digits.hex_field.Goals as goal

pub returns-in-Ok-clause-value : goal.returns-in-Ok-clause-value
returns-in-Ok-clause-value c = hex_field_of-decoded c.args.text.now c.in-Ok.bytes.items (search rules) (search rules) c.in-Ok.ensures.ok

pub returns-in-Err-clause-value : goal.returns-in-Err-clause-value
returns-in-Err-clause-value c =
    let refused : decode_of c.args.text.now ≡ Err c.in-Err.field-0 = search rules in
    hex_field_of-refused c.args.text.now c.in-Err.field-0 (search rules) refused
