use Rattle.std.proofs.Common.{arith, nat_eq, not, get_or}
use Rattle.std.proofs.lemmas.Grind.{common_steps}
use Rattle.std.specs.Int.Bits.{bit_and}
use Rattle.codec_payload_base.proofs.TelephoneLemmas.{written_again}
use Rattle.codec_payload_base.proofs.interface.TelephoneEvent.parse.Goals as goal

pub returns-clause-written : goal.returns-clause-written
returns-clause-written c = λ few.
    let bytes = c.args.buf.now in
    written_again bytes c.args.rate
    (record { event = get_or bytes 0 0; end = not (nat_eq (bit_and (get_or bytes 1 0) 128) 0); volume = bit_and (get_or bytes 1 0) 63; duration = c.duration_from_units.result })
    c.duration_from_units.ensures.rated few (λ i. omega (arith, c.type_inv.buf i)) (grind (arith, common_steps))
