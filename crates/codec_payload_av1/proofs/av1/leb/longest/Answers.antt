use Rattle.std.proofs.Common.{◌≡◌, ℕ, ◌+◌, ◌-◌, ◌<◌, ◌≤◌, length, inl, inr, arith}
use Rattle.std.proofs.lemmas.Bool.{cases_lt}
use Rattle.codec_payload_base.specs.Leb.{leb}
use Rattle.codec_payload_av1.proofs.Av1PayloadLengths.{leb_len_some, leb_len_most, leb_len_rises}
use Rattle.codec_payload_av1.proofs.av1.leb.longest.Goals as goal

none_fits : (room len : ℕ) → room ≤ len → room < (room - (len - 1)) + length (leb (room - (len - 1))) → room < 1 + length (leb 1)
none_fits room len le so_far =
    elim (cases_lt (room - (len - 1)) 1) [
      | inl no_byte ↦ omega (arith, so_far, leb_len_rises (room - (len - 1)) 1 (omega arith))
      | inr byte ↦ omega (arith, so_far, leb_len_rises (room - (len - 1)) 1 (omega arith))
    ]

last_fits : (room result : ℕ) → result ≡ room - 10 → 0 < result → result + length (leb result) ≤ room
last_fits room result is some = omega (arith, is, leb_len_most result)

last_most : (room result : ℕ) → result ≡ room - 10 → room < (room - 9) + length (leb (room - 9)) → room < result + 1 + length (leb (result + 1))
last_most room result is so_far = omega (arith, is, so_far, leb_len_rises (room - 9) (result + 1) (omega arith))

pub loop-len-init : goal.loop-len-init
loop-len-init c = omega (arith, leb_len_some (c.args.room - 0))

pub returns-then-room-len-clause-most : goal.returns-then-room-len-clause-most
returns-then-room-len-clause-most c = none_fits c.args.room c.loop-len.len c.if-room-len.true c.loop-len.invariant

pub returns-clause-fits : goal.returns-clause-fits
returns-clause-fits c = λ some. last_fits c.args.room c.saturating_sub.result c.saturating_sub.ensures some

pub returns-clause-most : goal.returns-clause-most
returns-clause-most c =
    let ten : c.loop-len.len ≡ 10 = omega arith in
    let so_far : c.args.room < (c.args.room - 9) + length (leb (c.args.room - 9)) = rw ten at c.loop-len.invariant in
    last_most c.args.room c.saturating_sub.result c.saturating_sub.ensures so_far
