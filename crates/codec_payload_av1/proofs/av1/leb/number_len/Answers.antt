use Rattle.std.proofs.Common.{◌≡◌, ℕ, suc, ◌+◌, ◌-◌, ◌/◌, ◌<◌, ◌≤◌, length, arith}
use Rattle.std.proofs.lemmas.Bool.{le-ltb}
use Rattle.codec_payload_base.specs.Leb.{leb, leb_within}
use Rattle.codec_payload_av1.proofs.av1.leb.number_len.Goals as goal

one_more : (len i n : ℕ) → 1 ≤ i → i < 10 → 128 ≤ n → len ≡ (i - 1) + length (leb_within (10 - i) n) → len ≡ (i + 1 - 1) + length (leb_within (10 - (i + 1)) (n / 128))
one_more len i n ge lt le so_far =
    let k : 10 - i ≡ suc (10 - (i + 1)) = omega arith in
    let more : len ≡ (i - 1) + suc (length (leb_within (10 - (i + 1)) (n / 128))) = rw (k, le-ltb n 128 le) at so_far in
    omega (arith, more)

pub loop-i-init : goal.loop-i-init
unfolding leb
loop-i-init c = omega arith

pub loop-i-preserved : goal.loop-i-preserved
loop-i-preserved c = one_more _ c.loop-i.i c.loop-i.rest c.loop-i.auto.i c.loop-i-test.true c.if-rest-lt128.false c.loop-i.invariant
