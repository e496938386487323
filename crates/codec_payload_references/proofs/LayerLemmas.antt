-- P_DIFFs, one after the other.
use Rattle.std.proofs.Common.{◌≡◌, ◌≢◌, ◌∙◌, ℕ, zero, suc, ◌<◌, ◌-◌, ◌^◌, ◌/◌, ◌∷◌, List, refl, ap, arith, true, false, Some, option_map}
use Rattle.std.specs.Int.Bits.{bit_and, bit_or}
use Rattle.std.proofs.lemmas.Bool.Decides.{nat_tests}
use Rattle.codec_payload_base.specs.Flags.{has_bit}
use Rattle.codec_payload_references.specs.LayerFrames.{differences_in}

pub last_difference : (n b : ℕ) (bs : List ℕ) → 0 < n → bit_and b 1 ≡ 0 → Some (2 ^ (b / 2)) ≡ differences_in n (b ∷ bs)
last_difference zero b bs some clear = absurd (omega (arith, some))
last_difference (suc n) b bs some clear = let t : has_bit b 0 ≡ false = grind (arith, nat_tests, clear) in rw t refl

pub next_difference : (n m b others : ℕ) (bs : List ℕ) → 0 < n → m ≡ n - 1 → bit_and b 1 ≢ 0 → Some others ≡ differences_in m bs
    → Some (bit_or (2 ^ (b / 2)) others) ≡ differences_in n (b ∷ bs)
next_difference zero m b others bs some before set is = absurd (omega (arith, some))
next_difference (suc n) m b others bs some before set is =
    let t : has_bit b 0 ≡ true = grind (arith, nat_tests, set) in
    let fewer : m ≡ n = omega (arith, before) in
    rw t (ap (option_map (bit_or (2 ^ (b / 2)))) (is ∙ ap (λ k. differences_in k bs) fewer))
