-- Rules on a byte that are proved once, by a test of all 256 values.
use Rattle.std.proofs.Common.{◌≡◌, ℕ, zero, suc, ◌*◌, ◌/◌, ◌%◌, ◌<◌, ◌≤◌, Bool, true, eqb, ◌&&◌, inl, inr, refl, ap, ◌∙◌, arith}
use Rattle.std.specs.Int.Bits.{bit_and}
use Rattle.std.proofs.Math.Nat.{eq-or-lt_of_le}
use Rattle.std.proofs.lemmas.Bool.{eqb-true, and_parts}

-- the test holds below n
abbrev pub holds_below : ℕ → (ℕ → Bool) → Bool
holds_below zero p = true
holds_below (suc n) p = p n && holds_below n p

pub below_each : (n : ℕ) (p : ℕ → Bool) → holds_below n p ≡ true → (k : ℕ) → k < n → p k ≡ true
below_each zero p h k l = absurd (omega arith)
below_each (suc n) p h k l =
    let both = and_parts (p n) (holds_below n p) h in
    let near : k ≤ n = omega arith in
    elim (eq-or-lt_of_le near) [ inl e ↦ ap p e ∙ both.0 | inr below ↦ below_each n p both.1 k below ]

-- the bits of an AMR-WB table of contents entry stay
pub and_124 : (b : ℕ) → b < 256 → bit_and b 124 ≡ b / 4 % 32 * 4
and_124 b h = eqb-true (bit_and b 124) (b / 4 % 32 * 4) (below_each 256 (λ b. eqb (bit_and b 124) (b / 4 % 32 * 4)) refl b h)
