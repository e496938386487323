-- Reading elements one after the other, as a loop does.
use Rattle.std.proofs.Common.{◌≡◌, ℕ, zero, suc, ◌≤◌, ◌<◌, List, [], ◌∷◌, length, Option, Some, None, refl, arith}
use Rattle.codec_payload_av1.specs.Av1Reading.{◌>>=◌}
use Rattle.codec_payload_av1.specs.Av1Payload.{element_at, each_at}
use Rattle.codec_payload_av1.proofs.Av1PayloadLengths.{element_at_len, leb_len_some}

pub shorter : (bytes e rest : List ℕ) → element_at bytes ≡ Some (e, rest) → length rest < length bytes
shorter bytes e rest is = omega (arith, element_at_len bytes (e, rest) is, leb_len_some (length e))

-- fuel beyond the length changes nothing
same_step : (k j : ℕ) (bytes : List ℕ) (r : Option (List ℕ × List ℕ)) → element_at bytes ≡ r → ((x : List ℕ × List ℕ) → r ≡ Some x → each_at k x.1 ≡ each_at j x.1)
    → (r >>= λ e. each_at k e.1 >>= λ es. Some (e.0 ∷ es)) ≡ (r >>= λ e. each_at j e.1 >>= λ es. Some (e.0 ∷ es))
same_step k j bytes None is same = refl
same_step k j bytes (Some x) is same = rw (same x refl) refl

fuel : (k j : ℕ) (bytes : List ℕ) → length bytes ≤ k → length bytes ≤ j → each_at k bytes ≡ each_at j bytes
unfolding each_at
fuel k j [] a b = refl
fuel zero j (c ∷ bytes) a b = absurd (omega (arith, a))
fuel (suc k) zero (c ∷ bytes) a b = absurd (omega (arith, b))
fuel (suc k) (suc j) (c ∷ bytes) a b = same_step k j (c ∷ bytes) (element_at (c ∷ bytes)) refl
    (λ x is. fuel k j x.1 (omega (arith, a, shorter (c ∷ bytes) x.0 x.1 is)) (omega (arith, b, shorter (c ∷ bytes) x.0 x.1 is)))

pub each_cons : (bytes e rest : List ℕ) → 0 < length bytes → element_at bytes ≡ Some (e, rest) → each_at (length bytes) bytes ≡ (each_at (length rest) rest >>= λ es. Some (e ∷ es))
unfolding each_at
each_cons [] e rest lt is = absurd (omega (arith, lt))
each_cons (c ∷ bytes) e rest lt is = rw (is, fuel (length bytes) (length rest) rest (omega (arith, shorter (c ∷ bytes) e rest is)) (omega arith)) refl
