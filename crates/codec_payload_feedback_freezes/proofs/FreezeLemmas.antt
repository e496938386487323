-- After one more frame, what is kept is what the rule says of all times.
use Rattle.std.proofs.Common.{◌≡◌, ◌≤◌, ◌+◌, ◌-◌, ◌*◌, ◌^◌, ◌%◌, ◌∙◌, ℕ, zero, suc, min, Bool, true, false, List, [], ◌∷◌, ◌++◌, Some, length, replicate, take, drop, set, refl, ap, arith}
use Rattle.std.specs.Prelude.{if◌then◌else◌, nat_le, ◌&&◌}
use Rattle.codec_payload_feedback_freezes.specs.Freezes.{after_frame, counted, counts_of, watched}
use Rattle.codec_payload_feedback_freezes.specs.Rule.{durations, frozen_of, is_freeze, Rises, total}

-- zeros behind a list add nothing
pub total_zeros : (n m : ℕ) → total (take n (replicate m 0)) ≡ 0
total_zeros zero m = refl
total_zeros (suc n) zero = refl
total_zeros (suc n) (suc m) = omega (arith, total_zeros n m)

pub total_padded : (n m : ℕ) (ds : List ℕ) → total (take n (ds ++ replicate m 0)) ≡ total (take n ds)
total_padded zero m ds = refl
total_padded (suc n) m [] = total_zeros (suc n) m
total_padded (suc n) m (d ∷ ds) = ap (λ x. d + x) (total_padded n m ds)

-- a front of a longer front
pub take_less : (n : ℕ) (ds : List ℕ) → take n (take (suc n) ds) ≡ take n ds
take_less zero ds = refl
take_less (suc n) [] = refl
take_less (suc n) (d ∷ ds) = ap (λ x. d ∷ x) (take_less n ds)

pub length_front : (n : ℕ) (ds : List ℕ) → length (take n ds) ≡ min (length ds) n
length_front zero ds = omega arith
length_front (suc n) [] = omega arith
length_front (suc n) (d ∷ ds) = omega (arith, length_front n ds)

-- each duration moves by one place
pub shifted : (n d : ℕ) (ds : List ℕ) → length ds ≡ suc n → set ((take 1 ds ++ take n ds) ++ drop (suc n) ds) 0 d ≡ d ∷ take n ds
shifted n d [] h = absurd (omega (arith, h))
shifted n d (x ∷ ds) h = ap (λ l. d ∷ l) (front_rest n (x ∷ ds) h)
  where
    front_rest : (n : ℕ) (xs : List ℕ) → length xs ≡ suc n → take n xs ++ drop (suc n) xs ≡ take n xs
    front_rest zero [] h = absurd (omega (arith, h))
    front_rest zero (y ∷ []) h = refl
    front_rest zero (y ∷ z ∷ ys) h = absurd (omega (arith, h))
    front_rest (suc n) [] h = absurd (omega (arith, h))
    front_rest (suc n) (y ∷ ys) h = ap (λ x. y ∷ x) (front_rest n ys (omega (arith, h)))

-- one more freeze, or none
counts_more : (b : Bool) (d : ℕ) (frozen : List ℕ)
    → (if b then counted d (counts_of frozen) else counts_of frozen) ≡ counts_of (if b then d ∷ frozen else frozen)
counts_more false d frozen = refl
counts_more true d frozen = λ i. record { freezes = one_more i; frozen = longer i }
  where
    one_more : (length frozen % 2 ^ 64 + 1) % 2 ^ 64 ≡ length (d ∷ frozen) % 2 ^ 64
    one_more = omega arith

    longer : (total frozen % 2 ^ 64 + d) % 2 ^ 64 ≡ total (d ∷ frozen) % 2 ^ 64
    longer = omega arith

-- a test by the same sum and the same number
same_test : (rate d t k : ℕ) (averaged : List ℕ) → t ≡ total averaged → k ≡ length averaged
    → (nat_le (3 * t) (k * d) && nat_le (20 * t + 3 * rate * k) (20 * k * d)) ≡ is_freeze rate averaged d
same_test rate d t k averaged e f = λ i. nat_le (3 * e i) (f i * d) && nat_le (20 * e i + 3 * rate * f i) (20 * f i * d)

pub follows : (rate time : ℕ) (times : List ℕ) → after_frame time (watched rate times) ≡ watched rate (time ∷ times)
follows rate time [] = refl
follows rate time (before ∷ times) = λ i. record {
  tick_rate = rate;
  last = Some time;
  latest = d ∷ take_less 29 (ds ++ replicate 30 0) i;
  known = known i;
  counts = (ap (λ b. if b then counted d (counts_of (frozen_of rate ds)) else counts_of (frozen_of rate ds)) test ∙ counts_more (is_freeze rate (take 30 (d ∷ ds)) d) d (frozen_of rate ds)) i;
}
  where
    d : ℕ
    d = time - before

    ds : List ℕ
    ds = durations (before ∷ times)

    known : min (min (length ds) 30 + 1) 30 ≡ min (length (d ∷ ds)) 30
    known = omega arith

    sum : total (d ∷ take 29 (take 30 (ds ++ replicate 30 0))) ≡ total (take 30 (d ∷ ds))
    sum = ap (λ l. d + total l) (take_less 29 (ds ++ replicate 30 0)) ∙ ap (λ n. d + n) (total_padded 29 30 ds)

    many : min (min (length ds) 30 + 1) 30 ≡ length (take 30 (d ∷ ds))
    many = omega (arith, length_front 30 (d ∷ ds), known)

    test : (nat_le (3 * total (d ∷ take 29 (take 30 (ds ++ replicate 30 0)))) (min (min (length ds) 30 + 1) 30 * d)
        && nat_le (20 * total (d ∷ take 29 (take 30 (ds ++ replicate 30 0))) + 3 * rate * min (min (length ds) 30 + 1) 30) (20 * min (min (length ds) 30 + 1) 30 * d))
        ≡ is_freeze rate (take 30 (d ∷ ds)) d
    test = same_test rate d (total (d ∷ take 29 (take 30 (ds ++ replicate 30 0)))) (min (min (length ds) 30 + 1) 30) (take 30 (d ∷ ds)) sum many

-- the freezes are among the durations
frozen_more : (b : Bool) (d all : ℕ) (frozen : List ℕ) → total frozen ≤ all → total (if b then d ∷ frozen else frozen) ≤ d + all
frozen_more true d all frozen h = omega (arith, h)
frozen_more false d all frozen h = omega (arith, h)

frozen_within : (rate : ℕ) (ds : List ℕ) → total (frozen_of rate ds) ≤ total ds
frozen_within rate [] = omega arith
frozen_within rate (d ∷ ds) = frozen_more (is_freeze rate (take 30 (d ∷ ds)) d) d (total ds) (frozen_of rate ds) (frozen_within rate ds)

-- the durations fit between the first time and the last
durations_within : (time : ℕ) (times : List ℕ) → Rises (time ∷ times) → total (durations (time ∷ times)) ≤ time
durations_within time [] h = omega arith
durations_within time (before ∷ times) h = omega (arith, h.0, durations_within before times h.1)

pub fits : (rate time : ℕ) (times : List ℕ) → Rises (time ∷ times) → total (frozen_of rate (durations (time ∷ times))) ≤ time
fits rate time times h = omega (arith, frozen_within rate (durations (time ∷ times)), durations_within time times h)
