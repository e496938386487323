-- Numbers of a stream with FEC.
use Rattle.std.proofs.Common.{◌≡◌, ℕ, zero, suc, ◌+◌, ◌-◌, ◌%◌, ◌<◌, ◌≤◌, false, List, [], ◌∷◌, length, get_or, map, take, drop, refl, sym, ap, subst, ◌∙◌, inl, inr, arith, add-one, leb, ltb}
use Rattle.std.proofs.lemmas.Bool.{le-leb, le-ltb}
use Rattle.std.proofs.lemmas.Bool.Decides.{leb_tells}
use Rattle.std.proofs.lemmas.List.{length-map, take-map}
use Rattle.codec_payload_sending_fec.specs.Steps.{step_of, steps_of}
use Rattle.codec_payload_sending_fec.specs.StreamNumbers.{Step, latest, without_later}
use Rattle.codec_payload_sending_fec.specs.declared.stream_numbers.FecStep.{FecStep}

not_le : (a b : ℕ) → b < a → leb a b ≡ false
not_le a b h = elim (leb_tells a b) [ inl x ↦ absurd (omega (arith, h, x.1)) | inr x ↦ x.0 ]

-- a step of FEC that is behind the number does not count
more : (n sent i : ℕ) (xs : List FecStep) (d : FecStep) → i < length xs → n ≤ (get_or xs i d).behind
    → without_later n sent (drop i (steps_of xs)) ≡ without_later n ((sent + 65536 - (get_or xs i d).count) % 65536) (drop (suc i) (steps_of xs))
unfolding without_later
more n sent i [] d h le = absurd (omega (arith, h))
more n sent zero (x ∷ xs) d h le = rw (le-leb n x.behind le) refl
more n sent (suc i) (x ∷ xs) d h le = more n sent i xs d (omega (arith, h)) le

pub later_more : (n sent i : ℕ) (xs : List FecStep) (d : FecStep) → i < length xs → n ≤ (get_or xs i d).behind
    → without_later n ((sent + 65536 - (get_or xs i d).count) % 65536) (drop (i + 1) (steps_of xs)) ≡ without_later n sent (drop i (steps_of xs))
later_more n sent i xs d h le = rw add-one (sym (more n sent i xs d h le))

-- all steps from that one on are below the number
pub later_done : (n sent i : ℕ) (xs : List FecStep) (d : FecStep) → i < length xs → (get_or xs i d).behind < n → without_later n sent (drop i (steps_of xs)) ≡ sent
unfolding without_later
later_done n sent i [] d h gt = absurd (omega (arith, h))
later_done n sent zero (x ∷ xs) d h gt = rw (not_le n x.behind gt) refl
later_done n sent (suc i) (x ∷ xs) d h gt = later_done n sent i xs d (omega (arith, h)) gt

pub later_end : (n sent i : ℕ) (xs : List FecStep) → length xs ≤ i → without_later n sent (drop i (steps_of xs)) ≡ sent
unfolding without_later
later_end n sent zero [] h = refl
later_end n sent (suc i) [] h = refl
later_end n sent zero (x ∷ xs) h = absurd (omega (arith, h))
later_end n sent (suc i) (x ∷ xs) h = later_end n sent i xs (omega (arith, h))

pub later_next : (n sent next i : ℕ) (xs : List FecStep) (d : FecStep) → i < length xs → d ≡ get_or xs i d → n ≤ d.behind → next ≡ (sent + 65536 - d.count) % 65536
    → without_later n next (drop (i + 1) (steps_of xs)) ≡ without_later n sent (drop i (steps_of xs))
later_next n sent next i xs d h is le e =
    let low : n ≤ (get_or xs i d).behind = subst (λ (y : FecStep). n ≤ y.behind) is le in
    let count : (sent + 65536 - d.count) % 65536 ≡ (sent + 65536 - (get_or xs i d).count) % 65536 = ap (λ (x : FecStep). (sent + 65536 - x.count) % 65536) is in
    ap (λ (m : ℕ). without_later n m (drop (i + 1) (steps_of xs))) (e ∙ count) ∙ later_more n sent i xs d h low

pub later_here : (n sent i : ℕ) (xs : List FecStep) (d : FecStep) → i < length xs → d ≡ get_or xs i d → d.behind < n → sent ≡ without_later n sent (drop i (steps_of xs))
later_here n sent i xs d h is gt =
    let high : (get_or xs i d).behind < n = subst (λ (y : FecStep). y.behind < n) is gt in
    sym (later_done n sent i xs d h high)

pub latest_is : (xs ys : List FecStep) → ys ≡ take 63 xs → 64 ≤ length xs → steps_of ys ≡ latest (steps_of xs)
latest_is xs ys is many =
    let long : ltb (length (steps_of xs)) 64 ≡ false = le-ltb (length (steps_of xs)) 64 (omega (arith, many, length-map xs step_of)) in
    ap steps_of is ∙ sym (take-map step_of 63 xs) ∙ rw long refl
