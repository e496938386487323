-- The missing numbers, one after another.
use Rattle.std.proofs.Common.{◌≡◌, refl, ℕ, ◌+◌, ◌-◌, ◌<◌, ◌≤◌, [], ◌∷◌, ◌∙◌, List, Bool, true, false, zero, suc, cond, ltb, ap, sym, subst, arith}
use Rattle.std.proofs.lemmas.Bool.Decides.{nat_tests}
use Rattle.codec_payload_buffer.specs.Held.{Held, has_number}
use Rattle.codec_payload_buffer.specs.HeldRows.{AreHeldFrom}
use Rattle.codec_payload_jitter.specs.Missing.{is_absent, numbers_between, absent_between}
use Rattle.codec_payload_jitter.specs.NoMediaNumbers.{is_in}
use Rattle.codec_payload_jitter.specs.Receiving.{Receiving}

numbers_step : (low high : ℕ) → low < high → numbers_between low high ≡ low ∷ numbers_between (low + 1) high
numbers_step low high below = let one : high - low ≡ suc (high - (low + 1)) = omega (arith, below) in rw one refl

pub absent_here : (r : Receiving) (low high : ℕ) → low < high → is_absent r low ≡ true → absent_between r low high ≡ low ∷ absent_between r (low + 1) high
absent_here r low high below absent = rw (numbers_step low high below) (by_test (is_absent r low) absent)
  where
    by_test : (b : Bool) → b ≡ true
        → cond b (low ∷ absent_between r (low + 1) high) (absent_between r (low + 1) high) ≡ low ∷ absent_between r (low + 1) high
    by_test true is = refl
    by_test false is = cc

pub absent_later : (r : Receiving) (low high : ℕ) → low < high → is_absent r low ≡ false → absent_between r low high ≡ absent_between r (low + 1) high
absent_later r low high below absent = rw (numbers_step low high below) (by_test (is_absent r low) absent)
  where
    by_test : (b : Bool) → b ≡ false
        → cond b (low ∷ absent_between r (low + 1) high) (absent_between r (low + 1) high) ≡ absent_between r (low + 1) high
    by_test true is = cc
    by_test false is = refl

pub absent_none : (r : Receiving) (low high : ℕ) → high ≤ low → absent_between r low high ≡ []
absent_none r low high past = let none : high - low ≡ 0 = omega (arith, past) in rw none refl

held_behind : (low k : ℕ) (ps : List Held) → AreHeldFrom low (suc k) ps → AreHeldFrom (low + 1) k ps
held_behind low k ps held = λ j l. let same : low + (j + 1) ≡ low + 1 + j = omega arith in subst (λ n. has_number n ps ≡ true) same (held (j + 1) (omega arith))

held_first : (low k : ℕ) (ps : List Held) → AreHeldFrom low (suc k) ps → has_number low ps ≡ true
held_first low k ps held = let same : low + 0 ≡ low = omega arith in subst (λ n. has_number n ps ≡ true) same (held 0 (omega arith))

-- held numbers are not missing
absent_held : (count : ℕ) (r : Receiving) (low high : ℕ) → AreHeldFrom low count r.buffer.held → absent_between r low high ≡ absent_between r (low + count) high
absent_held zero r low high held = let same : low + 0 ≡ low = omega arith in rw same refl
absent_held (suc k) r low high held = by_order (absent_held k r (low + 1) high (held_behind low k r.buffer.held held)) (ltb low high) refl
  where
    by_order : absent_between r (low + 1) high ≡ absent_between r (low + 1 + k) high → (b : Bool) → ltb low high ≡ b → absent_between r low high ≡ absent_between r (low + suc k) high
    by_order behind true e =
        let below : low < high = grind (arith, nat_tests, e) in
        let first = held_first low k r.buffer.held held in
        let none : is_absent r low ≡ false = rw first refl in
        let place : low + 1 + k ≡ low + suc k = omega arith in
        absent_later r low high below none ∙ behind ∙ ap (λ n. absent_between r n high) place
    by_order behind false e =
        let past : high ≤ low = grind (arith, nat_tests, e) in
        absent_none r low high past ∙ sym (absent_none r (low + suc k) high (omega (arith, past)))

-- a row of held numbers up to the end
pub absent_past : (count : ℕ) (r : Receiving) (low high : ℕ) → AreHeldFrom low count r.buffer.held → high ≤ low + count → absent_between r low high ≡ []
absent_past count r low high held past = absent_held count r low high held ∙ absent_none r (low + count) high past

-- a row of held numbers before a missing one
pub absent_free : (count : ℕ) (r : Receiving) (low high : ℕ) → AreHeldFrom low count r.buffer.held → low + count < high → has_number (low + count) r.buffer.held ≡ false
    → is_in (low + count) r.no_media_numbers ≡ false → absent_between r low high ≡ (low + count) ∷ absent_between r (low + count + 1) high
absent_free count r low high held below free media =
    let absent : is_absent r (low + count) ≡ true = rw (free, media) refl in
    absent_held count r low high held ∙ absent_here r (low + count) high below absent

-- a row of held numbers before one without media
pub absent_over : (count : ℕ) (r : Receiving) (low high : ℕ) → AreHeldFrom low count r.buffer.held → low + count < high → has_number (low + count) r.buffer.held ≡ false
    → is_in (low + count) r.no_media_numbers ≡ true → absent_between r low high ≡ absent_between r (low + count + 1) high
absent_over count r low high held below free media =
    let absent : is_absent r (low + count) ≡ false = rw (free, media) refl in
    absent_held count r low high held ∙ absent_later r (low + count) high below absent
