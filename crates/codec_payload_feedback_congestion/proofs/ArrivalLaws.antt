-- A number that arrived is reported.
use Rattle.std.proofs.Common.{◌≡◌, ◌⊎◌, ℕ, zero, suc, ◌+◌, ◌-◌, ◌%◌, ◌<◌, ◌≤◌, List, [], ◌∷◌, ◌++◌, length, get_or, set, take, drop, replicate, min, Bool, true, false, slice_get, slice_set, Option, Some, None, refl, sym, ap, ◌∙◌, subst, arith, append_assoc, length-append, inl, inr}
use Rattle.std.proofs.lemmas.Bool.{cases_eq, cases_lt, eq-eqb, le-leb, le-ltb, lt-leb, lt-ltb, ne_eqb}
use Rattle.std.proofs.lemmas.List.{get_or-drop, get_or_at, get_or-set_same, length-drop, length-replicate, length-set}
use Rattle.std.proofs.lemmas.Option.{slice_get-get_or}
use Rattle.codec_payload_feedback_congestion.specs.Arrivals.{ArrivalsAreReported, IsLog, IsUnreported, Log, added, ahead_of, arrived, arrived_ahead, arrived_by, arrived_late, begun, filled_if, windowed}

place_is : (start len number gap : ℕ) → number < 65536 → gap ≡ ahead_of start len number → (start + (len + gap)) % 65536 ≡ number
place_is start len number gap small is = omega (arith, small, is)

moved : (start len number gap k index : ℕ) → number < 65536 → gap ≡ ahead_of start len number → k + index ≡ len + gap → ((start + k) % 65536 + index) % 65536 ≡ number
moved start len number gap k index small is sum =
    let place : (start + (len + gap)) % 65536 ≡ number = place_is start len number gap small is in
    let same : start + (len + gap) ≡ start + k + index = omega (arith, sum) in
    let both : ((start + k) % 65536 + index) % 65536 ≡ (start + k + index) % 65536 = omega arith in
    both ∙ ap (λ (n : ℕ). n % 65536) (sym same) ∙ place

behind : (start len number gap back : ℕ) → number < 65536 → gap ≡ ahead_of start len number → gap < 65536 → back ≡ 65536 - gap → back ≤ len → (start + (len - back)) % 65536 ≡ number
behind start len number gap back small is most e within =
    let place : (start + (len + gap)) % 65536 ≡ number = place_is start len number gap small is in
    let same : start + (len + gap) ≡ start + (len - back) + 65536 = omega (arith, e, most, within) in
    let both : (start + (len - back) + 65536) % 65536 ≡ (start + (len - back)) % 65536 = omega arith in
    sym both ∙ ap (λ (n : ℕ). n % 65536) (sym same) ∙ place

begun_unreported : (l : Log) (number time : ℕ) → number < 65536 → IsUnreported number time (begun number time l)
begun_unreported l number time small = (0, refl, omega (arith, small), omega arith)

last_slot : (slots : List (Option ℕ)) (gap k index time : ℕ) → k + index ≡ length slots + gap → k ≤ length slots + gap → slice_get (drop k (slots ++ (replicate gap None ++ Some time ∷ []))) index ≡ Some (Some time)
last_slot slots gap k index time e some =
    let none : Option ℕ = None in
    let full : List (Option ℕ) = slots ++ (replicate gap none ++ Some time ∷ []) in
    let full_is : full ≡ (slots ++ replicate gap none) ++ Some time ∷ [] = sym (append_assoc slots (replicate gap none) (Some time ∷ [])) in
    let front : length (slots ++ replicate gap none) ≡ k + index = length-append slots (replicate gap none) ∙ ap (λ (n : ℕ). length slots + n) (length-replicate gap none) ∙ sym e in
    let long : length full ≡ length slots + (gap + 1) = length-append slots (replicate gap none ++ Some time ∷ []) ∙ ap (λ (n : ℕ). length slots + n) (length-append (replicate gap none) (Some time ∷ []) ∙ ap (λ (n : ℕ). n + 1) (length-replicate gap none)) in
    let within : index < length (drop k full) = omega (arith, length-drop k full, long, e) in
    slice_get-get_or (drop k full) index none within
    ∙ ap (λ (o : Option ℕ). Some o) (get_or-drop k full index none ∙ ap (λ (t : List (Option ℕ)). get_or t (k + index) none) full_is ∙ get_or_at (slots ++ replicate gap none) (Some time) [] none (k + index) front)

added_unreported : (l : Log) (number gap time : ℕ) → IsLog l → l.start < 65536 → number < 65536 → gap ≡ ahead_of l.start (length l.slots) number → gap < l.window → IsUnreported number time (windowed (added gap time l))
added_unreported l number gap time h start small is less =
    let none : Option ℕ = None in
    let full : List (Option ℕ) = l.slots ++ (replicate gap none ++ Some time ∷ []) in
    let long : length full ≡ length l.slots + (gap + 1) = length-append l.slots (replicate gap none ++ Some time ∷ []) ∙ ap (λ (n : ℕ). length l.slots + n) (length-append (replicate gap none) (Some time ∷ []) ∙ ap (λ (n : ℕ). n + 1) (length-replicate gap none)) in
    let k : ℕ = length full - l.window in
    let index : ℕ = length l.slots + gap - k in
    let fits : k ≤ length l.slots = omega (arith, long, less) in
    let sum : k + index ≡ length l.slots + gap = omega (arith, fits) in
    (index, last_slot l.slots gap k index time sum (omega (arith, fits)), moved l.start (length l.slots) number gap k index small is sum, omega (arith, h.reported, fits, sum))

filled_unreported : (l : Log) (number index time : ℕ) (o : Option (Option ℕ)) → slice_get l.slots index ≡ o → index < length l.slots → (l.start + index) % 65536 ≡ number
    → (filled_if o index time l ≡ l) ⊎ IsUnreported number time (filled_if o index time l)
filled_unreported l number index time None e within place = inl refl
filled_unreported l number index time (Some (Some t)) e within place = inl refl
filled_unreported l number index time (Some None) e within place =
    let some : Option ℕ = Some time in
    let in_set : index < length (slice_set l.slots index some) = omega (arith, within, length-set l.slots index some) in
    inr (index, slice_get-get_or (slice_set l.slots index some) index some in_set ∙ ap (λ (o : Option ℕ). Some o) (get_or-set_same l.slots index some some within), place, omega arith)

late_unreported : (l : Log) (number ahead back time : ℕ) → IsLog l → l.start < 65536 → number < 65536 → ahead ≡ ahead_of l.start (length l.slots) number → 32768 ≤ ahead → ahead < 65536 → back ≡ 65536 - ahead
    → (arrived_late back time l ≡ l) ⊎ IsUnreported number time (arrived_late back time l)
late_unreported l number ahead back time h start small is least most e =
    elim (cases_lt (length l.slots) back) [
      | inl past ↦ rw (lt-leb back (length l.slots) past) (inl refl)
      | inr in_window ↦ rw (le-leb back (length l.slots) in_window)
          (filled_unreported l number (length l.slots - back) time (slice_get l.slots (length l.slots - back)) refl (omega (arith, e, most, in_window)) (behind l.start (length l.slots) number ahead back small is most e in_window))
    ]

some_unreported : (l : Log) (number ahead time : ℕ) → IsLog l → l.start < 65536 → number < 65536 → ahead ≡ ahead_of l.start (length l.slots) number → (arrived_by ahead number time l ≡ l) ⊎ IsUnreported number time (arrived_by ahead number time l)
some_unreported l number ahead time h start small is =
    let most : ahead < 65536 = omega (arith, is) in
    elim (cases_lt ahead 32768) [
      | inl before ↦ rw (lt-ltb ahead 32768 before) (elim (cases_lt ahead l.window) [
        | inl less ↦ rw (lt-ltb ahead l.window less) (inr (added_unreported l number ahead time h start small is less))
        | inr past ↦ rw (le-ltb ahead l.window past) (inr (begun_unreported l number time small))
      ])
      | inr least ↦ rw (le-ltb ahead 32768 least) (late_unreported l number ahead (65536 - ahead) time h start small is least most refl)
    ]

pub arrivals_reported : ArrivalsAreReported
arrivals_reported l number time h start small =
    elim (cases_eq (length l.slots) 0) [
      | inl none ↦ rw (eq-eqb (length l.slots) 0 none) (inr (begun_unreported l number time small))
      | inr some ↦ rw (ne_eqb (length l.slots) 0 some) (some_unreported l number (ahead_of l.start (length l.slots) number) time h start small refl)
    ]
