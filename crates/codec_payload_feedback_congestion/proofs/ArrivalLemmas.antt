-- Slots that follow one another.
use Rattle.std.proofs.Common.{◌≡◌, ℕ, zero, suc, ◌+◌, ◌-◌, ◌%◌, ◌<◌, ◌≤◌, List, [], ◌∷◌, ◌++◌, length, get_or, set, take, drop, replicate, min, not, Bool, true, false, is_some, slice_get, slice_set, Option, Some, None, refl, sym, ap, ◌∙◌, subst, arith, append_assoc, length-append}
use Rattle.std.proofs.lemmas.Option.{slice_get_read}
use Rattle.std.proofs.lemmas.List.{append-nil, take_all, replicate_more, set_at, set-append_right, length-drop, length-replicate, length-set}
use Rattle.codec_payload_feedback_congestion.specs.Arrivals.{AreTimes, IsLog, IsTime, Log, filled_if}

pub begin_is : (xs : List (Option ℕ)) (s : Option ℕ) → set (take 1 xs ++ replicate (1 - length xs) None) 0 s ≡ s ∷ []
begin_is [] s = refl
begin_is (x ∷ xs) s = let none : 1 - length (x ∷ xs) ≡ 0 = omega arith in ap (λ (n : ℕ). set (take 1 (x ∷ xs) ++ replicate n None) 0 s) none

pub append_is : (xs : List (Option ℕ)) (gap last n : ℕ) (s : Option ℕ) → last ≡ length xs + gap → n ≡ last + 1 → set (take n xs ++ replicate (n - length xs) None) last s ≡ xs ++ (replicate gap None ++ s ∷ [])
append_is xs gap last n s e is =
    let all : take n xs ≡ xs = take_all n xs (omega (arith, e, is)) in
    let more : n - length xs ≡ gap + 1 = omega (arith, e, is) in
    let at : last - length xs ≡ gap = omega (arith, e) in
    ap (λ (t : List (Option ℕ)). set (t ++ replicate (n - length xs) None) last s) all
    ∙ ap (λ (i : ℕ). set (xs ++ replicate i None) last s) more
    ∙ set-append_right xs (replicate (gap + 1) None) (length xs) last s refl (omega (arith, e))
    ∙ ap (λ (t : List (Option ℕ)). xs ++ t)
    (ap (λ (i : ℕ). set (replicate (gap + 1) None) i s) at ∙ ap (λ (t : List (Option ℕ)). set t gap s) (sym (replicate_more gap (none_slot)))
    ∙ set_at (replicate gap None) None [] s gap (length-replicate gap (none_slot)))
  where
    none_slot : Option ℕ
    none_slot = None

pub times_append : (xs ys : List (Option ℕ)) → AreTimes xs → AreTimes ys → AreTimes (xs ++ ys)
times_append [] ys h k = k
times_append (x ∷ xs) ys h k = (h.0, times_append xs ys h.1 k)

pub times_none : (n : ℕ) → AreTimes (replicate n None)
times_none zero = tt
times_none (suc n) = (tt, times_none n)

pub times_added : (xs : List (Option ℕ)) (gap time : ℕ) → AreTimes xs → time < 4294967296 → AreTimes (xs ++ (replicate gap None ++ Some time ∷ []))
times_added xs gap time h small = times_append xs (replicate gap None ++ Some time ∷ []) h (times_append (replicate gap None) (Some time ∷ []) (times_none gap) (small, tt))

pub times_drop : (n : ℕ) (xs : List (Option ℕ)) → AreTimes xs → AreTimes (drop n xs)
times_drop zero xs h = h
times_drop (suc n) [] h = tt
times_drop (suc n) (x ∷ xs) h = times_drop n xs h.1

pub times_set : (xs : List (Option ℕ)) (i time : ℕ) → AreTimes xs → time < 4294967296 → AreTimes (set xs i (Some time))
times_set [] i time h small = tt
times_set (x ∷ xs) zero time h small = (small, h.1)
times_set (x ∷ xs) (suc i) time h small = (h.0, times_set xs i time h.1 small)

-- ---- filling

pub filled_now : (l now : Log) (index time reported : ℕ) (s : Option ℕ) (b : Bool) → reported ≡ min l.reported index → l ≡ now → index < length l.slots → s ≡ get_or l.slots index s → is_some s ≡ not b → b ≡ true
    → record l { slots = slice_set l.slots index (Some time); reported = reported } ≡ filled_if (slice_get now.slots index) index time now
filled_now l now index time reported (Some t) b least e within is test t_is = absurd cc
filled_now l now index time reported None b least e within is test t_is =
    ap (λ (n : ℕ). record l { slots = slice_set l.slots index (Some time); reported = n }) least ∙ (
    let at : slice_get l.slots index ≡ Some None = slice_get_read l.slots (length l.slots) index None refl within is in
    sym (ap (λ (m : Log). filled_if (slice_get m.slots index) index time m) (sym e) ∙ ap (λ (o : Option (Option ℕ)). filled_if o index time l) at))

pub kept_now : (l now : Log) (index time : ℕ) (s : Option ℕ) (b : Bool) → l ≡ now → index < length l.slots → s ≡ get_or l.slots index s → is_some s ≡ not b → b ≡ false → now ≡ filled_if (slice_get now.slots index) index time now
kept_now l now index time None b e within is test f_is = absurd cc
kept_now l now index time (Some t) b e within is test f_is =
    let at : slice_get l.slots index ≡ Some (Some t) = slice_get_read l.slots (length l.slots) index (Some t) refl within is in
    sym (ap (λ (m : Log). filled_if (slice_get m.slots index) index time now) (sym e) ∙ ap (λ (o : Option (Option ℕ)). filled_if o index time now) at)

pub is_filled : (l : Log) (index time reported : ℕ) → reported ≡ min l.reported index → IsLog l → index < length l.slots → time < 4294967296 → IsLog (record l { slots = slice_set l.slots index (Some time); reported = reported })
is_filled l index time reported least h within small = record {
  some = h.some;
  few = h.few;
  within = omega (arith, length-set l.slots index (let o : Option ℕ = Some time in o), h.within);
  reported = omega (arith, length-set l.slots index (let o : Option ℕ = Some time in o), h.reported, least);
  times = times_set l.slots index time h.times small;
}

-- ---- adding

pub is_windowed : (l : Log) (gap time excess : ℕ) (slots rest : List (Option ℕ)) (reported start : ℕ) → IsLog l → time < 4294967296 → slots ≡ l.slots ++ (replicate gap None ++ Some time ∷ []) → excess ≡ length slots - l.window → rest ≡ drop excess slots → reported ≡ l.reported - excess
    → IsLog (record l { start = start; slots = rest; reported = reported })
is_windowed l gap time excess slots rest reported start h small e cut is less =
    let long : length slots ≡ length l.slots + (gap + 1) =
    ap length e ∙ length-append l.slots (replicate gap None ++ Some time ∷ []) ∙ ap (λ (n : ℕ). length l.slots + n) (length-append (replicate gap None) (let o : List (Option ℕ) = Some time ∷ [] in o) ∙ ap (λ (n : ℕ). n + 1) (length-replicate gap (let o : Option ℕ = None in o))) in
    let left : length rest ≡ length slots - excess = ap length is ∙ length-drop excess slots in
    record {
      some = h.some;
      few = h.few;
      within = omega (arith, left, cut);
      reported = omega (arith, left, cut, less, long, h.reported);
      times = subst AreTimes (sym is) (times_drop excess slots (subst AreTimes (sym e) (times_added l.slots gap time h.times small)));
    }
