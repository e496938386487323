-- Packets of FEC that are held.
use Rattle.std.proofs.Common.{◌≡◌, ℕ, zero, suc, ◌+◌, ◌-◌, ◌<◌, Bool, false, cond, not, nat_lt, List, [], ◌∷◌, ◌++◌, drop, length, map, get_or, set, take, Option, Some, None, refl, sym, ap, ◌∙◌, arith}
use Rattle.std.specs.List.{position, position_or_len, remove}
use Rattle.std.proofs.lemmas.List.{map-set, get_or-map, length-map}
use Rattle.std.proofs.lemmas.List.Edits.{map_over_more}
use Rattle.codec_payload_fec.specs.FecReading.{fec_at}
use Rattle.codec_payload_fec.specs.Rebuilding.{found_in}
use Rattle.codec_payload_fec.specs.Stores.{Store}
use Rattle.codec_payload_fec_receiver.specs.declared.content.FecSettings.{FecSettings}
use Rattle.codec_payload_fec_receiver.specs.declared.fec_receiver.Verdict.{Verdict}
use Rattle.codec_payload_fec_receiver.specs.declared.fec_receiver.OpenFec.{OpenFec as LentFec}
use Rattle.codec_payload_fec_receiver.specs.States.{OpenFec, State, fec_at_place, first_due, held_fec, judged, marked, tried, tried_at, verdict_on, waiting, without}

pub map_remove : {X Y : Type 0} (f : X → Y) (xs : List X) (i : ℕ) → map f (remove xs i) ≡ remove (map f xs) i
map_remove f [] zero = refl
map_remove f [] (suc i) = refl
map_remove f (x ∷ xs) zero = refl
map_remove {Y} f (x ∷ xs) (suc i) = let P : List Y → List Y = λ ys. f x ∷ ys in ap P (map_remove f xs i)

place_map : (xs : List LentFec) → position_or_len (λ (o : LentFec). o.is_due) xs ≡ position_or_len (λ (o : OpenFec). o.is_due) (map held_fec xs)
place_map [] = refl
place_map (x ∷ xs) = ap (λ (n : ℕ). cond (not x.is_due) (1 + n) 0) (place_map xs)

pub position_map : (xs : List LentFec) → position (λ (o : LentFec). o.is_due) xs ≡ first_due (map held_fec xs)
position_map xs =
    ap (λ (n : ℕ). cond (nat_lt n (length xs)) (Some n) None) (place_map xs)
    ∙ ap (λ (m : ℕ). cond (nat_lt (position_or_len (λ (o : OpenFec). o.is_due) (map held_fec xs)) m) (Some (position_or_len (λ (o : OpenFec). o.is_due) (map held_fec xs))) None) (sym (length-map xs held_fec))

-- one more is marked
pub marked_more : (number i : ℕ) (fecs before : List LentFec) (fec d new : LentFec) → i < length before → length fecs ≡ length before
    → map held_fec fecs ≡ map (marked number) (take i (map held_fec before)) ++ drop i (map held_fec before) → fec ≡ get_or fecs i d → held_fec new ≡ marked number (held_fec fec)
    → map held_fec (set fecs i new) ≡ map (marked number) (take (i + 1) (map held_fec before)) ++ drop (i + 1) (map held_fec before)
marked_more number i fecs before fec d new small same so_far is became =
    let inside : i < length (map held_fec before) = omega (arith, small, length-map before held_fec) in
    let item : held_fec fec ≡ get_or (map held_fec fecs) i (held_fec fec) = ap held_fec is ∙ sym (get_or-map held_fec fecs i d (held_fec fec) (omega (arith, small, same))) in
    map-set held_fec fecs i new ∙ ap (λ (o : OpenFec). set (map held_fec fecs) i o) became ∙ map_over_more (marked number) (map held_fec before) (map held_fec fecs) i (held_fec fec) inside so_far item

-- ---- one packet of FEC is dropped, or waits

pub dropped_is : (settings : FecSettings) (first : Option ℕ) (store : Store) (fecs left : List LentFec) (is_fresh : Bool) (s : State) (place : ℕ)
    → record { settings = settings; first = first; store = store; fecs = map held_fec fecs; is_fresh = is_fresh } ≡ s → left ≡ remove fecs place
    → record { settings = settings; first = first; store = store; fecs = map held_fec left; is_fresh = is_fresh } ≡ without place s
dropped_is settings first store fecs left is_fresh s place is e =
    let with : List OpenFec → State = λ fs. record { settings = settings; first = first; store = store; fecs = fs; is_fresh = is_fresh } in
    ap with (ap (map held_fec) e ∙ map_remove held_fec fecs place) ∙ ap (without place) is

pub waits_is : (settings : FecSettings) (first : Option ℕ) (store : Store) (fecs : List LentFec) (is_fresh : Bool) (s : State) (place : ℕ) (item new : LentFec)
    → record { settings = settings; first = first; store = store; fecs = map held_fec fecs; is_fresh = is_fresh } ≡ s → place < length fecs → item ≡ get_or fecs place item
    → held_fec new ≡ record { bytes = item.bytes.items; is_due = false }
    → record { settings = settings; first = first; store = store; fecs = map held_fec (set fecs place new); is_fresh = is_fresh } ≡ waiting place s
waits_is settings first store fecs is_fresh s place item new is small here became =
    let with : List OpenFec → State = λ fs. record { settings = settings; first = first; store = store; fecs = fs; is_fresh = is_fresh } in
    let none : OpenFec = record { bytes = []; is_due = false } in
    let set_to : OpenFec → List OpenFec = λ o. set (map held_fec fecs) place (record o { is_due = false }) in
    let at : get_or (map held_fec fecs) place none ≡ held_fec item = get_or-map held_fec fecs place item none small ∙ ap held_fec (sym here) in
    ap with (map-set held_fec fecs place new ∙ ap (λ (o : OpenFec). set (map held_fec fecs) place o) became ∙ ap set_to (sym at)) ∙ ap (waiting place) is

-- ---- tries

-- the first try
tried_first : (n : ℕ) (s : State) → 0 < n → tried n s ≡ tried_at (tried (n - 1)) (first_due s.fecs) s
unfolding tried
tried_first zero s h = absurd (omega (arith, h))
tried_first (suc n) s h =
    let back : n ≡ suc n - 1 = omega arith in
    ap (λ (k : ℕ). tried_at (tried k) (first_due s.fecs) s) back

pub tried_none : (s : State) → record { ready = None; state = s } ≡ tried 0 s
unfolding tried
tried_none s = refl

module _ (n : ℕ) (s : State) where
  first : 0 < n → tried n s ≡ tried_at (tried (n - 1)) (first_due s.fecs) s
  first = tried_first n s

  pub tried_nothing : 0 < n → first_due s.fecs ≡ None → record { ready = None; state = s } ≡ tried n s
  tried_nothing h none = sym (first h ∙ ap (λ (o : Option ℕ). tried_at (tried (n - 1)) o s) none)

  judged_here : (place : ℕ) → 0 < n → first_due s.fecs ≡ Some place → tried n s ≡ judged (tried (n - 1)) place s (verdict_on (found_in s.store.slots) (fec_at (fec_at_place place s).bytes))
  judged_here place h here = first h ∙ ap (λ (o : Option ℕ). tried_at (tried (n - 1)) o s) here

  pub tried_as : (place : ℕ) (v : Verdict) → 0 < n → first_due s.fecs ≡ Some place → verdict_on (found_in s.store.slots) (fec_at (fec_at_place place s).bytes) ≡ v → judged (tried (n - 1)) place s v ≡ tried n s
  tried_as place v h here is = sym (judged_here place h here ∙ ap (judged (tried (n - 1)) place s) is)
