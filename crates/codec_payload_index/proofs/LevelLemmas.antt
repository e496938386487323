-- Levels of which some are not right yet.
use Rattle.std.proofs.Common.{◌≡◌, ℕ, zero, suc, ◌<◌, ◌≤◌, ◌/◌, [], ◌∷◌, List, length, get_or, set, refl, ap, ◌∙◌, sym, subst, arith, length-set, drop, ◌++◌}
use Rattle.std.proofs.lemmas.List.{set-get_or}
use Rattle.std.specs.Global.{Vec}
use Rattle.codec_payload_index.specs.Times.{AreLevels, bottom, halved, least_of}
use Rattle.codec_payload_index.proofs.HalvedLemmas.{least_above}

-- the level is right beside the one above it: that one is right, or has one time that is still to be replaced
abbrev pub IsAbove : ℕ → ℕ → ℕ → Vec ℕ → List (Vec ℕ) → Type 0
IsAbove zero place time l [] = length l.items ≤ 1
IsAbove zero place time l (m ∷ ls) = halved l.items ≡ set m.items place time
IsAbove (suc i) place time l [] = ⊥
IsAbove (suc i) place time l (m ∷ ls) = m.items ≡ halved l.items

-- the levels below level i are right, and so are those from it on; in level i one time is still to be replaced
abbrev pub IsPending : ℕ → ℕ → ℕ → List (Vec ℕ) → Type 0
IsPending zero place time [] = Unit {0}
IsPending zero place time (l ∷ ls) = (place < length l.items) × AreLevels (l ∷ ls)
IsPending (suc i) place time [] = ⊥
IsPending (suc i) place time (l ∷ ls) = IsAbove i place time l ls × IsPending i place time ls

-- the first level, once the time is replaced
abbrev pub first_after : ℕ → ℕ → ℕ → List ℕ → List ℕ
first_after zero place time ts = set ts place time
first_after (suc i) place time ts = ts

-- the level at a place has a place for the time
pub has_room : (i place time : ℕ) (ls : List (Vec ℕ)) (l : Vec ℕ) → IsPending i place time ls → i < length ls → l ≡ get_or ls i l → place < length l.items
has_room zero place time [] l is within at = absurd (omega (arith, within))
has_room zero place time (k ∷ ls) l is within at = subst (λ (m : Vec ℕ). place < length m.items) (sym at) is.0
has_room (suc i) place time [] l is within at = absurd (omega (arith, within))
has_room (suc i) place time (k ∷ ls) l is within at = has_room i place time ls l is.1 (omega (arith, within)) at

above_next : (i place time : ℕ) (k : Vec ℕ) (ls : List (Vec ℕ)) (u : Vec ℕ) (place' time' : ℕ) (l : Vec ℕ) → IsAbove i place time k ls → i < length ls → l ≡ get_or ls i l → u.items ≡ set l.items place time
    → IsAbove (suc i) place' time' k (set ls i u)
above_next zero place time k [] u place' time' l is within at new = absurd (omega (arith, within))
above_next zero place time k (m ∷ ls) u place' time' l is within at new =
    let same : set m.items place time ≡ u.items = sym (subst (λ (x : Vec ℕ). u.items ≡ set x.items place time) at new) in
    sym (is ∙ same)
above_next (suc i) place time k [] u place' time' l is within at new = absurd (omega (arith, within))
above_next (suc i) place time k (m ∷ ls) u place' time' l is within at new = is

-- one more level is right
pub pending_next : (i place time : ℕ) (ls : List (Vec ℕ)) (u : Vec ℕ) (time' : ℕ) (l : Vec ℕ) → IsPending i place time ls → i < length ls → l ≡ get_or ls i l → u.items ≡ set l.items place time
    → set (halved l.items) (place / 2) time' ≡ halved u.items → place / 2 < length (halved u.items) → IsPending (suc i) (place / 2) time' (set ls i u)
pending_next zero place time [] u time' l is within at new above room = absurd (omega (arith, within))
pending_next zero place time (k ∷ []) u time' l is within at new above room =
    let few : length l.items ≤ 1 = subst (λ (x : Vec ℕ). length x.items ≤ 1) (sym at) is.1 in
    let len : length u.items ≡ length l.items = ap (λ (ts : List ℕ). length ts) new ∙ length-set l.items place time in
    (omega (arith, few, len), tt)
pending_next zero place time (k ∷ m ∷ ls) u time' l is within at new above room =
    let there : m.items ≡ halved l.items = subst (λ (x : Vec ℕ). m.items ≡ halved x.items) (sym at) is.1.0 in
    let right : halved u.items ≡ set m.items (place / 2) time' = sym (ap (λ (ts : List ℕ). set ts (place / 2) time') there ∙ above) in
    let len : length (halved u.items) ≡ length m.items = ap (λ (ts : List ℕ). length ts) right ∙ length-set m.items (place / 2) time' in
    (right, (omega (arith, room, len), is.1.1))
pending_next (suc i) place time [] u time' l is within at new above room = absurd (omega (arith, within))
pending_next (suc i) place time (k ∷ ls) u time' l is within at new above room =
    (above_next i place time k ls u (place / 2) time' l is.0 (omega (arith, within)) at new, pending_next i place time ls u time' l is.1 (omega (arith, within)) at new above room)

-- all levels are right
pub pending_ends : (place time : ℕ) (ls : List (Vec ℕ)) → IsPending (length ls) place time ls → AreLevels ls
pending_ends place time [] is = tt
pending_ends place time (l ∷ []) is = is.0
pending_ends place time (l ∷ m ∷ ls) is = (is.0, pending_ends place time (m ∷ ls) is.1)

same_time : (ts : List ℕ) (place time d : ℕ) → get_or ts place d ≡ time → set ts place time ≡ ts
same_time ts place time d there = ap (λ (t : ℕ). set ts place t) (sym there) ∙ set-get_or ts place d

-- the time is there already, so all levels are right
pub pending_stops : (i place time d : ℕ) (ls : List (Vec ℕ)) (l : Vec ℕ) → IsPending i place time ls → i < length ls → l ≡ get_or ls i l → get_or l.items place d ≡ time → AreLevels ls
pending_stops zero place time d [] l is within at there = absurd (omega (arith, within))
pending_stops zero place time d (k ∷ ls) l is within at there = is.1
pending_stops (suc i) place time d [] l is within at there = absurd (omega (arith, within))
pending_stops (suc i) place time d (k ∷ []) l is within at there = absurd (omega (arith, within))
pending_stops (suc zero) place time d (k ∷ m ∷ ls) l is within at there =
    let same : set m.items place time ≡ m.items = same_time m.items place time d (subst (λ (x : Vec ℕ). get_or x.items place d ≡ time) at there) in
    (sym (is.0 ∙ same), pending_stops zero place time d (m ∷ ls) l is.1 (omega (arith, within)) at there)
pending_stops (suc (suc i)) place time d (k ∷ m ∷ ls) l is within at there = (is.0, pending_stops (suc i) place time d (m ∷ ls) l is.1 (omega (arith, within)) at there)

pub first_stops : (i place time d : ℕ) (ls : List (Vec ℕ)) (l : Vec ℕ) → i < length ls → l ≡ get_or ls i l → get_or l.items place d ≡ time → bottom ls ≡ first_after i place time (bottom ls)
first_stops zero place time d [] l within at there = absurd (omega (arith, within))
first_stops zero place time d (k ∷ ls) l within at there = sym (same_time k.items place time d (subst (λ (x : Vec ℕ). get_or x.items place d ≡ time) at there))
first_stops (suc i) place time d ls l within at there = refl

-- the first level has the time at once, and stays
pub first_stays : (i place time : ℕ) (ls : List (Vec ℕ)) (u : Vec ℕ) (place' time' : ℕ) (l : Vec ℕ) → i < length ls → l ≡ get_or ls i l → u.items ≡ set l.items place time
    → first_after (suc i) place' time' (bottom (set ls i u)) ≡ first_after i place time (bottom ls)
first_stays zero place time [] u place' time' l within at new = absurd (omega (arith, within))
first_stays zero place time (k ∷ ls) u place' time' l within at new = subst (λ (x : Vec ℕ). u.items ≡ set x.items place time) at new
first_stays (suc i) place time [] u place' time' l within at new = absurd (omega (arith, within))
first_stays (suc i) place time (k ∷ ls) u place' time' l within at new = refl

pub pending_begins : (place time : ℕ) (ls : List (Vec ℕ)) → AreLevels ls → place < length (bottom ls) → IsPending 0 place time ls
pending_begins place time [] is l = tt
pending_begins place time (k ∷ ls) is l = (l, is)

-- ---- the search

-- a level at a place
pub level_at : (i : ℕ) (ls : List (Vec ℕ)) (l : Vec ℕ) → i < length ls → l ≡ get_or ls i l → l.items ≡ bottom (drop i ls)
level_at zero [] l within at = absurd (omega (arith, within))
level_at zero (k ∷ ls) l within at = ap (λ (x : Vec ℕ). x.items) at
level_at (suc i) [] l within at = absurd (omega (arith, within))
level_at (suc i) (k ∷ ls) l within at = level_at i ls l (omega (arith, within)) at

-- the level above it
pub level_above : (i : ℕ) (ls : List (Vec ℕ)) → AreLevels ls → suc i < length ls → bottom (drop (suc i) ls) ≡ halved (bottom (drop i ls))
level_above i [] are within = absurd (omega (arith, within))
level_above zero (k ∷ []) are within = absurd (omega (arith, within))
level_above (suc i) (k ∷ []) are within = absurd (omega (arith, within))
level_above zero (k ∷ m ∷ ls) are within = are.0
level_above (suc i) (k ∷ m ∷ ls) are within = level_above i (m ∷ ls) are.1 (omega (arith, within))

-- the last level
pub level_last : (i : ℕ) (ls : List (Vec ℕ)) → AreLevels ls → suc i ≡ length ls → length (bottom (drop i ls)) ≤ 1
level_last i [] are last = absurd (omega (arith, last))
level_last zero (k ∷ []) are last = are
level_last (suc i) (k ∷ []) are last = absurd (omega (arith, last))
level_last zero (k ∷ m ∷ ls) are last = absurd (omega (arith, last))
level_last (suc i) (k ∷ m ∷ ls) are last = level_last i (m ∷ ls) are.1 (omega (arith, last))

-- ---- levels that are made

-- each level is the one below it, halved
abbrev pub AreHalved : List (Vec ℕ) → Type 0
AreHalved [] = Unit {0}
AreHalved (l ∷ []) = Unit {0}
AreHalved (l ∷ m ∷ ls) = (m.items ≡ halved l.items) × AreHalved (m ∷ ls)

pub one_more : (ls : List (Vec ℕ)) (last next : Vec ℕ) → AreHalved (ls ++ last ∷ []) → next.items ≡ halved last.items → AreHalved ((ls ++ last ∷ []) ++ next ∷ [])
one_more [] last next are is = (is, tt)
one_more (k ∷ []) last next are is = (are.0, (is, tt))
one_more (k ∷ m ∷ ls) last next are is = (are.0, one_more (m ∷ ls) last next are.1 is)

pub enough : (ls : List (Vec ℕ)) (last : Vec ℕ) → AreHalved (ls ++ last ∷ []) → length last.items ≤ 1 → AreLevels (ls ++ last ∷ [])
enough [] last are few = few
enough (k ∷ []) last are few = (are.0, few)
enough (k ∷ m ∷ ls) last are few = (are.0, enough (m ∷ ls) last are.1 few)

pub same_bottom : (ls : List (Vec ℕ)) (last next : Vec ℕ) → bottom ((ls ++ last ∷ []) ++ next ∷ []) ≡ bottom (ls ++ last ∷ [])
same_bottom [] last next = refl
same_bottom (k ∷ ls) last next = refl

-- ---- the least time

-- all levels have the same least time
pub same_least : (i : ℕ) (ls : List (Vec ℕ)) → AreLevels ls → i < length ls → least_of (bottom (drop i ls)) ≡ least_of (bottom ls)
same_least i [] are within = absurd (omega (arith, within))
same_least zero (k ∷ ls) are within = refl
same_least (suc i) (k ∷ []) are within = absurd (omega (arith, within))
same_least (suc i) (k ∷ m ∷ ls) are within = same_least i (m ∷ ls) are.1 (omega (arith, within)) ∙ ap (λ (ts : List ℕ). least_of ts) are.0 ∙ least_above k.items
