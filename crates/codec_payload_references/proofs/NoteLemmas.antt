-- Places of numbers among notes in rising order, and notes that leave from the front.
use Rattle.std.proofs.Common.{◌≡◌, ℕ, zero, suc, ◌<◌, ◌≤◌, ◌+◌, ◌-◌, eqb, ltb, leb, ◌↔◌, [], ◌∷◌, ◌++◌, List, length, get_or, drop, refl, ap, sym, ◌∙◌, arith, Bool, true, false, cond, add-one, Option, Some, None, IsSome}
use Rattle.std.specs.Option.{option_to_list}
use Rattle.std.specs.List.{insert}
use Rattle.std.specs.List.Sorted.{IsNonDecreasingBy, IsPartitionPoint}
use Rattle.std.proofs.lemmas.Bool.Decides.{nat_tests}
use Rattle.codec_payload_references.specs.Notes.{AllAbove, HeldRises, above, has_number, highest, place_of, placed, up_to}
use Rattle.codec_payload_references.specs.declared.notes.HeldNote.{HeldNote}

pub by_test : (b : Bool) (P : Bool → Type 0) → (b ≡ true → P true) → (b ≡ false → P false) → P b
by_test true P t f = t refl
by_test false P t f = f refl

same_there : (xs : List HeldNote) (i : ℕ) (d e : HeldNote) → i < length xs → get_or xs i d ≡ get_or xs i e
same_there [] i d e l = absurd (omega arith)
same_there (x ∷ xs) zero d e l = refl
same_there (x ∷ xs) (suc i) d e l = same_there xs i d e (omega arith)

number_from : (n : ℕ) (xs : List HeldNote) → AllAbove n xs → (k : ℕ) (d : HeldNote) → k < length xs → n < (get_or xs k d).number
number_from n [] a k d l = absurd (omega arith)
number_from n (x ∷ xs) a zero d l = a.0
number_from n (x ∷ xs) a (suc k) d l = number_from n xs a.1 k d (omega arith)

-- notes whose numbers rise, as a search asks it
pub rises_by_number : (xs : List HeldNote) → HeldRises xs → IsNonDecreasingBy (λ (h : HeldNote). h.number) xs
rises_by_number [] r i j d le l = absurd (omega arith)
rises_by_number (x ∷ xs) r zero zero d le l = omega arith
rises_by_number (x ∷ xs) r zero (suc j) d le l = let over = number_from x.number xs r.0 j d (omega arith) in omega (arith, over)
rises_by_number (x ∷ xs) r (suc i) zero d le l = absurd (omega arith)
rises_by_number (x ∷ xs) r (suc i) (suc j) d le l = rises_by_number xs r.1 i j d (omega arith) (omega arith)

-- the place up to which all numbers are below n
pub place_from_point : (n : ℕ) (xs : List HeldNote) (i : ℕ) → IsPartitionPoint (λ (h : HeldNote). h.number < n) (λ (h : HeldNote). n ≤ h.number) xs i
    → i ≤ length xs → i ≡ place_of n xs
place_from_point n [] i point le = omega arith
place_from_point n (x ∷ xs) zero point le = let t : ltb x.number n ≡ false = grind (arith, nat_tests, point.1 0 x (omega arith) (omega arith)) in rw t refl
place_from_point n (x ∷ xs) (suc i) point le =
    let t : ltb x.number n ≡ true = grind (arith, nat_tests, point.0 0 x (omega arith) (omega arith)) in
    let rest = place_from_point n xs i (λ k d low l. point.0 (suc k) d (omega arith) (omega arith), λ k d low l. point.1 (suc k) d (omega arith) (omega arith)) (omega arith) in
    rw t (omega (arith, rest))

pub place_within : (n : ℕ) (hs : List HeldNote) → place_of n hs ≤ length hs
place_within n [] = omega arith
place_within n (h ∷ hs) = grind (arith, nat_tests, place_within n hs)

above_lower : (m n : ℕ) (hs : List HeldNote) → m ≤ n → AllAbove n hs → AllAbove m hs
above_lower m n [] le a = tt
above_lower m n (h ∷ hs) le a = (omega arith, above_lower m n hs le a.1)

not_below : (n : ℕ) (hs : List HeldNote) → AllAbove n hs → has_number n hs ≡ false
not_below n [] a = refl
not_below n (h ∷ hs) a = grind (arith, nat_tests, not_below n hs a.1, a.0)

-- the number is at its place, if it is held
at_place : (n : ℕ) (xs : List HeldNote) (x : HeldNote) → HeldRises xs → place_of n xs < length xs → eqb (get_or xs (place_of n xs) x).number n ≡ has_number n xs
at_place n [] x r l = absurd (omega arith)
at_place n (q ∷ qs) x r l = at_test (at_place n qs x r.1) (ltb q.number n) refl l
  where
    at_test : (place_of n qs < length qs → eqb (get_or qs (place_of n qs) x).number n ≡ has_number n qs)
        → (b : Bool) → ltb q.number n ≡ b → cond b (place_of n qs + 1) 0 < length (q ∷ qs)
        → eqb (get_or (q ∷ qs) (cond b (place_of n qs + 1) 0) x).number n ≡ has_number n (q ∷ qs)
    at_test rest true e l =
        let lower : q.number < n = grind (arith, nat_tests, e) in
        rw add-one (rest (omega arith) ∙ grind (arith, nat_tests))
    at_test rest false e l =
        let at_least : n ≤ q.number = grind (arith, nat_tests, e) in
        grind (arith, nat_tests, not_below n qs (above_lower n q.number qs at_least r.0))

pub at_found : (n : ℕ) (xs : List HeldNote) (i : ℕ) (q : HeldNote) → HeldRises xs → i ≡ place_of n xs → i < length xs → q ≡ get_or xs i q → eqb q.number n ≡ has_number n xs
at_found n xs i q r at l is =
    ap (λ (h : HeldNote). eqb h.number n) (is ∙ ap (λ k. get_or xs k q) at) ∙ at_place n xs q r (omega (arith, l, at))

pub past_place : (n : ℕ) (hs : List HeldNote) → HeldRises hs → length hs ≤ place_of n hs → has_number n hs ≡ false
past_place n [] r l = refl
past_place n (q ∷ qs) r l = grind (arith, nat_tests, past_place n qs r.1, place_within n qs)

-- ---- insertion

pub placed_is : (p : HeldNote) (hs : List HeldNote) → insert hs (place_of p.number hs) p ≡ placed p hs
placed_is p [] = refl
placed_is p (q ∷ qs) =
    by_test (ltb q.number p.number) (λ b. insert (q ∷ qs) (cond b (place_of p.number qs + 1) 0) p ≡ cond b (q ∷ placed p qs) (p ∷ q ∷ qs))
    (λ e. rw add-one (ap (λ (zs : List HeldNote). q ∷ zs) (placed_is p qs)))
    (λ e. refl)

pub length_placed : (p : HeldNote) (hs : List HeldNote) → length (placed p hs) ≡ length hs + 1
length_placed p [] = refl
length_placed p (q ∷ qs) = grind (arith, nat_tests, length_placed p qs)

placed_above : (m : ℕ) (p : HeldNote) (hs : List HeldNote) → m < p.number → AllAbove m hs → AllAbove m (placed p hs)
placed_above m p [] l a = (l, tt)
placed_above m p (q ∷ qs) l a =
    by_test (ltb q.number p.number) (λ b. AllAbove m (cond b (q ∷ placed p qs) (p ∷ q ∷ qs)))
    (λ e. (a.0, placed_above m p qs l a.1))
    (λ e. (l, a))

placed_rises : (p : HeldNote) (hs : List HeldNote) → HeldRises hs → has_number p.number hs ≡ false → HeldRises (placed p hs)
placed_rises p [] r new = (tt, tt)
placed_rises p (q ∷ qs) r new =
    by_test (ltb q.number p.number) (λ b. HeldRises (cond b (q ∷ placed p qs) (p ∷ q ∷ qs)))
    (λ e. (placed_above q.number p qs (grind (arith, nat_tests, e)) r.0, placed_rises p qs r.1 (grind (arith, nat_tests, new))))
    (λ e.
    let over : p.number < q.number = grind (arith, nat_tests, e, new) in
    ((over, above_lower p.number q.number qs (omega arith) r.0), r))

drop_rises : (k : ℕ) (hs : List HeldNote) → HeldRises hs → HeldRises (drop k hs)
drop_rises zero hs r = r
drop_rises (suc k) [] r = r
drop_rises (suc k) (h ∷ hs) r = drop_rises k hs r.1

drop_length : (k : ℕ) (hs : List HeldNote) → length (drop k hs) ≡ length hs - k
drop_length zero hs = omega arith
drop_length (suc k) [] = omega arith
drop_length (suc k) (h ∷ hs) = omega (arith, drop_length k hs)

pub highest_rises : (most : ℕ) (p : HeldNote) (hs : List HeldNote) → HeldRises hs → has_number p.number hs ≡ false → HeldRises (highest most (placed p hs))
highest_rises most p hs r new = drop_rises (length (placed p hs) - most) (placed p hs) (placed_rises p hs r new)

pub highest_few : (most : ℕ) (hs : List HeldNote) → length (highest most hs) ≤ most
highest_few most hs = omega (arith, drop_length (length hs - most) hs)

drop_none : (k : ℕ) (hs : List HeldNote) → k ≡ 0 → drop k hs ≡ hs
drop_none k hs e = rw e refl

drop_one : (k : ℕ) (h : HeldNote) (hs : List HeldNote) → k ≡ 1 → drop k (h ∷ hs) ≡ hs
drop_one k h hs e = rw e refl

-- there is room for one more
pub put_more : (most place : ℕ) (p : HeldNote) (hs zs : List HeldNote) → place ≡ place_of p.number hs → length hs < most → zs ≡ insert hs place p → zs ≡ highest most (placed p hs)
put_more most place p hs zs at few is =
    is ∙ ap (λ k. insert hs k p) at ∙ placed_is p hs ∙ sym (drop_none (length (placed p hs) - most) (placed p hs) (omega (arith, length_placed p hs, few)))

-- the new note is the lowest one of too many
pub put_none : (most : ℕ) (p : HeldNote) (hs : List HeldNote) → place_of p.number hs ≡ 0 → length hs ≡ most → hs ≡ highest most (placed p hs)
put_none most p [] at full = sym (drop_one (length (p ∷ []) - most) p [] (omega (arith, full)))
put_none most p (h ∷ hs) at full =
    let t : ltb h.number p.number ≡ false = grind (arith, nat_tests, at) in
    let e : placed p (h ∷ hs) ≡ p ∷ h ∷ hs = rw t refl in
    sym (ap (highest most) e ∙ drop_one (length (p ∷ h ∷ hs) - most) p (h ∷ hs) (omega (arith, full)))

-- another note is the lowest one of too many
pub put_rest : (most place : ℕ) (p : HeldNote) (h : HeldNote) (hs zs : List HeldNote) → suc place ≡ place_of p.number (h ∷ hs) → length (h ∷ hs) ≡ most → zs ≡ insert hs place p
    → zs ≡ highest most (placed p (h ∷ hs))
put_rest most place p h hs zs at full is =
    let t : ltb h.number p.number ≡ true = grind (arith, nat_tests, at) in
    let e : placed p (h ∷ hs) ≡ h ∷ placed p hs = rw t refl in
    let next : place_of p.number (h ∷ hs) ≡ place_of p.number hs + 1 = rw t refl in
    let there : place ≡ place_of p.number hs = omega (arith, at, next) in
    is ∙ ap (λ k. insert hs k p) there ∙ placed_is p hs ∙ sym (ap (highest most) e ∙ drop_one (length (h ∷ placed p hs) - most) h (placed p hs) (omega (arith, length_placed p hs, full)))

-- ---- notes that leave

pub above_first : (n : ℕ) (h : HeldNote) (hs : List HeldNote) → h.number ≤ n → above n (h ∷ hs) ≡ above n hs
above_first n h hs le = let t : leb h.number n ≡ true = grind (arith, nat_tests, le) in rw t refl

pub up_to_first : (n : ℕ) (h : HeldNote) (hs : List HeldNote) → h.number ≤ n → up_to n (h ∷ hs) ≡ h ∷ up_to n hs
up_to_first n h hs le = let t : leb h.number n ≡ true = grind (arith, nat_tests, le) in rw t refl

above_all : (m n : ℕ) (hs : List HeldNote) → AllAbove m hs → AllAbove m (above n hs)
above_all m n [] a = tt
above_all m n (h ∷ hs) a = by_test (leb h.number n) (λ b. AllAbove m (cond b (above n hs) (h ∷ hs))) (λ e. above_all m n hs a.1) (λ e. a)

pub above_rises : (n : ℕ) (hs : List HeldNote) → HeldRises hs → HeldRises (above n hs)
above_rises n [] r = tt
above_rises n (h ∷ hs) r = by_test (leb h.number n) (λ b. HeldRises (cond b (above n hs) (h ∷ hs))) (λ e. above_rises n hs r.1) (λ e. r)

pub above_few : (n : ℕ) (hs : List HeldNote) → length (above n hs) ≤ length hs
above_few n [] = omega arith
above_few n (h ∷ hs) = by_test (leb h.number n) (λ b. length (cond b (above n hs) (h ∷ hs)) ≤ length (h ∷ hs)) (λ e. omega (arith, above_few n hs)) (λ e. omega arith)

-- ---- the first note is removed

pub popped_within : (o : Option HeldNote) (hs zs : List HeldNote) → hs ≡ option_to_list o ++ zs → length hs ≤ length zs + 1
popped_within None hs zs is = omega (arith, ap length is)
popped_within (Some h) hs zs is = omega (arith, ap length is)

pub put_popped : (most place : ℕ) (p : HeldNote) (o : Option HeldNote) (hs zs ys : List HeldNote) → hs ≡ option_to_list o ++ zs → (IsSome o ↔ (0 < length hs)) → place ≡ place_of p.number hs
    → 0 < place → length hs ≡ most → ys ≡ insert zs (place - 1) p → ys ≡ highest most (placed p hs)
put_popped most place p None hs zs ys is some at up full it =
    let there : IsSome {T = HeldNote} None = some.1 (omega (arith, place_within p.number hs, at, up)) in
    let no : ⊥ = cc in absurd no
put_popped most place p (Some h) hs zs ys is some at up full it =
    put_rest most (place - 1) p h zs ys (omega (arith, at, up, ap (place_of p.number) is)) (omega (arith, full, ap length is)) it ∙ sym (ap (λ (xs : List HeldNote). highest most (placed p xs)) is)

-- ---- the invariant of held notes

pub inserted_kept : (most : ℕ) (p : HeldNote) (hs zs : List HeldNote) → HeldRises hs → has_number p.number hs ≡ false → zs ≡ highest most (placed p hs) → HeldRises zs × (length zs ≤ most)
inserted_kept most p hs zs r new is = rw is (highest_rises most p hs r new, highest_few most (placed p hs))

pub above_kept : (most last : ℕ) (hs zs : List HeldNote) → HeldRises hs → length hs ≤ most → zs ≡ above last hs → HeldRises zs × (length zs ≤ most)
above_kept most last hs zs r few is = rw is (above_rises last hs r, omega (arith, above_few last hs, few))
