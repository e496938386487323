-- The place of a number among packets in order.
use Rattle.std.proofs.Common.{◌≡◌, ℕ, zero, suc, ◌<◌, ◌≤◌, ◌+◌, eqb, [], ◌∷◌, List, length, get_or, take, drop, map, refl, ap, ◌∙◌, arith, Bool, true, false, cond, Option, Some, None, add-one, ltb}
use Rattle.std.proofs.lemmas.List.{map-append, take-map, drop-map, length-map}
use Rattle.std.specs.List.{insert}
use Rattle.std.proofs.lemmas.Bool.Decides.{nat_tests}
use Rattle.codec_payload_buffer.specs.declared.buffer.held_packet.HeldPacket.{HeldPacket}
use Rattle.codec_payload_buffer.specs.Held.{Held, held_of, AllAbove, Rises, IsAboveCutoff, TakesLowest, has_number, placed}
use Rattle.codec_payload_buffer.specs.Steps.{is_at_most}
use Rattle.std.specs.List.Sorted.{IsNonDecreasingBy, IsPartitionPoint}
use Rattle.codec_payload_buffer.specs.Scan.{place_of}
use Rattle.codec_payload_codec.proofs.CaseLemmas.{by_test}

pub place_within : (n : ℕ) (hs : List Held) → place_of n hs ≤ length hs
place_within n [] = omega arith
place_within n (q ∷ qs) = grind (arith, nat_tests, place_within n qs)

-- p is inserted at its place
pub placed_is : (p : Held) (hs : List Held) → insert hs (place_of p.meta.seq_no.0 hs) p ≡ placed p hs
placed_is p [] = refl
placed_is p (q ∷ qs) =
    by_test (ltb q.meta.seq_no.0 p.meta.seq_no.0) (λ b. insert (q ∷ qs) (cond b (place_of p.meta.seq_no.0 qs + 1) 0) p ≡ cond b (q ∷ placed p qs) (p ∷ q ∷ qs))
    (λ e. rw add-one (ap (λ (zs : List Held). q ∷ zs) (placed_is p qs)))
    (λ e. refl)

-- a write to the list of entries is a write to the list of held packets
pub held_insert : (xs : List HeldPacket) (i : ℕ) (x : HeldPacket) → map held_of (insert xs i x) ≡ insert (map held_of xs) i (held_of x)
held_insert xs i x = map-append held_of (take i xs) (x ∷ drop i xs) ∙ simp (take-map, drop-map)

pub above_lower : (m n : ℕ) (hs : List Held) → m ≤ n → AllAbove n hs → AllAbove m hs
above_lower m n [] le a = tt
above_lower m n (p ∷ ps) le a = (omega arith, above_lower m n ps le a.1)

-- a number below all of them isn't there
pub not_below : (n : ℕ) (hs : List Held) → AllAbove n hs → has_number n hs ≡ false
not_below n [] a = refl
not_below n (p ∷ ps) a = grind (arith, nat_tests, not_below n ps a.1, a.0)

-- a number below the first isn't there
pub absent_below : (n : ℕ) (q : Held) (qs : List Held) → n < q.meta.seq_no.0 → AllAbove q.meta.seq_no.0 qs → has_number n (q ∷ qs) ≡ false
absent_below n q qs l a = grind (arith, nat_tests, not_below n qs (above_lower n q.meta.seq_no.0 qs (omega arith) a))

-- the number is at its place, if it is held
pub at_place : (n : ℕ) (xs : List HeldPacket) (x : HeldPacket) → Rises (map held_of xs) → place_of n (map held_of xs) < length xs
    → eqb (get_or xs (place_of n (map held_of xs)) x).packet.value.known.seq_no.0 n ≡ has_number n (map held_of xs)
at_place n [] x r l = absurd (omega arith)
at_place n (q ∷ qs) x r l = at_test (at_place n qs x r.1) (ltb q.packet.value.known.seq_no.0 n) refl l
  where
    at_test : (place_of n (map held_of qs) < length qs → eqb (get_or qs (place_of n (map held_of qs)) x).packet.value.known.seq_no.0 n ≡ has_number n (map held_of qs))
        → (b : Bool) → ltb q.packet.value.known.seq_no.0 n ≡ b → cond b (place_of n (map held_of qs) + 1) 0 < length (q ∷ qs)
        → eqb (get_or (q ∷ qs) (cond b (place_of n (map held_of qs) + 1) 0) x).packet.value.known.seq_no.0 n ≡ has_number n (map held_of (q ∷ qs))
    at_test rest true e l =
        let below : q.packet.value.known.seq_no.0 < n = grind (arith, nat_tests, e) in
        rw add-one (rest (omega arith) ∙ grind (arith, nat_tests))
    at_test rest false e l =
        let at_least : n ≤ q.packet.value.known.seq_no.0 = grind (arith, nat_tests, e) in
        grind (arith, nat_tests, not_below n (map held_of qs) (above_lower n q.packet.value.known.seq_no.0 (map held_of qs) at_least r.0))

-- the packet at this place has the number
pub at_found : (n : ℕ) (xs : List HeldPacket) (i : ℕ) (q : HeldPacket) → Rises (map held_of xs) → i ≡ place_of n (map held_of xs) → i < length xs → q ≡ get_or xs i q
    → eqb q.number n ≡ has_number n (map held_of xs)
at_found n xs i q r at l is =
    ap (λ k. eqb k n) q.numbered ∙ ap (λ (p : HeldPacket). eqb p.packet.value.known.seq_no.0 n) (is ∙ ap (λ k. get_or xs k q) at) ∙ at_place n xs q r (omega (arith, l, at))

pub past_place : (n : ℕ) (hs : List Held) → Rises hs → length hs ≤ place_of n hs → has_number n hs ≡ false
past_place n [] r l = refl
past_place n (q ∷ qs) r l = grind (arith, nat_tests, past_place n qs r.1, place_within n qs)

pub placed_above : (m : ℕ) (p : Held) (hs : List Held) → m < p.meta.seq_no.0 → AllAbove m hs → AllAbove m (placed p hs)
placed_above m p [] l a = (l, tt)
placed_above m p (q ∷ qs) l a =
    by_test (ltb q.meta.seq_no.0 p.meta.seq_no.0) (λ b. AllAbove m (cond b (q ∷ placed p qs) (p ∷ q ∷ qs)))
    (λ e. (a.0, placed_above m p qs l a.1))
    (λ e. (l, a))

pub placed_rises : (p : Held) (hs : List Held) → Rises hs → has_number p.meta.seq_no.0 hs ≡ false → Rises (placed p hs)
placed_rises p [] r new = (tt, tt)
placed_rises p (q ∷ qs) r new =
    by_test (ltb q.meta.seq_no.0 p.meta.seq_no.0) (λ b. Rises (cond b (q ∷ placed p qs) (p ∷ q ∷ qs)))
    (λ e. (placed_above q.meta.seq_no.0 p qs (grind (arith, nat_tests, e)) r.0, placed_rises p qs r.1 (grind (arith, nat_tests, new))))
    (λ e.
    let over : p.meta.seq_no.0 < q.meta.seq_no.0 = grind (arith, nat_tests, e, new) in
    ((over, above_lower p.meta.seq_no.0 q.meta.seq_no.0 qs (omega arith) r.0), r))

pub length_placed : (p : Held) (hs : List Held) → length (placed p hs) ≡ length hs + 1
length_placed p [] = refl
length_placed p (q ∷ qs) = grind (arith, nat_tests, length_placed p qs)

pub place_ok : (p : HeldPacket) (xs zs : List HeldPacket) (i : ℕ) → i ≡ place_of p.number (map held_of xs) → zs ≡ insert xs i p → map held_of zs ≡ placed (held_of p) (map held_of xs)
place_ok p xs zs i at is = ap (map held_of) is ∙ held_insert xs i p
    ∙ ap (λ k. insert (map held_of xs) k (held_of p)) (at ∙ ap (λ k. place_of k (map held_of xs)) p.numbered) ∙ placed_is (held_of p) (map held_of xs)

-- the packets after the lowest one has left
pub lowest_out : (hs new : List Held) (n : ℕ) → TakesLowest hs n new → Rises hs → record { rises : Rises new; above : AllAbove n new; shorter : length new + 1 ≡ length hs }
lowest_out [] new n t r = absurd t
lowest_out (p ∷ ps) new n t r = rw (t.0, t.1) (record { rises = r.1; above = r.0; shorter = omega arith })

-- a packet above the cutoff at its place
pub placed_above_cutoff : (cutoff : Option ℕ) (p : Held) (hs : List Held) → is_at_most cutoff p.meta.seq_no.0 ≡ false → IsAboveCutoff cutoff hs → IsAboveCutoff cutoff (placed p hs)
placed_above_cutoff None p hs l a = tt
placed_above_cutoff (Some c) p hs l a = placed_above c p hs (grind (arith, nat_tests, l)) a

-- facts about the packets after a new one was inserted
pub with_new : (items new : List HeldPacket) (p : Held) (cutoff : Option ℕ) → Rises (map held_of items) → IsAboveCutoff cutoff (map held_of items)
    → has_number p.meta.seq_no.0 (map held_of items) ≡ false → is_at_most cutoff p.meta.seq_no.0 ≡ false → map held_of new ≡ placed p (map held_of items)
    → record { rises : Rises (map held_of new); above : IsAboveCutoff cutoff (map held_of new); long : length new ≡ length items + 1 }
with_new items new p cutoff r a fresh over is = record {
  rises = rw is (placed_rises p (map held_of items) r fresh);
  above = rw is (placed_above_cutoff cutoff p (map held_of items) over a);
  long = omega (arith, ap length is, length_placed p (map held_of items), length-map new held_of, length-map items held_of);
}

-- Places found by a search

pub number_from : (n : ℕ) (xs : List HeldPacket) → AllAbove n (map held_of xs) → (k : ℕ) (d : HeldPacket) → k < length xs → n < (get_or xs k d).number
number_from n [] a k d l = absurd (omega arith)
number_from n (x ∷ xs) a zero d l = omega (arith, a.0, x.numbered)
number_from n (x ∷ xs) a (suc k) d l = number_from n xs a.1 k d (omega arith)

-- packets whose numbers rise, as a search asks it
pub rises_by_number : (xs : List HeldPacket) → Rises (map held_of xs) → IsNonDecreasingBy (λ (p : HeldPacket). p.number) xs
rises_by_number [] r i j d le l = absurd (omega arith)
rises_by_number (x ∷ xs) r zero zero d le l = omega arith
rises_by_number (x ∷ xs) r zero (suc j) d le l = let over = number_from x.packet.value.known.seq_no.0 xs r.0 j d (omega arith) in omega (arith, over, x.numbered)
rises_by_number (x ∷ xs) r (suc i) zero d le l = absurd (omega arith)
rises_by_number (x ∷ xs) r (suc i) (suc j) d le l = rises_by_number xs r.1 i j d (omega arith) (omega arith)

-- the place up to which all numbers are below n
pub place_from_point : (n : ℕ) (xs : List HeldPacket) (i : ℕ) → IsPartitionPoint (λ (p : HeldPacket). p.number < n) (λ (p : HeldPacket). n ≤ p.number) xs i
    → i ≤ length xs → i ≡ place_of n (map held_of xs)
place_from_point n [] i point le = omega arith
place_from_point n (x ∷ xs) zero point le = let t : ltb x.packet.value.known.seq_no.0 n ≡ false = grind (arith, nat_tests, point.1 0 x (omega arith) (omega arith), x.numbered) in rw t refl
place_from_point n (x ∷ xs) (suc i) point le =
    let t : ltb x.packet.value.known.seq_no.0 n ≡ true = grind (arith, nat_tests, point.0 0 x (omega arith) (omega arith), x.numbered) in
    let rest = place_from_point n xs i (λ k d low l. point.0 (suc k) d (omega arith) (omega arith), λ k d low l. point.1 (suc k) d (omega arith) (omega arith)) (omega arith) in
    rw t (omega (arith, rest))
