-- The notes of packets about their rows: found by number, and written by place.
use Rattle.std.proofs.Common.{◌≡◌, ◌≢◌, ℕ, zero, suc, ◌<◌, ◌≤◌, ◌+◌, [], ◌∷◌, List, length, get_or, map, drop, refl, ap, sym, ◌∙◌, arith, true, false, cond, ltb, eqb, add-one}
use Rattle.std.specs.Prelude.{slice_set}
use Rattle.std.specs.List.{insert}
use Rattle.std.proofs.lemmas.Bool.Decides.{nat_tests}
use Rattle.codec_payload_buffer.specs.declared.buffer.held_packet.HeldPacket.{HeldPacket}
use Rattle.codec_payload_buffer.specs.Held.{Held, held_of, Rises, has_number}
use Rattle.codec_payload_buffer.specs.Scan.{place_of, end_of}
use Rattle.codec_payload_buffer.specs.Ends.{Mark, mark_of, mark_at}
use Rattle.codec_payload_codec.proofs.CaseLemmas.{by_test}
use Rattle.codec_payload_buffer.proofs.PlaceLemmas.{not_below, above_lower, number_from}

-- the note at a place is the note of the number there
pub mark_found : (xs : List HeldPacket) (i : ℕ) (x : HeldPacket) → Rises (map held_of xs) → i < length xs → x ≡ get_or xs i x → mark_at x.number (map mark_of xs) ≡ mark_of x
mark_found [] i x r l is = absurd (omega arith)
mark_found (y ∷ ys) zero x r l is = let t : eqb y.number x.number ≡ true = rw is (grind (arith, nat_tests)) in rw t (ap mark_of (sym is))
mark_found (y ∷ ys) (suc i) x r l is =
    let over = number_from y.packet.value.known.seq_no.0 ys r.0 i x (omega arith) in
    let t : eqb y.number x.number ≡ false = grind (arith, nat_tests, over, y.numbered, ap (λ (z : HeldPacket). z.number) is) in
    rw t (mark_found ys i x r.1 (omega arith) is)

-- the packet is at the place of its number
pub place_found : (xs : List HeldPacket) (i : ℕ) (x : HeldPacket) → Rises (map held_of xs) → i < length xs → x ≡ get_or xs i x → place_of x.number (map held_of xs) ≡ i
place_found [] i x r l is = absurd (omega arith)
place_found (y ∷ ys) zero x r l is =
    let t : ltb y.packet.value.known.seq_no.0 x.number ≡ false = grind (arith, nat_tests, y.numbered, ap (λ (z : HeldPacket). z.number) is) in
    rw t refl
place_found (y ∷ ys) (suc i) x r l is =
    let over = number_from y.packet.value.known.seq_no.0 ys r.0 i x (omega arith) in
    let t : ltb y.packet.value.known.seq_no.0 x.number ≡ true = grind (arith, nat_tests, over, ap (λ (z : HeldPacket). z.number) is) in
    rw t (omega (arith, place_found ys i x r.1 (omega arith) is))

pub has_found : (xs : List HeldPacket) (i : ℕ) (x : HeldPacket) → i < length xs → x ≡ get_or xs i x → has_number x.number (map held_of xs) ≡ true
has_found [] i x l is = absurd (omega arith)
has_found (y ∷ ys) zero x l is = let t : eqb y.packet.value.known.seq_no.0 x.number ≡ true = grind (arith, nat_tests, y.numbered, ap (λ (z : HeldPacket). z.number) is) in rw t refl
has_found (y ∷ ys) (suc i) x l is = grind (arith, nat_tests, has_found ys i x (omega arith) is)

-- the packet at a place is held, as the list of held packets has it
pub held_found : (xs : List HeldPacket) (i : ℕ) (x : HeldPacket) → i < length xs → x ≡ get_or xs i x → held_of x ≡ get_or (map held_of xs) i (held_of x)
held_found [] i x l is = absurd (omega arith)
held_found (y ∷ ys) zero x l is = ap held_of is
held_found (y ∷ ys) (suc i) x l is = held_found ys i x (omega arith) is

-- a number that is held stands within
pub place_held : (n : ℕ) (hs : List Held) → Rises hs → has_number n hs ≡ true → place_of n hs < length hs
place_held n [] r has = absurd (cc)
place_held n (q ∷ qs) r has =
    by_test (ltb q.meta.seq_no.0 n) (λ b. ltb q.meta.seq_no.0 n ≡ b → cond b (place_of n qs + 1) 0 < length (q ∷ qs))
    (λ t at.
    let other : eqb q.meta.seq_no.0 n ≡ false = grind (arith, nat_tests, t) in
    let rest = place_held n qs r.1 (rw other at has) in omega (arith, rest))
    (λ t at. omega arith) refl

-- the number at its place
pub number_held : (n : ℕ) (xs : List HeldPacket) (x : HeldPacket) → Rises (map held_of xs) → has_number n (map held_of xs) ≡ true → x ≡ get_or xs (place_of n (map held_of xs)) x → x.number ≡ n
number_held n [] x r has is = absurd (cc)
number_held n (y ∷ ys) x r has is =
    by_test (ltb y.packet.value.known.seq_no.0 n) (λ b. ltb y.packet.value.known.seq_no.0 n ≡ b → x ≡ get_or (y ∷ ys) (cond b (place_of n (map held_of ys) + 1) 0) x → x.number ≡ n)
    (λ t at is.
    let other : eqb y.packet.value.known.seq_no.0 n ≡ false = grind (arith, nat_tests, t) in
    number_held n ys x r.1 (rw other at has) (rw add-one at is))
    (λ t at is. ap (λ (z : HeldPacket). z.number) is ∙ y.numbered ∙ here (grind (arith, nat_tests, t))) refl is
  where
    here : n ≤ y.packet.value.known.seq_no.0 → y.packet.value.known.seq_no.0 ≡ n
    here le = by_test (eqb y.packet.value.known.seq_no.0 n) (λ b. eqb y.packet.value.known.seq_no.0 n ≡ b → y.packet.value.known.seq_no.0 ≡ n)
        (λ e at. grind (arith, nat_tests, e))
        (λ e at.
        let absent = not_below n (map held_of ys) (above_lower n y.packet.value.known.seq_no.0 (map held_of ys) le r.0) in
        let there : has_number n (map held_of ys) ≡ true = rw e at has in
        absurd (cc)) refl

-- a write at the place of a number
pub mark_set : (n k : ℕ) (xs : List HeldPacket) (m : Mark) → Rises (map held_of xs) → has_number n (map held_of xs) ≡ true → m.number ≡ n
    → mark_at k (slice_set (map mark_of xs) (place_of n (map held_of xs)) m) ≡ cond (eqb n k) m (mark_at k (map mark_of xs))
mark_set n k [] m r has is = absurd (cc)
mark_set n k (y ∷ ys) m r has is =
    by_test (ltb y.packet.value.known.seq_no.0 n) (λ b. ltb y.packet.value.known.seq_no.0 n ≡ b
    → mark_at k (slice_set (mark_of y ∷ map mark_of ys) (cond b (place_of n (map held_of ys) + 1) 0) m) ≡ cond (eqb n k) m (cond (eqb y.number k) (mark_of y) (mark_at k (map mark_of ys))))
    (λ t at.
    let other : eqb y.packet.value.known.seq_no.0 n ≡ false = grind (arith, nat_tests, t) in
    rw add-one (ap (cond (eqb y.number k) (mark_of y)) (mark_set n k ys m r.1 (rw other at has) is) ∙ swap (grind (arith, nat_tests, t, y.numbered))))
    (λ t at.
    let same : y.number ≡ n = number_held n (y ∷ ys) y r has (rw t refl) in
    by_test (eqb n k) (λ b. eqb n k ≡ b → cond (eqb m.number k) m (mark_at k (map mark_of ys)) ≡ cond b m (cond (eqb y.number k) (mark_of y) (mark_at k (map mark_of ys))))
    (λ e at. rw (is, e) refl) (λ e at. rw (is, same, e) refl) refl) refl
  where
    swap : y.number < n → cond (eqb y.number k) (mark_of y) (cond (eqb n k) m (mark_at k (map mark_of ys))) ≡ cond (eqb n k) m (cond (eqb y.number k) (mark_of y) (mark_at k (map mark_of ys)))
    swap l = by_test (eqb y.number k) (λ b. eqb y.number k ≡ b → cond b (mark_of y) (cond (eqb n k) m (mark_at k (map mark_of ys))) ≡ cond (eqb n k) m (cond b (mark_of y) (mark_at k (map mark_of ys))))
        (λ e at. let f : eqb n k ≡ false = grind (arith, nat_tests, e, l) in rw f refl)
        (λ e at. refl) refl

-- a packet more, whose number was not there
pub mark_insert : (xs : List HeldPacket) (i k : ℕ) (x : HeldPacket) → has_number x.number (map held_of xs) ≡ false
    → mark_at k (map mark_of (insert xs i x)) ≡ cond (eqb x.number k) (mark_of x) (mark_at k (map mark_of xs))
mark_insert xs zero k x fresh = refl
mark_insert [] (suc i) k x fresh = refl
mark_insert (y ∷ ys) (suc i) k x fresh =
    let rest : has_number x.number (map held_of ys) ≡ false = grind (arith, fresh) in
    let other : y.number ≢ x.number = grind (arith, nat_tests, fresh, y.numbered) in
    ap (cond (eqb y.number k) (mark_of y)) (mark_insert ys i k x rest)
    ∙ by_test (eqb y.number k) (λ b. eqb y.number k ≡ b → cond b (mark_of y) (cond (eqb x.number k) (mark_of x) (mark_at k (map mark_of ys))) ≡ cond (eqb x.number k) (mark_of x) (cond b (mark_of y) (mark_at k (map mark_of ys))))
    (λ e at. let f : eqb x.number k ≡ false = grind (arith, nat_tests, e, other) in rw f refl)
    (λ e at. refl) refl

-- packets up to a number have left
pub mark_dropped : (last k : ℕ) (xs : List HeldPacket) → last < k → mark_at k (map mark_of (drop (end_of last (map held_of xs)) xs)) ≡ mark_at k (map mark_of xs)
mark_dropped last k [] l = refl
mark_dropped last k (y ∷ ys) l =
    by_test (ltb last y.packet.value.known.seq_no.0) (λ b. ltb last y.packet.value.known.seq_no.0 ≡ b
    → mark_at k (map mark_of (drop (cond b 0 (end_of last (map held_of ys) + 1)) (y ∷ ys))) ≡ cond (eqb y.number k) (mark_of y) (mark_at k (map mark_of ys)))
    (λ t at. refl)
    (λ t at. let f : eqb y.number k ≡ false = grind (arith, nat_tests, t, l, y.numbered) in rw (f, add-one) (mark_dropped last k ys l)) refl
