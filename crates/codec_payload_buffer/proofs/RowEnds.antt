-- The ends of rows, at the places that the code reads.
use Rattle.std.proofs.Common.{◌≡◌, ◌≢◌, ℕ, ◌<◌, ◌≤◌, ◌+◌, ◌-◌, [], ◌∷◌, List, length, get_or, map, zero, suc, add-one, ltb, refl, ap, sym, subst, drop, ◌∙◌, arith, Bool, true, false, cond, Option, Some, None, eqb, inl, inr, ◌⊎◌}
use Rattle.std.specs.Prelude.{slice_set, IfSome}
use Rattle.std.specs.List.{insert}
use Rattle.std.proofs.lemmas.Bool.Decides.{nat_tests}
use Rattle.std.proofs.lemmas.List.{length-map}
use Rattle.codec_payload_base.specs.Time.{Time}
use Rattle.codec_payload_buffer.specs.declared.buffer.held_packet.HeldPacket.{HeldPacket}
use Rattle.codec_payload_buffer.specs.Held.{Held, held_of, Rises, TakesLowest, has_number, placed, above}
use Rattle.codec_payload_buffer.specs.Scan.{place_of, end_of, first_of}
use Rattle.codec_payload_buffer.specs.Frames.{frames}
use Rattle.codec_payload_buffer.specs.Rows.{row_of, rows, row_placed, merged, meet, joined, put_before, IsHeadKept, IsFirstShort, IsShortened, shortened, with_row, with_frame, row_frames}
use Rattle.codec_payload_buffer.specs.Rows.{frame_of_row, frame_of_rest, first_mended, next_head, row_end, RowsAbove, RowsRise}
use Rattle.codec_payload_buffer.specs.declared.buffer.frames.CompleteFrame.{CompleteFrame}
use Rattle.codec_payload_buffer.proofs.PlaceLemmas.{place_ok, placed_rises, length_placed}
use Rattle.codec_payload_buffer.proofs.RowListLemmas.{rows_placed, rows_rise, rows_above, are_longest, outside_rows}
use Rattle.codec_payload_buffer.proofs.RowFrames.{by_frame, frames_of_rows}
use Rattle.codec_payload_buffer.proofs.IndexLemmas.{first_is_short, without_lowest_index, left_index}
use Rattle.codec_payload_buffer.proofs.PopLemmas.{above_is_above, above_rises}
use Rattle.codec_payload_buffer.specs.Ends.{Mark, mark_of, mark_at, no_mark, IsTold, AreTold, next_of, previous_of, row_ending, IsLowestRow, IsBeyond, marked}
use Rattle.codec_payload_buffer.specs.declared.buffer.rows.Row.{Row}
use Rattle.codec_payload_codec.proofs.CaseLemmas.{by_test}
use Rattle.codec_payload_buffer.proofs.EndLemmas.{IsRowAmong, AreRowsAmong, rows_among, next_is, previous_is, next_there, previous_there, by_row, place_fresh, place_held_next, merged_among, merged_has, HasNumber, StaysBut, told_placed, told_above}
use Rattle.codec_payload_buffer.proofs.MarkLemmas.{mark_found, place_found, has_found, held_found, place_held, number_held, mark_set, mark_insert, mark_dropped}

-- the last packet of a row
pub record IsLastOf (r : Row) (y : HeldPacket) : Type 0 where
  pub whole : row_ending r.first y ≡ r
  pub other_end : y.packet.value.other_end ≡ r.first
  pub number : y.number ≡ r.last

abbrev with_parts : Row → ℕ → Time → Option ℕ → Bool → Row
with_parts r last time head tail = record { first = r.first; last = last; time = time; head = head; tail = tail }

last_found : (xs : List HeldPacket) (r : Row) (y : HeldPacket) → Rises (map held_of xs) → IsRowAmong (map held_of xs) r → IsTold r (map mark_of xs)
    → y ≡ get_or xs (place_of r.last (map held_of xs)) y → IsLastOf r y
last_found xs r y rises among told is =
    let place = place_of r.last (map held_of xs) in
    let within : place < length xs = omega (arith, place_held r.last (map held_of xs) rises among.last_held, length-map xs held_of) in
    let number : y.number ≡ r.last = number_held r.last xs y rises among.last_held is in
    let mark : mark_of y ≡ mark_at r.last (map mark_of xs) = sym (mark_found xs place y rises within is) ∙ ap (λ k. mark_at k (map mark_of xs)) number in
    let held = held_found xs place y within is in
    let tail : y.packet.value.tail ≡ r.tail = among.tail (held_of y) held in
    let time : y.packet.value.known.time ≡ r.time = among.time (held_of y) held in
    let head : y.packet.value.row_head ≡ r.head = ap (λ (m : Mark). m.row_head) mark ∙ told.2 in
    record {
      whole = ap (λ k. with_parts r k y.packet.value.known.time y.packet.value.row_head y.packet.value.tail) number
          ∙ ap (λ (t : Time). with_parts r r.last t y.packet.value.row_head y.packet.value.tail) time
          ∙ ap (λ (o : Option ℕ). with_parts r r.last r.time o y.packet.value.tail) head
          ∙ ap (λ (b : Bool). with_parts r r.last r.time r.head b) tail;
      other_end = ap (λ (m : Mark). m.other_end) mark ∙ told.1;
      number = number;
    }

-- from the first packet of a row onwards, as the code reads it
pub record IsFirstOf (xs : List HeldPacket) (r : Row) (i : ℕ) (x : HeldPacket) : Type 0 where
  pub order : x.number ≤ x.packet.value.other_end
  pub within : i + (x.packet.value.other_end - x.number) < length xs
  pub whole : (y : HeldPacket) → y ≡ get_or xs (i + (x.packet.value.other_end - x.number)) y → row_ending x.number y ≡ r

first_found : (xs : List HeldPacket) (r : Row) (i : ℕ) (x : HeldPacket) → Rises (map held_of xs) → IsRowAmong (map held_of xs) r → IsTold r (map mark_of xs)
    → i < length xs → x ≡ get_or xs i x → x.number ≡ r.first → IsFirstOf xs r i x
first_found xs r i x rises among told l is first =
    let mark : mark_of x ≡ mark_at r.first (map mark_of xs) = sym (mark_found xs i x rises l is) ∙ ap (λ k. mark_at k (map mark_of xs)) first in
    let end : x.packet.value.other_end ≡ r.last = ap (λ (m : Mark). m.other_end) mark ∙ told.0 in
    let begin : place_of r.first (map held_of xs) ≡ i = rw (← first) (place_found xs i x rises l is) in
    let place : place_of r.last (map held_of xs) ≡ i + (x.packet.value.other_end - x.number) = among.span r.last among.order (omega arith) ∙ rw (begin, end, first) refl in
    record {
      order = omega (arith, end, first, among.order);
      within = omega (arith, place, place_held r.last (map held_of xs) rises among.last_held, length-map xs held_of);
      whole = λ y at.
          let there : y ≡ get_or xs (place_of r.last (map held_of xs)) y = at ∙ ap (λ k. get_or xs k y) (sym place) in
          rw first (last_found xs r y rises among told there).whole;
    }

-- The row after a number that is not held

pub next_found : (xs : List HeldPacket) (n i : ℕ) (x : HeldPacket) → Rises (map held_of xs) → AreTold (rows (map held_of xs)) (map mark_of xs) → has_number n (map held_of xs) ≡ false
    → i < length xs → x ≡ get_or xs i x → x.number ≡ n + 1 → (r : Row) × (next_of n (rows (map held_of xs)) ≡ Some r) × IsFirstOf xs r i x
next_found xs n i x rises told fresh l is number =
    let there = next_there n (map held_of xs) fresh (rw (← number) (has_found xs i x l is)) in
    let beside = next_is n (map held_of xs) (map mark_of xs) (rows (map held_of xs)) there.0 (rows_among (map held_of xs) rises) told there.1 in
    (there.0, there.1, first_found xs there.0 i x rises beside.0.among beside.0.told l is (number ∙ sym beside.1))

-- the place of the row after n, if there is one
next_place : (xs : List HeldPacket) (n : ℕ) (r : Row) → Rises (map held_of xs) → AreTold (rows (map held_of xs)) (map mark_of xs) → has_number n (map held_of xs) ≡ false
    → next_of n (rows (map held_of xs)) ≡ Some r → (has_number (n + 1) (map held_of xs) ≡ true) × (place_of n (map held_of xs) < length xs)
next_place xs n r rises told fresh is =
    let beside = next_is n (map held_of xs) (map mark_of xs) (rows (map held_of xs)) r (rows_among (map held_of xs) rises) told is in
    let held : has_number (n + 1) (map held_of xs) ≡ true = rw (← beside.1) beside.0.among.first_held in
    (held, omega (arith, place_held (n + 1) (map held_of xs) rises held, place_fresh n (map held_of xs) fresh, length-map xs held_of))

pub next_past : (xs : List HeldPacket) (n : ℕ) → Rises (map held_of xs) → AreTold (rows (map held_of xs)) (map mark_of xs) → has_number n (map held_of xs) ≡ false
    → length xs ≤ place_of n (map held_of xs) → next_of n (rows (map held_of xs)) ≡ None
next_past xs n rises told fresh past =
    by_row (next_of n (rows (map held_of xs))) (λ o. o ≡ None) (λ e. refl)
    (λ r is. let at = next_place xs n r rises told fresh is in absurd (omega (arith, at.1, past)))

pub next_apart : (xs : List HeldPacket) (n : ℕ) (x : HeldPacket) → Rises (map held_of xs) → AreTold (rows (map held_of xs)) (map mark_of xs) → has_number n (map held_of xs) ≡ false
    → x ≡ get_or xs (place_of n (map held_of xs)) x → eqb (n + 1) x.number ≡ false → next_of n (rows (map held_of xs)) ≡ None
next_apart xs n x rises told fresh is other =
    by_row (next_of n (rows (map held_of xs))) (λ o. o ≡ None) (λ e. refl)
    (λ r at.
    let place = next_place xs n r rises told fresh at in
    let same : x.number ≡ n + 1 = number_held (n + 1) xs x rises place.0 (is ∙ ap (λ k. get_or xs k x) (sym (place_fresh n (map held_of xs) fresh))) in
    let test : eqb (n + 1) x.number ≡ true = grind (arith, nat_tests, same) in
    absurd (cc))

-- The row before it

pub previous_found : (xs : List HeldPacket) (n i : ℕ) (x : HeldPacket) → Rises (map held_of xs) → AreTold (rows (map held_of xs)) (map mark_of xs) → has_number n (map held_of xs) ≡ false
    → i < length xs → x ≡ get_or xs i x → x.number + 1 ≡ n → (r : Row) × (previous_of n (rows (map held_of xs)) ≡ Some r) × (row_ending x.packet.value.other_end x ≡ r)
previous_found xs n i x rises told fresh l is number =
    let there = previous_there x.number n (map held_of xs) rises number fresh (has_found xs i x l is) in
    let beside = previous_is n (map held_of xs) (map mark_of xs) (rows (map held_of xs)) there.0 (rows_among (map held_of xs) rises) told there.1 in
    let last : x.number ≡ there.0.last = omega (arith, number, beside.1) in
    let place : place_of there.0.last (map held_of xs) ≡ i = rw (← last) (place_found xs i x rises l is) in
    let found = last_found xs there.0 x rises beside.0.among beside.0.told (is ∙ ap (λ k. get_or xs k x) (sym place)) in
    (there.0, there.1, ap (λ k. row_ending k x) found.other_end ∙ found.whole)

previous_place : (xs : List HeldPacket) (n : ℕ) (r : Row) → Rises (map held_of xs) → AreTold (rows (map held_of xs)) (map mark_of xs)
    → previous_of n (rows (map held_of xs)) ≡ Some r → (r.last + 1 ≡ n) × (has_number r.last (map held_of xs) ≡ true) × (place_of n (map held_of xs) ≡ place_of r.last (map held_of xs) + 1)
previous_place xs n r rises told is =
    let beside = previous_is n (map held_of xs) (map mark_of xs) (rows (map held_of xs)) r (rows_among (map held_of xs) rises) told is in
    (beside.1, beside.0.among.last_held, place_held_next r.last n (map held_of xs) rises beside.1 beside.0.among.last_held)

pub previous_past : (xs : List HeldPacket) (n : ℕ) → Rises (map held_of xs) → AreTold (rows (map held_of xs)) (map mark_of xs) → place_of n (map held_of xs) ≡ 0 → previous_of n (rows (map held_of xs)) ≡ None
previous_past xs n rises told past =
    by_row (previous_of n (rows (map held_of xs))) (λ o. o ≡ None) (λ e. refl)
    (λ r is. let at = previous_place xs n r rises told is in absurd (omega (arith, at.2, past)))

pub previous_apart : (xs : List HeldPacket) (n i : ℕ) (x : HeldPacket) → Rises (map held_of xs) → AreTold (rows (map held_of xs)) (map mark_of xs)
    → place_of n (map held_of xs) ≡ i + 1 → x ≡ get_or xs i x → eqb (x.number + 1) n ≡ false → previous_of n (rows (map held_of xs)) ≡ None
previous_apart xs n i x rises told place is other =
    by_row (previous_of n (rows (map held_of xs))) (λ o. o ≡ None) (λ e. refl)
    (λ r at.
    let before = previous_place xs n r rises told at in
    let begin : i ≡ place_of r.last (map held_of xs) = omega (arith, before.2, place) in
    let same : x.number ≡ r.last = number_held r.last xs x rises before.1 (is ∙ ap (λ k. get_or xs k x) begin) in
    let test : eqb (x.number + 1) n ≡ true = grind (arith, nat_tests, same, before.0) in
    absurd (cc))

-- The lowest row

pub record IsLowest (xs : List HeldPacket) (x : HeldPacket) : Type 0 where
  pub order : x.number ≤ x.packet.value.other_end
  pub within : x.packet.value.other_end - x.number < length xs
  pub whole : (y : HeldPacket) → y ≡ get_or xs (x.packet.value.other_end - x.number) y → IsLowestRow (rows (map held_of xs)) (row_ending x.number y)

-- the first row begins with the first packet
row_first : (p : Held) (rs : List Row) → (r : Row) × (all : List Row) × (put_before (row_of p) rs ≡ r ∷ all) × (r.first ≡ p.meta.seq_no.0)
row_first p [] = (row_of p, [], refl, refl)
row_first p (r ∷ rs) =
    by_test (meet (row_of p) r) (λ b. (s : Row) × (all : List Row) × (cond b (joined (row_of p) r ∷ rs) (row_of p ∷ r ∷ rs) ≡ s ∷ all) × (s.first ≡ p.meta.seq_no.0))
    (λ e. (joined (row_of p) r, rs, refl, refl)) (λ e. (row_of p, r ∷ rs, refl, refl))

pub lowest_found : (xs : List HeldPacket) (x : HeldPacket) → Rises (map held_of xs) → AreTold (rows (map held_of xs)) (map mark_of xs) → 0 < length xs → x ≡ get_or xs 0 x → IsLowest xs x
lowest_found [] x rises told l is = absurd (omega arith)
lowest_found (y ∷ ys) x rises told l is =
    let first = row_first (held_of y) (rows (map held_of ys)) in
    let P : List Row → Type 0 = λ rs. AreRowsAmong (map held_of (y ∷ ys)) rs in
    let among : AreRowsAmong (map held_of (y ∷ ys)) (first.0 ∷ first.1) = subst P first.2 (rows_among (map held_of (y ∷ ys)) rises) in
    let Q : List Row → Type 0 = λ rs. AreTold rs (map mark_of (y ∷ ys)) in
    let tells : AreTold (first.0 ∷ first.1) (map mark_of (y ∷ ys)) = subst Q first.2 told in
    let end = x.packet.value.other_end - x.number in
    let same : end ≡ 0 + end = omega arith in
    let number : x.number ≡ first.0.first = ap (λ (z : HeldPacket). z.number) is ∙ y.numbered ∙ sym first.3 in
    let found = first_found (y ∷ ys) first.0 0 x rises among.0 tells.0 l is number in
    record {
      order = found.order;
      within = omega (arith, found.within);
      whole = λ z at. rw first.2 (found.whole z (at ∙ ap (λ k. get_or (y ∷ ys) k z) same));
    }

-- its ends, after they are noted again
pub record IsLowestThere (hs : List Held) (r : Row) : Type 0 where
  pub order : r.first ≤ r.last
  pub from : 0 ≡ place_of r.first hs
  pub to : r.last - r.first ≡ place_of r.last hs
  pub first : has_number r.first hs ≡ true
  pub last : has_number r.last hs ≡ true

pub lowest_there : (hs : List Held) (r : Row) → Rises hs → IsLowestRow (rows hs) r → IsLowestThere hs r
lowest_there [] r rises is = absurd is
lowest_there (p ∷ ps) r rises is =
    let first = row_first p (rows ps) in
    let P : List Row → Type 0 = λ rs. AreRowsAmong (p ∷ ps) rs in
    let Q : List Row → Type 0 = λ rs. IsLowestRow rs r in
    let all : AreRowsAmong (p ∷ ps) (first.0 ∷ first.1) = subst P first.2 (rows_among (p ∷ ps) rises) in
    let same : r ≡ first.0 = subst Q first.2 is in
    let R : Row → Type 0 = λ x. IsRowAmong (p ∷ ps) x in
    let among : IsRowAmong (p ∷ ps) r = subst R (sym same) all.0 in
    let number : r.first ≡ p.meta.seq_no.0 = ap (λ (x : Row). x.first) same ∙ first.3 in
    let t : ltb p.meta.seq_no.0 r.first ≡ false = grind (arith, nat_tests, number) in
    let begin : place_of r.first (p ∷ ps) ≡ 0 = rw t refl in
    record {
      order = among.order;
      from = sym begin;
      to = let at = among.span r.last among.order (omega arith) in omega (arith, at, begin);
      first = among.first_held;
      last = among.last_held;
    }

-- Writes

pub held_set : (xs : List HeldPacket) (i : ℕ) (x y : HeldPacket) → x ≡ get_or xs i x → held_of y ≡ held_of x → map held_of (slice_set xs i y) ≡ map held_of xs
held_set [] i x y is same = refl
held_set (z ∷ zs) zero x y is same = ap (λ (h : Held). h ∷ map held_of zs) (same ∙ ap held_of is)
held_set (z ∷ zs) (suc i) x y is same = ap (λ (hs : List Held). held_of z ∷ hs) (held_set zs i x y is same)

pub marks_set : (xs : List HeldPacket) (i : ℕ) (y : HeldPacket) → map mark_of (slice_set xs i y) ≡ slice_set (map mark_of xs) i (mark_of y)
marks_set [] i y = refl
marks_set (z ∷ zs) zero y = refl
marks_set (z ∷ zs) (suc i) y = ap (λ (ms : List Mark). mark_of z ∷ ms) (marks_set zs i y)

pub mark_there : (xs : List HeldPacket) (i : ℕ) (x : HeldPacket) → i < length xs → x ≡ get_or xs i x → mark_of x ≡ get_or (map mark_of xs) i no_mark
mark_there [] i x l is = absurd (omega arith)
mark_there (z ∷ zs) zero x l is = ap mark_of is
mark_there (z ∷ zs) (suc i) x l is = mark_there zs i x (omega arith) is

-- the number that a mark at the place of a held number has
pub mark_number : (n : ℕ) (xs : List HeldPacket) → Rises (map held_of xs) → has_number n (map held_of xs) ≡ true → (get_or (map mark_of xs) (place_of n (map held_of xs)) no_mark).number ≡ n
mark_number n [] r has = absurd (cc)
mark_number n (y ∷ ys) r has =
    by_test (ltb y.packet.value.known.seq_no.0 n) (λ b. ltb y.packet.value.known.seq_no.0 n ≡ b → (get_or (mark_of y ∷ map mark_of ys) (cond b (place_of n (map held_of ys) + 1) 0) no_mark).number ≡ n)
    (λ t at.
    let other : eqb y.packet.value.known.seq_no.0 n ≡ false = grind (arith, nat_tests, t) in
    rw add-one (mark_number n ys r.1 (rw other at has)))
    (λ t at. number_held n (y ∷ ys) y r has (rw t refl)) refl

-- the two writes to the ends of a row
pub record IsWritten (r : Row) (old new : List Mark) : Type 0 where
  pub told : IsTold r new
  pub others : (k : ℕ) → k ≢ r.first → k ≢ r.last → mark_at k new ≡ mark_at k old

pub ends_written : (xs mid : List HeldPacket) (r : Row) (new : List Mark) → Rises (map held_of xs) → has_number r.first (map held_of xs) ≡ true → has_number r.last (map held_of xs) ≡ true
    → map held_of mid ≡ map held_of xs
    → map mark_of mid ≡ slice_set (map mark_of xs) (place_of r.first (map held_of xs)) (marked (get_or (map mark_of xs) (place_of r.first (map held_of xs)) no_mark) r.last None)
    → new ≡ slice_set (map mark_of mid) (place_of r.last (map held_of xs)) (marked (get_or (map mark_of mid) (place_of r.last (map held_of xs)) no_mark) r.first r.head)
    → IsWritten r (map mark_of xs) new
ends_written xs mid r new rises first last held one two =
    let rises' : Rises (map held_of mid) = rw held rises in
    let last' : has_number r.last (map held_of mid) ≡ true = rw held last in
    let a = marked (get_or (map mark_of xs) (place_of r.first (map held_of xs)) no_mark) r.last None in
    let b = marked (get_or (map mark_of mid) (place_of r.last (map held_of xs)) no_mark) r.first r.head in
    let mid_at : (k : ℕ) → mark_at k (map mark_of mid) ≡ cond (eqb r.first k) a (mark_at k (map mark_of xs)) = λ k. ap (mark_at k) one ∙ mark_set r.first k xs a rises first (mark_number r.first xs rises first) in
    let number : b.number ≡ r.last = rw (← held) (mark_number r.last mid rises' last') in
    let new_at : (k : ℕ) → mark_at k new ≡ cond (eqb r.last k) b (mark_at k (map mark_of mid)) = λ k. ap (mark_at k) two
    ∙ ap (λ (hs : List Held). mark_at k (slice_set (map mark_of mid) (place_of r.last hs) b)) (sym held) ∙ mark_set r.last k mid b rises' last' number in
    let self : eqb r.last r.last ≡ true = grind (arith, nat_tests) in
    let self' : eqb r.first r.first ≡ true = grind (arith, nat_tests) in
    let at_last : mark_at r.last new ≡ b = new_at r.last ∙ ap (λ t. cond t b (mark_at r.last (map mark_of mid))) self in
    let at_first : (mark_at r.first new).other_end ≡ r.last = ap (λ (m : Mark). m.other_end) (new_at r.first)
    ∙ by_test (eqb r.last r.first) (λ t. (cond t b (mark_at r.first (map mark_of mid))).other_end ≡ r.last)
    (λ e. grind (arith, nat_tests, e))
    (λ e. ap (λ (m : Mark). m.other_end) (mid_at r.first ∙ ap (λ t. cond t a (mark_at r.first (map mark_of xs))) self')) in
    record {
      told = (at_first, ap (λ (m : Mark). m.other_end) at_last, ap (λ (m : Mark). m.row_head) at_last);
      others = λ k not_first not_last.
          let t : eqb r.last k ≡ false = grind (arith, nat_tests, not_last) in
          let u : eqb r.first k ≡ false = grind (arith, nat_tests, not_first) in
          new_at k ∙ rw t (mid_at k ∙ rw u refl);
    }

-- A packet more

place_placed : (p : Held) (hs : List Held) → place_of p.meta.seq_no.0 (placed p hs) ≡ place_of p.meta.seq_no.0 hs
place_placed p [] = let t : ltb p.meta.seq_no.0 p.meta.seq_no.0 ≡ false = grind (arith, nat_tests) in rw t refl
place_placed p (q ∷ qs) =
    let t : ltb p.meta.seq_no.0 p.meta.seq_no.0 ≡ false = grind (arith, nat_tests) in
    by_test (ltb q.meta.seq_no.0 p.meta.seq_no.0) (λ b. ltb q.meta.seq_no.0 p.meta.seq_no.0 ≡ b
    → place_of p.meta.seq_no.0 (cond b (q ∷ placed p qs) (p ∷ q ∷ qs)) ≡ cond b (place_of p.meta.seq_no.0 qs + 1) 0)
    (λ e at. rw (e, place_placed p qs) refl)
    (λ e at. rw t refl) refl

-- the row of a packet, after its ends are noted
pub record IsRowPlaced (xs new : List HeldPacket) (place : ℕ) (x : HeldPacket) (r : Row) : Type 0 where
  pub held : map held_of new ≡ placed (held_of x) (map held_of xs)
  pub rises : Rises (map held_of new)
  pub low : r.first ≤ x.number
  pub high : x.number ≤ r.last
  pub room : x.number - r.first ≤ place
  pub from : place - (x.number - r.first) ≡ place_of r.first (map held_of new)
  pub to : place + (r.last - x.number) ≡ place_of r.last (map held_of new)
  pub first : has_number r.first (map held_of new) ≡ true
  pub last : has_number r.last (map held_of new) ≡ true
  pub within : place + (r.last - x.number) ≤ length xs

pub row_is_placed : (xs new : List HeldPacket) (place : ℕ) (x : HeldPacket) (r : Row) → Rises (map held_of xs) → place ≡ place_of x.number (map held_of xs) → has_number x.number (map held_of xs) ≡ false
    → new ≡ insert xs place x → r ≡ merged (row_of (held_of x)) (rows (map held_of xs)) → IsRowPlaced xs new place x r
row_is_placed xs new place x r rises at fresh put is =
    let p = held_of x in
    let hs = map held_of xs in
    let held : map held_of new ≡ placed p hs = place_ok x xs new place at put in
    let fresh' : has_number p.meta.seq_no.0 hs ≡ false = ap (λ k. has_number k hs) (sym x.numbered) ∙ fresh in
    let rises' : Rises (placed p hs) = placed_rises p hs rises fresh' in
    let P : List Row → Type 0 = λ rs. AreRowsAmong (placed p hs) rs in
    let all : AreRowsAmong (placed p hs) (row_placed (row_of p) (rows hs)) = subst P (rows_placed p hs rises fresh') (rows_among (placed p hs) rises') in
    let R : Row → Type 0 = λ w. IsRowAmong (placed p hs) w in
    let among : IsRowAmong (placed p hs) r = subst R (sym is) (merged_among (placed p hs) (row_of p) (rows hs) (are_longest hs) all) in
    let H : Row → Type 0 = λ w. HasNumber (row_of p) w in
    let has : HasNumber (row_of p) r = subst H (sym is) (merged_has (row_of p) (rows hs) refl (rows_rise hs rises) (outside_rows p.meta.seq_no.0 hs fresh' rises)) in
    let number = x.numbered in
    let here : place_of p.meta.seq_no.0 (placed p hs) ≡ place = place_placed p hs ∙ ap (λ k. place_of k hs) (sym number) ∙ sym at in
    let span = among.span p.meta.seq_no.0 has.0 has.1 in
    let end = among.span r.last among.order (omega arith) in
    let many : length (placed p hs) ≡ length hs + 1 = length_placed p hs in
    let inside = place_held r.last (placed p hs) rises' among.last_held in
    record {
      held = held;
      rises = rw held rises';
      low = omega (arith, has.0, number);
      high = omega (arith, has.1, number);
      room = omega (arith, span, here, number, has.0);
      from = rw held (omega (arith, span, here, number, has.0));
      to = rw held (omega (arith, span, here, end, number, has.0, has.1));
      first = rw held among.first_held;
      last = rw held among.last_held;
      within = omega (arith, span, here, end, number, has.0, has.1, inside, many, length-map xs held_of);
    }

pub placed_told : (xs new : List HeldPacket) (place : ℕ) (x : HeldPacket) (r : Row) (marks : List Mark) → Rises (map held_of xs) → AreTold (rows (map held_of xs)) (map mark_of xs)
    → has_number x.number (map held_of xs) ≡ false → new ≡ insert xs place x → r ≡ merged (row_of (held_of x)) (rows (map held_of xs)) → r.first ≤ x.number → x.number ≤ r.last
    → IsTold r marks → ((k : ℕ) → k ≢ r.first → k ≢ r.last → mark_at k marks ≡ mark_at k (map mark_of new)) → AreTold (rows (placed (held_of x) (map held_of xs))) marks
placed_told xs new place x r marks rises told fresh put is low high whole others =
    let p = held_of x in
    let hs = map held_of xs in
    let fresh' : has_number p.meta.seq_no.0 hs ≡ false = ap (λ k. has_number k hs) (sym x.numbered) ∙ fresh in
    let stays : StaysBut r (map mark_of xs) marks = λ k out.
    let apart : (k ≢ r.first) × (k ≢ r.last) × (eqb x.number k ≡ false) = beyond k out in
    others k apart.0 apart.1 ∙ ap (λ (ys : List HeldPacket). mark_at k (map mark_of ys)) put ∙ mark_insert xs place k x fresh
    ∙ ap (λ t. cond t (mark_of x) (mark_at k (map mark_of xs))) apart.2 in
    let W : Row → Type 0 = λ w. IsTold w marks in
    let S : Row → Type 0 = λ w. StaysBut w (map mark_of xs) marks in
    let Q : List Row → Type 0 = λ rs. AreTold rs marks in
    subst Q (sym (rows_placed p hs rises fresh'))
    (told_placed (row_of p) (rows hs) (map mark_of xs) marks refl (rows_rise hs rises) (outside_rows p.meta.seq_no.0 hs fresh' rises) (are_longest hs) (subst W is whole) (subst S is stays) told)
  where
    beyond : (k : ℕ) → ((k < r.first) ⊎ (r.last < k)) → (k ≢ r.first) × (k ≢ r.last) × (eqb x.number k ≡ false)
    beyond k (inl l) = (omega (arith, l), omega (arith, l, low, high), grind (arith, nat_tests, l, low))
    beyond k (inr l) = (omega (arith, l, low, high), omega (arith, l), grind (arith, nat_tests, l, high))

-- Without the lowest packet

pub record IsShort (row : Row) (left : List Held) : Type 0 where
  pub order : row.first ≤ row.last
  pub kept : IsHeadKept row left

pub short_row : (hs left : List Held) (n : ℕ) (row : Row) → Rises hs → IsLowestRow (rows hs) row → TakesLowest hs n left → IsShort row left
short_row [] left n row rises is takes = absurd is
short_row (p ∷ ps) left n row rises is takes =
    let first = row_first p (rows ps) in
    let P : List Row → Type 0 = λ rs. IsFirstShort rs ps in
    let Q : List Row → Type 0 = λ rs. IsLowestRow rs row in
    let short : IsFirstShort (first.0 ∷ first.1) ps = subst P first.2 (first_is_short p ps rises) in
    let same : row ≡ first.0 = subst Q first.2 is in
    let K : Row → Type 0 = λ r. IsHeadKept r ps in
    let L : List Held → Type 0 = λ hs. IsHeadKept row hs in
    record { order = rw same short.0; kept = subst L (sym takes.1) (subst K (sym same) short.1) }

-- the rest of the lowest row, and the rows after that
record IsLeft (p : Held) (ps : List Held) (row : Row) : Type 0 where
  all : List Row
  rows_are : rows (p ∷ ps) ≡ row ∷ all
  left_are : with_row (shortened row ps) all ≡ rows ps
  frames_are : first_mended (frame_of_row row) (frame_of_rest (shortened row ps)) (frames (p ∷ ps)) ≡ frames ps

left_of : (p : Held) (ps : List Held) (row : Row) → Rises (p ∷ ps) → IsLowestRow (rows (p ∷ ps)) row → IsLeft p ps row
left_of p ps row rises is =
    let first = row_first p (rows ps) in
    let Q : List Row → Type 0 = λ rs. IsLowestRow rs row in
    let same : row ≡ first.0 = subst Q first.2 is in
    let are : rows (p ∷ ps) ≡ row ∷ first.1 = first.2 ∙ ap (λ (r : Row). r ∷ first.1) (sym same) in
    let S : List Row → Type 0 = λ rs. IsShortened rs ps (frame_of_row row) (frame_of_rest (shortened row ps)) (with_row (shortened row ps) first.1) in
    let short : IsShortened (rows (p ∷ ps)) ps (frame_of_row row) (frame_of_rest (shortened row ps)) (with_row (shortened row ps) first.1) = subst S (sym are) (refl, refl, refl) in
    let both = without_lowest_index p ps (frame_of_row row) (frame_of_rest (shortened row ps)) (with_row (shortened row ps) first.1) rises short in
    record { all = first.1; rows_are = are; left_are = both.0; frames_are = both.1 }

pub record IsEvicted (hs left : List Held) (row : Row) (rest : Option Row) : Type 0 where
  pub lowest : IfSome rest (λ r. IsLowestRow (rows left) r)
  pub frames_are : first_mended (frame_of_row row) (frame_of_rest rest) (frames hs) ≡ frames left
  pub some : IfSome (frame_of_row row) (λ _. 0 < length (frames hs))

pub evicted : (hs left : List Held) (n : ℕ) (row : Row) (rest : Option Row) → Rises hs → IsLowestRow (rows hs) row → TakesLowest hs n left → rest ≡ shortened row left → IsEvicted hs left row rest
evicted [] left n row rest rises is takes short = absurd is
evicted (p ∷ ps) left n row rest rises is takes short =
    let of = left_of p ps row rises is in
    let short' : rest ≡ shortened row ps = short ∙ ap (shortened row) takes.1 in
    let frames_of : frames (p ∷ ps) ≡ with_frame (frame_of_row row) (row_frames of.all) = sym (frames_of_rows (p ∷ ps)) ∙ ap row_frames of.rows_are in
    record {
      lowest = rw (takes.1, ← of.left_are, ← short') (low of.all rest);
      frames_are = rw (takes.1, short') of.frames_are;
      some = rw frames_of (by_frame (frame_of_row row) (λ o. IfSome o (λ _. 0 < length (with_frame o (row_frames of.all)))) (λ e. tt) (λ f e. omega arith));
    }
  where
    low : (all : List Row) (o : Option Row) → IfSome o (λ r. IsLowestRow (with_row o all) r)
    low all None = tt
    low all (Some r) = refl

pub evicted_told : (xs left : List HeldPacket) (marks : List Mark) (n : ℕ) (row : Row) (rest : Option Row) → Rises (map held_of xs) → AreTold (rows (map held_of xs)) (map mark_of xs)
    → IsLowestRow (rows (map held_of xs)) row → TakesLowest (map held_of xs) n (map held_of left) → left ≡ drop 1 xs → rest ≡ shortened row (map held_of left)
    → IfSome rest (λ r. IsTold r marks) → ((k : ℕ) → IsBeyond rest k → mark_at k marks ≡ mark_at k (map mark_of left)) → AreTold (rows (map held_of left)) marks
evicted_told [] left marks n row rest rises told is takes drops short whole others = absurd is
evicted_told (y ∷ ys) left marks n row rest rises told is takes drops short whole others =
    let of = left_of (held_of y) (map held_of ys) row rises is in
    let short' : rest ≡ shortened row (map held_of ys) = short ∙ ap (shortened row) takes.1 in
    let Q : List Row → Type 0 = λ rs. AreTold rs (map mark_of (y ∷ ys)) in
    let tells : AreTold (row ∷ of.all) (map mark_of (y ∷ ys)) = subst Q of.rows_are told in
    let U : List Row → Type 0 = λ rs. RowsRise rs in
    let up : RowsRise (row ∷ of.all) = subst U of.rows_are (rows_rise (map held_of (y ∷ ys)) rises) in
    let number : row.first ≡ y.packet.value.known.seq_no.0 = first_number (held_of y) (rows (map held_of ys)) of.all of.rows_are in
    let after : (k : ℕ) → row.last < k → IsBeyond rest k → mark_at k marks ≡ mark_at k (map mark_of (y ∷ ys)) = λ k l beyond.
    let t : eqb y.number k ≡ false = grind (arith, nat_tests, l, up.0, number, y.numbered) in
    others k beyond ∙ ap (λ (zs : List HeldPacket). mark_at k (map mark_of zs)) drops ∙ sym (ap (λ b. cond b (mark_of y) (mark_at k (map mark_of ys))) t) in
    let R : List Row → Type 0 = λ rs. AreTold rs marks in
    rw takes.1 (subst R (ap (λ (o : Option Row). with_row o of.all) short' ∙ of.left_are) (tell rest of.all tells.1 up.1 short' whole after))
  where
    first_number : (p : Held) (rs all : List Row) → put_before (row_of p) rs ≡ row ∷ all → row.first ≡ p.meta.seq_no.0
    first_number p rs all e =
        let first = row_first p rs in
        let same : first.0 ∷ first.1 ≡ row ∷ all = sym first.2 ∙ e in
        let one : first.0 ≡ row = cc in
        ap (λ (r : Row). r.first) (sym one) ∙ first.3

    tell : (o : Option Row) (all : List Row) → AreTold all (map mark_of (y ∷ ys)) → RowsAbove row.last all → o ≡ shortened row (map held_of ys) → IfSome o (λ r. IsTold r marks)
        → ((k : ℕ) → row.last < k → IsBeyond o k → mark_at k marks ≡ mark_at k (map mark_of (y ∷ ys))) → AreTold (with_row o all) marks
    tell None all tells up short whole after = told_above row.last all (map mark_of (y ∷ ys)) marks up (λ k l. after k l tt) tells
    tell (Some r) all tells up short whole after =
        let last : r.last ≡ row.last = last_same r (eqb row.first row.last) short in
        (whole, told_above row.last all (map mark_of (y ∷ ys)) marks up (λ k l. after k l (omega (arith, last, l))) tells)
      where
        last_same : (r : Row) (b : Bool) → Some r ≡ cond b None (Some (record row { first = row.first + 1; head = next_head row.last (map held_of ys) })) → r.last ≡ row.last
        last_same r true e = absurd (cc)
        last_same r false e = let same : r ≡ record row { first = row.first + 1; head = next_head row.last (map held_of ys) } = cc in ap (λ (x : Row). x.last) same

-- Without the packets up to a frame's end

pub left_told : (xs left : List HeldPacket) (f : CompleteFrame) → Rises (map held_of xs) → AreTold (rows (map held_of xs)) (map mark_of xs) → first_of (frames (map held_of xs)) ≡ Some f
    → left ≡ drop (end_of f.last (map held_of xs)) xs → map held_of left ≡ above f.last (map held_of xs) → AreTold (rows (map held_of left)) (map mark_of left)
left_told xs left f rises told first drops held =
    let hs = map held_of xs in
    let index = left_index hs f rises first in
    let Q : List Row → Type 0 = λ rs. AreTold rs (map mark_of xs) in
    let tells : AreTold (rows (above f.last hs)) (map mark_of xs) = subst Q index.0 (told_drop (row_end f.last (rows hs)) (rows hs) told) in
    let up = rows_above f.last (above f.last hs) (above_is_above f.last hs) (above_rises f.last hs rises) in
    let after : (k : ℕ) → f.last < k → mark_at k (map mark_of left) ≡ mark_at k (map mark_of xs) = λ k l. ap (λ (zs : List HeldPacket). mark_at k (map mark_of zs)) drops ∙ mark_dropped f.last k xs l in
    rw held (told_above f.last (rows (above f.last hs)) (map mark_of xs) (map mark_of left) up after tells)
  where
    told_drop : (i : ℕ) (rs : List Row) → AreTold rs (map mark_of xs) → AreTold (drop i rs) (map mark_of xs)
    told_drop zero rs t = t
    told_drop (suc i) [] t = t
    told_drop (suc i) (r ∷ rs) t = told_drop i rs t.1
