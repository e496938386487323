-- The ends of a row, noted as a packet joins it: in the packet itself before it is inserted, then at the other ends.
use Rattle.std.proofs.Common.{◌≡◌, ◌≢◌, ℕ, ◌<◌, ◌≤◌, ◌+◌, ◌-◌, List, get_or, map, eqb, refl, ap, sym, subst, ◌∙◌, arith, true, false, cond, Option, None}
use Rattle.std.specs.Prelude.{slice_set, if◌then◌else◌, ◌==◌}
use Rattle.std.specs.List.{insert}
use Rattle.std.proofs.lemmas.Bool.Decides.{nat_tests}
use Rattle.codec_payload_codec.proofs.CaseLemmas.{by_test}
use Rattle.codec_payload_buffer.specs.declared.buffer.held_packet.HeldPacket.{HeldPacket}
use Rattle.codec_payload_buffer.specs.declared.buffer.rows.Row.{Row}
use Rattle.codec_payload_buffer.specs.Held.{Held, held_of, Rises, has_number, placed}
use Rattle.codec_payload_buffer.specs.Scan.{place_of}
use Rattle.codec_payload_buffer.specs.Rows.{row_of, rows, merged}
use Rattle.codec_payload_buffer.specs.Ends.{Mark, mark_of, mark_at, no_mark, marked, AreTold}
use Rattle.codec_payload_buffer.proofs.MarkLemmas.{mark_set, mark_insert}
use Rattle.codec_payload_buffer.proofs.RowEnds.{mark_number, IsWritten, IsRowPlaced, row_is_placed, placed_told}

-- one note is written
pub record IsOneWritten (n end : ℕ) (head : Option ℕ) (old new : List Mark) : Type 0 where
  pub end_is : (mark_at n new).other_end ≡ end
  pub head_is : (mark_at n new).row_head ≡ head
  pub others : (k : ℕ) → k ≢ n → mark_at k new ≡ mark_at k old

pub one_written : (xs : List HeldPacket) (n i end : ℕ) (head : Option ℕ) (new : List Mark) → Rises (map held_of xs) → has_number n (map held_of xs) ≡ true → i ≡ place_of n (map held_of xs)
    → new ≡ slice_set (map mark_of xs) i (marked (get_or (map mark_of xs) i no_mark) end head) → IsOneWritten n end head (map mark_of xs) new
one_written xs n i end head new rises has at is =
    let a = marked (get_or (map mark_of xs) (place_of n (map held_of xs)) no_mark) end head in
    let there : new ≡ slice_set (map mark_of xs) (place_of n (map held_of xs)) a = is ∙ ap (λ j. slice_set (map mark_of xs) j (marked (get_or (map mark_of xs) j no_mark) end head)) at in
    let all : (k : ℕ) → mark_at k new ≡ cond (eqb n k) a (mark_at k (map mark_of xs)) = λ k. ap (mark_at k) there ∙ mark_set n k xs a rises has (mark_number n xs rises has) in
    let self : eqb n n ≡ true = grind (arith, nat_tests) in
    let here : mark_at n new ≡ a = all n ∙ ap (λ t. cond t a (mark_at n (map mark_of xs))) self in
    record {
      end_is = ap (λ (m : Mark). m.other_end) here;
      head_is = ap (λ (m : Mark). m.row_head) here;
      others = λ k other.
          let t : eqb n k ≡ false = grind (arith, nat_tests, other) in
          all k ∙ ap (λ b. cond b a (mark_at k (map mark_of xs))) t;
    }

-- y is the packet x with a note about its row r, and is put at its place
pub record IsPut (xs new : List HeldPacket) (place : ℕ) (x y : HeldPacket) (r : Row) : Type 0 where
  pub rises : Rises (map held_of xs)
  pub place_is : place ≡ place_of x.number (map held_of xs)
  pub fresh : has_number x.number (map held_of xs) ≡ false
  pub held : held_of y ≡ held_of x
  pub mark : mark_of y ≡ (if x.number == r.last then marked (mark_of x) r.first r.head else marked (mark_of x) r.last None)
  pub put : new ≡ insert xs place y
  pub row : r ≡ merged (row_of (held_of x)) (rows (map held_of xs))

same_number : (x y : HeldPacket) → held_of y ≡ held_of x → y.number ≡ x.number
same_number x y held = y.numbered ∙ ap (λ (h : Held). h.meta.seq_no.0) held ∙ sym x.numbered

fresh_put : (xs new : List HeldPacket) (place : ℕ) (x y : HeldPacket) (r : Row) → IsPut xs new place x y r → has_number y.number (map held_of xs) ≡ false
fresh_put xs new place x y r is = ap (λ n. has_number n (map held_of xs)) (same_number x y is.held) ∙ is.fresh

row_put : (xs new : List HeldPacket) (place : ℕ) (x y : HeldPacket) (r : Row) → IsPut xs new place x y r → r ≡ merged (row_of (held_of y)) (rows (map held_of xs))
row_put xs new place x y r is = is.row ∙ ap (λ (h : Held). merged (row_of h) (rows (map held_of xs))) (sym is.held)

pub put_row : (xs new : List HeldPacket) (place : ℕ) (x y : HeldPacket) (r : Row) → IsPut xs new place x y r → IsRowPlaced xs new place x r
put_row xs new place x y r is =
    let hs = map held_of xs in
    let same = same_number x y is.held in
    let there : place ≡ place_of y.number hs = is.place_is ∙ ap (λ n. place_of n hs) (sym same) in
    let at = row_is_placed xs new place y r is.rises there (fresh_put xs new place x y r is) is.put (row_put xs new place x y r is) in
    record {
      held = at.held ∙ ap (λ (h : Held). placed h hs) is.held;
      rises = at.rises;
      low = omega (arith, at.low, same);
      high = omega (arith, at.high, same);
      room = omega (arith, at.room, same);
      from = omega (arith, at.from, same);
      to = omega (arith, at.to, same);
      first = at.first;
      last = at.last;
      within = omega (arith, at.within, same);
    }

-- its own note
own_note : (xs new : List HeldPacket) (place : ℕ) (x y : HeldPacket) (r : Row) → IsPut xs new place x y r
    → mark_at x.number (map mark_of new) ≡ (if x.number == r.last then marked (mark_of x) r.first r.head else marked (mark_of x) r.last None)
own_note xs new place x y r is =
    let t : eqb y.number x.number ≡ true = grind (arith, nat_tests, same_number x y is.held) in
    ap (λ (zs : List HeldPacket). mark_at x.number (map mark_of zs)) is.put ∙ mark_insert xs place x.number y (fresh_put xs new place x y r is)
    ∙ ap (λ b. cond b (mark_of y) (mark_at x.number (map mark_of xs))) t ∙ is.mark

-- the first packet of the row has its note
pub record IsFirstNoted (r : Row) (new mid : List HeldPacket) : Type 0 where
  pub held : map held_of mid ≡ map held_of new
  pub told : (mark_at r.first (map mark_of mid)).other_end ≡ r.last
  pub others : (k : ℕ) → k ≢ r.first → mark_at k (map mark_of mid) ≡ mark_at k (map mark_of new)
  pub alone : r.first ≡ r.last → map mark_of mid ≡ map mark_of new

-- the packet is the first of its row
pub first_is_put : (xs new : List HeldPacket) (place : ℕ) (x y : HeldPacket) (r : Row) → IsPut xs new place x y r → x.number - r.first ≤ 0 → IsFirstNoted r new new
first_is_put xs new place x y r is first =
    let row = put_row xs new place x y r is in
    let number : r.first ≡ x.number = omega (arith, first, row.low) in
    record {
      held = refl;
      told = ap (λ k. (mark_at k (map mark_of new)).other_end) number ∙ ap (λ (m : Mark). m.other_end) (own_note xs new place x y r is)
          ∙ by_test (eqb x.number r.last) (λ b. (cond b (marked (mark_of x) r.first r.head) (marked (mark_of x) r.last None)).other_end ≡ r.last)
          (λ e. grind (arith, nat_tests, e, number)) (λ e. refl);
      others = λ k other. refl;
      alone = λ e. refl;
    }

-- another packet is the first of the row
pub first_is_written : (xs new mid : List HeldPacket) (place i : ℕ) (x y : HeldPacket) (r : Row) → IsPut xs new place x y r → 0 < x.number - r.first → i ≡ place - (x.number - r.first)
    → map held_of mid ≡ map held_of new → map mark_of mid ≡ slice_set (map mark_of new) i (marked (get_or (map mark_of new) i no_mark) r.last None) → IsFirstNoted r new mid
first_is_written xs new mid place i x y r is over at held written =
    let row = put_row xs new place x y r is in
    let one = one_written new r.first i r.last None (map mark_of mid) row.rises row.first (at ∙ row.from) written in
    record {
      held = held;
      told = one.end_is;
      others = one.others;
      alone = λ e. absurd (omega (arith, e, over, row.high));
    }

-- the packet is the last of its row
pub last_is_put : (xs new mid : List HeldPacket) (place : ℕ) (x y : HeldPacket) (r : Row) → IsPut xs new place x y r → IsFirstNoted r new mid → r.last - x.number ≤ 0
    → IsWritten r (map mark_of new) (map mark_of mid)
last_is_put xs new mid place x y r is first last =
    let row = put_row xs new place x y r is in
    let number : x.number ≡ r.last = omega (arith, last, row.high) in
    let t : eqb x.number r.last ≡ true = grind (arith, nat_tests, number) in
    let own : mark_at r.last (map mark_of new) ≡ marked (mark_of x) r.first r.head = ap (λ k. mark_at k (map mark_of new)) (sym number) ∙ own_note xs new place x y r is
    ∙ ap (λ b. cond b (marked (mark_of x) r.first r.head) (marked (mark_of x) r.last None)) t in
    let stays : mark_at r.last (map mark_of mid) ≡ mark_at r.last (map mark_of new) =
    by_test (eqb r.first r.last) (λ b. mark_at r.last (map mark_of mid) ≡ mark_at r.last (map mark_of new))
    (λ e. ap (mark_at r.last) (first.alone (grind (arith, nat_tests, e)))) (λ e. first.others r.last (grind (arith, nat_tests, e))) in
    record {
      told = (first.told, ap (λ (m : Mark). m.other_end) (stays ∙ own), ap (λ (m : Mark). m.row_head) (stays ∙ own));
      others = λ k not_first not_last. first.others k not_first;
    }

-- another packet is the last of the row
pub last_is_written : (xs new mid : List HeldPacket) (place i : ℕ) (x y : HeldPacket) (r : Row) (marks : List Mark) → IsPut xs new place x y r → IsFirstNoted r new mid → 0 < r.last - x.number
    → i ≡ place + (r.last - x.number) → marks ≡ slice_set (map mark_of mid) i (marked (get_or (map mark_of mid) i no_mark) r.first r.head) → IsWritten r (map mark_of new) marks
last_is_written xs new mid place i x y r marks is first over at written =
    let row = put_row xs new place x y r is in
    let has : has_number r.last (map held_of mid) ≡ true = rw first.held row.last in
    let there : i ≡ place_of r.last (map held_of mid) = at ∙ row.to ∙ ap (place_of r.last) (sym first.held) in
    let one = one_written mid r.last i r.first r.head marks (rw first.held row.rises) has there written in
    record {
      told = (ap (λ (m : Mark). m.other_end) (one.others r.first (omega (arith, over, row.low))) ∙ first.told, one.end_is, one.head_is);
      others = λ k not_first not_last. one.others k not_last ∙ first.others k not_first;
    }

pub rows_are_told : (xs new : List HeldPacket) (place : ℕ) (x y : HeldPacket) (r : Row) (marks : List Mark) → IsPut xs new place x y r → AreTold (rows (map held_of xs)) (map mark_of xs)
    → IsWritten r (map mark_of new) marks → AreTold (rows (placed (held_of x) (map held_of xs))) marks
rows_are_told xs new place x y r marks is told written =
    let row = put_row xs new place x y r is in
    let same = same_number x y is.held in
    subst (λ (h : Held). AreTold (rows (placed h (map held_of xs))) marks) is.held
    (placed_told xs new place y r marks is.rises told (fresh_put xs new place x y r is) is.put (row_put xs new place x y r is)
    (omega (arith, row.low, same)) (omega (arith, row.high, same)) written.told written.others)
