-- The rows of packets: joined, in order, and with one packet more.
use Rattle.std.proofs.Common.{◌≡◌, ℕ, ◌<◌, ◌≤◌, ◌+◌, ◌&&◌, not, [], ◌∷◌, List, refl, ap, sym, ◌∙◌, arith, true, false, cond, Option, Some, None, ltb, eqb, inl, inr, ◌⊎◌}
use Rattle.std.proofs.lemmas.Bool.{cases_lt}
use Rattle.std.proofs.lemmas.Bool.Decides.{nat_tests}
use Rattle.codec_payload_base.specs.Time.{Time}
use Rattle.codec_payload_buffer.specs.Held.{Held, Rises, AllAbove, has_number, placed}
use Rattle.codec_payload_buffer.specs.Frames.{is_same_time}
use Rattle.codec_payload_buffer.specs.Rows.{row_of, meet, or_else, joined, put_before, rows, row_placed, RowsAbove, RowsRise, AreLongest}
use Rattle.codec_payload_buffer.specs.declared.buffer.rows.Row.{Row}
use Rattle.codec_payload_codec.proofs.CaseLemmas.{by_test}
use Rattle.codec_payload_buffer.proofs.RowLemmas.{same_time}

pub meet_parts : (q r : Row) → meet q r ≡ true → record { next : q.last + 1 ≡ r.first; same : q.time ≡ r.time; no_tail : q.tail ≡ false }
meet_parts q r h = record { next = grind (arith, nat_tests, h); same = same_time q.time r.time (grind (arith, h)); no_tail = grind (arith, nat_tests, h) }

-- a row in front of a joined row meets it if it meets the first part
pub meet_front : (q r x : Row) → meet r x ≡ true → meet q (joined r x) ≡ meet q r
meet_front q r x h = ap (λ (t : Time). eqb (q.last + 1) r.first && is_same_time q.time t && not q.tail) (sym (meet_parts r x h).same)

or_assoc : (a b c : Option ℕ) → or_else a (or_else b c) ≡ or_else (or_else a b) c
or_assoc (Some n) b c = refl
or_assoc None b c = refl

pub join_assoc : (q r x : Row) → joined q (joined r x) ≡ joined (joined q r) x
join_assoc q r x = ap with_head (or_assoc q.head r.head x.head)
  where
    with_head : Option ℕ → Row
    with_head h = record { first = q.first; last = x.last; time = x.time; head = h; tail = x.tail }

before_before : (q r : Row) (rs : List Row) → meet q r ≡ true → put_before q (put_before r rs) ≡ put_before (joined q r) rs
before_before q r [] h = rw h refl
before_before q r (x ∷ rs) h =
    by_test (meet r x) (λ b. put_before q (cond b (joined r x ∷ rs) (r ∷ x ∷ rs)) ≡ cond b (joined (joined q r) x ∷ rs) (joined q r ∷ x ∷ rs))
    (λ e. rw (meet_front q r x e ∙ h) (ap (λ (z : Row). z ∷ rs) (join_assoc q r x)))
    (λ e. rw h refl)

pub no_meet_before : (q r : Row) (rs : List Row) → meet q r ≡ false → put_before q (put_before r rs) ≡ q ∷ put_before r rs
no_meet_before q r [] h = rw h refl
no_meet_before q r (x ∷ rs) h =
    by_test (meet r x) (λ b. put_before q (cond b (joined r x ∷ rs) (r ∷ x ∷ rs)) ≡ q ∷ cond b (joined r x ∷ rs) (r ∷ x ∷ rs))
    (λ e. rw (meet_front q r x e ∙ h) refl)
    (λ e. rw h refl)

-- The rows are in order, do not overlap, and are as long as possible

above_before : (n : ℕ) (q : Row) (rs : List Row) → n < q.first → q.first ≤ q.last → RowsAbove q.last rs → RowsAbove n (put_before q rs)
above_before n q [] l le a = (l, le, tt)
above_before n q (r ∷ rs) l le a =
    by_test (meet q r) (λ b. RowsAbove n (cond b (joined q r ∷ rs) (q ∷ r ∷ rs)))
    (λ e. (l, omega (arith, le, a.0, a.1), a.2))
    (λ e. (l, le, a))

rise_before : (q : Row) (rs : List Row) → q.first ≤ q.last → RowsAbove q.last rs → RowsRise (put_before q rs)
rise_before q [] le a = (le, tt)
rise_before q (r ∷ rs) le a =
    by_test (meet q r) (λ b. RowsRise (cond b (joined q r ∷ rs) (q ∷ r ∷ rs)))
    (λ e. (omega (arith, le, a.0, a.1), a.2))
    (λ e. (le, a))

pub rows_above : (n : ℕ) (hs : List Held) → AllAbove n hs → Rises hs → RowsAbove n (rows hs)
rows_above n [] a r = tt
rows_above n (p ∷ ps) a r = above_before n (row_of p) (rows ps) a.0 (omega arith) (rows_above p.meta.seq_no.0 ps r.0 r.1)

pub rows_rise : (hs : List Held) → Rises hs → RowsRise (rows hs)
rows_rise [] r = tt
rows_rise (p ∷ ps) r = rise_before (row_of p) (rows ps) (omega arith) (rows_above p.meta.seq_no.0 ps r.0 r.1)

longest_before : (q : Row) (rs : List Row) → AreLongest rs → AreLongest (put_before q rs)
longest_before q [] a = tt
longest_before q (r ∷ []) a = by_test (meet q r) (λ b. AreLongest (cond b (joined q r ∷ []) (q ∷ r ∷ []))) (λ e. tt) (λ e. (e, tt))
longest_before q (r ∷ s ∷ rs) a = by_test (meet q r) (λ b. AreLongest (cond b (joined q r ∷ s ∷ rs) (q ∷ r ∷ s ∷ rs))) (λ e. a) (λ e. (e, a))

pub are_longest : (hs : List Held) → AreLongest (rows hs)
are_longest [] = tt
are_longest (p ∷ ps) = longest_before (row_of p) (rows ps) (are_longest ps)

-- n is in no row
abbrev pub Outside : ℕ → List Row → Type 0
Outside n [] = Unit {0}
Outside n (r ∷ rs) = ((n < r.first) ⊎ (r.last < n)) × Outside n rs

outside_before : (n : ℕ) (q : Row) (rs : List Row) → ((n < q.first) ⊎ (q.last < n)) → RowsAbove q.last rs → Outside n rs → Outside n (put_before q rs)
outside_before n q [] out a o = (out, tt)
outside_before n q (r ∷ rs) out a o =
    by_test (meet q r) (λ b. Outside n (cond b (joined q r ∷ rs) (q ∷ r ∷ rs)))
    (λ e. (both out o.0 (meet_parts q r e).next, o.1))
    (λ e. (out, o))
  where
    both : ((n < q.first) ⊎ (q.last < n)) → ((n < r.first) ⊎ (r.last < n)) → q.last + 1 ≡ r.first → ((n < q.first) ⊎ (r.last < n))
    both (inl l) m next = inl l
    both (inr l) (inl m) next = absurd (omega arith)
    both (inr l) (inr m) next = inr m

pub outside_rows : (n : ℕ) (hs : List Held) → has_number n hs ≡ false → Rises hs → Outside n (rows hs)
outside_rows n [] fresh r = tt
outside_rows n (p ∷ ps) fresh r =
    outside_before n (row_of p) (rows ps) at (rows_above p.meta.seq_no.0 ps r.0 r.1) (outside_rows n ps (grind (arith, fresh)) r.1)
  where
    other : eqb p.meta.seq_no.0 n ≡ false
    other = grind (arith, fresh)

    at : (n < p.meta.seq_no.0) ⊎ (p.meta.seq_no.0 < n)
    at = elim (cases_lt n p.meta.seq_no.0) [ inl l ↦ inl l | inr ge ↦ inr (grind (arith, nat_tests, other, ge)) ]

-- One packet more

-- a row in front of all others, and p among the rest
slip : (q p : Row) (rs : List Row) → q.first ≤ q.last → q.last < p.first → RowsAbove q.last rs → Outside p.first rs → put_before q (row_placed p rs) ≡ row_placed p (put_before q rs)
slip q p [] le l a o = let t : ltb q.first p.first ≡ true = grind (arith, nat_tests, le, l) in rw t refl
slip q p (r ∷ rs) le l a o =
    by_test (meet q r) (λ b. put_before q (row_placed p (r ∷ rs)) ≡ row_placed p (cond b (joined q r ∷ rs) (q ∷ r ∷ rs)))
    (λ e. rw (t, low (meet_parts q r e).next o.0) (before_before q r (row_placed p rs) e))
    (λ e. rw t refl)
  where
    t : ltb q.first p.first ≡ true
    t = grind (arith, nat_tests, le, l)

    low : q.last + 1 ≡ r.first → ((p.first < r.first) ⊎ (r.last < p.first)) → ltb r.first p.first ≡ true
    low next (inl m) = absurd (omega arith)
    low next (inr m) = let le' : r.first ≤ r.last = a.1 in grind (arith, nat_tests, m, le')

-- p below all of them
placed_low : (p q : Row) (rs : List Row) → ltb q.first p.first ≡ false → row_placed p (put_before q rs) ≡ put_before p (put_before q rs)
placed_low p q [] t = rw t refl
placed_low p q (r ∷ rs) t =
    by_test (meet q r) (λ b. row_placed p (cond b (joined q r ∷ rs) (q ∷ r ∷ rs)) ≡ put_before p (cond b (joined q r ∷ rs) (q ∷ r ∷ rs)))
    (λ e. rw t refl)
    (λ e. rw t refl)

pub rows_placed : (p : Held) (hs : List Held) → Rises hs → has_number p.meta.seq_no.0 hs ≡ false → rows (placed p hs) ≡ row_placed (row_of p) (rows hs)
rows_placed p [] r fresh = refl
rows_placed p (q ∷ qs) r fresh =
    by_test (ltb q.meta.seq_no.0 p.meta.seq_no.0) (λ b. rows (cond b (q ∷ placed p qs) (p ∷ q ∷ qs)) ≡ row_placed (row_of p) (put_before (row_of q) (rows qs)))
    (λ e. ap (put_before (row_of q)) (rows_placed p qs r.1 rest)
    ∙ slip (row_of q) (row_of p) (rows qs) (omega arith) (grind (arith, nat_tests, e)) (rows_above q.meta.seq_no.0 qs r.0 r.1) (outside_rows p.meta.seq_no.0 qs rest r.1))
    (λ e. sym (placed_low (row_of p) (row_of q) (rows qs) e))
  where
    rest : has_number p.meta.seq_no.0 qs ≡ false
    rest = grind (arith, fresh)
