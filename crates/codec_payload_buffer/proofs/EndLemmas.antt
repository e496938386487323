-- The rows of packets, as noted in the packets at their ends.
use Rattle.std.proofs.Common.{◌≡◌, ◌≢◌, ℕ, ◌<◌, ◌≤◌, ◌+◌, ◌-◌, [], ◌∷◌, List, get_or, refl, ap, ◌∙◌, arith, true, false, cond, Option, Some, None, ltb, eqb, inl, inr, ◌⊎◌, add-one}
use Rattle.std.proofs.lemmas.Bool.Decides.{nat_tests}
use Rattle.codec_payload_buffer.specs.Held.{Held, Rises, AllAbove, has_number}
use Rattle.codec_payload_buffer.specs.Scan.{place_of}
use Rattle.codec_payload_buffer.specs.Rows.{row_of, meet, joined, join_if, put_before, rows, row_placed, with_next, merged_after, merged, RowsAbove, RowsRise, AreLongest}
use Rattle.codec_payload_buffer.specs.Ends.{Mark, mark_at, IsTold, AreTold, next_of, previous_of, ahead, behind}
use Rattle.codec_payload_buffer.specs.declared.buffer.rows.Row.{Row}
use Rattle.codec_payload_codec.proofs.CaseLemmas.{by_test}
use Rattle.codec_payload_buffer.proofs.RowListLemmas.{meet_parts, no_meet_before, Outside, rows_above}

-- The places of the ends of a row

-- a row among packets: its numbers are consecutive, and its last packet has its time and its tail
pub record IsRowAmong (hs : List Held) (r : Row) : Type 0 where
  pub order : r.first ≤ r.last
  pub span : (k : ℕ) → r.first ≤ k → k ≤ r.last → place_of k hs ≡ place_of r.first hs + (k - r.first)
  pub first_held : has_number r.first hs ≡ true
  pub last_held : has_number r.last hs ≡ true
  pub tail : (h : Held) → h ≡ get_or hs (place_of r.last hs) h → h.tail ≡ r.tail
  pub time : (h : Held) → h ≡ get_or hs (place_of r.last hs) h → h.meta.time ≡ r.time

abbrev pub AreRowsAmong : List Held → List Row → Type 0
AreRowsAmong hs [] = Unit {0}
AreRowsAmong hs (r ∷ rs) = IsRowAmong hs r × AreRowsAmong hs rs

shift_one : (p : Held) (ps : List Held) (r : Row) → p.meta.seq_no.0 < r.first → IsRowAmong ps r → IsRowAmong (p ∷ ps) r
shift_one p ps r l is =
    let t : ltb p.meta.seq_no.0 r.first ≡ true = grind (arith, nat_tests, l) in
    let u : ltb p.meta.seq_no.0 r.last ≡ true = grind (arith, nat_tests, l, is.order) in
    let e : eqb p.meta.seq_no.0 r.first ≡ false = grind (arith, nat_tests, l) in
    let f : eqb p.meta.seq_no.0 r.last ≡ false = grind (arith, nat_tests, l, is.order) in
    record {
      order = is.order;
      span = λ k from to.
          let v : ltb p.meta.seq_no.0 k ≡ true = grind (arith, nat_tests, l, from) in
          let at = is.span k from to in
          rw (t, v) (omega (arith, at));
      first_held = rw e is.first_held;
      last_held = rw f is.last_held;
      tail = λ h at. is.tail h (rw (u, add-one) at at);
      time = λ h at. is.time h (rw (u, add-one) at at);
    }

shift_all : (p : Held) (ps : List Held) (n : ℕ) (rs : List Row) → p.meta.seq_no.0 ≤ n → RowsAbove n rs → AreRowsAmong ps rs → AreRowsAmong (p ∷ ps) rs
shift_all p ps n [] le up are = tt
shift_all p ps n (r ∷ rs) le up are = (shift_one p ps r (omega (arith, le, up.0)) are.0, shift_all p ps r.last rs (omega (arith, le, up.0, up.1)) up.2 are.1)

alone : (p : Held) (ps : List Held) → IsRowAmong (p ∷ ps) (row_of p)
alone p ps =
    let t : ltb p.meta.seq_no.0 p.meta.seq_no.0 ≡ false = grind (arith, nat_tests) in
    let e : eqb p.meta.seq_no.0 p.meta.seq_no.0 ≡ true = grind (arith, nat_tests) in
    record {
      order = omega arith;
      span = λ k from to. let same : k ≡ p.meta.seq_no.0 = omega (arith, from, to) in rw (same, t) (omega arith);
      first_held = rw e refl;
      last_held = rw e refl;
      tail = λ h at. ap (λ (x : Held). x.tail) (rw t at at);
      time = λ h at. ap (λ (x : Held). x.meta.time) (rw t at at);
    }

-- the place of the number after one that all are above
place_next : (n : ℕ) (hs : List Held) → AllAbove n hs → place_of (n + 1) hs ≡ 0
place_next n [] a = refl
place_next n (q ∷ qs) a = let t : ltb q.meta.seq_no.0 (n + 1) ≡ false = grind (arith, nat_tests, a.0) in rw t refl

longer : (p : Held) (ps : List Held) (r : Row) → AllAbove p.meta.seq_no.0 ps → p.meta.seq_no.0 + 1 ≡ r.first → IsRowAmong ps r → IsRowAmong (p ∷ ps) (joined (row_of p) r)
longer p ps r a next is =
    let n = p.meta.seq_no.0 in
    let t : ltb n n ≡ false = grind (arith, nat_tests) in
    let u : ltb n r.last ≡ true = grind (arith, nat_tests, next, is.order) in
    let e : eqb n n ≡ true = grind (arith, nat_tests) in
    let f : eqb n r.last ≡ false = grind (arith, nat_tests, next, is.order) in
    let begin : place_of r.first ps ≡ 0 = rw (← next) (place_next n ps a) in
    record {
      order = omega (arith, next, is.order);
      span = λ k from to. by_test (ltb n k) (λ b. cond b (place_of k ps + 1) 0 ≡ cond (ltb n n) (place_of n ps + 1) 0 + (k - n))
          (λ v.
          let over : n < k = grind (arith, nat_tests, v) in
          let at = is.span k (omega (arith, over, next)) to in
          rw t (omega (arith, at, begin, next, over)))
          (λ v.
          let under : k ≤ n = grind (arith, nat_tests, v) in
          rw t (omega (arith, under, from)));
      first_held = rw e refl;
      last_held = rw f is.last_held;
      tail = λ h at. is.tail h (rw (u, add-one) at at);
      time = λ h at. is.time h (rw (u, add-one) at at);
    }

among_before : (p : Held) (ps : List Held) (rs : List Row) → AllAbove p.meta.seq_no.0 ps → RowsAbove p.meta.seq_no.0 rs → AreRowsAmong ps rs → AreRowsAmong (p ∷ ps) (put_before (row_of p) rs)
among_before p ps [] a up are = (alone p ps, tt)
among_before p ps (r ∷ rs) a up are =
    by_test (meet (row_of p) r) (λ b. AreRowsAmong (p ∷ ps) (cond b (joined (row_of p) r ∷ rs) (row_of p ∷ r ∷ rs)))
    (λ e. (longer p ps r a (meet_parts (row_of p) r e).next are.0, shift_all p ps r.last rs (omega (arith, up.0, up.1)) up.2 are.1))
    (λ e. (alone p ps, shift_all p ps p.meta.seq_no.0 (r ∷ rs) (omega arith) up are))

pub rows_among : (hs : List Held) → Rises hs → AreRowsAmong hs (rows hs)
rows_among [] r = tt
rows_among (p ∷ ps) r = among_before p ps (rows ps) r.0 (rows_above p.meta.seq_no.0 ps r.0 r.1) (rows_among ps r.1)

-- Places beside a number

pub place_fresh : (n : ℕ) (hs : List Held) → has_number n hs ≡ false → place_of (n + 1) hs ≡ place_of n hs
place_fresh n [] fresh = refl
place_fresh n (q ∷ qs) fresh =
    let other : q.meta.seq_no.0 ≢ n = grind (arith, nat_tests, fresh) in
    let rest = place_fresh n qs (grind (arith, fresh)) in
    by_test (ltb q.meta.seq_no.0 n) (λ b. ltb q.meta.seq_no.0 n ≡ b → cond (ltb q.meta.seq_no.0 (n + 1)) (place_of (n + 1) qs + 1) 0 ≡ cond b (place_of n qs + 1) 0)
    (λ t at. let u : ltb q.meta.seq_no.0 (n + 1) ≡ true = grind (arith, nat_tests, t) in rw (u, rest) refl)
    (λ t at. let u : ltb q.meta.seq_no.0 (n + 1) ≡ false = grind (arith, nat_tests, t, other) in rw u refl) refl

absent_above : (m n : ℕ) (hs : List Held) → m ≤ n → AllAbove n hs → has_number m hs ≡ false
absent_above m n [] le a = refl
absent_above m n (q ∷ qs) le a = grind (arith, nat_tests, absent_above m n qs le a.1, a.0)

pub place_held_next : (m n : ℕ) (hs : List Held) → Rises hs → m + 1 ≡ n → has_number m hs ≡ true → place_of n hs ≡ place_of m hs + 1
place_held_next m n [] r next has = absurd (cc)
place_held_next m n (q ∷ qs) r next has =
    by_test (eqb q.meta.seq_no.0 m) (λ b. eqb q.meta.seq_no.0 m ≡ b → place_of n (q ∷ qs) ≡ place_of m (q ∷ qs) + 1)
    (λ e at.
    let same : q.meta.seq_no.0 ≡ m = grind (arith, nat_tests, e) in
    let t : ltb q.meta.seq_no.0 n ≡ true = grind (arith, nat_tests, same, next) in
    let u : ltb q.meta.seq_no.0 m ≡ false = grind (arith, nat_tests, same) in
    let a : AllAbove m qs = rw (← same) r.0 in
    let zero_place : place_of n qs ≡ 0 = rw (← next) (place_next m qs a) in
    rw (t, u) (omega (arith, zero_place)))
    (λ e at. there (rw e at has) (grind (arith, nat_tests, e)) (place_held_next m n qs r.1 next (rw e at has))) refl
  where
    there : has_number m qs ≡ true → q.meta.seq_no.0 ≢ m → place_of n qs ≡ place_of m qs + 1 → place_of n (q ∷ qs) ≡ place_of m (q ∷ qs) + 1
    there has other rest =
        by_test (ltb q.meta.seq_no.0 m) (λ b. ltb q.meta.seq_no.0 m ≡ b → place_of n (q ∷ qs) ≡ cond b (place_of m qs + 1) 0 + 1)
        (λ t at. let u : ltb q.meta.seq_no.0 n ≡ true = grind (arith, nat_tests, t, next) in rw u (omega (arith, rest)))
        (λ t at.
        let absent = absent_above m q.meta.seq_no.0 qs (grind (arith, nat_tests, t)) r.0 in
        absurd (cc)) refl

-- The rows beside a number that is not held

-- the facts about a row next to n, if there is one
pub record IsBeside (hs : List Held) (ms : List Mark) (r : Row) : Type 0 where
  pub among : IsRowAmong hs r
  pub told : IsTold r ms

pub by_row : (o : Option Row) (P : Option Row → Type 0) → (o ≡ None → P None) → ((r : Row) → o ≡ Some r → P (Some r)) → P o
by_row None P n s = n refl
by_row (Some r) P n s = s r refl

pub next_is : (n : ℕ) (hs : List Held) (ms : List Mark) (rs : List Row) (r : Row) → AreRowsAmong hs rs → AreTold rs ms → next_of n rs ≡ Some r → IsBeside hs ms r × (r.first ≡ n + 1)
next_is n hs ms [] r are told is = absurd (cc)
next_is n hs ms (s ∷ rs) r are told is =
    by_test (eqb s.first (n + 1)) (λ b. cond b (Some s) (next_of n rs) ≡ Some r → IsBeside hs ms r × (r.first ≡ n + 1))
    (λ e is. let same : s ≡ r = cc in rw (← same) (record { among = are.0; told = told.0 }, grind (arith, nat_tests, e)))
    (λ e is. next_is n hs ms rs r are.1 told.1 is) is

pub previous_is : (n : ℕ) (hs : List Held) (ms : List Mark) (rs : List Row) (r : Row) → AreRowsAmong hs rs → AreTold rs ms → previous_of n rs ≡ Some r → IsBeside hs ms r × (r.last + 1 ≡ n)
previous_is n hs ms [] r are told is = absurd (cc)
previous_is n hs ms (s ∷ rs) r are told is =
    by_test (eqb (s.last + 1) n) (λ b. cond b (Some s) (previous_of n rs) ≡ Some r → IsBeside hs ms r × (r.last + 1 ≡ n))
    (λ e is. let same : s ≡ r = cc in rw (← same) (record { among = are.0; told = told.0 }, grind (arith, nat_tests, e)))
    (λ e is. previous_is n hs ms rs r are.1 told.1 is) is

-- if the number after n is held, a row begins there
pub next_there : (n : ℕ) (hs : List Held) → has_number n hs ≡ false → has_number (n + 1) hs ≡ true → (r : Row) × (next_of n (rows hs) ≡ Some r)
next_there n [] fresh has = absurd (cc)
next_there n (p ∷ ps) fresh has =
    by_test (eqb p.meta.seq_no.0 (n + 1)) (λ b. eqb p.meta.seq_no.0 (n + 1) ≡ b → (r : Row) × (next_of n (put_before (row_of p) (rows ps)) ≡ Some r))
    (λ e at. here (rows ps) e)
    (λ e at. on (rows ps) e (next_there n ps (grind (arith, fresh)) (rw e at has))) refl
  where
    other : p.meta.seq_no.0 ≢ n
    other = grind (arith, nat_tests, fresh)

    here : (rs : List Row) → eqb p.meta.seq_no.0 (n + 1) ≡ true → (r : Row) × (next_of n (put_before (row_of p) rs) ≡ Some r)
    here [] e = (row_of p, rw e refl)
    here (r ∷ rs) e =
        by_test (meet (row_of p) r) (λ b. (s : Row) × (next_of n (cond b (joined (row_of p) r ∷ rs) (row_of p ∷ r ∷ rs)) ≡ Some s))
        (λ m. (joined (row_of p) r, rw e refl)) (λ m. (row_of p, rw e refl))

    on : (rs : List Row) → eqb p.meta.seq_no.0 (n + 1) ≡ false → ((r : Row) × (next_of n rs ≡ Some r)) → (r : Row) × (next_of n (put_before (row_of p) rs) ≡ Some r)
    on [] e there = absurd (cc)
    on (r ∷ rs) e there =
        by_test (meet (row_of p) r) (λ b. (s : Row) × (next_of n (cond b (joined (row_of p) r ∷ rs) (row_of p ∷ r ∷ rs)) ≡ Some s))
        (λ m.
        let next = (meet_parts (row_of p) r m).next in
        let f : eqb r.first (n + 1) ≡ false = grind (arith, nat_tests, next, other) in
        (there.0, rw e (rw f at there.1)))
        (λ m. (there.0, rw e there.1))

-- if the number before n is held, a row ends there
pub previous_there : (m n : ℕ) (hs : List Held) → Rises hs → m + 1 ≡ n → has_number n hs ≡ false → has_number m hs ≡ true → (r : Row) × (previous_of n (rows hs) ≡ Some r)
previous_there m n [] r next fresh has = absurd (cc)
previous_there m n (p ∷ ps) r next fresh has =
    by_test (eqb p.meta.seq_no.0 m) (λ b. eqb p.meta.seq_no.0 m ≡ b → (r : Row) × (previous_of n (put_before (row_of p) (rows ps)) ≡ Some r))
    (λ e at. here (rows ps) (rows_among ps r.1) (grind (arith, nat_tests, e)))
    (λ e at. on (rows ps) (previous_there m n ps r.1 next rest (rw e at has))) refl
  where
    rest : has_number n ps ≡ false
    rest = grind (arith, fresh)

    here : (rs : List Row) → AreRowsAmong ps rs → p.meta.seq_no.0 ≡ m → (r : Row) × (previous_of n (put_before (row_of p) rs) ≡ Some r)
    here [] are e = let t : eqb (p.meta.seq_no.0 + 1) n ≡ true = grind (arith, nat_tests, e, next) in (row_of p, rw t refl)
    here (r ∷ rs) are e =
        let t : eqb (p.meta.seq_no.0 + 1) n ≡ true = grind (arith, nat_tests, e, next) in
        by_test (meet (row_of p) r) (λ b. (s : Row) × (previous_of n (cond b (joined (row_of p) r ∷ rs) (row_of p ∷ r ∷ rs)) ≡ Some s))
        (λ m'.
        let at : r.first ≡ n = omega (arith, (meet_parts (row_of p) r m').next, e, next) in
        let there : has_number n ps ≡ true = rw (← at) are.0.first_held in
        let absent : has_number n ps ≡ false = grind (arith, fresh) in
        absurd (cc))
        (λ m'. (row_of p, rw t refl))

    on : (rs : List Row) → ((r : Row) × (previous_of n rs ≡ Some r)) → (r : Row) × (previous_of n (put_before (row_of p) rs) ≡ Some r)
    on [] there = absurd (cc)
    on (r ∷ rs) there =
        by_test (meet (row_of p) r) (λ b. (s : Row) × (previous_of n (cond b (joined (row_of p) r ∷ rs) (row_of p ∷ r ∷ rs)) ≡ Some s))
        (λ e. by_test (eqb (r.last + 1) n) (λ b. cond b (Some r) (previous_of n rs) ≡ Some there.0 → (s : Row) × (cond b (Some (joined (row_of p) r)) (previous_of n rs) ≡ Some s))
        (λ t is. (joined (row_of p) r, refl)) (λ t is. (there.0, is)) there.1)
        (λ e. by_test (eqb (p.meta.seq_no.0 + 1) n) (λ b. (s : Row) × (cond b (Some (row_of p)) (previous_of n (r ∷ rs)) ≡ Some s))
        (λ t. (row_of p, refl)) (λ t. (there.0, there.1)))

-- A row among the rows beside it

pub ahead_first : (p : Row) (o : Option Row) → (ahead p o).first ≡ p.first
ahead_first p None = refl
ahead_first p (Some r) = by_test (meet p r) (λ b. (cond b (joined p r) p).first ≡ p.first) (λ e. refl) (λ e. refl)

pub ahead_joined : (p r s : Row) (o : Option Row) → o ≡ Some r → s ≡ r → meet p s ≡ true → joined p s ≡ ahead p o
ahead_joined p r s o is same m = rw is (rw (← same) (rw m refl))

pub ahead_apart : (p r s : Row) (o : Option Row) → o ≡ Some r → s ≡ r → meet p s ≡ false → p ≡ ahead p o
ahead_apart p r s o is same m = rw is (rw (← same) (rw m refl))

pub behind_joined : (p r s : Row) (o : Option Row) → o ≡ Some r → s ≡ r → meet s p ≡ true → joined s p ≡ behind p o
behind_joined p r s o is same m = rw is (rw (← same) (rw m refl))

pub behind_apart : (p r s : Row) (o : Option Row) → o ≡ Some r → s ≡ r → meet s p ≡ false → p ≡ behind p o
behind_apart p r s o is same m = rw is (rw (← same) (rw m refl))

apart_next : (p r : Row) → eqb r.first (p.last + 1) ≡ false → meet p r ≡ false
apart_next p r e = let t : eqb (p.last + 1) r.first ≡ false = grind (arith, nat_tests, e) in rw t refl

apart_previous : (r p : Row) → eqb (r.last + 1) p.first ≡ false → meet r p ≡ false
apart_previous r p e = rw e refl

none_next : (n m : ℕ) (rs : List Row) → n + 1 ≤ m → RowsAbove m rs → next_of n rs ≡ None
none_next n m [] le up = refl
none_next n m (r ∷ rs) le up =
    let t : eqb r.first (n + 1) ≡ false = grind (arith, nat_tests, le, up.0) in
    rw t (none_next n r.last rs (omega (arith, le, up.0, up.1)) up.2)

none_previous : (n m : ℕ) (rs : List Row) → n ≤ m → RowsAbove m rs → previous_of n rs ≡ None
none_previous n m [] le up = refl
none_previous n m (r ∷ rs) le up =
    let t : eqb (r.last + 1) n ≡ false = grind (arith, nat_tests, le, up.0, up.1) in
    rw t (none_previous n r.last rs (omega (arith, le, up.0, up.1)) up.2)

next_first : (p r : Row) (rs : List Row) → p.last < r.first → r.first ≤ r.last → RowsAbove r.last rs → with_next p (r ∷ rs) ≡ ahead p (next_of p.last (r ∷ rs))
next_first p r rs l le up =
    by_test (eqb r.first (p.last + 1)) (λ b. eqb r.first (p.last + 1) ≡ b → with_next p (r ∷ rs) ≡ ahead p (cond b (Some r) (next_of p.last rs)))
    (λ e at. refl)
    (λ e at. rw (none_next p.last r.last rs (omega (arith, l, le)) up, apart_next p r e) refl) refl

-- p beside its rows; r begins below it
merged_behind : (r p : Row) (rs : List Row) → p.first ≡ p.last → r.last < p.first → RowsAbove r.last rs → Outside p.first rs
    → merged_after r p rs ≡ behind (ahead p (next_of p.last rs)) (previous_of p.first (r ∷ rs))
merged_behind r p [] one l up out =
    by_test (eqb (r.last + 1) p.first) (λ b. eqb (r.last + 1) p.first ≡ b → join_if r p ≡ behind p (cond b (Some r) None))
    (λ e at. refl) (λ e at. rw (apart_previous r p e) refl) refl
merged_behind r p (s ∷ rs) one l up out =
    by_test (ltb s.first p.first) (λ b. cond b (merged_after s p rs) (join_if r (with_next p (s ∷ rs))) ≡ behind (ahead p (next_of p.last (s ∷ rs))) (previous_of p.first (r ∷ s ∷ rs)))
    (λ t.
    let under : s.first < p.first = grind (arith, nat_tests, t) in
    let far : eqb (r.last + 1) p.first ≡ false = grind (arith, nat_tests, under, up.0) in
    let low : eqb s.first (p.last + 1) ≡ false = grind (arith, nat_tests, under, one) in
    rw (far, low) (merged_behind s p rs one (below under out.0) up.2 out.1))
    (λ t.
    let over : p.first < s.first = above (grind (arith, nat_tests, t)) out.0 in
    ap (join_if r) (next_first p s rs (omega (arith, over, one)) up.1 up.2)
    ∙ by_test (eqb (r.last + 1) p.first) (λ b. eqb (r.last + 1) p.first ≡ b → join_if r (ahead p (next_of p.last (s ∷ rs))) ≡ behind (ahead p (next_of p.last (s ∷ rs))) (cond b (Some r) (previous_of p.first (s ∷ rs))))
    (λ e at. refl)
    (λ e at. rw (none_previous p.first p.first (s ∷ rs) (omega arith) (over, up.1, up.2)) (gone (ahead p (next_of p.last (s ∷ rs))) (ahead_first p (next_of p.last (s ∷ rs))) e)) refl)
  where
    below : s.first < p.first → ((p.first < s.first) ⊎ (s.last < p.first)) → s.last < p.first
    below l (inl m) = absurd (omega arith)
    below l (inr m) = m

    above : p.first ≤ s.first → ((p.first < s.first) ⊎ (s.last < p.first)) → p.first < s.first
    above l (inl m) = m
    above l (inr m) = let le = up.1 in absurd (omega (arith, le, m, l))

    gone : (w : Row) → w.first ≡ p.first → eqb (r.last + 1) p.first ≡ false → join_if r w ≡ w
    gone w same e = rw (apart_previous r w (rw same e)) refl

pub merged_beside : (p : Row) (rs : List Row) → p.first ≡ p.last → RowsRise rs → Outside p.first rs → merged p rs ≡ behind (ahead p (next_of p.last rs)) (previous_of p.first rs)
merged_beside p [] one rise out = refl
merged_beside p (r ∷ rs) one rise out =
    by_test (ltb r.first p.first) (λ b. cond b (merged_after r p rs) (with_next p (r ∷ rs)) ≡ behind (ahead p (next_of p.last (r ∷ rs))) (previous_of p.first (r ∷ rs)))
    (λ t.
    let under : r.first < p.first = grind (arith, nat_tests, t) in
    let low : eqb r.first (p.last + 1) ≡ false = grind (arith, nat_tests, under, one) in
    rw low (merged_behind r p rs one (below under out.0) rise.1 out.1))
    (λ t.
    let over : p.first < r.first = above (grind (arith, nat_tests, t)) out.0 in
    rw (none_previous p.first p.first (r ∷ rs) (omega arith) (over, rise.0, rise.1)) (next_first p r rs (omega (arith, over, one)) rise.0 rise.1))
  where
    below : r.first < p.first → ((p.first < r.first) ⊎ (r.last < p.first)) → r.last < p.first
    below l (inl m) = absurd (omega arith)
    below l (inr m) = m

    above : p.first ≤ r.first → ((p.first < r.first) ⊎ (r.last < p.first)) → p.first < r.first
    above l (inl m) = m
    above l (inr m) = let le = rise.0 in absurd (omega (arith, le, m, l))

-- Rows that are still noted

pub told_above : (n : ℕ) (rs : List Row) (ms new : List Mark) → RowsAbove n rs → ((k : ℕ) → n < k → mark_at k new ≡ mark_at k ms) → AreTold rs ms → AreTold rs new
told_above n [] ms new up same told = tt
told_above n (r ∷ rs) ms new up same told =
    let first = same r.first up.0 in
    let last = same r.last (omega (arith, up.0, up.1)) in (
      (ap (λ (m : Mark). m.other_end) first ∙ told.0.0, ap (λ (m : Mark). m.other_end) last ∙ told.0.1, ap (λ (m : Mark). m.row_head) last ∙ told.0.2),
      told_above r.last rs ms new up.2 (λ k l. same k (omega (arith, l, up.0, up.1))) told.1,
    )

-- the notes of all packets outside a row are unchanged
abbrev pub StaysBut : Row → List Mark → List Mark → Type 0
StaysBut w ms new = (k : ℕ) → ((k < w.first) ⊎ (w.last < k)) → mark_at k new ≡ mark_at k ms

told_below : (r w : Row) (ms new : List Mark) → r.first ≤ r.last → r.last < w.first → StaysBut w ms new → IsTold r ms → IsTold r new
told_below r w ms new le l stays told =
    let first = stays r.first (inl (omega (arith, le, l))) in
    let last = stays r.last (inl l) in
    (ap (λ (m : Mark). m.other_end) first ∙ told.0, ap (λ (m : Mark). m.other_end) last ∙ told.1, ap (λ (m : Mark). m.row_head) last ∙ told.2)

told_from : (w : Row) (rs : List Row) (ms new : List Mark) → RowsAbove w.last rs → StaysBut w ms new → AreTold rs ms → AreTold rs new
told_from w rs ms new up stays told = told_above w.last rs ms new up (λ k l. stays k (inr l)) told

-- p with the rows after it
told_with_next : (p r : Row) (rs : List Row) (ms new : List Mark) → p.last < r.first → r.first ≤ r.last → RowsAbove r.last rs
    → IsTold (with_next p (r ∷ rs)) new → StaysBut (with_next p (r ∷ rs)) ms new → AreTold (r ∷ rs) ms → AreTold (put_before p (r ∷ rs)) new
told_with_next p r rs ms new l le up =
    by_test (meet p r) (λ b. IsTold (cond b (joined p r) p) new → StaysBut (cond b (joined p r) p) ms new → AreTold (r ∷ rs) ms → AreTold (cond b (joined p r ∷ rs) (p ∷ r ∷ rs)) new)
    (λ e whole stays told. (whole, told_from (joined p r) rs ms new up stays told.1))
    (λ e whole stays told. (whole, told_from p (r ∷ rs) ms new (l, le, up) stays told))

-- a row in front of one that was written
told_pair : (r w : Row) (rest : List Row) (ms new : List Mark) → r.first ≤ r.last → r.last < w.first → RowsAbove w.last rest
    → IsTold (join_if r w) new → StaysBut (join_if r w) ms new → IsTold r ms → AreTold rest ms → AreTold (put_before r (w ∷ rest)) new
told_pair r w rest ms new le l up =
    by_test (meet r w) (λ b. IsTold (cond b (joined r w) w) new → StaysBut (cond b (joined r w) w) ms new → IsTold r ms → AreTold rest ms → AreTold (cond b (joined r w ∷ rest) (r ∷ w ∷ rest)) new)
    (λ e whole stays told rests. (whole, told_from (joined r w) rest ms new up stays rests))
    (λ e whole stays told rests. (told_below r w ms new le l stays told, (whole, told_from w rest ms new up stays rests)))

first_after : (s p : Row) (rs : List Row) → s.first ≤ s.last → s.last < p.first → RowsAbove s.last rs → Outside p.first rs → s.first ≤ (merged_after s p rs).first
first_after s p [] le l up out = by_test (meet s p) (λ b. s.first ≤ (cond b (joined s p) p).first) (λ e. omega arith) (λ e. omega (arith, le, l))
first_after s p (r ∷ rs) le l up out =
    by_test (ltb r.first p.first) (λ b. s.first ≤ (cond b (merged_after r p rs) (join_if s (with_next p (r ∷ rs)))).first)
    (λ t. let rest = first_after r p rs up.1 (under (grind (arith, nat_tests, t)) out.0) up.2 out.1 in omega (arith, rest, le, up.0))
    (λ t. by_test (meet s (with_next p (r ∷ rs))) (λ b. s.first ≤ (cond b (joined s (with_next p (r ∷ rs))) (with_next p (r ∷ rs))).first) (λ e. omega arith)
    (λ e. by_test (meet p r) (λ b. s.first ≤ (cond b (joined p r) p).first) (λ f. omega (arith, le, l)) (λ f. omega (arith, le, l))))
  where
    under : r.first < p.first → ((p.first < r.first) ⊎ (r.last < p.first)) → r.last < p.first
    under l' (inl m) = absurd (omega arith)
    under l' (inr m) = m

told_after : (r p : Row) (rs : List Row) (ms new : List Mark) → p.first ≡ p.last → r.first ≤ r.last → r.last < p.first → RowsAbove r.last rs → Outside p.first rs → AreLongest (r ∷ rs)
    → IsTold (merged_after r p rs) new → StaysBut (merged_after r p rs) ms new → IsTold r ms → AreTold rs ms → AreTold (put_before r (row_placed p rs)) new
told_after r p [] ms new one le l up out long whole stays told rests = told_pair r p [] ms new le l tt whole stays told tt
told_after r p (s ∷ rs) ms new one le l up out long whole stays told rests =
    by_test (ltb s.first p.first) (λ b. IsTold (cond b (merged_after s p rs) (join_if r (with_next p (s ∷ rs)))) new → StaysBut (cond b (merged_after s p rs) (join_if r (with_next p (s ∷ rs)))) ms new
    → AreTold (put_before r (cond b (put_before s (row_placed p rs)) (put_before p (s ∷ rs)))) new)
    (λ t whole stays.
    let l' = under (grind (arith, nat_tests, t)) out.0 in
    let first = first_after s p rs up.1 l' up.2 out.1 in
    rw (no_meet_before r s (row_placed p rs) long.0)
    (told_below r (merged_after s p rs) ms new le (omega (arith, first, up.0)) stays told, told_after s p rs ms new one up.1 l' up.2 out.1 long.1 whole stays rests.0 rests.1))
    (λ t whole stays. higher (over (grind (arith, nat_tests, t)) out.0) whole stays) whole stays
  where
    under : s.first < p.first → ((p.first < s.first) ⊎ (s.last < p.first)) → s.last < p.first
    under l' (inl m) = absurd (omega arith)
    under l' (inr m) = m

    over : p.first ≤ s.first → ((p.first < s.first) ⊎ (s.last < p.first)) → p.first < s.first
    over l' (inl m) = m
    over l' (inr m) = let le' = up.1 in absurd (omega (arith, le', m, l'))

    higher : p.first < s.first → IsTold (join_if r (with_next p (s ∷ rs))) new → StaysBut (join_if r (with_next p (s ∷ rs))) ms new → AreTold (put_before r (put_before p (s ∷ rs))) new
    higher m = by_test (meet p s) (λ b. IsTold (join_if r (cond b (joined p s) p)) new → StaysBut (join_if r (cond b (joined p s) p)) ms new → AreTold (put_before r (cond b (joined p s ∷ rs) (p ∷ s ∷ rs))) new)
        (λ e whole stays. told_pair r (joined p s) rs ms new le l up.2 whole stays told rests.1)
        (λ e whole stays. told_pair r p (s ∷ rs) ms new le l (omega (arith, m, one), up.1, up.2) whole stays told rests)

pub told_placed : (p : Row) (rs : List Row) (ms new : List Mark) → p.first ≡ p.last → RowsRise rs → Outside p.first rs → AreLongest rs
    → IsTold (merged p rs) new → StaysBut (merged p rs) ms new → AreTold rs ms → AreTold (row_placed p rs) new
told_placed p [] ms new one rise out long whole stays told = (whole, tt)
told_placed p (r ∷ rs) ms new one rise out long whole stays told =
    by_test (ltb r.first p.first) (λ b. IsTold (cond b (merged_after r p rs) (with_next p (r ∷ rs))) new → StaysBut (cond b (merged_after r p rs) (with_next p (r ∷ rs))) ms new
    → AreTold (cond b (put_before r (row_placed p rs)) (put_before p (r ∷ rs))) new)
    (λ t whole stays. told_after r p rs ms new one rise.0 (under (grind (arith, nat_tests, t)) out.0) rise.1 out.1 long whole stays told.0 told.1)
    (λ t whole stays.
    let m = over (grind (arith, nat_tests, t)) out.0 in
    told_with_next p r rs ms new (omega (arith, m, one)) rise.0 rise.1 whole stays told) whole stays
  where
    under : r.first < p.first → ((p.first < r.first) ⊎ (r.last < p.first)) → r.last < p.first
    under l' (inl m) = absurd (omega arith)
    under l' (inr m) = m

    over : p.first ≤ r.first → ((p.first < r.first) ⊎ (r.last < p.first)) → p.first < r.first
    over l' (inl m) = m
    over l' (inr m) = let le' = rise.0 in absurd (omega (arith, le', m, l'))

-- The row that p is in

abbrev pub HasNumber : Row → Row → Type 0
HasNumber p w = (w.first ≤ p.first) × (p.first ≤ w.last)

has_in_pair : (r p w : Row) → r.first ≤ p.first → HasNumber p w → HasNumber p (join_if r w)
has_in_pair r p w le has = by_test (meet r w) (λ b. HasNumber p (cond b (joined r w) w)) (λ e. (le, has.1)) (λ e. has)

has_with_next : (p r : Row) (rs : List Row) → p.first ≡ p.last → p.last < r.first → r.first ≤ r.last → HasNumber p (with_next p (r ∷ rs))
has_with_next p r rs one l le = by_test (meet p r) (λ b. HasNumber p (cond b (joined p r) p)) (λ e. (omega arith, omega (arith, one, l, le))) (λ e. (omega arith, omega (arith, one)))

among_pair : (hs : List Held) (r w : Row) (rest : List Row) → AreRowsAmong hs (put_before r (w ∷ rest)) → IsRowAmong hs (join_if r w)
among_pair hs r w rest are =
    by_test (meet r w) (λ b. AreRowsAmong hs (cond b (joined r w ∷ rest) (r ∷ w ∷ rest)) → IsRowAmong hs (cond b (joined r w) w)) (λ e are. are.0) (λ e are. are.1.0) are

among_with_next : (hs : List Held) (p r : Row) (rs : List Row) → AreRowsAmong hs (put_before p (r ∷ rs)) → IsRowAmong hs (with_next p (r ∷ rs))
among_with_next hs p r rs are =
    by_test (meet p r) (λ b. AreRowsAmong hs (cond b (joined p r ∷ rs) (p ∷ r ∷ rs)) → IsRowAmong hs (cond b (joined p r) p)) (λ e are. are.0) (λ e are. are.0) are

among_after : (hs : List Held) (r p : Row) (rs : List Row) → AreLongest (r ∷ rs) → AreRowsAmong hs (put_before r (row_placed p rs)) → IsRowAmong hs (merged_after r p rs)
among_after hs r p [] long are = among_pair hs r p [] are
among_after hs r p (s ∷ rs) long are =
    by_test (ltb s.first p.first) (λ b. AreRowsAmong hs (put_before r (cond b (put_before s (row_placed p rs)) (put_before p (s ∷ rs))))
    → IsRowAmong hs (cond b (merged_after s p rs) (join_if r (with_next p (s ∷ rs)))))
    (λ t are. let both = rw (no_meet_before r s (row_placed p rs) long.0) at are in among_after hs s p rs long.1 both.1)
    (λ t are. by_test (meet p s) (λ b. AreRowsAmong hs (put_before r (cond b (joined p s ∷ rs) (p ∷ s ∷ rs))) → IsRowAmong hs (join_if r (cond b (joined p s) p)))
    (λ e are. among_pair hs r (joined p s) rs are) (λ e are. among_pair hs r p (s ∷ rs) are) are) are

has_after : (r p : Row) (rs : List Row) → p.first ≡ p.last → r.first ≤ p.first → RowsRise rs → Outside p.first rs → HasNumber p (merged_after r p rs)
has_after r p [] one le rise out = has_in_pair r p p le (omega arith, omega (arith, one))
has_after r p (s ∷ rs) one le rise out =
    by_test (ltb s.first p.first) (λ b. HasNumber p (cond b (merged_after s p rs) (join_if r (with_next p (s ∷ rs)))))
    (λ t. has_after s p rs one (grind (arith, nat_tests, t)) (rise_on s.last rs rise.1) out.1)
    (λ t.
    let m = over (grind (arith, nat_tests, t)) out.0 in
    has_in_pair r p (with_next p (s ∷ rs)) le (has_with_next p s rs one (omega (arith, m, one)) rise.0))
  where
    over : p.first ≤ s.first → ((p.first < s.first) ⊎ (s.last < p.first)) → p.first < s.first
    over l' (inl m) = m
    over l' (inr m) = let le' = rise.0 in absurd (omega (arith, le', m, l'))

    rise_on : (n : ℕ) (rs : List Row) → RowsAbove n rs → RowsRise rs
    rise_on n [] a = tt
    rise_on n (x ∷ xs) a = (a.1, a.2)

-- it is one of the rows that there are then
pub merged_among : (hs : List Held) (p : Row) (rs : List Row) → AreLongest rs → AreRowsAmong hs (row_placed p rs) → IsRowAmong hs (merged p rs)
merged_among hs p [] long are = are.0
merged_among hs p (r ∷ rs) long are =
    by_test (ltb r.first p.first) (λ b. AreRowsAmong hs (cond b (put_before r (row_placed p rs)) (put_before p (r ∷ rs))) → IsRowAmong hs (cond b (merged_after r p rs) (with_next p (r ∷ rs))))
    (λ t are. among_after hs r p rs long are) (λ t are. among_with_next hs p r rs are) are

-- it has p
pub merged_has : (p : Row) (rs : List Row) → p.first ≡ p.last → RowsRise rs → Outside p.first rs → HasNumber p (merged p rs)
merged_has p [] one rise out = (omega arith, omega (arith, one))
merged_has p (r ∷ rs) one rise out =
    by_test (ltb r.first p.first) (λ b. HasNumber p (cond b (merged_after r p rs) (with_next p (r ∷ rs))))
    (λ t. has_after r p rs one (grind (arith, nat_tests, t)) (rise_on r.last rs rise.1) out.1)
    (λ t. let m = over (grind (arith, nat_tests, t)) out.0 in has_with_next p r rs one (omega (arith, m, one)) rise.0)
  where
    over : p.first ≤ r.first → ((p.first < r.first) ⊎ (r.last < p.first)) → p.first < r.first
    over l' (inl m) = m
    over l' (inr m) = let le' = rise.0 in absurd (omega (arith, le', m, l'))

    rise_on : (n : ℕ) (rs : List Row) → RowsAbove n rs → RowsRise rs
    rise_on n [] a = tt
    rise_on n (x ∷ xs) a = (a.1, a.2)
