-- The frames of the rows are the frames of the packets, and one more row changes them in one place.
use Rattle.std.proofs.Common.{◌≡◌, ℕ, ◌<◌, ◌≤◌, [], ◌∷◌, ◌++◌, List, refl, ap, sym, ◌∙◌, subst, arith, Bool, true, false, cond, Option, Some, None, ltb, eqb, inl, inr, ◌⊎◌}
use Rattle.std.proofs.lemmas.Bool.Decides.{nat_tests}
use Rattle.codec_payload_buffer.specs.Held.{Held}
use Rattle.codec_payload_buffer.specs.Frames.{frames, frames_after, ended_at, lowest_head, row_before, leads_to, start_or_here}
use Rattle.codec_payload_buffer.specs.Rows.{row_of, meet, or_else, joined, join_if, put_before, rows, frame_in, frame_of_row, with_frame, row_frames}
use Rattle.codec_payload_buffer.specs.Rows.{row_placed, with_next, merged_after, merged, noted_if, RowsAbove, RowsRise, AreLongest, EndsAbove, EndsRise}
use Rattle.codec_payload_buffer.specs.declared.buffer.frames.CompleteFrame.{CompleteFrame}
use Rattle.codec_payload_buffer.specs.declared.buffer.rows.Row.{Row}
use Rattle.codec_payload_codec.proofs.CaseLemmas.{by_test}
use Rattle.codec_payload_buffer.proofs.RowListLemmas.{meet_parts, meet_front, join_assoc, no_meet_before, Outside}

-- The frames of packets, read row by row

-- the frames of the rows after one that was read up to its latest packet
abbrev after : Row → List Row → List CompleteFrame
after o [] = []
after o (r ∷ rs) = row_frames (join_if o r ∷ rs)

-- a row that continues has no frame
no_frame : (head : Option ℕ) (last : ℕ) (tail : Bool) → tail ≡ false → frame_in tail head last ≡ None
no_frame head last tail e = rw e refl

meet_end : (o x r : Row) → meet (join_if o x) r ≡ meet x r
meet_end o x r = by_test (meet o x) (λ b. meet (cond b (joined o x) x) r ≡ meet x r) (λ e. refl) (λ e. refl)

tail_end : (o x : Row) → (join_if o x).tail ≡ x.tail
tail_end o x = by_test (meet o x) (λ b. (cond b (joined o x) x).tail ≡ x.tail) (λ e. refl) (λ e. refl)

join_back : (o x r : Row) → meet x r ≡ true → joined (join_if o x) r ≡ join_if o (joined x r)
join_back o x r e =
    by_test (meet o x) (λ b. joined (cond b (joined o x) x) r ≡ cond b (joined o (joined x r)) (joined x r)) (λ t. sym (join_assoc o x r)) (λ t. refl)
    ∙ ap (λ b. cond b (joined o (joined x r)) (joined x r)) (sym (meet_front o x r e))

after_step : (o x : Row) (rs : List Row) → with_frame (frame_of_row (join_if o x)) (after (join_if o x) rs) ≡ after o (put_before x rs)
after_step o x [] = refl
after_step o x (r ∷ rs) =
    ap (λ b. with_frame (frame_of_row (join_if o x)) (row_frames (cond b (joined (join_if o x) r) r ∷ rs))) (meet_end o x r)
    ∙ by_test (meet x r) (λ b. with_frame (frame_of_row (join_if o x)) (row_frames (cond b (joined (join_if o x) r) r ∷ rs)) ≡ after o (cond b (joined x r ∷ rs) (x ∷ r ∷ rs)))
    (λ e. rw (no_frame (join_if o x).head (join_if o x).last (join_if o x).tail (tail_end o x ∙ (meet_parts x r e).no_tail)) (ap (λ (z : Row). row_frames (z ∷ rs)) (join_back o x r e)))
    (λ e. refl)

first_step : (x : Row) (rs : List Row) → with_frame (frame_of_row x) (after x rs) ≡ row_frames (put_before x rs)
first_step x [] = refl
first_step x (r ∷ rs) =
    by_test (meet x r) (λ b. with_frame (frame_of_row x) (row_frames (cond b (joined x r) r ∷ rs)) ≡ row_frames (cond b (joined x r ∷ rs) (x ∷ r ∷ rs)))
    (λ e. rw (no_frame x.head x.last x.tail (meet_parts x r e).no_tail) refl)
    (λ e. refl)

-- the frame at a packet, from its row so far
frame_here : (p : Held) (o : Option ℕ) (tail : Bool) (later : List CompleteFrame) → cond tail (ended_at p o) [] ++ later ≡ with_frame (frame_in tail o p.meta.seq_no.0) later
frame_here p None true later = refl
frame_here p (Some n) true later = refl
frame_here p o false later = refl

-- the row that has been read up to its latest packet
record IsOpen (o : Row) (q : Held) (qs : List Held) : Type 0 where
  last : o.last ≡ q.meta.seq_no.0
  time : o.time ≡ q.meta.time
  tail : o.tail ≡ q.tail
  head : o.head ≡ lowest_head (q ∷ row_before q qs)

open_meets : (o : Row) (q : Held) (qs : List Held) (p : Held) → IsOpen o q qs → meet o (row_of p) ≡ leads_to q p
open_meets o q qs p is = rw (is.last, is.time, is.tail) refl

head_or : (o : Option ℕ) (p : Held) → or_else o (start_or_here None p) ≡ start_or_here o p
head_or None p = refl
head_or (Some n) p = refl

open_next : (o : Row) (q : Held) (qs : List Held) (p : Held) → IsOpen o q qs → IsOpen (join_if o (row_of p)) p (q ∷ qs)
open_next o q qs p is =
    subst (λ b. IsOpen (cond b (joined o (row_of p)) (row_of p)) p (q ∷ qs)) (sym (open_meets o q qs p is))
    (by_test (leads_to q p) (λ b. (leads_to q p ≡ b → IsOpen (cond b (joined o (row_of p)) (row_of p)) p (q ∷ qs)))
    (λ e h. record { last = refl; time = refl; tail = refl; head = ap (λ (x : Option ℕ). or_else x (start_or_here None p)) is.head ∙ head_or (lowest_head (q ∷ row_before q qs)) p ∙ rw h refl })
    (λ e h. record { last = refl; time = refl; tail = refl; head = rw h refl })
    refl)

walk : (q : Held) (qs later : List Held) (o : Row) → IsOpen o q qs → frames_after (q ∷ qs) later ≡ after o (rows later)
walk q qs [] o is = refl
walk q qs (p ∷ ps) o is =
    let next = open_next o q qs p is in
    frame_here p (lowest_head (p ∷ row_before p (q ∷ qs))) p.tail (frames_after (p ∷ q ∷ qs) ps)
    ∙ ap (with_frame (frame_in p.tail (lowest_head (p ∷ row_before p (q ∷ qs))) p.meta.seq_no.0)) (walk p (q ∷ qs) ps (join_if o (row_of p)) next)
    ∙ sym (rw (next.last, next.tail, next.head) refl)
    ∙ after_step o (row_of p) (rows ps)

-- the frames of the rows are the frames of the packets
pub frames_of_rows : (hs : List Held) → row_frames (rows hs) ≡ frames hs
frames_of_rows [] = refl
frames_of_rows (p ∷ ps) =
    sym (frame_here p (lowest_head (p ∷ [])) p.tail (frames_after (p ∷ []) ps)
    ∙ ap (with_frame (frame_in p.tail (lowest_head (p ∷ [])) p.meta.seq_no.0)) (walk p [] ps (row_of p) (record { last = refl; time = refl; tail = refl; head = refl }))
    ∙ first_step (row_of p) (rows ps))

-- The places at which frames end

frame_last : (tail : Bool) (head : Option ℕ) (last : ℕ) (f : CompleteFrame) → frame_in tail head last ≡ Some f → f.last ≡ last
frame_last true (Some n) last f h = cc
frame_last true None last f h = absurd (cc)
frame_last false head last f h = absurd (cc)

pub by_frame : (o : Option CompleteFrame) (P : Option CompleteFrame → Type 0) → (o ≡ None → P None) → ((f : CompleteFrame) → o ≡ Some f → P (Some f)) → P o
by_frame None P n s = n refl
by_frame (Some f) P n s = s f refl

ends_lower : (m n : ℕ) (fs : List CompleteFrame) → m ≤ n → EndsAbove n fs → EndsAbove m fs
ends_lower m n [] le a = tt
ends_lower m n (f ∷ fs) le a = (omega (arith, a.0), a.1)

pub ends_above : (n : ℕ) (rs : List Row) → RowsAbove n rs → EndsAbove n (row_frames rs)
ends_above n [] a = tt
ends_above n (r ∷ rs) a =
    by_frame (frame_of_row r) (λ o. EndsAbove n (with_frame o (row_frames rs)))
    (λ e. ends_lower n r.last (row_frames rs) (omega (arith, a.0, a.1)) (ends_above r.last rs a.2))
    (λ f e. let same = frame_last r.tail r.head r.last f e in (omega (arith, a.0, a.1, same), ends_lower f.last r.last (row_frames rs) (omega (arith, same)) (ends_above r.last rs a.2)))

rise_from_above : (n : ℕ) (fs : List CompleteFrame) → EndsAbove n fs → EndsRise fs
rise_from_above n [] a = tt
rise_from_above n (f ∷ fs) a = a.1

pub ends_rise : (rs : List Row) → RowsRise rs → EndsRise (row_frames rs)
ends_rise [] a = tt
ends_rise (r ∷ rs) a =
    by_frame (frame_of_row r) (λ o. EndsRise (with_frame o (row_frames rs)))
    (λ e. rise_from_above r.last (row_frames rs) (ends_above r.last rs a.1))
    (λ f e. ends_lower f.last r.last (row_frames rs) (omega (arith, frame_last r.tail r.head r.last f e)) (ends_above r.last rs a.1))

-- One row more

-- a frame below all others comes first
noted_low : (o : Option CompleteFrame) (n : ℕ) (fs : List CompleteFrame) → ((f : CompleteFrame) → o ≡ Some f → f.last ≡ n) → EndsAbove n fs → with_frame o fs ≡ noted_if o fs
noted_low None n fs at a = refl
noted_low (Some f) n [] at a = refl
noted_low (Some f) n (g ∷ gs) at a =
    let same = at f refl in
    let t : ltb g.last f.last ≡ false = grind (arith, nat_tests, same, a.0) in
    let u : eqb g.last f.last ≡ false = grind (arith, nat_tests, same, a.0) in
    rw (t, u) refl

-- a frame takes the place of the one with its end
noted_over : (last : ℕ) (tail : Bool) (head old : Option ℕ) (fs : List CompleteFrame) → (head ≡ None → old ≡ None) → EndsAbove last fs
    → with_frame (frame_in tail head last) fs ≡ noted_if (frame_in tail head last) (with_frame (frame_in tail old last) fs)
noted_over last false head old fs more a = refl
noted_over last true None old fs more a = rw (more refl) refl
noted_over last true (Some n) None fs more a = noted_low (Some (record { first = n; last = last })) last fs (λ f e. cc) a
noted_over last true (Some n) (Some m) fs more a =
    let t : ltb last last ≡ false = grind (arith, nat_tests) in
    let u : eqb last last ≡ true = grind (arith, nat_tests) in
    rw (t, u) refl

-- a frame is inserted after a lower one
noted_skip : (o g : Option CompleteFrame) (m n : ℕ) (fs : List CompleteFrame) → ((f : CompleteFrame) → o ≡ Some f → f.last ≡ n) → ((f : CompleteFrame) → g ≡ Some f → f.last ≡ m) → m < n
    → with_frame g (noted_if o fs) ≡ noted_if o (with_frame g fs)
noted_skip None g m n fs to tg l = refl
noted_skip (Some f) None m n fs to tg l = refl
noted_skip (Some f) (Some g) m n fs to tg l =
    let t : ltb g.last f.last ≡ true = grind (arith, nat_tests, to f refl, tg g refl, l) in
    rw t refl

pub row_last : (r : Row) (f : CompleteFrame) → frame_of_row r ≡ Some f → f.last ≡ r.last
row_last r f e = frame_last r.tail r.head r.last f e

-- the rows after p that are not joined with it
abbrev rest_of : Row → List Row → List Row
rest_of p [] = []
rest_of p (r ∷ rs) = cond (meet p r) rs (r ∷ rs)

before_is : (p : Row) (rs : List Row) → put_before p rs ≡ with_next p rs ∷ rest_of p rs
before_is p [] = refl
before_is p (r ∷ rs) = by_test (meet p r) (λ b. cond b (joined p r ∷ rs) (p ∷ r ∷ rs) ≡ cond b (joined p r) p ∷ cond b rs (r ∷ rs)) (λ e. refl) (λ e. refl)

-- as the row of p, or as that with more in front
record IsLike (x m : Row) : Type 0 where
  last : x.last ≡ m.last
  tail : x.tail ≡ m.tail
  head : x.head ≡ None → m.head ≡ None

none_right : (a b : Option ℕ) → or_else a b ≡ None → b ≡ None
none_right None b h = h
none_right (Some n) b h = absurd (cc)

-- all rows are above p
low : (x p : Row) (rs : List Row) → RowsAbove p.last rs → IsLike x (with_next p rs) → with_frame (frame_of_row x) (row_frames (rest_of p rs)) ≡ noted_if (frame_of_row x) (row_frames rs)
low x p [] a like = noted_low (frame_of_row x) x.last [] (row_last x) tt
low x p (r ∷ rs) a like =
    by_test (meet p r) (λ b. IsLike x (cond b (joined p r) p) → with_frame (frame_of_row x) (row_frames (cond b rs (r ∷ rs))) ≡ noted_if (frame_of_row x) (row_frames (r ∷ rs)))
    (λ e like. over like.last like.tail (λ none. none_right p.head r.head (like.head none)))
    (λ e like. noted_low (frame_of_row x) x.last (row_frames (r ∷ rs)) (row_last x) (rw like.last (ends_above p.last (r ∷ rs) a)))
    like
  where
    over : x.last ≡ r.last → x.tail ≡ r.tail → (x.head ≡ None → r.head ≡ None) → with_frame (frame_of_row x) (row_frames rs) ≡ noted_if (frame_of_row x) (with_frame (frame_of_row r) (row_frames rs))
    over last tail head = rw (← last, ← tail) (noted_over x.last x.tail x.head r.head (row_frames rs) head (rw last (ends_above r.last rs a.2)))

like_self : (m : Row) → IsLike m m
like_self m = record { last = refl; tail = refl; head = λ h. h }

next_above : (n : ℕ) (p : Row) (rs : List Row) → n < p.last → RowsAbove p.last rs → n < (with_next p rs).last
next_above n p [] l a = l
next_above n p (r ∷ rs) l a = by_test (meet p r) (λ b. n < (cond b (joined p r) p).last) (λ e. omega (arith, a.0, a.1, l)) (λ e. l)

join_if_last : (r p : Row) → (join_if r p).last ≡ p.last
join_if_last r p = by_test (meet r p) (λ b. (cond b (joined r p) p).last ≡ p.last) (λ e. refl) (λ e. refl)

-- the rows that begin above p's are above p
above_from : (p : Row) (n : ℕ) (s : Row) (rs : List Row) → p.first ≡ p.last → ltb s.first p.first ≡ false → ((p.first < s.first) ⊎ (s.last < p.first))
    → RowsAbove n (s ∷ rs) → RowsAbove p.last (s ∷ rs)
above_from p n s rs one t (inl l) a = (omega (arith, l, one), a.1, a.2)
above_from p n s rs one t (inr l) a = let ge : p.first ≤ s.first = grind (arith, nat_tests, t) in absurd (omega (arith, ge, l, a.1))

merged_above : (n : ℕ) (r p : Row) (rs : List Row) → n < p.last → p.first ≡ p.last → RowsAbove r.last rs → Outside p.first rs → n < (merged_after r p rs).last
merged_above n r p [] l one a o = rw (join_if_last r p) l
merged_above n r p (s ∷ rs) l one a o =
    by_test (ltb s.first p.first) (λ b. n < (cond b (merged_after s p rs) (join_if r (with_next p (s ∷ rs)))).last)
    (λ e. merged_above n s p rs l one a.2 o.1)
    (λ e. rw (join_if_last r (with_next p (s ∷ rs))) (next_above n p (s ∷ rs) l (above_from p r.last s rs one e o.0 a)))

-- p is joined with r, the row before it, or not; all others are above
placed_next : (r p : Row) (rs : List Row) → r.last < p.last → RowsAbove p.last rs
    → row_frames (put_before r (put_before p rs)) ≡ noted_if (frame_of_row (join_if r (with_next p rs))) (with_frame (frame_of_row r) (row_frames rs))
placed_next r p rs l a =
    let m = with_next p rs in
    ap (λ (zs : List Row). row_frames (put_before r zs)) (before_is p rs)
    ∙ by_test (meet r m) (λ b. row_frames (cond b (joined r m ∷ rest_of p rs) (r ∷ m ∷ rest_of p rs)) ≡ noted_if (frame_of_row (cond b (joined r m) m)) (with_frame (frame_of_row r) (row_frames rs)))
    (λ e. rw (no_frame r.head r.last r.tail (meet_parts r m e).no_tail) (low (joined r m) p rs a (record { last = refl; tail = refl; head = none_right r.head m.head })))
    (λ e. ap (with_frame (frame_of_row r)) (low m p rs a (like_self m))
    ∙ noted_skip (frame_of_row m) (frame_of_row r) r.last m.last (row_frames rs) (row_last m) (row_last r) (next_above r.last p rs l a))

placed_after : (r p : Row) (rs : List Row) → r.last < p.first → p.first ≡ p.last → RowsAbove r.last rs → AreLongest (r ∷ rs) → Outside p.first rs
    → row_frames (put_before r (row_placed p rs)) ≡ noted_if (frame_of_row (merged_after r p rs)) (with_frame (frame_of_row r) (row_frames rs))
placed_after r p [] l one a long o = placed_next r p [] (omega (arith, one)) tt
placed_after r p (s ∷ rs) l one a long o =
    by_test (ltb s.first p.first) (λ b. row_frames (put_before r (cond b (put_before s (row_placed p rs)) (put_before p (s ∷ rs)))) ≡ noted_if
    (frame_of_row (cond b (merged_after s p rs) (join_if r (with_next p (s ∷ rs))))) (with_frame (frame_of_row r) (row_frames (s ∷ rs))))
    (λ e.
    let below : s.last < p.first = lower e o.0 in
    ap row_frames (no_meet_before r s (row_placed p rs) long.0)
    ∙ ap (with_frame (frame_of_row r)) (placed_after s p rs below one a.2 long.1 o.1)
    ∙ noted_skip (frame_of_row (merged_after s p rs)) (frame_of_row r) r.last (merged_after s p rs).last (row_frames (s ∷ rs)) (row_last (merged_after s p rs))
    (row_last r) (merged_above r.last s p rs (omega (arith, one)) one a.2 o.1))
    (λ e. placed_next r p (s ∷ rs) (omega (arith, one)) (above_from p r.last s rs one e o.0 a))
  where
    lower : ltb s.first p.first ≡ true → ((p.first < s.first) ⊎ (s.last < p.first)) → s.last < p.first
    lower e (inl m) = let k : s.first < p.first = grind (arith, nat_tests, e) in absurd (omega arith)
    lower e (inr m) = m

-- the frame of p's row is noted, and no other frame changes
pub frames_placed : (p : Row) (rs : List Row) → p.first ≡ p.last → RowsRise rs → AreLongest rs → Outside p.first rs
    → row_frames (row_placed p rs) ≡ noted_if (frame_of_row (merged p rs)) (row_frames rs)
frames_placed p [] one a long o = noted_low (frame_of_row p) p.last [] (row_last p) tt
frames_placed p (r ∷ rs) one a long o =
    by_test (ltb r.first p.first) (λ b. row_frames (cond b (put_before r (row_placed p rs)) (put_before p (r ∷ rs))) ≡ noted_if
    (frame_of_row (cond b (merged_after r p rs) (with_next p (r ∷ rs)))) (row_frames (r ∷ rs)))
    (λ e. placed_after r p rs (lower e o.0) one a.1 long o.1)
    (λ e. ap row_frames (before_is p (r ∷ rs)) ∙ low (with_next p (r ∷ rs)) p (r ∷ rs) (upper e o.0) (like_self (with_next p (r ∷ rs))))
  where
    lower : ltb r.first p.first ≡ true → ((p.first < r.first) ⊎ (r.last < p.first)) → r.last < p.first
    lower e (inl m) = let k : r.first < p.first = grind (arith, nat_tests, e) in absurd (omega arith)
    lower e (inr m) = m

    upper : ltb r.first p.first ≡ false → ((p.first < r.first) ⊎ (r.last < p.first)) → RowsAbove p.last (r ∷ rs)
    upper e (inl m) = (omega (arith, m, one), a.0, a.1)
    upper e (inr m) = let k : p.first ≤ r.first = grind (arith, nat_tests, e) in absurd (omega (arith, k, m, a.0))
