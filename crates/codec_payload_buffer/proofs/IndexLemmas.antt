-- The rows and frames of packets: with one more packet, without the lowest packet, and without the packets up to a frame's end.
use Rattle.std.proofs.Common.{◌≡◌, ◌≢◌, ℕ, ◌<◌, ◌≤◌, ◌+◌, [], ◌∷◌, List, drop, refl, ap, sym, ◌∙◌, arith, Bool, true, false, cond, Option, Some, None, ltb, eqb, inl, inr, ◌⊎◌, add-one}
use Rattle.std.proofs.lemmas.Bool.Decides.{nat_tests}
use Rattle.codec_payload_buffer.specs.Held.{Held, Rises, AllAbove, has_number, placed, above}
use Rattle.codec_payload_buffer.specs.Frames.{frames, start_or_here}
use Rattle.codec_payload_buffer.specs.Rows.{row_of, meet, or_else, joined, put_before, rows, frame_in, frame_of_row, with_frame, row_frames}
use Rattle.codec_payload_buffer.specs.Rows.{merged, noted_if, next_head, shortened, first_mended, row_end, RowsAbove, RowsRise, EndsRise, IsFirstShort, IsShortened}
use Rattle.codec_payload_buffer.specs.Scan.{first_of}
use Rattle.codec_payload_buffer.specs.declared.buffer.frames.CompleteFrame.{CompleteFrame}
use Rattle.codec_payload_buffer.specs.declared.buffer.rows.Row.{Row}
use Rattle.codec_payload_codec.proofs.CaseLemmas.{by_test}
use Rattle.codec_payload_buffer.proofs.RowLemmas.{all_above}
use Rattle.codec_payload_buffer.proofs.RowListLemmas.{meet_parts, rows_above, rows_rise, are_longest, outside_rows, rows_placed}
use Rattle.codec_payload_buffer.proofs.RowFrames.{frames_of_rows, frames_placed, ends_rise, row_last, by_frame}

-- One packet more

pub placed_index : (p : Held) (hs : List Held) → Rises hs → has_number p.meta.seq_no.0 hs ≡ false → noted_if (frame_of_row (merged (row_of p) (rows hs))) (frames hs) ≡ frames (placed p hs)
placed_index p hs r fresh =
    ap (noted_if (frame_of_row (merged (row_of p) (rows hs)))) (sym (frames_of_rows hs))
    ∙ sym (frames_placed (row_of p) (rows hs) refl (rows_rise hs r) (are_longest hs) (outside_rows p.meta.seq_no.0 hs fresh r))
    ∙ ap row_frames (sym (rows_placed p hs r fresh))
    ∙ frames_of_rows (placed p hs)

-- Without the lowest packet

none_up_to : (n : ℕ) (ps : List Held) → AllAbove n ps → next_head n ps ≡ None
none_up_to n [] a = refl
none_up_to n (p ∷ ps) a = let t : ltb n p.meta.seq_no.0 ≡ true = grind (arith, nat_tests, a.0) in rw t refl

-- the head of the first row is the lowest up to its end
abbrev HeadIs : List Row → List Held → Type 0
HeadIs [] ps = Unit {0}
HeadIs (r ∷ rs) ps = next_head r.last ps ≡ r.head

head_alone : (p : Held) (ps : List Held) → AllAbove p.meta.seq_no.0 ps → next_head p.meta.seq_no.0 (p ∷ ps) ≡ start_or_here None p
head_alone p ps a =
    let t : ltb p.meta.seq_no.0 p.meta.seq_no.0 ≡ false = grind (arith, nat_tests) in
    rw (t, none_up_to p.meta.seq_no.0 ps a) refl

head_before : (p : Held) (ps : List Held) (rs : List Row) → AllAbove p.meta.seq_no.0 ps → RowsAbove p.meta.seq_no.0 rs → HeadIs rs ps → HeadIs (put_before (row_of p) rs) (p ∷ ps)
head_before p ps [] a up is = head_alone p ps a
head_before p ps (r ∷ rs) a up is =
    by_test (meet (row_of p) r) (λ b. HeadIs (cond b (joined (row_of p) r ∷ rs) (row_of p ∷ r ∷ rs)) (p ∷ ps))
    (λ e. rw (t, is) (by_test p.head (λ b. cond b (Some p.meta.seq_no.0) r.head ≡ or_else (cond b (Some p.meta.seq_no.0) None) r.head) (λ h. refl) (λ h. refl)))
    (λ e. head_alone p ps a)
  where
    t : ltb r.last p.meta.seq_no.0 ≡ false
    t = grind (arith, nat_tests, up.0, up.1)

head_is : (ps : List Held) → Rises ps → HeadIs (rows ps) ps
head_is [] r = tt
head_is (p ∷ ps) r = head_before p ps (rows ps) r.0 (rows_above p.meta.seq_no.0 ps r.0 r.1) (head_is ps r.1)

-- the first row of a packet and the rows after it, without that packet
short_before : (p : Held) (ps : List Held) (rs : List Row) → RowsAbove p.meta.seq_no.0 rs → HeadIs rs ps → IsFirstShort (put_before (row_of p) rs) ps
short_before p ps [] up is = (omega arith, λ head other. absurd (other refl))
short_before p ps (r ∷ rs) up is =
    by_test (meet (row_of p) r) (λ b. IsFirstShort (cond b (joined (row_of p) r ∷ rs) (row_of p ∷ r ∷ rs)) ps)
    (λ e. (omega (arith, up.0, up.1), λ head other. kept head))
    (λ e. (omega arith, λ head other. absurd (other refl)))
  where
    kept : or_else (start_or_here None p) r.head ≢ Some p.meta.seq_no.0 → or_else (start_or_here None p) r.head ≡ next_head r.last ps
    kept = by_test p.head (λ b. or_else (cond b (Some p.meta.seq_no.0) None) r.head ≢ Some p.meta.seq_no.0 → or_else (cond b (Some p.meta.seq_no.0) None) r.head ≡ next_head r.last ps)
        (λ h other. absurd (other refl)) (λ h other. sym is)

pub first_is_short : (p : Held) (ps : List Held) → Rises (p ∷ ps) → IsFirstShort (rows (p ∷ ps)) ps
first_is_short p ps r = short_before p ps (rows ps) (rows_above p.meta.seq_no.0 ps r.0 r.1) (head_is ps r.1)

-- the rest of the first row, with the rows after it
left_before : (p : Held) (ps : List Held) (rs : List Row) (before after : Option CompleteFrame) (new : List Row) → RowsAbove p.meta.seq_no.0 rs → HeadIs rs ps
    → IsShortened (put_before (row_of p) rs) ps before after new
    → (new ≡ rs) × (first_mended before after (row_frames (put_before (row_of p) rs)) ≡ row_frames rs)
left_before p ps [] before after new up is left =
    let same : eqb p.meta.seq_no.0 p.meta.seq_no.0 ≡ true = grind (arith, nat_tests) in
    rw (left.0, left.1, left.2, same) (refl, gone (frame_of_row (row_of p)))
  where
    gone : (o : Option CompleteFrame) → first_mended o None (with_frame o []) ≡ []
    gone None = refl
    gone (Some f) = refl
left_before p ps (r ∷ rs) before after new up is left =
    by_test (meet (row_of p) r) (λ b. IsShortened (cond b (joined (row_of p) r ∷ rs) (row_of p ∷ r ∷ rs)) ps before after new → (new ≡ r ∷ rs)
    × (first_mended before after (row_frames (cond b (joined (row_of p) r ∷ rs) (row_of p ∷ r ∷ rs))) ≡ row_frames (r ∷ rs)))
    (λ e left. rw (left.0, left.1, left.2, rest (meet_parts (row_of p) r e).next) (refl, shorter r.tail r.head (row_frames rs)))
    (λ e left.
    let same : eqb p.meta.seq_no.0 p.meta.seq_no.0 ≡ true = grind (arith, nat_tests) in
    rw (left.0, left.1, left.2, same) (refl, gone (frame_of_row (row_of p)) (row_frames (r ∷ rs)))) left
  where
    gone : (o : Option CompleteFrame) (fs : List CompleteFrame) → first_mended o None (with_frame o fs) ≡ fs
    gone None fs = refl
    gone (Some f) fs = refl

    rest : p.meta.seq_no.0 + 1 ≡ r.first → shortened (joined (row_of p) r) ps ≡ Some r
    rest next =
        let other : eqb p.meta.seq_no.0 r.last ≡ false = grind (arith, nat_tests, up.0, up.1) in
        rw (other, next, is) refl

    -- with p in front, the row has a frame if it has one without p
    shorter : (tail : Bool) (head : Option ℕ) (fs : List CompleteFrame)
        → first_mended (frame_in tail (or_else (start_or_here None p) head) r.last) (frame_in tail head r.last)
        (with_frame (frame_in tail (or_else (start_or_here None p) head) r.last) fs) ≡ with_frame (frame_in tail head r.last) fs
    shorter false head fs = refl
    shorter true head fs = mend (or_else (start_or_here None p) head) head (none head)
      where
        none : (head : Option ℕ) → or_else (start_or_here None p) head ≡ None → head ≡ None
        none None h = refl
        none (Some n) h = by_test p.head (λ b. or_else (cond b (Some p.meta.seq_no.0) None) (Some n) ≡ None → Some n ≡ None) (λ e h. absurd (cc)) (λ e h. h) h

        mend : (o head : Option ℕ) → (o ≡ None → head ≡ None)
            → first_mended (frame_in true o r.last) (frame_in true head r.last) (with_frame (frame_in true o r.last) fs) ≡ with_frame (frame_in true head r.last) fs
        mend None head only = rw (only refl) refl
        mend (Some n) head only = refl

pub without_lowest_index : (p : Held) (ps : List Held) (before after : Option CompleteFrame) (new : List Row) → Rises (p ∷ ps) → IsShortened (rows (p ∷ ps)) ps before after new
    → (new ≡ rows ps) × (first_mended before after (frames (p ∷ ps)) ≡ frames ps)
without_lowest_index p ps before after new r left =
    let both = left_before p ps (rows ps) before after new (rows_above p.meta.seq_no.0 ps r.0 r.1) (head_is ps r.1) left in
    (both.0, ap (first_mended before after) (sym (frames_of_rows (p ∷ ps))) ∙ both.1 ∙ frames_of_rows ps)

-- Without the packets up to a frame's end

-- a row ends there
abbrev EndsAt : ℕ → List Row → Type 0
EndsAt last [] = ⊥
EndsAt last (r ∷ rs) = (r.last ≡ last) ⊎ EndsAt last rs

end_above : (n last : ℕ) (rs : List Row) → RowsAbove n rs → EndsAt last rs → n < last
end_above n last [] a e = absurd e
end_above n last (r ∷ rs) a (inl e) = omega (arith, a.0, a.1, e)
end_above n last (r ∷ rs) a (inr e) = let over = end_above r.last last rs a.2 e in omega (arith, over, a.0, a.1)

no_end : (n last : ℕ) (rs : List Row) → last ≤ n → RowsAbove n rs → row_end last rs ≡ 0
no_end n last [] le a = refl
no_end n last (r ∷ rs) le a = let t : ltb last r.first ≡ true = grind (arith, nat_tests, le, a.0) in rw t refl

one_end : (last : ℕ) (r : Row) (rs : List Row) → r.first ≤ last → drop (row_end last (r ∷ rs)) (r ∷ rs) ≡ drop (row_end last rs) rs
one_end last r rs le = let t : ltb last r.first ≡ false = grind (arith, nat_tests, le) in rw (t, add-one) refl

left_rows : (p : Held) (last : ℕ) (rs left : List Row) → p.meta.seq_no.0 ≤ last → RowsAbove p.meta.seq_no.0 rs → (EndsAt last rs → left ≡ drop (row_end last rs) rs)
    → (p.meta.seq_no.0 ≡ last → left ≡ rs) → EndsAt last (put_before (row_of p) rs) → left ≡ drop (row_end last (put_before (row_of p) rs)) (put_before (row_of p) rs)
left_rows p last [] left le a more here (inl e) = here e ∙ sym (one_end last (row_of p) [] le)
left_rows p last [] left le a more here (inr e) = absurd e
left_rows p last (r ∷ rs) left le a more here ends =
    by_test (meet (row_of p) r) (λ b. EndsAt last (cond b (joined (row_of p) r ∷ rs) (row_of p ∷ r ∷ rs))
    → left ≡ drop (row_end last (cond b (joined (row_of p) r ∷ rs) (row_of p ∷ r ∷ rs))) (cond b (joined (row_of p) r ∷ rs) (row_of p ∷ r ∷ rs)))
    (λ e ends. more ends ∙ one_end last r rs (start ends) ∙ sym (one_end last (joined (row_of p) r) rs le))
    (λ e ends. behind ends ∙ sym (one_end last (row_of p) (r ∷ rs) le)) ends
  where
    start : ((r.last ≡ last) ⊎ EndsAt last rs) → r.first ≤ last
    start (inl at) = omega (arith, at, a.1)
    start (inr at) = let over = end_above r.last last rs a.2 at in omega (arith, over, a.1)

    behind : ((p.meta.seq_no.0 ≡ last) ⊎ EndsAt last (r ∷ rs)) → left ≡ drop (row_end last (r ∷ rs)) (r ∷ rs)
    behind (inl at) = let none = no_end p.meta.seq_no.0 last (r ∷ rs) (omega (arith, at)) a in rw none (here at)
    behind (inr at) = more at

rows_left : (last : ℕ) (hs : List Held) → Rises hs → EndsAt last (rows hs) → rows (above last hs) ≡ drop (row_end last (rows hs)) (rows hs)
rows_left last [] r ends = refl
rows_left last (p ∷ ps) r ends =
    by_test (ltb last p.meta.seq_no.0) (λ b. rows (cond b (p ∷ above last ps) (above last ps)) ≡ drop (row_end last (rows (p ∷ ps))) (rows (p ∷ ps)))
    (λ e.
    let over : last < p.meta.seq_no.0 = grind (arith, nat_tests, e) in
    let none = no_end last last (rows (p ∷ ps)) (omega arith) (rows_above last (p ∷ ps) (over, lower ps over r.0) r) in
    rw none (ap (λ (zs : List Held). rows (p ∷ zs)) (all_above last ps (lower ps over r.0))))
    (λ e.
    let le : p.meta.seq_no.0 ≤ last = grind (arith, nat_tests, e) in
    left_rows p last (rows ps) (rows (above last ps)) le (rows_above p.meta.seq_no.0 ps r.0 r.1) (rows_left last ps r.1) (λ at. ap rows (all_above last ps (same ps at r.0))) ends)
  where
    lower : (ps : List Held) → last < p.meta.seq_no.0 → AllAbove p.meta.seq_no.0 ps → AllAbove last ps
    lower [] l a = tt
    lower (q ∷ qs) l a = (omega (arith, a.0, l), lower qs l a.1)

    same : (ps : List Held) → p.meta.seq_no.0 ≡ last → AllAbove p.meta.seq_no.0 ps → AllAbove last ps
    same [] l a = tt
    same (q ∷ qs) l a = (omega (arith, a.0, l), same qs l a.1)

-- the row of the first frame
first_ends : (rs : List Row) (f : CompleteFrame) → first_of (row_frames rs) ≡ Some f → EndsAt f.last rs
first_ends [] f h = absurd (cc)
first_ends (r ∷ rs) f h =
    by_frame (frame_of_row r) (λ o. first_of (with_frame o (row_frames rs)) ≡ Some f → EndsAt f.last (r ∷ rs))
    (λ e h. inr (first_ends rs f h))
    (λ g e h. let same : g ≡ f = cc in inl (sym (row_last r g e) ∙ ap (λ (x : CompleteFrame). x.last) same)) h

frames_left : (rs : List Row) (f : CompleteFrame) → RowsRise rs → first_of (row_frames rs) ≡ Some f → row_frames (drop (row_end f.last rs) rs) ≡ drop 1 (row_frames rs)
frames_left [] f a h = absurd (cc)
frames_left (r ∷ rs) f a h =
    by_frame (frame_of_row r) (λ o. first_of (with_frame o (row_frames rs)) ≡ Some f → row_frames (drop (row_end f.last (r ∷ rs)) (r ∷ rs)) ≡ drop 1 (with_frame o (row_frames rs)))
    (λ e h. let over = end_above r.last f.last rs a.1 (first_ends rs f h) in ap row_frames (one_end f.last r rs (omega (arith, over, a.0))) ∙ frames_left rs f (rise r.last rs a.1) h)
    (λ g e h.
    let same : g ≡ f = cc in
    let at : f.last ≡ r.last = ap (λ (x : CompleteFrame). x.last) (sym same) ∙ row_last r g e in
    let none = no_end r.last f.last rs (omega (arith, at)) a.1 in
    ap row_frames (one_end f.last r rs (omega (arith, at, a.0))) ∙ rw none refl) h
  where
    rise : (n : ℕ) (rs : List Row) → RowsAbove n rs → RowsRise rs
    rise n [] a = tt
    rise n (s ∷ rs) a = (a.1, a.2)

pub left_index : (hs : List Held) (f : CompleteFrame) → Rises hs → first_of (frames hs) ≡ Some f → (drop (row_end f.last (rows hs)) (rows hs) ≡ rows (above f.last hs))
    × (drop 1 (frames hs) ≡ frames (above f.last hs))
left_index hs f r h =
    let first : first_of (row_frames (rows hs)) ≡ Some f = ap first_of (frames_of_rows hs) ∙ h in
    let left = rows_left f.last hs r (first_ends (rows hs) f first) in
    (sym left, ap (drop 1) (sym (frames_of_rows hs)) ∙ sym (frames_left (rows hs) f (rows_rise hs r) first) ∙ ap row_frames (sym left) ∙ frames_of_rows (above f.last hs))

-- The same for what the code has written

pub complete_frames_rise : (hs : List Held) (fs : List CompleteFrame) → Rises hs → fs ≡ frames hs → EndsRise fs
complete_frames_rise hs fs r is = rw (is, ← frames_of_rows hs) (ends_rise (rows hs) (rows_rise hs r))

-- what a push leaves of the frames
pub pushed_frames : (p : Held) (hs new : List Held) (whole : Row) (frame : Option CompleteFrame) (fs fs' : List CompleteFrame) → Rises hs → has_number p.meta.seq_no.0 hs ≡ false → fs ≡ frames hs
    → new ≡ placed p hs → whole ≡ merged (row_of p) (rows hs) → frame ≡ frame_of_row whole → fs' ≡ noted_if frame fs → fs' ≡ frames new
pushed_frames p hs new whole frame fs fs' r fresh frames_are placed_is all of noted_is = rw (noted_is, of, all, placed_is, frames_are) (placed_index p hs r fresh)
