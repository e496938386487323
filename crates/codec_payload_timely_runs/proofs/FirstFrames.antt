-- The first complete frame of a buffer that holds a unit whole: it is at or before the unit, and its packet with the highest number is
-- held.
use Rattle.std.proofs.Common.{◌≡◌, ◌∙◌, refl, sym, ap, ℕ, subst, List, [], ◌∷◌, ◌++◌, Some, true, cond, ◌+◌, ◌-◌, ◌<◌, ◌||◌, arith, append_assoc, inl, inr, eqb, reverse}
use Rattle.std.specs.Prelude.{slice_get}
use Rattle.std.proofs.lemmas.Bool.Decides.{nat_tests}
use Rattle.std.proofs.lemmas.List.{reverse-append}
use Rattle.codec_payload_base.specs.Time.{Time}
use Rattle.codec_payload_base.specs.declared.wire.Ticks.{Ticks}
use Rattle.codec_payload_codec.proofs.CaseLemmas.{by_test, by_option}
use Rattle.codec_payload_buffer.proofs.FrameParts.{IsRun, BeginsWithHead}
use Rattle.codec_payload_buffer.proofs.FrontLemmas.{walk, goes_on, ends_here}
use Rattle.codec_payload_buffer.specs.Blanks.{received_of}
use Rattle.codec_payload_buffer.specs.Frames.{frames, frames_after, frame_at, ended_at, lowest_head, row_before}
use Rattle.codec_payload_buffer.specs.Held.{Held, Rises, has_number, number_of}
use Rattle.codec_payload_buffer.specs.Scan.{first_of}
use Rattle.codec_payload_buffer.specs.Steps.{State}
use Rattle.codec_payload_buffer.specs.declared.buffer.frames.CompleteFrame.{CompleteFrame}
use Rattle.codec_payload_buffer_runs.proofs.order.SafetyLemmas.{before_next, lawful_at}
use Rattle.codec_payload_buffer_runs.proofs.order.TurnLemmas.{Setting, ArePushes}
use Rattle.codec_payload_buffer_runs.proofs.order.WholeLemmas.{lowest_frame, some_packets, unit_in}
use Rattle.codec_payload_buffer_runs.specs.Headline.{packets_before}
use Rattle.codec_payload_buffer_runs.specs.RunUnits.{IsHeldWhole}
use Rattle.codec_payload_buffer_runs.specs.SentStream.{SentUnit}

-- A row from a first packet to a last one gives a frame

-- the frames of a list in two pieces
frames_append : (earlier xs ys : List Held) → frames_after earlier (xs ++ ys) ≡ frames_after earlier xs ++ frames_after (reverse xs ++ earlier) ys
frames_append earlier [] ys = refl
frames_append earlier (x ∷ xs) ys =
    let r : reverse xs ++ x ∷ earlier ≡ reverse (x ∷ xs) ++ earlier = sym (ap (λ (zs : List Held). zs ++ earlier) (reverse-append (x ∷ []) xs) ∙ append_assoc (reverse xs) (x ∷ []) earlier) in
    ap (λ (zs : List CompleteFrame). frame_at x earlier ++ zs) (frames_append (x ∷ earlier) xs ys ∙ ap (λ (e : List Held). frames_after (x ∷ earlier) xs ++ frames_after e ys) r)
    ∙ sym (append_assoc (frame_at x earlier) (frames_after (x ∷ earlier) xs) (frames_after (reverse (x ∷ xs) ++ earlier) ys))

-- a range that reaches a first packet has a lowest one
lowest_at : (p : Held) (earlier : List Held) → p.head ≡ true → (n : ℕ) × (lowest_head (p ∷ row_before p earlier) ≡ Some n)
lowest_at p earlier head =
    by_option (lowest_head (row_before p earlier)) (λ o. lowest_head (row_before p earlier) ≡ o → (n : ℕ) × (lowest_head (p ∷ row_before p earlier) ≡ Some n))
    (λ none is. (number_of p, rw (is, head) refl))
    (λ n some is. (n, rw is refl))
    refl

-- some frame ends in a row, or before it
row_first : (ps rest earlier : List Held) (first last : ℕ) (time : Time) → IsRun first last time ps → BeginsWithHead ps
    → (f : CompleteFrame) × (first_of (frames_after earlier (ps ++ rest)) ≡ Some f)
row_first [] rest earlier first last time run begins = absurd run
row_first (p ∷ []) rest earlier first last time run begins =
    let low = lowest_at p earlier begins in
    (record { first = low.0; last = number_of p }, ends_here p.tail (lowest_head (p ∷ row_before p earlier)) p (frames_after (p ∷ earlier) rest) low.0 run.3 low.1)
row_first (p ∷ q ∷ ps) rest earlier first last time run begins =
    let low = lowest_at p earlier begins in
    let next : IsRun (number_of p + 1) last time (q ∷ ps) = subst (λ (k : ℕ). IsRun (k + 1) last time (q ∷ ps)) (sym run.0) run.3 in (
      record { first = low.0; last = last },
      goes_on p.tail (ended_at p (lowest_head (p ∷ row_before p earlier))) (frames_after (p ∷ earlier) (q ∷ ps ++ rest)) run.2
          ∙ walk earlier p (q ∷ ps) rest low.0 last time low.1 run.2 run.1 next,
    )

first_joined : (xs ys : List CompleteFrame) (f : CompleteFrame) → first_of ys ≡ Some f → (g : CompleteFrame) × (first_of (xs ++ ys) ≡ Some g)
first_joined [] ys f is = (f, is)
first_joined (x ∷ xs) ys f is = (x, refl)

some_first : (below row rest : List Held) (first last : ℕ) (time : Time) → IsRun first last time row → BeginsWithHead row
    → (f : CompleteFrame) × (first_of (frames (below ++ (row ++ rest))) ≡ Some f)
some_first below row rest first last time run begins =
    let found = row_first row rest (reverse below ++ []) first last time run begins in
    let both = first_joined (frames_after [] below) (frames_after (reverse below ++ []) (row ++ rest)) found.0 found.1 in
    (both.0, ap first_of (frames_append [] below (row ++ rest)) ∙ both.1)

-- The last packet of the first frame is held

pub has_later : (n : ℕ) (p : Held) (ps : List Held) → has_number n ps ≡ true → has_number n (p ∷ ps) ≡ true
has_later n p ps h = by_test (eqb (number_of p) n) (λ b. (b || has_number n ps) ≡ true) (λ e. refl) (λ e. h)

has_here : (n : ℕ) (p : Held) (ps : List Held) → number_of p ≡ n → has_number n (p ∷ ps) ≡ true
has_here n p ps e = grind (arith, nat_tests, e)

first_ends : (earlier hs : List Held) (f : CompleteFrame) → first_of (frames_after earlier hs) ≡ Some f → has_number f.last hs ≡ true
first_ends earlier [] f h = absurd (cc)
first_ends earlier (p ∷ ps) f h =
    by_test p.tail (λ b. first_of (cond b (ended_at p (lowest_head (p ∷ row_before p earlier))) [] ++ frames_after (p ∷ earlier) ps) ≡ Some f → has_number f.last (p ∷ ps) ≡ true)
    (λ tail. by_option (lowest_head (p ∷ row_before p earlier)) (λ o. first_of (ended_at p o ++ frames_after (p ∷ earlier) ps) ≡ Some f → has_number f.last (p ∷ ps) ≡ true)
    (λ none h. has_later f.last p ps (first_ends (p ∷ earlier) ps f h))
    (λ n is h. let frame : CompleteFrame = record { first = n; last = number_of p } in let e : frame ≡ f = cc in has_here f.last p ps (ap (λ (x : CompleteFrame). x.last) e)))
    (λ no h. has_later f.last p ps (first_ends (p ∷ earlier) ps f h))
    h

received_some : (n : ℕ) (hs : List Held) → has_number n hs ≡ true → (since : Ticks) × (received_of n hs ≡ Some since)
received_some n [] h = absurd (cc)
received_some n (p ∷ ps) h =
    by_test (eqb (number_of p) n) (λ b. (b || has_number n ps) ≡ true → (since : Ticks) × (cond b (Some p.meta.received) (received_of n ps) ≡ Some since))
    (λ e h. (p.meta.received, refl)) (λ e h. received_some n ps h) h

list_first : (xs : List CompleteFrame) (f : CompleteFrame) → first_of xs ≡ Some f → (fs : List CompleteFrame) × (xs ≡ f ∷ fs)
list_first [] f h = absurd (cc)
list_first (x ∷ xs) f h = let e : x ≡ f = cc in (xs, ap (λ (y : CompleteFrame). y ∷ xs) e)

-- when the last packet of the first frame arrived
pub last_received : (hs : List Held) (f : CompleteFrame) (fs : List CompleteFrame) → frames hs ≡ f ∷ fs → (since : Ticks) × (received_of f.last hs ≡ Some since)
last_received hs f fs are = received_some f.last hs (first_ends [] hs f (ap first_of are))

-- the same of an equal list
by_list : (hs gs : List Held) (f : CompleteFrame) → hs ≡ gs → first_of (frames gs) ≡ Some f → first_of (frames hs) ≡ Some f
by_list hs gs f same is = ap (λ (ps : List Held). first_of (frames ps)) same ∙ is

-- the first complete frame, which ends below `high`, and when its last packet arrived
pub record IsFirst (high : ℕ) (s : State) : Type 0 where
  pub frame : CompleteFrame
  pub later : List CompleteFrame
  pub are : frames s.held ≡ frame ∷ later
  pub below : frame.last < high
  pub since : Ticks
  pub at : received_of frame.last s.held ≡ Some since

module _ (c : Setting) where
  pub first_frame : (place : ℕ) (u : SentUnit) (s : State) → slice_get c.units place ≡ Some u → Rises s.held → ArePushes c s.held → IsHeldWhole c.first c.units place s
      → IsFirst (c.first + packets_before (place + 1) c.units) s
  first_frame place u s at rises sent whole =
      let law = lawful_at c.kind c.splits c.units place u c.lawful at in
      let size = before_next c.units place u at in
      let some = some_packets c u.packets law.ends in
      let last = c.first + packets_before (place + 1) c.units - 1 in
      let l : last + 1 ≡ c.first + packets_before (place + 1) c.units = omega (arith, size, some) in
      let row = unit_in c place u s last at rises sent whole l in
      let found = some_first row.below row.row row.rest (c.first + packets_before place c.units) last row.time row.run row.begins in
      let here : first_of (frames s.held) ≡ Some found.0 = by_list s.held (row.below ++ (row.row ++ row.rest)) found.0 row.whole found.1 in
      let listed = list_first (frames s.held) found.0 here in
      let received = received_some found.0.last s.held (first_ends [] s.held found.0 here) in
      record {
        frame = found.0;
        later = listed.0;
        are = listed.1;
        below = elim (lowest_frame row.below row.row row.rest (c.first + packets_before place c.units) last row.time found.0 (subst Rises row.whole rises) row.run row.begins found.1) [
          | inl early ↦ omega (arith, early, size)
          | inr ends ↦ omega (arith, ends.0, l)
        ];
        since = received.0;
        at = received.1;
      }
