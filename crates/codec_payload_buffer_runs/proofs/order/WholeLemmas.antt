-- A unit that is held whole: its packets stand together, and no later frame goes first.
use Rattle.std.proofs.Common.{◌≡◌, ◌∙◌, refl, sym, ap, ℕ, zero, suc, subst, List, [], Some, None, true, false, cond, ◌++◌}
use Rattle.std.proofs.Common.{◌+◌, ◌∷◌, ◌<◌, ◌≤◌, ◌⊎◌, ◌||◌, arith, length, take, drop, append_assoc, add-one, inl, inr, eqb, ltb, reverse}
use Rattle.std.specs.Prelude.{slice_get}
use Rattle.std.proofs.lemmas.Bool.{cases_lt}
use Rattle.std.proofs.lemmas.Bool.Decides.{nat_tests}
use Rattle.std.proofs.lemmas.List.{length-append, reverse-append}
use Rattle.std.proofs.Math.Seq.{drop-append-add}
use Rattle.codec_payload_base.specs.Time.{Time}
use Rattle.codec_payload_codec.proofs.CaseLemmas.{by_test, by_option}
use Rattle.codec_payload_buffer.proofs.FrameParts.{IsRun, BeginsWithHead}
use Rattle.codec_payload_buffer.proofs.FrontLemmas.{walk, goes_on, ends_here}
use Rattle.codec_payload_buffer_runs.proofs.order.FullLemmas.{numbered_front, run_of_exact, begins_of_exact, held_time}
use Rattle.codec_payload_buffer.proofs.PlaceLemmas.{absent_below}
use Rattle.codec_payload_buffer.proofs.RowLemmas.{run_first, above_all, leads_parts}
use Rattle.codec_payload_buffer_runs.proofs.order.SafetyLemmas.{number_of_sent, before_next, lawful_at}
use Rattle.codec_payload_buffer_runs.proofs.order.TurnLemmas.{Setting, IsPush, ArePushes}
use Rattle.codec_payload_buffer_runs.proofs.units.UnitRows.{Exact, held_as, drop_next}
use Rattle.codec_payload_buffer_runs.proofs.units.UnitTimes.{HasTime, AllOneTime}
use Rattle.codec_payload_buffer.specs.Frames.{frames, frames_after, frame_at, ended_at, lowest_head, row_before, leads_to, start_or_here}
use Rattle.codec_payload_buffer_runs.specs.Headline.{packets_before}
use Rattle.codec_payload_buffer.specs.Held.{Held, number_of, has_number, Rises, above}
use Rattle.codec_payload_payloader.specs.Packets.{Packet, AreNumbered}
use Rattle.codec_payload_buffer_runs.specs.RunUnits.{IsHeldWhole}
use Rattle.codec_payload_buffer.specs.Scan.{first_of}
use Rattle.codec_payload_buffer_runs.specs.SentStream.{SentUnit, packets_of, EndsWithTail}
use Rattle.codec_payload_buffer.specs.Steps.{State}
use Rattle.codec_payload_buffer.specs.declared.buffer.frames.CompleteFrame.{CompleteFrame}

false_true : {A : Type 0} → false ≡ true → A
false_true h = absurd (cc)

-- the frames of a list in two pieces
frames_append : (earlier xs ys : List Held) → frames_after earlier (xs ++ ys) ≡ frames_after earlier xs ++ frames_after (reverse xs ++ earlier) ys
frames_append earlier [] ys = refl
frames_append earlier (x ∷ xs) ys =
    let r : reverse xs ++ x ∷ earlier ≡ reverse (x ∷ xs) ++ earlier = sym (ap (λ (zs : List Held). zs ++ earlier) (reverse-append (x ∷ []) xs) ∙ append_assoc (reverse xs) (x ∷ []) earlier) in
    ap (λ (zs : List CompleteFrame). frame_at x earlier ++ zs) (frames_append (x ∷ earlier) xs ys ∙ ap (λ (e : List Held). frames_after (x ∷ earlier) xs ++ frames_after e ys) r)
    ∙ sym (append_assoc (frame_at x earlier) (frames_after (x ∷ earlier) xs) (frames_after (reverse (x ∷ xs) ++ earlier) ys))

-- a later number
later_number : (n : ℕ) (h : Held) (hs : List Held) → number_of h < n → has_number n (h ∷ hs) ≡ true → has_number n hs ≡ true
later_number n h hs l e = grind (arith, nat_tests, e, l)

-- packets up to a number have left: a higher one stays
pub has_above : (n last : ℕ) (hs : List Held) → last < n → has_number n hs ≡ true → has_number n (above last hs) ≡ true
has_above n last [] l h = h
has_above n last (p ∷ ps) l h =
    by_test (ltb last (number_of p)) (λ b. has_number n (cond b (p ∷ above last ps) (above last ps)) ≡ true)
    (λ e. by_test (eqb (number_of p) n) (λ b. (b || has_number n (above last ps)) ≡ true) (λ same. refl) (λ other. has_above n last ps l (grind (arith, h, other))))
    (λ e. let low : number_of p < n = grind (arith, nat_tests, e, l) in has_above n last ps l (later_number n p ps low h))

-- the lowest first packet of a range is at its latest packet or before
lowest_alone : (q : Held) (m : ℕ) → start_or_here None q ≡ Some m → m ≤ number_of q
lowest_alone q m h = by_test q.head (λ b. cond b (Some (number_of q)) None ≡ Some m → m ≤ number_of q) (λ e h. let s : number_of q ≡ m = cc in omega (arith, s)) (λ e h. absurd (cc)) h

lowest_up : (q : Held) (es : List Held) (m : ℕ) → lowest_head (q ∷ row_before q es) ≡ Some m → m ≤ number_of q
lowest_up q [] m h = lowest_alone q m h
lowest_up q (e ∷ es) m h =
    by_test (leads_to e q) (λ b. lowest_head (q ∷ cond b (e ∷ row_before e es) []) ≡ Some m → m ≤ number_of q)
    (λ leads. by_option (lowest_head (e ∷ row_before e es)) (λ o. start_or_here o q ≡ Some m → m ≤ number_of q)
    (λ none h. lowest_alone q m h)
    (λ k is h. let same : k ≡ m = cc in let low : number_of e + 1 ≡ number_of q = (leads_parts e q leads).next in omega (arith, lowest_up e es k is, low, same)))
    (λ no h. lowest_alone q m h)
    h

-- a range that reaches a first packet has a lowest one, at most there
lowest_at : (p : Held) (earlier : List Held) → p.head ≡ true → (n : ℕ) × (lowest_head (p ∷ row_before p earlier) ≡ Some n) × (n ≤ number_of p)
lowest_at p earlier head =
    by_option (lowest_head (row_before p earlier)) (λ o. lowest_head (row_before p earlier) ≡ o → (n : ℕ) × (lowest_head (p ∷ row_before p earlier) ≡ Some n) × (n ≤ number_of p))
    (λ none is. (number_of p, rw (is, head) refl, omega arith))
    (λ n some is. let e : lowest_head (p ∷ row_before p earlier) ≡ Some n = rw is refl in (n, e, lowest_up p earlier n e))
    refl

-- the first frame that ends in a range, and the packets after it
row_first : (ps rest earlier : List Held) (first last : ℕ) (time : Time) → IsRun first last time ps → BeginsWithHead ps → (n : ℕ)
    × (first_of (frames_after earlier (ps ++ rest)) ≡ Some (record { first = n; last = last })) × (n ≤ first)
row_first [] rest earlier first last time run begins = absurd run
row_first (p ∷ []) rest earlier first last time run begins =
    let low = lowest_at p earlier begins in (
      low.0,
      ends_here p.tail (lowest_head (p ∷ row_before p earlier)) p (frames_after (p ∷ earlier) rest) low.0 run.3 low.1
          ∙ ap (λ (k : ℕ). Some (record { first = low.0; last = k })) run.1,
      omega (arith, low.2, run.0),
    )
row_first (p ∷ q ∷ ps) rest earlier first last time run begins =
    let low = lowest_at p earlier begins in
    let next : IsRun (number_of p + 1) last time (q ∷ ps) = subst (λ (k : ℕ). IsRun (k + 1) last time (q ∷ ps)) (sym run.0) run.3 in (
      low.0,
      goes_on p.tail (ended_at p (lowest_head (p ∷ row_before p earlier))) (frames_after (p ∷ earlier) (q ∷ ps ++ rest)) run.2
          ∙ walk earlier p (q ∷ ps) rest low.0 last time low.1 run.2 run.1 next,
      omega (arith, low.2, run.0),
    )

abbrev AllUnder : ℕ → List Held → Type 0
AllUnder m [] = Unit {0}
AllUnder m (p ∷ ps) = (number_of p < m) × AllUnder m ps

under_run : (below ps rest : List Held) (first last : ℕ) (time : Time) → IsRun first last time ps → Rises (below ++ (ps ++ rest)) → AllUnder first below
under_run [] ps rest first last time run r = tt
under_run (b ∷ bs) [] rest first last time run r = absurd run
under_run (b ∷ bs) (p ∷ ps) rest first last time run r =
    let a = above_all (number_of b) bs (p ∷ ps ++ rest) r.0 in
    (omega (arith, a.0, run_first p ps first last time run), under_run bs (p ∷ ps) rest first last time run r.1)

-- a frame ends at one of the packets
frame_under : (below earlier : List Held) (m : ℕ) (f : CompleteFrame) → AllUnder m below → first_of (frames_after earlier below) ≡ Some f → f.last < m
frame_under [] earlier m f a h = absurd (cc)
frame_under (p ∷ ps) earlier m f a h =
    by_test p.tail (λ b. first_of (cond b (ended_at p (lowest_head (p ∷ row_before p earlier))) [] ++ frames_after (p ∷ earlier) ps) ≡ Some f → f.last < m)
    (λ tail. by_option (lowest_head (p ∷ row_before p earlier)) (λ o. first_of (ended_at p o ++ frames_after (p ∷ earlier) ps) ≡ Some f → f.last < m)
    (λ none h. frame_under ps (p ∷ earlier) m f a.1 h)
    (λ n is h. let frame : CompleteFrame = record { first = n; last = number_of p } in let e : frame ≡ f = cc in let l : number_of p ≡ f.last = ap
    (λ (x : CompleteFrame). x.last) e in omega (arith, a.0, l)))
    (λ no h. frame_under ps (p ∷ earlier) m f a.1 h)
    h

first_cases : (xs ys : List CompleteFrame) (f : CompleteFrame) → first_of (xs ++ ys) ≡ Some f → (first_of xs ≡ Some f) ⊎ (first_of ys ≡ Some f)
first_cases [] ys f h = inr h
first_cases (x ∷ xs) ys f h = inl h

-- if a range from a first packet to a last one is held, the lowest frame is below it, or ends with it
pub lowest_frame : (below row rest : List Held) (first last : ℕ) (time : Time) (f : CompleteFrame) → Rises (below ++ (row ++ rest)) → IsRun first last time row → BeginsWithHead row
    → first_of (frames (below ++ (row ++ rest))) ≡ Some f → (f.last < first) ⊎ ((f.last ≡ last) × (f.first ≤ first))
lowest_frame below row rest first last time f r run begins h =
    elim (first_cases (frames_after [] below) (frames_after (reverse below ++ []) (row ++ rest)) f (ap first_of (sym (frames_append [] below (row ++ rest))) ∙ h)) [
      | inl early ↦ inl (frame_under below [] first f (under_run below row rest first last time run r) early)
      | inr here ↦
          let found = row_first row rest (reverse below ++ []) first last time run begins in
          let frame : CompleteFrame = record { first = found.0; last = last } in
          let e : frame ≡ f = cc (found.1, here) in
          inr (sym (ap (λ (x : CompleteFrame). x.last) e), omega (arith, found.2, ap (λ (x : CompleteFrame). x.first) e))
    ]

-- the packets of a unit among all
pub unit_at : (units : List SentUnit) (place : ℕ) (u : SentUnit) → slice_get units place ≡ Some u → drop (packets_before place units) (packets_of units) ≡ u.packets
    ++ packets_of (drop (place + 1) units)
unit_at [] place u h = absurd (cc)
unit_at (v ∷ us) zero u h = let e : v ≡ u = cc in rw e refl
unit_at (v ∷ us) (suc place) u h =
    ap (λ (n : ℕ). drop n (v.packets ++ packets_of us)) (length-append v.packets (packets_of (take place us)))
    ∙ drop-append-add v.packets (packets_of us) (packets_before place us) ∙ rw add-one (rw add-one at (unit_at us place u h))

numbered_drop : (n k : ℕ) (ps : List Packet) → AreNumbered n ps → AreNumbered (n + k) (drop k ps)
numbered_drop n zero ps a = let z : n ≡ n + 0 = omega arith in subst (λ (m : ℕ). AreNumbered m ps) z a
numbered_drop n (suc k) [] a = tt
numbered_drop n (suc k) (p ∷ ps) a = let e : n + 1 + k ≡ n + suc k = omega arith in subst (λ (m : ℕ). AreNumbered m (drop k ps)) e (numbered_drop (n + 1) k ps a.1)

timed_at : (units : List SentUnit) (place : ℕ) (u : SentUnit) → AllOneTime units → slice_get units place ≡ Some u → (time : ℕ) × HasTime time u.packets
timed_at [] place u l h = absurd (cc)
timed_at (v ∷ us) zero u l h = let e : v ≡ u = cc in subst (λ (w : SentUnit). (time : ℕ) × HasTime time w.packets) e l.0
timed_at (v ∷ us) (suc place) u l h = timed_at us place u l.1 h

pub some_packets : (c : Setting) (ps : List Packet) → EndsWithTail c.kind ps → 0 < length ps
some_packets c [] e = absurd e
some_packets c (p ∷ ps) e = omega arith

module _ (c : Setting) where
  abbrev Row : ℕ → List Packet → List Held → Type 0
  Row k xs row = Exact c.known c.clock_rate c.kind c.faithful k xs row

  sent_as : (k : ℕ) (x : Packet) (h : Held) → IsPush c h → number_of h ≡ c.first + k → slice_get (packets_of c.units) k ≡ Some x → c.known k x h.meta × (h ≡ held_as c.kind h.meta x.payload)
  sent_as k x h i number at =
      let same : i.0 ≡ k = omega (arith, number_of_sent c.known c.clock_rate c.first c.kind c.faithful c.splits c.units c.lawful c.numbered h i, number) in
      let found : slice_get (packets_of c.units) k ≡ Some i.1 = subst (λ (j : ℕ). slice_get (packets_of c.units) j ≡ Some i.1) same i.2 in
      let e : i.1 ≡ x = cc in
      (subst (λ (q : Packet). c.known k q h.meta) e (subst (λ (j : ℕ). c.known j i.1 h.meta) same i.3), subst (λ (q : Packet). h ≡ held_as c.kind h.meta q.payload) e i.4)

  -- the packets of n indices from k on are held
  abbrev HoldsAll : ℕ → ℕ → List Held → Type 0
  HoldsAll k n hs = (j : ℕ) → k ≤ j → j < k + n → has_number (c.first + j) hs ≡ true

  row_here : (k : ℕ) (x : Packet) (xs more : List Packet) (h : Held) (hs : List Held) → drop k (packets_of c.units) ≡ x ∷ (xs ++ more) → Rises (h ∷ hs)
      → ArePushes c (h ∷ hs) → number_of h ≡ c.first + k → HoldsAll k (length (x ∷ xs)) (h ∷ hs)
      → (row rest : List Held) × (h ∷ hs ≡ row ++ rest) × Row k (x ∷ xs) row
  row_here k x [] more h hs at r sent number holds =
      let next = drop_next (packets_of c.units) k x more at in
      let is = sent_as k x h sent.0 number next.0 in
      (h ∷ [], hs, refl, (is.0, is.1, tt))
  row_here k x (y ∷ ys) more h [] at r sent number holds =
      let has = holds (k + 1) (omega arith) (omega arith) in
      let gone = later_number (c.first + (k + 1)) h [] (omega (arith, number)) has in
      false_true gone
  row_here k x (y ∷ ys) more h (g ∷ gs) at r sent number holds =
      let next = drop_next (packets_of c.units) k x (y ∷ ys ++ more) at in
      let is = sent_as k x h sent.0 number next.0 in
      let on : HoldsAll (k + 1) (length (y ∷ ys)) (g ∷ gs) = λ j low high. later_number (c.first + j) h (g ∷ gs) (omega (arith, number, low)) (holds j (omega (arith, low)) (omega (arith, high))) in
      let has = on (k + 1) (omega arith) (omega arith) in
      let there : number_of g ≡ c.first + (k + 1) = elim (cases_lt (c.first + (k + 1)) (number_of g)) [
        | inl over ↦ false_true (sym (absent_below (c.first + (k + 1)) g gs over r.1.0) ∙ has)
        | inr at_most ↦ omega (arith, r.0.0, number, at_most)
      ] in
      let rest = row_here (k + 1) y ys more g gs next.1 r.1 sent.1 there on in
      (h ∷ rest.0, rest.1, ap (λ (zs : List Held). h ∷ zs) rest.2, (is.0, is.1, rest.3))

  record IsRowIn (k : ℕ) (xs : List Packet) (hs : List Held) : Type 0 where
    below : List Held
    row : List Held
    rest : List Held
    whole : hs ≡ below ++ (row ++ rest)
    exact : Row k xs row

  row_in : (k : ℕ) (x : Packet) (xs more : List Packet) (hs : List Held) → drop k (packets_of c.units) ≡ x ∷ (xs ++ more) → Rises hs → ArePushes c hs
      → HoldsAll k (length (x ∷ xs)) hs → IsRowIn k (x ∷ xs) hs
  row_in k x xs more [] at r sent holds = let has = holds k (omega arith) (omega arith) in false_true has
  row_in k x xs more (h ∷ hs) at r sent holds = elim (cases_lt (number_of h) (c.first + k)) [
    | inl low ↦
        let rest = row_in k x xs more hs at r.1 sent.1 (λ j from to. later_number (c.first + j) h hs (omega (arith, low, from)) (holds j from to)) in
        record { below = h ∷ rest.below; row = rest.row; rest = rest.rest; whole = ap (λ (zs : List Held). h ∷ zs) rest.whole; exact = rest.exact }
    | inr ge ↦
        let has = holds k (omega arith) (omega arith) in
        let here : number_of h ≡ c.first + k = elim (cases_lt (c.first + k) (number_of h)) [
          | inl over ↦ false_true (sym (absent_below (c.first + k) h hs over r.0) ∙ has)
          | inr at_most ↦ omega (arith, ge, at_most)
        ] in
        let found = row_here k x xs more h hs at r sent here holds in
        record { below = []; row = found.0; rest = found.1; whole = found.2; exact = found.3 }
  ]

  row_of : (k : ℕ) (xs more : List Packet) (hs : List Held) → 0 < length xs → drop k (packets_of c.units) ≡ xs ++ more → Rises hs → ArePushes c hs → HoldsAll k (length xs) hs → IsRowIn k xs hs
  row_of k [] more hs some at r sent holds = absurd (omega (arith, some))
  row_of k (x ∷ xs) more hs some at r sent holds = row_in k x xs more hs at r sent holds

  -- a unit that is held whole
  pub record IsUnitIn (place : ℕ) (u : SentUnit) (hs : List Held) (last : ℕ) : Type 0 where
    pub below : List Held
    pub row : List Held
    pub rest : List Held
    pub whole : hs ≡ below ++ (row ++ rest)
    pub time : Time
    pub run : IsRun (c.first + packets_before place c.units) last time row
    pub begins : BeginsWithHead row

  pub unit_in : (place : ℕ) (u : SentUnit) (s : State) (last : ℕ) → slice_get c.units place ≡ Some u → Rises s.held → ArePushes c s.held
      → IsHeldWhole c.first c.units place s → last + 1 ≡ c.first + packets_before (place + 1) c.units → IsUnitIn place u s.held last
  unit_in place u s last at r sent whole l =
      let law = lawful_at c.kind c.splits c.units place u c.lawful at in
      let times = timed_at c.units place u c.one_time at in
      let k = packets_before place c.units in
      let size : packets_before (place + 1) c.units ≡ k + length u.packets = before_next c.units place u at in
      let part = unit_at c.units place u at in
      let found = row_of k u.packets (packets_of (drop (place + 1) c.units)) s.held (some_packets c u.packets law.ends) part r sent
      (λ j low high. whole (c.first + j) (record { from = omega (arith, low); to = omega (arith, high, size) })) in
      let numbers = numbered_front (c.first + k) u.packets (packets_of (drop (place + 1) c.units)) (subst (AreNumbered (c.first + k)) part (numbered_drop c.first k (packets_of c.units) c.numbered)) in
      record {
        below = found.below;
        row = found.row;
        rest = found.rest;
        whole = found.whole;
        time = held_time c.known c.clock_rate c.kind c.faithful times.0;
        run = run_of_exact c.known c.clock_rate c.kind c.faithful k (c.first + k) times.0 u.packets found.row law.ends times.1 numbers found.exact last (omega (arith, l, size));
        begins = begins_of_exact c.known c.clock_rate c.kind c.faithful k u.packets found.row law.starts found.exact;
      }
