-- A released unit is contiguous exactly if its first number follows the last number of the previous one, or it is the first and
-- nothing was evicted before it.
use Rattle.std.proofs.Common.{◌≡◌, ◌∙◌, refl, sym, ap, ℕ, subst, List, [], Option, Some, None, Ok, Err, Bool, true}
use Rattle.std.proofs.Common.{false, ◌++◌, ◌+◌, ◌-◌, ◌∷◌, ◌<◌, ◌≤◌, ◌⊎◌, arith, length, inl, inr, ◌||◌, ◌&&◌, not, eqb}
use Rattle.std.specs.Prelude.{IsTrue, ◌↔◌}
use Rattle.std.proofs.lemmas.Bool.Decides.{nat_tests}
use Rattle.std.proofs.lemmas.List.{take-append-drop}
use Rattle.codec_payload_base.specs.Time.{Time}
use Rattle.codec_payload_buffer.proofs.FrameParts.{IsRun}
use Rattle.codec_payload_buffer.proofs.MemberLemmas.{IsIn, KeysAbove, KeysRise}
use Rattle.codec_payload_buffer.proofs.PopLemmas.{part_due}
use Rattle.codec_payload_buffer.proofs.RowLemmas.{part_between, run_first, first_above, above_all}
use Rattle.codec_payload_buffer.proofs.StretchLemmas.{range_rises, in_range}
use Rattle.codec_payload_buffer_runs.proofs.order.TakenLemmas.{IsPlain, stays_plain, follows_plainly}
use Rattle.codec_payload_buffer_runs.proofs.order.TurnLemmas.{Setting, Beyond, count, IsSpan, IsPop, waits, releases, Chain, IsReady, or_cases, span_left, span_ready, ready_pops, left_ready}
use Rattle.codec_payload_buffer.specs.Held.{Held, number_of, Rises, AllAbove, IsAboveCutoff, has_number, between}
use Rattle.codec_payload_buffer_runs.specs.Log.{Stretch, Turn}
use Rattle.codec_payload_metadata.specs.Release.{Release}
use Rattle.codec_payload_buffer_runs.specs.RunOrder.{numbers_in, first_number, last_number, FollowsAsSaid, last_released, has_evicted, AllFollowAsSaid}
use Rattle.codec_payload_buffer_runs.specs.Schedule.{Answer}
use Rattle.codec_payload_buffer.specs.Steps.{State, Releases, due_of, follows, starts_right_after, is_at_most, metas_of}
use Rattle.codec_payload_buffer.specs.Stretches.{counts, stretch_numbers, last_or, is_some_of, left_out, kept, IsLeft}
use Rattle.codec_payload_buffer.specs.declared.buffer.frames.CompleteFrame.{CompleteFrame}

iff_of : (b : Bool) (P : Type 0) → (b ≡ true → P) → (P → b ≡ true) → IsTrue b ↔ P
iff_of b P to from = (to, from)

-- lists of numbers that rise
abbrev Rise : List ℕ → Type 0
Rise ns = KeysRise (λ (m : ℕ). m) ns

abbrev Over : ℕ → List ℕ → Type 0
Over n ns = KeysAbove (λ (m : ℕ). m) n ns

over_front : (n : ℕ) (xs ys : List ℕ) → Over n (xs ++ ys) → Over n xs
over_front n [] ys a = tt
over_front n (x ∷ xs) ys a = (a.0, over_front n xs ys a.1)

rise_front : (xs ys : List ℕ) → Rise (xs ++ ys) → Rise xs
rise_front [] ys r = tt
rise_front (x ∷ xs) ys r = (over_front x xs ys r.0, rise_front xs ys r.1)

over_all : (n : ℕ) (ns : List ℕ) → ((m : ℕ) → IsIn m ns → n < m) → Over n ns
over_all n [] each = tt
over_all n (m ∷ ms) each = (each m (inl refl), over_all n ms (λ k is. each k (inr is)))

-- each number is above the cutoff, if there is one
abbrev OverCutoff : Option ℕ → List ℕ → Type 0
OverCutoff None ns = Unit {0}
OverCutoff (Some n) ns = Over n ns

-- the cutoff is a number above n
abbrev IsPast : ℕ → Option ℕ → Type 0
IsPast n cutoff = (m : ℕ) × (cutoff ≡ Some m) × (n < m)

-- the end of the latest released unit, and whether packets were evicted by now: with none evicted the cutoff is that number, with
-- one evicted a packet above it was evicted
abbrev pub IsTracked : Option ℕ → Bool → State → Type 0
IsTracked None evicted s = (s.evicted ≡ evicted) × (s.evicted ≡ false → s.cutoff ≡ None)
IsTracked (Some n) evicted s = (s.evicted ≡ false → s.cutoff ≡ Some n) × (s.evicted ≡ true → IsPast n s.cutoff)

last_least : (q : ℕ) (low : List ℕ) → Rise (q ∷ low) → (m : ℕ) × (last_or low (Some q) ≡ Some m) × (q ≤ m)
last_least q [] r = (q, refl, omega arith)
last_least q (p ∷ low) r = let rest = last_least p low r.1 in (rest.0, rest.1, omega (arith, r.0.0, rest.2))

above_first : (n : ℕ) (cutoff : Option ℕ) (q : ℕ) (rest : List ℕ) → IsPast n cutoff ⊎ (cutoff ≡ Some n) → OverCutoff cutoff (q ∷ rest) → n < q
above_first n None q rest known a = elim known [ inl b ↦ absurd (cc) | inr e ↦ absurd (cc) ]
above_first n (Some m) q rest known a = elim known [ inl b ↦ let e : m ≡ b.0 = cc in omega (arith, a.0, b.2, e) | inr e ↦ let same : m ≡ n = cc in omega (arith, a.0, same) ]

known_of : (n : ℕ) (mark : Bool) (cutoff : Option ℕ) → (mark ≡ false → cutoff ≡ Some n) → (mark ≡ true → IsPast n cutoff) → IsPast n cutoff ⊎ (cutoff ≡ Some n)
known_of n true cutoff clear set = inl (set refl)
known_of n false cutoff clear set = inr (clear refl)

clash : true ≡ false → ⊥
clash h = cc

-- the lowest packets are left out
tracked_out : (last : Option ℕ) (evicted : Bool) (s t : State) (low high : List ℕ) → Rise (low ++ high) → OverCutoff s.cutoff (low ++ high)
    → t.cutoff ≡ last_or low s.cutoff → t.evicted ≡ (is_some_of low || s.evicted) → IsTracked last evicted s → IsTracked last (is_some_of low || evicted) t
tracked_out None evicted s t [] high r a cutoff mark known = (mark ∙ known.0, λ clear. cutoff ∙ known.1 (sym mark ∙ clear))
tracked_out (Some n) evicted s t [] high r a cutoff mark known = (λ clear. cutoff ∙ known.0 (sym mark ∙ clear), λ set. let b = known.1 (sym mark ∙ set) in (b.0, cutoff ∙ b.1, b.2))
tracked_out None evicted s t (q ∷ low) high r a cutoff mark known = (mark, λ clear. absurd (clash (sym mark ∙ clear)))
tracked_out (Some n) evicted s t (q ∷ low) high r a cutoff mark known =
    let m = last_least q low (rise_front (q ∷ low) high r) in
    let over = above_first n s.cutoff q (low ++ high) (known_of n s.evicted s.cutoff known.0 known.1) a in
    (λ clear. absurd (clash (sym mark ∙ clear)), λ set. (m.0, cutoff ∙ m.1, omega (arith, over, m.2)))

tracked_left : (last : Option ℕ) (evicted : Bool) (s t : State) (ns : List ℕ) → Rise ns → OverCutoff s.cutoff ns → IsLeft s ns t → IsTracked last evicted s
    → IsTracked last (is_some_of (left_out s ns) || evicted) t
tracked_left last evicted s t ns r a left known =
    let whole = take-append-drop (length ns - s.limit) ns in
    tracked_out last evicted s t (left_out s ns) (kept s ns) (subst Rise (sym whole) r) (subst (OverCutoff s.cutoff) (sym whole) a) left.cutoff left.evicted known

-- the numbers that count in a stretch are above the cutoff
above_held : (n c : ℕ) (hs : List Held) → AllAbove c hs → has_number n hs ≡ true → c < n
above_held n c [] a h = absurd (cc)
above_held n c (p ∷ ps) a h = elim (or_cases (eqb (number_of p) n) (has_number n ps) h) [
  | inl here
      ↦ (let over = a.0 in grind (arith, nat_tests, here, over))
  | inr later ↦ above_held n c ps a.1 later
]

and_left : (a b : Bool) → (a && b) ≡ true → a ≡ true
and_left true b h = refl
and_left false b h = absurd (cc)

counts_above : (s : State) (ps : List Held) (c n : ℕ) → s.cutoff ≡ Some c → IsAboveCutoff s.cutoff s.held → counts s ps n ≡ true → c < n
counts_above s ps c n at a h = elim (or_cases (has_number n s.held) (not (is_at_most s.cutoff n) && has_number n ps) h) [
  | inl held ↦ above_held n c s.held (subst (λ (o : Option ℕ). IsAboveCutoff o s.held) at a) held
  | inr pushed ↦
      let free : not (is_at_most (Some c) n) ≡ true = ap (λ (o : Option ℕ). not (is_at_most o n)) (sym at) ∙ and_left (not (is_at_most s.cutoff n)) (has_number n ps) pushed in
      grind (arith, nat_tests, free)
]

over_cutoff : (s : State) (ps : List Held) (low many : ℕ) → IsAboveCutoff s.cutoff s.held → (o : Option ℕ) → s.cutoff ≡ o → OverCutoff o (stretch_numbers s ps low many)
over_cutoff s ps low many a None at = tt
over_cutoff s ps low many a (Some c) at = over_all c _ (λ n is. counts_above s ps c n at a (in_range (counts s ps) n low many is))

-- the numbers of a release
pub first_of_run : (ps : List Held) (first last : ℕ) (time : Time) → IsRun first last time ps → first_number (metas_of ps) ≡ first
first_of_run [] first last time run = absurd run
first_of_run (p ∷ ps) first last time run = run_first p ps first last time run

last_of_run : (ps : List Held) (first last n : ℕ) (time : Time) → IsRun first last time ps → last_number n (metas_of ps) ≡ last
last_of_run [] first last n time run = absurd run
last_of_run (p ∷ []) first last n time run = run.1
last_of_run (p ∷ q ∷ ps) first last n time run = last_of_run (q ∷ ps) (first + 1) last (number_of p) time run.3

higher_of : (cutoff : Option ℕ) (before packets after : List Held) (first last n : ℕ) (time : Time) → IsRun first last time packets
    → IsAboveCutoff cutoff (before ++ (packets ++ after)) → cutoff ≡ Some n → n < first
higher_of None before packets after first last n time run a e = absurd (cc)
higher_of (Some d) before packets after first last n time run a e = let same : d ≡ n = cc in omega
    (arith, same, first_above d packets after first last time run (above_all d before (packets ++ after) a))

-- the frame that is due lies above the cutoff
pub due_higher : (s : State) (f : CompleteFrame) → IsAboveCutoff s.cutoff s.held → due_of s ≡ Some f → (n : ℕ) → s.cutoff ≡ Some n → n < f.first
due_higher s f beyond due n e =
    let found = part_due s f due in
    let part = found.2 in
    higher_of s.cutoff part.before found.0 found.1 f.first f.last n part.time part.run (subst (IsAboveCutoff s.cutoff) part.whole beyond) e

pub record HasNumbers (s : State) (f : CompleteFrame) (r : Release) : Type 0 where
  pub first : first_number r.metas ≡ f.first
  pub last : last_number 0 r.metas ≡ f.last
  pub higher : (n : ℕ) → s.cutoff ≡ Some n → n < f.first

pub numbers_of : (s t : State) (r : Release) → Rises s.held → IsAboveCutoff s.cutoff s.held → (out : Releases s r t) → HasNumbers s out.frame r
numbers_of s t r rises beyond out =
    let f = out.frame in
    let found = part_due s f out.is_due in
    let part = found.2 in
    let split = part_between part.before found.0 found.1 f.first f.last part.time part.run (subst Rises part.whole rises) in
    let metas : r.metas ≡ metas_of found.0 = out.metas ∙ ap (λ hs. metas_of (between f.first f.last hs)) part.whole ∙ ap metas_of split.inside in
    record {
      first = ap first_number metas ∙ first_of_run found.0 f.first f.last part.time part.run;
      last = ap (last_number 0) metas ∙ last_of_run found.0 f.first f.last 0 part.time part.run;
      higher = due_higher s f beyond out.is_due;
    }

follows_first : (cutoff : Option ℕ) (mark evicted : Bool) (first : ℕ) → mark ≡ evicted → (mark ≡ false → cutoff ≡ None) → IsTrue (starts_right_after cutoff first && not mark) ↔ (evicted ≡ false)
follows_first None true evicted first same clear = iff_of _ _ (λ h. absurd (cc)) (λ h. absurd (cc))
follows_first None false evicted first same clear = iff_of _ _ (λ h. sym same) (λ h. refl)
follows_first (Some c) true evicted first same clear = iff_of _ _ (λ h. grind (arith, nat_tests, h)) (λ h. absurd (cc))
follows_first (Some c) false evicted first same clear = let e : Some c ≡ None = clear refl in absurd (cc)

follows_next : (cutoff : Option ℕ) (mark : Bool) (n first : ℕ) → (mark ≡ false → cutoff ≡ Some n) → (mark ≡ true → IsPast n cutoff)
    → ((c : ℕ) → cutoff ≡ Some c → c < first) → IsTrue (starts_right_after cutoff first && not mark) ↔ (first ≡ n + 1)
follows_next cutoff true n first clear set higher =
    let b = set refl in
    let over : b.0 < first = higher b.0 b.1 in
    iff_of _ _ (λ h. absurd (no_and (starts_right_after cutoff first) h)) (λ h. absurd (omega (arith, over, b.2, h)))
  where
    no_and : (b : Bool) → (b && false) ≡ true → ⊥
    no_and true h = cc
    no_and false h = cc
follows_next cutoff false n first clear set higher = rw (clear refl) (iff_of _ _ (λ h. grind (arith, nat_tests, h)) (λ h. grind (arith, nat_tests, h)))

follows_of : (last : Option ℕ) (evicted : Bool) (s t : State) (r : Release) → Rises s.held → IsAboveCutoff s.cutoff s.held → IsTracked last evicted s
    → (out : Releases s r t) → r.contiguous ≡ follows s out.frame → FollowsAsSaid last evicted (Some (Ok r))
follows_of None evicted s t r rises beyond known out same = rw same (follows_first s.cutoff s.evicted evicted out.frame.first known.0 known.1)
follows_of (Some n) evicted s t r rises beyond known out same =
    let numbers = numbers_of s t r rises beyond out in
    rw (same, numbers.first) (follows_next s.cutoff s.evicted n out.frame.first known.0 known.1 numbers.higher)

tracked_released : (last : Option ℕ) (evicted : Bool) (s t : State) (r : Release) → Rises s.held → IsAboveCutoff s.cutoff s.held → Releases s r t
    → IsTracked (last_released last (Some (Ok r))) evicted t
tracked_released last evicted s t r rises beyond out =
    let numbers = numbers_of s t r rises beyond out in
    let cutoff : t.cutoff ≡ Some out.frame.last = ap (λ (x : State). x.cutoff) out.left in
    let clear : t.evicted ≡ false = ap (λ (x : State). x.evicted) out.left in
    (λ h. cutoff ∙ ap Some (sym numbers.last), λ set. absurd (cc))

module _ (c : Setting) where
  pub tracked_span : (from : ℕ) (last : Option ℕ) (evicted : Bool) (w : Stretch) → IsReady c from w.left → IsSpan c w → IsTracked last evicted w.left
      → IsTracked last (has_evicted c.first (count c) evicted w) w.now
  tracked_span from last evicted w ready is known =
      tracked_left last evicted w.left w.now (numbers_in c.first (count c) w) (range_rises (counts w.left w.pushes) c.first (count c))
      (over_cutoff w.left w.pushes c.first (count c) ready.beyond.beyond w.left.cutoff refl) (span_left c from w ready is) known

  pub at_pop : (from : ℕ) (last : Option ℕ) (evicted : Bool) (s t : State) (over : List CompleteFrame) (a : Answer) → IsPlain c → Beyond c from s → IsTracked last evicted s → IsPop c s t over a
      → FollowsAsSaid last evicted a × IsTracked (last_released last a) evicted t
  at_pop from last evicted s t over None plain beyond known (waits passes nothing) = (tt, subst (IsTracked last evicted) (sym (stays_plain c from s t over beyond plain passes).0) known)
  at_pop from last evicted s t over (Some (Ok r)) plain beyond known (releases mid passes out) =
      let here : Releases s r t = subst (λ (x : State). Releases x r t) (stays_plain c from s mid over beyond plain passes).0 out in
      let same = here.contiguous ∙ follows_plainly c from s here.frame beyond here.is_due plain _ here.depacketizer here.gives (follows s here.frame) in
      (follows_of last evicted s t r beyond.rises beyond.beyond known here same, tracked_released last evicted s t r beyond.rises beyond.beyond here)
  at_pop from last evicted s t over (Some (Err fault)) plain beyond known pop = elim pop [ ]

  pub all_follow : (from : ℕ) (last : Option ℕ) (evicted : Bool) (s : State) (turns : List Turn) (end : Stretch) → IsPlain c → IsReady c from s → IsTracked last evicted s → Chain c s turns end
      → AllFollowAsSaid c.first (count c) last evicted turns
  all_follow from last evicted s [] end plain ready known chain = tt
  all_follow from last evicted s (turn ∷ turns) end plain ready known chain =
      let left = left_ready c from s turn.stretch chain.0 ready in
      let now = span_ready c from turn.stretch left chain.1 in
      let by_now = has_evicted c.first (count c) evicted turn.stretch in
      let tracked = tracked_span from last evicted turn.stretch left chain.1 (subst (IsTracked last evicted) (sym chain.0) known) in
      let step = at_pop from last by_now turn.stretch.now turn.after turn.passed turn.answer plain now.beyond tracked chain.2 in
      let next = ready_pops c from turn.stretch.now turn.after turn.passed turn.answer now chain.2 in
      (step.0, all_follow next.0 (last_released last turn.answer) by_now turn.after turns end plain next.1 step.1 chain.3)
