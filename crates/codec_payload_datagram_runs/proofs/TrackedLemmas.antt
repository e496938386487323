-- A released unit is contiguous exactly if its first number follows the last number of the previous one, or it is the first and
-- nothing was evicted before it: at a buffer with packets of any parts, none of which has picture ids.
use Rattle.std.proofs.Common.{◌≡◌, ◌∙◌, refl, sym, ap, ℕ, subst, List, [], Option, Some, None, Ok, Err, Bool, true}
use Rattle.std.proofs.Common.{false, ◌++◌, ◌+◌, ◌-◌, ◌∷◌, ◌<◌, ◌≤◌, ◌⊎◌, arith, length, inl, inr, ◌||◌, ◌&&◌, not, eqb}
use Rattle.std.specs.Prelude.{IsTrue, ◌↔◌}
use Rattle.std.proofs.lemmas.Bool.Decides.{nat_tests}
use Rattle.std.proofs.lemmas.List.{take-append-drop}
use Rattle.codec_payload_buffer.proofs.MemberLemmas.{IsIn, KeysAbove, KeysRise}
use Rattle.codec_payload_buffer.proofs.StretchLemmas.{in_range, range_rises}
use Rattle.codec_payload_buffer.specs.Held.{AllAbove, Held, IsAboveCutoff, Rises, has_number, number_of}
use Rattle.codec_payload_metadata.specs.Release.{Release}
use Rattle.codec_payload_buffer.specs.Steps.{Gives, Passes, Releases, State, Unpacked, due_of, follows, is_at_most, none, one_more, starts_right_after}
use Rattle.codec_payload_buffer.specs.Stretches.{IsLeft, counts, is_some_of, kept, last_or, left_out, stretch_numbers}
use Rattle.codec_payload_buffer.specs.declared.buffer.frames.CompleteFrame.{CompleteFrame}
use Rattle.codec_payload_contiguity.specs.declared.contiguity.Contiguity.{Contiguity}
use Rattle.codec_payload_codec.specs.BaseLayers.{lacks_base}
use Rattle.codec_payload_codec.specs.Depacketizers.{DepacketizerState}
use Rattle.codec_payload_buffer_runs.proofs.order.ContiguousLemmas.{IsTracked, numbers_of}
use Rattle.codec_payload_buffer_runs.proofs.order.FollowsLemmas.{checked_lacks}
use Rattle.codec_payload_buffer_runs.proofs.order.TurnLemmas.{or_cases}
use Rattle.codec_payload_buffer_runs.specs.Log.{Stretch, Turn}
use Rattle.codec_payload_buffer_runs.specs.RunOrder.{AllFollowAsSaid, FollowsAsSaid, has_evicted, last_released, numbers_in}
use Rattle.codec_payload_buffer_runs.specs.RunUnits.{NonePassedOver}
use Rattle.codec_payload_buffer_runs.specs.Schedule.{Answer}
use Rattle.codec_payload_datagram_runs.proofs.StretchChains.{AllTurns, IsFit, IsMade, IsTaken, Leaves, Linked, fit_span, releases, span_leaves, waits}

iff_of : (b : Bool) (P : Type 0) → (b ≡ true → P) → (P → b ≡ true) → IsTrue b ↔ P
iff_of b P to from = (to, from)

-- lists of numbers that rise
abbrev Rise : List ℕ → Type 0
Rise ns = KeysRise (λ (m : ℕ). m) ns

abbrev Over : ℕ → List ℕ → Type 0
Over n ns = KeysAbove (λ (m : ℕ). m) n ns

over_front : (n : ℕ) (xs ys : List ℕ) → Over n (xs ++ ys) → Over n xs
over_front n [] ys a = tt
over_front n (x ∷ xs) ys a = (a.0, over_front n xs ys a.1)

rise_front : (xs ys : List ℕ) → Rise (xs ++ ys) → Rise xs
rise_front [] ys r = tt
rise_front (x ∷ xs) ys r = (over_front x xs ys r.0, rise_front xs ys r.1)

over_all : (n : ℕ) (ns : List ℕ) → ((m : ℕ) → IsIn m ns → n < m) → Over n ns
over_all n [] each = tt
over_all n (m ∷ ms) each = (each m (inl refl), over_all n ms (λ k is. each k (inr is)))

-- each number is above the cutoff, if there is one
abbrev OverCutoff : Option ℕ → List ℕ → Type 0
OverCutoff None ns = Unit {0}
OverCutoff (Some n) ns = Over n ns

-- the cutoff is a number above n
abbrev IsPast : ℕ → Option ℕ → Type 0
IsPast n cutoff = (m : ℕ) × (cutoff ≡ Some m) × (n < m)

last_least : (q : ℕ) (low : List ℕ) → Rise (q ∷ low) → (m : ℕ) × (last_or low (Some q) ≡ Some m) × (q ≤ m)
last_least q [] r = (q, refl, omega arith)
last_least q (p ∷ low) r = let rest = last_least p low r.1 in (rest.0, rest.1, omega (arith, r.0.0, rest.2))

above_first : (n : ℕ) (cutoff : Option ℕ) (q : ℕ) (rest : List ℕ) → IsPast n cutoff ⊎ (cutoff ≡ Some n) → OverCutoff cutoff (q ∷ rest) → n < q
above_first n None q rest known a = elim known [ inl b ↦ absurd (cc) | inr e ↦ absurd (cc) ]
above_first n (Some m) q rest known a = elim known [ inl b ↦ let e : m ≡ b.0 = cc in omega (arith, a.0, b.2, e) | inr e ↦ let same : m ≡ n = cc in omega (arith, a.0, same) ]

known_of : (n : ℕ) (mark : Bool) (cutoff : Option ℕ) → (mark ≡ false → cutoff ≡ Some n) → (mark ≡ true → IsPast n cutoff) → IsPast n cutoff ⊎ (cutoff ≡ Some n)
known_of n true cutoff clear set = inl (set refl)
known_of n false cutoff clear set = inr (clear refl)

clash : true ≡ false → ⊥
clash h = cc

-- the lowest packets are left out
tracked_out : (last : Option ℕ) (evicted : Bool) (s t : State) (low high : List ℕ) → Rise (low ++ high) → OverCutoff s.cutoff (low ++ high)
    → t.cutoff ≡ last_or low s.cutoff → t.evicted ≡ (is_some_of low || s.evicted) → IsTracked last evicted s → IsTracked last (is_some_of low || evicted) t
tracked_out None evicted s t [] high r a cutoff mark known = (mark ∙ known.0, λ clear. cutoff ∙ known.1 (sym mark ∙ clear))
tracked_out (Some n) evicted s t [] high r a cutoff mark known = (λ clear. cutoff ∙ known.0 (sym mark ∙ clear), λ set. let b = known.1 (sym mark ∙ set) in (b.0, cutoff ∙ b.1, b.2))
tracked_out None evicted s t (q ∷ low) high r a cutoff mark known = (mark, λ clear. absurd (clash (sym mark ∙ clear)))
tracked_out (Some n) evicted s t (q ∷ low) high r a cutoff mark known =
    let m = last_least q low (rise_front (q ∷ low) high r) in
    let over = above_first n s.cutoff q (low ++ high) (known_of n s.evicted s.cutoff known.0 known.1) a in
    (λ clear. absurd (clash (sym mark ∙ clear)), λ set. (m.0, cutoff ∙ m.1, omega (arith, over, m.2)))

tracked_left : (last : Option ℕ) (evicted : Bool) (s t : State) (ns : List ℕ) → Rise ns → OverCutoff s.cutoff ns → IsLeft s ns t → IsTracked last evicted s
    → IsTracked last (is_some_of (left_out s ns) || evicted) t
tracked_left last evicted s t ns r a left known =
    let whole = take-append-drop (length ns - s.limit) ns in
    tracked_out last evicted s t (left_out s ns) (kept s ns) (subst Rise (sym whole) r) (subst (OverCutoff s.cutoff) (sym whole) a) left.cutoff left.evicted known

-- the numbers that count in a stretch are above the cutoff
above_held : (n c : ℕ) (hs : List Held) → AllAbove c hs → has_number n hs ≡ true → c < n
above_held n c [] a h = absurd (cc)
above_held n c (p ∷ ps) a h = elim (or_cases (eqb (number_of p) n) (has_number n ps) h) [
  | inl here
      ↦ (let over = a.0 in grind (arith, nat_tests, here, over))
  | inr later ↦ above_held n c ps a.1 later
]

and_left : (a b : Bool) → (a && b) ≡ true → a ≡ true
and_left true b h = refl
and_left false b h = absurd (cc)

counts_above : (s : State) (ps : List Held) (c n : ℕ) → s.cutoff ≡ Some c → IsAboveCutoff s.cutoff s.held → counts s ps n ≡ true → c < n
counts_above s ps c n at a h = elim (or_cases (has_number n s.held) (not (is_at_most s.cutoff n) && has_number n ps) h) [
  | inl held ↦ above_held n c s.held (subst (λ (o : Option ℕ). IsAboveCutoff o s.held) at a) held
  | inr pushed ↦
      let free : not (is_at_most (Some c) n) ≡ true = ap (λ (o : Option ℕ). not (is_at_most o n)) (sym at) ∙ and_left (not (is_at_most s.cutoff n)) (has_number n ps) pushed in
      grind (arith, nat_tests, free)
]

over_cutoff : (s : State) (ps : List Held) (low many : ℕ) → IsAboveCutoff s.cutoff s.held → (o : Option ℕ) → s.cutoff ≡ o → OverCutoff o (stretch_numbers s ps low many)
over_cutoff s ps low many a None at = tt
over_cutoff s ps low many a (Some c) at = over_all c _ (λ n is. counts_above s ps c n at a (in_range (counts s ps) n low many is))

-- A release

follows_first : (cutoff : Option ℕ) (mark evicted : Bool) (first : ℕ) → mark ≡ evicted → (mark ≡ false → cutoff ≡ None) → IsTrue (starts_right_after cutoff first && not mark) ↔ (evicted ≡ false)
follows_first None true evicted first same clear = iff_of _ _ (λ h. absurd (cc)) (λ h. absurd (cc))
follows_first None false evicted first same clear = iff_of _ _ (λ h. sym same) (λ h. refl)
follows_first (Some c) true evicted first same clear = iff_of _ _ (λ h. grind (arith, nat_tests, h)) (λ h. absurd (cc))
follows_first (Some c) false evicted first same clear = let e : Some c ≡ None = clear refl in absurd (cc)

follows_next : (cutoff : Option ℕ) (mark : Bool) (n first : ℕ) → (mark ≡ false → cutoff ≡ Some n) → (mark ≡ true → IsPast n cutoff)
    → ((c : ℕ) → cutoff ≡ Some c → c < first) → IsTrue (starts_right_after cutoff first && not mark) ↔ (first ≡ n + 1)
follows_next cutoff true n first clear set higher =
    let b = set refl in
    let over : b.0 < first = higher b.0 b.1 in
    iff_of _ _ (λ h. absurd (no_and (starts_right_after cutoff first) h)) (λ h. absurd (omega (arith, over, b.2, h)))
  where
    no_and : (b : Bool) → (b && false) ≡ true → ⊥
    no_and true h = cc
    no_and false h = cc
follows_next cutoff false n first clear set higher = rw (clear refl) (iff_of _ _ (λ h. grind (arith, nat_tests, h)) (λ h. grind (arith, nat_tests, h)))

follows_of : (last : Option ℕ) (evicted : Bool) (s t : State) (r : Release) → Rises s.held → IsAboveCutoff s.cutoff s.held → IsTracked last evicted s
    → (out : Releases s r t) → r.contiguous ≡ follows s out.frame → FollowsAsSaid last evicted (Some (Ok r))
follows_of None evicted s t r rises beyond known out same = rw same (follows_first s.cutoff s.evicted evicted out.frame.first known.0 known.1)
follows_of (Some n) evicted s t r rises beyond known out same =
    let numbers = numbers_of s t r rises beyond out in
    rw (same, numbers.first) (follows_next s.cutoff s.evicted n out.frame.first known.0 known.1 numbers.higher)

tracked_released : (last : Option ℕ) (evicted : Bool) (s t : State) (r : Release) → Rises s.held → IsAboveCutoff s.cutoff s.held → Releases s r t
    → IsTracked (last_released last (Some (Ok r))) evicted t
tracked_released last evicted s t r rises beyond out =
    let numbers = numbers_of s t r rises beyond out in
    let cutoff : t.cutoff ≡ Some out.frame.last = ap (λ (x : State). x.cutoff) out.left in
    let clear : t.evicted ≡ false = ap (λ (x : State). x.evicted) out.left in
    (λ h. cutoff ∙ ap Some (sym numbers.last), λ set. absurd (cc))

-- Without picture ids

-- any frame that is due reports no base layer
abbrev pub IsPlainAt : State → Type 0
IsPlainAt s = (f : CompleteFrame) (unpacked : Unpacked) (e : DepacketizerState) → due_of s ≡ Some f → Gives s f (Ok unpacked) e → lacks_base unpacked.extra ≡ true

-- however many frames wait at a pop
abbrev pub IsPlainTurn : Turn → Type 0
IsPlainTurn turn = (h : ℕ) → IsPlainAt (record turn.stretch.now { hold_back = h })

-- so none is skipped
plain_passes : (s t : State) (over : List CompleteFrame) → IsPlainAt s → Passes s over t → (t ≡ s) × (over ≡ [])
plain_passes s t over plain none = (refl, refl)
plain_passes s u over plain (one_more {t = t} passes p) =
    let same : t ≡ s = (plain_passes s t _ plain passes).0 in
    let at : IsPlainAt t = subst IsPlainAt (sym same) plain in
    let may = checked_lacks t.contiguity p.unpacked.extra (follows t p.frame) (at p.frame p.unpacked p.depacketizer p.is_due p.gives) in
    let wrong : true ≡ false = sym (ap (λ (a : Bool × Bool × Contiguity). a.0) may) ∙ p.may_not in
    absurd (cc)

tracked_with : (last : Option ℕ) (gone : Bool) (s : State) (h : ℕ) → IsTracked last gone s → IsTracked last gone (record s { hold_back = h })
tracked_with None gone s h known = known
tracked_with (Some n) gone s h known = known

module _ (P : Held → Type 0) where
  taken_follows : (last : Option ℕ) (gone : Bool) (s t : State) (over : List CompleteFrame) (a : Answer) → IsPlainAt s → IsFit P s → IsTracked last gone s → IsTaken s t over a
      → (over ≡ []) × FollowsAsSaid last gone a × IsTracked (last_released last a) gone t
  taken_follows last gone s t over None plain fit known (waits passes nothing) =
      let stays = plain_passes s t over plain passes in
      (stays.1, tt, subst (IsTracked last gone) (sym stays.0) known)
  taken_follows last gone s t over (Some (Ok r)) plain fit known (releases mid passes out) =
      let stays = plain_passes s mid over plain passes in
      let here : Releases s r t = subst (λ (x : State). Releases x r t) stays.0 out in
      let lacks = plain here.frame (record { bytes = r.bytes; extra = r.codec_extra }) here.depacketizer here.is_due here.gives in
      let same : r.contiguous ≡ follows s here.frame =
      here.contiguous ∙ ap (λ (a : Bool × Bool × Contiguity). a.1) (checked_lacks s.contiguity r.codec_extra (follows s here.frame) lacks) in
      (stays.1, follows_of last gone s t r fit.sound.rises fit.sound.above known here same, tracked_released last gone s t r fit.sound.rises fit.sound.above here)
  taken_follows last gone s t over (Some (Err fault)) plain fit known taken = elim taken [ ]

  made_follows : (last : Option ℕ) (gone : Bool) (s t : State) (passed : List CompleteFrame) (a : Answer) → ((h : ℕ) → IsPlainAt (record s { hold_back = h })) → IsFit P s → IsTracked last gone s
      → IsMade s t passed a → (passed ≡ []) × FollowsAsSaid last gone a × IsTracked (last_released last a) gone t
  made_follows last gone s t passed a plain fit known (inl is) =
      subst (λ (b : Answer). (passed ≡ []) × FollowsAsSaid last gone b × IsTracked (last_released last b) gone t) (sym is.1) (is.0, tt, subst (IsTracked last gone) (sym is.2) known)
  made_follows last gone s t passed a plain fit known (inr is) =
      let at : State = record s { hold_back = is.0 } in
      let fit_at : IsFit P at = record { sound = record { rises = fit.sound.rises; above = fit.sound.above; few = fit.sound.few }; each = fit.each } in
      taken_follows last gone at t passed a (plain is.0) fit_at (tracked_with last gone s is.0 known) is.1

  pub none_passed_by : (s : State) (turns : List Turn) (end : Stretch) → AllTurns IsPlainTurn turns → Linked P s turns end → NonePassedOver turns
  none_passed_by s [] end plain linked = tt
  none_passed_by s (turn ∷ turns) end plain linked =
      (made_passes turn.stretch.now turn.after turn.passed turn.answer plain.0 linked.3, none_passed_by turn.after turns end plain.1 linked.4)
    where
      made_passes : (s t : State) (passed : List CompleteFrame) (a : Answer) → ((h : ℕ) → IsPlainAt (record s { hold_back = h })) → IsMade s t passed a → passed ≡ []
      made_passes s t passed a plain (inl is) = is.0
      made_passes s t passed a plain (inr is) = by_taken a is.1
        where
          by_taken : (b : Answer) → IsTaken (record s { hold_back = is.0 }) t passed b → passed ≡ []
          by_taken None (waits passes nothing) = (plain_passes (record s { hold_back = is.0 }) t passed (plain is.0) passes).1
          by_taken (Some (Ok r)) (releases mid passes out) = (plain_passes (record s { hold_back = is.0 }) mid passed (plain is.0) passes).1
          by_taken (Some (Err fault)) taken = elim taken [ ]

  module _ (top : ℕ) (low : (p : Held) → P p → number_of p < top) where
    tracked_span : (last : Option ℕ) (gone : Bool) (w : Stretch) → IsFit P w.left → Leaves 0 top w → IsTracked last gone w.left → IsTracked last (has_evicted 0 top gone w) w.now
    tracked_span last gone w fit leaves known =
        tracked_left last gone w.left w.now (numbers_in 0 top w) (range_rises (counts w.left w.pushes) 0 top) (over_cutoff w.left w.pushes 0 top fit.sound.above w.left.cutoff refl) leaves.left known

    pub all_follow_by : (last : Option ℕ) (gone : Bool) (s : State) (turns : List Turn) (end : Stretch) → AllTurns IsPlainTurn turns → IsTracked last gone s → Linked P s turns end
        → AllFollowAsSaid 0 top last gone turns
    all_follow_by last gone s [] end plain known linked = tt
    all_follow_by last gone s (turn ∷ turns) end plain known linked =
        let w = turn.stretch in
        let by_now = has_evicted 0 top gone w in
        let tracked = tracked_span last gone w linked.1 (span_leaves P top low w linked.1 linked.2) (subst (IsTracked last gone) (sym linked.0) known) in
        let step = made_follows last by_now w.now turn.after turn.passed turn.answer plain.0 (fit_span P w linked.1 linked.2) tracked linked.3 in
        (step.1, all_follow_by (last_released last turn.answer) by_now turn.after turns end plain.1 step.2 linked.4)
