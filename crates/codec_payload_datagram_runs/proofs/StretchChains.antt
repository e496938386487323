-- Turns that follow one another, at a buffer with packets of any parts: what holds for each held packet, and the fate of packets
-- whose numbers stand together.
use Rattle.std.proofs.Common.{◌≡◌, ◌∙◌, refl, sym, ap, subst, ℕ, zero, suc, ◌+◌, ◌-◌, ◌<◌, ◌≤◌, ◌⊎◌, ◌||◌, ◌&&◌, not, inl, inr, List, [], ◌∷◌, ◌++◌, Bool, true, false, Option, Some, None, Ok, Err, arith, drop, eqb, length, take}
use Rattle.std.specs.Prelude.{Contains}
use Rattle.std.proofs.lemmas.Bool.{cases_lt}
use Rattle.std.proofs.lemmas.Bool.Decides.{nat_tests}
use Rattle.std.proofs.lemmas.List.{take-append-drop}
use Rattle.codec_payload_buffer.proofs.LeavingLemmas.{passes_sound}
use Rattle.codec_payload_buffer.proofs.MemberLemmas.{IsIn, contains_in, in_append, in_contains}
use Rattle.codec_payload_buffer.proofs.PairLemmas.{pushed_sound}
use Rattle.codec_payload_buffer.proofs.PopLemmas.{order_due, sound_left}
use Rattle.codec_payload_buffer.proofs.StretchLemmas.{in_number, leaves_numbers, range_in}
use Rattle.codec_payload_buffer.specs.Held.{Held, has_number, number_of}
use Rattle.codec_payload_metadata.specs.Release.{Release}
use Rattle.codec_payload_buffer.specs.Steps.{IsSound, Passes, Releases, State, due_of, is_at_most, none, one_more, pushed}
use Rattle.codec_payload_buffer.specs.Stretches.{IsInRange, IsLeft, after_pushes, counts}
use Rattle.codec_payload_buffer.specs.declared.buffer.frames.CompleteFrame.{CompleteFrame}
use Rattle.codec_payload_metadata.specs.declared.meta.RtpMeta.{RtpMeta}
use Rattle.codec_payload_codec.proofs.CaseLemmas.{by_test}
use Rattle.codec_payload_buffer_runs.proofs.order.ContiguousLemmas.{due_higher}
use Rattle.codec_payload_buffer_runs.proofs.order.TurnLemmas.{or_cases}
use Rattle.codec_payload_buffer_runs.proofs.order.WholeLemmas.{has_above}
use Rattle.codec_payload_buffer_runs.specs.Log.{Stretch, Turn}
use Rattle.codec_payload_buffer_runs.specs.RunOrder.{IsSentPacket, evicted_in, numbers_in, up_to}
use Rattle.codec_payload_buffer_runs.specs.RunUnits.{IsEvictedIn}
use Rattle.codec_payload_buffer_runs.specs.Schedule.{Answer}
use Rattle.codec_payload_payloader.specs.Packets.{Packet}
use Rattle.codec_payload_datagram_runs.proofs.HeldLemmas.{AllHeld, all_above, all_front, all_in, all_mapped, all_passed, all_pushed}
use Rattle.codec_payload_datagram_runs.specs.Deliveries.{ComesInTime, IsCutoffBelow}
use Rattle.codec_payload_datagram_runs.specs.RestartLogs.{AreStretchesBelow, IsOrderedBelow, IsStretchBelow}

-- Pops

-- a pop that is not refused
pub data IsTaken (s t : State) : List CompleteFrame → Answer → Type 0 where
  waits : {over : List CompleteFrame} → Passes s over t → due_of t ≡ None → IsTaken s t over None
  releases : {over : List CompleteFrame} {r : Release} → (mid : State) → Passes s over mid → Releases mid r t → IsTaken s t over (Some (Ok r))

-- a pop that is made with some `hold_back`, or is not made
abbrev pub IsMade : State → State → List CompleteFrame → Answer → Type 0
IsMade s t passed a = ((passed ≡ []) × (a ≡ None) × (t ≡ s)) ⊎ ((h : ℕ) × IsTaken (record s { hold_back = h }) t passed a)

-- the buffer is sound, and P holds for each held packet
pub record IsFit (P : Held → Type 0) (s : State) : Type 0 where
  pub sound : IsSound s
  pub each : AllHeld P s.held

module _ (P : Held → Type 0) where
  fit_with : (s : State) (h : ℕ) → IsFit P s → IsFit P (record s { hold_back = h })
  fit_with s h fit = record { sound = record { rises = fit.sound.rises; above = fit.sound.above; few = fit.sound.few }; each = fit.each }

  fit_taken : (s t : State) (over : List CompleteFrame) (a : Answer) → IsFit P s → IsTaken s t over a → IsFit P t
  fit_taken s t over None fit (waits passes nothing) = record { sound = passes_sound s t over passes fit.sound; each = all_passed P s t over fit.each passes }
  fit_taken s t over (Some (Ok r)) fit (releases mid passes out) =
      let sound = passes_sound s mid over passes fit.sound in
      record {
        sound = sound_left mid t out.frame.last sound (ap (λ (x : State). x.held) out.left) (ap (λ (x : State). x.cutoff) out.left) (ap (λ (x : State). x.limit) out.left);
        each = subst (λ (x : State). AllHeld P x.held) (sym out.left) (all_above P out.frame.last mid.held (all_passed P s mid over fit.each passes));
      }
  fit_taken s t over (Some (Err fault)) fit taken = elim taken [ ]

  pub fit_made : (s t : State) (passed : List CompleteFrame) (a : Answer) → IsFit P s → IsMade s t passed a → IsFit P t
  fit_made s t passed a fit (inl is) = subst (IsFit P) (sym is.2) fit
  fit_made s t passed a fit (inr is) = fit_taken (record s { hold_back = is.0 }) t passed a (fit_with s is.0 fit) is.1

  fit_pushes : (s : State) (ps : List Held) → IsFit P s → AllHeld P ps → IsFit P (after_pushes s ps)
  fit_pushes s [] fit all = fit
  fit_pushes s (p ∷ ps) fit all = fit_pushes (pushed s p) ps (record { sound = pushed_sound s p fit.sound; each = all_pushed P s p all.0 fit.each }) all.1

  -- a stretch of pushes for which P holds
  pub record IsSpanOf (w : Stretch) : Type 0 where
    pub sent : AllHeld P w.pushes
    pub now : w.now ≡ after_pushes w.left w.pushes

  pub fit_span : (w : Stretch) → IsFit P w.left → IsSpanOf w → IsFit P w.now
  fit_span w fit span = subst (IsFit P) (sym span.now) (fit_pushes w.left w.pushes fit span.sent)

  -- the turns follow one another from s on
  abbrev pub Linked : State → List Turn → Stretch → Type 0
  Linked s [] end = (end.left ≡ s) × IsFit P end.left × IsSpanOf end
  Linked s (turn ∷ turns) end =
      (turn.stretch.left ≡ s) × IsFit P turn.stretch.left × IsSpanOf turn.stretch × IsMade turn.stretch.now turn.after turn.passed turn.answer × Linked turn.after turns end

  pub linked_on : (s : State) (here : List Turn) (mid : Stretch) (rest : List Turn) (end : Stretch) → Linked s here mid → Linked mid.left rest end → Linked s (here ++ rest) end
  linked_on s [] mid rest end here later = subst (λ (x : State). Linked x rest end) here.0 later
  linked_on s (turn ∷ here) mid rest end now later = (now.0, now.1, now.2, now.3, linked_on turn.after here mid rest end now.4 later)

  pub linked_end : (s : State) (turns : List Turn) (end : Stretch) → Linked s turns end → IsFit P end.left × IsSpanOf end
  linked_end s [] end linked = (linked.1, linked.2)
  linked_end s (turn ∷ turns) end linked = linked_end turn.after turns end linked.4

-- Order

has_under : (top n : ℕ) (hs : List Held) → AllHeld (λ (p : Held). number_of p < top) hs → has_number n hs ≡ true → n < top
has_under top n [] all h = absurd (cc)
has_under top n (p ∷ ps) all h = elim (or_cases (eqb (number_of p) n) (has_number n ps) h) [
  | inl here ↦ let low = all.0 in let same : number_of p ≡ n = grind (arith, nat_tests, here) in omega (arith, low, same)
  | inr later ↦ has_under top n ps all.1 later
]

and_right : (a b : Bool) → (a && b) ≡ true → b ≡ true
and_right true b h = h
and_right false b h = absurd (cc)

-- what a stretch leaves, and that its numbers are in the range
pub record Leaves (low count : ℕ) (w : Stretch) : Type 0 where
  pub within : IsInRange w.left w.pushes low count
  pub left : IsLeft w.left (numbers_in low count w) w.now

-- the same along the turns
abbrev pub LeaveAll : (low count : ℕ) → State → List Turn → Stretch → Type 0
LeaveAll low count s [] end = (end.left ≡ s) × Leaves low count end
LeaveAll low count s (turn ∷ turns) end = (turn.stretch.left ≡ s) × Leaves low count turn.stretch × LeaveAll low count turn.after turns end

module _ (P : Held → Type 0) (top : ℕ) (low : (p : Held) → P p → number_of p < top) where
  span_range : (w : Stretch) → IsFit P w.left → IsSpanOf P w → IsInRange w.left w.pushes 0 top
  span_range w fit span n h = elim (or_cases (has_number n w.left.held) (not (is_at_most w.left.cutoff n) && has_number n w.pushes) h) [
    | inl held ↦ (omega arith, let l = has_under top n w.left.held (all_mapped P (λ (p : Held). number_of p < top) low w.left.held fit.each) held in omega (arith, l))
    | inr new ↦ (
      omega arith,
      let l = has_under top n w.pushes (all_mapped P (λ (p : Held). number_of p < top) low w.pushes span.sent) (and_right (not (is_at_most w.left.cutoff n)) (has_number n w.pushes) new) in
          omega (arith, l),
    )
  ]

  pub span_leaves : (w : Stretch) → IsFit P w.left → IsSpanOf P w → Leaves 0 top w
  span_leaves w fit span =
      let within = span_range w fit span in
      record { within = within; left = subst (IsLeft w.left (numbers_in 0 top w)) (sym span.now) (leaves_numbers w.left w.pushes 0 top fit.sound within) }

  pub linked_leaves : (s : State) (turns : List Turn) (end : Stretch) → Linked P s turns end → LeaveAll 0 top s turns end
  linked_leaves s [] end linked = (linked.0, span_leaves end linked.1 linked.2)
  linked_leaves s (turn ∷ turns) end linked = (linked.0, span_leaves turn.stretch linked.1 linked.2, linked_leaves turn.after turns end linked.4)

  module _ (known : ℕ → Packet → RtpMeta → Type 0) (packets : List Packet) (sent : (p : Held) → P p → IsSentPacket known packets p) where
    stretch_below : (w : Stretch) → IsFit P w.left → IsSpanOf P w → IsStretchBelow known top packets w
    stretch_below w fit span =
        let leaves = span_leaves w fit span in
        record { below = leaves.within; numbers = leaves.left; each = λ p is. sent p (all_in P w.now.held (fit_span P w fit span).each p (in_contains p w.now.held is)) }

    ordered_below : (w : Stretch) → IsFit P w.left → IsSpanOf P w → IsOrderedBelow known top packets w
    ordered_below w fit span = record {
      at_each = λ pushes more split. stretch_below (up_to w pushes) fit (record { sent = all_front P pushes more (subst (AllHeld P) split span.sent); now = refl });
      at_end = stretch_below w fit span;
    }

    pub stretches_below : (s : State) (turns : List Turn) (end : Stretch) → Linked P s turns end → AreStretchesBelow known top packets turns end
    stretches_below s [] end linked = ordered_below end linked.1 linked.2
    stretches_below s (turn ∷ turns) end linked = (ordered_below turn.stretch linked.1 linked.2, stretches_below turn.after turns end linked.4)

-- Fates

-- all packets with these numbers are held
abbrev pub HasAll : (low high : ℕ) → List Held → Type 0
HasAll low high hs = (n : ℕ) → low ≤ n → n < high → has_number n hs ≡ true

-- the frame has exactly these numbers
abbrev pub IsFrame : (low high : ℕ) → CompleteFrame → Type 0
IsFrame low high f = (f.first ≡ low) × (f.last + 1 ≡ high)

-- one of the frames has
abbrev pub HasFrame : (low high : ℕ) → List CompleteFrame → Type 0
HasFrame low high passed = (f : CompleteFrame) × Contains passed f × (f.first ≡ low) × (f.last + 1 ≡ high)

abbrev pub AllTurns : (Turn → Type 0) → List Turn → Type 0
AllTurns T [] = Unit {0}
AllTurns T (turn ∷ turns) = T turn × AllTurns T turns

abbrev pub SomeTurn : (Turn → Type 0) → List Turn → Type 0
SomeTurn T [] = ⊥
SomeTurn T (turn ∷ turns) = T turn ⊎ SomeTurn T turns

pub all_turns_on : (T : Turn → Type 0) (here rest : List Turn) → AllTurns T here → AllTurns T rest → AllTurns T (here ++ rest)
all_turns_on T [] rest a b = b
all_turns_on T (turn ∷ here) rest a b = (a.0, all_turns_on T here rest a.1 b)

-- packets that are all held at a pop: it takes their frame, or skips it, or they stay
abbrev pub Watched : (low high : ℕ) → (Answer → Type 0) → Turn → Type 0
Watched low high Out turn = HasAll low high turn.stretch.now.held → Out turn.answer ⊎ (HasFrame low high turn.passed ⊎ HasAll low high turn.after.held)

-- where packets that are all held before these turns are after them
pub data Ends (low high from count : ℕ) (Out : Answer → Type 0) (turns later : List Turn) (end : Stretch) : Type 0 where
  is_out : SomeTurn (λ (turn : Turn). Out turn.answer) turns → Ends low high from count Out turns later end
  is_over : SomeTurn (λ (turn : Turn). HasFrame low high turn.passed) turns → Ends low high from count Out turns later end
  is_kept : HasAll low high end.now.held → Ends low high from count Out turns later end
  is_lost : (n : ℕ) → low ≤ n → n < high → IsEvictedIn from count n later end → Ends low high from count Out turns later end

-- some number of a range has P, or each has Q
all_or_some : (P Q : ℕ → Type 0) (a n : ℕ) → ((k : ℕ) → a ≤ k → k < n → P k ⊎ Q k) → ((k : ℕ) → a ≤ k → k < n → Q k) ⊎ ((k : ℕ) × (a ≤ k) × (k < n) × P k)
all_or_some P Q a zero each = inl (λ k low high. absurd (omega (arith, high)))
all_or_some P Q a (suc n) each = elim (all_or_some P Q a n (λ k low high. each k low (omega (arith, high)))) [
  | inr some ↦ inr (some.0, some.1, omega (arith, some.2), some.3)
  | inl below ↦ elim (cases_lt n a) [
    | inl before ↦ inl (λ k low high. absurd (omega (arith, before, low, high)))
    | inr here ↦ elim (each n here (omega arith)) [
      | inl p ↦ inr (n, here, omega arith, p)
      | inr q ↦ inl (λ k low high. elim (cases_lt k n) [ inl less ↦ below k low less | inr ge ↦ let e : n ≡ k = omega (arith, ge, high) in subst Q e q ])
    ]
  ]
]

-- a number that counts is evicted, or held at the end
counted_is : (low count : ℕ) (w : Stretch) (n : ℕ) → Leaves low count w → counts w.left w.pushes n ≡ true → Contains (evicted_in low count w) n ⊎ (has_number n w.now.held ≡ true)
counted_is low count w n leaves counts_it =
    let all = numbers_in low count w in
    let m = length all - w.left.limit in
    let within = leaves.within n counts_it in
    let there : IsIn n all = range_in (counts w.left w.pushes) n low count within.0 within.1 counts_it in
    elim (in_append n (take m all) (drop m all) (subst (IsIn n) (sym (take-append-drop m all)) there)) [
      | inl gone ↦ inl (contains_in n (take m all) gone)
      | inr still ↦ inr (in_number n w.now.held (subst (IsIn n) (sym leaves.left.held) still))
    ]

held_counts : (s : State) (ps : List Held) (n : ℕ) → has_number n s.held ≡ true → counts s ps n ≡ true
held_counts s ps n h = by_case (has_number n s.held) h
  where
    by_case : (b : Bool) → b ≡ true → (b || (not (is_at_most s.cutoff n) && has_number n ps)) ≡ true
    by_case true e = refl
    by_case false e = absurd (cc)

-- a number above the cutoff that is pushed counts too
above_is : (cutoff : Option ℕ) (low n : ℕ) → IsCutoffBelow low cutoff → low ≤ n → is_at_most cutoff n ≡ false
above_is None low n below at = refl
above_is (Some c) low n below at = grind (arith, nat_tests, below, at)

new_counts : (s : State) (ps : List Held) (n : ℕ) → is_at_most s.cutoff n ≡ false → has_number n ps ≡ true → counts s ps n ≡ true
new_counts s ps n free h = by_case (has_number n s.held) (is_at_most s.cutoff n) free (has_number n ps) h
  where
    by_case : (a b : Bool) → b ≡ false → (c : Bool) → c ≡ true → (a || (not b && c)) ≡ true
    by_case true b e c f = refl
    by_case false true e c f = absurd (cc)
    by_case false false e c f = f

-- a pop that leaves the cutoff below a number leaves the packets from it on
abbrev pub Cuts : ℕ → Turn → Type 0
Cuts low turn = IsCutoffBelow low turn.after.cutoff → (n : ℕ) → low ≤ n → has_number n turn.stretch.now.held ≡ true → has_number n turn.after.held ≡ true

module _ (low high from count : ℕ) (Out : Answer → Type 0) where
  abbrev EndsIn : List Turn → List Turn → Stretch → Type 0
  EndsIn turns later end = Ends low high from count Out turns later end

  abbrev Gone : Stretch → Type 0
  Gone w = (n : ℕ) × (low ≤ n) × (n < high) × Contains (evicted_in from count w) n

  at_stretch : (w : Stretch) → Leaves from count w → HasAll low high w.left.held → HasAll low high w.now.held ⊎ Gone w
  at_stretch w leaves has =
      all_or_some (λ n. Contains (evicted_in from count w) n) (λ n. has_number n w.now.held ≡ true) low high
      (λ n a b. counted_is from count w n leaves (held_counts w.left w.pushes n (has n a b)))

  more : (turn : Turn) (turns : List Turn) (end : Stretch) → EndsIn turns turns end → EndsIn (turn ∷ turns) turns end
  more turn turns end (is_out is) = is_out (inr is)
  more turn turns end (is_over is) = is_over (inr is)
  more turn turns end (is_kept is) = is_kept is
  more turn turns end (is_lost n a b is) = is_lost n a b is

  later_too : (turn : Turn) (turns : List Turn) (end : Stretch) → EndsIn (turn ∷ turns) turns end → EndsIn (turn ∷ turns) (turn ∷ turns) end
  later_too turn turns end (is_out is) = is_out is
  later_too turn turns end (is_over is) = is_over is
  later_too turn turns end (is_kept is) = is_kept is
  later_too turn turns end (is_lost n a b is) = is_lost n a b (inr is)

  pub at_turn : (turn : Turn) (turns : List Turn) (end : Stretch) → Watched low high Out turn → HasAll low high turn.stretch.now.held
      → (HasAll low high turn.after.held → EndsIn turns turns end) → EndsIn (turn ∷ turns) turns end
  at_turn turn turns end watched has later = elim (watched has) [
    | inl done ↦ is_out (inl done)
    | inr left ↦ elim left [
      | inl passed ↦ is_over (inl passed)
      | inr still ↦ more turn turns end (later still)
    ]
  ]

  -- packets that are held after a pop
  pub ends_as : (s : State) (turns : List Turn) (end : Stretch) → LeaveAll from count s turns end → AllTurns (Watched low high Out) turns → HasAll low high s.held → EndsIn turns turns end
  ends_as s [] end leaves watched has =
      elim (at_stretch end leaves.1 (subst (λ (x : State). HasAll low high x.held) (sym leaves.0) has)) [
        | inl still ↦ is_kept still
        | inr gone ↦ is_lost gone.0 gone.1 gone.2 gone.3
      ]
  ends_as s (turn ∷ turns) end leaves watched has =
      elim (at_stretch turn.stretch leaves.1 (subst (λ (x : State). HasAll low high x.held) (sym leaves.0) has)) [
        | inr gone ↦ is_lost gone.0 gone.1 gone.2 (inl gone.3)
        | inl still ↦ later_too turn turns end (at_turn turn turns end watched.0 still (λ after. ends_as turn.after turns end leaves.2 watched.1 after))
      ]

  -- In time

  pushed_in : (n : ℕ) (ps qs : List Held) → has_number n (ps ++ qs) ≡ true → (has_number n ps ≡ true) ⊎ (has_number n qs ≡ true)
  pushed_in n [] qs h = inr h
  pushed_in n (p ∷ ps) qs h = elim (or_cases (eqb (number_of p) n) (has_number n (ps ++ qs)) h) [
    | inl here ↦ inl (grind (arith, nat_tests, here))
    | inr later ↦ elim (pushed_in n ps qs later) [ inl a ↦ inl (grind (arith, nat_tests, a)) | inr b ↦ inr b ]
  ]

  -- the packets that were pushed so far are held
  abbrev Holds : List Held → State → Type 0
  Holds ps s = (n : ℕ) → low ≤ n → n < high → has_number n ps ≡ true → has_number n s.held ≡ true

  hold_on : (ps : List Held) (w : Stretch) → Leaves from count w → IsCutoffBelow low w.left.cutoff → Holds ps w.left → Holds (ps ++ w.pushes) w.now ⊎ Gone w
  hold_on ps w leaves below holds =
      all_or_some (λ n. Contains (evicted_in from count w) n) (λ n. has_number n (ps ++ w.pushes) ≡ true → has_number n w.now.held ≡ true) low high
      (λ n a b. by_test (has_number n (ps ++ w.pushes))
      (λ x. has_number n (ps ++ w.pushes) ≡ x → Contains (evicted_in from count w) n ⊎ (has_number n (ps ++ w.pushes) ≡ true → has_number n w.now.held ≡ true))
      (λ t is. elim (counted n a b is) [ inl gone ↦ inl gone | inr still ↦ inr (λ h. still) ])
      (λ f is. inr (λ h. absurd (cc))) refl)
    where
      counted : (n : ℕ) → low ≤ n → n < high → has_number n (ps ++ w.pushes) ≡ true → Contains (evicted_in from count w) n ⊎ (has_number n w.now.held ≡ true)
      counted n a b is = elim (pushed_in n ps w.pushes is) [
        | inl early ↦ counted_is from count w n leaves (held_counts w.left w.pushes n (holds n a b early))
        | inr new ↦ counted_is from count w n leaves (new_counts w.left w.pushes n (above_is w.left.cutoff low n below a) new)
      ]

  pub in_time : (s : State) (turns : List Turn) (end : Stretch) (ps : List Held) → LeaveAll from count s turns end → AllTurns (Watched low high Out) turns → AllTurns (Cuts low) turns
      → IsCutoffBelow low s.cutoff → Holds ps s → ComesInTime low high ps turns → EndsIn turns turns end
  in_time s [] end ps leaves watched cuts below holds comes = absurd comes
  in_time s (turn ∷ turns) end ps leaves watched cuts below holds comes =
      elim (hold_on ps turn.stretch leaves.1 (subst (λ (x : State). IsCutoffBelow low x.cutoff) (sym leaves.0) below) (subst (Holds ps) (sym leaves.0) holds)) [
        | inr gone ↦ is_lost gone.0 gone.1 gone.2 (inl gone.3)
        | inl held ↦ elim comes [
          | inl whole ↦ later_too turn turns end (at_turn turn turns end watched.0 (λ n a b. held n a b (whole n a b)) (λ after. ends_as turn.after turns end leaves.2 watched.1 after))
          | inr on ↦ later_too turn turns end (more turn turns end (in_time turn.after turns end (ps ++ turn.stretch.pushes) leaves.2 watched.1 cuts.1 on.0
              (λ n a b h. cuts.0 on.0 n a (held n a b h)) on.1))
        ]
      ]

-- A cutoff below packets

module _ (low : ℕ) where
  -- the cutoff is below the frame that is due
  lower_cutoff : (s : State) (f : CompleteFrame) → IsSound s → due_of s ≡ Some f → f.last < low → IsCutoffBelow low s.cutoff
  lower_cutoff s f sound due last = by_cutoff s.cutoff refl
    where
      by_cutoff : (c : Option ℕ) → s.cutoff ≡ c → IsCutoffBelow low c
      by_cutoff None e = tt
      by_cutoff (Some m) e = let higher = due_higher s f sound.above due m e in let order = order_due s f due in omega (arith, higher, order, last)

  -- the frames that are skipped end at the cutoff or below it
  passes_below : (s t : State) (over : List CompleteFrame) → IsSound s → Passes s over t → IsCutoffBelow low t.cutoff → (n : ℕ) → low ≤ n → has_number n s.held ≡ true
      → (IsCutoffBelow low s.cutoff) × (has_number n t.held ≡ true)
  passes_below s t over sound none below n at h = (below, h)
  passes_below s u over sound (one_more {t = t} passes p) below n at h =
      let mid : IsSound t = passes_sound s t _ passes sound in
      let last : p.frame.last < low = subst (IsCutoffBelow low) (ap (λ (x : State). x.cutoff) p.left) below in
      let lower = lower_cutoff t p.frame mid p.is_due last in
      let rest = passes_below s t _ sound passes lower n at h in
      (rest.0, ap (λ (x : State). has_number n x.held) p.left ∙ has_above n p.frame.last t.held (omega (arith, last, at)) rest.1)

  cuts_taken : (s t : State) (over : List CompleteFrame) (a : Answer) → IsSound s → IsTaken s t over a → IsCutoffBelow low t.cutoff → (n : ℕ) → low ≤ n → has_number n s.held ≡ true
      → has_number n t.held ≡ true
  cuts_taken s t over None sound (waits passes nothing) below n at h = (passes_below s t over sound passes below n at h).1
  cuts_taken s t over (Some (Ok r)) sound (releases mid passes out) below n at h =
      let is : IsSound mid = passes_sound s mid over passes sound in
      let last : out.frame.last < low = subst (IsCutoffBelow low) (ap (λ (x : State). x.cutoff) out.left) below in
      let still = (passes_below s mid over sound passes (lower_cutoff mid out.frame is out.is_due last) n at h).1 in
      ap (λ (x : State). has_number n x.held) out.left ∙ has_above n out.frame.last mid.held (omega (arith, last, at)) still
  cuts_taken s t over (Some (Err fault)) sound taken below n at h = elim taken [ ]

  pub cuts_made : (s t : State) (passed : List CompleteFrame) (a : Answer) → IsSound s → IsMade s t passed a → IsCutoffBelow low t.cutoff → (n : ℕ) → low ≤ n → has_number n s.held ≡ true
      → has_number n t.held ≡ true
  cuts_made s t passed a sound (inl is) below n at h = ap (λ (x : State). has_number n x.held) is.2 ∙ h
  cuts_made s t passed a sound (inr is) below n at h =
      cuts_taken (record s { hold_back = is.0 }) t passed a (record { rises = sound.rises; above = sound.above; few = sound.few }) is.1 below n at h

  pub linked_cuts : (P : Held → Type 0) (s : State) (turns : List Turn) (end : Stretch) → Linked P s turns end → AllTurns (Cuts low) turns
  linked_cuts P s [] end linked = tt
  linked_cuts P s (turn ∷ turns) end linked =
      (cuts_made turn.stretch.now turn.after turn.passed turn.answer (fit_span P turn.stretch linked.1 linked.2).sound linked.3, linked_cuts P turn.after turns end linked.4)
