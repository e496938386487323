-- The log of a run in which each gap is filled: the pops return the units in turn, and in time.
use Rattle.std.proofs.Common.{◌≡◌, refl, sym, ap, subst, ℕ, zero, suc, ◌+◌, ◌-◌, ◌^◌, ◌<◌, ◌≤◌, ◌⊎◌, inl, inr, ◌||◌, Bool, true, false, List, [], ◌∷◌, ◌++◌, Option, Some, None, arith, append-nil, append_assoc, eqb, length, length-append, map, take}
use Rattle.std.specs.Prelude.{Contains}
use Rattle.std.proofs.lemmas.Bool.{cases_lt}
use Rattle.std.proofs.lemmas.Bool.Decides.{nat_tests}
use Rattle.codec_payload_base.specs.declared.wire.Ticks.{Ticks}
use Rattle.codec_payload_codec.proofs.CaseLemmas.{by_test}
use Rattle.codec_payload_codec.specs.Depacketizers.{DepacketizerKind}
use Rattle.codec_payload_buffer.specs.Held.{Held, IsAboveCutoff, has_number, number_of}
use Rattle.codec_payload_buffer.specs.Steps.{State, arrived, pushed}
use Rattle.codec_payload_buffer_runs.proofs.order.SafetyLemmas.{number_of_sent}
use Rattle.codec_payload_buffer_runs.proofs.order.TakenLemmas.{IsPlain}
use Rattle.codec_payload_buffer_runs.proofs.order.TurnLemmas.{IsPush, Setting, count, or_cases}
use Rattle.codec_payload_buffer_runs.proofs.units.UnitRows.{held_as}
use Rattle.codec_payload_buffer_runs.specs.Headline.{packets_before}
use Rattle.codec_payload_buffer_runs.specs.Log.{Stretch, Turn, begun, with_pushes}
use Rattle.codec_payload_buffer_runs.specs.RunOrder.{evicted_in, numbers_in}
use Rattle.codec_payload_buffer_runs.specs.RunUnits.{AreNext, IsEvictedIn, count_after}
use Rattle.codec_payload_buffer_runs.specs.Schedule.{Answer}
use Rattle.codec_payload_buffer_runs.specs.SentStream.{SentUnit, packets_of}
use Rattle.codec_payload_jitter.specs.Receiving.{Receiving}
use Rattle.codec_payload_datagram_runs.proofs.HeldLemmas.{AllHeld, all_mapped}
use Rattle.codec_payload_datagram_runs.specs.Deliveries.{IsCutoffBelow}
use Rattle.codec_payload_datagram_runs.specs.WireLogs.{IsLogOf}
use Rattle.codec_payload_datagram_runs.specs.declared.run.DatagramStep.{DatagramStep}
use Rattle.codec_payload_datagram_runs.specs.declared.run.DatagramStep.TheVariants as steps
use Rattle.codec_payload_timely_runs.specs.TimelyRuns.{At, ComesBy, Expected, From, IsExpected, PopsInTime, expected_after, pop_times}
use Rattle.codec_payload_answered_runs.proofs.WholeTurns.{IsNear, IsOf, Stands, StandsAt, few_counted, stands_more, stands_popped, stands_pushed, still_of}
use Rattle.codec_payload_answered_runs.specs.FilledGaps.{AllComeBy, Came, GapsAreFilled, KeepsUp, WaitsByTime, first_size, has_come}

-- Times do not fall

-- the latest time so far
abbrev reached : Expected → ℕ
reached (At t) = t
reached (From t deadline) = t

not_before : (e : Expected) (time : ℕ) → IsExpected e time → reached e ≤ time
not_before (At t) time is = omega (arith, is)
not_before (From t None) time is = is
not_before (From t (Some deadline)) time is = is.0

reached_after : (max_wait time : ℕ) (a : Answer) (s : State) → reached (expected_after max_wait time a s) ≡ time
reached_after max_wait time None s = refl
reached_after max_wait time (Some answer) s = refl

-- what is still to come by a time comes after the latest time so far
reached_by : (max_wait by low high : ℕ) (e : Expected) (xs : List Came) (later : List DatagramStep) (turns : List Turn) → PopsInTime max_wait e later turns → AllComeBy by low high xs later → reached e ≤ by
reached_by max_wait by low high e xs [] turns pops comes = absurd comes
reached_by max_wait by low high e xs (steps.Send i ∷ later) turns pops comes = reached_by max_wait by low high e xs later turns pops comes
reached_by max_wait by low high e xs (steps.Deliver k now ∷ later) turns pops comes =
    let here = not_before e now.0 pops.0 in
    let rest = reached_by max_wait by low high (At now.0) (record { datagram = k; at = now.0 } ∷ xs) later turns pops.1 comes in
    omega (arith, here, rest)
reached_by max_wait by low high e xs (steps.Pop now ∷ later) [] pops comes = absurd pops
reached_by max_wait by low high e xs (steps.Pop now ∷ later) (turn ∷ turns) pops (inl here) =
    let le = not_before e now.0 pops.0 in
    let soon = here.0 in
    omega (arith, le, soon)
reached_by max_wait by low high e xs (steps.Pop now ∷ later) (turn ∷ turns) pops (inr rest) =
    let le = not_before e now.0 pops.0 in
    let after = reached_by max_wait by low high (expected_after max_wait now.0 turn.answer turn.after) xs later turns pops.1 rest in
    let same = reached_after max_wait now.0 turn.answer turn.after in
    omega (arith, le, after, same)
reached_by max_wait by low high e xs (steps.Finish ∷ later) turns pops comes = reached_by max_wait by low high e xs later turns pops comes

-- all of a range came, or one of them did not
all_or_not : (xs : List Came) (low n : ℕ) → ((j : ℕ) → low ≤ j → j < n → has_come j xs ≡ true) ⊎ ((j : ℕ) × (low ≤ j) × (j < n) × (has_come j xs ≡ false))
all_or_not xs low zero = inl (λ j a b. absurd (omega (arith, b)))
all_or_not xs low (suc n) = elim (all_or_not xs low n) [
  | inr not ↦ inr (not.0, not.1, omega (arith, not.2), not.3)
  | inl all ↦ elim (cases_lt n low) [
    | inl below ↦ inl (λ j a b. absurd (omega (arith, below, a, b)))
    | inr at ↦
        by_test (has_come n xs)
        (λ b. has_come n xs ≡ b → ((j : ℕ) → low ≤ j → j < suc n → has_come j xs ≡ true) ⊎ ((j : ℕ) × (low ≤ j) × (j < suc n) × (has_come j xs ≡ false)))
        (λ t e. inl (λ j a b. elim (cases_lt j n) [ inl less ↦ all j a less | inr ge ↦ let same : n ≡ j = omega (arith, ge, b) in subst (λ (k : ℕ). has_come k xs ≡ true) same e ]))
        (λ f e. inr (n, at, omega arith, e))
        refl
  ]
]

-- more units have no fewer packets
before_rises : (p q : ℕ) (units : List SentUnit) → p ≤ q → packets_before p units ≤ packets_before q units
before_rises zero q units le = omega (arith, le)
before_rises (suc p) zero units le = absurd (omega (arith, le))
before_rises (suc p) (suc q) [] le = omega (arith, le)
before_rises (suc p) (suc q) (u ∷ us) le =
    let rest = before_rises p q us (omega (arith, le)) in
    omega (arith, rest, length-append u.packets (packets_of (take p us)), length-append u.packets (packets_of (take q us)))

module _ (c : Setting) (r : Receiving) (max_wait : ℕ) (plain : IsPlain c) (settings : WaitsByTime max_wait r) (short : r.buffer.limit < 2 ^ 63) where
  abbrev Follows : ℕ → List Came → State → Type 0
  Follows p xs s = Stands c r max_wait plain settings short p xs s

  -- a delivery
  after_delivery : (p k : ℕ) (now : Ticks) (xs : List Came) (s : State) → Follows p xs s → (h : Held) → IsPush c h → number_of h ≡ c.first + k → k + r.room < packets_before p c.units + r.buffer.limit
      → h.meta.received ≡ now → Follows p (record { datagram = k; at = now.0 } ∷ xs) (pushed s h)
  after_delivery p k now xs s stands h is number close time =
      subst (λ (t : Ticks). Follows p (record { datagram = k; at = t.0 } ∷ xs) (pushed s h)) time (stands_pushed c r max_wait plain settings short p xs s h k stands is number close)

  -- the packet of a delivery
  abbrev is_push : (p k : ℕ) (now : Ticks) (later : List DatagramStep) (xs : List Came) (w : Stretch) (turns : List Turn) (end : Stretch) → Follows p xs w.now
      → (log : IsLogOf c.known (packets_of c.units) r false (steps.Deliver k now ∷ later) w turns end) → IsPush c (arrived w.now.depacketizer log.1 log.0.payload)
  is_push p k now later xs w turns end stands log =
      (k, log.0, log.2, log.3, ap (λ (x : DepacketizerKind). held_as x log.1 log.0.payload) stands.ready.beyond.reads)

  delivered_follows : (p k : ℕ) (now : Ticks) (later : List DatagramStep) (xs : List Came) (w : Stretch) (turns : List Turn) (end : Stretch) → Follows p xs w.now
      → k + r.room < packets_before p c.units + r.buffer.limit → (log : IsLogOf c.known (packets_of c.units) r false (steps.Deliver k now ∷ later) w turns end)
      → (number_of (arrived w.now.depacketizer log.1 log.0.payload) ≡ c.first + k)
      × Follows p (record { datagram = k; at = now.0 } ∷ xs) (with_pushes w (arrived w.now.depacketizer log.1 log.0.payload ∷ [])).now
  delivered_follows p k now later xs w turns end stands close log =
      let h : Held = arrived w.now.depacketizer log.1 log.0.payload in
      let is = is_push p k now later xs w turns end stands log in
      let number : number_of h ≡ c.first + k = number_of_sent c.known c.clock_rate c.first c.kind c.faithful c.splits c.units c.lawful c.numbered h is in
      (number, after_delivery p k now xs w.now stands h is number close log.4)

  -- the pops return the units in turn
  pub in_turn : (p : ℕ) (xs : List Came) (later : List DatagramStep) (w : Stretch) (turns : List Turn) (end : Stretch) → Follows p xs w.now
      → IsLogOf c.known (packets_of c.units) r false later w turns end → GapsAreFilled max_wait (first_size c.units) xs later → KeepsUp r.room r.buffer.limit c.units p later (map (λ (turn : Turn). turn.answer) turns)
      → AreNext c.known c.splits c.units p (map (λ (turn : Turn). turn.answer) turns)
  in_turn p xs [] w [] end stands log filled keeps = tt
  in_turn p xs [] w (turn ∷ turns) end stands log filled keeps = absurd log
  in_turn p xs (steps.Send i ∷ later) w turns end stands log filled keeps = in_turn p xs later w turns end stands log filled keeps
  in_turn p xs (steps.Deliver k now ∷ later) w turns end stands log filled keeps =
      in_turn p (record { datagram = k; at = now.0 } ∷ xs) later (with_pushes w (arrived w.now.depacketizer log.1 log.0.payload ∷ [])) turns end
      (delivered_follows p k now later xs w turns end stands keeps.0 log).1 log.5 filled keeps.1
  in_turn p xs (steps.Pop now ∷ later) w [] end stands log filled keeps = absurd log
  in_turn p xs (steps.Pop now ∷ later) w (turn ∷ turns) end stands log filled keeps =
      let next = stands_popped c r max_wait plain settings short p now.0 xs w.now turn.after turn.passed turn.answer stands filled.0 filled.1 log.1 in
      (next.0, in_turn (count_after p turn.answer) xs later (begun turn.after) turns end next.1 log.2 filled.2 keeps)
  in_turn p xs (steps.Finish ∷ later) w turns end stands log filled keeps = absurd filled

  -- Units whose packets come by a time, while the cutoff is below them

  -- what came was pushed
  abbrev ArePushed : List Came → List Held → Type 0
  ArePushed xs ps = (j : ℕ) → has_come j xs ≡ true → has_number (c.first + j) ps ≡ true

  has_more : (n : ℕ) (ps qs : List Held) → (has_number n ps ≡ true) ⊎ (has_number n qs ≡ true) → has_number n (ps ++ qs) ≡ true
  has_more n [] qs (inl h) = absurd (cc)
  has_more n [] qs (inr h) = h
  has_more n (p ∷ ps) qs (inl h) = elim (or_cases (eqb (number_of p) n) (has_number n ps) h) [
    | inl here ↦ grind (arith, nat_tests, here)
    | inr later ↦ let rest = has_more n ps qs (inl later) in grind (arith, nat_tests, rest)
  ]
  has_more n (p ∷ ps) qs (inr h) = let rest = has_more n ps qs (inr h) in grind (arith, nat_tests, rest)

  pushed_more : (k : ℕ) (now : ℕ) (xs : List Came) (ps : List Held) (h : Held) → number_of h ≡ c.first + k → ArePushed xs ps → ArePushed (record { datagram = k; at = now } ∷ xs) (ps ++ h ∷ [])
  pushed_more k now xs ps h number are j has = elim (or_cases (eqb k j) (has_come j xs) has) [
    | inl new ↦
        let same : k ≡ j = grind (arith, nat_tests, new) in
        let at : number_of h ≡ c.first + j = omega (arith, number, same) in
        has_more (c.first + j) ps (h ∷ []) (inr (grind (arith, nat_tests, at)))
    | inr old ↦ has_more (c.first + j) ps (h ∷ []) (inl (are j old))
  ]

  -- a cutoff up to which all came is below a unit that did not come whole
  cut_below : (q place j : ℕ) (xs : List Came) (o : Option ℕ) → StandsAt c r max_wait plain settings short q xs o → j < packets_before (place + 1) c.units → has_come j xs ≡ false
      → (packets_before (place + 1) c.units ≤ packets_before q c.units) ⊎ (packets_before q c.units ≤ packets_before place c.units) → IsCutoffBelow (c.first + packets_before place c.units) o
  cut_below q place j xs None at within not sides = tt
  cut_below q place j xs (Some cut) at within not (inl up) = absurd (clash (at.1 j (omega (arith, at.0, up, within))) not)
    where
      clash : {b : Bool} → b ≡ true → b ≡ false → ⊥
      clash t f = cc
  cut_below q place j xs (Some cut) at within not (inr down) = omega (arith, at.0, down)

  sides : (q place : ℕ) → (packets_before (place + 1) c.units ≤ packets_before q c.units) ⊎ (packets_before q c.units ≤ packets_before place c.units)
  sides q place = elim (cases_lt place q) [
    | inl less ↦ inl (before_rises (place + 1) q c.units (omega (arith, less)))
    | inr ge ↦ inr (before_rises q place c.units ge)
  ]

  pub comes_by : (place by p : ℕ) (e : Expected) (xs : List Came) (ps : List Held) (later : List DatagramStep) (w : Stretch) (turns : List Turn) (end : Stretch) → Follows p xs w.now
      → IsLogOf c.known (packets_of c.units) r false later w turns end → GapsAreFilled max_wait (first_size c.units) xs later → KeepsUp r.room r.buffer.limit c.units p later (map (λ (turn : Turn). turn.answer) turns) → PopsInTime max_wait e later turns → ArePushed xs (ps ++ w.pushes)
      → AllComeBy by (packets_before place c.units) (packets_before (place + 1) c.units) xs later
      → ComesBy by (c.first + packets_before place c.units) (c.first + packets_before (place + 1) c.units) ps (pop_times later) turns
  comes_by place by p e xs ps [] w turns end stands log filled keeps pops are comes = absurd comes
  comes_by place by p e xs ps (steps.Send i ∷ later) w turns end stands log filled keeps pops are comes = comes_by place by p e xs ps later w turns end stands log filled keeps pops are comes
  comes_by place by p e xs ps (steps.Deliver k now ∷ later) w turns end stands log filled keeps pops are comes =
      let h : Held = arrived w.now.depacketizer log.1 log.0.payload in
      let next = delivered_follows p k now later xs w turns end stands keeps.0 log in
      comes_by place by p (At now.0) (record { datagram = k; at = now.0 } ∷ xs) ps later (with_pushes w (h ∷ [])) turns end next.1 log.5 filled keeps.1 pops.1
      (subst (ArePushed (record { datagram = k; at = now.0 } ∷ xs)) (append_assoc ps w.pushes (h ∷ [])) (pushed_more k now.0 xs (ps ++ w.pushes) h next.0 are)) comes
  comes_by place by p e xs ps (steps.Pop now ∷ later) w [] end stands log filled keeps pops are comes = absurd log
  comes_by place by p e xs ps (steps.Pop now ∷ later) w (turn ∷ turns) end stands log filled keeps pops are comes =
      let next = stands_popped c r max_wait plain settings short p now.0 xs w.now turn.after turn.passed turn.answer stands filled.0 filled.1 log.1 in
      let q = count_after p turn.answer in
      by_all q next.1.cut (all_or_not xs (packets_before place c.units) (packets_before (place + 1) c.units)) comes
      (λ still rest. comes_by place by q (expected_after max_wait now.0 turn.answer turn.after) xs (ps ++ turn.stretch.pushes) later (begun turn.after) turns end next.1 log.2 filled.2 keeps pops.1 still rest)
    where
      soon : AllComeBy by (packets_before place c.units) (packets_before (place + 1) c.units) xs (steps.Pop now ∷ later) → now.0 ≤ by
      soon (inl here) = here.0
      soon (inr rest) =
          let after = reached_by max_wait by (packets_before place c.units) (packets_before (place + 1) c.units) (expected_after max_wait now.0 turn.answer turn.after) xs later turns pops.1 rest in
          let same = reached_after max_wait now.0 turn.answer turn.after in
          omega (arith, after, same)

      all_pushed : ((j : ℕ) → packets_before place c.units ≤ j → j < packets_before (place + 1) c.units → has_come j xs ≡ true) → (n : ℕ) → c.first + packets_before place c.units ≤ n
          → n < c.first + packets_before (place + 1) c.units → has_number n (ps ++ turn.stretch.pushes) ≡ true
      all_pushed all n a b =
          let index : n ≡ c.first + (n - c.first) = omega (arith, a) in
          let there : has_number (c.first + (n - c.first)) (ps ++ w.pushes) ≡ true = are (n - c.first) (all (n - c.first) (omega (arith, a)) (omega (arith, a, b))) in
          subst (λ (x : Stretch). has_number n (ps ++ x.pushes) ≡ true) (sym log.0) (subst (λ (m : ℕ). has_number m (ps ++ w.pushes) ≡ true) (sym index) there)

      rest_of : AllComeBy by (packets_before place c.units) (packets_before (place + 1) c.units) xs (steps.Pop now ∷ later)
          → (j : ℕ) → packets_before place c.units ≤ j → j < packets_before (place + 1) c.units → has_come j xs ≡ false
          → AllComeBy by (packets_before place c.units) (packets_before (place + 1) c.units) xs later
      rest_of (inl here) j a b not = absurd (clash (here.1 j a b) not)
        where
          clash : {b : Bool} → b ≡ true → b ≡ false → ⊥
          clash t f = cc
      rest_of (inr rest) j a b not = rest

      by_all : (q : ℕ) → StandsAt c r max_wait plain settings short q xs turn.after.cutoff
          → ((j : ℕ) → packets_before place c.units ≤ j → j < packets_before (place + 1) c.units → has_come j xs ≡ true)
          ⊎ ((j : ℕ) × (packets_before place c.units ≤ j) × (j < packets_before (place + 1) c.units) × (has_come j xs ≡ false))
          → AllComeBy by (packets_before place c.units) (packets_before (place + 1) c.units) xs (steps.Pop now ∷ later)
          → (ArePushed xs ((ps ++ turn.stretch.pushes) ++ []) → AllComeBy by (packets_before place c.units) (packets_before (place + 1) c.units) xs later
          → ComesBy by (c.first + packets_before place c.units) (c.first + packets_before (place + 1) c.units) (ps ++ turn.stretch.pushes) (pop_times later) turns)
          → ComesBy by (c.first + packets_before place c.units) (c.first + packets_before (place + 1) c.units) ps (now.0 ∷ pop_times later) (turn ∷ turns)
      by_all q cut (inl all) come more = inl (soon come, all_pushed all)
      by_all q cut (inr not) come more =
          let still : ArePushed xs ((ps ++ turn.stretch.pushes) ++ []) =
          subst (ArePushed xs) (sym (append-nil (ps ++ turn.stretch.pushes))) (subst (λ (x : Stretch). ArePushed xs (ps ++ x.pushes)) (sym log.0) are) in
          inr (cut_below q place not.0 xs turn.after.cutoff cut not.2 not.3 (sides q place), more still (rest_of come not.0 not.1 not.2 not.3))
  comes_by place by p e xs ps (steps.Finish ∷ later) w turns end stands log filled keeps pops are comes = absurd filled

  -- No packet is evicted

  -- a stretch whose packets came
  pub record Comes (p : ℕ) (xs : List Came) (w : Stretch) : Type 0 where
    pub cut : StandsAt c r max_wait plain settings short p xs w.left.cutoff
    pub over : IsAboveCutoff w.left.cutoff w.left.held
    pub held_in : AllHeld (IsOf c r max_wait plain settings short xs) w.left.held
    pub pushed : (n : ℕ) → has_number n w.pushes ≡ true → (k : ℕ) × (has_come k xs ≡ true) × (n ≡ c.first + k)
    pub limit : w.left.limit ≡ r.buffer.limit

  still_has : (x : Came) (k : ℕ) (xs : List Came) → has_come k xs ≡ true → has_come k (x ∷ xs) ≡ true
  still_has x k xs is = by_test (eqb x.datagram k) (λ b. (b || has_come k xs) ≡ true) (λ t. refl) (λ f. is)

  pushed_in : (n : ℕ) (ps : List Held) (h : Held) → has_number n (ps ++ h ∷ []) ≡ true → (has_number n ps ≡ true) ⊎ (number_of h ≡ n)
  pushed_in n [] h is = elim (or_cases (eqb (number_of h) n) false is) [ inl e ↦ inr (grind (arith, nat_tests, e)) | inr no_more ↦ absurd (cc) ]
  pushed_in n (p ∷ ps) h is = elim (or_cases (eqb (number_of p) n) (has_number n (ps ++ h ∷ [])) is) [
    | inl here ↦ inl (grind (arith, nat_tests, here))
    | inr later ↦ elim (pushed_in n ps h later) [ inl a ↦ inl (grind (arith, nat_tests, a)) | inr b ↦ inr b ]
  ]

  comes_more : (p k : ℕ) (x : Came) (xs : List Came) (w : Stretch) (h : Held) → x.datagram ≡ k → number_of h ≡ c.first + k → Comes p xs w → Comes p (x ∷ xs) (with_pushes w (h ∷ []))
  comes_more p k x xs w h index number comes = record {
    cut = stands_more c r max_wait plain settings short p x xs w.left.cutoff comes.cut;
    over = comes.over;
    held_in = all_mapped (IsOf c r max_wait plain settings short xs) (IsOf c r max_wait plain settings short (x ∷ xs)) (still_of c r max_wait plain settings short x xs) w.left.held comes.held_in;
    pushed = λ n has. elim (pushed_in n w.pushes h has) [
      | inl old ↦ let there = comes.pushed n old in (there.0, still_has x there.0 xs there.1, there.2)
      | inr new ↦ (k, grind (arith, nat_tests, index), omega (arith, new, number))
    ];
    limit = comes.limit;
  }

  none_in : (n p : ℕ) (xs : List Came) (w : Stretch) → Comes p xs w → IsNear c r max_wait plain settings short p xs → Contains (evicted_in c.first (count c) w) n → ⊥
  none_in n p xs w comes near some =
      let all : List ℕ = numbers_in c.first (count c) w in
      let few = few_counted c r max_wait plain settings short p xs w.left w.pushes comes.cut near comes.over comes.held_in comes.pushed in
      let none : length all - w.left.limit ≡ 0 = omega (arith, few, comes.limit) in
      no_item (subst (λ (ns : List ℕ). Contains ns n) (ap (λ (m : ℕ). take m all) none) some)
    where
      no_item : Contains [] n → ⊥
      no_item (k, l, e) = absurd (omega (arith, l))

  pub comes_begun : (p : ℕ) (xs : List Came) (s : State) → Follows p xs s → Comes p xs (begun s)
  comes_begun p xs s stands = record {
    cut = stands.cut;
    over = stands.ready.beyond.beyond;
    held_in = stands.held_in;
    pushed = λ n has. absurd (cc);
    limit = stands.limit;
  }

  pub none_evicted : (n p : ℕ) (xs : List Came) (later : List DatagramStep) (w : Stretch) (turns : List Turn) (end : Stretch) → Follows p xs w.now → Comes p xs w
      → IsLogOf c.known (packets_of c.units) r false later w turns end → GapsAreFilled max_wait (first_size c.units) xs later
      → KeepsUp r.room r.buffer.limit c.units p later (map (λ (turn : Turn). turn.answer) turns) → IsEvictedIn c.first (count c) n turns end → ⊥
  none_evicted n p xs [] w [] end stands comes log filled keeps some =
      none_in n p xs w comes stands.near (subst (λ (x : Stretch). Contains (evicted_in c.first (count c) x) n) log some)
  none_evicted n p xs [] w (turn ∷ turns) end stands comes log filled keeps some = absurd log
  none_evicted n p xs (steps.Send i ∷ later) w turns end stands comes log filled keeps some = none_evicted n p xs later w turns end stands comes log filled keeps some
  none_evicted n p xs (steps.Deliver k now ∷ later) w turns end stands comes log filled keeps some =
      let next = delivered_follows p k now later xs w turns end stands keeps.0 log in
      none_evicted n p (record { datagram = k; at = now.0 } ∷ xs) later (with_pushes w (arrived w.now.depacketizer log.1 log.0.payload ∷ [])) turns end next.1
      (comes_more p k (record { datagram = k; at = now.0 }) xs w (arrived w.now.depacketizer log.1 log.0.payload) refl next.0 comes) log.5 filled keeps.1 some
  none_evicted n p xs (steps.Pop now ∷ later) w [] end stands comes log filled keeps some = absurd log
  none_evicted n p xs (steps.Pop now ∷ later) w (turn ∷ turns) end stands comes log filled keeps (inl here) =
      none_in n p xs w comes stands.near (subst (λ (x : Stretch). Contains (evicted_in c.first (count c) x) n) log.0 here)
  none_evicted n p xs (steps.Pop now ∷ later) w (turn ∷ turns) end stands comes log filled keeps (inr rest) =
      let next = stands_popped c r max_wait plain settings short p now.0 xs w.now turn.after turn.passed turn.answer stands filled.0 filled.1 log.1 in
      none_evicted n (count_after p turn.answer) xs later (begun turn.after) turns end next.1 (comes_begun (count_after p turn.answer) xs turn.after next.1) log.2 filled.2 keeps rest
  none_evicted n p xs (steps.Finish ∷ later) w turns end stands comes log filled keeps some = absurd filled
