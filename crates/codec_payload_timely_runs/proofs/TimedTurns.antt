-- The turns of a run with the times of their pops: when a unit leaves.
use Rattle.std.proofs.Common.{◌≡◌, refl, sym, subst, ℕ, zero, suc, ◌+◌, ◌-◌, ◌<◌, ◌≤◌, ◌⊎◌, ◌||◌, ◌&&◌, not, max, inl, inr, Bool, true, false, List, [], ◌∷◌, ◌++◌, Option, Some, None, arith, cond, drop, eqb, length, take}
use Rattle.std.specs.Prelude.{Contains, slice_get}
use Rattle.std.proofs.lemmas.Bool.{cases_lt}
use Rattle.std.proofs.lemmas.Bool.Decides.{nat_tests}
use Rattle.std.proofs.lemmas.List.{take-append-drop}
use Rattle.codec_payload_base.specs.declared.wire.Ticks.{Ticks}
use Rattle.codec_payload_codec.proofs.CaseLemmas.{by_test}
use Rattle.codec_payload_buffer.proofs.MemberLemmas.{IsIn, contains_in, in_append}
use Rattle.codec_payload_buffer.proofs.StretchLemmas.{in_number, range_in}
use Rattle.codec_payload_buffer.specs.Blanks.{received_of}
use Rattle.codec_payload_buffer.specs.Held.{Held, has_number, number_of}
use Rattle.codec_payload_buffer.specs.Steps.{State, is_at_most}
use Rattle.codec_payload_buffer.specs.Stretches.{counts}
use Rattle.codec_payload_buffer.specs.declared.buffer.frames.CompleteFrame.{CompleteFrame}
use Rattle.codec_payload_metadata.specs.declared.meta.RtpMeta.{RtpMeta}
use Rattle.codec_payload_payloader.specs.Packets.{Packet}
use Rattle.codec_payload_buffer_runs.proofs.order.LossLemmas.{Whole, at_span}
use Rattle.codec_payload_buffer_runs.proofs.order.SafetyLemmas.{number_of_sent}
use Rattle.codec_payload_buffer_runs.proofs.order.TurnLemmas.{ArePushes, IsReady, Setting, count, left_ready, or_cases, span_left, span_ready, span_within}
use Rattle.codec_payload_buffer_runs.specs.Headline.{packets_before}
use Rattle.codec_payload_buffer_runs.specs.Log.{Stretch, Turn, begun, with_pushes}
use Rattle.codec_payload_buffer_runs.specs.RunOrder.{evicted_in, numbers_in}
use Rattle.codec_payload_buffer_runs.specs.RunUnits.{IsAmong, LosesPacketIn, ReleasesWhole}
use Rattle.codec_payload_buffer_runs.specs.Schedule.{Answer}
use Rattle.codec_payload_buffer_runs.specs.SentStream.{SentUnit}
use Rattle.codec_payload_jitter.specs.Receiving.{Receiving}
use Rattle.codec_payload_datagram_runs.proofs.LogLemmas.{Chained, cuts, turn_ready, watched}
use Rattle.codec_payload_datagram_runs.proofs.StretchChains.{Leaves}
use Rattle.codec_payload_datagram_runs.specs.Deliveries.{IsCutoffBelow}
use Rattle.codec_payload_codec.specs.Depacketizers.{DepacketizerState}
use Rattle.codec_payload_datagram_runs.specs.RedLogs.{IsRedLogOf}
use Rattle.codec_payload_datagram_runs.specs.WireLogs.{AnswersTurn, IsLogOf, wait_of}
use Rattle.codec_payload_datagram_runs.specs.declared.run.DatagramStep.{DatagramStep}
use Rattle.codec_payload_datagram_runs.specs.declared.run.DatagramStep.TheVariants as steps
use Rattle.codec_payload_timely_runs.proofs.WaitLemmas.{due_after, some_waits}
use Rattle.codec_payload_timely_runs.specs.TimelyRuns.{AllBefore, AllComeInTime, AllDueBy, AreDueBy, At, ComesBy, Expected, From, IsExpected, LeavesBy, MayEnd, NoneIsOverdue, PopsInTime, evicted, expected_after, held, pop_times, released, skipped_over}

-- From steps to turns

-- each turn waits as the limits say at its time
abbrev pub Answered : Receiving → List ℕ → List Turn → Type 0
Answered r [] [] = Unit {0}
Answered r [] (turn ∷ turns) = ⊥
Answered r (time ∷ times) [] = ⊥
Answered r (time ∷ times) (turn ∷ turns) =
    ((at_end : Bool) × AnswersTurn (wait_of r at_end turn.stretch.now time) turn.stretch.now turn.passed turn.answer turn.after) × Answered r times turns

pub answered : (known : ℕ → Packet → RtpMeta → Type 0) (packets : List Packet) (r : Receiving) (at_end : Bool) (later : List DatagramStep) (w : Stretch) (turns : List Turn) (end : Stretch)
    → IsLogOf known packets r at_end later w turns end → Answered r (pop_times later) turns
answered known packets r at_end [] w [] end log = tt
answered known packets r at_end [] w (turn ∷ turns) end log = absurd log
answered known packets r at_end (steps.Send i ∷ later) w turns end log = answered known packets r at_end later w turns end log
answered known packets r at_end (steps.Deliver k now ∷ later) w turns end log = answered known packets r at_end later _ turns end log.5
answered known packets r at_end (steps.Pop now ∷ later) w [] end log = absurd log
answered known packets r at_end (steps.Pop now ∷ later) w (turn ∷ turns) end log = (
  (at_end, subst (λ (x : Stretch). AnswersTurn (wait_of r at_end x.now now.0) x.now turn.passed turn.answer turn.after) (sym log.0) log.1),
  answered known packets r at_end later (begun turn.after) turns end log.2,
)
answered known packets r at_end (steps.Finish ∷ later) w turns end log = answered known packets r true later w turns end log

-- the same of a run in RED
pub red_answered : (Pushes : (highest carrier : ℕ) → Ticks → DepacketizerState → List Held → Type 0) (r : Receiving) (at_end : Bool) (highest : ℕ) (later : List DatagramStep) (w : Stretch) (turns : List Turn) (end : Stretch)
    → IsRedLogOf Pushes r at_end highest later w turns end → Answered r (pop_times later) turns
red_answered Pushes r at_end highest [] w [] end log = tt
red_answered Pushes r at_end highest [] w (turn ∷ turns) end log = absurd log
red_answered Pushes r at_end highest (steps.Send i ∷ later) w turns end log = red_answered Pushes r at_end highest later w turns end log
red_answered Pushes r at_end highest (steps.Deliver k now ∷ later) w turns end log = red_answered Pushes r at_end (max highest k) later (with_pushes w log.0) turns end log.2
red_answered Pushes r at_end highest (steps.Pop now ∷ later) w [] end log = absurd log
red_answered Pushes r at_end highest (steps.Pop now ∷ later) w (turn ∷ turns) end log = (
  (at_end, subst (λ (x : Stretch). AnswersTurn (wait_of r at_end x.now now.0) x.now turn.passed turn.answer turn.after) (sym log.0) log.1),
  red_answered Pushes r at_end highest later (begun turn.after) turns end log.2,
)
red_answered Pushes r at_end highest (steps.Finish ∷ later) w turns end log = red_answered Pushes r true highest later w turns end log

-- the pops come in time
abbrev pub Timed : ℕ → Expected → List ℕ → List Turn → Type 0
Timed max_wait e [] turns = MayEnd e
Timed max_wait e (time ∷ times) [] = ⊥
Timed max_wait e (time ∷ times) (turn ∷ turns) = IsExpected e time × Timed max_wait (expected_after max_wait time turn.answer turn.after) times turns

sooner : (max_wait : ℕ) (e : Expected) (t : ℕ) (times : List ℕ) (turns : List Turn) → IsExpected e t → Timed max_wait (At t) times turns → Timed max_wait e times turns
sooner max_wait e t [] turns is timed = absurd timed
sooner max_wait e t (time ∷ times) [] is timed = absurd timed
sooner max_wait e t (time ∷ times) (turn ∷ turns) is timed = (subst (IsExpected e) (sym timed.0) is, timed.1)

pub timed_of : (max_wait : ℕ) (e : Expected) (later : List DatagramStep) (turns : List Turn) → PopsInTime max_wait e later turns → Timed max_wait e (pop_times later) turns
timed_of max_wait e [] turns is = is
timed_of max_wait e (steps.Send i ∷ later) turns is = timed_of max_wait e later turns is
timed_of max_wait e (steps.Deliver k now ∷ later) turns is = sooner max_wait e now.0 (pop_times later) turns is.0 (timed_of max_wait (At now.0) later turns is.1)
timed_of max_wait e (steps.Pop now ∷ later) [] is = absurd is
timed_of max_wait e (steps.Pop now ∷ later) (turn ∷ turns) is = (is.0, timed_of max_wait (expected_after max_wait now.0 turn.answer turn.after) later turns is.1)
timed_of max_wait e (steps.Finish ∷ later) turns is = timed_of max_wait e later turns is

-- Times

-- the next pop comes by then
abbrev ComesSoon : ℕ → Expected → Type 0
ComesSoon by (At t) = t ≤ by
ComesSoon by (From t None) = ⊥
ComesSoon by (From t (Some deadline)) = (t < by) × (deadline ≤ by)

soon_by : (by : ℕ) (e : Expected) (time : ℕ) → ComesSoon by e → IsExpected e time → time ≤ by
soon_by by (At t) time soon is = omega (arith, soon, is)
soon_by by (From t None) time soon is = absurd soon
soon_by by (From t (Some deadline)) time soon is = omega (arith, soon.0, soon.1, is.1)

-- the latest time so far
abbrev reached : Expected → ℕ
reached (At t) = t
reached (From t deadline) = t

not_before : (e : Expected) (time : ℕ) → IsExpected e time → reached e ≤ time
not_before (At t) time is = omega (arith, is)
not_before (From t None) time is = is
not_before (From t (Some deadline)) time is = is.0

reached_after : (max_wait time : ℕ) (a : Answer) (s : State) → reached (expected_after max_wait time a s) ≡ time
reached_after max_wait time None s = refl
reached_after max_wait time (Some answer) s = refl

-- if all later pops are before a time, so is this one
before_too : (max_wait by : ℕ) (e : Expected) (times : List ℕ) (turns : List Turn) → Timed max_wait e times turns → ComesSoon by e → AllBefore by times → reached e < by
before_too max_wait by (At t) [] turns timed soon before = absurd timed
before_too max_wait by (From t None) [] turns timed soon before = absurd soon
before_too max_wait by (From t (Some deadline)) [] turns timed soon before = soon.0
before_too max_wait by e (time ∷ times) [] timed soon before = absurd timed
before_too max_wait by e (time ∷ times) (turn ∷ turns) timed soon before = let l = not_before e time timed.0 in let b = before.0 in omega (arith, l, b)

before_first : (max_wait by : ℕ) (e : Expected) (time : ℕ) → IsExpected e time → time < by → reached e < by
before_first max_wait by e time is before = let l = not_before e time is in omega (arith, l, before)

-- Packets that were pushed so far, of which none was evicted

-- some number of a range has P, or each has Q
all_or_some : (P Q : ℕ → Type 0) (a n : ℕ) → ((k : ℕ) → a ≤ k → k < n → P k ⊎ Q k) → ((k : ℕ) → a ≤ k → k < n → Q k) ⊎ ((k : ℕ) × (a ≤ k) × (k < n) × P k)
all_or_some P Q a zero each = inl (λ k low high. absurd (omega (arith, high)))
all_or_some P Q a (suc n) each = elim (all_or_some P Q a n (λ k low high. each k low (omega (arith, high)))) [
  | inr some ↦ inr (some.0, some.1, omega (arith, some.2), some.3)
  | inl below ↦ elim (cases_lt n a) [
    | inl before ↦ inl (λ k low high. absurd (omega (arith, before, low, high)))
    | inr here ↦ elim (each n here (omega arith)) [
      | inl p ↦ inr (n, here, omega arith, p)
      | inr q ↦ inl (λ k low high. elim (cases_lt k n) [ inl less ↦ below k low less | inr ge ↦ let e : n ≡ k = omega (arith, ge, high) in subst Q e q ])
    ]
  ]
]

-- a number that counts is evicted, or held at the end
counted_is : (low many : ℕ) (w : Stretch) (n : ℕ) → Leaves low many w → counts w.left w.pushes n ≡ true → Contains (evicted_in low many w) n ⊎ (has_number n w.now.held ≡ true)
counted_is low many w n leaves counts_it =
    let all = numbers_in low many w in
    let m = length all - w.left.limit in
    let within = leaves.within n counts_it in
    let there : IsIn n all = range_in (counts w.left w.pushes) n low many within.0 within.1 counts_it in
    elim (in_append n (take m all) (drop m all) (subst (IsIn n) (sym (take-append-drop m all)) there)) [
      | inl gone ↦ inl (contains_in n (take m all) gone)
      | inr still ↦ inr (in_number n w.now.held (subst (IsIn n) (sym leaves.left.held) still))
    ]

counts_as : (a b d : Bool) → (a ≡ true) ⊎ ((b ≡ false) × (d ≡ true)) → (a || (not b && d)) ≡ true
counts_as true b d is = refl
counts_as false true true (inl e) = absurd (cc)
counts_as false true false (inl e) = absurd (cc)
counts_as false false true (inl e) = refl
counts_as false false false (inl e) = absurd (cc)
counts_as false b d (inr is) = rw is.0 (rw is.1 refl)

above_is : (cutoff : Option ℕ) (low n : ℕ) → IsCutoffBelow low cutoff → low ≤ n → is_at_most cutoff n ≡ false
above_is None low n below at = refl
above_is (Some m) low n below at = grind (arith, nat_tests, below, at)

pushed_in : (n : ℕ) (ps qs : List Held) → has_number n (ps ++ qs) ≡ true → (has_number n ps ≡ true) ⊎ (has_number n qs ≡ true)
pushed_in n [] qs h = inr h
pushed_in n (p ∷ ps) qs h = elim (or_cases (eqb (number_of p) n) (has_number n (ps ++ qs)) h) [
  | inl here ↦ inl (grind (arith, nat_tests, here))
  | inr later ↦ elim (pushed_in n ps qs later) [ inl a ↦ inl (grind (arith, nat_tests, a)) | inr b ↦ inr b ]
]

-- the packets of a range that were pushed are held
abbrev Holds : (low high : ℕ) → List Held → State → Type 0
Holds low high ps s = (n : ℕ) → low ≤ n → n < high → has_number n ps ≡ true → has_number n s.held ≡ true

hold_on : (low high from many : ℕ) (ps : List Held) (w : Stretch) → Leaves from many w → IsCutoffBelow low w.left.cutoff → Holds low high ps w.left
    → Holds low high (ps ++ w.pushes) w.now ⊎ ((n : ℕ) × (low ≤ n) × (n < high) × Contains (evicted_in from many w) n)
hold_on low high from many ps w leaves below holds =
    all_or_some (λ n. Contains (evicted_in from many w) n) (λ n. has_number n (ps ++ w.pushes) ≡ true → has_number n w.now.held ≡ true) low high
    (λ n a b. by_test (has_number n (ps ++ w.pushes))
    (λ x. has_number n (ps ++ w.pushes) ≡ x → Contains (evicted_in from many w) n ⊎ (has_number n (ps ++ w.pushes) ≡ true → has_number n w.now.held ≡ true))
    (λ t is. elim (counted n a b is) [ inl gone ↦ inl gone | inr still ↦ inr (λ h. still) ])
    (λ f is. inr (λ h. absurd (cc))) refl)
  where
    counted : (n : ℕ) → low ≤ n → n < high → has_number n (ps ++ w.pushes) ≡ true → Contains (evicted_in from many w) n ⊎ (has_number n w.now.held ≡ true)
    counted n a b is = elim (pushed_in n ps w.pushes is) [
      | inl early ↦ counted_is from many w n leaves (counts_as (has_number n w.left.held) (is_at_most w.left.cutoff n) (has_number n w.pushes) (inl (holds n a b early)))
      | inr new ↦ counted_is from many w n leaves (counts_as (has_number n w.left.held) (is_at_most w.left.cutoff n) (has_number n w.pushes) (inr (above_is w.left.cutoff low n below a, new)))
    ]

-- Frames are due when their deliveries say

module _ (c : Setting) where
  -- a held packet, and when it came
  came_at : (hs : List Held) → ArePushes c hs → (n : ℕ) (since : Ticks) → received_of n hs ≡ Some since
      → (k : ℕ) × (q : Packet) × (meta : RtpMeta) × c.known k q meta × (meta.received ≡ since) × (c.first + k ≡ n)
  came_at [] sent n since h = absurd (cc)
  came_at (p ∷ ps) sent n since h =
      by_test (eqb (number_of p) n)
      (λ b. cond b (Some p.meta.received) (received_of n ps) ≡ Some since → (k : ℕ) × (q : Packet) × (meta : RtpMeta) × c.known k q meta × (meta.received ≡ since) × (c.first + k ≡ n))
      (λ e here.
      let i = sent.0 in
      let number = number_of_sent c.known c.clock_rate c.first c.kind c.faithful c.splits c.units c.lawful c.numbered p i in
      let same : number_of p ≡ n = grind (arith, nat_tests, e) in
      let time : p.meta.received ≡ since = cc in
      (i.0, i.1, p.meta, i.3, time, omega (arith, number, same)))
      (λ e later. came_at ps sent.1 n since later) h

  module _ (max_wait by high : ℕ) (told : (k : ℕ) (q : Packet) (meta : RtpMeta) → c.known k q meta → c.first + k < high → meta.received.0 + max_wait ≤ by) where
    are_due : (s : State) → ArePushes c s.held → AreDueBy max_wait by high s
    are_due s sent f since is below at =
        let came = came_at s.held sent f.last since at in
        let number = came.5 in
        let soon : came.2.received.0 + max_wait ≤ by = told came.0 came.1 came.2 came.3 (omega (arith, below, number)) in
        subst (λ (time : Ticks). time.0 + max_wait ≤ by) came.4 soon

    pub due_by_deliveries : (from : ℕ) (s : State) (turns : List Turn) (end : Stretch) → IsReady c from s → Chained c s turns end → AllDueBy max_wait by high turns
    due_by_deliveries from s [] end ready chain = tt
    due_by_deliveries from s (turn ∷ turns) end ready chain =
        let now = span_ready c from turn.stretch (left_ready c from s turn.stretch chain.0 ready) chain.1 in
        let next = turn_ready c from turn.stretch.now turn.after turn.passed turn.answer now chain.2 in
        (are_due turn.stretch.now now.beyond.sent, are_due turn.after next.1.beyond.sent, due_by_deliveries next.0 turn.after turns end next.1 chain.3)

-- Units

module _ (c : Setting) (r : Receiving) (max_wait : ℕ) (limit : r.wait_limits.max_wait ≡ Some max_wait) where
  abbrev low_of : ℕ → ℕ
  low_of place = c.first + packets_before place c.units

  abbrev high_of : ℕ → ℕ
  high_of place = c.first + packets_before (place + 1) c.units

  pub none_overdue : (from : ℕ) (s : State) (turns : List Turn) (end : Stretch) (times : List ℕ) → IsReady c from s → Chained c s turns end → Answered r times turns
      → NoneIsOverdue max_wait c.first c.units times turns
  none_overdue from s [] end [] ready chain answers = tt
  none_overdue from s (turn ∷ turns) end [] ready chain answers = tt
  none_overdue from s [] end (time ∷ times) ready chain answers = absurd answers
  none_overdue from s (turn ∷ turns) end (time ∷ times) ready chain answers =
      let now = span_ready c from turn.stretch (left_ready c from s turn.stretch chain.0 ready) chain.1 in
      let next = turn_ready c from turn.stretch.now turn.after turn.passed turn.answer now chain.2 in (
        λ none place u at whole.
            some_waits c r answers.0.0 max_wait time place u from next.0 turn.stretch.now turn.after turn.passed limit at now next.1
            (subst (λ (a : Answer). AnswersTurn (wait_of r answers.0.0 turn.stretch.now time) turn.stretch.now turn.passed a turn.after) none answers.0.1) whole,
        none_overdue next.0 turn.after turns end times next.1 chain.3 answers.1,
      )

  module _ (place by : ℕ) (u : SentUnit) (at : slice_get c.units place ≡ Some u) where
    abbrev Out : List ℕ → List Turn → Stretch → Type 0
    Out times turns end = LeavesBy c.known c.first c.splits c.units place by times turns end

    lost_later : (turn : Turn) (turns : List Turn) (end : Stretch) → LosesPacketIn c.first c.units place turns end → LosesPacketIn c.first c.units place (turn ∷ turns) end
    lost_later turn turns end is = (is.0, is.1, inr is.2)

    -- one more turn in front
    more : (time : ℕ) (times : List ℕ) (turn : Turn) (turns : List Turn) (end : Stretch) → (AllBefore by times → time < by) → Out times turns end → Out (time ∷ times) (turn ∷ turns) end
    more time times turn turns end before (released is) = released (inr is)
    more time times turn turns end before (skipped_over is) = skipped_over (inr is)
    more time times turn turns end before (evicted is) = evicted (lost_later turn turns end is)
    more time times turn turns end before (held whole all) = held whole (before all, all)

    -- after a pop by then that leaves the unit whole, the next one comes by then
    soon_after : (time from next : ℕ) (at_end : Bool) (turn : Turn) → IsReady c from turn.stretch.now → IsReady c next turn.after
        → AnswersTurn (wait_of r at_end turn.stretch.now time) turn.stretch.now turn.passed turn.answer turn.after
        → AreDueBy max_wait by (high_of place) turn.stretch.now → AreDueBy max_wait by (high_of place) turn.after → time ≤ by → Whole c place turn.after
        → ComesSoon by (expected_after max_wait time turn.answer turn.after)
    soon_after time from next at_end turn now after answers due due_then soon whole = by_answer turn.answer refl
      where
        by_answer : (a : Answer) → turn.answer ≡ a → ComesSoon by (expected_after max_wait time a turn.after)
        by_answer (Some answer) e = soon
        by_answer None e =
            let waits = some_waits c r at_end max_wait time place u from next turn.stretch.now turn.after turn.passed limit at now after
            (subst (λ (a : Answer). AnswersTurn (wait_of r at_end turn.stretch.now time) turn.stretch.now turn.passed a turn.after) e answers) whole in
            let first = due_after c max_wait place u next turn.after after at whole in
            let one = due waits.0 waits.1 waits.2 waits.3 waits.4 in
            let is_before = waits.5 in
            let two = due_then first.0.frame first.0.since (subst (λ (fs : List CompleteFrame). Contains fs first.0.frame) (sym first.0.are) (0, omega arith, refl)) first.0.below first.0.at in
            subst (λ (d : Option ℕ). ComesSoon by (From time d)) (sym first.1) (omega (arith, one, is_before), two)

    -- a unit that is held whole before a pop by then
    at_pop : (time : ℕ) (times : List ℕ) (from next : ℕ) (at_end : Bool) (turn : Turn) (turns : List Turn) (end : Stretch) → IsReady c from turn.stretch.now → IsReady c next turn.after
        → (Whole c place turn.stretch.now → ReleasesWhole c.known c.splits c.units place turn.answer ⊎ (IsAmong c.first c.units place turn.passed ⊎ Whole c place turn.after))
        → AnswersTurn (wait_of r at_end turn.stretch.now time) turn.stretch.now turn.passed turn.answer turn.after
        → AreDueBy max_wait by (high_of place) turn.stretch.now → AreDueBy max_wait by (high_of place) turn.after → time ≤ by
        → Timed max_wait (expected_after max_wait time turn.answer turn.after) times turns → Whole c place turn.stretch.now
        → (ComesSoon by (expected_after max_wait time turn.answer turn.after) → Whole c place turn.after → Out times turns end)
        → Out (time ∷ times) (turn ∷ turns) end
    at_pop time times from next at_end turn turns end now after watches answers due due_then soon timed whole later = elim (watches whole) [
      | inl done ↦ released (inl (soon, done))
      | inr left ↦ elim left [
        | inl over ↦ skipped_over (inl (soon, over))
        | inr still ↦
            let next_soon = soon_after time from next at_end turn now after answers due due_then soon still in
            more time times turn turns end
            (λ all. subst (λ (m : ℕ). m < by) (reached_after max_wait time turn.answer turn.after)
            (before_too max_wait by (expected_after max_wait time turn.answer turn.after) times turns timed next_soon all)) (later next_soon still)
      ]
    ]

    -- what the next pop does with the unit
    watches_of : (from : ℕ) (s : State) (turn : Turn) (turns : List Turn) (end : Stretch) → IsReady c from s → Chained c s (turn ∷ turns) end → Whole c place turn.stretch.now
        → ReleasesWhole c.known c.splits c.units place turn.answer ⊎ (IsAmong c.first c.units place turn.passed ⊎ Whole c place turn.after)
    watches_of from s turn turns end ready chain whole =
        elim ((watched c place u at from s (turn ∷ turns) end ready chain).0 (λ n a b. whole n (record { from = a; to = b }))) [
          | inl done ↦ inl done
          | inr left ↦ elim left [ inl over ↦ inr (inl over) | inr still ↦ inr (inr (λ n is. still n is.from is.to)) ]
        ]

    -- a unit that is held whole after a pop
    leaves_after : (from : ℕ) (s : State) (turns : List Turn) (end : Stretch) (times : List ℕ) (e : Expected) → IsReady c from s → Chained c s turns end → Answered r times turns
        → Timed max_wait e times turns → AllDueBy max_wait by (high_of place) turns → ComesSoon by e → Whole c place s → Out times turns end
    leaves_after from s [] end [] e ready chain answers timed due soon whole =
        elim (at_span c from end place (left_ready c from s end chain.0 ready) chain.1 (subst (Whole c place) (sym chain.0) whole)) [
          | inl still ↦ held still tt
          | inr out ↦ evicted out
        ]
    leaves_after from s (turn ∷ turns) end [] e ready chain answers timed due soon whole = absurd answers
    leaves_after from s [] end (time ∷ times) e ready chain answers timed due soon whole = absurd answers
    leaves_after from s (turn ∷ turns) end (time ∷ times) e ready chain answers timed due soon whole =
        let left = left_ready c from s turn.stretch chain.0 ready in
        let now = span_ready c from turn.stretch left chain.1 in
        let next = turn_ready c from turn.stretch.now turn.after turn.passed turn.answer now chain.2 in
        elim (at_span c from turn.stretch place left chain.1 (subst (Whole c place) (sym chain.0) whole)) [
          | inr out ↦ evicted (out.0, out.1, inl out.2)
          | inl still ↦
              at_pop time times from next.0 answers.0.0 turn turns end now next.1 (watches_of from s turn turns end ready chain) answers.0.1 due.0 due.1 (soon_by by e time soon timed.0) timed.1 still
              (λ next_soon after. leaves_after next.0 turn.after turns end times (expected_after max_wait time turn.answer turn.after) next.1 chain.3 answers.1 timed.1 due.2 next_soon after)
        ]

    -- a unit whose packets come by then
    comes : (from : ℕ) (s : State) (turns : List Turn) (end : Stretch) (times : List ℕ) (e : Expected) (ps : List Held) → IsReady c from s → Chained c s turns end → Answered r times turns
        → Timed max_wait e times turns → AllDueBy max_wait by (high_of place) turns → IsCutoffBelow (low_of place) s.cutoff → Holds (low_of place) (high_of place) ps s
        → ComesBy by (low_of place) (high_of place) ps times turns → Out times turns end
    comes from s turns end [] e ps ready chain answers timed due below holds is = absurd is
    comes from s [] end (time ∷ times) e ps ready chain answers timed due below holds is = absurd is
    comes from s (turn ∷ turns) end (time ∷ times) e ps ready chain answers timed due below holds is =
        let left = left_ready c from s turn.stretch chain.0 ready in
        let now = span_ready c from turn.stretch left chain.1 in
        let next = turn_ready c from turn.stretch.now turn.after turn.passed turn.answer now chain.2 in
        let leaves : Leaves c.first (count c) turn.stretch = record { within = span_within c from turn.stretch left chain.1; left = span_left c from turn.stretch left chain.1 } in
        elim (hold_on (low_of place) (high_of place) c.first (count c) ps turn.stretch leaves (subst (λ (x : State). IsCutoffBelow (low_of place) x.cutoff) (sym chain.0) below)
        (subst (Holds (low_of place) (high_of place) ps) (sym chain.0) holds)) [
          | inr gone ↦ evicted (gone.0, record { from = gone.1; to = gone.2 }, inl gone.3)
          | inl here ↦ elim is [
            | inl all ↦
                at_pop time times from next.0 answers.0.0 turn turns end now next.1 (watches_of from s turn turns end ready chain) answers.0.1 due.0 due.1 all.0 timed.1
                (λ n is_in. here n is_in.from is_in.to (all.1 n is_in.from is_in.to))
                (λ next_soon after. leaves_after next.0 turn.after turns end times (expected_after max_wait time turn.answer turn.after) next.1 chain.3 answers.1 timed.1 due.2 next_soon after)
            | inr on ↦
                more time times turn turns end (later_before turn time turns times (ps ++ turn.stretch.pushes) timed.1 on.1)
                (comes next.0 turn.after turns end times (expected_after max_wait time turn.answer turn.after) (ps ++ turn.stretch.pushes) next.1 chain.3 answers.1 timed.1 due.2 on.0
                (λ n a b h. (cuts c (low_of place) from s (turn ∷ turns) end ready chain).0 on.0 n a (here n a b h)) on.1)
          ]
        ]
      where
        later_before : (turn : Turn) (time : ℕ) (turns : List Turn) (times : List ℕ) (qs : List Held) → Timed max_wait (expected_after max_wait time turn.answer turn.after) times turns
            → ComesBy by (low_of place) (high_of place) qs times turns → AllBefore by times → time < by
        later_before turn time turns [] qs timed comes all = absurd comes
        later_before turn time [] (t ∷ times) qs timed comes all = absurd comes
        later_before turn time (next ∷ turns) (t ∷ times) qs timed comes all =
            subst (λ (m : ℕ). m < by) (reached_after max_wait time turn.answer turn.after)
            (before_first max_wait by (expected_after max_wait time turn.answer turn.after) t timed.0 all.0)

  -- each unit
  pub units_come : (s : State) (turns : List Turn) (end : Stretch) (times : List ℕ) → IsReady c 0 s → s.cutoff ≡ None → Chained c s turns end → Answered r times turns
      → Timed max_wait (From 0 None) times turns → AllComeInTime c.known max_wait c.first c.splits c.units times turns end
  units_come s turns end times ready no_cutoff chain answers timed place by u at is due =
      comes place by u at 0 s turns end times (From 0 None) [] ready chain answers timed due (subst (IsCutoffBelow (low_of place)) (sym no_cutoff) tt) (λ n a b h. absurd (cc)) is
