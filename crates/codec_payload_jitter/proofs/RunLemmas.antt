-- Pushes into a jitter buffer are pushes into its buffer.
use Rattle.std.proofs.Common.{◌≡◌, ◌∙◌, refl, ap, sym, subst, ℕ, List, [], ◌∷◌, map, Bool, true, false, Option, Some, None, length, cond, ltb}
use Rattle.codec_payload_numbers.specs.declared.numbers.Extended.{Extended}
use Rattle.codec_payload_numbers.specs.declared.numbers.Extended.TheVariants as extended
use Rattle.codec_payload_codec.specs.Depacketizers.{DepacketizerState}
use Rattle.codec_payload_buffer.specs.Held.{Held, number_of, placed}
use Rattle.codec_payload_buffer.specs.Steps.{State, pushed, is_dropped, without_lowest, Pops}
use Rattle.codec_payload_buffer.specs.Stretches.{after_pushes}
use Rattle.codec_payload_numbers.specs.Numbers.{Numbering, low_bits, no_numbers, number_for, numbering_after, numbers_for, answer_for}
use Rattle.codec_payload_numbers.specs.Numbers.{numbering_with, without_restart, number_in, is_restart, GoOn, moved}
use Rattle.codec_payload_numbers.specs.NotedTimes.{AreTimesOf, Noted, first_or, is_untimely, noted_with}
use Rattle.codec_payload_jitter.proofs.RestartLemmas.{answer_to_is, answer_without_former}
use Rattle.codec_payload_numbers.proofs.TimesLemmas.{still_times}
use Rattle.codec_payload_jitter.specs.Receiving.{answer_by_time, answer_to, first_with, with_noted}
use Rattle.codec_payload_jitter.specs.Receiving.{Receiving, Arrival, answer_in, Receives, ReceivesAs, TakesIn, settled, waiting_at, PopsWith}
use Rattle.codec_payload_jitter.specs.NoMediaNumbers.{passed_no_media, no_media_left}
use Rattle.codec_payload_jitter.specs.Runs.{ReceivesAll, HaveTimes, HaveTimesByRound, first_through, low_numbers, timed, ArriveAs, AreStretches, AreTrueStretches, Answer, numbering_past, numbers_by_round, TurnWith, IsChain, GoOnByRound, Round, AreChains}
use Rattle.codec_payload_numbers.specs.declared.noted_times.NotedTime.{NotedTime}
use Rattle.codec_payload_jitter.specs.declared.outcome.Outcome.{Outcome}
use Rattle.codec_payload_numbers.proofs.NumbersLemmas.{are_true_numbers, none_restarts}

lowest_depacketizer : (s : State) (ps : List Held) → (without_lowest s ps).depacketizer ≡ s.depacketizer
lowest_depacketizer s [] = refl
lowest_depacketizer s (p ∷ ps) = refl

pushed_depacketizer : (s : State) (p : Held) → (pushed s p).depacketizer ≡ s.depacketizer
pushed_depacketizer s p = by_tests (is_dropped s (number_of p)) (ltb s.limit (length (placed p s.held)))
  where
    by_tests : (a b : Bool) → (cond a s (cond b (without_lowest (record s { held = placed p s.held }) (placed p s.held)) (record s { held = placed p s.held }))).depacketizer ≡ s.depacketizer
    by_tests true b = refl
    by_tests false true = lowest_depacketizer (record s { held = placed p s.held }) (placed p s.held)
    by_tests false false = refl

-- the buffer stores the packet under its number, if it has one
abbrev pub TakesAt : ℕ → Arrival → Option ℕ → State → State → Type 0
TakesAt rate a None s t = t ≡ s
TakesAt rate a (Some n) s t = TakesIn rate a n s t

takes_depacketizer : (rate : ℕ) (a : Arrival) (number : Option ℕ) (s t : State) → TakesAt rate a number s t → t.depacketizer ≡ s.depacketizer
takes_depacketizer rate a None s t takes = ap (λ (x : State). x.depacketizer) takes
takes_depacketizer rate a (Some n) s t takes = ap (λ (x : State). x.depacketizer) takes.2 ∙ pushed_depacketizer s takes.0

-- the noted times after a packet
abbrev pub noted_at : Receiving → Arrival → Option ℕ → Noted
noted_at r a None = r.noted
noted_at r a (Some n) = noted_with r.noted (record { number = n; time = a.header.timestamp })

-- the effect of a push, if no restart is reported
pub record IsOne (number : Option ℕ) (a : Arrival) (r t : Receiving) : Type 0 where
  pub takes : TakesAt r.rate a number r.buffer t.buffer
  pub rate : t.rate ≡ r.rate
  pub no_media_numbers : t.no_media_numbers ≡ r.no_media_numbers
  pub noted : t.noted ≡ noted_at r a number

one_as : (answer : Extended) (a : Arrival) (r t : Receiving) (outcome : Outcome) → is_restart answer ≡ false → ReceivesAs answer a r outcome t → IsOne (number_in answer) a r t
one_as (extended.Number n) a r t outcome on got =
    let all : t ≡ with_noted n a got.0 = got.2 in
    record {
      takes = subst (λ (s : State). TakesIn r.rate a n r.buffer s) (sym (ap (λ (x : Receiving). x.buffer) all ∙ ap (λ (x : Receiving). x.buffer) got.1.3)) got.1.1;
      rate = ap (λ (x : Receiving). x.rate) all ∙ ap (λ (x : Receiving). x.rate) got.1.3;
      no_media_numbers = ap (λ (x : Receiving). x.no_media_numbers) all ∙ ap (λ (x : Receiving). x.no_media_numbers) got.1.3;
      noted = ap (λ (x : Receiving). x.noted) all ∙ ap (λ (x : Receiving). noted_at x a (Some n)) got.1.3;
    }
one_as (extended.Restarted n) a r t outcome on got = cc
one_as extended.Suspect a r t outcome on got = record {
  takes = ap (λ (x : Receiving). x.buffer) got.1;
  rate = ap (λ (x : Receiving). x.rate) got.1;
  no_media_numbers = ap (λ (x : Receiving). x.no_media_numbers) got.1;
  noted = ap (λ (x : Receiving). x.noted) got.1;
}
one_as extended.Spent a r t outcome on got = record {
  takes = ap (λ (x : Receiving). x.buffer) got.1;
  rate = ap (λ (x : Receiving). x.rate) got.1;
  no_media_numbers = ap (λ (x : Receiving). x.no_media_numbers) got.1;
  noted = ap (λ (x : Receiving). x.noted) got.1;
}

-- the first packet stays until the number is taken
one_first : (answer : Extended) (a : Arrival) (r t : Receiving) (outcome : Outcome) → is_restart answer ≡ false → ReceivesAs answer a r outcome t → t.first ≡ r.first
one_first (extended.Number n) a r t outcome on got = ap (λ (x : Receiving). x.first) got.2 ∙ ap (λ (x : Receiving). x.first) got.1.3
one_first (extended.Restarted n) a r t outcome on got = cc
one_first extended.Suspect a r t outcome on got = ap (λ (x : Receiving). x.first) got.1
one_first extended.Spent a r t outcome on got = ap (λ (x : Receiving). x.first) got.1

unless_restart : (answer : Extended) → is_restart answer ≡ false → without_restart answer ≡ answer
unless_restart (extended.Number n) on = refl
unless_restart (extended.Restarted n) on = cc
unless_restart extended.Suspect on = refl
unless_restart extended.Spent on = refl

-- if the numbering reports no restart and the caller announces none, the answer is the numbering's
answer_is : (r : Receiving) (low : ℕ) → r.is_restarting ≡ false → is_restart (answer_for r.numbering low) ≡ false → answer_in r low ≡ answer_for r.numbering low
answer_is r low running on = rw running (by_ended r.ended)
  where
    by_ended : (b : Bool) → cond b (without_restart (answer_for r.numbering low)) (answer_for r.numbering low) ≡ answer_for r.numbering low
    by_ended true = unless_restart (answer_for r.numbering low) on
    by_ended false = refl

-- a packet that has a number has its RTP time, and is timely after the first one
abbrev pub HasTime : (ℕ → ℕ) → ℕ → Option NotedTime → Arrival → Option ℕ → Type 0
HasTime time_of rate first a None = Unit {0}
HasTime time_of rate first a (Some n) = (a.header.timestamp ≡ time_of n) × (is_untimely rate first (timed n a) ≡ false)

-- the first packet after it
abbrev pub first_at : Option NotedTime → Arrival → Option ℕ → Option NotedTime
first_at first a None = first
first_at first a (Some n) = first_or first (timed n a)

first_of_answer : (e : Extended) (a : Arrival) (first : Option NotedTime) → is_restart e ≡ false → first_with first e a.header.timestamp ≡ first_at first a (number_in e)
first_of_answer (extended.Number n) a first on = refl
first_of_answer (extended.Restarted n) a first on = cc
first_of_answer extended.Suspect a first on = refl
first_of_answer extended.Spent a first on = refl

-- so the answer is the numbering's
answer_of : (time_of : ℕ → ℕ) (r : Receiving) (a : Arrival) (answer : Extended) → r.is_restarting ≡ false → answer_for r.numbering a.header.sequence_number ≡ answer → is_restart answer ≡ false
    → AreTimesOf time_of r.noted → HasTime time_of r.rate r.first a (number_in answer) → answer_to r a.header ≡ answer
answer_of time_of r a (extended.Number n) running is on times time = answer_to_is time_of r a.header n running times is time.0 time.1
answer_of time_of r a (extended.Restarted n) running is on times time = cc
answer_of time_of r a extended.Suspect running is on times time =
    answer_without_former r a.header times.1 ∙ ap (answer_by_time r a.header) (answer_is r a.header.sequence_number running (ap is_restart is) ∙ is)
answer_of time_of r a extended.Spent running is on times time =
    answer_without_former r a.header times.1 ∙ ap (answer_by_time r a.header) (answer_is r a.header.sequence_number running (ap is_restart is) ∙ is)

-- the noted times are still the sender's
still_at : (time_of : ℕ → ℕ) (r : Receiving) (a : Arrival) (number : Option ℕ) → HasTime time_of r.rate r.first a number → AreTimesOf time_of r.noted → AreTimesOf time_of (noted_at r a number)
still_at time_of r a None time times = times
still_at time_of r a (Some n) time times = still_times time_of r.noted (record { number = n; time = a.header.timestamp }) time.0 times

-- one push
pub record OneOf (time_of : ℕ → ℕ) (a : Arrival) (r t : Receiving) : Type 0 where
  pub one : IsOne (number_for r.numbering a.header.sequence_number) a r t
  pub numbering : t.numbering ≡ numbering_after r.numbering a.header.sequence_number
  pub running : t.is_restarting ≡ false
  pub first : t.first ≡ first_at r.first a (number_for r.numbering a.header.sequence_number)
  pub times : AreTimesOf time_of t.noted

one_of : (time_of : ℕ → ℕ) (a : Arrival) (r t : Receiving) (outcome : Outcome) → r.is_restarting ≡ false → is_restart (answer_for r.numbering a.header.sequence_number) ≡ false
    → AreTimesOf time_of r.noted → HasTime time_of r.rate r.first a (number_for r.numbering a.header.sequence_number) → Receives a r outcome t → OneOf time_of a r t
one_of time_of a r t outcome running on times time receives =
    let low = a.header.sequence_number in
    let is : answer_to r a.header ≡ answer_for r.numbering low = answer_of time_of r a (answer_for r.numbering low) running refl on times time in
    let mid : Receiving = receives.0 in
    let taken : ReceivesAs (answer_for r.numbering low) a r outcome mid = subst (λ (e : Extended). ReceivesAs e a r outcome mid) is receives.1 in
    let one = one_as (answer_for r.numbering low) a r mid outcome on taken in
    let number = number_for r.numbering low in
    let noted : t.noted ≡ noted_at r a number = ap (λ (x : Receiving). x.noted) receives.2 ∙ one.noted in
    record {
      one = record {
        takes = subst (λ (s : State). TakesAt r.rate a number r.buffer s) (sym (ap (λ (x : Receiving). x.buffer) receives.2)) one.takes;
        rate = ap (λ (x : Receiving). x.rate) receives.2 ∙ one.rate;
        no_media_numbers = ap (λ (x : Receiving). x.no_media_numbers) receives.2 ∙ one.no_media_numbers;
        noted = noted;
      };
      numbering = ap (λ (x : Receiving). x.numbering) receives.2 ∙ ap (λ (e : Extended). numbering_with r.numbering e low) is;
      running = ap (λ (x : Receiving). x.is_restarting) receives.2;
      first = ap (λ (x : Receiving). x.first) receives.2
          ∙ (ap (λ (o : Option NotedTime). first_with o (answer_to r a.header) a.header.timestamp) (one_first (answer_for r.numbering low) a r mid outcome on taken)
          ∙ (ap (λ (e : Extended). first_with r.first e a.header.timestamp) is ∙ first_of_answer (answer_for r.numbering low) a r.first on));
      times = subst (AreTimesOf time_of) (sym noted) (still_at time_of r a number time times);
    }

-- the first packet, and the packets after it
first_time : (time_of : ℕ → ℕ) (rate : ℕ) (first : Option NotedTime) (a : Arrival) (arrivals : List Arrival) (number : Option ℕ) (numbers : List (Option ℕ))
    → HaveTimes time_of rate first (a ∷ arrivals) (number ∷ numbers)
    → HasTime time_of rate first a number × HaveTimes time_of rate (first_at first a number) arrivals numbers
first_time time_of rate first a arrivals None numbers have = (tt, have)
first_time time_of rate first a arrivals (Some n) numbers have = ((have.0, have.1), have.2)

first_more : (first : Option NotedTime) (a : Arrival) (arrivals : List Arrival) (number : Option ℕ) (numbers : List (Option ℕ))
    → first_through first (a ∷ arrivals) (number ∷ numbers) ≡ first_through (first_at first a number) arrivals numbers
first_more first a arrivals None numbers = refl
first_more first a arrivals (Some n) numbers = refl

-- the same premise for the jitter buffer after a packet
still_have : (time_of : ℕ → ℕ) (arrivals : List Arrival) (rate : ℕ) (first : Option NotedTime) (n : Numbering) (t : Receiving) → t.rate ≡ rate → t.first ≡ first → t.numbering ≡ n
    → HaveTimes time_of rate first arrivals (numbers_for n (low_numbers arrivals)) → HaveTimes time_of t.rate t.first arrivals (numbers_for t.numbering (low_numbers arrivals))
still_have time_of arrivals rate first n t rate_is first_is numbering have =
    subst (λ (k : ℕ). HaveTimes time_of k t.first arrivals (numbers_for t.numbering (low_numbers arrivals))) (sym rate_is)
    (subst (λ (f : Option NotedTime). HaveTimes time_of rate f arrivals (numbers_for t.numbering (low_numbers arrivals))) (sym first_is)
    (subst (λ (s : Numbering). HaveTimes time_of rate first arrivals (numbers_for s (low_numbers arrivals))) (sym numbering) have))

one_more : (a : Arrival) (arrivals : List Arrival) (rate : ℕ) (s m t : State) (number : Option ℕ) (numbers : List (Option ℕ)) (ps : List Held)
    → TakesAt rate a number s m → ArriveAs s.depacketizer rate arrivals numbers ps → t ≡ after_pushes m ps
    → (qs : List Held) × ArriveAs s.depacketizer rate (a ∷ arrivals) (number ∷ numbers) qs × (t ≡ after_pushes s qs)
one_more a arrivals rate s m t None numbers ps takes arrive is = (ps, arrive, is ∙ ap (λ (x : State). after_pushes x ps) takes)
one_more a arrivals rate s m t (Some n) numbers ps takes arrive is = (takes.0 ∷ ps, (takes.0, ps, refl, takes.1, arrive), is ∙ ap (λ (x : State). after_pushes x ps) takes.2)

pub are_stretches : AreStretches
are_stretches time_of [] r t outcomes running on times have all = ([], refl, ap (λ (x : Receiving). x.buffer) all.1)
are_stretches time_of (a ∷ arrivals) r t outcomes running on times have all =
    let mid : Receiving = all.2 in
    let low : ℕ = a.header.sequence_number in
    let time = first_time time_of r.rate r.first a arrivals (number_for r.numbering low) (numbers_for (numbering_after r.numbering low) (low_numbers arrivals)) have in
    let one = one_of time_of a r mid all.0 running on.0 times time.0 all.4 in
    let numbering : mid.numbering ≡ numbering_after r.numbering low = one.numbering in
    let later = are_stretches time_of arrivals mid t all.1 one.running (subst (λ (n : Numbering). GoOn n (low_numbers arrivals)) (sym numbering) on.1)
    one.times (still_have time_of arrivals r.rate (first_at r.first a (number_for r.numbering low)) (numbering_after r.numbering low) mid one.one.rate one.first numbering time.1) all.5 in
    let depacketizer : mid.buffer.depacketizer ≡ r.buffer.depacketizer = takes_depacketizer r.rate a (number_for r.numbering low) r.buffer mid.buffer one.one.takes in
    let arrive : ArriveAs r.buffer.depacketizer r.rate arrivals (numbers_for (numbering_after r.numbering low) (low_numbers arrivals)) later.0 =
    subst (λ (d : DepacketizerState). ArriveAs d r.rate arrivals (numbers_for (numbering_after r.numbering low) (low_numbers arrivals)) later.0) depacketizer
    (subst (λ (k : ℕ). ArriveAs mid.buffer.depacketizer k arrivals (numbers_for (numbering_after r.numbering low) (low_numbers arrivals)) later.0) one.one.rate
    (subst (λ (n : Numbering). ArriveAs mid.buffer.depacketizer mid.rate arrivals (numbers_for n (low_numbers arrivals)) later.0) numbering later.1)) in
    one_more a arrivals r.rate r.buffer mid.buffer t.buffer (number_for r.numbering low) (numbers_for (numbering_after r.numbering low) (low_numbers arrivals)) later.0 one.one.takes arrive later.2

pub are_true_stretches : AreTrueStretches
are_true_stretches time_of forward backward first ts arrivals r t outcomes running times have kept fresh fits near lows all =
    let on : GoOn r.numbering (low_numbers arrivals) =
    subst (λ (ns : List ℕ). GoOn r.numbering ns) (sym lows) (subst (λ (n : Numbering). GoOn n (map low_bits (first ∷ ts))) (sym fresh) (none_restarts forward backward kept first ts fits near)) in
    let numbers : numbers_for r.numbering (low_numbers arrivals) ≡ map (moved first) (first ∷ ts) =
    ap (λ (n : Numbering). numbers_for n (low_numbers arrivals)) fresh ∙ ap (λ (ns : List ℕ). numbers_for (no_numbers forward backward) ns) lows
    ∙ are_true_numbers forward backward kept first ts fits near in
    let stretch = are_stretches time_of arrivals r t outcomes running on times (subst (HaveTimes time_of r.rate r.first arrivals) (sym numbers) have) all in
    (stretch.0, subst (λ (ns : List (Option ℕ)). ArriveAs r.buffer.depacketizer r.rate arrivals ns stretch.0) numbers stretch.1, stretch.2)

-- Rounds

-- pushes by a sender that does not restart change only the numbering, the buffer, the suspect packet and the counters
pub record Stay (time_of : ℕ → ℕ) (arrivals : List Arrival) (r t : Receiving) : Type 0 where
  pub times : AreTimesOf time_of t.noted
  pub first : t.first ≡ first_through r.first arrivals (numbers_for r.numbering (low_numbers arrivals))
  pub no_media_numbers : t.no_media_numbers ≡ r.no_media_numbers
  pub rate : t.rate ≡ r.rate
  pub numbering : t.numbering ≡ numbering_past r.numbering (low_numbers arrivals)
  pub running : t.is_restarting ≡ false

stay : (time_of : ℕ → ℕ) (arrivals : List Arrival) (r t : Receiving) (outcomes : List Outcome) → r.is_restarting ≡ false → GoOn r.numbering (low_numbers arrivals)
    → AreTimesOf time_of r.noted → HaveTimes time_of r.rate r.first arrivals (numbers_for r.numbering (low_numbers arrivals)) → ReceivesAll arrivals r outcomes t → Stay time_of arrivals r t
stay time_of [] r t outcomes running on times have all = record {
  times = subst (λ (x : Receiving). AreTimesOf time_of x.noted) (sym all.1) times;
  first = ap (λ (x : Receiving). x.first) all.1;
  running = ap (λ (x : Receiving). x.is_restarting) all.1 ∙ running;
  no_media_numbers = ap (λ (x : Receiving). x.no_media_numbers) all.1;
  rate = ap (λ (x : Receiving). x.rate) all.1;
  numbering = ap (λ (x : Receiving). x.numbering) all.1;
}
stay time_of (a ∷ arrivals) r t outcomes running on times have all =
    let low : ℕ = a.header.sequence_number in
    let time = first_time time_of r.rate r.first a arrivals (number_for r.numbering low) (numbers_for (numbering_after r.numbering low) (low_numbers arrivals)) have in
    let one = one_of time_of a r all.2 all.0 running on.0 times time.0 all.4 in
    let rest = stay time_of arrivals all.2 t all.1 one.running (subst (λ (n : Numbering). GoOn n (low_numbers arrivals)) (sym one.numbering) on.1)
    one.times (still_have time_of arrivals r.rate (first_at r.first a (number_for r.numbering low)) (numbering_after r.numbering low) all.2 one.one.rate one.first one.numbering time.1) all.5 in
    let numbers = numbers_for (numbering_after r.numbering low) (low_numbers arrivals) in
    record {
      times = rest.times;
      first = rest.first ∙ (ap (λ (n : Numbering). first_through all.2.first arrivals (numbers_for n (low_numbers arrivals))) one.numbering
          ∙ (ap (λ (f : Option NotedTime). first_through f arrivals numbers) one.first ∙ sym (first_more r.first a arrivals (number_for r.numbering low) numbers)));
      no_media_numbers = rest.no_media_numbers ∙ one.one.no_media_numbers;
      rate = rest.rate ∙ one.one.rate;
      numbering = rest.numbering ∙ ap (λ (n : Numbering). numbering_past n (low_numbers arrivals)) one.numbering;
      running = rest.running;
    }

-- with nothing remembered, nothing is settled
settled_none : (r : Receiving) → r.no_media_numbers ≡ [] → settled r ≡ r
settled_none r none =
    ap (λ (ns : List ℕ). record r { buffer = passed_no_media r.buffer ns; no_media_numbers = no_media_left r.buffer ns }) none ∙ ap (λ (ns : List ℕ). record r { no_media_numbers = ns }) (sym none)

-- which parts a pop leaves unchanged, and what it does to the buffer
pub record IsTurn (wait : Option ℕ) (r : Receiving) (answer : Answer) (t : Receiving) : Type 0 where
  pub turn : TurnWith wait r.buffer answer t.buffer
  pub no_media_numbers : t.no_media_numbers ≡ r.no_media_numbers
  pub rate : t.rate ≡ r.rate
  pub noted : t.noted ≡ r.noted
  pub first : t.first ≡ r.first
  pub numbering : t.numbering ≡ r.numbering
  pub is_restarting : t.is_restarting ≡ r.is_restarting

turn_of : (wait : Option ℕ) (r : Receiving) (answer : Answer) (t : Receiving) → PopsWith wait r answer t → IsTurn wait r answer t
turn_of None r answer t pops = record {
  turn = (pops.0, ap (λ (x : Receiving). x.buffer) pops.1);
  no_media_numbers = ap (λ (x : Receiving). x.no_media_numbers) pops.1;
  rate = ap (λ (x : Receiving). x.rate) pops.1;
  noted = ap (λ (x : Receiving). x.noted) pops.1;
  first = ap (λ (x : Receiving). x.first) pops.1;
  numbering = ap (λ (x : Receiving). x.numbering) pops.1;
  is_restarting = ap (λ (x : Receiving). x.is_restarting) pops.1;
}
turn_of (Some h) r answer t pops = record {
  turn = subst (λ (s : State). Pops (record r.buffer { hold_back = h }) answer s) (sym (ap (λ (x : Receiving). x.buffer) pops.2)) pops.1;
  no_media_numbers = ap (λ (x : Receiving). x.no_media_numbers) pops.2;
  rate = ap (λ (x : Receiving). x.rate) pops.2;
  noted = ap (λ (x : Receiving). x.noted) pops.2;
  first = ap (λ (x : Receiving). x.first) pops.2;
  numbering = ap (λ (x : Receiving). x.numbering) pops.2;
  is_restarting = ap (λ (x : Receiving). x.is_restarting) pops.2;
}

-- the same premise for the jitter buffer after a round
still_by_round : (time_of : ℕ → ℕ) (rounds : List Round) (rate : ℕ) (first : Option NotedTime) (n : Numbering) (t : Receiving) → t.rate ≡ rate → t.first ≡ first → t.numbering ≡ n
    → HaveTimesByRound time_of rate first n rounds → HaveTimesByRound time_of t.rate t.first t.numbering rounds
still_by_round time_of rounds rate first n t rate_is first_is numbering have =
    subst (λ (k : ℕ). HaveTimesByRound time_of k t.first t.numbering rounds) (sym rate_is)
    (subst (λ (f : Option NotedTime). HaveTimesByRound time_of rate f t.numbering rounds) (sym first_is)
    (subst (λ (s : Numbering). HaveTimesByRound time_of rate first s rounds) (sym numbering) have))

pub are_chains : AreChains
are_chains time_of [] r t answers running none on times have does = (does.0, ap (λ (x : Receiving). x.buffer) does.1)
are_chains time_of (round ∷ rounds) r t answers running none on times have does =
    let mid : Receiving = does.1 in
    let after : Receiving = does.3 in
    let lows = low_numbers round.arrivals in
    let wait : Option ℕ = waiting_at (settled mid) round.pop_at in
    let stretch = are_stretches time_of round.arrivals r mid does.0 running on.0 times have.0 does.6 in
    let stays = stay time_of round.arrivals r mid does.0 running on.0 times have.0 does.6 in
    let none_noted : mid.no_media_numbers ≡ [] = stays.no_media_numbers ∙ none in
    let turn : IsTurn wait mid does.2 after = turn_of wait mid does.2 after (subst (λ (x : Receiving). PopsWith wait x does.2 after) (settled_none mid none_noted) does.7) in
    let rate : after.rate ≡ r.rate = turn.rate ∙ stays.rate in
    let numbering : after.numbering ≡ numbering_past r.numbering lows = turn.numbering ∙ stays.numbering in
    let rest = are_chains time_of rounds after t does.4 (turn.is_restarting ∙ stays.running) (turn.no_media_numbers ∙ none_noted) (subst (λ (n : Numbering). GoOnByRound n rounds) (sym numbering) on.1)
    (subst (AreTimesOf time_of) (sym turn.noted) stays.times) (still_by_round time_of rounds r.rate (first_through r.first round.arrivals (numbers_for r.numbering lows))
    (numbering_past r.numbering lows) after rate (turn.first ∙ stays.first) numbering have.1) does.8 in (
      stretch.0,
      wait,
      does.2,
      after.buffer,
      does.4,
      does.5,
      stretch.1,
      subst (λ (s : State). TurnWith wait s does.2 after.buffer) stretch.2 turn.turn,
      subst (λ (n : Numbering). IsChain r.rate rounds (numbers_by_round n rounds) after.buffer does.4 t.buffer) numbering
          (subst (λ (k : ℕ). IsChain k rounds (numbers_by_round after.numbering rounds) after.buffer does.4 t.buffer) rate rest),
    )
