-- Pushes into a jitter buffer, as pushes into its buffer under true numbers.
use Rattle.std.specs.Prelude.{◌≡◌, ℕ, ◌+◌, ◌<◌, ◌^◌, false, List, [], ◌∷◌, map, Option, Some, None, Result}
use Rattle.codec_payload_codec.specs.Depacketizers.{DepacketizerState}
use Rattle.codec_payload_buffer.specs.Held.{Held}
use Rattle.codec_payload_base.specs.declared.error.PacketError.{PacketError}
use Rattle.codec_payload_metadata.specs.Release.{Release}
use Rattle.codec_payload_buffer.specs.Steps.{State, IsArrived, Pops}
use Rattle.codec_payload_buffer.specs.Stretches.{after_pushes}
use Rattle.codec_payload_numbers.specs.NotedTimes.{AreTimesOf, first_or, is_untimely}
use Rattle.codec_payload_numbers.specs.Numbers.{Numbering, numbering_after, IsNumbering, no_numbers, numbers_for, low_bits, moved, GoOn, StayNear}
use Rattle.codec_payload_jitter.specs.Receiving.{Receiving, Arrival, Receives, meta_for, settled, waiting_at, PopsWith}
use Rattle.codec_payload_numbers.specs.declared.noted_times.NotedTime.{NotedTime}
use Rattle.codec_payload_jitter.specs.declared.outcome.Outcome.{Outcome}

-- pushes, one after another, with their outcomes
abbrev pub ReceivesAll : List Arrival → Receiving → List Outcome → Receiving → Type 0
ReceivesAll [] r outcomes t = (outcomes ≡ []) × (t ≡ r)
ReceivesAll (a ∷ arrivals) r outcomes t =
    (outcome : Outcome) × (later : List Outcome) × (mid : Receiving) × (outcomes ≡ outcome ∷ later) × Receives a r outcome mid × ReceivesAll arrivals mid later t

-- the low bits of their packets
abbrev pub low_numbers : List Arrival → List ℕ
low_numbers arrivals = map (λ (a : Arrival). a.header.sequence_number) arrivals

-- the packets that the buffer gets, under these numbers; a packet without a number does not reach it
abbrev pub ArriveAs : DepacketizerState → ℕ → List Arrival → List (Option ℕ) → List Held → Type 0
ArriveAs depacketizer rate [] numbers ps = ps ≡ []
ArriveAs depacketizer rate (a ∷ arrivals) [] ps = ⊥
ArriveAs depacketizer rate (a ∷ arrivals) (None ∷ numbers) ps = ArriveAs depacketizer rate arrivals numbers ps
ArriveAs depacketizer rate (a ∷ arrivals) (Some n ∷ numbers) ps =
    (p : Held) × (rest : List Held) × (ps ≡ p ∷ rest) × IsArrived depacketizer (meta_for a.now rate a.header n) a.bytes p × ArriveAs depacketizer rate arrivals numbers rest

-- a packet with its number
abbrev pub timed : ℕ → Arrival → NotedTime
timed n a = record { number = n; time = a.header.timestamp }

-- Each packet with a number has the RTP time of its number. If its number is below the first one, its RTP time is from 5 seconds
-- before the first one's up to that time. A packet without a number is ignored. `first` is the first packet so far, and `rate` the
-- rate of the RTP clock
abbrev pub HaveTimes : (ℕ → ℕ) → ℕ → Option NotedTime → List Arrival → List (Option ℕ) → Type 0
HaveTimes time_of rate first [] numbers = Unit {0}
HaveTimes time_of rate first (a ∷ arrivals) [] = ⊥
HaveTimes time_of rate first (a ∷ arrivals) (None ∷ numbers) = HaveTimes time_of rate first arrivals numbers
HaveTimes time_of rate first (a ∷ arrivals) (Some n ∷ numbers) =
    (a.header.timestamp ≡ time_of n) × (is_untimely rate first (timed n a) ≡ false) × HaveTimes time_of rate (first_or first (timed n a)) arrivals numbers

-- the first packet after these
abbrev pub first_through : Option NotedTime → List Arrival → List (Option ℕ) → Option NotedTime
first_through first [] numbers = first
first_through first (a ∷ arrivals) [] = first
first_through first (a ∷ arrivals) (None ∷ numbers) = first_through first arrivals numbers
first_through first (a ∷ arrivals) (Some n ∷ numbers) = first_through (first_or first (timed n a)) arrivals numbers

-- pushes into a jitter buffer are pushes into its buffer, under the numbers of the numbering. The caller announced no restart,
-- the sender does not restart, each number has one RTP time, and packets below the first one are timely
abbrev pub AreStretches : Type 0
AreStretches =
    (time_of : ℕ → ℕ) (arrivals : List Arrival) (r t : Receiving) (outcomes : List Outcome) → r.is_restarting ≡ false → GoOn r.numbering (low_numbers arrivals)
    → AreTimesOf time_of r.noted → HaveTimes time_of r.rate r.first arrivals (numbers_for r.numbering (low_numbers arrivals))
    → ReceivesAll arrivals r outcomes t
    → (ps : List Held) × ArriveAs r.buffer.depacketizer r.rate arrivals (numbers_for r.numbering (low_numbers arrivals)) ps × (t.buffer ≡ after_pushes r.buffer ps)

-- if its true numbers stay near each other, the numbers are the true ones, moved by one constant
abbrev pub AreTrueStretches : Type 0
AreTrueStretches =
    (time_of : ℕ → ℕ) (forward backward first : ℕ) (ts : List ℕ) (arrivals : List Arrival) (r t : Receiving) (outcomes : List Outcome)
    → r.is_restarting ≡ false → AreTimesOf time_of r.noted → HaveTimes time_of r.rate r.first arrivals (map (moved first) (first ∷ ts)) → IsNumbering (no_numbers forward backward) → r.numbering ≡ no_numbers forward backward → first + 65536 < 2 ^ 64 → StayNear forward backward first ts
    → low_numbers arrivals ≡ map low_bits (first ∷ ts) → ReceivesAll arrivals r outcomes t
    → (ps : List Held) × ArriveAs r.buffer.depacketizer r.rate arrivals (map (moved first) (first ∷ ts)) ps × (t.buffer ≡ after_pushes r.buffer ps)

-- Runs: packets that come, and a pop, round by round

-- packets that come, and the time of the pop after them
pub record Round : Type 0 where
  pub arrivals : List Arrival
  pub pop_at : ℕ

-- the answer of a pop
abbrev pub Answer : Type 0
Answer = Option (Result Release PacketError)

-- a jitter buffer does the rounds
abbrev pub DoesRounds : List Round → Receiving → List Answer → Receiving → Type 0
DoesRounds [] r answers t = (answers ≡ []) × (t ≡ r)
DoesRounds (round ∷ rounds) r answers t =
    (outcomes : List Outcome) × (mid : Receiving) × (answer : Answer) × (after : Receiving) × (later : List Answer) × (answers ≡ answer ∷ later)
    × ReceivesAll round.arrivals r outcomes mid × PopsWith (waiting_at (settled mid) round.pop_at) (settled mid) answer after × DoesRounds rounds after later t

-- the numbering after these low bits
abbrev pub numbering_past : Numbering → List ℕ → Numbering
numbering_past s [] = s
numbering_past s (n ∷ ns) = numbering_past (numbering_after s n) ns

-- the numbers of the packets of each round
abbrev pub numbers_by_round : Numbering → List Round → List (List (Option ℕ))
numbers_by_round s [] = []
numbers_by_round s (round ∷ rounds) = numbers_for s (low_numbers round.arrivals) ∷ numbers_by_round (numbering_past s (low_numbers round.arrivals)) rounds

-- no restart is reported in any of them
abbrev pub GoOnByRound : Numbering → List Round → Type 0
GoOnByRound s [] = Unit {0}
GoOnByRound s (round ∷ rounds) = GoOn s (low_numbers round.arrivals) × GoOnByRound (numbering_past s (low_numbers round.arrivals)) rounds

-- a pop with this `hold_back`, or no pop
abbrev pub TurnWith : Option ℕ → State → Answer → State → Type 0
TurnWith None s answer t = (answer ≡ None) × (t ≡ s)
TurnWith (Some hold_back) s answer t = Pops (record s { hold_back = hold_back }) answer t

-- the buffer does the rounds: in each round pushes under these numbers, and a pop
abbrev pub IsChain : ℕ → List Round → List (List (Option ℕ)) → State → List Answer → State → Type 0
IsChain rate [] numbers s answers t = (answers ≡ []) × (t ≡ s)
IsChain rate (round ∷ rounds) [] s answers t = ⊥
IsChain rate (round ∷ rounds) (numbers ∷ more) s answers t =
    (ps : List Held) × (wait : Option ℕ) × (answer : Answer) × (after : State) × (later : List Answer) × (answers ≡ answer ∷ later)
    × ArriveAs s.depacketizer rate round.arrivals numbers ps × TurnWith wait (after_pushes s ps) answer after × IsChain rate rounds more after later t

-- each number has one RTP time in all rounds, and packets below the first one are timely
abbrev pub HaveTimesByRound : (ℕ → ℕ) → ℕ → Option NotedTime → Numbering → List Round → Type 0
HaveTimesByRound time_of rate first s [] = Unit {0}
HaveTimesByRound time_of rate first s (round ∷ rounds) =
    HaveTimes time_of rate first round.arrivals (numbers_for s (low_numbers round.arrivals))
    × HaveTimesByRound time_of rate (first_through first round.arrivals (numbers_for s (low_numbers round.arrivals))) (numbering_past s (low_numbers round.arrivals)) rounds

-- the rounds of a jitter buffer are turns of its buffer, each pop with its `hold_back`. The sender is as above, and no number
-- is without media
abbrev pub AreChains : Type 0
AreChains =
    (time_of : ℕ → ℕ) (rounds : List Round) (r t : Receiving) (answers : List Answer) → r.is_restarting ≡ false → r.no_media_numbers ≡ [] → GoOnByRound r.numbering rounds
    → AreTimesOf time_of r.noted → HaveTimesByRound time_of r.rate r.first r.numbering rounds → DoesRounds rounds r answers t
    → IsChain r.rate rounds (numbers_by_round r.numbering rounds) r.buffer answers t.buffer
