-- Senders that do not restart: each number has one RTP time.
use Rattle.std.specs.Prelude.{◌≡◌, ℕ, false, List, [], ◌∷◌, None, Some}
use Rattle.codec_payload_numbers.specs.NotedTimes.{AreTimesOf, is_untimely}
use Rattle.codec_payload_numbers.specs.Numbers.{answer_for, number_within}
use Rattle.codec_payload_jitter.specs.Pressure.{Event, Packet, Retransmitted, Recovered, WithoutMedia, Comes}
use Rattle.codec_payload_jitter.specs.Receiving.{Receiving, Arrival, PopsWith, is_of_former_sender, settled, waiting_at}
use Rattle.codec_payload_jitter.specs.Runs.{Answer}
use Rattle.codec_payload_numbers.specs.declared.numbers.Extended.TheVariants as extended

-- the packet is within the windows of the highest number before it, and has the one RTP time of its number. If its number is below
-- the first one, its RTP time is from 5 seconds before the first one's up to that time
pub record IsOfSender (time_of : ℕ → ℕ) (r : Receiving) (a : Arrival) : Type 0 where
  pub number : ℕ
  pub within : answer_for r.numbering a.header.sequence_number ≡ extended.Number number
  pub time : a.header.timestamp ≡ time_of number
  pub timely : is_untimely r.rate r.first (record { number = number; time = a.header.timestamp }) ≡ false

-- the same for each event. A retransmission may also be outside the windows. A recovered packet may have any RTP time, which is
-- a guess
abbrev pub IsHonest : (ℕ → ℕ) → Receiving → Event → Type 0
IsHonest time_of r (Packet a) = IsOfSender time_of r a
IsHonest time_of r (Retransmitted a) = (n : ℕ) → number_within (answer_for r.numbering a.header.sequence_number) ≡ Some n → a.header.timestamp ≡ time_of n
IsHonest time_of r (Recovered a) = Unit {0}
IsHonest time_of r (WithoutMedia low) = (n : ℕ) × (answer_for r.numbering low ≡ extended.Number n)

-- what happens to a jitter buffer: an event, or a pop at a moment
pub data Step : Type 0 where
  Arrives : Event → Step
  PopsAt : ℕ → Step

-- the steps, one after another, for a sender that gives each number one RTP time, and whose packets are within the windows, and
-- timely if they are below the first one
abbrev pub HearsOneSender : (ℕ → ℕ) → List Step → Receiving → Receiving → Type 0
HearsOneSender time_of [] r t = t ≡ r
HearsOneSender time_of (Arrives event ∷ steps) r t =
    (mid : Receiving) × IsHonest time_of r event × Comes event r mid × HearsOneSender time_of steps mid t
HearsOneSender time_of (PopsAt now ∷ steps) r t =
    (answer : Answer) × (mid : Receiving) × PopsWith (waiting_at (settled r) now) (settled r) answer mid × HearsOneSender time_of steps mid t

-- such a sender is never reported as restarted, with any loss, repetition, delay, retransmission or reordering: each noted time
-- is the sender's RTP time of its number
abbrev pub NeverRestarts : Type 0
NeverRestarts =
    (time_of : ℕ → ℕ) (steps : List Step) (r t : Receiving) → r.is_restarting ≡ false → AreTimesOf time_of r.noted → HearsOneSender time_of steps r t
    → (t.counters.restarts ≡ r.counters.restarts) × AreTimesOf time_of t.noted

-- the steps of any senders, one after another, as long as no restart is counted
abbrev pub CountsNoRestart : List Step → Receiving → Receiving → Type 0
CountsNoRestart [] r t = t ≡ r
CountsNoRestart (Arrives event ∷ steps) r t =
    (mid : Receiving) × Comes event r mid × (mid.counters.restarts ≡ r.counters.restarts) × CountsNoRestart steps mid t
CountsNoRestart (PopsAt now ∷ steps) r t =
    (answer : Answer) × (mid : Receiving) × PopsWith (waiting_at (settled r) now) (settled r) answer mid × CountsNoRestart steps mid t

-- Until a restart is counted, no packet is taken for one of a former sender, whatever its number and its RTP time. A new jitter
-- buffer remembers no former sender
abbrev pub HaveNoFormer : Type 0
HaveNoFormer =
    (steps : List Step) (r t : Receiving) → r.noted.former ≡ None → CountsNoRestart steps r t → (low time : ℕ) → is_of_former_sender t low time ≡ false
