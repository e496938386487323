-- How long packets wait in the queue of a path. Times are in microseconds.
use Rattle.std.specs.Prelude.{◌≡◌, ℕ, ◌+◌, ◌-◌, ◌^◌, ◌||◌, min, nat_le, nat_lt, if◌then◌else◌, List, [], ◌∷◌, take, replicate, Option, Some, None}
use Rattle.codec_payload_bandwidth_estimate.specs.declared.delays.Seen.{Seen}

-- the latest packets, the latest first; the epoch, and the least delays of it and of the one before
pub record Measured : Type 0 where
  pub latest : List (Option Seen)
  pub epoch : ℕ
  pub current : Option ℕ
  pub before : Option ℕ

abbrev pub no_delays : Measured
no_delays = record { latest = replicate 32 None; epoch = 0; current = None; before = None }

-- the receiver's clock when it arrived, less the sender's when it was sent, and 2^64
abbrev pub delay_of : (sent arrived : ℕ) → ℕ
delay_of sent arrived = arrived + (2 ^ 64 - sent)

abbrev pub lesser : Option ℕ → Option ℕ → Option ℕ
lesser None other = other
lesser (Some one) None = Some one
lesser (Some one) (Some other) = Some (min one other)

-- an epoch of 10 s ends
abbrev pub with_epoch : ℕ → Measured → Measured
with_epoch sent m = if nat_le 10000000 (sent - m.epoch) then record m { epoch = sent; current = None; before = m.current } else m

abbrev pub with_seen : Seen → Measured → Measured
with_seen seen m = record m { latest = Some seen ∷ take 31 m.latest; current = lesser m.current (Some seen.delay) }

abbrev pub after_packet : (sent arrived : ℕ) → Measured → Measured
after_packet sent arrived m = with_seen (record { sent = sent; delay = delay_of sent arrived }) (with_epoch sent m)

-- the least delay of this epoch and of the one before
abbrev pub base_of : Measured → Option ℕ
base_of m = lesser m.before m.current

-- the first four count, and those that were sent in the last 25 ms
abbrev pub counts : (index newest : ℕ) → Option Seen → Option ℕ
counts index newest None = None
counts index newest (Some seen) = if nat_lt index 4 || nat_le (newest - seen.sent) 25000 then Some seen.delay else None

abbrev pub newest_of : List (Option Seen) → ℕ
newest_of [] = 0
newest_of (None ∷ rest) = 0
newest_of (Some seen ∷ rest) = seen.sent

-- the least of `least` and of those that count, from this index on
abbrev pub least_from : (index newest : ℕ) → Option ℕ → List (Option Seen) → Option ℕ
least_from index newest least [] = least
least_from index newest least (one ∷ rest) = least_from (index + 1) newest (lesser least (counts index newest one)) rest

abbrev pub least_of : List (Option Seen) → Option ℕ
least_of latest = least_from 0 (newest_of latest) None latest

-- the least delay of the latest packets is that of an empty queue
abbrev pub followed : Measured → Measured
followed m = record m { current = least_of m.latest; before = None }

abbrev pub beyond : Option ℕ → Option ℕ → ℕ
beyond (Some delay) (Some base) = delay - base
beyond (Some delay) None = 0
beyond None base = 0

-- the queueing delay: the least delay of the latest packets above the base
abbrev pub standing_of : Measured → ℕ
standing_of m = beyond (least_of m.latest) (base_of m)

abbrev pub above_of : (sent arrived : ℕ) → Measured → ℕ
above_of sent arrived m = beyond (Some (delay_of sent arrived)) (base_of m)

-- ---- another clock

-- a packet: when it was sent, and when it arrived; or the way is longer
pub data Event : Type 0 where
  packet : (sent arrived : ℕ) → Event
  follow : Event

abbrev pub after_event : Event → Measured → Measured
after_event (packet sent arrived) m = after_packet sent arrived m
after_event follow m = followed m

-- after these events, the latest first
abbrev pub after_events : List Event → Measured
after_events [] = no_delays
after_events (event ∷ before) = after_event event (after_events before)

-- the same events, with a clock of the receiver that is ahead by this
abbrev pub moved_event : ℕ → Event → Event
moved_event ahead (packet sent arrived) = packet sent (arrived + ahead)
moved_event ahead follow = follow

abbrev pub moved : ℕ → List Event → List Event
moved ahead [] = []
moved ahead (event ∷ before) = moved_event ahead event ∷ moved ahead before

-- another clock of the receiver changes nothing
abbrev pub AnyClockServes : Type 0
AnyClockServes =
    (ahead : ℕ) (events : List Event)
    → (standing_of (after_events (moved ahead events)) ≡ standing_of (after_events events))
    × ((sent arrived : ℕ) → above_of sent (arrived + ahead) (after_events (moved ahead events)) ≡ above_of sent arrived (after_events events))
