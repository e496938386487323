-- Another clock of the receiver moves each delay by the same, and no difference of two.
use Rattle.std.specs.Prelude.{if◌then◌else◌, ◌||◌}
use Rattle.std.proofs.Common.{◌≡◌, ◌∙◌, ℕ, zero, suc, ◌+◌, ◌-◌, min, Bool, true, false, List, [], ◌∷◌, take, replicate, Option, Some, None, refl, sym, ap, arith, nat_le, nat_lt}
use Rattle.codec_payload_bandwidth_estimate.specs.declared.delays.Seen.{Seen}
use Rattle.codec_payload_bandwidth_estimate.specs.Delays.{AnyClockServes, Event, Measured, above_of, after_event, after_events, after_packet, base_of, beyond, counts, delay_of, follow, followed, least_from, least_of, lesser, moved, moved_event, newest_of, packet, standing_of, with_epoch, with_seen}

abbrev pub later_seen : ℕ → Seen → Seen
later_seen c seen = record { sent = seen.sent; delay = seen.delay + c }

abbrev pub later_one : ℕ → Option Seen → Option Seen
later_one c None = None
later_one c (Some seen) = Some (later_seen c seen)

abbrev pub later_all : ℕ → List (Option Seen) → List (Option Seen)
later_all c [] = []
later_all c (one ∷ rest) = later_one c one ∷ later_all c rest

abbrev pub plus : ℕ → Option ℕ → Option ℕ
plus c None = None
plus c (Some n) = Some (n + c)

-- the same, with a clock that is ahead
abbrev pub ahead_by : ℕ → Measured → Measured
ahead_by c m = record { latest = later_all c m.latest; epoch = m.epoch; current = plus c m.current; before = plus c m.before }

lesser_plus : (c : ℕ) (a b : Option ℕ) → lesser (plus c a) (plus c b) ≡ plus c (lesser a b)
lesser_plus c None b = refl
lesser_plus c (Some a) None = refl
lesser_plus c (Some a) (Some b) = let e : min (a + c) (b + c) ≡ min a b + c = omega arith in ap (λ (n : ℕ). Some n) e

beyond_plus : (c : ℕ) (a b : Option ℕ) → beyond (plus c a) (plus c b) ≡ beyond a b
beyond_plus c None b = refl
beyond_plus c (Some a) None = refl
beyond_plus c (Some a) (Some b) = omega arith

take_later : (c n : ℕ) (xs : List (Option Seen)) → take n (later_all c xs) ≡ later_all c (take n xs)
take_later c zero xs = refl
take_later c (suc n) [] = refl
take_later c (suc n) (x ∷ xs) = ap (λ (l : List (Option Seen)). later_one c x ∷ l) (take_later c n xs)

none_later : (c n : ℕ) → later_all c (replicate n None) ≡ replicate n None
none_later c zero = refl
none_later c (suc n) = ap (λ (l : List (Option Seen)). None ∷ l) (none_later c n)

-- ---- a packet

epoch_if : (c sent : ℕ) (m : Measured) (b : Bool)
    → (if b then record (ahead_by c m) { epoch = sent; current = None; before = plus c m.current } else ahead_by c m)
    ≡ ahead_by c (if b then record m { epoch = sent; current = None; before = m.current } else m)
epoch_if c sent m true = refl
epoch_if c sent m false = refl

epoch_later : (c sent : ℕ) (m : Measured) → with_epoch sent (ahead_by c m) ≡ ahead_by c (with_epoch sent m)
epoch_later c sent m = epoch_if c sent m (nat_le 10000000 (sent - m.epoch))

seen_later : (c : ℕ) (seen : Seen) (m : Measured) → with_seen (later_seen c seen) (ahead_by c m) ≡ ahead_by c (with_seen seen m)
seen_later c seen m = λ i. record {
  latest = Some (later_seen c seen) ∷ take_later c 31 m.latest i;
  epoch = m.epoch;
  current = lesser_plus c m.current (Some seen.delay) i;
  before = plus c m.before;
}

delay_later : (c sent arrived : ℕ) → delay_of sent (arrived + c) ≡ delay_of sent arrived + c
delay_later c sent arrived = omega arith

packet_later : (c sent arrived : ℕ) (m : Measured) → after_packet sent (arrived + c) (ahead_by c m) ≡ ahead_by c (after_packet sent arrived m)
packet_later c sent arrived m =
    ap (λ (d : ℕ). with_seen (record { sent = sent; delay = d }) (with_epoch sent (ahead_by c m))) (delay_later c sent arrived)
    ∙ ap (with_seen (later_seen c (record { sent = sent; delay = delay_of sent arrived }))) (epoch_later c sent m)
    ∙ seen_later c (record { sent = sent; delay = delay_of sent arrived }) (with_epoch sent m)

-- ---- the queueing delay

count_if : (c delay : ℕ) (b : Bool) → (if b then Some (delay + c) else None) ≡ plus c (if b then Some delay else None)
count_if c delay true = refl
count_if c delay false = refl

counts_later : (c index newest : ℕ) (one : Option Seen) → counts index newest (later_one c one) ≡ plus c (counts index newest one)
counts_later c index newest None = refl
counts_later c index newest (Some seen) = count_if c seen.delay (nat_lt index 4 || nat_le (newest - seen.sent) 25000)

newest_later : (c : ℕ) (xs : List (Option Seen)) → newest_of (later_all c xs) ≡ newest_of xs
newest_later c [] = refl
newest_later c (None ∷ xs) = refl
newest_later c (Some seen ∷ xs) = refl

least_later : (c index newest : ℕ) (least : Option ℕ) (xs : List (Option Seen))
    → least_from index newest (plus c least) (later_all c xs) ≡ plus c (least_from index newest least xs)
least_later c index newest least [] = refl
least_later c index newest least (one ∷ rest) =
    ap (λ (o : Option ℕ). least_from (index + 1) newest o (later_all c rest))
    (ap (λ (o : Option ℕ). lesser (plus c least) o) (counts_later c index newest one) ∙ lesser_plus c least (counts index newest one))
    ∙ least_later c (index + 1) newest (lesser least (counts index newest one)) rest

least_of_later : (c : ℕ) (xs : List (Option Seen)) → least_of (later_all c xs) ≡ plus c (least_of xs)
least_of_later c xs = ap (λ (n : ℕ). least_from 0 n None (later_all c xs)) (newest_later c xs) ∙ least_later c 0 (newest_of xs) None xs

-- ---- events

follow_later : (c : ℕ) (m : Measured) → followed (ahead_by c m) ≡ ahead_by c (followed m)
follow_later c m = λ i. record { latest = later_all c m.latest; epoch = m.epoch; current = least_of_later c m.latest i; before = None }

event_later : (c : ℕ) (event : Event) (m : Measured) → after_event (moved_event c event) (ahead_by c m) ≡ ahead_by c (after_event event m)
event_later c (packet sent arrived) m = packet_later c sent arrived m
event_later c follow m = follow_later c m

events_later : (c : ℕ) (events : List Event) → after_events (moved c events) ≡ ahead_by c (after_events events)
events_later c [] = λ i. record { latest = sym (none_later c 32) i; epoch = 0; current = None; before = None }
events_later c (event ∷ before) = ap (after_event (moved_event c event)) (events_later c before) ∙ event_later c event (after_events before)

base_later : (c : ℕ) (m : Measured) → base_of (ahead_by c m) ≡ plus c (base_of m)
base_later c m = lesser_plus c m.before m.current

standing_later : (c : ℕ) (m : Measured) → standing_of (ahead_by c m) ≡ standing_of m
standing_later c m = (λ i. beyond (least_of_later c m.latest i) (base_later c m i)) ∙ beyond_plus c (least_of m.latest) (base_of m)

above_later : (c sent arrived : ℕ) (m : Measured) → above_of sent (arrived + c) (ahead_by c m) ≡ above_of sent arrived m
above_later c sent arrived m =
    (λ i. beyond (Some (delay_later c sent arrived i)) (base_later c m i)) ∙ beyond_plus c (Some (delay_of sent arrived)) (base_of m)

pub any_clock_serves : AnyClockServes
any_clock_serves c events = (
  ap standing_of (events_later c events) ∙ standing_later c (after_events events),
  λ sent arrived. ap (above_of sent (arrived + c)) (events_later c events) ∙ above_later c sent arrived (after_events events),
)
