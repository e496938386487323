-- The packets that left on a path, and what feedback says of them. Times are in microseconds, those of the receiver's clock in quarters
-- of a millisecond.
use Rattle.std.specs.Prelude.{ℕ, ◌+◌, ◌-◌, ◌*◌, ◌%◌, ◌^◌, ◌==◌, max, min, nat_le, nat_lt, ◌&&◌, if◌then◌else◌, Bool, List, [], ◌∷◌, ◌++◌, map, drop, take, length, Option, Some, None}
use Rattle.codec_payload_base.specs.Extended.{extended}
use Rattle.codec_payload_bandwidth_estimator.specs.declared.estimator.PacketFate.{PacketFate}
use Rattle.codec_payload_bandwidth_estimator.specs.declared.estimator.PacketOutcome.{PacketOutcome}
use Rattle.codec_payload_bandwidth_estimator.specs.declared.estimator.PacketOutcome.TheVariants as outcomes
use Rattle.codec_payload_bandwidth_path.specs.declared.departures.Departure.{Departure}

-- how many packets left; the latest of them, the latest one last; the index below which feedback has counted; and the latest time of the
-- receiver's clock, which begins at 2^34, so that no time is below 0
pub record Departed : Type 0 where
  pub count : ℕ
  pub latest : List Departure
  pub counted : ℕ
  pub clock : ℕ

abbrev pub no_departures : Departed
no_departures = record { count = 0; latest = []; counted = 0; clock = 17179869184 }

-- ---- a packet leaves

-- the first of 2,048 packets is forgotten
abbrev pub with_latest : Departure → List Departure → List Departure
with_latest d ds = (if nat_le 2048 (length ds) then drop 1 ds else ds) ++ d ∷ []

abbrev pub with_departure : (now size : ℕ) → Departed → Departed
with_departure now size d =
    if d.count == 2 ^ 64 - 1 then d else record d { count = d.count + 1; latest = with_latest (record { at = now; size = size }) d.latest }

-- ---- indices

abbrev pub first_index : Departed → ℕ
first_index d = d.count - length d.latest

-- the index of the latest packet with this number, if `count` packets left. Their numbers are their indices modulo 65,536
abbrev pub back_of : (base count : ℕ) → ℕ
back_of base count = (count % 65536 + 65535 - base) % 65536

abbrev pub index_near : (base count : ℕ) → Option ℕ
index_near base count = if nat_lt (back_of base count) count then Some (count - 1 - back_of base count) else None

-- the lowest index of a packet of which feedback may still say something
abbrev pub open_index : Departed → ℕ
open_index d = max d.counted (first_index d)

abbrev pub no_departure : Departure
no_departure = record { at = 0; size = 0 }

-- the packets with the indices from `from` up to `to`, as far as they are remembered
abbrev pub departed_in : (from to : ℕ) → Departed → List Departure
departed_in from to d = take (to - from) (drop (from - first_index d) d.latest)

-- ---- what feedback says

-- of the statuses of a feedback that begins with the packet with this index, those of packets that left
abbrev pub counted_of : ℕ → List (Option ℕ) → Departed → List (Option ℕ)
counted_of base statuses d = take (d.count - base) statuses

-- a time of 32 bits is the nearest one to the latest time before
abbrev pub outcome_by : ℕ → Option ℕ → PacketOutcome
outcome_by clock None = outcomes.Lost
outcome_by clock (Some low) = outcomes.Arrived (min (extended (2 ^ 32) (Some clock) low * 250) (2 ^ 64 - 1))

abbrev pub fate_by : ℕ → Departure → Option ℕ → PacketFate
fate_by clock d status = record { sent = d.at; size = d.size; outcome = outcome_by clock status }

abbrev pub unknown_fate : Departure → PacketFate
unknown_fate d = record { sent = d.at; size = d.size; outcome = outcomes.Unknown }

abbrev pub unknown_fates : List Departure → List PacketFate
unknown_fates ds = map unknown_fate ds

-- each packet with its status
abbrev pub reported_fates : ℕ → List Departure → List (Option ℕ) → List PacketFate
reported_fates clock [] statuses = []
reported_fates clock (d ∷ ds) [] = []
reported_fates clock (d ∷ ds) (status ∷ statuses) = fate_by clock d status ∷ reported_fates clock ds statuses

-- the packets before this feedback that no feedback reported are unknown; of the packets of this feedback those count that none reported
abbrev pub fates_from : ℕ → List (Option ℕ) → Departed → List PacketFate
fates_from base statuses d =
    unknown_fates (departed_in (open_index d) (max base (open_index d)) d)
    ++ reported_fates d.clock (departed_in (max base (open_index d)) d.count d) (drop (max base (open_index d) - base) (counted_of base statuses d))

abbrev pub fates_by : Option ℕ → List (Option ℕ) → Departed → List PacketFate
fates_by None statuses d = []
fates_by (Some base) statuses d = fates_from base statuses d

-- nothing, if no packet with the base left
abbrev pub fates_of : ℕ → List (Option ℕ) → Departed → List PacketFate
fates_of base statuses d = fates_by (index_near base d.count) statuses d

-- the time of the last packet that arrived: one of those behind the first packet, or else its own
abbrev pub time_or : Option ℕ → Option ℕ → Option ℕ
time_or None own = own
time_or (Some behind) own = Some behind

abbrev pub last_time : List (Option ℕ) → Option ℕ
last_time [] = None
last_time (status ∷ statuses) = time_or (last_time statuses) status

abbrev pub clock_by : ℕ → Option ℕ → ℕ
clock_by clock None = clock
clock_by clock (Some low) = extended (2 ^ 32) (Some clock) low

abbrev pub heard_from : ℕ → List (Option ℕ) → Departed → Departed
heard_from base statuses d =
    record d { counted = max d.counted (base + length (counted_of base statuses d)); clock = clock_by d.clock (last_time (counted_of base statuses d)) }

abbrev pub heard_by : Option ℕ → List (Option ℕ) → Departed → Departed
heard_by None statuses d = d
heard_by (Some base) statuses d = heard_from base statuses d

abbrev pub heard : ℕ → List (Option ℕ) → Departed → Departed
heard base statuses d = heard_by (index_near base d.count) statuses d

-- ---- which packets are lost

-- the numbers of those that these statuses report lost, the first of which has this index
abbrev pub lost_from : ℕ → List (Option ℕ) → List ℕ
lost_from from [] = []
lost_from from (None ∷ statuses) = from % 65536 ∷ lost_from (from + 1) statuses
lost_from from (Some low ∷ statuses) = lost_from (from + 1) statuses

abbrev pub lost_by : Option ℕ → List (Option ℕ) → Departed → List ℕ
lost_by None statuses d = []
lost_by (Some base) statuses d = lost_from (max base (open_index d)) (drop (max base (open_index d) - base) (counted_of base statuses d))

-- of those packets of which the fates are reported
abbrev pub lost_of : ℕ → List (Option ℕ) → Departed → List ℕ
lost_of base statuses d = lost_by (index_near base d.count) statuses d

-- ---- a packet that is taken back

-- it left last, and no feedback counted of it
abbrev pub is_latest : ℕ → Departed → Bool
is_latest number d = nat_lt d.counted d.count && ((d.count - 1) % 65536 == number)

abbrev pub taken_back : ℕ → Departed → Departed
taken_back number d = if is_latest number d then record d { count = d.count - 1; latest = take (length d.latest - 1) d.latest } else d
