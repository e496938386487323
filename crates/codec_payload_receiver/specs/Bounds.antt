-- The bound of units.
use Rattle.std.specs.Prelude.{ℕ, ◌+◌, ◌-◌, ◌%◌, ◌^◌, Bool, false, List, Option, Some, None, length, nat_lt}
use Rattle.codec_payload_jitter.specs.declared.outcome.PacketCounters.{PacketCounters}
use Rattle.codec_payload_receiver.specs.declared.bound.UnitBound.{UnitBound}

-- no unit was above the bound so far
abbrev pub new_bound : Option ℕ → UnitBound
new_bound most = record { most = most; units = 0; packets = 0 }

-- a unit with these bytes is above the bound
abbrev pub is_over : Option ℕ → List ℕ → Bool
is_over None bytes = false
is_over (Some most) bytes = nat_lt most (length bytes)

-- one more unit was above the bound, with this number of packets
abbrev pub with_over : ℕ → UnitBound → UnitBound
with_over packets b = record b { units = (b.units + 1) % 2 ^ 64; packets = (b.packets + packets) % 2 ^ 64 }

-- the counters of the jitter buffer, where a unit above the bound counts as a refused frame, and its packets as discarded
abbrev pub counters_with : UnitBound → PacketCounters → PacketCounters
counters_with b c = record c {
  released = (c.released + (2 ^ 64 - b.packets)) % 2 ^ 64;
  left = (c.left + b.packets) % 2 ^ 64;
  refused = (c.refused + b.packets) % 2 ^ 64;
  units = (c.units + (2 ^ 64 - b.units)) % 2 ^ 64;
}
