-- Whether the queueing delay stays the same while less is sent. Times are in microseconds.
use Rattle.std.specs.Prelude.{ℕ, ◌+◌, ◌-◌, ◌^◌, ◌&&◌, min, max, nat_le, nat_lt, if◌then◌else◌, Bool}
use Rattle.codec_payload_bandwidth_estimate.specs.declared.steady.Steady.{Steady}

-- the first window begins at this time
abbrev pub begun_at : ℕ → Steady
begun_at since = record { since = since; least = 2 ^ 64 - 1; low = 2 ^ 64 - 1; high = 0; windows = 0 }

-- a window ends: its least differs by at most 6 ms from those before, or is the first of a series
abbrev pub closed : ℕ → Steady → Steady
closed now s =
    if nat_le (max s.high s.least - min s.low s.least) 6000
    then record { since = now; least = 2 ^ 64 - 1; low = min s.low s.least; high = max s.high s.least; windows = min s.windows 2 + 1 }
    else record { since = now; least = 2 ^ 64 - 1; low = s.least; high = s.least; windows = 1 }

abbrev pub closed_if : ℕ → Steady → Steady
closed_if now s = if nat_le 300000 (now - s.since) then closed now s else s

abbrev pub noted_at : (now standing : ℕ) → Steady → Steady
noted_at now standing s = if nat_lt now s.since then s else closed_if now (record s { least = min s.least standing })

-- three windows are the same, and the queueing delay is above 15 ms in each
abbrev pub is_steady : Steady → Bool
is_steady s = nat_le 3 s.windows && nat_lt 15000 s.low
