-- How long to wait for missing packets.
use Rattle.std.specs.Prelude.{ℕ, ◌-◌, ◌/◌, ◌^◌, max, Option, Some, None}
use Rattle.codec_payload_jitter.specs.declared.waiting.WaitLimits.{WaitLimits}

-- frames wait by time: the first one for `start` more frames, each for this number of ticks
abbrev pub waits_for : ℕ → ℕ → WaitLimits
waits_for start ticks = record { hold_back = None; start = start; max_wait = Some ticks }

-- frames wait for missing packets without a time limit
abbrev pub waits_by_number : WaitLimits
waits_by_number = record { hold_back = None; start = 0; max_wait = None }

-- the largest number of complete frames that wait behind a gap; no buffer holds more than 2^64 - 1
abbrev pub most_held_back : Option ℕ → ℕ
most_held_back None = 2 ^ 64 - 1
most_held_back (Some frames) = frames

-- while fewer places than this are free, pops wait for nothing: an eighth of `limit`, and at least `least`
abbrev pub room_for : ℕ → ℕ → ℕ
room_for limit least = max (limit / 8) least
