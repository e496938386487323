-- Times by a clock with another number of ticks per second.
use Rattle.std.specs.Prelude.{ℕ, ◌+◌, ◌-◌, ◌*◌, ◌/◌, ◌^◌, min}
use Rattle.std.specs.Option.{option_map}
use Rattle.codec_payload_jitter.specs.declared.waiting.WaitLimits.{WaitLimits}
use Rattle.codec_payload_receiver.specs.declared.receiver.Settings.{Settings}

-- a time of so many ticks of a clock with `before` ticks per second, by a clock with `after` ticks per second: rounded up to whole ticks, and at
-- most 2^64 - 1
abbrev pub ticks_at : (before after ticks : ℕ) → ℕ
ticks_at before after ticks = min ((ticks * after + (before - 1)) / before) (2 ^ 64 - 1)

-- the same limits by the other clock
abbrev pub limits_at : (before after : ℕ) → WaitLimits → WaitLimits
limits_at before after l = record l { max_wait = option_map (ticks_at before after) l.max_wait }

-- the same settings for a clock with this number of ticks per second
abbrev pub receiver_at : (after : ℕ) → Settings → Settings
receiver_at after s = record s { tick_rate = after; wait_limits = limits_at s.tick_rate after s.wait_limits }
