-- RTP times of 32 bits, extended.
use Rattle.std.specs.Prelude.{◌≡◌, ℕ, ◌+◌, ◌-◌, ◌^◌, Option, Some, None, refl}
use Rattle.codec_payload_base.specs.Extended.{nearest}

-- the first time gets 2^32 on top; each later one is the nearest to the last
abbrev pub extended_time : Option ℕ → ℕ → ℕ
extended_time None timestamp = 2 ^ 32 + timestamp
extended_time (Some last) timestamp = nearest (2 ^ 32) last timestamp

-- 32 bits that wrap continue, and one before the first has a time above 0
pub extended_time-wraps : extended_time (Some (2 ^ 33 - 1)) 0 ≡ 2 ^ 33
extended_time-wraps = refl

pub extended_time-back : extended_time (Some (2 ^ 32)) (2 ^ 32 - 1) ≡ 2 ^ 32 - 1
extended_time-back = refl
