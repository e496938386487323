-- Seconds and fractions of a second.
use Rattle.std.proofs.Common.{◌≡◌, ℕ, ◌+◌, ◌*◌, ◌/◌, ◌%◌, ◌<◌, arith}
use Rattle.std.proofs.Math.Nat.{div-lt_iff_lt-mul, mod-lt}
use Rattle.codec_payload_base.proofs.TimeLemmas.{ticks_by_parts}

-- the fraction of a second is below a second
fraction : (now rate : ℕ) → 0 < rate → now % rate * 4294967296 / rate < 4294967296
fraction now rate some = (div-lt_iff_lt-mul some).1 (scaled (now % rate) (mod-lt now some))
  where
    scaled : (rest : ℕ) → rest < rate → rest * 4294967296 < 4294967296 * rate
    scaled rest below = omega (arith, below)

pub ntp_parts : (now rate : ℕ) → 0 < rate → now / rate % 4294967296 * 4294967296 + now % rate * 4294967296 / rate ≡ now * 4294967296 / rate % 18446744073709551616
ntp_parts now rate some = rw (ticks_by_parts now 4294967296 rate some) (joined (now / rate) (now % rate * 4294967296 / rate) (fraction now rate some))
  where
    joined : (a b : ℕ) → b < 4294967296 → a % 4294967296 * 4294967296 + b ≡ (a * 4294967296 + b) % 18446744073709551616
    joined a b below = omega (arith, below)
