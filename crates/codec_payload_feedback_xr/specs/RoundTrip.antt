-- The round trip that an answer gives.
use Rattle.std.specs.Prelude.{ℕ, ◌+◌, ◌-◌, ◌*◌, ◌/◌, ◌%◌, ◌==◌, nat_le, if◌then◌else◌, Option, Some, None}

-- units of 1/2^32 seconds, rounded down, modulo 2^64
abbrev pub ntp_time : ℕ → ℕ → ℕ
ntp_time now tick_rate = now * 4294967296 / tick_rate % 18446744073709551616

-- units of 1/65,536 seconds, modulo 2^32
abbrev pub middle_bits : ℕ → ℕ
middle_bits ntp_time = ntp_time / 65536 % 4294967296

-- now - LRR - DLRR, modulo 2^32
abbrev pub elapsed : (now last_rr delay : ℕ) → ℕ
elapsed now last_rr delay = (now + 8589934592 - last_rr - delay) % 4294967296

-- 0 to 60 s are 3,932,160 units; -100 ms are -6,553.6 units; an LRR of 0 says that no reference time came
abbrev pub round_trip : (now last_rr delay : ℕ) → Option ℕ
round_trip now last_rr delay =
    if last_rr == 0 then None
    else if nat_le (elapsed now last_rr delay) 3932160 then Some (elapsed now last_rr delay)
    else if nat_le 4294960743 (elapsed now last_rr delay) then Some 0
    else None

-- 65,536 units are a second; rounded to the nearest
abbrev pub ticks_of : ℕ → ℕ → ℕ
ticks_of round_trip tick_rate = (round_trip * tick_rate + 32768) / 65536
