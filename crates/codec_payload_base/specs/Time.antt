-- Times as numbers of ticks of a clock.
use Rattle.std.specs.Prelude.{◌≡◌, ℕ, ◌*◌, ◌/◌, ◌%◌, ◌^◌, refl}

-- `numer` ticks of a clock of `rate` hertz
pub record Time : Type 0 where
  pub numer : ℕ
  pub rate : ℕ

-- the same time by a clock of another rate: whole ticks, reduced to 64 bits
abbrev pub rebased : Time → ℕ → Time
rebased time rate = record { numer = (time.numer * rate / time.rate) % 2 ^ 64; rate = rate }

-- one second, from 8 kHz to 48 kHz; and a third of a tick is rounded down
pub rebased-second : rebased (record { numer = 8000; rate = 8000 }) 48000 ≡ record { numer = 48000; rate = 48000 }
rebased-second = refl

pub rebased-rounded_down : rebased (record { numer = 10; rate = 90000 }) 8000 ≡ record { numer = 0; rate = 8000 }
rebased-rounded_down = refl
