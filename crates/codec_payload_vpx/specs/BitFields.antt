-- Bits of numbers.
use Rattle.std.specs.Prelude.{ℕ, Bool, true, false}

-- a bit, if it is set
abbrev pub bit_if : Bool → ℕ → ℕ
bit_if true bit = bit
bit_if false bit = 0
