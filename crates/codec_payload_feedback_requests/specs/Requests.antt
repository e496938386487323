-- Moments of a clock that counts up to 2^64 - 1.
use Rattle.std.specs.Prelude.{ℕ, ◌+◌, ◌^◌, nat_lt, nat_le, if◌then◌else◌, Bool, false, Option, Some, None}

-- the moment that comes `ticks` after now, if the clock gets there
abbrev pub later : ℕ → ℕ → Option ℕ
later now ticks = if nat_lt (now + ticks) (2 ^ 64) then Some (now + ticks) else None

-- the moment has come
abbrev pub has_come : Option ℕ → ℕ → Bool
has_come None now = false
has_come (Some at) now = nat_le at now

-- the earlier of two moments
abbrev pub earlier : Option ℕ → Option ℕ → Option ℕ
earlier None b = b
earlier (Some a) None = Some a
earlier (Some a) (Some b) = if nat_le a b then Some a else Some b
