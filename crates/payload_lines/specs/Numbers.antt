-- Numbers in lines.
use Rattle.std.specs.Prelude.{ℕ, ◌<◌, List}
use Rattle.std.specs.Str.Parse.{IsNumeral, digits_value}

-- a number is one decimal digit or more, and nothing else, whose value is below the limit
abbrev pub IsNumber : ℕ → List ℕ → Type 0
IsNumber limit text = IsNumeral 10 text × (digits_value 10 text < limit)
