-- Why nothing is made by settings.
use Rattle.std.specs.Prelude.{◌≡◌, ◌⊎◌, ℕ, Bool, true, false}

-- status 37: the settings are out of range; 17: they are in range, and memory ran out
abbrev pub RefusesSettings : (in_range : Bool) → ℕ → Type 0
RefusesSettings in_range status = ((status ≡ 37) × (in_range ≡ false)) ⊎ ((status ≡ 17) × (in_range ≡ true))
