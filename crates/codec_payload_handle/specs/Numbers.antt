-- Numbers that a call is given, or that it reports.
use Rattle.std.specs.Prelude.{◌≡◌, ℕ, Bool, true, false, Option, Some, None}

-- a value, if it is given
abbrev pub given_if : Bool → ℕ → Option ℕ
given_if true n = Some n
given_if false n = None

-- a number, if there is one; otherwise status 32
abbrev pub TellsNumber : Option ℕ → ℕ → (before after : ℕ) → Type 0
TellsNumber (Some n) status before after = (status ≡ 0) × (after ≡ n)
TellsNumber None status before after = (status ≡ 32) × (after ≡ before)

-- at once if something waits for a larger output buffer, else at that moment
abbrev pub at_once_if : {A : Type 0} → Option A → Option ℕ → Option ℕ
at_once_if (Some waiting) at = Some 0
at_once_if None at = at
