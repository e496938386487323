-- The fields after `red`.
use Rattle.std.specs.Prelude.{◌≡◌, ◌≢◌, ◌==◌, ◌⊎◌, ◌<◌, ◌^◌, ℕ, IsTrue, List, [], ◌∷◌, ⊤, codes, map}
use Rattle.std.specs.List.{slice_split}
use Rattle.std.specs.Str.Parse.{digits_value}
use Rattle.codec_payload_core.specs.RedLevels.{is_accepted}
use Rattle.payload_lines.specs.Numbers.{IsNumber}

-- the numbers of a field, with one comma between two
abbrev pub parts_of : List ℕ → List (List ℕ)
parts_of text = slice_split (λ b. b == 44) text

-- each spells a number of at most 32 bits
abbrev pub AreNumbers : List (List ℕ) → Type 0
AreNumbers [] = ⊤
AreNumbers (text ∷ texts) = IsNumber (2 ^ 32) text × AreNumbers texts

-- `-` spells no distances, and numbers with commas between them spell themselves
abbrev pub SpellsDistances : List ℕ → List ℕ → Type 0
SpellsDistances text distances =
    ((text ≡ codes "-") × (distances ≡ []))
    ⊎ ((text ≢ codes "-") × AreNumbers (parts_of text) × (distances ≡ map (digits_value 10) (parts_of text)))

-- the field spells distances that a sender takes
abbrev pub IsDistances : List ℕ → Type 0
IsDistances text = (distances : List ℕ) × SpellsDistances text distances × IsTrue (is_accepted distances)

-- the fields are in range: the step from 1 to 16,383
abbrev pub AreRed : List ℕ → List ℕ → List ℕ → Type 0
AreRed step budget distances =
    IsNumber 16384 step × (0 < digits_value 10 step) × IsNumber (2 ^ 64) budget × IsDistances distances
