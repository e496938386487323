-- The ages at which the latest missing packets arrived.
use Rattle.std.specs.Prelude.{ℕ, zero, suc, ◌+◌, ◌%◌, min, max, nat_le, Bool, List, [], ◌∷◌, replicate, slice_set}

-- the latest 32 ages, the index of the next one, and how many were noted, up to 8
pub record Ages : Type 0 where
  pub places : List ℕ
  pub next : ℕ
  pub known : ℕ

abbrev pub no_ages : Ages
no_ages = record { places = replicate 32 0; next = 0; known = 0 }

abbrev pub ages_with : ℕ → Ages → Ages
ages_with age a = record { places = slice_set a.places a.next age; next = (a.next + 1) % 32; known = min (a.known + 1) 8 }

-- a lost packet counts as one that arrived at once
abbrev pub ages_after_losses : ℕ → Ages → Ages
ages_after_losses zero a = a
ages_after_losses (suc n) a = ages_with 0 (ages_after_losses n a)

abbrev pub greatest_of : List ℕ → ℕ
greatest_of [] = 0
greatest_of (age ∷ ages) = max age (greatest_of ages)

abbrev pub are_enough : Ages → Bool
are_enough a = nat_le 8 a.known
