-- The first of a list that passes a test.
use Rattle.std.specs.Prelude.{if◌then◌else◌, Bool, List, [], ◌∷◌}

-- the first one that passes is changed
abbrev pub changed_first : {X : Type 0} → (X → Bool) → (X → X) → List X → List X
changed_first p f [] = []
changed_first p f (x ∷ xs) = if p x then f x ∷ xs else x ∷ changed_first p f xs

-- the first one that passes is left out
abbrev pub without_first : {X : Type 0} → (X → Bool) → List X → List X
without_first p [] = []
without_first p (x ∷ xs) = if p x then xs else x ∷ without_first p xs
