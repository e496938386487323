-- Names at the front of an array of zeros.
use Rattle.std.proofs.Common.{◌≡◌, ◌∙◌, ap, ℕ, ◌-◌, List, ◌++◌, length, drop}
use Rattle.std.specs.Prelude.{replicate}
use Rattle.std.proofs.lemmas.List.{drop-replicate}

-- bytes that were copied to the front of 32 zeros
pub padded : (bytes copied : List ℕ) → copied ≡ bytes → copied ++ drop (length bytes) (replicate 32 0) ≡ bytes ++ replicate (32 - length bytes) 0
padded bytes copied same = ap (λ (bs : List ℕ). bs ++ drop (length bytes) (replicate 32 0)) same ∙ ap (λ (bs : List ℕ). bytes ++ bs) (drop-replicate (length bytes) 32 0)
