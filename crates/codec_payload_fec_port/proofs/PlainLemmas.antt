-- Packets that are written in parts.
use Rattle.std.proofs.Common.{◌≡◌, ℕ, List, [], ◌++◌, append_assoc, append-nil, ap, sym, ◌∙◌}

pub joined : (out head body mid all : List ℕ) → mid ≡ out ++ head → all ≡ mid ++ body → all ≡ out ++ (head ++ (body ++ []))
joined out head body mid all first second =
    second ∙ ap (λ (bs : List ℕ). bs ++ body) first ∙ append_assoc out head body ∙ ap (λ (bs : List ℕ). out ++ (head ++ bs)) (sym (append-nil body))
