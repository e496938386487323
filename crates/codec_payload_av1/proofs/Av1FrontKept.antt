-- An old list remains the front of a longer one.
use Rattle.std.proofs.Common.{◌≡◌, ℕ, ◌≤◌, List, ◌++◌, length, take, sym, ap, ◌∙◌, arith}
use Rattle.std.proofs.lemmas.List.{take-append-le, length-take, take-take, take_all}

longer : (old new : List ℕ) → take (length old) new ≡ old → length old ≤ length new
longer old new h = omega (arith, ap length h, length-take (length old) new)

pub kept_more : (old new more : List ℕ) → take (length old) new ≡ old → take (length old) (new ++ more) ≡ old
kept_more old new more h = take-append-le (length old) new more (longer old new h) ∙ h

pub kept_trans : (old middle new : List ℕ) → take (length old) middle ≡ old → take (length middle) new ≡ middle → take (length old) new ≡ old
kept_trans old middle new h k =
    let short : length old ≤ length middle = longer old middle h in
    sym (take-take (length old) (length middle) new short) ∙ ap (λ (t : List ℕ). take (length old) t) k ∙ h

pub kept_same : (old : List ℕ) → take (length old) old ≡ old
kept_same old = take_all (length old) old (omega arith)
