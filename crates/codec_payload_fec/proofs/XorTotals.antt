-- Numbers of packets that are summed by exclusive or: all but one cancel.
use Rattle.std.proofs.Common.{◌≡◌, ℕ, List, [], ◌∷◌, ◌++◌, sym, ap, ◌∙◌, bit_xor}
use Rattle.std.specs.Int.Bits.{xor_assoc, xor_self, xor_zero_l, xor_zero_r}
use Rattle.std.proofs.lemmas.Nat.{xor_comm}

abbrev pub total : (List ℕ → ℕ) → List (List ℕ) → ℕ
total g [] = 0
total g (p ∷ ps) = bit_xor (g p) (total g ps)

abbrev pub on : (List ℕ → ℕ) → ℕ → List (List ℕ) → ℕ
on g a [] = a
on g a (p ∷ ps) = on g (bit_xor a (g p)) ps

pub on_total : (g : List ℕ → ℕ) (a : ℕ) (ps : List (List ℕ)) → on g a ps ≡ bit_xor a (total g ps)
on_total g a [] = sym (xor_zero_r a)
on_total g a (p ∷ ps) = on_total g (bit_xor a (g p)) ps ∙ xor_assoc a (g p) (total g ps)

total_append : (g : List ℕ → ℕ) (ps qs : List (List ℕ)) → total g (ps ++ qs) ≡ bit_xor (total g ps) (total g qs)
total_append g [] qs = sym (xor_zero_l (total g qs))
total_append g (p ∷ ps) qs = ap (λ (n : ℕ). bit_xor (g p) n) (total_append g ps qs) ∙ sym (xor_assoc (g p) (total g ps) (total g qs))

cancel : (a q b : ℕ) → bit_xor (bit_xor a (bit_xor q b)) (bit_xor a b) ≡ q
cancel a q b =
    ap (λ (n : ℕ). bit_xor n (bit_xor a b)) (xor_comm a (bit_xor q b))
    ∙ xor_assoc (bit_xor q b) a (bit_xor a b)
    ∙ ap (λ (n : ℕ). bit_xor (bit_xor q b) n) (sym (xor_assoc a a b) ∙ ap (λ (n : ℕ). bit_xor n b) (xor_self a) ∙ xor_zero_l b)
    ∙ xor_assoc q b b ∙ ap (λ (n : ℕ). bit_xor q n) (xor_self b) ∙ xor_zero_r q

-- the sum of all, and then of all but one, is that one
pub but_one : (g : List ℕ → ℕ) (ps : List (List ℕ)) (q : List ℕ) (qs : List (List ℕ)) → on g (total g (ps ++ q ∷ qs)) (ps ++ qs) ≡ g q
but_one g ps q qs =
    on_total g (total g (ps ++ q ∷ qs)) (ps ++ qs)
    ∙ ap (λ (n : ℕ). bit_xor n (total g (ps ++ qs))) (total_append g ps (q ∷ qs))
    ∙ ap (λ (n : ℕ). bit_xor (bit_xor (total g ps) (bit_xor (g q) (total g qs))) n) (total_append g ps qs)
    ∙ cancel (total g ps) (g q) (total g qs)
