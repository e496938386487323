-- Taking elements one after the other, as a loop does.
use Rattle.std.proofs.Common.{◌≡◌, ℕ, ◌<◌, Bool, true, false, List, [], ◌∷◌, ◌++◌, length, Option, Some, None, refl, sym, ap, ◌∙◌, append_assoc, ◌⊎◌, inl, inr, arith}
use Rattle.std.proofs.lemmas.List.{append-nil}
use Rattle.codec_payload_av1.specs.Av1Reading.{◌>>=◌}
use Rattle.codec_payload_av1.specs.Av1Packing.{ended, left_open}
use Rattle.codec_payload_av1.specs.Av1Receiving.{unit_of, units_of, taken}
use Rattle.codec_payload_av1.proofs.Av1PayloadLengths.{some_is}

abbrev pub entry : List ℕ → List ℕ → Option (List ℕ × List ℕ)
entry units left = Some (units, left)

-- the old output before the accepted bytes
abbrev pub after : List ℕ → Option (List ℕ × List ℕ) → Option (List ℕ × List ℕ)
after out read = read >>= λ x. Some (out ++ x.0, x.1)

pair_up : (u left : List ℕ) (r : Option (List ℕ)) → (r >>= λ us. Some (u ++ us)) >>= (λ units. entry units left) ≡ after u (r >>= λ units. entry units left)
pair_up u left (Some us) = refl
pair_up u left None = refl

-- an element that ends here
pub one_taken : (goes_on : Bool) (begun e : List ℕ) (es : List (List ℕ)) (u : List ℕ) → (goes_on ≡ false) ⊎ (0 < length es) → unit_of (begun ++ e) ≡ Some u
    → taken goes_on begun (e ∷ es) ≡ after u (taken goes_on [] es)
unfolding taken units_of
one_taken goes_on begun e (f ∷ es) u ends is = rw is (pair_up u (left_open goes_on [] (f ∷ es)) (units_of (ended goes_on [] (f ∷ es))))
one_taken false begun e [] u ends is = rw is refl
one_taken true begun e [] u ends is = elim ends [ inl a ↦ absurd cc | inr b ↦ absurd (omega (arith, b)) ]

pub one_fails : (goes_on : Bool) (begun e : List ℕ) (es : List (List ℕ)) → (goes_on ≡ false) ⊎ (0 < length es) → unit_of (begun ++ e) ≡ None → taken goes_on begun (e ∷ es) ≡ None
unfolding taken units_of
one_fails goes_on begun e (f ∷ es) ends is = rw is refl
one_fails false begun e [] ends is = rw is refl
one_fails true begun e [] ends is = elim ends [ inl a ↦ absurd cc | inr b ↦ absurd (omega (arith, b)) ]

pub after_after : (out u : List ℕ) (r : Option (List ℕ × List ℕ)) → after out (after u r) ≡ after (out ++ u) r
after_after out u (Some x) = ap (λ (t : List ℕ). entry t x.1) (sym (append_assoc out u x.0))
after_after out u None = refl

pub none_before : (out : List ℕ) (r : Option (List ℕ × List ℕ)) → after out r ≡ None → r ≡ None
none_before out (Some x) e = absurd cc
none_before out None e = refl

same_entry : (a b c d : List ℕ) → entry a b ≡ entry c d → (a ≡ c) × (b ≡ d)
same_entry a b c d e = (ap (λ (x : List ℕ × List ℕ). x.0) (some_is (a, b) (c, d) e), ap (λ (x : List ℕ × List ℕ). x.1) (some_is (a, b) (c, d) e))

pub ends_with : (out left old : List ℕ) (total : Option (List ℕ × List ℕ)) → after out (entry [] left) ≡ after old total → (x : List ℕ) × (total ≡ Some (x, left)) × (out ≡ old ++ x)
ends_with out left old None e = absurd cc
ends_with out left old (Some x) e =
    let same = same_entry (out ++ []) left (old ++ x.0) x.1 e in
    (x.0, ap (λ (t : List ℕ). entry x.0 t) (sym same.1), sym (append-nil out) ∙ same.0)
