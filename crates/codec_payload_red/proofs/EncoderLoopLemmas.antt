-- The loops of the encoder: the output of the blocks still ahead.
use Rattle.std.proofs.Common.{◌≡◌, ℕ, zero, suc, ◌+◌, ◌-◌, ◌<◌, ◌≤◌, List, [], ◌∷◌, ◌++◌, length, map, filter, take, drop, get_or, true, false, refl, sym, ap, ◌∙◌, arith, append_assoc}
use Rattle.std.proofs.lemmas.List.{drop_more, drop-map, drop_all, append-nil}
use Rattle.std.specs.List.{flat_map}
use Rattle.codec_payload_red.specs.declared.red.blocks.RedundantBlock.{RedundantBlock}
use Rattle.codec_payload_red.specs.RedPayload.{Redundant, fits, masked}
use Rattle.codec_payload_red.specs.RedBlocks.{redundant_of}

-- the output of the first k that fit, each by g
abbrev pub given : (Redundant → List ℕ) → ℕ → List Redundant → List ℕ
given g k bs = flat_map g (map masked (take k (filter fits bs)))

one_given : (g : Redundant → List ℕ) (k : ℕ) (b : Redundant) (bs : List Redundant) → fits b ≡ true → given g (suc k) (b ∷ bs) ≡ g (masked b) ++ given g k bs
one_given g k b bs e = rw e refl

none_given : (g : Redundant → List ℕ) (k : ℕ) (b : Redundant) (bs : List Redundant) → fits b ≡ false → given g k (b ∷ bs) ≡ given g k bs
none_given g k b bs e = rw e refl

ahead : (xs : List RedundantBlock) (i : ℕ) (x : RedundantBlock) → x ≡ get_or xs i x → i < length xs → drop i (map redundant_of xs) ≡ redundant_of x ∷ drop (i + 1) (map redundant_of xs)
ahead xs i x e lt =
    drop-map redundant_of i xs ∙ ap (λ t. map redundant_of t) (drop_more xs i x lt ∙ ap (λ t. t ∷ drop (i + 1) xs) (sym e)) ∙ ap (λ t. redundant_of x ∷ t) (sym (drop-map redundant_of (i + 1) xs))

pub kept_one : (g : Redundant → List ℕ) (out whole : List ℕ) (left : ℕ) (xs : List RedundantBlock) (i : ℕ) (x : RedundantBlock) → x ≡ get_or xs i x → i < length xs → fits (redundant_of x) ≡ true → 0 < left
    → out ++ given g left (drop i (map redundant_of xs)) ≡ whole → (out ++ g (masked (redundant_of x))) ++ given g (left - 1) (drop (i + 1) (map redundant_of xs)) ≡ whole
kept_one g out whole left xs i x e lt fit some h =
    let k : left ≡ suc (left - 1) = omega arith in
    let here : given g left (drop i (map redundant_of xs)) ≡ g (masked (redundant_of x)) ++ given g (left - 1) (drop (i + 1) (map redundant_of xs)) =
    ap (λ t. given g left t) (ahead xs i x e lt) ∙ ap (λ t. given g t (redundant_of x ∷ drop (i + 1) (map redundant_of xs))) k ∙ one_given g (left - 1) (redundant_of x) (drop (i + 1) (map redundant_of xs)) fit in
    append_assoc out (g (masked (redundant_of x))) _ ∙ ap (λ t. out ++ t) (sym here) ∙ h

pub kept_none : (g : Redundant → List ℕ) (out whole : List ℕ) (left : ℕ) (xs : List RedundantBlock) (i : ℕ) (x : RedundantBlock) → x ≡ get_or xs i x → i < length xs → fits (redundant_of x) ≡ false
    → out ++ given g left (drop i (map redundant_of xs)) ≡ whole → out ++ given g left (drop (i + 1) (map redundant_of xs)) ≡ whole
kept_none g out whole left xs i x e lt fit h = ap (λ t. out ++ t) (sym (ap (λ t. given g left t) (ahead xs i x e lt) ∙ none_given g left (redundant_of x) (drop (i + 1) (map redundant_of xs)) fit)) ∙ h

pub kept_enough : (g : Redundant → List ℕ) (bs : List Redundant) → given g 0 bs ≡ []
kept_enough g bs = refl

pub kept_all : (g : Redundant → List ℕ) (out whole : List ℕ) (left : ℕ) (xs : List RedundantBlock) (i : ℕ) → length xs ≤ i → out ++ given g left (drop i (map redundant_of xs)) ≡ whole → out ≡ whole
kept_all g out whole left xs i past h =
    let nothing : drop i (map redundant_of xs) ≡ [] = drop-map redundant_of i xs ∙ ap (λ t. map redundant_of t) (drop_all i xs past) in
    sym (append-nil out) ∙ ap (λ t. out ++ t) (sym (ap (λ t. given g left t) nothing ∙ given_nil g left)) ∙ h
  where
    given_nil : (g : Redundant → List ℕ) (k : ℕ) → given g k [] ≡ []
    given_nil g zero = refl
    given_nil g (suc k) = refl
