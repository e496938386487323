-- Items one after another: the first, and the ones after it.
use Rattle.std.proofs.Common.{◌≡◌, ℕ, zero, suc, ◌+◌, ◌<◌, ◌≤◌, List, [], ◌∷◌, length, Result, Ok, Err, true, false, eqb, refl, sym, ap, ◌∙◌, arith}
use Rattle.std.proofs.lemmas.Bool.{eqb-true}
use Rattle.codec_payload_vpx.specs.declared.error.MediaError.{MediaError}
use Rattle.codec_payload_media.specs.Items.{with_others, items_in, items_at, count_then, count_of}

pub some_bytes : (bytes : List ℕ) → false ≡ eqb (length bytes) 0 → 0 < length bytes
some_bytes [] e = absurd cc
some_bytes (b ∷ bytes) e = omega arith

pub no_bytes : (bytes : List ℕ) → true ≡ eqb (length bytes) 0 → length bytes ≡ 0
no_bytes bytes e = eqb-true (length bytes) 0 (sym e)

module _ {A : Type 0} (front : List ℕ → Result (A × List ℕ) MediaError) (shorter : (bytes : List ℕ) (x : A × List ℕ) → front bytes ≡ Ok x → length x.1 < length bytes) where
  same_others : (f g : List ℕ → List (Result A MediaError)) (o : Result (A × List ℕ) MediaError) → ((x : A × List ℕ) → o ≡ Ok x → f x.1 ≡ g x.1) → with_others f o ≡ with_others g o
  same_others f g (Err e) h = refl
  same_others f g (Ok x) h = ap (λ (xs : List (Result A MediaError)). Ok x.0 ∷ xs) (h x refl)

  none_in : (n : ℕ) → items_in front n [] ≡ []
  unfolding items_in
  none_in zero = refl
  none_in (suc n) = refl

  -- more than the bytes there are is enough
  enough : (n m : ℕ) (bytes : List ℕ) → length bytes ≤ n → length bytes ≤ m → items_in front n bytes ≡ items_in front m bytes
  unfolding items_in
  enough n m [] a b = none_in n ∙ sym (none_in m)
  enough zero m (x ∷ bytes) a b = absurd (omega (arith, a))
  enough (suc n) zero (x ∷ bytes) a b = absurd (omega (arith, b))
  enough (suc n) (suc m) (x ∷ bytes) a b =
      same_others (items_in front n) (items_in front m) (front (x ∷ bytes)) (λ y e. let s = shorter (x ∷ bytes) y e in enough n m y.1 (omega (arith, s, a)) (omega (arith, s, b)))

  one_more : (b : ℕ) (bytes : List ℕ) → items_at front (b ∷ bytes) ≡ with_others (items_at front) (front (b ∷ bytes))
  unfolding items_in
  one_more b bytes =
      same_others (items_in front (length bytes)) (items_at front) (front (b ∷ bytes)) (λ x e. let s = shorter (b ∷ bytes) x e in enough (length bytes) (length x.1) x.1 (omega (arith, s)) (omega arith))

  -- the first item, and the ones after it
  pub items_more : (bytes : List ℕ) (o : Result (A × List ℕ) MediaError) → 0 < length bytes → front bytes ≡ o → items_at front bytes ≡ with_others (items_at front) o
  items_more [] o some e = absurd (omega (arith, some))
  items_more (b ∷ bytes) o some e = one_more b bytes ∙ ap (with_others (items_at front)) e

  pub items_none : (bytes : List ℕ) → length bytes ≡ 0 → items_at front bytes ≡ []
  items_none [] e = none_in 0
  items_none (b ∷ bytes) e = absurd (omega (arith, e))

  -- counted from some on
  abbrev pub counted : ℕ → Result ℕ MediaError → Result ℕ MediaError
  counted n (Ok k) = Ok (n + k)
  counted n (Err e) = Err e

  counted_then : (n : ℕ) (x : A) (r : Result ℕ MediaError) → counted n (count_then (Ok x) r) ≡ counted (n + 1) r
  counted_then n x (Ok k) = let e : n + suc k ≡ n + 1 + k = omega arith in ap (λ (m : ℕ). Ok m) e
  counted_then n x (Err e) = refl

  pub count_more : (n : ℕ) (bytes : List ℕ) (x : A × List ℕ) → 0 < length bytes → front bytes ≡ Ok x → counted n (count_of (items_at front bytes)) ≡ counted (n + 1) (count_of (items_at front x.1))
  unfolding count_of
  count_more n bytes x some e = ap (λ (xs : List (Result A MediaError)). counted n (count_of xs)) (items_more bytes (Ok x) some e) ∙ counted_then n x.0 (count_of (items_at front x.1))

  pub count_fault : (n : ℕ) (bytes : List ℕ) (e : MediaError) → 0 < length bytes → front bytes ≡ Err e → counted n (count_of (items_at front bytes)) ≡ Err e
  unfolding count_of
  count_fault n bytes e some is = ap (λ (xs : List (Result A MediaError)). counted n (count_of xs)) (items_more bytes (Err e) some is)

  pub count_none : (n : ℕ) (bytes : List ℕ) → length bytes ≡ 0 → counted n (count_of (items_at front bytes)) ≡ Ok n
  unfolding count_of
  count_none n bytes e = let z : n + 0 ≡ n = omega arith in ap (λ (xs : List (Result A MediaError)). counted n (count_of xs)) (items_none bytes e) ∙ ap (λ (m : ℕ). Ok m) z

  pub counted_all : (r : Result ℕ MediaError) → counted 0 r ≡ r
  counted_all (Ok k) = let e : 0 + k ≡ k = omega arith in ap (λ (m : ℕ). Ok m) e
  counted_all (Err e) = refl
