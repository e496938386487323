-- Items one after another: spelled bytes are read, and bytes that are read are spelled so.
use Rattle.std.proofs.Common.{◌≡◌, ℕ, ◌<◌, List, [], ◌∷◌, length, Result, Ok, Err, refl, sym, ap, ◌∙◌, arith}
use Rattle.codec_payload_base.specs.Flags.{AreBytes}
use Rattle.codec_payload_vpx.specs.declared.error.MediaError.{MediaError}
use Rattle.codec_payload_media.specs.Items.{AreSpelled, all_ok, items_at, with_others}
use Rattle.codec_payload_media.proofs.ItemLemmas.{items_more, items_none}
use Rattle.codec_payload_vpx.proofs.ReadingLemmas.{ok_is}

heads : {A : Type 0} (x y : A) (xs ys : List A) → x ∷ xs ≡ y ∷ ys → (x ≡ y) × (xs ≡ ys)
heads x y xs ys e = (cc, cc)

module _ {A : Type 0} (front : List ℕ → Result (A × List ℕ) MediaError) (shorter : (bytes : List ℕ) (x : A × List ℕ) → front bytes ≡ Ok x → length x.1 < length bytes) (IsItem : List ℕ → A → List ℕ → Type 0) where
  pub all_again : ((bytes : List ℕ) (x : A) (rest : List ℕ) → IsItem bytes x rest → front bytes ≡ Ok (x, rest)) → (xs : List A) (bytes : List ℕ) → AreSpelled IsItem bytes xs → items_at front bytes ≡ all_ok xs
  all_again again [] bytes e = items_none front shorter bytes (ap length e)
  all_again again (x ∷ xs) bytes (rest, is, others) =
      let e = again bytes x rest is in
      items_more front shorter bytes (Ok (x, rest)) (omega (arith, shorter bytes (x, rest) e)) e ∙ ap (λ (ys : List (Result A MediaError)). Ok x ∷ ys) (all_again again xs rest others)

  none_left : (o : Result (A × List ℕ) MediaError) → with_others (items_at front) o ≡ [] → ⊥
  none_left (Ok y) e = cc
  none_left (Err d) e = cc

  first_of : (x : A) (xs : List A) (o : Result (A × List ℕ) MediaError) → with_others (items_at front) o ≡ Ok x ∷ all_ok xs → (rest : List ℕ) × (o ≡ Ok (x, rest)) × (items_at front rest ≡ all_ok xs)
  first_of x xs (Ok y) e =
      let h = heads (Ok y.0) (Ok x) (items_at front y.1) (all_ok xs) e in
      (y.1, ap (λ (z : A). Ok (z, y.1)) (ok_is y.0 x h.0), h.1)
  first_of x xs (Err d) e = let h = heads (Err d) (Ok x) [] (all_ok xs) e in absurd cc

  pub all_spelled : ((bytes : List ℕ) (x : A) (rest : List ℕ) → AreBytes bytes → front bytes ≡ Ok (x, rest) → IsItem bytes x rest × AreBytes rest) → (xs : List A) (bytes : List ℕ) → AreBytes bytes → items_at front bytes ≡ all_ok xs → AreSpelled IsItem bytes xs
  all_spelled spelled [] [] are e = refl
  all_spelled spelled [] (b ∷ bytes) are e = absurd (none_left (front (b ∷ bytes)) (sym (items_more front shorter (b ∷ bytes) (front (b ∷ bytes)) (omega arith) refl) ∙ e))
  all_spelled spelled (x ∷ xs) [] are e = let none = items_none front shorter [] refl in absurd cc
  all_spelled spelled (x ∷ xs) (b ∷ bytes) are e =
      let f = first_of x xs (front (b ∷ bytes)) (sym (items_more front shorter (b ∷ bytes) (front (b ∷ bytes)) (omega arith) refl) ∙ e) in
      let s = spelled (b ∷ bytes) x f.0 are f.1 in
      (f.0, s.0, all_spelled spelled xs f.0 s.1 f.2)
