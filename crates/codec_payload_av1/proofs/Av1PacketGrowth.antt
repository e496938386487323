-- How a packet grows.
use Rattle.std.proofs.Common.{◌≡◌, ℕ, ◌-◌, ◌+◌, ◌≤◌, ◌<◌, cond, ltb, List, [], ◌∷◌, ◌++◌, length, refl, sym, ◌∙◌, ◌⊎◌, inl, inr, arith}
use Rattle.std.proofs.lemmas.Bool.{lt-ltb, le-ltb}
use Rattle.std.proofs.lemmas.List.{length-append}
use Rattle.codec_payload_av1.specs.Av1Size.{size_with_lengths, packet_size, deferred, own}

lengths_push : (cost : ℕ → ℕ) (es : List ℕ) (n : ℕ) → size_with_lengths cost (es ++ n ∷ []) ≡ size_with_lengths cost es + cost n + n
lengths_push cost [] n = omega arith
lengths_push cost (e ∷ es) n = omega (arith, lengths_push cost es n)

many_push : (cost : ℕ → ℕ) (es : List ℕ) (n : ℕ) → 3 < length es → packet_size cost (es ++ n ∷ []) ≡ packet_size cost es + cost n + n
many_push cost es n more =
    rw (lt-ltb 3 (length es) more, lt-ltb 3 (length (es ++ n ∷ [])) (omega (arith, more, length-append es (n ∷ [])))) (omega (arith, lengths_push cost es n))

pub size_push : (cost : ℕ → ℕ) (es : List ℕ) (n : ℕ) → packet_size cost (es ++ n ∷ []) ≡ packet_size cost es + deferred cost es + own cost es n + n
size_push cost [] n = omega arith
size_push cost (a ∷ []) n = omega arith
size_push cost (a ∷ b ∷ []) n = omega arith
size_push cost (a ∷ b ∷ c ∷ []) n = omega arith
size_push cost (a ∷ b ∷ c ∷ d ∷ es) n = many_push cost (a ∷ b ∷ c ∷ d ∷ es) n (omega arith) ∙ rw (lt-ltb 2 (length (a ∷ b ∷ c ∷ d ∷ es)) (omega arith)) (omega arith)

pub deferred_push : (cost : ℕ → ℕ) (es : List ℕ) (n : ℕ) → deferred cost (es ++ n ∷ []) ≡ cond (ltb 2 (length es)) 0 (cost n)
deferred_push cost [] n = refl
deferred_push cost (a ∷ []) n = refl
deferred_push cost (a ∷ b ∷ []) n = refl
deferred_push cost (a ∷ b ∷ c ∷ []) n = refl
deferred_push cost (a ∷ b ∷ c ∷ d ∷ es) n = rw (lt-ltb 2 (length (a ∷ b ∷ c ∷ d ∷ es)) (omega arith)) refl

-- ---- facts kept for the elements of the open packet

module _ (cost : ℕ → ℕ) (es : List ℕ) (mtu left deferred_length : ℕ) (filled : left + packet_size cost es ≡ mtu) (deferred_is : deferred_length ≡ deferred cost es) where
  pub many_fit : (r : ℕ) → 3 ≤ length es → (0 < r → r + cost r ≤ left - deferred_length) → 0 < r → packet_size cost (es ++ r ∷ []) ≤ mtu
  many_fit r many fits some =
      let own-is : own cost es r ≡ cost r = rw (lt-ltb 2 (length es) many) refl in
      omega (arith, size_push cost es r, own-is, fits some, filled, deferred_is)

  pub many_most : (r : ℕ) → 3 ≤ length es → left - deferred_length < r + 1 + cost (r + 1) → mtu < packet_size cost (es ++ (r + 1) ∷ [])
  many_most r many most =
      let own-is : own cost es (r + 1) ≡ cost (r + 1) = rw (lt-ltb 2 (length es) many) refl in
      omega (arith, size_push cost es (r + 1), own-is, most, filled, deferred_is)

  pub has_room : (n : ℕ) → packet_size cost (es ++ n ∷ []) ≤ mtu → deferred_length + own cost es n + n ≤ left
  has_room n fits = omega (arith, size_push cost es n, fits, filled, deferred_is)

  pub less_left : (n : ℕ) → packet_size cost (es ++ n ∷ []) ≤ mtu → left - (deferred_length + own cost es n + n) + packet_size cost (es ++ n ∷ []) ≡ mtu
  less_left n fits = omega (arith, size_push cost es n, fits, filled, deferred_is)

pub own_few : (cost : ℕ → ℕ) (es : List ℕ) (n : ℕ) → length es < 3 → (own cost es n ≡ 0) × (deferred cost (es ++ n ∷ []) ≡ cost n)
own_few cost es n few = (rw (le-ltb 2 (length es) (omega arith)) refl, deferred_push cost es n ∙ rw (le-ltb 2 (length es) (omega arith)) refl)

pub own_many : (cost : ℕ → ℕ) (es : List ℕ) (n : ℕ) → 3 ≤ length es → (own cost es n ≡ cost n) × (deferred cost (es ++ n ∷ []) ≡ 0)
own_many cost es n many = (rw (lt-ltb 2 (length es) many) refl, deferred_push cost es n ∙ rw (lt-ltb 2 (length es) many) refl)

pub own_either : (cost : ℕ → ℕ) (es : List ℕ) (n now later : ℕ) → ((length es < 3) × (now ≡ 0) × (later ≡ cost n)) ⊎ ((3 ≤ length es) × (now ≡ cost n) × (later ≡ 0))
    → (now ≡ own cost es n) × (later ≡ deferred cost (es ++ n ∷ []))
own_either cost es n now later either =
    elim either [
      | inl few ↦ let h = own_few cost es n few.0 in (few.1 ∙ sym h.0, few.2 ∙ sym h.1)
      | inr many ↦ let h = own_many cost es n many.0 in (many.1 ∙ sym h.0, many.2 ∙ sym h.1)
    ]
