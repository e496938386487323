-- Reading finds the payloads of the grammar.
use Rattle.std.proofs.Common.{◌≡◌, ℕ, zero, suc, ◌/◌, ◌≤◌, ◌<◌, Bool, true, false, cond, ltb, eqb, List, [], ◌∷◌, ◌++◌, length, take, drop, Some, None, refl, sym, ap, subst, ◌∙◌, inl, inr, arith}
use Rattle.std.specs.Prelude.{◌||◌, ◌&&◌, bit_and}
use Rattle.std.proofs.lemmas.Bool.{ltb-false}
use Rattle.std.proofs.lemmas.List.{length-append, length-take, take-append-drop, take_at, drop_at}
use Rattle.codec_payload_av1.specs.Av1Reading.{◌>>=◌}
use Rattle.codec_payload_base.specs.Leb.{IsLeb128, leb_at}
use Rattle.codec_payload_av1.specs.Av1Obu.{has_bit}
use Rattle.codec_payload_av1.specs.Av1Payload.{Payload, payload_at, element_at, each_at, counted_at, elements_at}
use Rattle.codec_payload_av1.specs.Av1Grammar.{StandsFirst, AreEach, AreCounted, AreElements, IsBehind, IsPayload}
use Rattle.codec_payload_av1.proofs.Av1PayloadLengths.{bind_some, some_is, chosen, or_false}
use Rattle.codec_payload_av1.proofs.Av1ReadBack.{each_step, counted_step, nonzero_test}
use Rattle.codec_payload_base.proofs.LebLaws.{leb_complete, leb_sound}

or_first : (a b : Bool) → (a || b) ≡ false → a ≡ false
or_first true b e = absurd cc
or_first false b e = refl

positive : (n : ℕ) → eqb n 0 ≡ false → 0 < n
positive zero e = absurd cc
positive (suc n) e = omega arith

element_split : (bytes e rest : List ℕ) → element_at bytes ≡ Some (e, rest) → StandsFirst e bytes rest
unfolding element_at
element_split bytes e rest read =
    let n = bind_some (leb_at bytes) (λ n. cond (eqb n.0 0 || ltb (length n.1) n.0) None (Some (take n.0 n.1, drop n.0 n.1))) (e, rest) read in
    elim (chosen (eqb n.0.0 0 || ltb (length n.0.1) n.0.0) None (Some (take n.0.0 n.0.1, drop n.0.0 n.0.1)) (Some (e, rest)) n.2) [
      | inl p ↦ absurd (let z = p.1 in cc)
      | inr q ↦
          let long : n.0.0 ≤ length n.0.1 = ltb-false _ _ (or_false (eqb n.0.0 0) (ltb (length n.0.1) n.0.0) q.0) in
          let some : 0 < n.0.0 = positive n.0.0 (or_first (eqb n.0.0 0) (ltb (length n.0.1) n.0.0) q.0) in
          let s = leb_sound bytes n.0.0 n.0.1 n.1 in
          let len : length (take n.0.0 n.0.1) ≡ n.0.0 = omega (arith, length-take n.0.0 n.0.1) in
          subst (λ (x : List ℕ × List ℕ). StandsFirst x.0 bytes x.1) (some_is (take n.0.0 n.0.1, drop n.0.0 n.0.1) (e, rest) q.1) (record {
            nonempty = omega (arith, len, some);
            size = s.0;
            spelled = subst (IsLeb128 s.0) (sym len) s.1;
            parts = s.2 ∙ ap (λ (t : List ℕ). s.0 ++ t) (sym (take-append-drop n.0.0 n.0.1));
          })
    ]

element_joined : (bytes e rest : List ℕ) → StandsFirst e bytes rest → element_at bytes ≡ Some (e, rest)
unfolding element_at
element_joined bytes e rest h =
    rw (
      h.parts,
      leb_complete (h.size ++ (e ++ rest)) (length e) (e ++ rest) h.size h.spelled refl,
      nonzero_test (length e) (length (e ++ rest)) h.nonempty (omega (arith, length-append e rest)),
      take_at e rest (length e) refl,
      drop_at e rest (length e) refl,
    ) refl

-- ---- each after its length

each_sound : (k : ℕ) (bytes : List ℕ) (es : List (List ℕ)) → each_at k bytes ≡ Some es → AreEach es bytes
unfolding each_at
each_sound k [] es e = subst (λ (ys : List (List ℕ)). AreEach ys []) (some_is [] es e) refl
each_sound zero (b ∷ bytes) es e = absurd cc
each_sound (suc k) (b ∷ bytes) es e =
    let x = bind_some (element_at (b ∷ bytes)) (λ x. each_at k x.1 >>= λ ys. Some (x.0 ∷ ys)) es e in
    let ys = bind_some (each_at k x.0.1) (λ ys. Some (x.0.0 ∷ ys)) es x.2 in
    subst (λ (zs : List (List ℕ)). AreEach zs (b ∷ bytes)) (some_is (x.0.0 ∷ ys.0) es ys.2) (x.0.1, element_split (b ∷ bytes) x.0.0 x.0.1 x.1, each_sound k x.0.1 ys.0 ys.1)

shorter : (bytes e rest : List ℕ) → StandsFirst e bytes rest → length rest < length bytes
shorter bytes e rest h = omega (arith, h.nonempty, ap length h.parts, length-append h.size (e ++ rest), length-append e rest)

each_complete : (k : ℕ) (es : List (List ℕ)) (bytes : List ℕ) → length bytes ≤ k → AreEach es bytes → each_at k bytes ≡ Some es
unfolding each_at
each_complete k [] bytes le h = rw h refl
each_complete zero (e ∷ es) bytes le h = absurd (omega (arith, le, shorter bytes e h.0 h.1))
each_complete (suc k) (e ∷ es) bytes le h =
    each_step k bytes e h.0 es (element_joined bytes e h.0 h.1) (each_complete k es h.0 (omega (arith, le, shorter bytes e h.0 h.1)) h.2)

-- ---- a counted number of them

counted_sound : (k : ℕ) (bytes : List ℕ) (es : List (List ℕ)) → counted_at k bytes ≡ Some es → AreCounted k es bytes
unfolding counted_at
counted_sound zero [] es e = subst (λ (ys : List (List ℕ)). AreCounted zero ys []) (some_is [] es e) refl
counted_sound (suc k) [] es e = subst (λ (ys : List (List ℕ)). AreCounted (suc k) ys []) (some_is [] es e) refl
counted_sound zero (b ∷ bytes) es e = subst (λ (ys : List (List ℕ)). AreCounted zero ys (b ∷ bytes)) (some_is ((b ∷ bytes) ∷ []) es e) (omega arith, refl, refl)
counted_sound (suc k) (b ∷ bytes) es e =
    let x = bind_some (element_at (b ∷ bytes)) (λ x. counted_at k x.1 >>= λ ys. Some (x.0 ∷ ys)) es e in
    let ys = bind_some (counted_at k x.0.1) (λ ys. Some (x.0.0 ∷ ys)) es x.2 in
    subst (λ (zs : List (List ℕ)). AreCounted (suc k) zs (b ∷ bytes)) (some_is (x.0.0 ∷ ys.0) es ys.2) (x.0.1, element_split (b ∷ bytes) x.0.0 x.0.1 x.1, counted_sound k x.0.1 ys.0 ys.1)

last_alone : (e : List ℕ) → 0 < length e → counted_at zero e ≡ Some (e ∷ [])
unfolding counted_at
last_alone [] some = absurd (omega (arith, some))
last_alone (b ∷ bytes) some = refl

counted_complete : (k : ℕ) (es : List (List ℕ)) (bytes : List ℕ) → AreCounted k es bytes → counted_at k bytes ≡ Some es
unfolding counted_at
counted_complete k [] bytes h = rw h refl
counted_complete zero (e ∷ es) bytes h = rw (h.2, h.1) (last_alone e h.0)
counted_complete (suc k) (e ∷ es) bytes h = counted_step k bytes e h.0 es (element_joined bytes e h.0 h.1) (counted_complete k es h.0 h.2)

-- ---- payloads

elements_sound : (w : ℕ) (bytes : List ℕ) (es : List (List ℕ)) → elements_at w bytes ≡ Some es → AreElements w es bytes
elements_sound zero bytes es e = each_sound (length bytes) bytes es e
elements_sound (suc k) bytes es e = counted_sound k bytes es e

elements_complete : (w : ℕ) (es : List (List ℕ)) (bytes : List ℕ) → AreElements w es bytes → elements_at w bytes ≡ Some es
elements_complete zero es bytes h = each_complete (length bytes) es bytes (omega arith) h
elements_complete (suc k) es bytes h = counted_complete k es bytes h

pub payload_sound : (bytes : List ℕ) (p : Payload) → payload_at bytes ≡ Some p → IsPayload bytes p
unfolding payload_at
payload_sound [] p e = absurd cc
payload_sound (h ∷ bytes) p e =
    let w = bit_and h 0x30 / 16 in
    let es = bind_some (elements_at w bytes) (λ es. Some (record { continues = has_bit 128 h; goes_on = has_bit 64 h && (eqb w 0 || eqb (length es) w); starts = has_bit 8 h; elements = es })) p e in
    subst (λ (q : Payload). IsBehind h bytes q) (some_is _ p es.2) (record { elements = elements_sound w bytes es.0 es.1; continues = refl; goes_on = refl; starts = refl })

made_again : (p : Payload) (continues goes_on starts : Bool) → p.continues ≡ continues → p.goes_on ≡ goes_on → p.starts ≡ starts
    → Some (record { continues = continues; goes_on = goes_on; starts = starts; elements = p.elements }) ≡ Some p
made_again p continues goes_on starts a b c = rw (← a, ← b, ← c) refl

pub payload_complete : (bytes : List ℕ) (p : Payload) → IsPayload bytes p → payload_at bytes ≡ Some p
unfolding payload_at
payload_complete [] p h = absurd h
payload_complete (header ∷ bytes) p h = rw (elements_complete (bit_and header 0x30 / 16) p.elements bytes h.elements) (made_again p _ _ _ h.continues h.goes_on h.starts)
