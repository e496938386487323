-- The OBUs that are read from a frame are the OBUs of the grammar, and canonical OBUs are their own canonical form.
use Rattle.std.proofs.Common.{◌≡◌, ℕ, zero, suc, ◌+◌, ◌^◌, ◌<◌, ◌≤◌, Bool, true, false, cond, ltb, eqb, List, [], ◌∷◌, ◌++◌, length, take, drop, map, get_or, Some, None, refl, sym, ap, subst, ◌∙◌, append_assoc, ◌⊎◌, inl, inr, arith}
use Rattle.std.specs.Prelude.{◌&&◌, bit_and, bit_or}
use Rattle.std.specs.List.{AllByRecursion, flat_map}
use Rattle.std.proofs.lemmas.List.{length-append, take_at, drop_at, take-append-drop, length-take, get_or-append-add}
use Rattle.std.proofs.lemmas.Bool.{le-ltb, ltb-false, eqb-true}
use Rattle.codec_payload_base.specs.Leb.{IsLeb128, leb, leb_at}
use Rattle.codec_payload_base.proofs.LebLaws.{writes_leb, leb_complete, leb_sound}
use Rattle.codec_payload_av1.specs.Av1Reading.{◌>>=◌}
use Rattle.codec_payload_av1.specs.Av1Obu.{Obu, IsObu, IsSequence, has_size, has_extension, kept, canonical, canonical_unit, extension_at, sized_at, obu_at, obus_within, obus_of}
use Rattle.codec_payload_av1.proofs.Av1PayloadLengths.{bind_some, some_is, chosen}
use Rattle.codec_payload_av1.proofs.Av1ReadBack.{and_true, at_each, extension_again, IsGood, sized}
use Rattle.codec_payload_av1.proofs.Av1RoundTrip.{AllKept, kept_all}

-- ---- OBUs that are read are in the grammar

abbrev ext_pair : List ℕ → List ℕ → List ℕ × List ℕ
ext_pair a b = (a, b)

extension_split : (b : Bool) (bytes ext rest : List ℕ) → extension_at b bytes ≡ Some (ext, rest) → (length ext ≡ cond b 1 0) × (bytes ≡ ext ++ rest)
extension_split false bytes ext rest e = let same : ext_pair [] bytes ≡ ext_pair ext rest = some_is _ _ e in
    (ap (λ (x : List ℕ × List ℕ). length x.0) (sym same), ap (λ (x : List ℕ × List ℕ). x.0 ++ x.1) same)
extension_split true [] ext rest e = absurd cc
extension_split true (x ∷ bytes) ext rest e = let same : ext_pair (x ∷ []) bytes ≡ ext_pair ext rest = some_is _ _ e in
    (ap (λ (y : List ℕ × List ℕ). length y.0) (sym same), ap (λ (y : List ℕ × List ℕ). y.0 ++ y.1) same)

-- one OBU with its size precedes the rest, or one without it takes all bytes
abbrev pub Parts : Obu → List ℕ → List ℕ → Type 0
Parts o bytes rest = IsObu o ×
    (((has_size o.header ≡ true) × ((size : List ℕ) × IsLeb128 size (length o.payload) × (bytes ≡ o.header ∷ (o.extension ++ (size ++ (o.payload ++ rest))))))
    ⊎ ((has_size o.header ≡ false) × (rest ≡ []) × (bytes ≡ o.header ∷ (o.extension ++ o.payload))))

sized_split : (header : ℕ) (ext bytes rest : List ℕ) (o : Obu) → has_size header ≡ true → length ext ≡ cond (has_extension header) 1 0
    → sized_at header ext bytes ≡ Some (o, rest) → Parts o (header ∷ (ext ++ bytes)) rest
sized_split header ext bytes rest o sized one e =
    let n = bind_some (leb_at bytes) (λ n. cond (ltb (length n.1) n.0) None (Some (record { header = header; extension = ext; payload = take n.0 n.1 }, drop n.0 n.1))) (o, rest) e in
    elim (chosen (ltb (length n.0.1) n.0.0) None (Some (record { header = header; extension = ext; payload = take n.0.0 n.0.1 }, drop n.0.0 n.0.1)) (Some (o, rest)) n.2) [
      | inl p ↦ absurd (let z = p.1 in cc)
      | inr q ↦
          let long : n.0.0 ≤ length n.0.1 = ltb-false _ _ q.0 in
          let s = leb_sound bytes n.0.0 n.0.1 n.1 in
          let made : Obu = record { header = header; extension = ext; payload = take n.0.0 n.0.1 } in
          let len : length (take n.0.0 n.0.1) ≡ n.0.0 = omega (arith, length-take n.0.0 n.0.1) in
          let text : IsLeb128 s.0 (length (take n.0.0 n.0.1)) = subst (IsLeb128 s.0) (sym len) s.1 in
          let parts : header ∷ (ext ++ bytes) ≡ header ∷ (ext ++ (s.0 ++ (take n.0.0 n.0.1 ++ drop n.0.0 n.0.1))) =
          ap (λ (t : List ℕ). header ∷ (ext ++ t)) (s.2 ∙ ap (λ (t : List ℕ). s.0 ++ t) (sym (take-append-drop n.0.0 n.0.1))) in
          subst (λ (x : Obu × List ℕ). Parts x.0 (header ∷ (ext ++ bytes)) x.1) (some_is (made, drop n.0.0 n.0.1) (o, rest) q.1) (record { extension = one }, inl (sized, (s.0, text, parts)))
    ]

pub obu_split : (bytes rest : List ℕ) (o : Obu) → obu_at bytes ≡ Some (o, rest) → Parts o bytes rest
unfolding obu_at
obu_split [] rest o e = absurd cc
obu_split (header ∷ bytes) rest o e =
    let x = bind_some (extension_at (has_extension header) bytes)
    (λ x. cond (has_size header) (sized_at header x.0 x.1) (Some (record { header = header; extension = x.0; payload = x.1 }, []))) (o, rest) e in
    let ext = extension_split (has_extension header) bytes x.0.0 x.0.1 x.1 in
    subst (λ (t : List ℕ). Parts o (header ∷ t) rest) (sym ext.1)
    (elim (chosen (has_size header) (sized_at header x.0.0 x.0.1) (Some (record { header = header; extension = x.0.0; payload = x.0.1 }, [])) (Some (o, rest)) x.2) [
      | inl p ↦ sized_split header x.0.0 x.0.1 rest o p.0 ext.0 p.1
      | inr q ↦
          let made : Obu = record { header = header; extension = x.0.0; payload = x.0.1 } in
          subst (λ (y : Obu × List ℕ). Parts y.0 (header ∷ (x.0.0 ++ x.0.1)) y.1) (some_is (made, []) (o, rest) q.1) (record { extension = ext.0 }, inr (q.0, refl, refl))
    ])

nothing_left : (k : ℕ) (rest : List ℕ) (os : List Obu) → rest ≡ [] → obus_within k rest ≡ Some os → os ≡ []
unfolding obus_within
nothing_left k [] os e read = sym (some_is [] os read)
nothing_left k (b ∷ rest) os e read = absurd cc

within_sound : (k : ℕ) (bytes : List ℕ) (os : List Obu) → obus_within k bytes ≡ Some os → IsSequence os bytes
unfolding obus_within
within_sound k [] os e = subst (λ (ys : List Obu). IsSequence ys []) (some_is [] os e) refl
within_sound zero (b ∷ bytes) os e = absurd cc
within_sound (suc k) (b ∷ bytes) os e =
    let o = bind_some (obu_at (b ∷ bytes)) (λ o. obus_within k o.1 >>= λ ys. Some (o.0 ∷ ys)) os e in
    let ys = bind_some (obus_within k o.0.1) (λ ys. Some (o.0.0 ∷ ys)) os o.2 in
    let parts = obu_split (b ∷ bytes) o.0.1 o.0.0 o.1 in
    let others = within_sound k o.0.1 ys.0 ys.1 in
    subst (λ (zs : List Obu). IsSequence zs (b ∷ bytes)) (some_is (o.0.0 ∷ ys.0) os ys.2) (
      parts.0,
      elim parts.1 [
        | inl p ↦ inl (p.0, (p.1.0, o.0.1, p.1.1, p.1.2, others))
        | inr q ↦ inr (q.0, nothing_left k o.0.1 ys.0 q.1 ys.1, q.2)
      ],
    )

pub sequence_sound : (bytes : List ℕ) (os : List Obu) → obus_of bytes ≡ Some os → IsSequence os bytes
unfolding obus_of
sequence_sound bytes os e = within_sound (length bytes) bytes os e

-- ---- OBUs of the grammar are read

sized_again : (o : Obu) (size rest : List ℕ) → IsLeb128 size (length o.payload) → sized_at o.header o.extension (size ++ (o.payload ++ rest)) ≡ Some (o, rest)
sized_again o size rest text =
    let n = leb_complete (size ++ (o.payload ++ rest)) (length o.payload) (o.payload ++ rest) size text refl in
    rw (
      n,
      le-ltb (length (o.payload ++ rest)) (length o.payload) (omega (arith, length-append o.payload rest)),
      take_at o.payload rest (length o.payload) refl,
      drop_at o.payload rest (length o.payload) refl,
    ) refl

pub obu_again : (o : Obu) (bytes rest : List ℕ) → Parts o bytes rest → obu_at bytes ≡ Some (o, rest)
unfolding obu_at
obu_again o bytes rest parts =
    elim parts.1 [
      | inl p ↦
          let size = p.1.0 in
          rw (p.1.2, extension_again (has_extension o.header) o.extension (size ++ (o.payload ++ rest)) parts.0.extension, p.0) (sized_again o size rest p.1.1)
      | inr q ↦ rw (q.2, q.1, extension_again (has_extension o.header) o.extension o.payload parts.0.extension, q.0) refl
    ]

within_step : (k : ℕ) (bytes rest : List ℕ) (o : Obu) (os : List Obu) → obu_at bytes ≡ Some (o, rest) → obus_within k rest ≡ Some os → obus_within (suc k) bytes ≡ Some (o ∷ os)
unfolding obus_within obu_at
within_step k [] rest o os one others = absurd cc
within_step k (b ∷ bytes) rest o os one others = rw (one, others) refl

within_complete : (k : ℕ) (os : List Obu) (bytes : List ℕ) → length bytes ≤ k → IsSequence os bytes → obus_within k bytes ≡ Some os
unfolding obus_within
within_complete k [] bytes le h = rw h refl
within_complete zero (o ∷ os) bytes le h =
    elim h.1 [
      | inl p ↦ absurd (omega (arith, le, ap length p.1.3))
      | inr q ↦ absurd (omega (arith, le, ap length q.2))
    ]
within_complete (suc k) (o ∷ os) bytes le h =
    elim h.1 [
      | inl p ↦
          let size = p.1.0 in
          let rest = p.1.1 in
          let shorter : length rest ≤ k = omega (arith, le, simp length-append at (ap length p.1.3)) in
          within_step k bytes rest o os (obu_again o bytes rest (h.0, inl (p.0, (size, p.1.2, p.1.3)))) (within_complete k os rest shorter p.1.4)
      | inr q ↦ within_step k bytes [] o os (obu_again o bytes [] (h.0, inr (q.0, refl, q.2))) (rw q.1 refl)
    ]

pub sequence_complete : (os : List Obu) (bytes : List ℕ) → IsSequence os bytes → obus_of bytes ≡ Some os
unfolding obus_of
sequence_complete os bytes h = within_complete (length bytes) os bytes (omega arith) h

-- ---- the parts of a frame of bytes

abbrev pub IsBytes : List ℕ → Type 0
IsBytes bytes = (i : ℕ) → get_or bytes i 0 < 256

tail_bytes : (xs ys : List ℕ) → IsBytes (xs ++ ys) → IsBytes ys
tail_bytes xs ys h i = rw (← get_or-append-add xs ys i 0) (h (length xs + i))

pub sequence_good : (os : List Obu) (bytes : List ℕ) → IsBytes bytes → length bytes < 2 ^ 64 → IsSequence os bytes → AllByRecursion IsGood os
sequence_good [] bytes fits short h = tt
sequence_good (o ∷ os) bytes fits short h =
    elim h.1 [
      | inl p ↦
          let regrouped : bytes ≡ (o.header ∷ (o.extension ++ (p.1.0 ++ o.payload))) ++ p.1.1 = p.1.3 ∙ simp append_assoc in
          let fits' : IsBytes ((o.header ∷ (o.extension ++ (p.1.0 ++ o.payload))) ++ p.1.1) = subst IsBytes regrouped fits in
          let len = simp length-append at (ap length p.1.3) in (
            record { is_obu = h.0; byte = fits' 0; size = omega (arith, short, len) },
            sequence_good os p.1.1 (tail_bytes (o.header ∷ (o.extension ++ (p.1.0 ++ o.payload))) p.1.1 fits') (omega (arith, short, len)) p.1.4,
          )
      | inr q ↦
          let fits' : IsBytes (o.header ∷ (o.extension ++ o.payload)) = subst IsBytes q.2 fits in
          let len = simp length-append at (ap length q.2) in
          (record { is_obu = h.0; byte = fits' 0; size = omega (arith, short, len) }, rw q.1 tt)
    ]

-- ---- canonical OBUs

abbrev size_test : ℕ → Bool
size_test h = eqb (bit_and (bit_or h 2) 4) (bit_and h 4) && (eqb (bit_and (bit_or h 2) 2) 2 && (eqb (bit_and (bit_or h 2) 0x78) (bit_and h 0x78) && eqb (bit_or (bit_or h 2) 2) (bit_or h 2)))

record Sized (h : ℕ) : Type 0 where
  extension : bit_and (bit_or h 2) 4 ≡ bit_and h 4
  size : bit_and (bit_or h 2) 2 ≡ 2
  type : bit_and (bit_or h 2) 0x78 ≡ bit_and h 0x78
  back : bit_or (bit_or h 2) 2 ≡ bit_or h 2

sized_header : (h : ℕ) → h < 256 → Sized h
sized_header h lt =
    let a = and_true _ _ (at_each 256 size_test refl h lt) in
    let b = and_true _ _ a.1 in
    let c = and_true _ _ b.1 in
    record { extension = eqb-true _ _ a.0; size = eqb-true _ _ b.0; type = eqb-true _ _ c.0; back = eqb-true _ _ c.1 }

canonical_parts : (o : Obu) (rest : List ℕ) → IsGood o → Parts (sized o) (canonical o ++ rest) rest
unfolding canonical
canonical_parts o rest good =
    let s = sized_header o.header good.byte in
    let one : IsObu (sized o) = record { extension = rw s.extension good.is_obu.extension } in
    let text : IsLeb128 (leb (length o.payload)) (length o.payload) = writes_leb (length o.payload) good.size in
    (one, inl (rw s.size refl, (leb (length o.payload), text, simp append_assoc)))

sized_kept : (os : List Obu) → AllKept os → kept (map sized os) ≡ map sized os
sized_kept [] h = refl
sized_kept (o ∷ os) h =
    let s = sized_header o.header h.0.0.byte in
    rw (s.type, h.0.1) (ap (λ (ys : List Obu). sized o ∷ ys) (sized_kept os h.1))

canonical_same : (o : Obu) → IsGood o → canonical (sized o) ≡ canonical o
unfolding canonical
canonical_same o good = rw (sized_header o.header good.byte).back refl

units_same : (os : List Obu) → AllKept os → flat_map canonical (map sized os) ≡ flat_map canonical os
units_same [] h = refl
units_same (o ∷ os) h = rw (canonical_same o h.0.0, units_same os h.1) refl

canonical_sequence : (os : List Obu) → AllKept os → IsSequence (map sized os) (flat_map canonical os)
canonical_sequence [] h = refl
canonical_sequence (o ∷ os) h =
    let rest = flat_map canonical os in
    let parts = canonical_parts o rest h.0.0 in (
      parts.0,
      elim parts.1 [
        | inl p ↦ inl (p.0, (p.1.0, rest, p.1.1, p.1.2, canonical_sequence os h.1))
        | inr q ↦ absurd (let s = (sized_header o.header h.0.0.byte).size in let none : has_size (bit_or o.header 2) ≡ true = rw s refl in let other = q.0 in cc)
      ],
    )

-- The canonical unit of a canonical unit is itself.
pub canonical_again : (os : List Obu) → AllByRecursion IsGood os → IsSequence (map sized (kept os)) (canonical_unit os) × (canonical_unit (map sized (kept os)) ≡ canonical_unit os)
canonical_again os good =
    let all = kept_all os good in
    (canonical_sequence (kept os) all, ap (λ (ys : List Obu). flat_map canonical ys) (sized_kept (kept os) all) ∙ units_same (kept os) all)
