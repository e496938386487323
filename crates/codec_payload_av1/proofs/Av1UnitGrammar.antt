-- An element gives a unit exactly if it is one OBU.
use Rattle.std.proofs.Common.{◌≡◌, ℕ, false, cond, List, [], ◌∷◌, Some, None, refl, sym, inl, inr}
use Rattle.codec_payload_av1.specs.Av1Obu.{Obu, IsSequence, obu_at}
use Rattle.codec_payload_av1.specs.Av1Packing.{is_begun}
use Rattle.codec_payload_av1.specs.Av1Receiving.{added, unit_of}
use Rattle.codec_payload_av1.proofs.Av1PayloadLengths.{bind_some, chosen, some_is}
use Rattle.codec_payload_av1.proofs.Av1ObuGrammar.{obu_again, obu_split}

nothing_behind : (rest : List ℕ) → is_begun rest ≡ false → rest ≡ []
nothing_behind [] is = refl
nothing_behind (b ∷ rest) is = absurd cc

one_unit : (element rest : List ℕ) (o : Obu) → obu_at element ≡ Some (o, rest) → rest ≡ [] → unit_of element ≡ Some (added element o)
unfolding unit_of
one_unit element rest o is none = rw (is, none) refl

pub unit_complete : (element : List ℕ) (o : Obu) → IsSequence (o ∷ []) element → unit_of element ≡ Some (added element o)
unit_complete element o h =
    elim h.1 [
      | inl p ↦ one_unit element p.1.1 o (obu_again o element p.1.1 (h.0, inl (p.0, (p.1.0, p.1.2, p.1.3)))) p.1.4
      | inr q ↦ one_unit element [] o (obu_again o element [] (h.0, inr (q.0, refl, q.2))) refl
    ]

alone : (element rest : List ℕ) (o : Obu) → obu_at element ≡ Some (o, rest) → rest ≡ [] → IsSequence (o ∷ []) element
alone element rest o is none =
    let parts = obu_split element rest o is in (
      parts.0,
      elim parts.1 [
        | inl p ↦ inl (p.0, (p.1.0, rest, p.1.1, p.1.2, none))
        | inr q ↦ inr (q.0, refl, q.2)
      ],
    )

pub unit_sound : (element unit : List ℕ) → unit_of element ≡ Some unit → (o : Obu) × IsSequence (o ∷ []) element × (unit ≡ added element o)
unfolding unit_of
unit_sound element unit e =
    let o = bind_some (obu_at element) (λ o. cond (is_begun o.1) None (Some (added element o.0))) unit e in
    elim (chosen (is_begun o.0.1) None (Some (added element o.0.0)) (Some unit) o.2) [
      | inl p ↦ absurd (let no = p.1 in cc)
      | inr q ↦ (o.0.0, alone element o.0.1 o.0.0 o.1 (nothing_behind o.0.1 q.0), sym (some_is (added element o.0.0) unit q.1))
    ]
