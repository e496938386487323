-- An OBU without a size, and bytes after it.
use Rattle.std.proofs.Common.{◌≡◌, ℕ, ◌+◌, false, cond, List, [], ◌∷◌, ◌++◌, length, take, drop, Some, refl, sym, ap, ◌∙◌, append_assoc, inl, inr, arith}
use Rattle.std.specs.Prelude.{bit_or}
use Rattle.std.proofs.lemmas.List.{take-append-drop, length-append}
use Rattle.std.proofs.Math.Seq.{drop-append_seam}
use Rattle.codec_payload_base.specs.Leb.{leb}
use Rattle.codec_payload_av1.specs.Av1Obu.{Obu, IsSequence, has_size, is_kept_type, canonical, obu_at}
use Rattle.codec_payload_av1.specs.Av1Receiving.{unit_of}
use Rattle.codec_payload_av1.proofs.Av1ObuGrammar.{obu_split}
use Rattle.codec_payload_av1.proofs.Av1UnitGrammar.{unit_complete}

-- an OBU whose payload continues
abbrev pub going_on : Obu → List ℕ → Obu
going_on o more = record { header = o.header; extension = o.extension; payload = o.payload ++ more }

same_obu : (bytes more rest : List ℕ) (o : Obu) → obu_at bytes ≡ Some (o, rest) → has_size o.header ≡ false → IsSequence (going_on o more ∷ []) (bytes ++ more)
same_obu bytes more rest o is none =
    let parts = obu_split bytes rest o is in
    elim parts.1 [
      | inl sized ↦ absurd (let yes = sized.0 in cc)
      | inr q ↦ (
        record { extension = parts.0.extension },
        inr (none, refl, ap (λ (t : List ℕ). t ++ more) q.2 ∙ ap (λ (t : List ℕ). o.header ∷ t) (append_assoc o.extension o.payload more)),
      )
    ]

-- its payload continues in these bytes
pub unit_going_on : (bytes more rest : List ℕ) (o : Obu) → obu_at bytes ≡ Some (o, rest) → has_size o.header ≡ false
    → unit_of (bytes ++ more) ≡ Some (cond (is_kept_type o.header) (canonical (going_on o more)) [])
unit_going_on bytes more rest o is none =
    unit_complete (bytes ++ more) (going_on o more) (same_obu bytes more rest o is none) ∙ rw none refl

-- its bytes are its header and its payload
pub bare_parts : (bytes rest : List ℕ) (o : Obu) → obu_at bytes ≡ Some (o, rest) → has_size o.header ≡ false → bytes ≡ (o.header ∷ o.extension) ++ o.payload
bare_parts bytes rest o is none =
    elim (obu_split bytes rest o is).1 [
      | inl sized ↦ absurd (let yes = sized.0 in cc)
      | inr q ↦ q.2
    ]

-- bytes after room, and the bytes after them
pub behind_room : (bytes front payload more : List ℕ) (room n : ℕ) → drop room bytes ≡ front ++ payload → length payload + n ≡ length bytes → drop n (bytes ++ more) ≡ payload ++ more
behind_room bytes front payload more room n is fills =
    let before = take room bytes ++ front in
    let parts : bytes ≡ before ++ payload = sym (take-append-drop room bytes) ∙ ap (λ (t : List ℕ). take room bytes ++ t) is ∙ sym (append_assoc (take room bytes) front payload) in
    let place : n ≡ length before = omega (arith, fills, ap length parts, length-append before payload) in
    rw place (ap (λ (t : List ℕ). drop (length before) (t ++ more)) parts ∙ ap (λ (t : List ℕ). drop (length before) t) (append_assoc before payload more) ∙ drop-append_seam before (payload ++ more))

-- the bytes before the payload, and the payload
pub canonical_parts : (out : List ℕ) (o : Obu) (more : List ℕ) → (out ++ (bit_or o.header 2 ∷ (o.extension ++ leb (length o.payload + length more))))
    ++ (o.payload ++ more) ≡ out ++ canonical (going_on o more)
unfolding canonical
canonical_parts out o more =
    let size : leb (length o.payload + length more) ≡ leb (length (o.payload ++ more)) = ap leb (sym (length-append o.payload more)) in
    rw size (simp append_assoc)
