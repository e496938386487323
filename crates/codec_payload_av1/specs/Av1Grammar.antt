-- The grammar of AV1 payloads, by cases on their elements.
use Rattle.std.specs.Prelude.{◌≡◌, ℕ, zero, suc, ◌<◌, ◌/◌, ◌||◌, ◌&&◌, ◌==◌, List, [], ◌∷◌, ◌++◌, Some, length, bit_and}
use Rattle.codec_payload_base.specs.Leb.{IsLeb128}
use Rattle.codec_payload_av1.specs.Av1Obu.{Obu, IsSequence, has_bit, obus_of}
use Rattle.codec_payload_av1.specs.Av1Payload.{Payload, payload_at}
use Rattle.codec_payload_av1.specs.Av1Receiving.{added, unit_of}

-- an element, which is not empty, after its length in any spelling, and then the rest
pub record StandsFirst (element bytes rest : List ℕ) : Type 0 where
  pub nonempty : 0 < length element
  pub size : List ℕ
  pub spelled : IsLeb128 size (length element)
  pub parts : bytes ≡ size ++ (element ++ rest)

-- each element after its length
abbrev pub AreEach : List (List ℕ) → List ℕ → Type 0
AreEach [] bytes = bytes ≡ []
AreEach (e ∷ es) bytes = (rest : List ℕ) × StandsFirst e bytes rest × AreEach es rest

-- up to n elements after their lengths, and one that takes the rest
abbrev pub AreCounted : ℕ → List (List ℕ) → List ℕ → Type 0
AreCounted k [] bytes = bytes ≡ []
AreCounted zero (e ∷ es) bytes = (0 < length e) × (es ≡ []) × (bytes ≡ e)
AreCounted (suc k) (e ∷ es) bytes = (rest : List ℕ) × StandsFirst e bytes rest × AreCounted k es rest

-- W = 0, and W = k + 1
abbrev pub AreElements : ℕ → List (List ℕ) → List ℕ → Type 0
AreElements zero es bytes = AreEach es bytes
AreElements (suc k) es bytes = AreCounted k es bytes

-- an aggregation header and the bytes after it; Y counts only if all elements that W announces are present
pub record IsBehind (header : ℕ) (bytes : List ℕ) (p : Payload) : Type 0 where
  pub elements : AreElements (bit_and header 0x30 / 16) p.elements bytes
  pub continues : p.continues ≡ has_bit 128 header
  pub goes_on : p.goes_on ≡ (has_bit 64 header && (bit_and header 0x30 / 16 == 0 || length p.elements == bit_and header 0x30 / 16))
  pub starts : p.starts ≡ has_bit 8 header

abbrev pub IsPayload : List ℕ → Payload → Type 0
IsPayload [] p = ⊥
IsPayload (header ∷ bytes) p = IsBehind header bytes p

-- reading finds the payload that the grammar gives, and no other
abbrev pub ReadsPayload : Type 0
ReadsPayload = (bytes : List ℕ) (p : Payload) → (IsPayload bytes p → payload_at bytes ≡ Some p) × (payload_at bytes ≡ Some p → IsPayload bytes p)

-- reading finds the OBUs that the grammar gives, and no others
abbrev pub ReadsSequence : Type 0
ReadsSequence = (frame : List ℕ) (obus : List Obu) → (IsSequence obus frame → obus_of frame ≡ Some obus) × (obus_of frame ≡ Some obus → IsSequence obus frame)

-- an element gives a unit exactly if it is one OBU, and then the bytes that this OBU appends
abbrev pub ReadsUnit : Type 0
ReadsUnit = (element : List ℕ) (o : Obu) (unit : List ℕ) → (IsSequence (o ∷ []) element → unit_of element ≡ Some (added element o))
    × (unit_of element ≡ Some unit → (p : Obu) × IsSequence (p ∷ []) element × (unit ≡ added element p))
