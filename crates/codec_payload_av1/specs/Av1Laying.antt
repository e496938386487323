-- The state of a packer between two pieces.
use Rattle.std.specs.Prelude.{◌&&◌, ◌==◌, ◌≡◌, ℕ, ◌≤◌, Bool, false, List, [], ◌∷◌, ◌++◌, length, map}
use Rattle.std.specs.List.{AllByRecursion}
use Rattle.codec_payload_av1.specs.Av1Payload.{Payload, written}
use Rattle.codec_payload_av1.specs.Av1Packing.{ended, left_open, is_begun, IsElement, IsFull, HasElement, StartsFirst}
use Rattle.codec_payload_av1.specs.Av1Size.{Opened, packet_size, leb_len, lengths}

-- after the begun part of the first string, the payloads represent the strings, and this part is left open
abbrev pub Laid : List ℕ → List Payload → List (List ℕ) → List ℕ → Type 0
Laid begun [] strings left = (strings ≡ []) × (begun ≡ left)
Laid begun (p ∷ ps) strings left = (p.continues ≡ is_begun begun) × AllByRecursion IsElement p.elements
    × ((rest : List (List ℕ)) × (strings ≡ ended p.goes_on begun p.elements ++ rest) × Laid (left_open p.goes_on begun p.elements) ps rest left)

-- a packet that is closed
pub record IsClosed (mtu : ℕ) (p : Payload) : Type 0 where
  pub nonempty : HasElement p
  pub within : length (written p) ≤ mtu
  pub full : IsFull mtu p

-- Before the string that is being laid stand these strings, and this much of it was laid. In closed packets are these
-- payloads, and in the opened one these elements.
pub record Laying (mtu : ℕ) (starts : Bool) (before : List (List ℕ)) (partial : List ℕ) (ps : List Payload) (continues : Bool) (opened : List (List ℕ)) : Type 0 where
  pub strings : List (List ℕ)
  pub mid : List ℕ
  pub laid : Laid [] ps strings mid
  pub next : (e : List ℕ) → strings ++ ended false mid (opened ++ e ∷ []) ≡ before ++ (partial ++ e) ∷ []
  pub continues_is : continues ≡ is_begun mid
  pub elements : AllByRecursion IsElement opened
  pub closed : AllByRecursion (IsClosed mtu) ps
  pub first : StartsFirst starts ps

-- N of the next packet
abbrev pub starts_next : Bool → List Payload → Bool
starts_next starts [] = starts
starts_next starts (p ∷ ps) = false

-- The packets so far, and the open one, hold these strings and this much of the next.
abbrev pub Lays : Bool → List (List ℕ) → List ℕ → List Payload → Bool → Opened → Type 0
Lays starts before partial ps continues opened = Laying opened.mtu starts before partial ps continues opened.elements × (packet_size leb_len (lengths opened.elements) ≤ opened.mtu)

-- N is set if no packets precede it
abbrev pub starts_with : Bool → List Payload → Bool
starts_with starts ps = starts && length ps == 0

-- The packets so far, as bytes, and the open one hold these strings and this much of the next.
abbrev pub LaysWritten : Bool → List (List ℕ) → List ℕ → List (List ℕ) → Bool → Opened → Type 0
LaysWritten starts before partial packets continues opened = (ps : List Payload) × (packets ≡ map written ps) × Lays starts before partial ps continues opened
