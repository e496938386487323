-- How the payloads of a list of packets represent a list of strings, and which of these lists is sent.
use Rattle.std.specs.Prelude.{◌≡◌, ℕ, ◌<◌, ◌≤◌, List, [], ◌∷◌, ◌++◌, length, map, Option, Some, None, Bool, true, false, if◌then◌else◌}
use Rattle.std.specs.List.{AllByRecursion, flat_map}
use Rattle.codec_payload_base.specs.Pieces.{joined}
use Rattle.codec_payload_av1.specs.Av1Payload.{Payload, written, payload_at}

-- The elements that end here, the first joined to its earlier part; and the part of one that continues.
abbrev pub ended : Bool → List ℕ → List (List ℕ) → List (List ℕ)
ended goes_on begun [] = []
ended goes_on begun (e ∷ []) = if goes_on then [] else (begun ++ e) ∷ []
ended goes_on begun (e ∷ f ∷ es) = (begun ++ e) ∷ ended goes_on [] (f ∷ es)

abbrev pub left_open : Bool → List ℕ → List (List ℕ) → List ℕ
left_open goes_on begun [] = begun
left_open goes_on begun (e ∷ []) = if goes_on then begun ++ e else []
left_open goes_on begun (e ∷ f ∷ es) = left_open goes_on [] (f ∷ es)

abbrev pub is_begun : List ℕ → Bool
is_begun [] = false
is_begun (b ∷ bytes) = true

abbrev pub IsElement : List ℕ → Type 0
IsElement e = 0 < length e

-- After the earlier part of the first string, the payloads represent the strings.
abbrev pub StandsAfter : List ℕ → List Payload → List (List ℕ) → Type 0
StandsAfter begun [] strings = (begun ≡ []) × (strings ≡ [])
StandsAfter begun (p ∷ ps) strings = (p.continues ≡ is_begun begun) × AllByRecursion IsElement p.elements
    × ((rest : List (List ℕ)) × (strings ≡ ended p.goes_on begun p.elements ++ rest) × StandsAfter (left_open p.goes_on begun p.elements) ps rest)

abbrev pub StandsFor : List Payload → List (List ℕ) → Type 0
StandsFor ps strings = StandsAfter [] ps strings

-- ---- full packets

-- the elements with one byte more: at the end of the last one if it continues, else in a new one
abbrev pub with_next : Bool → ℕ → List (List ℕ) → List (List ℕ)
with_next goes_on next [] = (next ∷ []) ∷ []
with_next goes_on next (e ∷ []) = if goes_on then (e ++ next ∷ []) ∷ [] else e ∷ (next ∷ []) ∷ []
with_next goes_on next (e ∷ f ∷ es) = e ∷ with_next goes_on next (f ∷ es)

-- With one byte more it would be longer than the MTU.
abbrev pub IsFull : ℕ → Payload → Type 0
IsFull mtu p = (next : ℕ) → mtu < length (written (record p { elements = with_next p.goes_on next p.elements }))

abbrev pub AllFullButLast : ℕ → List Payload → Type 0
AllFullButLast mtu [] = Unit {0}
AllFullButLast mtu (p ∷ []) = Unit {0}
AllFullButLast mtu (p ∷ q ∷ ps) = IsFull mtu p × AllFullButLast mtu (q ∷ ps)

abbrev pub HasElement : Payload → Type 0
HasElement p = 0 < length p.elements

-- N is set on the first packet, if a sequence starts.
abbrev pub StartsFirst : Bool → List Payload → Type 0
StartsFirst starts [] = Unit {0}
StartsFirst starts (p ∷ ps) = (p.starts ≡ starts) × AllByRecursion (λ q. q.starts ≡ false) ps

-- The payloads of the packets in which the strings are sent. starts: the first string is a sequence header.
pub record Sent (mtu : ℕ) (starts : Bool) (strings : List (List ℕ)) (ps : List Payload) : Type 0 where
  pub stands : StandsFor ps strings
  pub nonempty : AllByRecursion HasElement ps
  pub within : AllByRecursion (λ p. length (written p) ≤ mtu) ps
  pub full : AllFullButLast mtu ps
  pub first : StartsFirst starts ps

-- These are the packets in which the strings are sent.
abbrev pub AreSent : ℕ → Bool → List (List ℕ) → List (List ℕ) → Type 0
AreSent mtu starts strings packets = (ps : List Payload) × (packets ≡ map written ps) × Sent mtu starts strings ps

-- ---- any other packets

-- these bytes, packet for packet, are read as these payloads
abbrev pub AreRead : List (List ℕ) → List Payload → Type 0
AreRead [] [] = Unit {0}
AreRead [] (p ∷ ps) = ⊥
AreRead (bytes ∷ others) [] = ⊥
AreRead (bytes ∷ others) (p ∷ ps) = (payload_at bytes ≡ Some p) × AreRead others ps

-- A list of payloads of at most mtu bytes that represents the strings.
pub record Packs (mtu : ℕ) (others : List (List ℕ)) (strings : List (List ℕ)) : Type 0 where
  pub payloads : List Payload
  pub read : AreRead others payloads
  pub within : AllByRecursion (λ bytes. length bytes ≤ mtu) others
  pub stands : StandsFor payloads strings

-- the bytes of the strings that a packet carries, and how far into the strings packets reach
abbrev pub bytes_in : Option Payload → List ℕ
bytes_in None = []
bytes_in (Some p) = joined p.elements

abbrev pub carried : List ℕ → List ℕ
carried packet = bytes_in (payload_at packet)

abbrev pub reach : List (List ℕ) → ℕ
reach packets = length (flat_map carried packets)
