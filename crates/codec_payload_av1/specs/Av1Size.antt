-- The size of a packet, by the lengths of its elements.
use Rattle.std.specs.Prelude.{ℕ, ◌+◌, List, [], ◌∷◌, length, map, nat_lt, if◌then◌else◌}
use Rattle.std.specs.Global.{Vec}
use Rattle.std.specs.List.{sum_by}
use Rattle.codec_payload_base.specs.Leb.{leb}
use Rattle.codec_payload_av1.specs.Av1Obu.{Obu, string}

-- ---- the size of a packet of elements of these lengths; cost is the size of a length

abbrev pub size_with_lengths : (ℕ → ℕ) → List ℕ → ℕ
size_with_lengths cost [] = 0
size_with_lengths cost (e ∷ es) = cost e + e + size_with_lengths cost es

abbrev pub size_last_bare : (ℕ → ℕ) → List ℕ → ℕ
size_last_bare cost [] = 0
size_last_bare cost (e ∷ []) = e
size_last_bare cost (e ∷ f ∷ es) = cost e + e + size_last_bare cost (f ∷ es)

abbrev pub packet_size : (ℕ → ℕ) → List ℕ → ℕ
packet_size cost es = 1 + (if nat_lt 3 (length es) then size_with_lengths cost es else size_last_bare cost es)

abbrev pub leb_len : ℕ → ℕ
leb_len n = length (leb n)

-- the size of the last element's length, which is written only if another element follows
abbrev pub deferred : (ℕ → ℕ) → List ℕ → ℕ
deferred cost [] = 0
deferred cost (a ∷ []) = cost a
deferred cost (a ∷ b ∷ []) = cost b
deferred cost (a ∷ b ∷ c ∷ []) = cost c
deferred cost (a ∷ b ∷ c ∷ d ∷ es) = 0

-- the size of the length of an element after these
abbrev pub own : (ℕ → ℕ) → List ℕ → ℕ → ℕ
own cost es n = if nat_lt 2 (length es) then cost n else 0

-- the packet that is being filled: its capacity, and the elements so far
pub record Opened : Type 0 where
  pub mtu : ℕ
  pub elements : List (List ℕ)

abbrev pub lengths : List (List ℕ) → List ℕ
lengths es = map length es

abbrev pub items_of : List (Vec ℕ) → List (List ℕ)
items_of vs = map (λ v. v.items) vs

-- the number of bytes of these OBUs that packets carry
abbrev pub bytes_sent : List Obu → ℕ
bytes_sent os = sum_by (λ o. length (string o)) os
