-- The OBUs of a frame.
use Rattle.std.specs.Prelude.{◌≡◌, ℕ, zero, suc, List, [], ◌∷◌, ◌++◌, length, map, take, drop, Option, Some, None, Bool, true, false, not, ◌||◌, nat_lt, ◌==◌, if◌then◌else◌, bit_and, bit_or, ◌⊎◌}
use Rattle.std.specs.List.{flat_map, filter}
use Rattle.codec_payload_av1.specs.declared.av1.obu.ObuSlices.{ObuSlices}
use Rattle.codec_payload_base.specs.Leb.{IsLeb128, leb, leb_at}
use Rattle.codec_payload_av1.specs.Av1Reading.{◌>>=◌}

-- The first byte of the header unchanged, the extension byte if there is one, and the payload.
pub record Obu : Type 0 where
  pub header : ℕ
  pub extension : List ℕ
  pub payload : List ℕ

abbrev pub has_bit : ℕ → ℕ → Bool
has_bit mask byte = not (bit_and byte mask == 0)

abbrev pub has_extension : ℕ → Bool
has_extension header = has_bit 4 header

abbrev pub has_size : ℕ → Bool
has_size header = has_bit 2 header

-- types 1 and 3 to 7
abbrev pub is_kept_type : ℕ → Bool
is_kept_type header =
    let type = bit_and header 0x78 in
    type == 0x08 || type == 0x18 || type == 0x20 || type == 0x28 || type == 0x30 || type == 0x38

-- An extension byte is present exactly if the header says so.
pub record IsObu (o : Obu) : Type 0 where
  pub extension : length o.extension ≡ (if has_extension o.header then 1 else 0)

-- ---- the grammar, by cases on the bytes of a frame

-- The frame is these OBUs: none; or one with its size before the others; or one without a size, which takes all remaining bytes.
abbrev pub IsSequence : List Obu → List ℕ → Type 0
IsSequence [] bytes = bytes ≡ []
IsSequence (o ∷ os) bytes = IsObu o ×
    (((has_size o.header ≡ true) × ((size : List ℕ) × (rest : List ℕ) × IsLeb128 size (length o.payload) × (bytes ≡ o.header ∷ (o.extension ++ (size ++ (o.payload ++ rest)))) × IsSequence os rest))
    ⊎ ((has_size o.header ≡ false) × (os ≡ []) × (bytes ≡ o.header ∷ (o.extension ++ o.payload))))

-- ---- the sent form of an OBU, and the form that a receiver makes of it

-- The bytes that packets carry: no size, and its bit cleared.
unfoldable pub string : Obu → List ℕ
string o = bit_and o.header 0xfd ∷ (o.extension ++ o.payload)

unfoldable pub canonical : Obu → List ℕ
canonical o = bit_or o.header 2 ∷ (o.extension ++ (leb (length o.payload) ++ o.payload))

abbrev pub kept : List Obu → List Obu
kept os = filter (λ o. is_kept_type o.header) os

-- the first of the kept OBUs is a sequence header
abbrev pub starts_sequence : List Obu → Bool
starts_sequence [] = false
starts_sequence (o ∷ os) = bit_and o.header 0x78 == 0x08

-- the strings that are sent of a frame
abbrev pub strings_of : List Obu → List (List ℕ)
strings_of os = map string (kept os)

abbrev pub canonical_unit : List Obu → List ℕ
canonical_unit os = flat_map canonical (kept os)

-- an OBU without its place in memory
abbrev pub view : ObuSlices → Obu
view o = record { header = o.header; extension = o.extension.now; payload = o.payload.now }

-- ---- reading

-- the extension byte, if the header announces one
abbrev pub extension_at : Bool → List ℕ → Option (List ℕ × List ℕ)
extension_at false bytes = Some ([], bytes)
extension_at true [] = None
extension_at true (e ∷ bytes) = Some (e ∷ [], bytes)

abbrev pub sized_at : ℕ → List ℕ → List ℕ → Option (Obu × List ℕ)
sized_at header extension bytes = leb_at bytes >>= λ n.
    if nat_lt (length n.1) n.0 then None
    else Some (record { header = header; extension = extension; payload = take n.0 n.1 }, drop n.0 n.1)

-- one OBU, and the bytes after it
unfoldable pub obu_at : List ℕ → Option (Obu × List ℕ)
obu_at [] = None
obu_at (header ∷ bytes) = extension_at (has_extension header) bytes >>= λ x.
    if has_size header then sized_at header x.0 x.1
    else Some (record { header = header; extension = x.0; payload = x.1 }, [])

-- whether a size at the front is the size of all bytes after it
abbrev pub is_whole : Option (ℕ × List ℕ) → Bool
is_whole None = false
is_whole (Some n) = n.0 == length n.1

abbrev pub is_one_behind : ℕ → Option (List ℕ × List ℕ) → Bool
is_one_behind header None = false
is_one_behind header (Some x) = if has_size header then is_whole (leb_at x.1) else true

-- whether bytes are exactly one OBU
abbrev pub is_one : List ℕ → Bool
is_one [] = false
is_one (header ∷ bytes) = is_one_behind header (extension_at (has_extension header) bytes)

unfoldable pub obus_within : ℕ → List ℕ → Option (List Obu)
obus_within k [] = Some []
obus_within zero (b ∷ bytes) = None
obus_within (suc k) (b ∷ bytes) = obu_at (b ∷ bytes) >>= λ o. obus_within k o.1 >>= λ os. Some (o.0 ∷ os)

-- the OBUs of a frame; None if it is not a sequence
unfoldable pub obus_of : List ℕ → Option (List Obu)
obus_of bytes = obus_within (length bytes) bytes

-- the kept OBUs of a frame
unfoldable pub frame_kept : List ℕ → Option (List Obu)
frame_kept bytes = obus_of bytes >>= λ os. Some (kept os)
