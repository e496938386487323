-- Bytes as bits, the highest first, and readers of them.
use Rattle.std.specs.Prelude.{◌≡◌, ℕ, zero, suc, ◌+◌, ◌*◌, ◌/◌, ◌%◌, ◌^◌, ◌<◌, ◌≤◌, ◌⊎◌, List, [], ◌∷◌, ◌++◌, length, take, drop, Option, Some, None}
use Rattle.std.specs.List.{AllByRecursion}
use Rattle.codec_payload_base.specs.Leb.{AllGoOn, IsLeb128, leb_at}

-- v in n bits, the highest first
unfoldable pub bits : ℕ → ℕ → List ℕ
bits zero v = []
bits (suc n) v = v / 2 ^ n % 2 ∷ bits n v

-- a byte string as the list of its bits
abbrev pub bits_of : List ℕ → List ℕ
bits_of [] = []
bits_of (b ∷ bs) = bits 8 b ++ bits_of bs

-- a byte string and a place among its bits
pub record Reader : Type 0 where
  pub bytes : List ℕ
  pub place : ℕ

-- the remaining bits: the bits from the place on
abbrev pub left : Reader → List ℕ
left r = drop r.place (bits_of r.bytes)

-- the bytes from that byte on in which the place stands
abbrev pub here : Reader → List ℕ
here r = drop (r.place / 8) r.bytes

abbrev pub moved : Reader → ℕ → Reader
moved r n = record r { place = r.place + n }

abbrev pub at_end : Reader → Reader
at_end r = record r { place = 8 * length r.bytes }

-- The result is the number of the first n remaining bits. None, and the same place, if fewer remain.
abbrev pub ReadsBits : ℕ → Reader → Reader → Option ℕ → Type 0
ReadsBits n old new None = (length (left old) < n) × (new ≡ old)
ReadsBits n old new (Some v) = (v < 2 ^ n) × (left old ≡ bits n v ++ left new) × (new ≡ moved old n)

-- The n whole bytes from the current byte on, and the place n bytes on. None, and the same place, if fewer bits remain.
abbrev pub LendsBytes : ℕ → Reader → Reader → Option (List ℕ) → Type 0
LendsBytes n old new None = (length (left old) < 8 * n) × (new ≡ old)
LendsBytes n old new (Some bs) = (8 * n ≤ length (left old)) × (bs ≡ take n (here old)) × (new ≡ moved old (8 * n))

-- The place n bytes on, or the same place if fewer bits remain.
abbrev pub Skips : ℕ → Reader → Reader → Type 0
Skips n old new = (8 * n ≤ length (left old) → new ≡ moved old (8 * n)) × (length (left old) < 8 * n → new ≡ old)

-- The reader has gone over the bytes.
pub record Passes (text : List ℕ) (old new : Reader) : Type 0 where
  pub bytes : AllByRecursion (λ b. b < 256) text
  pub front : left old ≡ bits_of text ++ left new
  pub place : new ≡ moved old (8 * length text)

-- The result is the value of a text. None if ten bytes have the continuation bit, or fewer and then no whole byte; these bytes are
-- read too.
abbrev pub ReadsLeb128 : Reader → Reader → Option ℕ → Type 0
ReadsLeb128 old new None = (text : List ℕ) × AllGoOn text × Passes text old new × ((length text ≡ 10) ⊎ ((length text < 10) × (length (left new) < 8)))
ReadsLeb128 old new (Some v) = (text : List ℕ) × IsLeb128 text v × Passes text old new

-- this number at the front, and then the rest; or none
abbrev pub IsFront : Option ℕ → Option (ℕ × List ℕ) → List ℕ → Type 0
IsFront None read rest = read ≡ None
IsFront (Some n) read rest = read ≡ Some (n, rest)

-- At a whole byte, a read of a LEB128 text returns the number at the front of the bytes there, and leaves the bytes after it.
abbrev pub ReadsLebAtFront : Type 0
ReadsLebAtFront = (old new : Reader) (i : ℕ) (answer : Option ℕ) → old.place ≡ 8 * i → AllByRecursion (λ b. b < 256) old.bytes → ReadsLeb128 old new answer
    → IsFront answer (leb_at (here old)) (here new)

-- the number that bits spell, the highest first
abbrev pub number_of : List ℕ → ℕ
number_of [] = 0
number_of (b ∷ bs) = b * 2 ^ length bs + number_of bs

-- a list of bits as bytes; an incomplete last byte is not counted
unfoldable pub bytes_of : List ℕ → List ℕ
bytes_of (a ∷ b ∷ c ∷ d ∷ e ∷ f ∷ g ∷ h ∷ rest) = number_of (a ∷ b ∷ c ∷ d ∷ e ∷ f ∷ g ∷ h ∷ []) ∷ bytes_of rest
bytes_of bs = []
