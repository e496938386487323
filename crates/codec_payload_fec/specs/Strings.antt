-- Bit strings of packets, and their exclusive or (RFC 5109, sections 7.3, 7.4 and 8).
use Rattle.std.specs.Prelude.{◌≡◌, ℕ, ◌%◌, List, [], ◌∷◌, length, replicate, take, bit_xor}
use Rattle.std.specs.Int.{w16, w32, from_be_bytes}

-- The bits of a packet that FEC protects. `first`: P, X and CC, six bits. `second`: M and PT, eight bits. `time`: the timestamp.
-- `size`: how many bytes are after the fixed header, 16 bits. `bytes`: these bytes, which are the CSRCs, the extension, the payload and
-- the padding
pub record BitString : Type 0 where
  pub first : ℕ
  pub second : ℕ
  pub time : ℕ
  pub size : ℕ
  pub bytes : List ℕ

abbrev pub no_bits : BitString
no_bits = record { first = 0; second = 0; time = 0; size = 0; bytes = [] }

-- the bit string of a packet; fewer than 12 bytes are not a packet
unfoldable pub bit_string : List ℕ → BitString
bit_string (b0 ∷ b1 ∷ n1 ∷ n0 ∷ t3 ∷ t2 ∷ t1 ∷ t0 ∷ c3 ∷ c2 ∷ c1 ∷ c0 ∷ rest) =
    record { first = b0 % 64; second = b1; time = from_be_bytes w32 (t3 ∷ t2 ∷ t1 ∷ t0 ∷ []); size = length rest % 65536; bytes = rest }
bit_string bytes = no_bits

-- the sequence number of a packet
unfoldable pub number_of : List ℕ → ℕ
number_of (b0 ∷ b1 ∷ n1 ∷ n0 ∷ rest) = from_be_bytes w16 (n1 ∷ n0 ∷ [])
number_of bytes = 0

-- the exclusive or of two byte strings; the shorter one counts as with zeros up to the length of the longer one
abbrev pub xor_bytes : List ℕ → List ℕ → List ℕ
xor_bytes [] ys = ys
xor_bytes (x ∷ xs) [] = x ∷ xs
xor_bytes (x ∷ xs) (y ∷ ys) = bit_xor x y ∷ xor_bytes xs ys

abbrev pub xor : BitString → BitString → BitString
xor a b = record {
  first = bit_xor a.first b.first;
  second = bit_xor a.second b.second;
  time = bit_xor a.time b.time;
  size = bit_xor a.size b.size;
  bytes = xor_bytes a.bytes b.bytes;
}

-- the exclusive or of the bit strings of packets
abbrev pub xor_all : List (List ℕ) → BitString
xor_all [] = no_bits
xor_all (p ∷ ps) = xor (bit_string p) (xor_all ps)

-- the first `n` bytes of a bit string
abbrev pub cut_to : ℕ → BitString → BitString
cut_to n a = record a { bytes = take n a.bytes }

-- the exclusive or of a bit string and that of a packet, as long as the former
abbrev pub added : List ℕ → BitString → BitString
added p a = cut_to (length a.bytes) (xor a (bit_string p))

abbrev pub added_all : List (List ℕ) → BitString → BitString
added_all [] a = a
added_all (p ∷ ps) a = added_all ps (added p a)

-- ---- exclusive or is a commutative group of strings of one length

abbrev pub XorCommutes : Type 0
XorCommutes = (xs ys : List ℕ) → xor_bytes xs ys ≡ xor_bytes ys xs

abbrev pub XorAssociates : Type 0
XorAssociates = (xs ys zs : List ℕ) → xor_bytes (xor_bytes xs ys) zs ≡ xor_bytes xs (xor_bytes ys zs)

abbrev pub XorUndoesItself : Type 0
XorUndoesItself = (xs : List ℕ) → xor_bytes xs xs ≡ replicate (length xs) 0
