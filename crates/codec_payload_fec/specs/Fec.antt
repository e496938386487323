-- Packets of FEC with level 0 (RFC 5109, sections 7.3 and 7.4).
use Rattle.std.specs.Prelude.{ℕ, zero, suc, ◌+◌, ◌-◌, ◌*◌, ◌%◌, ◌^◌, ◌<◌, ◌==◌, ◌&&◌, nat_lt, if◌then◌else◌, Bool, List, [], ◌∷◌, ◌++◌, length, Option, Some, None, IfSome}
use Rattle.std.specs.Int.{w16, w32, bit_at, to_be_bytes}
use Rattle.codec_payload_fec.specs.Strings.{BitString}

-- `base`: SN base. `mask`: the mask of 16 bits. `continued`: the 32 further bits, if L is set. `recovery`: the recovery fields of the FEC
-- header, and the payload of level 0. `further`: the bytes after it, which are further levels
pub record Fec : Type 0 where
  pub base : ℕ
  pub mask : ℕ
  pub continued : Option ℕ
  pub recovery : BitString
  pub further : List ℕ

-- ---- spelling

-- L says that the mask has 48 bits
abbrev pub long_bit : Option ℕ → ℕ
long_bit None = 0
long_bit (Some c) = 64

abbrev pub continued_bytes : Option ℕ → List ℕ
continued_bytes None = []
continued_bytes (Some c) = to_be_bytes w32 c

-- the FEC header: E 0, L, P X CC recovery, M PT recovery, SN base, TS recovery, length recovery
abbrev pub head_bytes : Fec → List ℕ
head_bytes f = (long_bit f.continued + f.recovery.first) ∷ f.recovery.second ∷ (to_be_bytes w16 f.base ++ to_be_bytes w32 f.recovery.time ++ to_be_bytes w16 f.recovery.size)

-- the header of level 0: protection length and mask; and the payload of level 0
abbrev pub level_bytes : Fec → List ℕ
level_bytes f = to_be_bytes w16 (length f.recovery.bytes) ++ to_be_bytes w16 f.mask ++ continued_bytes f.continued ++ f.recovery.bytes

-- the parts up to the mask of 16 bits
abbrev pub front_bytes : Fec → List ℕ
front_bytes f = head_bytes f ++ to_be_bytes w16 (length f.recovery.bytes) ++ to_be_bytes w16 f.mask

abbrev pub fec_bytes : Fec → List ℕ
fec_bytes f = head_bytes f ++ (level_bytes f ++ f.further)

-- ---- the set of protected numbers

-- the mask as 48 bits, the highest of which is that of SN base
abbrev pub or_zero : Option ℕ → ℕ
or_zero None = 0
or_zero (Some n) = n

abbrev pub mask_of : ℕ → Option ℕ → ℕ
mask_of mask continued = mask * 2 ^ 32 + or_zero continued

-- bit `place` of a mask of 48 bits is set, counted from the highest bit
unfoldable pub is_set : ℕ → ℕ → Bool
is_set place mask = bit_at mask (47 - place) == 1

-- the number that a place stands for: so many after SN base
abbrev pub number_at : ℕ → ℕ → ℕ
number_at place base = (base + place) % 65536

-- the numbers that the first `n` bits of a mask stand for, in order
abbrev pub if_set : Bool → ℕ → List ℕ
if_set is_set number = if is_set then number ∷ [] else []

unfoldable pub numbers_in : ℕ → ℕ → ℕ → List ℕ
numbers_in zero mask base = []
numbers_in (suc n) mask base = numbers_in n mask base ++ if_set (is_set n mask) (number_at n base)

-- the numbers that a packet of FEC protects
unfoldable pub numbers : Fec → List ℕ
numbers f = numbers_in 48 (mask_of f.mask f.continued) f.base

-- ---- values

-- each field has its width, and a number is protected
pub record FitsFec (f : Fec) : Type 0 where
  pub base : f.base < 65536
  pub mask : f.mask < 65536
  pub continued : IfSome f.continued (λ c. c < 4294967296)
  pub first : f.recovery.first < 64
  pub time : f.recovery.time < 4294967296
  pub size : f.recovery.size < 65536
  pub few : length f.recovery.bytes < 65536
  pub protects : 0 < mask_of f.mask f.continued

-- the same of fields that have the width of their types, as a test
abbrev pub fec_fits : Fec → Bool
fec_fits f = nat_lt f.recovery.first 64 && nat_lt (length f.recovery.bytes) 65536 && nat_lt 0 (mask_of f.mask f.continued)
