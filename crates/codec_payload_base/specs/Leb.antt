-- LEB128: seven bits a byte, the lowest first. Every byte but the last has 0x80.
use Rattle.std.specs.Prelude.{◌≡◌, ℕ, zero, suc, ◌+◌, ◌*◌, ◌/◌, ◌%◌, ◌^◌, ◌<◌, ◌≤◌, ⊤, List, [], ◌∷◌, ◌++◌, length, Option, Some, None, nat_lt, if◌then◌else◌, refl}
use Rattle.std.specs.Option.{option_map}

-- ---- the value of a text

-- bytes from 0x80 on, which have the continuation bit
abbrev pub AllGoOn : List ℕ → Type 0
AllGoOn [] = ⊤
AllGoOn (b ∷ bs) = (128 ≤ b) × AllGoOn bs

-- the sum of each byte's low 7 bits times 128 to the power of its place
abbrev pub leb128_value : List ℕ → ℕ
leb128_value [] = 0
leb128_value (b ∷ bs) = b % 128 + 128 * leb128_value bs

-- at most ten bytes: each except the last is 0x80 or more, and the last is less; the value is taken modulo 2 ^ 64
pub record IsLeb128 (text : List ℕ) (value : ℕ) : Type 0 where
  pub front : List ℕ
  pub last : ℕ
  pub is : text ≡ front ++ last ∷ []
  pub go_on : AllGoOn front
  pub ends : last < 128
  pub short : length text ≤ 10
  pub sum : value ≡ leb128_value text % 2 ^ 64

-- ---- reading

-- a number of at most k + 1 bytes at the front, and the bytes after it
abbrev pub leb_front : ℕ → List ℕ → Option (ℕ × List ℕ)
leb_front k [] = None
leb_front zero (b ∷ bs) = if nat_lt b 128 then Some (b, bs) else None
leb_front (suc k) (b ∷ bs) = if nat_lt b 128 then Some (b, bs) else option_map (λ high. (b % 128 + 128 * high.0, high.1)) (leb_front k bs)

-- its value modulo 2 ^ 64
abbrev pub leb_low : ℕ → List ℕ → Option (ℕ × List ℕ)
leb_low k bytes = option_map (λ x. (x.0 % 2 ^ 64, x.1)) (leb_front k bytes)

-- the number at the front, of at most ten bytes, and the bytes after it
unfoldable pub leb_at : List ℕ → Option (ℕ × List ℕ)
leb_at bytes = leb_low 9 bytes

-- ---- writing

-- the shortest spelling, of at most k + 1 bytes
abbrev pub leb_within : ℕ → ℕ → List ℕ
leb_within zero n = n ∷ []
leb_within (suc k) n = if nat_lt n 128 then n ∷ [] else (n % 128 + 128) ∷ leb_within k (n / 128)

-- the shortest spelling of a number of 64 bits
unfoldable pub leb : ℕ → List ℕ
leb n = leb_within 9 n

-- ---- theorems

-- The bytes written for a number encode that number.
abbrev pub WritesLeb : Type 0
WritesLeb = (n : ℕ) → n < 2 ^ 64 → IsLeb128 (leb n) n

-- No text that encodes a number is shorter than the written bytes.
abbrev pub WritesShortest : Type 0
WritesShortest = (n : ℕ) (text : List ℕ) → IsLeb128 text n → length (leb n) ≤ length text

-- Numbers below 2 ^ 63 take at most nine bytes.
abbrev pub TakesNine : Type 0
TakesNine = (n : ℕ) → n < 2 ^ 63 → length (leb n) ≤ 9

-- Reading finds the number that a text at the front says, and no other.
abbrev pub FindsLeb : Type 0
FindsLeb = (bytes : List ℕ) (n : ℕ) (rest : List ℕ) → ((text : List ℕ) → IsLeb128 text n → bytes ≡ text ++ rest → leb_at bytes ≡ Some (n, rest))
    × (leb_at bytes ≡ Some (n, rest) → (text : List ℕ) × IsLeb128 text n × (bytes ≡ text ++ rest))

-- one byte up to 127, two from 128 on
pub leb-127 : leb 127 ≡ 0x7f ∷ []
unfolding leb
leb-127 = refl

pub leb-128 : leb 128 ≡ 0x80 ∷ 0x01 ∷ []
unfolding leb
leb-128 = refl

pub leb-300 : leb 300 ≡ 0xac ∷ 0x02 ∷ []
unfolding leb
leb-300 = refl
