-- What a field of hexadecimal digits spells.
use Rattle.std.specs.Prelude.{ℕ, ◌+◌, ◌*◌, ◌%◌, ◌==◌, ◌&&◌, nat_lt, Bool, if◌then◌else◌, List, [], ◌∷◌, length, codes, Option, Some, None, unwrap_or}
use Rattle.std.specs.List.{list_all}
use Rattle.std.specs.Str.{bytes_eq}
use Rattle.hex.specs.Hex.{hex_digit_value, is_hex_digit}

-- the value of a hexadecimal digit
abbrev pub digit_of : ℕ → ℕ
digit_of c = unwrap_or (hex_digit_value c) 0

-- the byte of each two digits, the high four bits first
abbrev pub bytes_of_pairs : List ℕ → List ℕ
bytes_of_pairs [] = []
bytes_of_pairs (digit ∷ []) = []
bytes_of_pairs (high ∷ low ∷ rest) = (digit_of high * 16 + digit_of low) ∷ bytes_of_pairs rest

-- whether the text is an even, nonzero number of hexadecimal digits
abbrev pub is_hex_pairs : List ℕ → Bool
is_hex_pairs text = nat_lt 0 (length text) && (length text % 2 == 0) && list_all is_hex_digit text

-- the bytes that a field spells: `-` spells none, and no other text than digits in pairs spells any
abbrev pub hex_field_of : List ℕ → Option (List ℕ)
hex_field_of text =
    if bytes_eq text (codes "-") then Some []
    else if is_hex_pairs text then Some (bytes_of_pairs text)
    else None
