-- What a field of hexadecimal digits spells is what the crate `hex` decodes.
use Rattle.std.proofs.Common.{◌≡◌, ◌≢◌, ◌∙◌, ℕ, ◌+◌, ◌*◌, ◌%◌, ◌<◌, ◌==◌, true, false, ◌&&◌, inl, inr, List, [], ◌∷◌, length, codes, Option, Some, None, is_some, unwrap_or, Result, Ok, Err, refl, ap, arith}
use Rattle.std.specs.Prelude.{IfOk, nat_lt, String, string_bytes}
use Rattle.std.specs.List.{AllPass, list_all}
use Rattle.std.specs.Str.{bytes_eq}
use Rattle.std.proofs.lemmas.Bool.{and_parts, cases_Bool, eq-eqb, eqb-true, lt-ltb}
use Rattle.std.proofs.lemmas.List.Elements.{All-head, All-tail}
use Rattle.std.proofs.lemmas.List.Sums.{AllPass-from_list_all, list_all-from_AllPass}
use Rattle.std.proofs.lemmas.Slice.Eq.{bytes_eq-Decides}
use Rattle.hex.specs.Hex.{IsBytes, decode_of, decode_pairs, digit_or_error, encode_lower, hex_digit_value, is_hex_digit, lower_digits, pair_value, value_at}
use Rattle.hex.specs.declared.error.FromHexError.{FromHexError}
use Rattle.hex.proofs.HexLemmas.{decode_of-digits, decode_of-encode_lower, decode_of-even, decode_of-ok, decode_of-same, length-encode_with}
use Rattle.hex.proofs.Pairs.{cons_byte, decode_pairs-ok_pair}
use Rattle.payload_lines.specs.HexField.{bytes_of_pairs, digit_of, hex_field_of, is_hex_pairs}

-- a digit reads as its value
value_at-digit : (c i : ℕ) (o : Option ℕ) → is_some o ≡ true → digit_or_error c i o ≡ Ok (unwrap_or o 0)
value_at-digit c i (Some v) h = refl
value_at-digit c i None h = cc h

-- the fact of `AllPass is_hex_digit`
abbrev IsDigit : ℕ → Type 0
IsDigit c = is_hex_digit c ≡ true

-- pairs of digits decode to their bytes
decode_pairs-digits : (i : ℕ) (s : List ℕ) → length s % 2 ≡ 0 → AllPass is_hex_digit s
    → decode_pairs i s ≡ Ok (bytes_of_pairs s)
unfolding decode_pairs
decode_pairs-digits i [] even h = refl
decode_pairs-digits i (a ∷ []) even h = absurd (omega arith)
decode_pairs-digits i (a ∷ b ∷ rest) even h =
    let tail = All-tail IsDigit a (b ∷ rest) h in
    let high : value_at a i ≡ Ok (digit_of a) = value_at-digit a i (hex_digit_value a) (All-head IsDigit a (b ∷ rest) h) in
    let low : value_at b (i + 1) ≡ Ok (digit_of b) = value_at-digit b (i + 1) (hex_digit_value b) (All-head IsDigit b rest tail) in
    let pair : pair_value a b i ≡ Ok (digit_of a * 16 + digit_of b) = rw (high, low) refl in
    let others = decode_pairs-digits (i + 2) rest (omega arith) (All-tail IsDigit b rest tail) in
    decode_pairs-ok_pair i a b _ rest pair ∙ ap (cons_byte (digit_of a * 16 + digit_of b)) others

-- what decodes is the bytes of its pairs
bytes_of_pairs-decoded : (text bytes : List ℕ) → decode_of text ≡ Ok bytes → bytes_of_pairs text ≡ bytes
bytes_of_pairs-decoded text bytes h =
    let digits = decode_of-ok text bytes h in
    decode_of-same text (bytes_of_pairs text) bytes
    (decode_of-even text digits.0 ∙ decode_pairs-digits 0 text digits.0 digits.1) h

-- the test of pairs, from its three facts
is_hex_pairs-true : (text : List ℕ) → 0 < length text → length text % 2 ≡ 0 → AllPass is_hex_digit text
    → is_hex_pairs text ≡ true
is_hex_pairs-true text nonempty even digits =
    rw (lt-ltb 0 (length text) nonempty, eq-eqb (length text % 2) 0 even, list_all-from_AllPass is_hex_digit text digits) refl

-- a list that is not empty has an element
nonempty_length : (xs : List ℕ) → xs ≢ [] → 0 < length xs
nonempty_length [] some = absurd (some refl)
nonempty_length (x ∷ xs) some = omega arith

-- a text other than `-` fails the test for it
dash_test-false : (text : List ℕ) → text ≢ codes "-" → bytes_eq text (codes "-") ≡ false
dash_test-false text other = grind (arith, bytes_eq-Decides)

-- `-` spells no bytes
pub hex_field_of-dash : (text : List ℕ) → text ≡ codes "-" → hex_field_of text ≡ Some []
hex_field_of-dash text h = rw h refl

-- digits spell what they decode to
pub hex_field_of-decoded : (text bytes : List ℕ) → text ≢ codes "-" → 0 < length text → decode_of text ≡ Ok bytes
    → hex_field_of text ≡ Some bytes
hex_field_of-decoded text bytes other nonempty h =
    let digits = decode_of-ok text bytes h in
    rw (dash_test-false text other, is_hex_pairs-true text nonempty digits.0 digits.1, bytes_of_pairs-decoded text bytes h) refl

-- text that is not decoded does not consist of pairs of digits
is_hex_pairs-refused : (text : List ℕ) (e : FromHexError) → decode_of text ≡ Err e → is_hex_pairs text ≡ false
is_hex_pairs-refused text e h =
    elim (cases_Bool (is_hex_pairs text)) [
      | inl pairs ↦
          let sized = and_parts (nat_lt 0 (length text) && (length text % 2 == 0)) (list_all is_hex_digit text) pairs in
          let even = eqb-true (length text % 2) 0 (and_parts (nat_lt 0 (length text)) (length text % 2 == 0) sized.0).1 in
          let read = decode_of-digits text even (AllPass-from_list_all is_hex_digit text sized.1) in
          cc (h, read.1)
      | inr other ↦ other
    ]

-- text that is not decoded spells nothing
pub hex_field_of-refused : (text : List ℕ) (e : FromHexError) → text ≢ codes "-" → decode_of text ≡ Err e
    → hex_field_of text ≡ None
hex_field_of-refused text e other h = rw (dash_test-false text other, is_hex_pairs-refused text e h) refl

-- the lower-case digits of some bytes spell those bytes
pub hex_field_of-encode_lower : (bytes : List ℕ) → bytes ≢ [] → IsBytes bytes
    → hex_field_of (encode_lower bytes) ≡ Some bytes
hex_field_of-encode_lower bytes some fits =
    let sized = length-encode_with lower_digits bytes in
    let nonempty : 0 < length bytes = nonempty_length bytes some in
    hex_field_of-decoded (encode_lower bytes) bytes
    (λ dash. let one : length (encode_lower bytes) ≡ 1 = ap length dash in omega (arith, sized, one))
    (omega (arith, sized)) (decode_of-encode_lower bytes fits)

-- a text of the lower-case digits of some bytes spells those bytes
pub IfOk-hex_field_of : {A E : Type 0} (made : Result (String A) E) (bytes : List ℕ) → bytes ≢ [] → IsBytes bytes
    → IfOk made (λ text. string_bytes text ≡ encode_lower bytes)
    → IfOk made (λ text. hex_field_of (string_bytes text) ≡ Some bytes)
IfOk-hex_field_of (Ok text) bytes some fits h = rw h (hex_field_of-encode_lower bytes some fits)
IfOk-hex_field_of (Err e) bytes some fits h = h
