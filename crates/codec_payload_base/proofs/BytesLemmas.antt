-- Bits as bytes again.
use Rattle.std.proofs.Common.{◌≡◌, ℕ, zero, suc, ◌+◌, ◌%◌, ◌^◌, ◌<◌, List, [], ◌∷◌, ◌++◌, length, get_or, refl, sym, ◌∙◌, ap, arith, length-append}
use Rattle.std.proofs.Math.Nat.{mod-eq_of_lt, mod-one}
use Rattle.std.proofs.Math.Numerals.{one-add}
use Rattle.std.proofs.lemmas.Nat.{mod-pow-add}
use Rattle.std.proofs.lemmas.List.{append_cancel_left, get_or-append-add}
use Rattle.codec_payload_base.specs.Bits.{bits, bits_of, number_of, bytes_of}
use Rattle.codec_payload_base.proofs.BitLemmas.{length-bits, bits_of-append}

-- bits spell their number again
pub number_of-bits : (n v : ℕ) → number_of (bits n v) ≡ v % 2 ^ n
unfolding bits
number_of-bits zero v = sym (mod-one v)
number_of-bits (suc n) v =
    rw (length-bits n v, number_of-bits n v) (sym (mod-pow-add v 1 n) ∙ ap (λ t. v % 2 ^ t) (one-add n))

-- the bits of bytes are those bytes again
pub bytes_of-bits_of : (xs : List ℕ) → ((i : ℕ) → i < length xs → get_or xs i 0 < 256) → bytes_of (bits_of xs) ≡ xs
unfolding bits bytes_of
bytes_of-bits_of [] small = refl
bytes_of-bits_of (x ∷ xs) small =
    let first : number_of (bits 8 x) ≡ x = number_of-bits 8 x ∙ mod-eq_of_lt (small 0 (omega arith)) in
    let rest : bytes_of (bits_of xs) ≡ xs = bytes_of-bits_of xs (λ i h. small (suc i) (omega (arith, h))) in
    cc

-- if bits were appended, so were their bytes
pub appended_bytes : (out more new added : List ℕ) → new ≡ out ++ more → bits_of new ≡ bits_of out ++ added → ((i : ℕ) → i < length new → get_or new i 0 < 256) → new ≡ out ++ bytes_of added
appended_bytes out more new added e same small =
    let both : bits_of more ≡ added = append_cancel_left (bits_of out) (bits_of more) added (sym (bits_of-append out more) ∙ ap bits_of (sym e) ∙ same) in
    let below : (i : ℕ) → i < length more → get_or more i 0 < 256 = λ i h. omega (arith, h, small (length out + i) (omega (arith, h, ap length e, length-append out more)), ap (λ t. get_or t (length out + i) 0) e, get_or-append-add out more i 0) in
    e ∙ ap (λ t. out ++ t) (sym (bytes_of-bits_of more below) ∙ ap bytes_of both)
