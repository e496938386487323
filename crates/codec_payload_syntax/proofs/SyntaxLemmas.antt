-- Syntax tables: spelled bits are read, and bits that are read are spelled so.
use Rattle.std.proofs.Common.{◌≡◌, ℕ, zero, suc, ◌+◌, ◌*◌, ◌%◌, ◌^◌, ◌<◌, ◌≤◌, List, [], ◌∷◌, ◌++◌, length, take, drop, Bool, true, false, cond, ltb, Result, Ok, Err, refl, sym, ap, ◌∙◌, subst, arith, length-append, pow-add}
use Rattle.std.specs.Prelude.{IfOk}
use Rattle.std.specs.List.{AllByRecursion}
use Rattle.std.proofs.lemmas.Bool.{le-ltb, ltb-false}
use Rattle.std.proofs.lemmas.Nat.{pow_pos}
use Rattle.std.proofs.lemmas.List.{take_at, drop_at, drop-drop, take-append-drop, length-take-le, length-drop}
use Rattle.std.proofs.Math.Nat.{mod-eq_of_lt, mod-lt}
use Rattle.std.proofs.Math.Seq.{take-add}
use Rattle.codec_payload_base.specs.Bits.{bits, bits_of, number_of}
use Rattle.codec_payload_base.proofs.BitLemmas.{length-bits, bits-cat}
use Rattle.codec_payload_base.proofs.BytesLemmas.{number_of-bits}
use Rattle.codec_payload_syntax.specs.Syntax.{Syntax, value, refuses, field, skips, branch, follows, then_read, read, Spells, IsSpelled, paired, without_rest, value_of}

-- ---- results

-- a test that did not fail
pub guard_ok : {F A : Type 0} (b : Bool) (d : F) (r : Result A F) (y : A) → cond b (Err d) r ≡ Ok y → (b ≡ false) × (r ≡ Ok y)
guard_ok true d r y e = absurd cc
guard_ok false d r y e = (refl, e)

abbrev pub done : {F A : Type 0} → A → Result A F
done x = Ok x

pub ok_is : {F A : Type 0} (x y : A) → done {F = F} x ≡ done {F = F} y → x ≡ y
ok_is x y e = cc

-- ---- fields

front_number : (n v : ℕ) (bs rest : List ℕ) → v < 2 ^ n → bs ≡ bits n v ++ rest → number_of (take n bs) ≡ v
front_number n v bs rest small is =
    ap (λ (t : List ℕ). number_of (take n t)) is ∙ ap number_of (take_at (bits n v) rest n (length-bits n v)) ∙ number_of-bits n v ∙ mod-eq_of_lt small

pub field_again : {F : Type 0} (short : F) (n v : ℕ) (bs rest : List ℕ) → v < 2 ^ n → bs ≡ bits n v ++ rest → read short (field n) bs ≡ Ok (v, rest)
field_again short n v bs rest small is =
    let behind : drop n bs ≡ rest = ap (drop n) is ∙ drop_at (bits n v) rest n (length-bits n v) in
    rw (le-ltb (length bs) n (omega (arith, ap length is, length-append (bits n v) rest, length-bits n v)), front_number n v bs rest small is, behind) refl

pub record IsField (n v : ℕ) (bs rest : List ℕ) : Type 0 where
  pub enough : n ≤ length bs
  pub value : number_of (take n bs) ≡ v
  pub behind : drop n bs ≡ rest

pub field_is : {F : Type 0} (short : F) (n v : ℕ) (bs rest : List ℕ) → Ok (v, rest) ≡ read short (field n) bs → IsField n v bs rest
field_is short n v bs rest is =
    let g = guard_ok (ltb (length bs) n) short (Ok (number_of (take n bs), drop n bs)) (v, rest) (sym is) in
    let same = ok_is (number_of (take n bs), drop n bs) (v, rest) g.1 in
    record { enough = ltb-false _ _ g.0; value = ap (λ (p : ℕ × List ℕ). p.0) same; behind = ap (λ (p : ℕ × List ℕ). p.1) same }

number_of-append : (xs ys : List ℕ) → number_of (xs ++ ys) ≡ number_of xs * 2 ^ length ys + number_of ys
number_of-append [] ys = omega arith
number_of-append (x ∷ xs) ys =
    let e = number_of-append xs ys in
    let long : 2 ^ length (xs ++ ys) ≡ 2 ^ length xs * 2 ^ length ys = ap (λ (k : ℕ). 2 ^ k) (length-append xs ys) ∙ pow-add 2 (length xs) (length ys) in
    rw (long, e) (omega arith)

-- a field in two parts
pub field_joined : {F : Type 0} (short : F) (n a b high low : ℕ) (bs middle rest : List ℕ) → a + b ≡ n → Ok (high, middle) ≡ read short (field a) bs → Ok (low, rest) ≡ read short (field b) middle → Ok (high * 2 ^ b + low, rest) ≡ read short (field n) bs
field_joined short n a b high low bs middle rest sum first second =
    let f = field_is short a high bs middle first in
    let s = field_is short b low middle rest second in
    let long : length middle + a ≡ length bs = omega (arith, ap length f.behind, length-drop a bs, f.enough) in
    let short : length (take b (drop a bs)) ≡ b = length-take-le b (drop a bs) (omega (arith, s.enough, ap length f.behind)) in
    let value : number_of (take n bs) ≡ high * 2 ^ b + low =
    ap (λ (k : ℕ). number_of (take k bs)) (sym sum)
    ∙ ap number_of (take-add a b bs) ∙ number_of-append (take a bs) (take b (drop a bs))
    ∙ ap (λ (k : ℕ). number_of (take a bs) * 2 ^ k + number_of (take b (drop a bs))) short
    ∙ ap (λ (k : ℕ). k * 2 ^ b + number_of (take b (drop a bs))) f.value
    ∙ ap (λ (t : List ℕ). high * 2 ^ b + number_of (take b t)) f.behind ∙ ap (λ (k : ℕ). high * 2 ^ b + k) s.value in
    let behind : drop n bs ≡ rest = ap (λ (k : ℕ). drop k bs) (sym sum) ∙ sym (drop-drop b a bs) ∙ ap (drop b) f.behind ∙ s.behind in
    rw (le-ltb (length bs) n (omega (arith, long, s.enough, sum)), value, behind) refl

-- ---- lists of bits

abbrev pub AreBits : List ℕ → Type 0
AreBits bs = AllByRecursion (λ b. b < 2) bs

bound_of : (bs : List ℕ) → bits (length bs) (number_of bs) ≡ bs → number_of bs < 2 ^ length bs
bound_of bs e =
    let n : ℕ = number_of bs in
    let same : n ≡ n % 2 ^ length bs = sym (ap number_of e) ∙ number_of-bits (length bs) n in
    subst (λ (k : ℕ). k < 2 ^ length bs) (sym same) (mod-lt n (pow_pos (length bs)))

one_bit : (b : ℕ) → b < 2 → bits 1 b ≡ b ∷ []
unfolding bits
one_bit zero h = refl
one_bit (suc zero) h = refl
one_bit (suc (suc b)) h = absurd (omega (arith, h))

pub number_bits : (bs : List ℕ) → AreBits bs → bits (length bs) (number_of bs) ≡ bs
unfolding bits
number_bits [] are = refl
number_bits (b ∷ bs) (small, are) =
    let e = number_bits bs are in
    let n : ℕ = length bs in
    let r : ℕ = number_of bs in
    let next : n + 1 ≡ suc n = omega arith in
    ap (λ (k : ℕ). bits k (b * 2 ^ n + r)) (sym next) ∙ bits-cat n 1 b r (bound_of bs e) ∙ ap (λ (t : List ℕ). t ++ bits n r) (one_bit b small) ∙ ap (λ (t : List ℕ). b ∷ t) e

take_are : (n : ℕ) (bs : List ℕ) → AreBits bs → AreBits (take n bs)
take_are zero bs are = tt
take_are (suc n) [] are = tt
take_are (suc n) (b ∷ bs) (small, are) = (small, take_are n bs are)

pub drop_are : (n : ℕ) (bs : List ℕ) → AreBits bs → AreBits (drop n bs)
drop_are zero bs are = are
drop_are (suc n) [] are = tt
drop_are (suc n) (b ∷ bs) (small, are) = drop_are n bs are

append_are : (xs ys : List ℕ) → AreBits xs → AreBits ys → AreBits (xs ++ ys)
append_are [] ys a b = b
append_are (x ∷ xs) ys (small, a) b = (small, append_are xs ys a b)

bits_are : (n v : ℕ) → AreBits (bits n v)
unfolding bits
bits_are zero v = tt
bits_are (suc n) v = (omega arith, bits_are n v)

pub bits_of_are : (bytes : List ℕ) → AreBits (bits_of bytes)
bits_of_are [] = tt
bits_of_are (b ∷ bytes) = append_are (bits 8 b) (bits_of bytes) (bits_are 8 b) (bits_of_are bytes)

-- ---- tables

pub spelled_again : {F A : Type 0} (short : F) (s : Syntax F A) (bs : List ℕ) (x : A) (rest : List ℕ) → Spells s bs x rest → read short s bs ≡ Ok (x, rest)
spelled_again short (value y) bs x rest (e1, e2) = rw (e1, e2) refl
spelled_again short (refuses e) bs x rest is = absurd is
spelled_again short (field n) bs x rest (small, is) = field_again short n x bs rest small is
spelled_again short (skips n) bs x rest (none, skipped, long, is) =
    let behind : drop n bs ≡ rest = ap (drop n) is ∙ drop_at skipped rest n long in
    rw (le-ltb (length bs) n (omega (arith, ap length is, length-append skipped rest, long)), behind, none) refl
spelled_again short (branch true s t) bs x rest is = spelled_again short s bs x rest is
spelled_again short (branch false s t) bs x rest is = spelled_again short t bs x rest is
spelled_again short (follows s f) bs y rest (x, middle, first, second) = rw (spelled_again short s bs x middle first) (spelled_again short (f x) middle y rest second)

abbrev Takes : {F A : Type 0} → Syntax F A → List ℕ → A → List ℕ → Type 0
Takes s bs x rest = Spells s bs x rest × AreBits rest

then_ok : {F A B : Type 0} (r : Result (A × List ℕ) F) (f : A → List ℕ → Result (B × List ℕ) F) (y : B × List ℕ) → then_read r f ≡ Ok y → (x : A) × (middle : List ℕ) × (r ≡ Ok (x, middle)) × (f x middle ≡ Ok y)
then_ok (Ok x) f y e = (x.0, x.1, refl, e)
then_ok (Err d) f y e = absurd cc

field_taken : (F : Type 0) (n : ℕ) (bs : List ℕ) → n ≤ length bs → AreBits bs → Takes (field {F = F} n) bs (number_of (take n bs)) (drop n bs)
field_taken F n bs enough are =
    let front : List ℕ = take n bs in
    let long : length front ≡ n = length-take-le n bs enough in
    let e : bits n (number_of front) ≡ front = ap (λ (k : ℕ). bits k (number_of front)) (sym long) ∙ number_bits front (take_are n bs are) in
    let bound : number_of front < 2 ^ n = subst (λ (k : ℕ). number_of front < 2 ^ k) long (bound_of front (number_bits front (take_are n bs are))) in
    ((bound, sym (take-append-drop n bs) ∙ ap (λ (t : List ℕ). t ++ drop n bs) (sym e)), drop_are n bs are)

pub spelled_takes : {F A : Type 0} (short : F) (s : Syntax F A) (bs : List ℕ) (x : A) (rest : List ℕ) → AreBits bs → read short s bs ≡ Ok (x, rest) → Takes s bs x rest
spelled_takes short (value y) bs x rest are e =
    let same = ok_is (y, bs) (x, rest) e in
    ((ap (λ p. p.0) same, ap (λ p. p.1) same), subst AreBits (ap (λ p. p.1) same) are)
spelled_takes short (refuses d) bs x rest are e = absurd cc
spelled_takes {F = F} short (field n) bs x rest are e =
    let g = guard_ok (ltb (length bs) n) short (Ok (number_of (take n bs), drop n bs)) (x, rest) e in
    subst (λ (p : ℕ × List ℕ). Takes {F = F} (field n) bs p.0 p.1) (ok_is (number_of (take n bs), drop n bs) (x, rest) g.1) (field_taken F n bs (ltb-false _ _ g.0) are)
spelled_takes {F = F} short (skips n) bs x rest are e =
    let g = guard_ok (ltb (length bs) n) short (Ok (0, drop n bs)) (x, rest) e in
    let enough : n ≤ length bs = ltb-false _ _ g.0 in
    subst (λ (p : ℕ × List ℕ). Takes {F = F} (skips n) bs p.0 p.1) (ok_is (0, drop n bs) (x, rest) g.1) ((refl, take n bs, length-take-le n bs enough, sym (take-append-drop n bs)), drop_are n bs are)
spelled_takes short (branch true s t) bs x rest are e = spelled_takes short s bs x rest are e
spelled_takes short (branch false s t) bs x rest are e = spelled_takes short t bs x rest are e
spelled_takes short (follows s f) bs y rest are e =
    let a = then_ok (read short s bs) (λ x rest. read short (f x) rest) (y, rest) e in
    let first = spelled_takes short s bs a.0 a.1 are a.2 in
    let second = spelled_takes short (f a.0) a.1 y rest first.1 a.3 in
    ((a.0, a.1, first.0, second.0), second.1)

-- ---- readings of a table

module _ {F A : Type 0} (short : F) (s : Syntax F A) (bytes : List ℕ) where
  pub is_spelled : (result : Result A F) → result ≡ value_of short s (bits_of bytes) → IfOk result (λ x. IsSpelled s (bits_of bytes) x)
  is_spelled result e = of_read (read short s (bits_of bytes)) refl result e
    where
      of_read : (r : Result (A × List ℕ) F) → read short s (bits_of bytes) ≡ r → (result : Result A F) → result ≡ without_rest r → IfOk result (λ x. IsSpelled s (bits_of bytes) x)
      of_read (Ok x) is (Ok y) e = subst (λ (z : A). IsSpelled s (bits_of bytes) z) (sym (ok_is y x.0 e)) (x.1, (spelled_takes short s (bits_of bytes) x.0 x.1 (bits_of_are bytes) is).0)
      of_read (Ok x) is (Err d) e = tt
      of_read (Err d) is (Ok y) e = absurd cc
      of_read (Err d) is (Err f) e = tt

  pub is_accepted : (x : A) → IsSpelled s (bits_of bytes) x → value_of short s (bits_of bytes) ≡ Ok x
  is_accepted x (rest, is) = ap without_rest (spelled_again short s (bits_of bytes) x rest is)

pub of_paired : {F A : Type 0} (short : F) (s : Syntax F A) (result : Result A F) (bs rest : List ℕ) → paired result rest ≡ read short s bs → result ≡ value_of short s bs
of_paired short s (Ok x) bs rest e = ap without_rest e
of_paired short s (Err f) bs rest e = ap without_rest e
