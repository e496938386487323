-- Readers of fields: the bits taken out of the bytes, and the values read from them.
use Rattle.std.proofs.Common.{◌≡◌, ℕ, suc, ◌+◌, ◌-◌, ◌*◌, ◌/◌, ◌%◌, ◌^◌, ◌<◌, ◌≤◌, List, [], ◌∷◌, ◌++◌, length, take, drop, Bool, true, false, cond, ltb, Result, Ok, Err, inl, inr, refl, sym, ap, ◌∙◌, arith, append_assoc, length-append, length-drop}
use Rattle.std.proofs.lemmas.Bool.{cases_lt, le-ltb, lt-ltb, ltb-false, ltb-true}
use Rattle.std.proofs.lemmas.Nat.{one_shl, pow_below, pow_pos, pow-add, shl_whole}
use Rattle.std.proofs.lemmas.List.{drop_at, drop-drop, length-take}
use Rattle.std.proofs.Math.Nat.{mod-lt, mod-mod, mul-le-mul_left, pow-le-pow_right}
use Rattle.codec_payload_base.specs.Flags.{AreBytes}
use Rattle.codec_payload_base.specs.Bits.{bits, bits_of, number_of}
use Rattle.codec_payload_base.proofs.BitLemmas.{length-bits, length-bits_of, bits_of-append, bits-cat, bits-split, bits-same, none-bits, drop-bits_of}
use Rattle.codec_payload_syntax.specs.FieldReaders.{Unread, be_number, left}
use Rattle.codec_payload_syntax.specs.Syntax.{read, field, skips}
use Rattle.codec_payload_syntax.proofs.SyntaxLemmas.{field_again, guard_ok, ok_is}

-- ---- numbers of bytes

times_below : (a b n m x : ℕ) → a < n → x < m → a * m + x < n * m
times_below a b n m x less small =
    let e : m * (a + 1) ≤ m * n = mul-le-mul_left m (omega (arith, less)) in
    omega (arith, e, small)

pub be_number_small : (bs : List ℕ) → AreBytes bs → be_number bs < 2 ^ (8 * length bs)
be_number_small [] are = omega arith
be_number_small (b ∷ bs) are =
    let k : ℕ = 8 * length bs in
    let rest : be_number bs < 2 ^ k = be_number_small bs (λ i. are (suc i)) in
    let e : 8 * suc (length bs) ≡ 8 + k = omega arith in
    rw e (rw (pow-add 2 8 k) (times_below b 0 (2 ^ 8) (2 ^ k) (be_number bs) (are 0) rest))

pub be_number_bits : (bs : List ℕ) → AreBytes bs → bits (8 * length bs) (be_number bs) ≡ bits_of bs
be_number_bits [] are = none-bits 0
be_number_bits (b ∷ bs) are =
    let k : ℕ = 8 * length bs in
    let e : 8 * suc (length bs) ≡ k + 8 = omega arith in
    ap (λ (t : ℕ). bits t (b * 2 ^ k + be_number bs)) e
    ∙ bits-cat k 8 b (be_number bs) (be_number_small bs (λ i. are (suc i)))
    ∙ ap (λ (t : List ℕ). bits 8 b ++ t) (be_number_bits bs (λ i. are (suc i)))

-- ---- more bits than before

pub filled_value : (held w more x : ℕ) → w < 2 ^ held → held + more ≤ 64 → w * 2 ^ more % 18446744073709551616 + x ≡ w * 2 ^ more + x
filled_value held w more x small room = ap (λ (t : ℕ). t + x) (shl_whole w held more 64 small room)

pub filled_small : (held w more x : ℕ) → w < 2 ^ held → x < 2 ^ more → w * 2 ^ more + x < 2 ^ (held + more)
filled_small held w more x small less = rw (pow-add 2 held more) (times_below w 0 (2 ^ held) (2 ^ more) x small less)

pub filled_bits : (held w more x : ℕ) → x < 2 ^ more → bits (held + more) (w * 2 ^ more + x) ≡ bits held w ++ bits more x
filled_bits held w more x less =
    let e : held + more ≡ more + held = omega arith in
    ap (λ (t : ℕ). bits t (w * 2 ^ more + x)) e ∙ bits-cat more held w x less

-- the bytes of the front are taken out
pub filled_left : (held w more x : ℕ) (front rest bytes : List ℕ) → x < 2 ^ more → bits more x ≡ bits_of front → front ++ rest ≡ bytes
    → bits (held + more) (w * 2 ^ more + x) ++ bits_of rest ≡ bits held w ++ bits_of bytes
filled_left held w more x front rest bytes less says whole =
    ap (λ (t : List ℕ). t ++ bits_of rest) (filled_bits held w more x less)
    ∙ append_assoc (bits held w) (bits more x) (bits_of rest)
    ∙ ap (λ (t : List ℕ). bits held w ++ (t ++ bits_of rest)) says
    ∙ ap (λ (t : List ℕ). bits held w ++ t) (sym (bits_of-append front rest) ∙ ap bits_of whole)

-- ---- bits that are taken

pub split_bits : (held w n : ℕ) → n ≤ held → bits held w ≡ bits n (w / 2 ^ (held - n) % 2 ^ n) ++ bits (held - n) w
split_bits held w n enough =
    let k : ℕ = held - n in
    let e : held ≡ k + n = omega (arith, enough) in
    ap (λ (t : ℕ). bits t w) e ∙ bits-split k n w ∙ ap (λ (t : List ℕ). t ++ bits k w) (bits-same n (w / 2 ^ k) (w / 2 ^ k % 2 ^ n) (sym (mod-mod (w / 2 ^ k) (2 ^ n))))

pub low_small : (held w : ℕ) → w % 2 ^ held < 2 ^ held
low_small held w = mod-lt w (pow_pos held)

pub low_bits : (held w : ℕ) → bits held (w % 2 ^ held) ≡ bits held w
low_bits held w = bits-same held (w % 2 ^ held) w (mod-mod w (2 ^ held))

pub one_more : (held : ℕ) → held ≤ 48 → 1 * 2 ^ held % 18446744073709551616 ≡ 2 ^ held
one_more held few = one_shl held 64 (omega (arith, few))

pub takes_field : {F : Type 0} (short : F) (n v : ℕ) (old new : Unread) → v < 2 ^ n → old.held ≡ bits n v ++ new.held → new.behind ≡ old.behind → read short (field n) (left old) ≡ Ok (v, left new)
takes_field short n v old new small is same =
    field_again short n v (left old) (left new) small
    (ap (λ (t : List ℕ). t ++ bits_of old.behind) is ∙ append_assoc (bits n v) new.held (bits_of old.behind) ∙ ap (λ (t : List ℕ). bits n v ++ (new.held ++ bits_of t)) (sym same))

-- nothing is taken out
pub none_held : (bytes : List ℕ) → bits 0 0 ++ bits_of bytes ≡ bits_of bytes
none_held bytes = ap (λ (t : List ℕ). t ++ bits_of bytes) (none-bits 0)

-- ---- held bits

pub held_is : (h w : ℕ) (b : List ℕ) (u : Unread) → record { held = bits h w; behind = b } ≡ u → length u.held ≡ h
held_is h w b u e = ap (λ (t : Unread). length t.held) (sym e) ∙ length-bits h w

pub few_left : (n : ℕ) (u : Unread) → length u.held < n → n ≤ 32 → (length u.held < 32 → u.behind ≡ []) → length (left u) < n
few_left n u few small none =
    let e : u.behind ≡ [] = none (omega (arith, few, small)) in
    omega (arith, few, length-append u.held (bits_of u.behind), ap (λ (t : List ℕ). length (bits_of t)) e)

pub takes_nothing : {F : Type 0} (short : F) (n : ℕ) (old new : Unread) → left new ≡ left old → length (left new) < n → read short (field n) (left old) ≡ Err short
takes_nothing short n old new same few = rw (lt-ltb (length (left old)) n (omega (arith, few, ap length same))) refl

-- ---- four bytes more

pub record IsFilled (held w n x : ℕ) : Type 0 where
  pub value : w * 2 ^ n % 18446744073709551616 + x ≡ w * 2 ^ n + x
  pub small : w * 2 ^ n + x < 2 ^ (held + n)
  pub room : held + n ≤ 48
  pub fits : w * 2 ^ n + x < 2 ^ 49

pub filled : (held w x : ℕ) (bytes front : List ℕ) → w < 2 ^ held → held ≤ 16 → front ≡ take 4 bytes → x < 2 ^ (8 * length front) → IsFilled held w (8 * length front) x
filled held w x bytes front small few e bound =
    let short : length front ≤ 4 = omega (arith, ap length e, length-take 4 bytes) in
    let n : ℕ = 8 * length front in
    let less : w * 2 ^ n + x < 2 ^ (held + n) = filled_small held w n x small bound in
    let below : 2 ^ (held + n) < 2 ^ 49 = pow_below (held + n) 49 (omega (arith, few, short)) in
    record {
      value = filled_value held w n x small (omega (arith, few, short));
      small = less;
      room = omega (arith, few, short);
      fits = omega (arith, less, below);
    }

-- ---- skipped bits

pub skips_held : {F : Type 0} (short : F) (n v : ℕ) (old new : Unread) → old.held ≡ bits n v ++ new.held → new.behind ≡ old.behind → read short (skips n) (left old) ≡ Ok (0, left new)
skips_held short n v old new is same =
    let front : left old ≡ bits n v ++ left new =
    ap (λ (t : List ℕ). t ++ bits_of old.behind) is ∙ append_assoc (bits n v) new.held (bits_of old.behind) ∙ ap (λ (t : List ℕ). bits n v ++ (new.held ++ bits_of t)) (sym same) in
    let rest : drop n (left old) ≡ left new = ap (drop n) front ∙ drop_at (bits n v) (left new) n (length-bits n v) in
    rw (le-ltb (length (left old)) n (omega (arith, ap length front, length-append (bits n v) (left new), length-bits n v)), rest) refl

length_left : (u : Unread) → length (left u) ≡ length u.held + 8 * length u.behind
length_left u = length-append u.held (bits_of u.behind) ∙ ap (λ (t : ℕ). length u.held + t) (length-bits_of u.behind)

abbrev failed : {F : Type 0} → F → Result (ℕ × List ℕ) F
failed f = Err f

-- a test that was met
guard_err : {F : Type 0} (b : Bool) (d f : F) (x : ℕ × List ℕ) → failed f ≡ cond b (Err d) (Ok x) → (b ≡ true) × (failed d ≡ failed f)
guard_err true d f x e = (refl, cc)
guard_err false d f x e = absurd cc

-- the held bits are skipped, and then bits after them
skips_rest : {F : Type 0} (short : F) (n : ℕ) (u : Unread) → length u.held < n → read short (skips n) (left u) ≡ read short (skips (n - length u.held)) (bits_of u.behind)
skips_rest short n u more =
    let h : ℕ = length u.held in
    let k : ℕ = n - h in
    let long = length_left u in
    let bs : List ℕ = bits_of u.behind in
    let e : n ≡ h + k = omega (arith, more) in
    let behind : drop n (left u) ≡ drop k bs = ap (λ (t : ℕ). drop t (left u)) e ∙ sym (drop-drop k h (left u)) ∙ ap (drop k) (drop_at u.held bs h refl) in
    elim (cases_lt (length bs) k) [
      | inl lt ↦ rw (lt-ltb (length bs) k lt, lt-ltb (length (left u)) n (omega (arith, lt, more, long, length-bits_of u.behind))) refl
      | inr le ↦ rw (le-ltb (length bs) k le, le-ltb (length (left u)) n (omega (arith, le, more, long, length-bits_of u.behind)), behind) refl
    ]

pub skips_behind : {F : Type 0} (short : F) (n h w : ℕ) (bytes : List ℕ) (u : Unread) → record { held = bits h w; behind = bytes } ≡ u → h < n → read short (skips (n - h)) (bits_of bytes) ≡ read short (skips n) (left u)
skips_behind short n h w bytes u e more =
    let v : Unread = record { held = bits h w; behind = bytes } in
    let long : length v.held ≡ h = length-bits h w in
    ap (λ (t : ℕ). read short (skips (n - t)) (bits_of bytes)) (sym long) ∙ sym (skips_rest short n v (omega (arith, more, long))) ∙ ap (λ (t : Unread). read short (skips n) (left t)) e

pub skips_past : {F : Type 0} (short : F) (n : ℕ) (bytes : List ℕ) → length bytes < n / 8 → read short (skips n) (bits_of bytes) ≡ Err short
skips_past short n bytes few = rw (lt-ltb (length (bits_of bytes)) n (omega (arith, few, length-bits_of bytes))) refl

length_rest : (q : ℕ) (bytes : List ℕ) → length (bits_of (drop q bytes)) ≡ 8 * (length bytes - q)
length_rest q bytes = length-bits_of (drop q bytes) ∙ ap (λ (t : ℕ). 8 * t) (length-drop q bytes)

-- the last bits are read as a field
pub skips_far : {F : Type 0} (short : F) (n v : ℕ) (bytes rest : List ℕ) → n / 8 ≤ length bytes → Ok (v, rest) ≡ read short (field (n % 8)) (bits_of (drop (n / 8) bytes)) → Ok (0, rest) ≡ read short (skips n) (bits_of bytes)
skips_far short n v bytes rest there e =
    let q : ℕ = n / 8 in
    let r : ℕ = n % 8 in
    let bs : List ℕ = bits_of (drop q bytes) in
    let g = guard_ok (ltb (length bs) r) short (Ok (number_of (take r bs), drop r bs)) (v, rest) (sym e) in
    let enough : r ≤ length bs = ltb-false _ _ g.0 in
    let is : drop r bs ≡ rest = ap (λ (p : ℕ × List ℕ). p.1) (ok_is (number_of (take r bs), drop r bs) (v, rest) g.1) in
    let whole : n ≡ 8 * q + r = omega arith in
    let behind : drop n (bits_of bytes) ≡ drop r bs = ap (λ (t : ℕ). drop t (bits_of bytes)) whole ∙ sym (drop-drop r (8 * q) (bits_of bytes)) ∙ ap (drop r) (drop-bits_of q bytes) in
    rw (le-ltb (length (bits_of bytes)) n (omega (arith, enough, there, length-bits_of bytes, length_rest q bytes)), behind, is) refl

pub skips_not_far : {F : Type 0} (short : F) (n : ℕ) (f : F) (bytes : List ℕ) → n / 8 ≤ length bytes → Err f ≡ read short (field (n % 8)) (bits_of (drop (n / 8) bytes)) → Err f ≡ read short (skips n) (bits_of bytes)
skips_not_far short n f bytes there e =
    let bs : List ℕ = bits_of (drop (n / 8) bytes) in
    let g = guard_err (ltb (length bs) (n % 8)) short f (number_of (take (n % 8) bs), drop (n % 8) bs) e in
    let few : length bs < n % 8 = ltb-true _ _ g.0 in
    rw (lt-ltb (length (bits_of bytes)) n (omega (arith, few, there, length-bits_of bytes, length_rest (n / 8) bytes))) (sym g.1)

-- ---- small numbers

pub in_a_byte : (n v : ℕ) → n ≤ 8 → v < 2 ^ n → v < 256
in_a_byte n v few small = omega (arith, small, pow-le-pow_right {n = 2} (omega arith) few)

pub in_two_bytes : (n v : ℕ) → n ≤ 16 → v < 2 ^ n → v < 65536
in_two_bytes n v few small = omega (arith, small, pow-le-pow_right {n = 2} (omega arith) few)
