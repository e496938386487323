-- Template structures: values below a number, and layers.
use Rattle.std.proofs.Common.{◌≡◌, ℕ, zero, suc, ◌+◌, ◌-◌, ◌*◌, ◌%◌, ◌^◌, ◌<◌, ◌≤◌, List, [], ◌∷◌, ◌++◌, length, true, false, cond, eqb, Result, Ok, Err, refl, sym, ap, ◌∙◌, arith, length-append}
use Rattle.std.specs.Int.Count.{count_leading_zeros}
use Rattle.std.proofs.lemmas.Nat.{leading_top, one_shl}
use Rattle.std.proofs.Math.Nat.{pow-suc}
use Rattle.codec_payload_descriptor.specs.declared.error.DescriptorFault.{DescriptorFault}
use Rattle.codec_payload_descriptor.specs.declared.error.DescriptorFault.TheVariants as faults
use Rattle.codec_payload_descriptor.specs.declared.structure.Layer.{Layer}
use Rattle.codec_payload_syntax.specs.Syntax.{field, then_read}
use Rattle.codec_payload_descriptor.specs.Syntax.{read}
use Rattle.codec_payload_descriptor.specs.Structures.{is_layer, next_layer, layers_from}
use Rattle.codec_payload_syntax.proofs.RepeatLemmas.{after, after_one}

-- ---- values below a number

record HasWidth (n : ℕ) : Type 0 where
  pub digits : ℕ
  pub is : count_leading_zeros 8 n + suc digits ≡ 8
  pub low : 2 ^ digits ≤ n
  pub high : n < 2 ^ suc digits
  pub twice : 2 ^ suc digits ≡ 2 ^ digits + 2 ^ digits
  pub shifted : 1 * 2 ^ (8 - count_leading_zeros 8 n) % 65536 ≡ 2 ^ suc digits
  pub front : 8 - count_leading_zeros 8 n - 1 ≡ digits

has_width : (n : ℕ) → 0 < n → n < 256 → HasWidth n
has_width n some few =
    let t = leading_top 8 n some few in
    let j : ℕ = t.0 in
    let w : 8 - count_leading_zeros 8 n ≡ suc j = omega (arith, t.1) in
    record {
      digits = j;
      is = t.1;
      low = t.2;
      high = t.3;
      twice = pow-suc 2 j ∙ omega arith;
      shifted = ap (λ (k : ℕ). 1 * 2 ^ k % 65536) w ∙ one_shl (suc j) 16 (omega (arith, t.1));
      front = omega (arith, t.1);
    }

pub below_room : (n : ℕ) → 0 < n → n < 256 → n ≤ 1 * 2 ^ (8 - count_leading_zeros 8 n) % 65536
below_room n some few = let h = has_width n some few in omega (arith, h.shifted, h.high)

pub below_front : (n v : ℕ) → 0 < n → n < 256 → v < 2 ^ (8 - count_leading_zeros 8 n - 1) → v < n
below_front n v some few small =
    let h = has_width n some few in
    let e : 2 ^ (8 - count_leading_zeros 8 n - 1) ≡ 2 ^ h.digits = ap (λ (k : ℕ). 2 ^ k) h.front in
    omega (arith, h.low, small, e)

pub below_whole : (n v shorter last : ℕ) → 0 < n → n < 256 → v < 2 ^ (8 - count_leading_zeros 8 n - 1) → shorter ≡ 1 * 2 ^ (8 - count_leading_zeros 8 n) % 65536 - n → shorter ≤ v → last < 2 → 2 * v - shorter + last < n
below_whole n v shorter last some few small is le bit =
    let h = has_width n some few in
    let e : 2 ^ (8 - count_leading_zeros 8 n - 1) ≡ 2 ^ h.digits = ap (λ (k : ℕ). 2 ^ k) h.front in
    omega (arith, h.low, h.high, h.twice, h.shifted, small, e, is, le, bit)

-- ---- layers

abbrev Reading : Type 0
Reading = Result (ℕ × List ℕ) DescriptorFault

abbrev Layers : Type 0
Layers = Result (List Layer × List ℕ) DescriptorFault

-- the layers from this one on, whose next_layer_idc was read
abbrev with_idc : ℕ → Layer → Reading → Layers
with_idc m l r = then_read r (λ idc others. cond (eqb idc 3) (Ok (l ∷ [], others)) (then_read (read (layers_from m (next_layer idc l)) others) (λ ls end. Ok (l ∷ ls, end))))

from_layer : (m : ℕ) (l : Layer) (bs : List ℕ) → is_layer l ≡ true → read (layers_from (suc m) l) bs ≡ with_idc m l (read (field 2) bs)
unfolding layers_from
from_layer m l bs is = rw is refl

pub layers_more : (n idc : ℕ) (done next : List Layer) (l : Layer) (bs rest : List ℕ) → length done < n → next ≡ done ++ l ∷ [] → is_layer l ≡ true → Ok (idc, rest) ≡ read (field 2) bs → eqb idc 3 ≡ false
    → after next (read (layers_from (n - length next) (next_layer idc l)) rest) ≡ after done (read (layers_from (n - length done) l) bs)
layers_more n idc done next l bs rest lt longer valid is not =
    let m : ℕ = n - (length done + 1) in
    let e : n - length done ≡ suc m = omega (arith, lt) in
    let e2 : n - length next ≡ m = omega (arith, ap length longer, length-append done (l ∷ [])) in
    let step : with_idc m l (Ok (idc, rest)) ≡ then_read (read (layers_from m (next_layer idc l)) rest) (λ ls end. Ok (l ∷ ls, end)) = rw not refl in
    ap (λ (k : ℕ). after next (read (layers_from k (next_layer idc l)) rest)) e2
    ∙ ap (λ (t : List Layer). after t (read (layers_from m (next_layer idc l)) rest)) longer
    ∙ sym (after_one done l (read (layers_from m (next_layer idc l)) rest))
    ∙ ap (after done) (sym step ∙ ap (with_idc m l) is ∙ sym (from_layer m l bs valid))
    ∙ ap (λ (k : ℕ). after done (read (layers_from k l) bs)) (sym e)

pub layers_last : (n idc : ℕ) (done next : List Layer) (l : Layer) (bs rest : List ℕ) → length done < n → next ≡ done ++ l ∷ [] → is_layer l ≡ true → Ok (idc, rest) ≡ read (field 2) bs → eqb idc 3 ≡ true
    → after done (read (layers_from (n - length done) l) bs) ≡ Ok (next, rest)
layers_last n idc done next l bs rest lt longer valid is last =
    let m : ℕ = n - (length done + 1) in
    let e : n - length done ≡ suc m = omega (arith, lt) in
    let step : with_idc m l (Ok (idc, rest)) ≡ Ok (l ∷ [], rest) = rw last refl in
    ap (λ (k : ℕ). after done (read (layers_from k l) bs)) e
    ∙ ap (after done) (from_layer m l bs valid ∙ ap (with_idc m l) (sym is) ∙ step)
    ∙ ap (λ (t : List Layer). Ok (t, rest)) (sym longer)

pub layers_fault : (n : ℕ) (e : DescriptorFault) (done : List Layer) (l : Layer) (bs : List ℕ) → length done < n → is_layer l ≡ true → Err e ≡ read (field 2) bs → after done (read (layers_from (n - length done) l) bs) ≡ Err e
layers_fault n e done l bs lt valid is =
    let m : ℕ = n - (length done + 1) in
    let next : n - length done ≡ suc m = omega (arith, lt) in
    ap (λ (k : ℕ). after done (read (layers_from k l) bs)) next
    ∙ ap (after done) (from_layer m l bs valid ∙ ap (with_idc m l) (sym is))

pub layers_too_many : (n : ℕ) (done : List Layer) (l : Layer) (bs : List ℕ) → n ≤ length done → after done (read (layers_from (n - length done) l) bs) ≡ Err faults.Layers
unfolding layers_from
layers_too_many n done l bs le =
    let none : n - length done ≡ 0 = omega (arith, le) in
    ap (λ (k : ℕ). after done (read (layers_from k l) bs)) none

pub layers_too_high : (n : ℕ) (done : List Layer) (l : Layer) (bs : List ℕ) → is_layer l ≡ false → after done (read (layers_from n l) bs) ≡ Err faults.Layers
unfolding layers_from
layers_too_high zero done l bs not = refl
layers_too_high (suc n) done l bs not = rw not refl
