-- Blocks that are read one after another.
use Rattle.std.proofs.Common.{◌≡◌, inl, inr, ℕ, zero, suc, ◌-◌, ◌*◌, ◌<◌, ◌≤◌, true, false, List, [], ◌∷◌, length, Option, Some, None, Result, Ok, Err, refl, ap, ◌∙◌, arith}
use Rattle.std.specs.Int.{w16, from_be_bytes}
use Rattle.std.specs.Option.{is_some}
use Rattle.std.proofs.lemmas.Bool.{cases_lt, eq-eqb, le-ltb, lt-ltb, ne_eqb}
use Rattle.std.proofs.lemmas.List.{length-drop}
use Rattle.codec_payload_feedback_xr.specs.Xr.{Block, dlrr_in, dlrr_of, first_for, or_else, reference_time_in, reference_time_of, sub_block_at, sub_blocks_in}
use Rattle.codec_payload_feedback_xr.specs.XrReading.{Walk, after_block, after_head, block_at, blocks_in, fault_in, walk, walk_by, walk_in}
use Rattle.codec_payload_feedback_xr.specs.declared.report.Dlrr.{Dlrr}
use Rattle.codec_payload_feedback_xr.specs.declared.report.XrFault.{XrFault}

abbrev rest_of : Result (Block × List ℕ) XrFault → List ℕ
rest_of (Ok x) = x.1
rest_of (Err e) = []

after_within : (block_type type_specific size : ℕ) (bytes : List ℕ) → length (rest_of (after_head block_type type_specific size bytes)) ≤ length bytes
after_within block_type type_specific size bytes =
    elim (cases_lt (length bytes) size) [
      | inl short ↦ rw (lt-ltb (length bytes) size short) (omega arith)
      | inr long ↦ rw (le-ltb (length bytes) size long) (omega (arith, length-drop size bytes))
    ]

block_within : (bytes : List ℕ) → length (rest_of (block_at bytes)) ≤ length bytes - 4
unfolding block_at
block_within [] = omega arith
block_within (a ∷ []) = omega arith
block_within (a ∷ b ∷ []) = omega arith
block_within (a ∷ b ∷ c ∷ []) = omega arith
block_within (a ∷ b ∷ c ∷ d ∷ bytes) = omega (arith, after_within a b (4 * from_be_bytes w16 (c ∷ d ∷ [])) bytes)

none_of_none : (x : Block × List ℕ) → block_at [] ≡ Ok x → ⊥
unfolding block_at
none_of_none x is = absurd cc

pub block_shorter : (bytes : List ℕ) (x : Block × List ℕ) → block_at bytes ≡ Ok x → length x.1 < length bytes
block_shorter [] x is = absurd (none_of_none x is)
block_shorter (b ∷ bytes) x is = omega (arith, block_within (b ∷ bytes), ap (λ (o : Result (Block × List ℕ) XrFault). length (rest_of o)) is)

same_walk : (f g : List ℕ → Walk) (o : Result (Block × List ℕ) XrFault) → ((x : Block × List ℕ) → o ≡ Ok x → f x.1 ≡ g x.1) → walk_by f o ≡ walk_by g o
same_walk f g (Ok x) h = ap (after_block x.0) (h x refl)
same_walk f g (Err e) h = refl

enough : (n m : ℕ) (bytes : List ℕ) → length bytes ≤ n → length bytes ≤ m → walk_in n bytes ≡ walk_in m bytes
unfolding walk_in
enough n m [] a b = refl
enough zero m (x ∷ bytes) a b = absurd (omega (arith, a))
enough (suc n) zero (x ∷ bytes) a b = absurd (omega (arith, b))
enough (suc n) (suc m) (x ∷ bytes) a b =
    same_walk (walk_in n) (walk_in m) (block_at (x ∷ bytes)) (λ y is. let s = block_shorter (x ∷ bytes) y is in enough n m y.1 (omega (arith, s, a)) (omega (arith, s, b)))

one_walked : (n : ℕ) (bytes : List ℕ) → n ≡ length bytes → 0 < length bytes → walk_in n bytes ≡ walk_by walk (block_at bytes)
unfolding walk_in
one_walked n [] is some = absurd (omega (arith, some))
one_walked zero (b ∷ bytes) is some = absurd (omega (arith, is))
one_walked (suc n) (b ∷ bytes) is some =
    same_walk (walk_in n) walk (block_at (b ∷ bytes)) (λ y e. let s = block_shorter (b ∷ bytes) y e in enough n (length y.1) y.1 (omega (arith, s, is)) (omega arith))

pub walk_on : (bytes : List ℕ) (o : Result (Block × List ℕ) XrFault) → block_at bytes ≡ o → 0 < length bytes → walk bytes ≡ walk_by walk o
walk_on bytes o is some = one_walked (length bytes) bytes refl some ∙ ap (walk_by walk) is

pub walk_past : (bytes others : List ℕ) (b : Block) → block_at bytes ≡ Ok (b, others) → walk bytes ≡ after_block b (walk others)
walk_past bytes others b is =
    let s = block_shorter bytes (b, others) is in
    walk_on bytes (Ok (b, others)) is (omega (arith, s))

no_blocks : blocks_in [] ≡ []
unfolding walk_in
no_blocks = refl

pub no_fault : fault_in [] ≡ Ok tt
unfolding walk_in
no_fault = refl

pub blocks_end : (bytes : List ℕ) (fault : XrFault) → block_at bytes ≡ Err fault → blocks_in bytes ≡ []
blocks_end [] fault is = no_blocks
blocks_end (b ∷ bytes) fault is = ap (λ (w : Walk). w.blocks) (walk_on (b ∷ bytes) (Err fault) is (omega arith))

pub fault_there : (bytes : List ℕ) (fault : XrFault) → block_at bytes ≡ Err fault → 0 < length bytes → fault_in bytes ≡ Err fault
fault_there bytes fault is some = ap (λ (w : Walk). w.end) (walk_on bytes (Err fault) is some)

pub no_fault_left : (bytes : List ℕ) → length bytes ≡ 0 → fault_in bytes ≡ Ok tt
no_fault_left [] is = no_fault
no_fault_left (b ∷ bytes) is = absurd (omega (arith, is))

-- ---- sub-blocks

abbrev rest_after : List ℕ → Option (Dlrr × List ℕ) → List ℕ
rest_after bytes (Some x) = x.1
rest_after bytes None = bytes

abbrev front_of : List ℕ → Option (Dlrr × List ℕ) → List Dlrr
front_of bytes (Some x) = x.0 ∷ sub_blocks_in x.1
front_of bytes None = sub_blocks_in bytes

pub sub_blocks_front : (bytes : List ℕ) (one : Dlrr) (rest : List ℕ) → sub_block_at bytes ≡ Some (one, rest) → (sub_blocks_in bytes ≡ one ∷ sub_blocks_in rest) × (length rest < length bytes)
unfolding sub_block_at sub_blocks_in
sub_blocks_front [] one rest is = absurd cc
sub_blocks_front (a ∷ []) one rest is = absurd cc
sub_blocks_front (a ∷ b ∷ []) one rest is = absurd cc
sub_blocks_front (a ∷ b ∷ c ∷ []) one rest is = absurd cc
sub_blocks_front (a ∷ b ∷ c ∷ d ∷ []) one rest is = absurd cc
sub_blocks_front (a ∷ b ∷ c ∷ d ∷ e ∷ []) one rest is = absurd cc
sub_blocks_front (a ∷ b ∷ c ∷ d ∷ e ∷ f ∷ []) one rest is = absurd cc
sub_blocks_front (a ∷ b ∷ c ∷ d ∷ e ∷ f ∷ g ∷ []) one rest is = absurd cc
sub_blocks_front (a ∷ b ∷ c ∷ d ∷ e ∷ f ∷ g ∷ h ∷ []) one rest is = absurd cc
sub_blocks_front (a ∷ b ∷ c ∷ d ∷ e ∷ f ∷ g ∷ h ∷ i ∷ []) one rest is = absurd cc
sub_blocks_front (a ∷ b ∷ c ∷ d ∷ e ∷ f ∷ g ∷ h ∷ i ∷ j ∷ []) one rest is = absurd cc
sub_blocks_front (a ∷ b ∷ c ∷ d ∷ e ∷ f ∷ g ∷ h ∷ i ∷ j ∷ k ∷ []) one rest is = absurd cc
sub_blocks_front (a ∷ b ∷ c ∷ d ∷ e ∷ f ∷ g ∷ h ∷ i ∷ j ∷ k ∷ l ∷ bytes) one rest is =
    let same : bytes ≡ rest = ap (rest_after bytes) is in
    (ap (front_of bytes) is, omega (arith, ap (λ (bs : List ℕ). length bs) same))

pub sub_blocks_end : (bytes : List ℕ) → sub_block_at bytes ≡ None → sub_blocks_in bytes ≡ []
unfolding sub_block_at sub_blocks_in
sub_blocks_end [] is = refl
sub_blocks_end (a ∷ []) is = refl
sub_blocks_end (a ∷ b ∷ []) is = refl
sub_blocks_end (a ∷ b ∷ c ∷ []) is = refl
sub_blocks_end (a ∷ b ∷ c ∷ d ∷ []) is = refl
sub_blocks_end (a ∷ b ∷ c ∷ d ∷ e ∷ []) is = refl
sub_blocks_end (a ∷ b ∷ c ∷ d ∷ e ∷ f ∷ []) is = refl
sub_blocks_end (a ∷ b ∷ c ∷ d ∷ e ∷ f ∷ g ∷ []) is = refl
sub_blocks_end (a ∷ b ∷ c ∷ d ∷ e ∷ f ∷ g ∷ h ∷ []) is = refl
sub_blocks_end (a ∷ b ∷ c ∷ d ∷ e ∷ f ∷ g ∷ h ∷ i ∷ []) is = refl
sub_blocks_end (a ∷ b ∷ c ∷ d ∷ e ∷ f ∷ g ∷ h ∷ i ∷ j ∷ []) is = refl
sub_blocks_end (a ∷ b ∷ c ∷ d ∷ e ∷ f ∷ g ∷ h ∷ i ∷ j ∷ k ∷ []) is = refl
sub_blocks_end (a ∷ b ∷ c ∷ d ∷ e ∷ f ∷ g ∷ h ∷ i ∷ j ∷ k ∷ l ∷ bytes) is = absurd cc

first_front : (ssrc : ℕ) (bytes : List ℕ) (d : Dlrr) (rest : List ℕ) → sub_block_at bytes ≡ Some (d, rest) → first_for ssrc (sub_blocks_in bytes) ≡ first_for ssrc (d ∷ sub_blocks_in rest)
first_front ssrc bytes d rest is = ap (first_for ssrc) (sub_blocks_front bytes d rest is).0

pub first_is : (ssrc : ℕ) (bytes : List ℕ) (d : Dlrr) (rest : List ℕ) → sub_block_at bytes ≡ Some (d, rest) → d.ssrc ≡ ssrc → first_for ssrc (sub_blocks_in bytes) ≡ Some d
first_is ssrc bytes d rest is same = first_front ssrc bytes d rest is ∙ rw (eq-eqb d.ssrc ssrc same) refl

pub first_after : (ssrc : ℕ) (bytes : List ℕ) (d : Dlrr) (rest : List ℕ) → sub_block_at bytes ≡ Some (d, rest) → (d.ssrc ≡ ssrc → ⊥) → first_for ssrc (sub_blocks_in bytes) ≡ first_for ssrc (sub_blocks_in rest)
first_after ssrc bytes d rest is other = first_front ssrc bytes d rest is ∙ rw (ne_eqb d.ssrc ssrc other) refl

-- ---- the first block that says something

pub or_some : {A : Type 0} (o p : Option A) → is_some o ≡ true → or_else o p ≡ o
or_some (Some x) p is = refl
or_some None p is = absurd cc

pub or_none : {A : Type 0} (o p : Option A) → is_some o ≡ false → or_else o p ≡ p
or_none (Some x) p is = absurd cc
or_none None p is = refl

pub reference_time_front : (bytes others : List ℕ) (b : Block) → block_at bytes ≡ Ok (b, others) → reference_time_in (blocks_in bytes) ≡ or_else (reference_time_of b) (reference_time_in (blocks_in others))
reference_time_front bytes others b is = ap (λ (w : Walk). reference_time_in w.blocks) (walk_past bytes others b is)

pub dlrr_front : (ssrc : ℕ) (bytes others : List ℕ) (b : Block) → block_at bytes ≡ Ok (b, others) → dlrr_in ssrc (blocks_in bytes) ≡ or_else (dlrr_of ssrc b) (dlrr_in ssrc (blocks_in others))
dlrr_front ssrc bytes others b is = ap (λ (w : Walk). dlrr_in ssrc w.blocks) (walk_past bytes others b is)
