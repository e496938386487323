-- The numbers of the packets of a part: the number of its first sent packet plus their indices, far above all earlier numbers.
use Rattle.std.proofs.Common.{◌≡◌, ◌∙◌, refl, sym, ap, subst, ℕ, ◌+◌, ◌-◌, ◌%◌, ◌^◌, ◌<◌, ◌≤◌, inl, inr, max, List, [], ◌∷◌, Option, Some, None, arith}
use Rattle.std.proofs.lemmas.Bool.{cases_lt, le-leb, le-ltb, lt-ltb}
use Rattle.codec_payload_numbers.specs.Numbers.{Numbering, ahead, answer_anew, answer_by, answer_for, answer_near, begun_with, behind, is_restarting, no_numbers, number_in, numbering_after, numbering_with}
use Rattle.codec_payload_numbers.specs.declared.numbers.Extended.{Extended}
use Rattle.codec_payload_numbers.specs.declared.numbers.Extended.TheVariants as extended
use Rattle.codec_payload_datagram_runs.proofs.EventLemmas.{numbering_through}
use Rattle.codec_payload_datagram_runs.proofs.ReceivingLemmas.{AllNumbered}
use Rattle.codec_payload_datagram_runs.proofs.ToldLemmas.{AllBegun, numbering_begun}
use Rattle.codec_payload_datagram_runs.specs.Releases.{ComeWithin, StayWithin}

-- all of them are below a number
abbrev pub AllBelow : ℕ → List ℕ → Type 0
AllBelow bound [] = Unit {0}
AllBelow bound (k ∷ ks) = (k < bound) × AllBelow bound ks

-- the number of the first packet that arrives in a part, if it has these low bits
abbrev pub up_from : Option ℕ → ℕ → ℕ
up_from None low = 65536 + low
up_from (Some g) low = is_restarting g low

-- the number of the first packet that was sent, if packets with these indices arrive
abbrev pub first_after : Option ℕ → ℕ → List ℕ → ℕ
first_after o number [] = up_from o number
first_after o number (k ∷ ks) = up_from o ((number + k) % 65536) - k

-- the highest of these indices
abbrev pub top : ℕ → List ℕ → ℕ
top m [] = m
top m (k ∷ ks) = top (max m k) ks

-- all numbers so far are below this bound
abbrev pub bound_of : Option ℕ → ℕ
bound_of None = 0
bound_of (Some g) = g + 1

-- the highest number after these packets
abbrev pub greatest_after : Option ℕ → ℕ → List ℕ → Option ℕ
greatest_after o first [] = o
greatest_after o first (k ∷ ks) = Some (first + top k ks)

up_low : (o : Option ℕ) (low : ℕ) → low < 65536 → up_from o low % 65536 ≡ low
up_low None low small = omega (arith, small)
up_low (Some g) low small = omega (arith, small)

up_high : (o : Option ℕ) (low k : ℕ) → k < 65536 → (bound_of o < up_from o low - k) × (k < up_from o low)
up_high None low k small = (omega (arith, small), omega (arith, small))
up_high (Some g) low k small = (omega (arith, small), omega (arith, small))

up_most : (o : Option ℕ) (low : ℕ) → low < 65536 → up_from o low ≤ bound_of o + 196608
up_most None low small = omega (arith, small)
up_most (Some g) low small = omega (arith, small)

pub first_above : (o : Option ℕ) (forward backward number : ℕ) (ks : List ℕ) → ComeWithin forward backward ks → bound_of o < first_after o number ks
first_above o forward backward number [] within = let h = up_high o number 0 (omega arith) in omega (arith, h.0)
first_above o forward backward number (k ∷ ks) within = (up_high o ((number + k) % 65536) k within.0).0

pub first_most : (o : Option ℕ) (number : ℕ) (ks : List ℕ) → number < 65536 → first_after o number ks ≤ bound_of o + 196608
first_most o number [] low = up_most o number low
first_most o number (k ∷ ks) low = let m = up_most o ((number + k) % 65536) (omega arith) in omega (arith, m)

pub first_low_bits : (o : Option ℕ) (forward backward number : ℕ) (ks : List ℕ) → ComeWithin forward backward ks → number < 65536 → first_after o number ks % 65536 ≡ number
first_low_bits o forward backward number [] within low = up_low o number low
first_low_bits o forward backward number (k ∷ ks) within low =
    let bits = up_low o ((number + k) % 65536) (omega arith) in
    let high = up_high o ((number + k) % 65536) k within.0 in
    omega (arith, bits, high.1, low, within.0)

-- the first packet that arrives
first_is : (o : Option ℕ) (number k : ℕ) (ks : List ℕ) → k < 65536 → first_after o number (k ∷ ks) + k ≡ up_from o ((number + k) % 65536)
first_is o number k ks small = let high = up_high o ((number + k) % 65536) k small in omega (arith, high.1)

first_bits : (o : Option ℕ) (number k : ℕ) (ks : List ℕ) → k < 65536 → (first_after o number (k ∷ ks) + k) % 2 ^ 16 ≡ (number + k) % 65536
first_bits o number k ks small =
    let bits = up_low o ((number + k) % 65536) (omega arith) in
    let is = first_is o number k ks small in
    omega (arith, bits, is)

-- Later packets

ahead_by : (first m k : ℕ) → m ≤ k → k < m + 65536 → ahead (first + m) ((first + k) % 65536) ≡ k - m
ahead_by first m k from to = omega (arith, from, to)

far_ahead : (first m k : ℕ) → k < m → m < k + 65536 → ahead (first + m) ((first + k) % 65536) ≡ 65536 + k - m
far_ahead first m k under near = omega (arith, under, near)

behind_by : (first m k : ℕ) → k < m → m < k + 65536 → behind (first + m) ((first + k) % 65536) ≡ m - k
behind_by first m k under near = omega (arith, under, near)

near_index : (s : Numbering) (first m k : ℕ) → s.forward + s.backward ≤ 65536 → s.backward < s.forward → k < m + s.forward → m ≤ k + s.backward → first + k < 2 ^ 64
    → answer_near s (first + m) ((first + k) % 65536) ≡ extended.Number (first + k)
near_index s first m k apart order up down fits = elim (cases_lt k m) [
  | inr from ↦
      let there : ahead (first + m) ((first + k) % 65536) ≡ k - m = ahead_by first m k from (omega (arith, up, apart)) in
      let close : ahead (first + m) ((first + k) % 65536) < s.forward = omega (arith, there, up, from) in
      let is : first + m + ahead (first + m) ((first + k) % 65536) ≡ first + k = omega (arith, there, from) in
      rw (lt-ltb (ahead (first + m) ((first + k) % 65536)) s.forward close, is, lt-ltb (first + k) (2 ^ 64) fits) refl
  | inl under ↦
      let near : m < k + 65536 = omega (arith, down, order, apart) in
      let there : ahead (first + m) ((first + k) % 65536) ≡ 65536 + k - m = far_ahead first m k under near in
      let back : behind (first + m) ((first + k) % 65536) ≡ m - k = behind_by first m k under near in
      let far : s.forward ≤ ahead (first + m) ((first + k) % 65536) = omega (arith, there, down, apart) in
      let close : behind (first + m) ((first + k) % 65536) ≤ s.backward = omega (arith, back, down) in
      let is : first + m - behind (first + m) ((first + k) % 65536) ≡ first + k = omega (arith, back, under) in
      rw (le-ltb (ahead (first + m) ((first + k) % 65536)) s.forward far, le-leb (behind (first + m) ((first + k) % 65536)) s.backward close, is) refl
]

answer_at : (s : Numbering) (first m k : ℕ) → s.greatest ≡ Some (first + m) → s.forward + s.backward ≤ 65536 → s.backward < s.forward → k < m + s.forward → m ≤ k + s.backward
    → first + k < 2 ^ 64 → answer_for s ((first + k) % 2 ^ 16) ≡ extended.Number (first + k)
answer_at s first m k greatest apart order up down fits =
    let bits : (first + k) % 2 ^ 16 ≡ (first + k) % 65536 = omega arith in
    ap (λ (n : ℕ). answer_for s n) bits ∙ (ap (λ (o : Option ℕ). answer_by s o ((first + k) % 65536)) greatest ∙ near_index s first m k apart order up down fits)

-- a numbering without suspects, whose highest number is that of an index
abbrev pub at_index : ℕ → ℕ → ℕ → ℕ → Numbering
at_index forward backward first m = record { greatest = Some (first + m); suspect = None; forward = forward; backward = backward }

max_more : (first m k : ℕ) → max (first + m) (first + k) ≡ first + max m k
max_more first m k = omega arith

after_index : (forward backward first m k : ℕ) → forward + backward ≤ 65536 → backward < forward → k < m + forward → m ≤ k + backward → first + k < 2 ^ 64
    → numbering_after (at_index forward backward first m) ((first + k) % 2 ^ 16) ≡ at_index forward backward first (max m k)
after_index forward backward first m k apart order up down fits =
    let s : Numbering = at_index forward backward first m in
    ap (λ (e : Extended). numbering_with s e ((first + k) % 2 ^ 16)) (answer_at s first m k refl apart order up down fits)
    ∙ ap (λ (x : ℕ). record s { greatest = Some x }) (max_more first m k)

pub all_near : (forward backward first bound m : ℕ) (ks : List ℕ) → forward + backward ≤ 65536 → backward < forward → first + bound < 2 ^ 64 → AllBelow bound ks → StayWithin forward backward m ks
    → AllNumbered first (at_index forward backward first m) ks
all_near forward backward first bound m [] apart order few below within = tt
all_near forward backward first bound m (k ∷ ks) apart order few below within =
    let s : Numbering = at_index forward backward first m in
    let fits : first + k < 2 ^ 64 = omega (arith, few, below.0) in (
      answer_at s first m k refl apart order within.0 within.1 fits,
      subst (λ (n : Numbering). AllNumbered first n ks) (sym (after_index forward backward first m k apart order within.0 within.1 fits))
          (all_near forward backward first bound (max m k) ks apart order few below.1 within.2),
    )

through_near : (forward backward first bound m : ℕ) (ks : List ℕ) → forward + backward ≤ 65536 → backward < forward → first + bound < 2 ^ 64 → AllBelow bound ks → StayWithin forward backward m ks
    → numbering_through first (at_index forward backward first m) ks ≡ at_index forward backward first (top m ks)
through_near forward backward first bound m [] apart order few below within = refl
through_near forward backward first bound m (k ∷ ks) apart order few below within =
    let fits : first + k < 2 ^ 64 = omega (arith, few, below.0) in
    ap (λ (n : Numbering). numbering_through first n ks) (after_index forward backward first m k apart order within.0 within.1 fits)
    ∙ through_near forward backward first bound (max m k) ks apart order few below.1 within.2

-- the highest index is one of them
pub top_below : (bound m : ℕ) (ks : List ℕ) → m < bound → AllBelow bound ks → top m ks < bound
top_below bound m [] l below = l
top_below bound m (k ∷ ks) l below = top_below bound (max m k) ks (omega (arith, l, below.0)) below.1

top_above : (m : ℕ) (ks : List ℕ) → m ≤ top m ks
top_above m [] = omega arith
top_above m (k ∷ ks) = omega (arith, top_above (max m k) ks)

all_at_most : (m : ℕ) (ks : List ℕ) → AllBelow (top m ks + 1) ks
all_at_most m [] = tt
all_at_most m (k ∷ ks) = (omega (arith, top_above (max m k) ks), all_at_most (max m k) ks)

-- all numbers of these packets are below the bound after them
pub below_after : (o : Option ℕ) (first : ℕ) (ks : List ℕ) → (n : ℕ) → AllBelow n ks → AllBelow (bound_of (greatest_after o first ks) - first) ks
below_after o first [] n below = tt
below_after o first (k ∷ ks) n below =
    let e : first + top k ks + 1 - first ≡ top k ks + 1 = omega arith in
    subst (λ (b : ℕ). AllBelow b (k ∷ ks)) (sym e) (omega (arith, top_above k ks), all_at_most k ks)

-- The first packet

-- a numbering without suspects
abbrev pub numbering_at : ℕ → ℕ → Option ℕ → Numbering
numbering_at forward backward o = record { greatest = o; suspect = None; forward = forward; backward = backward }

-- the answers for the first packet
begun_is : (forward backward : ℕ) (o : Option ℕ) (n : ℕ) → up_from o n < 2 ^ 64
    → (number_in (answer_anew (numbering_at forward backward o) n) ≡ Some (up_from o n)) × (begun_with (numbering_at forward backward o) n ≡ numbering_at forward backward (Some (up_from o n)))
begun_is forward backward None n fits = (refl, refl)
begun_is forward backward (Some g) n fits =
    let answer : answer_anew (numbering_at forward backward (Some g)) n ≡ extended.Restarted (is_restarting g n) = rw (lt-ltb (is_restarting g n) (2 ^ 64) fits) refl in
    let high : max g (is_restarting g n) ≡ is_restarting g n = omega arith in (
      ap number_in answer,
      ap (λ (e : Extended). numbering_with (numbering_at forward backward (Some g)) e n) answer ∙ ap (λ (x : ℕ). numbering_at forward backward (Some x)) high,
    )

module _ (forward backward : ℕ) (o : Option ℕ) (number bound : ℕ) (apart : forward + backward ≤ 65536) (order : backward < forward) where
  abbrev before : Numbering
  before = numbering_at forward backward o

  -- after the first packet
  begins_at : (k : ℕ) (ks : List ℕ) → k < 65536 → first_after o number (k ∷ ks) + k < 2 ^ 64
      → begun_with before ((first_after o number (k ∷ ks) + k) % 2 ^ 16) ≡ at_index forward backward (first_after o number (k ∷ ks)) k
  begins_at k ks small fits =
      let is = first_is o number k ks small in
      let bits = first_bits o number k ks small in
      let begun = begun_is forward backward o ((number + k) % 65536) (omega (arith, is, fits)) in
      ap (λ (n : ℕ). begun_with before n) bits ∙ (begun.1 ∙ ap (λ (x : ℕ). numbering_at forward backward (Some x)) (sym is))

  pub all_begun : (ks : List ℕ) → first_after o number ks + bound < 2 ^ 64 → AllBelow bound ks → ComeWithin forward backward ks → AllBegun (first_after o number ks) before ks
  all_begun [] few below within = tt
  all_begun (k ∷ ks) few below within =
      let first : ℕ = first_after o number (k ∷ ks) in
      let is = first_is o number k ks within.0 in
      let bits = first_bits o number k ks within.0 in
      let fits : first + k < 2 ^ 64 = omega (arith, few, below.0) in
      let begun = begun_is forward backward o ((number + k) % 65536) (omega (arith, is, fits)) in (
        ap (λ (n : ℕ). number_in (answer_anew before n)) bits ∙ (begun.0 ∙ ap (λ (x : ℕ). Some x) (sym is)),
        subst (λ (n : Numbering). AllNumbered first n ks) (sym (begins_at k ks within.0 fits)) (all_near forward backward first bound k ks apart order few below.1 within.1),
      )

  pub through_begun : (ks : List ℕ) → first_after o number ks + bound < 2 ^ 64 → AllBelow bound ks → ComeWithin forward backward ks
      → numbering_begun (first_after o number ks) before ks ≡ numbering_at forward backward (greatest_after o (first_after o number ks) ks)
  through_begun [] few below within = refl
  through_begun (k ∷ ks) few below within =
      let first : ℕ = first_after o number (k ∷ ks) in
      let fits : first + k < 2 ^ 64 = omega (arith, few, below.0) in
      ap (λ (n : Numbering). numbering_through first n ks) (begins_at k ks within.0 fits) ∙ through_near forward backward first bound k ks apart order few below.1 within.1

-- before the first part nobody has restarted, and the answers are the same
pub all_first : (forward backward first : ℕ) (ks : List ℕ) → AllBegun first (no_numbers forward backward) ks → AllNumbered first (no_numbers forward backward) ks
all_first forward backward first [] begun = tt
all_first forward backward first (k ∷ ks) begun = (
  number_first forward backward ((first + k) % 2 ^ 16) (first + k) begun.0,
  begun.1,
)
  where
    same_number : (n x : ℕ) → Some (65536 + n) ≡ Some x → 65536 + n ≡ x
    same_number n x e = cc

    number_first : (forward backward n x : ℕ) → number_in (answer_anew (no_numbers forward backward) n) ≡ Some x → answer_for (no_numbers forward backward) n ≡ extended.Number x
    number_first forward backward n x is = ap (λ (y : ℕ). extended.Number y) (same_number n x is)

pub through_first : (forward backward first : ℕ) (ks : List ℕ) → numbering_through first (no_numbers forward backward) ks ≡ numbering_begun first (no_numbers forward backward) ks
through_first forward backward first [] = refl
through_first forward backward first (k ∷ ks) = refl
