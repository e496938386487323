-- The map of numbers, call by call.
use Rattle.std.proofs.Common.{◌≡◌, ◌∙◌, sym, ap, ℕ, suc, ◌+◌, ◌-◌, ◌%◌, ◌<◌, ◌≤◌, List, ◌∷◌, length, take, Bool, true, false, ltb, leb, arith, subst}
use Rattle.std.proofs.lemmas.Bool.{ltb-false, leb-false}
use Rattle.std.proofs.lemmas.List.{length-take}
use Rattle.codec_payload_sending_forward.specs.declared.renumbering.Placed.TheVariants as answers
use Rattle.codec_payload_sending_forward.specs.Numbers.{AllBelow, Falls, HasNumber, Numbers, above, below, is_in, is_too_old, next_number, placed, sent_as, source_at}
use Rattle.codec_payload_sending_forward.proofs.NumberLemmas.{IsSource, all_below_less, all_below_take, below_few, falls_take, in_or, is_source, low_below, parted, room_above, source_is}

-- what holds of the fields of a map
abbrev pub IsMap : ℕ → ℕ → List ℕ → Type 0
IsMap first highest xs = (first ≤ highest) × Falls xs × AllBelow (suc highest) xs × (length xs ≤ 4096) × (length xs ≤ highest)

pub raised : (first highest n : ℕ) (xs : List ℕ) → highest < n → IsMap first highest xs → IsMap first n xs
raised first highest n xs l m = (omega (arith, l, m.0), m.1, all_below_less (suc highest) (suc n) xs (omega (arith, l)) m.2, m.3, omega (arith, l, m.4))

pub added : (first highest n : ℕ) (xs ys : List ℕ) → ys ≡ n ∷ xs → highest < n → length xs < 4096 → IsMap first highest xs → IsMap first n ys
added first highest n xs ys e l few m =
    subst (λ (zs : List ℕ). IsMap first n zs) (sym e)
    (omega (arith, l, m.0), (all_below_less (suc highest) n xs (omega (arith, l)) m.2, m.1), (omega arith, all_below_less (suc highest) (suc n) xs (omega (arith, l)) m.2), omega (arith, few), omega (arith, l, m.4))

pub replaced : (first highest n last : ℕ) (xs ys : List ℕ) → ys ≡ n ∷ take 4095 xs → highest < n → last < n → length xs ≡ 4096 → IsMap first highest xs → IsMap (last + 1) n ys
replaced first highest n last xs ys e l low full m =
    let few : length (take 4095 xs) ≤ 4095 = omega (arith, length-take 4095 xs) in
    subst (λ (zs : List ℕ). IsMap (last + 1) n zs) (sym e) (
      omega (arith, low),
      (all_below_take n 4095 xs (all_below_less (suc highest) n xs (omega (arith, l)) m.2), falls_take 4095 xs m.1),
      (omega arith, all_below_take (suc n) 4095 xs (all_below_less (suc highest) (suc n) xs (omega (arith, l)) m.2)),
      omega (arith, few),
      omega (arith, l, m.4, few, full),
    )

pub placed_sent : (m : Numbers) (n s : ℕ) (wanted : Bool) → is_too_old m n ≡ false → is_in n m.left_out ≡ false → wanted ≡ true → s ≡ sent_as m n → answers.Sent s ≡ placed m n wanted
placed_sent m n s wanted young kept w e = rw (young, kept, w) (ap answers.Sent e)

-- Which packet has a number

ahead : (p d o next sent behind : ℕ) → next ≡ (p + d + 1 + o + 65536) % 65536 → sent ≡ (p + o + 65536) % 65536 → behind ≡ (next + (65536 - sent)) % 65536 → d < 32768 → behind ≡ d + 1
ahead p d o next sent behind e f g l = omega (arith, e, f, g, l)

back : (p o next sent behind : ℕ) → next ≡ (p + behind + o + 65536) % 65536 → behind ≡ (next + (65536 - sent)) % 65536 → sent < 65536 → (p + o + 65536) % 65536 ≡ sent
back p o next sent behind e g l = omega (arith, e, g, l)

pub young_by : (m : Numbers) (n : ℕ) → is_too_old m n ≡ false → (m.first ≤ n) × (m.highest - n < 32768)
young_by m n e =
    let s = in_or (ltb n m.first) (leb 32768 (m.highest - n)) e in
    (ltb-false n m.first s.0, leb-false 32768 (m.highest - n) s.1)

module _ (m : Numbers) (next sent behind : ℕ) (is : IsMap m.first m.highest m.left_out) (following : next ≡ next_number m) (by : behind ≡ (next + (65536 - sent)) % 65536) where
  -- a packet with that number has this place
  pub record HasPlace (n : ℕ) : Type 0 where
    pub some : 1 ≤ behind
    pub few : behind - 1 ≤ m.highest - length m.left_out
    pub at : source_at (m.highest - length m.left_out - (behind - 1)) m.left_out ≡ n

  pub has_place : (n : ℕ) → HasNumber m sent n → HasPlace n
  has_place n h =
      let xs : List ℕ = m.left_out in
      let b : ℕ = below n xs in
      let a : ℕ = above n xs in
      let young = young_by m n h.young in
      let part : a + b ≡ length xs = parted n xs h.kept in
      let room : suc n + a ≤ suc m.highest = room_above n (suc m.highest) xs (omega (arith, h.within)) is.1 is.2 in
      let low : b ≤ n = low_below n xs is.1 in
      let d : ℕ = m.highest - n - a in
      let p : ℕ = n - b in
      let up : next ≡ (p + d + 1 + m.offset + 65536) % 65536 = following ∙ ap (λ k. k % 65536) (sum n b a (length xs) m.highest m.offset part room low) in
      let down : sent ≡ (p + m.offset + 65536) % 65536 = sym h.is ∙ ap (λ k. k % 65536) (less n b m.offset low) in
      let e : behind ≡ d + 1 = ahead p d m.offset next sent behind up down by (omega (arith, young.1)) in
      record {
        some = omega (arith, e);
        few = omega (arith, e, part, room, low);
        at = source_is n (m.highest - length xs - (behind - 1)) xs is.1 h.kept (omega (arith, e, part, room, low));
      }
    where
      sum : (n b a len h o : ℕ) → a + b ≡ len → suc n + a ≤ suc h → b ≤ n → suc h + o + 65536 - len ≡ n - b + (h - n - a) + 1 + o + 65536
      sum n b a len h o e l m = omega (arith, e, l, m)

      less : (n b o : ℕ) → b ≤ n → n + o + 65536 - b ≡ n - b + o + 65536
      less n b o l = omega (arith, l)

  pub has_number : (n : ℕ) → sent < 65536 → 1 ≤ behind → behind - 1 ≤ m.highest - length m.left_out → n ≡ source_at (m.highest - length m.left_out - (behind - 1)) m.left_out → is_too_old m n ≡ false
      → HasNumber m sent n
  has_number n small some few e young =
      let xs : List ℕ = m.left_out in
      let p : ℕ = m.highest - length xs - (behind - 1) in
      let r : IsSource p n xs = subst (λ (k : ℕ). IsSource p k xs) (sym e) (is_source p xs is.1) in
      let b = below_few n xs in
      let up : next ≡ (p + behind + m.offset + 65536) % 65536 = following ∙ ap (λ k. k % 65536) (sum m.highest (length xs) behind m.offset some few is.4) in
      record {
        within = omega (arith, r.is, b, is.4);
        young = young;
        kept = r.out;
        is = ap (λ k. k % 65536) (less n p (below n xs) m.offset r.is) ∙ back p m.offset next sent behind up by small;
      }
    where
      sum : (h len behind o : ℕ) → 1 ≤ behind → behind - 1 ≤ h - len → len ≤ h → suc h + o + 65536 - len ≡ h - len - (behind - 1) + behind + o + 65536
      sum h len behind o a b c = omega (arith, a, b, c)

      less : (n p b o : ℕ) → n ≡ p + b → n + o + 65536 - b ≡ p + o + 65536
      less n p b o e = omega (arith, e)

pub true_false : true ≡ false → ⊥
true_false e = cc
