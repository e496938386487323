-- The numbering after a packet, and the number of a block.
use Rattle.std.proofs.Common.{◌≡◌, ◌∙◌, refl, sym, ap, ℕ, ◌+◌, ◌-◌, ◌%◌, ◌^◌, ◌<◌, ◌≤◌, Bool, true, false, cond, ltb, leb, max, Option, Some, None, arith}
use Rattle.std.proofs.lemmas.Bool.{leb-true, ltb-true}
use Rattle.std.proofs.lemmas.Option.{same_Some}
use Rattle.codec_payload_numbers.specs.Numbers.{Numbering, ahead, answer_by, answer_for, answer_near, behind, fitting, follows_suspect, greater, is_restarting, number_within, numbering_after, numbering_with}
use Rattle.codec_payload_numbers.specs.declared.numbers.Extended.{Extended}
use Rattle.codec_payload_numbers.specs.declared.numbers.Extended.TheVariants as extended

-- the numbering after a packet with the number n
pub record IsPast (n backward : ℕ) (s : Numbering) : Type 0 where
  pub greatest : ℕ
  pub is : s.greatest ≡ Some greatest
  pub over : n ≤ greatest
  pub near : greatest ≤ n + backward

near_greatest : (s : Numbering) (g low n : ℕ) → answer_near s g low ≡ extended.Number n → max g n ≤ n + s.backward
near_greatest s g low n is = by_tests (ltb (ahead g low) s.forward) (leb (behind g low) s.backward) (follows_suspect s.suspect low) refl is
  where
    by_fit : (b : Bool) (m : ℕ) → cond b (extended.Number m) extended.Spent ≡ extended.Number n → m ≡ n
    by_fit true m same = cc
    by_fit false m same = absurd (cc)

    no_restart : (b : Bool) (m : ℕ) → cond b (extended.Restarted m) extended.Spent ≡ extended.Number n → ⊥
    no_restart true m same = cc
    no_restart false m same = cc

    by_tests : (a b f : Bool) → leb (behind g low) s.backward ≡ b
        → cond a (fitting extended.Number (g + ahead g low)) (cond b (extended.Number (g - behind g low)) (cond f (fitting extended.Restarted (is_restarting g low)) extended.Suspect)) ≡ extended.Number n
        → max g n ≤ n + s.backward
    by_tests true b f test same = let up : g + ahead g low ≡ n = by_fit (ltb (g + ahead g low) (2 ^ 64)) (g + ahead g low) same in omega (arith, up)
    by_tests false true f test same =
        let number : g - behind g low ≡ n = cc in
        let back : behind g low ≤ s.backward = leb-true (behind g low) s.backward test in
        omega (arith, number, back)
    by_tests false false true test same = absurd (no_restart (ltb (is_restarting g low) (2 ^ 64)) (is_restarting g low) same)
    by_tests false false false test same = absurd (cc)

pub past_number : (s : Numbering) (low n : ℕ) → answer_for s low ≡ extended.Number n → IsPast n s.backward (numbering_after s low)
past_number s low n is = by_greatest s.greatest refl is
  where
    after : numbering_after s low ≡ record s { greatest = Some (greater s.greatest n) }
    after = ap (λ (e : Extended). numbering_with s e low) is

    by_greatest : (o : Option ℕ) → s.greatest ≡ o → answer_by s o low ≡ extended.Number n → IsPast n s.backward (numbering_after s low)
    by_greatest None at same = record {
      greatest = n;
      is = ap (λ (x : Numbering). x.greatest) after ∙ ap (λ (o : Option ℕ). Some (greater o n)) at;
      over = omega arith;
      near = omega arith;
    }
    by_greatest (Some g) at same =
        let near = near_greatest s g low n same in
        record {
          greatest = max g n;
          is = ap (λ (x : Numbering). x.greatest) after ∙ ap (λ (o : Option ℕ). Some (greater o n)) at;
          over = omega arith;
          near = near;
        }

ahead_of : (g i : ℕ) → i ≤ g → g ≤ i + 65535 → ahead g (i % 65536) ≡ (65536 + i - g) % 65536
ahead_of g i below near = omega arith

behind_of : (g i : ℕ) → i ≤ g → g ≤ i + 65535 → behind g (i % 65536) ≡ g - i
behind_of g i below near = omega arith

-- the number of a block: the one of its packet, if the block is within the windows
pub block_number : (s : Numbering) (g i m : ℕ) → s.greatest ≡ Some g → i ≤ g → g ≤ i + s.backward + 8 → s.forward + s.backward + 8 ≤ 65536 → 0 < s.forward
    → number_within (answer_for s (i % 65536)) ≡ Some m → m ≡ i
block_number s g i m at below near apart some is =
    by_tests (ltb (ahead g (i % 65536)) s.forward) (leb (behind g (i % 65536)) s.backward) (follows_suspect s.suspect (i % 65536)) refl refl
    (ap (λ (o : Option ℕ). number_within (answer_by s o (i % 65536))) (sym at) ∙ is)
  where
    back : behind g (i % 65536) ≡ g - i
    back = behind_of g i below (omega (arith, near, apart, some))

    by_fit : (b : Bool) (v : ℕ) → number_within (cond b (extended.Number v) extended.Spent) ≡ Some m → v ≡ m
    by_fit true v same = same_Some v m same
    by_fit false v same = absurd (cc)

    no_restart : (b : Bool) (v : ℕ) → number_within (cond b (extended.Restarted v) extended.Spent) ≡ Some m → ⊥
    no_restart true v same = cc
    no_restart false v same = cc

    by_tests : (a b f : Bool) → ltb (ahead g (i % 65536)) s.forward ≡ a → leb (behind g (i % 65536)) s.backward ≡ b
        → number_within (cond a (fitting extended.Number (g + ahead g (i % 65536))) (cond b (extended.Number (g - behind g (i % 65536)))
        (cond f (fitting extended.Restarted (is_restarting g (i % 65536))) extended.Suspect))) ≡ Some m
        → m ≡ i
    by_tests true b f ahead_test behind_test same =
        let v : g + ahead g (i % 65536) ≡ m = by_fit (ltb (g + ahead g (i % 65536)) (2 ^ 64)) (g + ahead g (i % 65536)) same in
        let less : ahead g (i % 65536) < s.forward = ltb-true (ahead g (i % 65536)) s.forward ahead_test in
        let is_ahead = ahead_of g i below (omega (arith, near, apart, some)) in
        omega (arith, v, less, is_ahead, below, near, apart)
    by_tests false true f ahead_test behind_test same =
        let v : g - behind g (i % 65536) ≡ m = same_Some (g - behind g (i % 65536)) m same in
        omega (arith, v, back, below)
    by_tests false false true ahead_test behind_test same = absurd (no_restart (ltb (is_restarting g (i % 65536)) (2 ^ 64)) (is_restarting g (i % 65536)) same)
    by_tests false false false ahead_test behind_test same = absurd (cc)
