-- The number without wrap that is nearest to the highest number is the one that the receiver gave the packet.
use Rattle.std.proofs.Common.{◌≡◌, ◌∙◌, refl, sym, ap, subst, ℕ, ◌+◌, ◌-◌, ◌/◌, ◌%◌, ◌^◌, ◌<◌, ◌≤◌, ◌⊎◌, inl, inr, max, Bool, true, false, cond, leb, ltb, Option, Some, None, arith}
use Rattle.std.proofs.lemmas.Bool.{cases_lt, le-leb, leb-true, lt-leb}
use Rattle.codec_payload_base.specs.Extended.{extended, ahead as ahead_in, nearest}
use Rattle.codec_payload_numbers.specs.Numbers.{Numbering, ahead, answer_by, answer_for, answer_near, behind, fitting, follows_suspect, greater, is_restarting, numbering_after, numbering_with}
use Rattle.codec_payload_numbers.specs.declared.numbers.Extended.{Extended}
use Rattle.codec_payload_numbers.specs.declared.numbers.Extended.TheVariants as kinds

number_same : (x n : ℕ) → kinds.Number x ≡ kinds.Number n → x ≡ n
number_same x n e = cc

-- a number that is the highest one is nearest to itself
nearest_self : (n : ℕ) → n < 2 ^ 64 → nearest 65536 n (n % 2 ^ 16) ≡ n
nearest_self n small =
    let none : ahead_in 65536 n (n % 2 ^ 16) ≡ 0 = omega arith in
    let test : leb (ahead_in 65536 n (n % 2 ^ 16)) (65536 / 2) ≡ true = le-leb (ahead_in 65536 n (n % 2 ^ 16)) (65536 / 2) (omega (arith, none)) in
    rw test (omega (arith, none, small))

-- a number at most 32767 below the highest one
nearest_below : (g n d : ℕ) → d ≡ behind g (n % 2 ^ 16) → d < 32768 → n ≡ g - d → n < 2 ^ 64 → nearest 65536 g (n % 2 ^ 16) ≡ n
nearest_below g n d is few below small = by (cases_lt (65536 / 2) (ahead_in 65536 g (n % 2 ^ 16)))
  where
    by : (65536 / 2 < ahead_in 65536 g (n % 2 ^ 16)) ⊎ (ahead_in 65536 g (n % 2 ^ 16) ≤ 65536 / 2) → nearest 65536 g (n % 2 ^ 16) ≡ n
    by (inr near) = rw (le-leb (ahead_in 65536 g (n % 2 ^ 16)) (65536 / 2) near) (omega (arith, is, few, below, small, near))
    by (inl far) = rw (lt-leb (ahead_in 65536 g (n % 2 ^ 16)) (65536 / 2) far) (omega (arith, is, few, below, small, far))

max_up : (g n : ℕ) → g ≤ n → max g n ≡ n
max_up g n up = omega (arith, up)

max_down : (g n : ℕ) → n ≤ g → max g n ≡ g
max_down g n down = omega (arith, down)

ahead_number : (g a n : ℕ) → fitting kinds.Number (g + a) ≡ kinds.Number n → n ≡ g + a
ahead_number g a n is = by (ltb (g + a) (2 ^ 64)) refl
  where
    by : (b : Bool) → ltb (g + a) (2 ^ 64) ≡ b → n ≡ g + a
    by true e = let same : kinds.Number (g + a) ≡ kinds.Number n = rw e at is in sym (number_same (g + a) n same)
    by false e = let spent : kinds.Spent ≡ kinds.Number n = rw e at is in absurd (cc)

restart_none : (b : Bool) (g low n : ℕ) → cond b (fitting kinds.Restarted (is_restarting g low)) kinds.Suspect ≡ kinds.Number n → ⊥
restart_none false g low n is = cc
restart_none true g low n is = by (ltb (is_restarting g low) (2 ^ 64)) refl
  where
    by : (b : Bool) → ltb (is_restarting g low) (2 ^ 64) ≡ b → ⊥
    by true e = let same : kinds.Restarted (is_restarting g low) ≡ kinds.Number n = rw e at is in cc
    by false e = let same : kinds.Spent ≡ kinds.Number n = rw e at is in cc

near_highest : (s : Numbering) (g n : ℕ) → answer_near s g (n % 2 ^ 16) ≡ kinds.Number n → s.backward < 32768 → n < 2 ^ 64 → nearest 65536 (max g n) (n % 2 ^ 16) ≡ n
near_highest s g n is windows small = by_ahead (ltb (ahead g (n % 2 ^ 16)) s.forward) refl
  where
    low : ℕ
    low = n % 2 ^ 16

    by_behind : (b : Bool) → leb (behind g (n % 2 ^ 16)) s.backward ≡ b
        → cond b (kinds.Number (g - behind g (n % 2 ^ 16))) (cond (follows_suspect s.suspect (n % 2 ^ 16)) (fitting kinds.Restarted (is_restarting g (n % 2 ^ 16))) kinds.Suspect) ≡ kinds.Number n
        → nearest 65536 (max g n) (n % 2 ^ 16) ≡ n
    by_behind true e got =
        let below : n ≡ g - behind g (n % 2 ^ 16) = sym (number_same (g - behind g (n % 2 ^ 16)) n got) in
        let few : behind g (n % 2 ^ 16) < 32768 = omega (arith, leb-true (behind g (n % 2 ^ 16)) s.backward e, windows) in
        ap (λ (m : ℕ). nearest 65536 m (n % 2 ^ 16)) (max_down g n (omega (arith, below))) ∙ nearest_below g n (behind g (n % 2 ^ 16)) refl few below small
    by_behind false e got = absurd (restart_none (follows_suspect s.suspect (n % 2 ^ 16)) g (n % 2 ^ 16) n got)

    by_ahead : (b : Bool) → ltb (ahead g (n % 2 ^ 16)) s.forward ≡ b → nearest 65536 (max g n) (n % 2 ^ 16) ≡ n
    by_ahead true e =
        let up : n ≡ g + ahead g (n % 2 ^ 16) = ahead_number g (ahead g (n % 2 ^ 16)) n (rw e at is) in
        ap (λ (m : ℕ). nearest 65536 m (n % 2 ^ 16)) (max_up g n (omega (arith, up))) ∙ nearest_self n small
    by_ahead false e = by_behind (leb (behind g (n % 2 ^ 16)) s.backward) refl (rw e at is)

-- after a packet that got a number within the windows
pub near_after : (s : Numbering) (n : ℕ) → answer_for s (n % 2 ^ 16) ≡ kinds.Number n → s.backward < 32768 → n < 2 ^ 64 → extended 65536 (numbering_after s (n % 2 ^ 16)).greatest (n % 2 ^ 16) ≡ n
near_after s n is windows small =
    subst (λ (e : Extended). extended 65536 (numbering_with s e (n % 2 ^ 16)).greatest (n % 2 ^ 16) ≡ n) (sym is) (by s.greatest refl)
  where
    by : (o : Option ℕ) → s.greatest ≡ o → nearest 65536 (greater s.greatest n) (n % 2 ^ 16) ≡ n
    by None e = ap (λ (o : Option ℕ). nearest 65536 (greater o n) (n % 2 ^ 16)) e ∙ nearest_self n small
    by (Some g) e =
        ap (λ (o : Option ℕ). nearest 65536 (greater o n) (n % 2 ^ 16)) e
        ∙ near_highest s g n (subst (λ (o : Option ℕ). answer_by s o (n % 2 ^ 16) ≡ kinds.Number n) e is) windows small

-- the windows stay
pub windows_stay : (s : Numbering) (n : ℕ) → (numbering_after s n).backward ≡ s.backward
windows_stay s n = by (answer_for s n)
  where
    by : (e : Extended) → (numbering_with s e n).backward ≡ s.backward
    by (kinds.Number x) = refl
    by (kinds.Restarted x) = refl
    by kinds.Suspect = refl
    by kinds.Spent = refl
