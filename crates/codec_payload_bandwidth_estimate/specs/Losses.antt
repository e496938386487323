-- The usual losses of a path, and whether too many are lost.
use Rattle.std.specs.Prelude.{ℕ, ◌+◌, ◌-◌, ◌*◌, ◌/◌, ◌==◌, ◌||◌, nat_lt, if◌then◌else◌, Bool, false}

-- `usual` in 16,000ths
pub record Counted : Type 0 where
  pub lost : ℕ
  pub counted : ℕ
  pub since : ℕ
  pub usual : ℕ

abbrev pub no_losses : Counted
no_losses = record { lost = 0; counted = 0; since = 0; usual = 0 }

abbrev pub after_fate : Bool → Counted → Counted
after_fate lost c =
    if c.counted == 4294967295 then c else record c { counted = c.counted + 1; lost = if lost then c.lost + 1 else c.lost }

-- in thousandths
abbrev pub usual_of : Counted → ℕ
usual_of c = c.usual / 16

abbrev pub share_of : (lost counted : ℕ) → ℕ
share_of lost counted = lost * 1000 / counted

-- a period is too short
abbrev pub goes_on : ℕ → Counted → Bool
goes_on now c = nat_lt c.counted 50 || nat_lt (now - c.since) 500000

abbrev pub are_many : ℕ → Counted → Bool
are_many now c = if goes_on now c then false else nat_lt (2 * usual_of c + 150) (share_of c.lost c.counted)

abbrev pub after_period : ℕ → Counted → Counted
after_period now c =
    if goes_on now c then c else record { lost = 0; counted = 0; since = now; usual = (c.usual * 7 + share_of c.lost c.counted * 16) / 8 }
