-- How a kept list of missing numbers becomes exact again.
use Rattle.std.specs.Prelude.{◌≡◌, ◌⊎◌, ◌≤◌, ◌++◌, ℕ, nat_lt, if◌then◌else◌, min, max, Bool, true, false, List, [], ◌∷◌, length}
use Rattle.codec_payload_jitter.specs.KeptMissing.{Kept}
use Rattle.codec_payload_jitter.specs.Missing.{absent_between}
use Rattle.codec_payload_jitter.specs.Receiving.{Receiving}

abbrev pub is_none : List ℕ → Bool
is_none [] = true
is_none (n ∷ ns) = false

-- a list of no numbers begins at `next`, if it began below
abbrev pub raised : ℕ → Kept → Kept
raised next k = if is_none k.numbers then record k { low = max k.low next } else k

-- the first number from `next` on that may have changed; below the start nothing is known
abbrev pub changed_from : ℕ → ℕ → Kept → ℕ
changed_from next high k = if nat_lt next k.low then next else min (max k.from next) high

-- the list is exact from `next` up to its own end, which is not above `end`
pub record IsExact (r : Receiving) (next end : ℕ) (k : Kept) : Type 0 where
  pub low : k.low ≡ next
  pub high : k.high ≤ end
  pub numbers : k.numbers ≡ absent_between r next k.high

-- the missing numbers from `from` up to `high` are appended; then there are `most`, or `to` is reached
pub record Extends (r : Receiving) (from to most : ℕ) (before : List ℕ) (high : ℕ) (after : List ℕ) : Type 0 where
  pub numbers : after ≡ before ++ absent_between r from high
  pub above : from ≤ high
  pub below : high ≤ to
  pub done : (most ≤ length after) ⊎ (high ≡ to)
