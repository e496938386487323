-- A kept list of missing numbers: what it has, and which numbers may have changed since it was made.
use Rattle.std.specs.Prelude.{◌≡◌, ◌⊎◌, ◌≤◌, ℕ, ◌+◌, ◌-◌, ◌^◌, ◌&&◌, not, nat_le, nat_lt, if◌then◌else◌, min, max, Bool, false, Option, Some, None, List, []}
use Rattle.std.specs.List.{filter}
use Rattle.codec_payload_buffer.specs.Held.{Held, has_number}
use Rattle.codec_payload_buffer.specs.Steps.{State, is_at_most}
use Rattle.codec_payload_jitter.specs.Missing.{numbers_between}
use Rattle.codec_payload_jitter.specs.NoMediaNumbers.{is_in}

-- all missing numbers from `low` up to `high`; only those from `from` up to `to` may have changed since
pub record Kept : Type 0 where
  pub numbers : List ℕ
  pub low : ℕ
  pub high : ℕ
  pub from : ℕ
  pub to : ℕ

abbrev pub nothing_kept : Kept
nothing_kept = record { numbers = []; low = 0; high = 0; from = 2 ^ 64 - 1; to = 0 }

-- n is neither held nor known to have no media
abbrev pub is_free : List Held → List ℕ → ℕ → Bool
is_free held noted n = not (has_number n held) && not (is_in n noted)

-- the missing numbers from low up to high
abbrev pub free_between : List Held → List ℕ → ℕ → ℕ → List ℕ
free_between held noted low high = filter (is_free held noted) (numbers_between low high)

-- the kept numbers from low up to high
abbrev pub is_between : ℕ → ℕ → ℕ → Bool
is_between low high n = nat_le low n && nat_lt n high

abbrev pub within : ℕ → ℕ → List ℕ → List ℕ
within low high ns = filter (is_between low high) ns

-- the numbers from low up to high are above the cutoff, and may not have changed
pub record IsKnown (k : Kept) (cutoff : Option ℕ) (low high : ℕ) : Type 0 where
  pub above : k.low ≤ low
  pub below : high ≤ k.high
  pub apart : (high ≤ k.from) ⊎ (k.to ≤ low)
  pub over : is_at_most cutoff low ≡ false

-- among known numbers exactly the missing ones are kept
pub record Keeps (k : Kept) (s : State) (noted : List ℕ) : Type 0 where
  pub known : (low high : ℕ) → IsKnown k s.cutoff low high → within low high k.numbers ≡ free_between s.held noted low high
  pub all : within k.low k.high k.numbers ≡ k.numbers

-- ---- changes

-- n may have changed
abbrev pub touched : ℕ → Kept → Kept
touched n k = if nat_lt n k.high then record k { from = min k.from n; to = max k.to (n + 1) } else k

abbrev pub touched_if : Option ℕ → Kept → Kept
touched_if None k = k
touched_if (Some n) k = touched n k

-- the numbers from `first` up to `end`, exclusive, may have changed
abbrev pub touched_range : ℕ → ℕ → Kept → Kept
touched_range first end k = if nat_lt first k.high then record k { from = min k.from first; to = max k.to end } else k

-- all numbers from this one on may have changed
abbrev pub touched_from : Option ℕ → Kept → Kept
touched_from None k = k
touched_from (Some n) k = touched_range n k.high k
