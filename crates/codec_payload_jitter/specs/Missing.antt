-- The missing numbers.
use Rattle.std.specs.Prelude.{ℕ, ◌+◌, ◌-◌, zero, suc, max, ◌&&◌, not, Bool, Option, Some, None, List, [], ◌∷◌, take}
use Rattle.std.specs.List.{filter}
use Rattle.codec_payload_buffer.specs.Held.{has_number}
use Rattle.codec_payload_jitter.specs.NoMediaNumbers.{is_in}
use Rattle.codec_payload_jitter.specs.Receiving.{Receiving}

-- n is neither held nor known to have no media
abbrev pub is_absent : Receiving → ℕ → Bool
is_absent r n = not (has_number n r.buffer.held) && not (is_in n r.no_media_numbers)

-- the given number of consecutive numbers, from n on
abbrev pub numbers_from : ℕ → ℕ → List ℕ
numbers_from n zero = []
numbers_from n (suc k) = n ∷ numbers_from (n + 1) k

-- the numbers from low up to high, exclusive
abbrev pub numbers_between : ℕ → ℕ → List ℕ
numbers_between low high = numbers_from low (high - low)

-- the missing numbers among them
abbrev pub absent_between : Receiving → ℕ → ℕ → List ℕ
absent_between r low high = filter (is_absent r) (numbers_between low high)

-- no number up to here is requested: the cutoff, or the lowest number since the latest restart
abbrev pub floor_by : Option ℕ → Option ℕ → Option ℕ
floor_by None cutoff = None
floor_by (Some l) None = Some l
floor_by (Some l) (Some c) = Some (max l c)

abbrev pub floor_of : Receiving → Option ℕ
floor_of r = floor_by r.lowest r.buffer.cutoff

-- the missing numbers between both
abbrev pub missing_by : Receiving → Option ℕ → Option ℕ → List ℕ
missing_by r None greatest = []
missing_by r (Some low) None = []
missing_by r (Some low) (Some high) = absent_between r (low + 1) high

-- all missing numbers, in rising order
abbrev pub missing_of : Receiving → List ℕ
missing_of r = missing_by r (floor_of r) r.numbering.greatest

-- the first `most` of them
abbrev pub missing_numbers : Receiving → ℕ → List ℕ
missing_numbers r most = take most (missing_of r)
