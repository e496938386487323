-- Ranges of numbers without media of which no packet arrived.
use Rattle.std.specs.Prelude.{◌≡◌, ◌⊎◌, ℕ, ◌+◌, ◌-◌, ◌^◌, ◌<◌, ◌≤◌, ◌++◌, ◌||◌, max, min, nat_le, nat_lt, if◌then◌else◌, Bool, true, false, List, [], ◌∷◌, Option, Some, None, length, drop}
use Rattle.std.specs.List.{filter}
use Rattle.codec_payload_buffer.specs.Held.{Held, has_number}
use Rattle.codec_payload_jitter.specs.Missing.{numbers_between}
use Rattle.codec_payload_jitter.specs.NoMediaNumbers.{is_in}
use Rattle.codec_payload_jitter.specs.Receiving.{Receiving}
use Rattle.codec_payload_jitter.specs.Staying.{first_number}

-- the noted numbers below `first`, those from `first` up to `end`, exclusive, and the noted numbers from `end` on
abbrev pub numbers_below : ℕ → List ℕ → List ℕ
numbers_below first ns = filter (λ n. nat_lt n first) ns

abbrev pub numbers_from_on : ℕ → List ℕ → List ℕ
numbers_from_on end ns = filter (λ n. nat_le end n) ns

abbrev pub no_media_between : ℕ → ℕ → List ℕ → List ℕ
no_media_between first end ns = numbers_below first ns ++ (numbers_between first end ++ numbers_from_on end ns)

-- the highest 1,024 of them
abbrev pub latest_few : List ℕ → List ℕ
latest_few ns = drop (length ns - 1024) ns

abbrev pub noted_between : ℕ → ℕ → List ℕ → List ℕ
noted_between first end ns = latest_few (no_media_between first end ns)

-- how many of the range were not noted before
abbrev pub more_between : ℕ → ℕ → List ℕ → ℕ
more_between first end ns = length (no_media_between first end ns) - length ns

-- the lowest noted number, if `count` further numbers may not be noted without forgetting some
abbrev pub lowest_if_crowded : ℕ → List ℕ → Option ℕ
lowest_if_crowded count ns = if nat_lt 1024 (min (count + length ns) (2 ^ 64 - 1)) then first_number ns else None

-- ---- the range

-- the first number of a range that is above the cutoff
abbrev pub above_cutoff : Option ℕ → ℕ → ℕ
above_cutoff None first = first
above_cutoff (Some c) first = if nat_le first c then min (c + 1) (2 ^ 64 - 1) else first

-- that is also one of the last 1,024
abbrev pub start_of : Option ℕ → ℕ → ℕ → ℕ
start_of cutoff first end = max (above_cutoff cutoff first) (end - 1024)

-- a packet with one of these numbers is held
abbrev pub is_held_in : List ℕ → List Held → Bool
is_held_in [] held = false
is_held_in (n ∷ ns) held = has_number n held || is_held_in ns held

abbrev pub is_any_held : ℕ → ℕ → List Held → Bool
is_any_held first end held = is_held_in (numbers_between first end) held

-- ---- the call

-- nothing is noted if a packet of the range is held; else exactly the range is noted, and nothing else changes
abbrev pub NotesUnless : (held : Bool) → ℕ → ℕ → Receiving → Option ℕ → Receiving → Type 0
NotesUnless true first end r noted t = (noted ≡ None) × (t ≡ r)
NotesUnless false first end r noted t =
    (noted ≡ Some (more_between first end r.no_media_numbers)) × (t ≡ record r { no_media_numbers = noted_between first end r.no_media_numbers })

abbrev pub NotesIf : (some : Bool) → ℕ → ℕ → Receiving → Option ℕ → Receiving → Type 0
NotesIf false first end r noted t = (noted ≡ Some 0) × (t ≡ r)
NotesIf true first end r noted t = NotesUnless (is_any_held first end r.buffer.held) first end r noted t

abbrev pub NotesFrom : ℕ → ℕ → Receiving → Option ℕ → Receiving → Type 0
NotesFrom first end r noted t = NotesIf (nat_lt first end) first end r noted t

-- the numbers from `first` up to `end`, exclusive, that are above the cutoff, at most the last 1,024
abbrev pub NotesRange : ℕ → ℕ → Receiving → Option ℕ → Receiving → Type 0
NotesRange first end r noted t = NotesFrom (start_of r.buffer.cutoff first end) end r noted t

-- ---- what that says

-- no other number is noted
abbrev pub NotesNoOther : ℕ → ℕ → List ℕ → List ℕ → Type 0
NotesNoOther first end before after = (n : ℕ) → is_in n after ≡ true → (is_in n before ≡ true) ⊎ ((first ≤ n) × (n < end))
