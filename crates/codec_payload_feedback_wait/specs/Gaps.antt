-- The missing packets of a stream, and since when each is missing.
use Rattle.std.specs.Prelude.{ℕ, ◌+◌, ◌-◌, ◌%◌, ◌==◌, nat_le, if◌then◌else◌, Bool, false, List, [], ◌∷◌, map, Option, Some, None, replicate, slice_index_or, slice_set}
use Rattle.std.specs.List.{position}
use Rattle.codec_payload_feedback_wait.specs.declared.gaps.Gap.{Gap}

-- the latest 64 missing packets, and the index of the next one
pub record Followed : Type 0 where
  pub places : List (Option Gap)
  pub next : ℕ

abbrev pub no_gaps : Followed
no_gaps = record { places = replicate 64 None; next = 0 }

abbrev pub gap_with : Gap → Followed → Followed
gap_with gap f = record { places = slice_set f.places f.next (Some gap); next = (f.next + 1) % 64 }

-- a packet counts as lost once it is missing for this number of ticks
abbrev pub is_lost : ℕ → ℕ → Gap → Bool
is_lost now lost_after gap = nat_le lost_after (now - gap.since)

abbrev pub is_lost_at : ℕ → ℕ → Option Gap → Bool
is_lost_at now lost_after None = false
is_lost_at now lost_after (Some gap) = is_lost now lost_after gap

abbrev pub lost_in : ℕ → ℕ → List (Option Gap) → ℕ
lost_in now lost_after [] = 0
lost_in now lost_after (place ∷ places) =
    if is_lost_at now lost_after place then 1 + lost_in now lost_after places else lost_in now lost_after places

abbrev pub unless_lost : ℕ → ℕ → Option Gap → Option Gap
unless_lost now lost_after place = if is_lost_at now lost_after place then None else place

abbrev pub without_lost : ℕ → ℕ → List (Option Gap) → List (Option Gap)
without_lost now lost_after places = map (unless_lost now lost_after) places

-- a place holds a packet with these 16 bits
abbrev pub is_at : ℕ → Option Gap → Bool
is_at number None = false
is_at number (Some gap) = gap.number % 65536 == number

abbrev pub since_at : Option Gap → Option ℕ
since_at None = None
since_at (Some gap) = Some gap.since

abbrev pub since_from : List (Option Gap) → Option ℕ → Option ℕ
since_from places None = None
since_from places (Some index) = since_at (slice_index_or places index None)

-- since when the first followed packet with these 16 bits is missing
abbrev pub since_of : ℕ → List (Option Gap) → Option ℕ
since_of number places = since_from places (position (is_at number) places)

abbrev pub emptied : List (Option Gap) → Option ℕ → List (Option Gap)
emptied places None = places
emptied places (Some index) = slice_set places index None

-- the places without that packet
abbrev pub without_place : ℕ → List (Option Gap) → List (Option Gap)
without_place number places = emptied places (position (is_at number) places)
