-- The payloads that a RED sender repeats (RFC 2198, section 3).
use Rattle.std.specs.Prelude.{◌≡◌, ℕ, zero, suc, ◌+◌, ◌-◌, ◌%◌, ◌^◌, ◌≤◌, Bool, true, ◌&&◌, nat_lt, nat_le, List, [], ◌∷◌, ◌++◌, length, take, reverse, slice_get, sum_by, Option, Some, None, if◌then◌else◌}
use Rattle.std.specs.Option.{option_and_then}
use Rattle.std.specs.List.{filter_map}
use Rattle.codec_payload_red.specs.RedPayload.{Redundant, Red, fits, spelling}

-- a payload that was sent, and its RTP time
pub record Entry : Type 0 where
  pub bytes : List ℕ
  pub time : ℕ

-- a sender: its types, its distances and its history, newest first
pub record Sender : Type 0 where
  pub red_pt : ℕ
  pub primary_pt : ℕ
  pub distances : List ℕ
  pub history : List Entry

-- strictly rising above low, at most 8
abbrev pub rises_above : ℕ → List ℕ → Bool
rises_above low [] = true
rises_above low (d ∷ ds) = nat_lt low d && nat_le d 8 && rises_above d ds

-- strictly rising, each 1 to 8
abbrev pub is_accepted : List ℕ → Bool
is_accepted ds = rises_above 0 ds

-- the greatest distance, which is the last, or 1 without distances
abbrev pub deepest : List ℕ → ℕ
deepest [] = 1
deepest (d ∷ []) = d
deepest (d ∷ e ∷ ds) = deepest (e ∷ ds)

-- ---- levels

-- the payload that was sent n packets earlier
abbrev pub back : List Entry → ℕ → Option Entry
back history zero = None
back history (suc d) = slice_get history d

-- modulo 2^32
abbrev pub offset_of : ℕ → ℕ → ℕ
offset_of now time = (now + (2 ^ 32 - time)) % 2 ^ 32

-- a payload as a block, if it fits
abbrev pub as_block : ℕ → ℕ → Entry → Option Redundant
as_block pt now e = let b : Redundant = record { pt = pt; offset = offset_of now e.time; bytes = e.bytes } in if fits b then Some b else None

abbrev pub level : ℕ → ℕ → List Entry → ℕ → Option Redundant
level pt now history d = option_and_then (as_block pt now) (back history d)

-- the distances whose payload exists and fits, in their order: shallowest first
unfoldable pub levels : ℕ → ℕ → List Entry → List ℕ → List Redundant
levels pt now history ds = filter_map (level pt now history) ds

abbrev pub cost : Redundant → ℕ
cost b = 4 + length b.bytes

-- the longest beginning whose blocks cost at most the room
unfoldable pub within : ℕ → List Redundant → List Redundant
within room [] = []
within room (b ∷ bs) = if nat_lt room (cost b) then [] else b ∷ within (room - cost b) bs

-- ---- wrapping

-- the levels of a sender at an RTP time
abbrev pub levels_of : Sender → ℕ → List Redundant
levels_of s time = levels (s.primary_pt % 128) time s.history s.distances

-- the budget left beside a payload of this length and the one byte of its header
abbrev pub room_of : ℕ → ℕ → ℕ
room_of len budget = budget - len - 1

abbrev pub kept : Sender → ℕ → ℕ → ℕ → List Redundant
kept s len time budget = within (room_of len budget) (levels_of s time)

-- the blocks deepest first, and the payload as the primary one
abbrev pub wrapped : Sender → List ℕ → ℕ → ℕ → Red
wrapped s payload time budget = record { redundant = reverse (kept s (length payload) time budget); pt = s.primary_pt % 128; primary = payload }

-- the output: the payload unchanged if not even its header fits
abbrev pub output : Sender → List ℕ → ℕ → ℕ → List ℕ
output s payload time budget = if nat_lt (length payload) budget then spelling (wrapped s payload time budget) else payload

-- the payload is recorded, and the oldest leave
abbrev pub recorded : Sender → List ℕ → ℕ → Sender
recorded s payload time = record { red_pt = s.red_pt; primary_pt = s.primary_pt; distances = s.distances; history = take (deepest s.distances) (record { bytes = payload; time = time } ∷ s.history) }

-- new types and distances, and the oldest leave
abbrev pub synced : Sender → ℕ → ℕ → List ℕ → Sender
synced s red_pt primary_pt ds = record { red_pt = red_pt; primary_pt = primary_pt; distances = ds; history = take (deepest ds) s.history }

-- kept is the longest beginning of the blocks that costs at most the room
pub record IsLongest (room : ℕ) (blocks kept : List Redundant) : Type 0 where
  pub beginning : (rest : List Redundant) × (blocks ≡ kept ++ rest)
  pub fits : sum_by cost kept ≤ room
  pub most : (front : List Redundant) → (rest : List Redundant) → blocks ≡ front ++ rest → sum_by cost front ≤ room → length front ≤ length kept
