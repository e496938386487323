-- The rows of held packets, as noted in the packets at their ends.
use Rattle.std.specs.Prelude.{◌≡◌, ℕ, ◌+◌, ◌<◌, List, [], ◌∷◌, ◌==◌, if◌then◌else◌, Option, Some, None}
use Rattle.codec_payload_buffer.specs.Rows.{meet, joined, join_if}
use Rattle.codec_payload_buffer.specs.declared.buffer.held_packet.HeldPacket.{HeldPacket}
use Rattle.codec_payload_buffer.specs.declared.buffer.rows.Row.{Row}

-- the note of a packet about its row: its number, the number of the packet at the other end, and the lowest head
pub record Mark : Type 0 where
  pub number : ℕ
  pub other_end : ℕ
  pub row_head : Option ℕ

abbrev pub mark_of : HeldPacket → Mark
mark_of x = record { number = x.number; other_end = x.packet.value.other_end; row_head = x.packet.value.row_head }

-- no note
abbrev pub no_mark : Mark
no_mark = record { number = 0; other_end = 0; row_head = None }

-- the new note
abbrev pub marked : Mark → ℕ → Option ℕ → Mark
marked m other_end row_head = record { number = m.number; other_end = other_end; row_head = row_head }

-- the note of the packet with this number
abbrev pub mark_at : ℕ → List Mark → Mark
mark_at n [] = no_mark
mark_at n (m ∷ ms) = if m.number == n then m else mark_at n ms

-- the first packet of a row notes the last number; the last packet notes the first number and the lowest head
abbrev pub IsTold : Row → List Mark → Type 0
IsTold r ms = ((mark_at r.first ms).other_end ≡ r.last) × ((mark_at r.last ms).other_end ≡ r.first) × ((mark_at r.last ms).row_head ≡ r.head)

-- each of the rows is noted in its packets
abbrev pub AreTold : List Row → List Mark → Type 0
AreTold [] ms = Unit {0}
AreTold (r ∷ rs) ms = IsTold r ms × AreTold rs ms

-- the row that begins right after n
abbrev pub next_of : ℕ → List Row → Option Row
next_of n [] = None
next_of n (r ∷ rs) = if r.first == n + 1 then Some r else next_of n rs

-- the row that ends right before n
abbrev pub previous_of : ℕ → List Row → Option Row
previous_of n [] = None
previous_of n (r ∷ rs) = if r.last + 1 == n then Some r else previous_of n rs

-- p joined with the row after it, if they meet
abbrev pub ahead : Row → Option Row → Row
ahead p None = p
ahead p (Some r) = if meet p r then joined p r else p

-- p joined with the row in front of it, if they meet
abbrev pub behind : Row → Option Row → Row
behind p None = p
behind p (Some r) = join_if r p

-- the row from a number to its last packet
abbrev pub row_ending : ℕ → HeldPacket → Row
row_ending first x = record { first = first; last = x.number; time = x.packet.value.known.time; head = x.packet.value.row_head; tail = x.packet.value.tail }

-- the lowest row
abbrev pub IsLowestRow : List Row → Row → Type 0
IsLowestRow [] r = ⊥
IsLowestRow (s ∷ rs) r = r ≡ s

-- n is above this row, if there is a row
abbrev pub IsBeyond : Option Row → ℕ → Type 0
IsBeyond None n = Unit {0}
IsBeyond (Some r) n = r.last < n
