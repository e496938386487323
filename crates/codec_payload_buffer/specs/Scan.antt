-- Results of the buffer's functions: places of numbers among packets in order, the lowest frame, and sizes.
use Rattle.std.specs.Prelude.{ℕ, ◌+◌, List, [], ◌∷◌, nat_lt, if◌then◌else◌, Option, Some, None, length}
use Rattle.codec_payload_buffer.specs.Held.{Held, number_of}
use Rattle.codec_payload_buffer.specs.Frames.{row_before, lowest_head}
use Rattle.codec_payload_buffer.specs.declared.buffer.frames.CompleteFrame.{CompleteFrame}

-- the place of the first packet with this number or a higher one
abbrev pub place_of : ℕ → List Held → ℕ
place_of n [] = 0
place_of n (q ∷ qs) = if nat_lt (number_of q) n then place_of n qs + 1 else 0

-- how many packets have this number or a lower one
abbrev pub end_of : ℕ → List Held → ℕ
end_of last [] = 0
end_of last (q ∷ qs) = if nat_lt last (number_of q) then 0 else end_of last qs + 1

-- the lowest frame
abbrev pub first_of : List CompleteFrame → Option CompleteFrame
first_of [] = None
first_of (f ∷ fs) = Some f

-- the lowest head of the row that reaches the latest packet
abbrev pub open_start : List Held → Option ℕ
open_start [] = None
open_start (q ∷ qs) = lowest_head (q ∷ row_before q qs)

-- how many payload bytes these packets have
abbrev pub total_size : List Held → ℕ
total_size [] = 0
total_size (p ∷ ps) = length p.bytes + total_size ps

-- the room for which a size hint asks
abbrev pub room_for : Option ℕ → ℕ
room_for None = 0
room_for (Some size) = size
