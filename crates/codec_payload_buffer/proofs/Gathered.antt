-- What the pushes of a stretch gather, packet by packet.
use Rattle.std.specs.Prelude.{ℕ, ◌-◌, ◌||◌, Bool, true, false, List, [], ◌∷◌, Option, Some, length, take, drop, if◌then◌else◌}
use Rattle.codec_payload_buffer.specs.Held.{Held, number_of, has_number, placed}
use Rattle.codec_payload_buffer.specs.Steps.{State, is_at_most}

-- the packets of the stretch above the cutoff, with the packets that were held: one for each number
abbrev pub gathered : Option ℕ → List Held → List Held → List Held
gathered cutoff hs [] = hs
gathered cutoff hs (p ∷ ps) = gathered cutoff (if is_at_most cutoff (number_of p) || has_number (number_of p) hs then hs else placed p hs) ps

-- the last number, or else the given one
abbrev pub last_number : List Held → Option ℕ → Option ℕ
last_number [] c = c
last_number (p ∷ ps) c = last_number ps (Some (number_of p))

-- there is one
abbrev pub is_some_left : List Held → Bool
is_some_left [] = false
is_some_left (p ∷ ps) = true

-- the packets for which there is no room
abbrev pub packets_left_out : State → List Held → List Held
packets_left_out s all = take (length all - s.limit) all

-- the highest are held; if some are dropped, the highest of the dropped numbers is the cutoff, and a packet was evicted
abbrev pub with_kept : State → List Held → State
with_kept s all = record s {
  held = drop (length all - s.limit) all;
  cutoff = last_number (packets_left_out s all) s.cutoff;
  evicted = is_some_left (packets_left_out s all) || s.evicted;
}
