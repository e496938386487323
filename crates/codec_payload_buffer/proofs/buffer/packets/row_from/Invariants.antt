use Rattle.std.proofs.Common.{◌≡◌, ◌≢◌, ℕ, ◌+◌, ◌-◌, ◌<◌, ◌≤◌, length, get_or}
use Rattle.codec_payload_buffer.specs.declared.buffer.held_packet.HeldPacket.{HeldPacket}
use Rattle.codec_payload_buffer.proofs.buffer.packets.row_from.Given as goal

-- the count is from low to high
abbrev pub invariant-loop-low : goal.invariant-loop-low
invariant-loop-low l = record {
  some : 1 ≤ l.low;
  order : l.low ≤ l.high;
  within : l.place + l.high ≤ length l.packets.items;
  first : (p : HeldPacket) → l.first ≡ (get_or l.packets.items l.place p).number;
  row : (p : HeldPacket) (k : ℕ) → k + 1 ≡ l.low → (get_or l.packets.items (l.place + k) p).number ≡ l.first + k;
  end : (p : HeldPacket) → l.place + l.high < length l.packets.items → (get_or l.packets.items (l.place + l.high) p).number ≢ l.first + l.high;
}

abbrev pub decreases-loop-low : goal.decreases-loop-low
decreases-loop-low l = l.high - l.low
