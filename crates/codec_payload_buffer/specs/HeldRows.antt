-- Consecutive numbers that are held.
use Rattle.std.specs.Prelude.{◌≡◌, ◌≢◌, ℕ, ◌+◌, ◌<◌, ◌≤◌, true, List, length, slice_index_or}
use Rattle.codec_payload_buffer.specs.Held.{Held, has_number}
use Rattle.codec_payload_buffer.specs.declared.buffer.held_packet.HeldPacket.{HeldPacket}

-- `count` consecutive numbers from n on are held
abbrev pub AreHeldFrom : ℕ → ℕ → List Held → Type 0
AreHeldFrom n count ps = (k : ℕ) → k < count → has_number (n + k) ps ≡ true

-- the first `count` packets from the place on have consecutive numbers, and the next packet does not continue them
pub record IsRowFrom (ps : List HeldPacket) (place count : ℕ) : Type 0 where
  pub some : 1 ≤ count
  pub within : place + count ≤ length ps
  pub row : (p : HeldPacket) (k : ℕ) → k < count → (slice_index_or ps (place + k) p).number ≡ (slice_index_or ps place p).number + k
  pub end : (p : HeldPacket) → place + count < length ps → (slice_index_or ps (place + count) p).number ≢ (slice_index_or ps place p).number + count
