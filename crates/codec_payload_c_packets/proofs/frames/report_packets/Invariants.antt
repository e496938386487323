use Rattle.std.proofs.Common.{◌≡◌, ◌<◌, ℕ, Some, take, drop, slice_get}
use Rattle.codec_payload_core.specs.Packetizers.{packetizer_state_of}
use Rattle.codec_payload_c_packets.specs.Frames.{placed_at, rooms_in, size_with}
use Rattle.codec_payload_c_packets.proofs.frames.report_packets.Given as goal

-- the packets in front of this place are described, and the descriptions after it are unchanged
abbrev pub invariant-loop-place : goal.invariant-loop-place
invariant-loop-place l = record {
  at : l.at ≡ size_with (rooms_in l.cut) (take l.place l.frame.payloads);
  same : packetizer_state_of l.packetizer ≡ packetizer_state_of l.fn.packetizer;
  behind : drop l.place l.packets ≡ drop l.place l.fn.packets;
  so_far : (k : ℕ) → k < l.place → slice_get l.packets k ≡ Some (placed_at (packetizer_state_of l.fn.packetizer) l.cut l.frame.payloads k);
}
