use Rattle.std.proofs.Common.{◌≡◌, Bool, false, map, length}
use Rattle.codec_payload_codec.specs.Depacketizers.{is_built_in_depacketizer}
use Rattle.codec_payload_jitter.specs.OwnReceiving.{OwnStores}
use Rattle.codec_payload_receiver.specs.Sessions.{Holding, RecoversAll, copied}
use Rattle.codec_payload_receiver.proofs.blocks.recover_all.Given as goal

-- the remaining packets lead to the same state as all of them
abbrev pub invariant-loop-copy : goal.invariant-loop-copy
invariant-loop-copy g l = record {
  -- wherever the packets that are left lead to, all of them lead to
  all : (whole : Bool) (t : Holding) → RecoversAll whole (map (copied l.now) l.copies.items) (record { packets = l.packets; seen = l.seen }) t
      → RecoversAll whole (map (copied l.now) l.initial.copies.items) (record { packets = l.initial.packets; seen = l.initial.seen }) t;
  -- a custom depacketizer decided the packets that were stored so far
  own : is_built_in_depacketizer l.initial.packets.buffer.depacketizer ≡ false
      → OwnStores g.B.Depacketizer.is_head g.B.Depacketizer.is_tail l.initial.packets.buffer l.packets.buffer;
}

abbrev pub decreases-loop-copy : goal.decreases-loop-copy
decreases-loop-copy g l = length l.copies.items
