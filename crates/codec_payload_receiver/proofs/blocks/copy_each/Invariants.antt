use Rattle.std.proofs.Common.{◌≡◌, ◌++◌, map, drop}
use Rattle.std.specs.List.{filter_map}
use Rattle.codec_payload_base.specs.declared.wire.Ticks.{Ticks}
use Rattle.codec_payload_red.specs.RedBlocks.{blocks_of}
use Rattle.codec_payload_datagrams.specs.Kinds.{carrier_of}
use Rattle.codec_payload_receiver.specs.Sessions.{carried, copied}
use Rattle.codec_payload_receiver.proofs.blocks.copy_each.Given as goal

-- the copies so far come in front of the packets of the remaining blocks
abbrev pub invariant-loop-block : goal.invariant-loop-block
invariant-loop-block l =
    (now : Ticks)
    → map (copied now) l.copies.items ++ filter_map (carried l.stream now (carrier_of l.red)) (drop l.block-index (blocks_of l.blocks))
    ≡ filter_map (carried l.stream now (carrier_of l.red)) (blocks_of l.blocks)
