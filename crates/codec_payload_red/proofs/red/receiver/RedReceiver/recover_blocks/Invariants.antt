use Rattle.std.proofs.Common.{◌≡◌, ◌++◌, map, drop}
use Rattle.std.specs.List.{filter_map}
use Rattle.codec_payload_red.specs.RedBlocks.{blocks_of}
use Rattle.codec_payload_red.specs.RedRecovery.{recovered_from, packet_of}
use Rattle.codec_payload_red.proofs.red.receiver.RedReceiver.recover_blocks.Given as goal

abbrev pub invariant-loop-block : goal.invariant-loop-block
invariant-loop-block l = map packet_of l.found.items ++ filter_map (recovered_from l.self l.seq_no.0 l.rtp_time) (drop l.block-index (blocks_of l.blocks)) ≡ filter_map (recovered_from l.self l.seq_no.0 l.rtp_time) (blocks_of l.blocks)
