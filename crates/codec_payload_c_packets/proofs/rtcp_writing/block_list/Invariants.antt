use Rattle.std.proofs.Common.{◌≡◌, ◌++◌, ◌*◌, drop, length}
use Rattle.codec_payload_c_packets.specs.RtcpWriting.{block_list}
use Rattle.codec_payload_c_packets.proofs.rtcp_writing.block_list.Given as goal

-- the bytes so far, and those of the blocks that are left, are all bytes
abbrev pub invariant-loop-block : goal.invariant-loop-block
invariant-loop-block l = record {
  bytes : l.list.items ++ block_list (drop l.block-index l.blocks) ≡ block_list l.blocks;
  len : length l.list.items ≡ 24 * l.block-index;
}
