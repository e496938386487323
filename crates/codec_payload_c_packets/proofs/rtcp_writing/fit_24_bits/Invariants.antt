use Rattle.std.proofs.Common.{◌≡◌, drop}
use Rattle.codec_payload_c_packets.specs.RtcpWriting.{fits_24_bits}
use Rattle.codec_payload_c_packets.proofs.rtcp_writing.fit_24_bits.Given as goal

-- the blocks so far fit
abbrev pub invariant-loop-block : goal.invariant-loop-block
invariant-loop-block l = fits_24_bits (drop l.block-index l.blocks) ≡ fits_24_bits l.blocks
