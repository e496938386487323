use Rattle.std.proofs.Common.{◌≡◌, ◌++◌, ◌*◌, drop, length}
use Rattle.codec_payload_c_packets.specs.Congestion.{ssrc_bytes}
use Rattle.codec_payload_c_packets.proofs.congestion.ssrc_bytes.Given as goal

-- the bytes so far, and those of the SSRCs that are left, are all bytes
abbrev pub invariant-loop-ssrc : goal.invariant-loop-ssrc
invariant-loop-ssrc l = record {
  bytes : l.bytes.items ++ ssrc_bytes (drop l.ssrc-index l.ssrcs) ≡ ssrc_bytes l.ssrcs;
  len : length l.bytes.items ≡ 4 * l.ssrc-index;
}
