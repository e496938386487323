use Rattle.std.proofs.Common.{◌≡◌, ◌+◌, ◌*◌, length}
use Rattle.codec_payload_c_packets.specs.Congestion.{ssrcs_in}
use Rattle.codec_payload_c_packets.proofs.AskedNumbers.{put_from}
use Rattle.codec_payload_c_packets.proofs.congestion.put_ssrcs.Given as goal

-- `count` SSRCs were put, and the rest is put after them
abbrev pub invariant-loop-rest : goal.invariant-loop-rest
invariant-loop-rest l = record {
  room : 4 * l.count + length l.rest ≡ length l.bytes;
  count : l.count + length (ssrcs_in l.rest) ≡ length (ssrcs_in l.bytes);
  put : put_from l.count l.ssrcs (ssrcs_in l.rest) ≡ put_from 0 l.fn.ssrcs (ssrcs_in l.bytes);
}

abbrev pub decreases-loop-rest : goal.decreases-loop-rest
decreases-loop-rest l = length l.rest
