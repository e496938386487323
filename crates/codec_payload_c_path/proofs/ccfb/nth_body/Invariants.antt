use Rattle.std.proofs.Common.{◌≡◌, slice_get}
use Rattle.codec_payload_rtcp.specs.RtcpReading.{packets_left}
use Rattle.codec_payload_c_path.specs.Ccfb.{bodies_in}
use Rattle.codec_payload_c_path.proofs.ccfb.nth_body.Given as goal

abbrev pub invariant-loop-packet : goal.invariant-loop-packet
invariant-loop-packet l = slice_get (bodies_in (packets_left l.packet-iterator)) l.left ≡ slice_get (bodies_in (packets_left l.fn.packets)) l.index
