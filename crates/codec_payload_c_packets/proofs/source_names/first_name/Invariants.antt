use Rattle.std.proofs.Common.{◌≡◌}
use Rattle.codec_payload_rtcp.specs.RtcpReading.{packets_left}
use Rattle.codec_payload_c_packets.specs.SourceNames.{first_name}
use Rattle.codec_payload_c_packets.proofs.source_names.first_name.Given as goal

abbrev pub invariant-loop-packet : goal.invariant-loop-packet
invariant-loop-packet l = first_name l.ssrc (packets_left l.packet-iterator) ≡ first_name l.ssrc (packets_left l.fn.packets)
