use Rattle.std.proofs.Common.{◌≡◌, ◌++◌, ◌+◌, ◌/◌, length, arith, rules}
use Rattle.codec_payload_rtcp.specs.RtcpWriting.{feedback_head}
use Rattle.codec_payload_feedback_congestion.proofs.PacketLemmas.{packet_written}
use Rattle.codec_payload_feedback_congestion.proofs.packet.write_packet.Goals as goal

pub returns : goal.returns
returns c =
    let first : c.extend_from_slice.new.self.items ≡ c.args.out.now.items ++ c.packet_head.result = search rules in
    packet_written c.args.out.now.items c.extend_from_slice.new.self.items c.extend_from_slice-2.new.self.items c.packet_head.result c.args.fci.now c.args.packet_type c.args.sender_ssrc c.args.media_ssrc (2 + length c.args.fci.now / 4)
    c.requires.kind c.requires.whole c.requires.short (omega arith) c.packet_head.ensures first (search rules)
