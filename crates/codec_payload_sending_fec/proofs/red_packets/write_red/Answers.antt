use Rattle.std.proofs.Common.{false}
use Rattle.codec_payload_rtp.specs.RtpPackets.{header_bytes}
use Rattle.codec_payload_rtp.specs.RtpValues.{header_of}
use Rattle.codec_payload_sending_fec.proofs.RedLemmas.{on_ok_if, red_is}
use Rattle.codec_payload_sending_fec.proofs.red_packets.write_red.Goals as goal

pub returns : goal.returns
returns c =
    red_is c.extend_from_slice.result c.args.out.now.items c.write.new.out.items c.push.new.self.items c.extend_from_slice.new.self.items (header_bytes false (header_of c.args.header.now)) c.args.kind c.args.contents.now
    c.in_ok-write.ensures.written c.in_ok-push.ensures.items (on_ok_if c.extend_from_slice.result c.extend_from_slice.new.self.items _ _ c.extend_from_slice.ensures.items)
