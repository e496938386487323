use Rattle.std.proofs.Common.{◌++◌, false, rules}
use Rattle.codec_payload_rtp.specs.RtpPackets.{header_bytes}
use Rattle.codec_payload_rtp.specs.RtpValues.{header_of}
use Rattle.codec_payload_fec_port.proofs.PlainLemmas.{joined}
use Rattle.codec_payload_fec_port.proofs.plain.append_again.Goals as goal

pub returns : goal.returns
returns c =
    joined c.args.out.now.items (header_bytes false (header_of c.args.header.now)) (c.args.number.now ++ c.args.payload.now) c.write.new.out.items c.append_both.new.out.items (search rules) (search rules)
