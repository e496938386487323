use Rattle.std.proofs.Common.{◌-◌, arith}
use Rattle.codec_payload_rtp.proofs.RtpWriting.{zeros_written}
use Rattle.codec_payload_rtp.proofs.rtp.write_padding.Goals as goal

pub returns-clause-written : goal.returns-clause-written
returns-clause-written c =
    zeros_written c.args.padding (c.from.result - 1) c.args.out.now.items c.extend_from_slice.new.self.items c.push.new.self.items
    (omega (arith, c.if-padding-eq0.false)) (omega (arith, c.ranges.padding)) (omega (arith, c.from.ensures)) c.in_ok-extend_from_slice.ensures.items c.in_ok-push.ensures.items
