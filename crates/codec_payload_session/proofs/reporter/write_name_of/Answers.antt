use Rattle.std.proofs.Common.{rules}
use Rattle.codec_payload_feedback.proofs.FeedbackLemmas.{name_described}
use Rattle.codec_payload_session.proofs.PacketLemmas.{name_written}
use Rattle.codec_payload_session.proofs.reporter.write_name_of.Goals as goal

pub returns-clause-length : goal.returns-clause-length
returns-clause-length c =
    name_written c.write_cname.result c.args.ssrc c.args.name.now c.args.out.now.items c.write_cname.new.out.items (search rules) c.write_cname.ensures.exact

pub returns-clause-packets : goal.returns-clause-packets
returns-clause-packets c =
    name_described c.write_cname.result c.args.ssrc c.args.name.now c.args.out.now.items c.write_cname.new.out.items (search rules) c.write_cname.ensures.packet
