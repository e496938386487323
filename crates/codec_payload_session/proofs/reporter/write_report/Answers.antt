use Rattle.std.proofs.Common.{◌≡◌, [], rules}
use Rattle.codec_payload_session.specs.Reporting.{extended_part}
use Rattle.codec_payload_session.proofs.PacketLemmas.{is_report}
use Rattle.codec_payload_session.proofs.reporter.write_report.Goals as goal

pub returns : goal.returns
returns c =
    let none : c.new-packet.result.items ≡ [] = search rules in
    is_report c.args.feedback.now (extended_part c.args.feedback.now c.args.time c.args.exchange.now) c.args.blocks.now
    c.new-packet.result.items c.write_groups.new.out.items c.write_name.new.out.items c.write_extended.new.out.items
    c.written_packets_are_read.ensures.compound none c.in_ok-write_groups.ensures c.in_ok-write_name.ensures.packets c.in_ok-write_extended.ensures.packets c.requires.few c.in_ok-write_name.ensures.length
    c.in_ok-write_extended.ensures.length
