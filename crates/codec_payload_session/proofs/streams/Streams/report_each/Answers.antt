use Rattle.std.proofs.Common.{◌≡◌, rules, true}
use Rattle.codec_payload_session.specs.Reporting.{is_report_due}
use Rattle.codec_payload_session.proofs.ReporterLemmas.{sends}
use Rattle.codec_payload_session.proofs.streams.Streams.report_each.Goals as goal

pub returns : goal.returns
returns c =
    let time : is_report_due c.args.now.0 c.args.due.now c.args.self.now ≡ true = search rules in
    sends c.args.feedback.now c.args.feedback.now.report_interval c.in-Some.interval c.args.tick_rate c.args.now.0 c.args.due.now c.args.self.now c.report_all-packet.result c.due_after.result c.report_all-packet.new.self
    c.in-Some.is time c.report_all-packet.ensures.ok c.report_all-packet.ensures.after c.report_all-packet.ensures.err c.due_after.ensures
