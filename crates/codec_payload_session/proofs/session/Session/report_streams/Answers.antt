use Rattle.std.proofs.Common.{refl, subst}
use Rattle.codec_payload_session.specs.Polls.{SendsReport}
use Rattle.codec_payload_session.specs.Ports.{Session}
use Rattle.codec_payload_session.proofs.ReportingLemmas.{report_keeps}
use Rattle.codec_payload_session.proofs.session.Session.report_streams.Goals as goal

pub invariant_of-self : goal.invariant_of-self
invariant_of-self c = record {
  usable = c.self.invariant.usable;
  port = report_keeps c.self.inside.settings.feedback c.self.inside.settings c.self.inside.counts c.self.inside.settings.tick_rate c.args.now.0 c.self.inside.report_due c.self.inside.streams
      c.report_due-packet.result c.report_due-packet.new.due c.report_due-packet.new.self c.report_due-packet.ensures c.self.invariant.port;
  few = c.self.invariant.few;
}

pub returns : goal.returns
returns c =
    let t : Session = record { settings = c.self.inside.settings; port = c.report_due-packet.new.self; counts = c.self.inside.counts; telephone = c.self.inside.telephone; report_due = c.report_due-packet.new.due; transport = c.self.inside.transport } in
    subst (λ (s : Session). SendsReport c.args.now.0 s c.report_event.result t) c.self.view_is
    (record {
      packet = c.report_due-packet.result;
      due = c.report_due-packet.new.due;
      port = c.report_due-packet.new.self;
      reports = c.report_due-packet.ensures;
      answers = c.report_event.ensures;
      left = refl;
    })
