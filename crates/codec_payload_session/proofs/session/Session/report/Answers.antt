use Rattle.std.proofs.Common.{◌≡◌, refl, subst}
use Rattle.std.specs.List.{position}
use Rattle.codec_payload_session.specs.Arrivals.{Port}
use Rattle.codec_payload_session.specs.Ports.{ReportsIf, Session}
use Rattle.codec_payload_session_stream.specs.Streams.{is_of}
use Rattle.codec_payload_session.proofs.AccountLemmas.{reports_keep}
use Rattle.codec_payload_session.proofs.session.Session.report.Goals as goal

pub invariant_of-self : goal.invariant_of-self
invariant_of-self c = record {
  usable = c.self.invariant.usable;
  port = reports_keep c.self.inside.settings c.self.inside.counts _ _ _ _ c.self.inside.streams c.report.new.self c.report.ensures.reports c.self.invariant.port;
  few = c.self.invariant.few;
}

pub returns-clause-reports : goal.returns-clause-reports
returns-clause-reports c =
    let t : Session = record { settings = c.self.inside.settings; port = c.report.new.self; counts = c.self.inside.counts; telephone = c.self.inside.telephone; report_due = c.self.inside.report_due; transport = c.self.inside.transport } in
    subst (λ (s : Session). (x : Port) × ReportsIf (position (is_of c.args.ssrc c.args.payload_type) s.port.streams) s.settings.tick_rate c.args.now.0 s.port c.report.result x × (t ≡ record s { port = x })) c.self.view_is
    (c.report.new.self, c.report.ensures.reports, refl)
