use Rattle.std.proofs.Common.{refl, subst}
use Rattle.codec_payload_session.specs.Polls.{SendsTransport}
use Rattle.codec_payload_session.specs.Ports.{Session}
use Rattle.codec_payload_session.proofs.session.Session.send_transport.Goals as goal

pub returns : goal.returns
returns c =
    let t : Session = record { settings = c.self.inside.settings; port = c.self.inside.streams; counts = c.self.inside.counts; telephone = c.self.inside.telephone; report_due = c.self.inside.report_due; transport = c.transport_due-packet.new.transport } in
    subst (λ (s : Session). SendsTransport c.args.now.0 s c.transport_event.result t) c.self.view_is
    (record {
      packet = c.transport_due-packet.result;
      transport = c.transport_due-packet.new.transport;
      sends = c.transport_due-packet.ensures;
      answers = c.transport_event.ensures;
      left = refl;
    })
