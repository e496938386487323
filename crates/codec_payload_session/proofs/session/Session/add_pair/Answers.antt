use Rattle.std.proofs.Common.{OnOk, subst}
use Rattle.codec_payload_session.specs.Pairs.{Pairs}
use Rattle.codec_payload_session_stream.specs.Pairs.{with_pair}
use Rattle.codec_payload_session.specs.Ports.{Session}
use Rattle.codec_payload_session_formats.specs.declared.formats.SsrcPair.{SsrcPair}
use Rattle.codec_payload_session.proofs.AssociationLemmas.{adds_or_stays, named_pair}
use Rattle.codec_payload_session.proofs.CheckLemmas.{paired_usable}
use Rattle.codec_payload_session.proofs.session.Session.add_pair.Goals as goal

pub invariant_of-self : goal.invariant_of-self
invariant_of-self c =
    let pair : SsrcPair = record { ssrc = c.args.ssrc; retransmission = c.args.retransmission } in
    record {
      usable = paired_usable c.add_pair.result pair c.self.inside.settings c.self.inside.streams c.add_pair.new.settings c.add_pair.new.streams c.add_pair.ensures.ok c.add_pair.ensures.settings c.self.invariant.usable;
      port = adds_or_stays c.add_pair.result pair c.self.inside.settings c.self.inside.streams c.add_pair.new.settings c.add_pair.new.streams c.self.inside.counts c.add_pair.ensures.ok
          c.add_pair.ensures.settings c.add_pair.ensures.streams c.self.invariant.port;
      few = c.self.invariant.few;
    }

pub returns-clause-ok : goal.returns-clause-ok
returns-clause-ok c =
    let pair : SsrcPair = record { ssrc = c.args.ssrc; retransmission = c.args.retransmission } in
    let s : Session = record { settings = c.self.inside.settings; port = c.self.inside.streams; counts = c.self.inside.counts; telephone = c.self.inside.telephone; report_due = c.self.inside.report_due; transport = c.self.inside.transport } in
    let t : Session = record s { settings = c.add_pair.new.settings; port = c.add_pair.new.streams } in
    subst (λ (x : Session). OnOk c.add_pair.result (Pairs c.args.ssrc (with_pair pair x.settings.pairs.items) x t)) c.self.view_is
    (named_pair c.add_pair.result pair s c.add_pair.new.settings c.add_pair.new.streams c.add_pair.ensures.ok)
