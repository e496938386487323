use Rattle.std.proofs.Common.{subst, sym}
use Rattle.codec_payload_session.specs.Arrivals.{Port}
use Rattle.codec_payload_session.specs.Ports.{IsPort}
use Rattle.codec_payload_session.proofs.AccountLemmas.{waiting_keeps}
use Rattle.codec_payload_session.proofs.session.Session.set_wait_limits.Goals as goal

pub invariant_of-self : goal.invariant_of-self
invariant_of-self c =
    record {
      usable = c.self.invariant.usable;
      port = subst (λ (p : Port). IsPort c.self.inside.settings p c.self.inside.counts) (sym c.set_wait_limits.ensures)
          (waiting_keeps c.self.inside.settings c.self.inside.counts c.args.ssrc c.args.payload_type c.args.wait_limits c.self.inside.streams c.self.invariant.port);
      few = c.self.invariant.few;
    }
