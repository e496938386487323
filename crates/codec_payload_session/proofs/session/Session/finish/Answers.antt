use Rattle.std.proofs.Common.{subst, sym, true}
use Rattle.codec_payload_session.specs.Arrivals.{Port}
use Rattle.codec_payload_session.specs.Ports.{IsPort, everyone}
use Rattle.codec_payload_session_stream.specs.declared.stream.Ending.TheVariants as endings
use Rattle.codec_payload_session.proofs.AccountLemmas.{left_keeps}
use Rattle.codec_payload_session.proofs.session.Session.finish.Goals as goal

pub invariant_of-self : goal.invariant_of-self
invariant_of-self c =
    record {
      usable = c.self.invariant.usable;
      port = subst (λ (p : Port). IsPort c.self.inside.settings p c.self.inside.counts) (sym c.finish.ensures)
          (left_keeps c.self.inside.settings c.self.inside.counts everyone endings.ByCall c.args.now.0 true c.self.inside.streams c.self.invariant.port);
      few = c.self.invariant.few;
    }
