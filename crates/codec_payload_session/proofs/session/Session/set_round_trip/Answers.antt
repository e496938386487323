use Rattle.std.proofs.Common.{subst, sym}
use Rattle.codec_payload_session.specs.Arrivals.{Port}
use Rattle.codec_payload_session.specs.Ports.{IsPort}
use Rattle.codec_payload_session.proofs.AccountLemmas.{trips_keep}
use Rattle.codec_payload_session.proofs.session.Session.set_round_trip.Goals as goal

pub invariant_of-self : goal.invariant_of-self
invariant_of-self c =
    record {
      usable = c.self.invariant.usable;
      port = subst (λ (p : Port). IsPort c.self.inside.settings p c.self.inside.counts) (sym c.set_round_trip.ensures)
          (trips_keep c.self.inside.settings c.self.inside.counts c.args.ssrc c.args.payload_type c.args.round_trip c.self.inside.streams c.self.invariant.port);
      few = c.self.invariant.few;
    }
