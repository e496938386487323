use Rattle.std.proofs.Common.{Option, refl, subst, sym, ℕ}
use Rattle.codec_payload_base.specs.declared.wire.Ticks.{Ticks}
use Rattle.codec_payload_session.specs.Accepting.{Accepts, time_for}
use Rattle.codec_payload_c_receiving.proofs.session.take_in.Goals as goal

pub returns-in-Some : goal.returns-in-Some
returns-in-Some c =
    let at : Ticks = record { 0 = c.args.now } in
    let r = c.args.port.now.session in
    record {
      at = at;
      at_is = refl;
      receives =
          subst (λ (micros : Option ℕ). Accepts (time_for micros at r) at c.args.datagram.now r c.receive_at.result c.receive_at.new.self) (sym c.in-Some.is)
          c.receive_at.ensures;
      lent = refl;
      taken = refl;
    }

pub returns-in-None : goal.returns-in-None
returns-in-None c =
    let at : Ticks = record { 0 = c.args.now } in
    let r = c.args.port.now.session in
    record {
      at = at;
      at_is = refl;
      receives =
          subst (λ (micros : Option ℕ). Accepts (time_for micros at r) at c.args.datagram.now r c.receive.result c.receive.new.self) (sym c.in-None.is)
          c.receive.ensures;
      lent = refl;
      taken = refl;
    }
