use Rattle.std.proofs.Common.{arith, ap, sym, ◌∙◌, ◌≡◌, ◌<◌, ◌-◌, ◌∷◌, take, drop, length}
use Rattle.std.proofs.lemmas.List.{take_rest}
use Rattle.codec_payload_base.specs.TelephoneReport.{reports_of}
use Rattle.codec_payload_base.proofs.TelephoneLemmas.{reports_of-more}
use Rattle.codec_payload_base.proofs.interface.report.TelephoneEventsIterator.next.Goals as goal

pub returns-clause-steps : goal.returns-clause-steps
returns-clause-steps c =
    let bytes = c.self.inside.bytes.now in
    let rate = c.self.inside.rate in
    sym c.self.view_is
    ∙ reports_of-more bytes rate c.in_ok-event.event (sym c.in_ok-event.ensures.value)
    ∙ ap (λ t. c.in_ok-event.event ∷ reports_of t rate) (sym (take_rest bytes 4))

pub returns-clause-goes : goal.returns-clause-goes
returns-clause-goes c =
    let bytes = c.self.inside.bytes.now in
    let rate = c.self.inside.rate in
    let steps : c.args.self.now ≡ c.in_ok-event.event ∷ reports_of (take (length bytes - 4) (drop 4 bytes)) rate =
    sym c.self.view_is
    ∙ reports_of-more bytes rate c.in_ok-event.event (sym c.in_ok-event.ensures.value)
    ∙ ap (λ t. c.in_ok-event.event ∷ reports_of t rate) (sym (take_rest bytes 4)) in
    let fewer : length (reports_of (take (length bytes - 4) (drop 4 bytes)) rate) < length c.args.self.now = omega (arith, ap length steps) in
    record { on = λ _. (tt, tt, fewer); keeps = tt; rests = λ _. tt }
