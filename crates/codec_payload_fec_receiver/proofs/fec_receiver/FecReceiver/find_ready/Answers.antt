use Rattle.std.proofs.Common.{◌≡◌, ◌-◌, ℕ, None, ◌∙◌, sym, ap, rules, arith}
use Rattle.codec_payload_fec_receiver.specs.States.{tried}
use Rattle.codec_payload_fec_receiver.specs.declared.fec_receiver.Verdict.TheVariants as verdicts
use Rattle.codec_payload_fec_receiver.proofs.HeldLemmas.{tried_as, tried_none, tried_nothing}
use Rattle.codec_payload_fec_receiver.proofs.fec_receiver.FecReceiver.find_ready.Goals as goal

pub returns-in_err-place-clause-value : goal.returns-in_err-place-clause-value
returns-in_err-place-clause-value c =
    let none : record { ready = c.from_residual.result; state = c.loop-left.self } ≡ record { ready = None; state = c.loop-left.self } = search rules in
    none ∙ tried_nothing c.loop-left.left c.loop-left.self c.loop-left-test.true (sym c.in_err-place.ensures.value) ∙ c.loop-left.invariant

pub returns-in-Ready-clause-value : goal.returns-in-Ready-clause-value
returns-in-Ready-clause-value c =
    tried_as c.loop-left.left c.loop-left.self c.in_ok-place.place verdicts.Ready c.loop-left-test.true (sym c.in_ok-place.ensures.value) (sym c.in-Ready.ensures) ∙ c.loop-left.invariant

pub loop-left-preserved-in-Waits : goal.loop-left-preserved-in-Waits
loop-left-preserved-in-Waits c =
    ap (tried (c.loop-left.left - 1)) c.wait_at.ensures ∙ tried_as c.loop-left.left c.loop-left.self c.in_ok-place.place verdicts.Waits c.loop-left-test.true (sym c.in_ok-place.ensures.value) (sym c.in-Waits.ensures) ∙ c.loop-left.invariant

pub loop-left-preserved : goal.loop-left-preserved
loop-left-preserved c =
    ap (tried (c.loop-left.left - 1)) c.drop_at.ensures ∙ tried_as c.loop-left.left c.loop-left.self c.in_ok-place.place verdicts.Useless c.loop-left-test.true (sym c.in_ok-place.ensures.value) (sym c.in-Useless.ensures) ∙ c.loop-left.invariant

pub returns-clause-value : goal.returns-clause-value
returns-clause-value c =
    let none : 0 ≡ c.loop-left.left = omega arith in
    tried_none c.loop-left.self ∙ ap (λ (n : ℕ). tried n c.loop-left.self) none ∙ c.loop-left.invariant
