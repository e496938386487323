use Rattle.std.proofs.Common.{◌≡◌, ◌<◌, ◌-◌, ◌∙◌, ℕ, sym, ap, arith}
use Rattle.std.specs.Global.{Vec}
use Rattle.codec_payload_sending_fec.proofs.FrameLemmas.{items_of, place_back, place_none, place_stop}
use Rattle.codec_payload_sending_fec.proofs.held_frame.place_in.Goals as goal

pub returns-then-not-is_before-clause-value : goal.returns-then-not-is_before-clause-value
returns-then-not-is_before-clause-value c =
    place_stop c.args.number c.loop-place.place c.number_of.result c.deref.result.now c.args.frame.now c.index-frame-place.result (omega (arith, c.loop-place-test.true)) c.loop-place.invariant.1
    (c.deref.ensures.value ∙ ap (λ (v : Vec ℕ). v.items) c.index-frame-place.is) c.number_of.ensures c.if-not-is_before.ensures
    ∙ c.loop-place.invariant.0

pub loop-place-preserved : goal.loop-place-preserved
loop-place-preserved c = (
  place_back c.args.number c.loop-place.place c.number_of.result c.deref.result.now c.args.frame.now c.index-frame-place.result (omega (arith, c.loop-place-test.true)) c.loop-place.invariant.1
      (c.deref.ensures.value ∙ ap (λ (v : Vec ℕ). v.items) c.index-frame-place.is) c.number_of.ensures c.if-not-is_before.ensures
      ∙ c.loop-place.invariant.0,
  omega (arith, c.loop-place.invariant.1),
)

pub returns-clause-value : goal.returns-clause-value
returns-clause-value c = place_none c.args.number c.loop-place.place (items_of c.args.frame.now) (omega (arith, c.loop-place-test.false)) ∙ c.loop-place.invariant.0
