use Rattle.std.proofs.Common.{ℕ, ◌∙◌, ap, arith}
use Rattle.std.specs.Global.{Vec}
use Rattle.codec_payload_sending_fec.proofs.FrameLemmas.{slices_more}
use Rattle.codec_payload_sending_fec.proofs.held_frame.slices.Goals as goal

pub loop-place-preserved : goal.loop-place-preserved
loop-place-preserved c =
    slices_more c.loop-place.slices.items c.push.new.self.items c.as_slice.result c.loop-place.place c.args.frame.now c.index-frame-place.result (omega (arith, c.loop-place-test.true)) c.loop-place.invariant c.in_ok-push.ensures.items
    (c.as_slice.ensures.value ∙ ap (λ (v : Vec ℕ). v.items) c.index-frame-place.is)
