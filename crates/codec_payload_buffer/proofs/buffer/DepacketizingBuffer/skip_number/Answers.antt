use Rattle.std.proofs.Common.{◌≡◌, ◌∙◌, ap, sym, true, false}
use Rattle.codec_payload_buffer.specs.Buffer.{state_of}
use Rattle.codec_payload_buffer.specs.Held.{has_number}
use Rattle.codec_payload_buffer.specs.Steps.{State}
use Rattle.codec_payload_buffer.specs.Blanks.{is_right_after}
use Rattle.codec_payload_buffer.proofs.BlankLemmas.{sound_passed}
use Rattle.codec_payload_buffer.proofs.buffer.DepacketizingBuffer.skip_number.Goals as goal

pub invariant_of-self : goal.invariant_of-self
invariant_of-self g c =
    let s = state_of c.self.inside in
    let n = c.args.number.0 in
    let next : is_right_after s.cutoff n ≡ true = sym c.is_right_after.ensures ∙ c.if-is_right_after.true in
    let fresh : has_number n s.held ≡ false = ap (λ (t : State). has_number n t.held) c.self.view_is ∙ sym c.holds.ensures ∙ c.if-not-holds.true in
    record {
      sound = sound_passed s n c.self.invariant.sound next fresh;
      least = c.self.invariant.least;
      most = c.self.invariant.most;
      told = c.self.invariant.told;
      frames_are = c.self.invariant.frames_are;
    }
