use Rattle.std.proofs.Common.{◌≡◌, ◌∙◌, ap, sym, subst, length, List}
use Rattle.codec_payload_buffer.specs.Held.{Held}
use Rattle.codec_payload_buffer.specs.Steps.{State}
use Rattle.codec_payload_jitter.specs.Receiving.{IsCounted}
use Rattle.codec_payload_jitter.proofs.ReceivingLemmas.{same_held}
use Rattle.codec_payload_jitter.proofs.KeptStores.{settled_keeps}
use Rattle.codec_payload_jitter.proofs.jitter.JitterBuffer.settle.Goals as goal

pub invariant_of-self : goal.invariant_of-self
invariant_of-self g c =
    let same : c.pass.new.buffer.held ≡ c.self.inside.buffer.held = ap (λ (s : State). s.held) c.pass.ensures.buffer ∙ same_held c.self.inside.buffer c.self.inside.no_media_numbers.items in (
      subst (λ (held : List Held). IsCounted c.self.inside.counters (length held)) (sym same) c.self.invariant.0,
      rw (c.pass.ensures.buffer, c.pass.ensures.numbers) (settled_keeps c.self.inside.kept_missing c.self.inside.buffer c.self.inside.no_media_numbers.items c.self.invariant.1),
    )
