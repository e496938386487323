use Rattle.std.proofs.Common.{sym, subst}
use Rattle.codec_payload_jitter.specs.NoMediaNumbers.{Rises}
use Rattle.codec_payload_jitter.proofs.NoMediaLemmas.{left_rises}
use Rattle.codec_payload_jitter.proofs.no_media_numbers.NoMediaNumbers.pass.Goals as goal

pub invariant_of-self : goal.invariant_of-self
invariant_of-self g c = subst Rises (sym c.pass_no_media_numbers.ensures.no_media_numbers) (left_rises c.args.buffer.now c.self.inside.numbers.items c.self.invariant)
