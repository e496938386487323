use Rattle.std.proofs.Common.{sym, subst}
use Rattle.codec_payload_jitter.specs.NoMediaNumbers.{Rises}
use Rattle.codec_payload_jitter.proofs.NoMediaLemmas.{noted_rises}
use Rattle.codec_payload_jitter.proofs.no_media_numbers.NoMediaNumbers.note.Goals as goal

pub invariant_of-self : goal.invariant_of-self
invariant_of-self c = subst Rises (sym c.note_in_room.ensures) (noted_rises c.args.number c.self.inside.numbers.items c.self.invariant)
