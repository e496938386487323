use Rattle.std.proofs.Common.{sym}
use Rattle.codec_payload_references.proofs.NoteLemmas.{inserted_kept}
use Rattle.codec_payload_references.proofs.notes.FrameNotes.insert.Goals as goal

pub invariant_of-self : goal.invariant_of-self
invariant_of-self c =
    inserted_kept c.self.inside.most (record { number = c.args.number; note = c.args.note }) c.self.inside.held.items c.put.new.held.items c.self.invariant.0 (sym c.if-not-is_at.ensures) c.put.ensures.items
