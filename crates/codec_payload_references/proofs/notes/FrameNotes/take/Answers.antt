use Rattle.std.proofs.Common.{◌∙◌, ap, arith, false, None, refl, subst, List}
use Rattle.codec_payload_keyframes.specs.declared.references.UnitReferences.{UnitReferences}
use Rattle.codec_payload_references.specs.Notes.{IsTaken, Notes, from, up_to}
use Rattle.codec_payload_references.specs.Units.{Collects}
use Rattle.codec_payload_references.specs.declared.notes.HeldNote.{HeldNote}
use Rattle.codec_payload_references.proofs.NoteLemmas.{above_kept}
use Rattle.codec_payload_references.proofs.UnitLemmas.{collected, descriptor_is}
use Rattle.codec_payload_references.proofs.notes.FrameNotes.take.Goals as goal

pub invariant_of-self : goal.invariant_of-self
invariant_of-self c =
    above_kept c.self.inside.most c.args.last c.self.inside.held.items c.collect.new.held.items c.self.invariant.0 c.self.invariant.1 (c.collect.ensures.rest ∙ c.skip.ensures.rest)

pub returns : goal.returns
returns c =
    let of_unit = subst (λ (hs : List HeldNote). Collects (record { frames = None; is_unread = false; differences = None }) c.skip.new.reader hs c.collect.result c.collect.new.reader) c.skip.ensures.unit c.collect.ensures.collects in
    let it = collected _ c.skip.new.reader (from c.args.first (up_to c.args.last c.self.inside.held.items)) c.collect.result c.collect.new.reader of_unit in
    let after : Notes = record { held = c.collect.new.held.items; room = c.collect.new.held.room; most = c.self.inside.most; following = c.collect.new.reader; suspect = c.self.inside.suspect } in
    subst (λ (before : Notes). IsTaken before c.args.first c.args.last c.references.result after) c.self.view_is (record {
      between = c.skip.new.reader;
      skipped = c.skip.ensures.skips.0;
      readings = it.readings;
      reads_skipped = c.skip.ensures.skips.1;
      reads_unit = it.reads;
      descriptor = ap (λ (r : UnitReferences). r.descriptor) c.references.ensures ∙ descriptor_is c.collect.result it.readings it.frames it.unread;
      differences = ap (λ (r : UnitReferences). r.differences) c.references.ensures ∙ it.differences;
      rest = c.collect.ensures.rest ∙ c.skip.ensures.rest;
      room = omega (arith, c.skip.ensures.room, c.collect.ensures.room);
      most = refl;
      suspect = refl;
    })
