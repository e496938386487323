use Rattle.std.proofs.Common.{◌<◌, sym, subst}
use Rattle.std.specs.Prelude.{IfSome}
use Rattle.codec_payload_edges.specs.Pictures.{Pictures, heard}
use Rattle.codec_payload_edges.specs.declared.pictures.Gaps.{Gaps}
use Rattle.codec_payload_stream_edges.specs.Following.{HearsEdge, NotesGap, NotesLater}
use Rattle.codec_payload_stream_edges.specs.declared.followed.Followed.{Followed}
use Rattle.codec_payload_stream_edges.proofs.GapLemmas.{both_rise}
use Rattle.codec_payload_stream_edges.proofs.followed.Followed.hear.Goals as goal

pub note-first-requires : goal.note-first-requires
note-first-requires g c =
    subst (λ (gaps : Gaps). IfSome gaps.before (λ r. r.after < r.before)) (sym c.hear-gaps.ensures.gaps) (both_rise c.args.number c.args.edge c.go_over_to.new.self.pictures).0

pub note_later-requires : goal.note_later-requires
note_later-requires g c =
    subst (λ (gaps : Gaps). IfSome gaps.after (λ r. r.after < r.before)) (sym c.hear-gaps.ensures.gaps) (both_rise c.args.number c.args.edge c.go_over_to.new.self.pictures).1

pub returns-clause-heard : goal.returns-clause-heard
returns-clause-heard g c =
    let base : Followed = c.go_over_to.new.self in
    let first = c.note-first.result in
    let mid : Followed = c.note-first.new.self in
    let packets = c.note-first.new.receiver.packets in
    let before =
    subst (λ (gaps : Gaps). NotesGap gaps.before (record base { pictures = (heard c.args.number c.args.edge base.pictures).0 }) c.args.receiver.now.packets first mid packets) c.hear-gaps.ensures.gaps
    (subst (λ (p : Pictures). NotesGap c.hear-gaps.result.before (record base { pictures = p }) c.args.receiver.now.packets first mid packets) c.hear-gaps.ensures.state c.note-first.ensures.noted) in
    let after =
    subst (λ (gaps : Gaps). NotesLater gaps.after first mid packets c.note_later.result c.note_later.new.self c.note_later.new.receiver.packets) c.hear-gaps.ensures.gaps c.note_later.ensures.noted in
    let made : HearsEdge c.args.number c.args.edge base c.args.receiver.now.packets c.note_later.result c.note_later.new.self c.note_later.new.receiver.packets =
    record { first = first; mid = mid; packets = packets; before = before; after = after } in
    subst (λ (f : Followed). HearsEdge c.args.number c.args.edge f c.args.receiver.now.packets c.note_later.result c.note_later.new.self c.note_later.new.receiver.packets) c.go_over_to.ensures made
