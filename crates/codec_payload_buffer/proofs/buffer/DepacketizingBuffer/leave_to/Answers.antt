use Rattle.std.proofs.Common.{◌≡◌, ◌∙◌, ap, sym, refl, arith, List, map, drop, Some}
use Rattle.std.proofs.lemmas.List.{length-map, drop-map}
use Rattle.codec_payload_buffer.specs.Buffer.{state_of}
use Rattle.codec_payload_buffer.specs.Frames.{frames}
use Rattle.codec_payload_buffer.specs.Held.{Held, held_of, above}
use Rattle.codec_payload_buffer.specs.Scan.{end_of}
use Rattle.codec_payload_buffer.specs.Steps.{State, due_of, metas_of}
use Rattle.std.specs.Prelude.{slice_range}
use Rattle.codec_payload_buffer.proofs.RowEnds.{left_told}
use Rattle.codec_payload_buffer.proofs.IndexLemmas.{left_index}
use Rattle.codec_payload_buffer.proofs.PopLemmas.{due_is_first, sound_left}
use Rattle.codec_payload_buffer.proofs.RangeLemmas.{end_within, drop_above, slice-map}
use Rattle.codec_payload_buffer.proofs.buffer.DepacketizingBuffer.leave_to.Goals as goal

pub move_frame-requires-clause-within : goal.move_frame-requires-clause-within
move_frame-requires-clause-within g c =
    let items = c.self.inside.packets.items in
    let count : c.args.to ≡ end_of c.args.frame.last (map held_of items) = c.requires.end ∙ ap (λ (s : State). end_of c.args.frame.last s.held) (sym c.self.view_is) in
    omega (arith, count, end_within c.args.frame.last (map held_of items), length-map items held_of)

pub invariant_of-self : goal.invariant_of-self
invariant_of-self g c =
    let s = state_of c.self.inside in
    let last = c.args.frame.last in
    let due : due_of s ≡ Some c.args.frame = ap due_of c.self.view_is ∙ c.requires.due in
    let left : map held_of c.give_back.new.self.items ≡ above last s.held =
    ap (map held_of) (c.give_back.ensures ∙ c.move_frame.ensures.packets) ∙ sym (drop-map held_of c.args.to c.self.inside.packets.items)
    ∙ ap (λ k. drop k s.held) (c.requires.end ∙ ap (λ (t : State). end_of last t.held) (sym c.self.view_is)) ∙ drop_above last s.held c.self.invariant.sound.rises in
    let count : c.args.to ≡ end_of last s.held = c.requires.end ∙ ap (λ (t : State). end_of last t.held) (sym c.self.view_is) in
    let drops : c.give_back.new.self.items ≡ drop (end_of last s.held) c.self.inside.packets.items = c.give_back.ensures ∙ c.move_frame.ensures.packets ∙ ap (λ k. drop k c.self.inside.packets.items) count in
    let first = due_is_first s c.args.frame due in
    record {
      sound = sound_left s _ last c.self.invariant.sound left refl refl;
      least = c.self.invariant.least;
      most = c.self.invariant.most;
      told = left_told c.self.inside.packets.items c.give_back.new.self.items c.args.frame c.self.invariant.sound.rises c.self.invariant.told first drops left;
      frames_are = c.drop_first.ensures ∙ ap (drop 1) c.self.invariant.frames_are ∙ (left_index s.held c.args.frame c.self.invariant.sound.rises first).1 ∙ ap frames (sym left);
    }

pub returns-clause-left : goal.returns-clause-left
returns-clause-left g c =
    let s = state_of c.self.inside in
    let last = c.args.frame.last in
    let left : map held_of c.give_back.new.self.items ≡ above last s.held =
    ap (map held_of) (c.give_back.ensures ∙ c.move_frame.ensures.packets) ∙ sym (drop-map held_of c.args.to c.self.inside.packets.items)
    ∙ ap (λ k. drop k s.held) (c.requires.end ∙ ap (λ (t : State). end_of last t.held) (sym c.self.view_is)) ∙ drop_above last s.held c.self.invariant.sound.rises in
    ap (λ (hs : List Held). record s { held = hs; cutoff = Some last }) left ∙ ap (λ (t : State). record t { held = above last t.held; cutoff = Some last }) c.self.view_is

pub returns-clause-metas : goal.returns-clause-metas
returns-clause-metas g c =
    c.move_frame.ensures.metas ∙ ap metas_of (sym (slice-map c.self.inside.packets.items c.args.from c.args.to) ∙ ap (λ (t : State). slice_range t.held c.args.from c.args.to) c.self.view_is)
