use Rattle.std.proofs.Common.{option_map, ◌≡◌, ◌<◌, ◌≤◌, ◌++◌, ◌∙◌, List, ap, sym, length, arith, slice_set}
use Rattle.std.proofs.lemmas.List.{get_or_append_left, get_or-append_right, set-append_left, set-append_right}
use Rattle.codec_payload_queue.specs.Tiers.{IsNotedAt, in_tiers, tiers_of}
use Rattle.codec_payload_queue.proofs.tiers.TieredQueue.note.Goals.{After-note_above, After-note}
use Rattle.codec_payload_queue.proofs.tiers.TieredQueue.note.Goals as goal

pub returns-then-place-len-clause-items : goal.returns-then-place-len-clause-items
returns-then-place-len-clause-items g c =
    let xs = c.self.inside.first.items in
    let ys = in_tiers (tiers_of (option_map (λ b. b.value) c.self.inside.above)) in
    let l : c.args.place < length xs = omega (arith, c.if-place-len.true, c.len.ensures, c.self.inside.first.ok.0) in
    let noted : IsNotedAt g.T.Noted.is_noted c.args.place c.args.note (xs ++ ys) (slice_set xs c.args.place c.note.new.self ++ ys) = record {
      old = c.index_mut.result.now;
      new = c.note.new.self;
      there = c.index_mut.ensures.value ∙ sym (get_or_append_left xs ys c.index_mut.result.now c.args.place l);
      noted = c.note.ensures;
      others = sym (set-append_left xs ys c.args.place c.note.new.self l);
    } in
    rw (← c.self.view_is) noted

pub returns-else-place-len-clause-items : goal.returns-else-place-len-clause-items
returns-else-place-len-clause-items g c =
    let xs = c.self.inside.first.items in
    let ys = in_tiers (tiers_of (option_map (λ b. b.value) c.self.inside.above)) in
    let zs = in_tiers (tiers_of (option_map (λ b. b.value) c.note_above.new.above)) in
    let k = c.len-else-place-len.result in
    let is = c.note_above.ensures.items in
    let long : length xs ≡ k = omega (arith, c.len-else-place-len.ensures, c.self.inside.first.ok.0) in
    let le : k ≤ c.args.place = omega (arith, c.if-place-len.false, c.len.ensures, c.len-else-place-len.ensures) in
    let noted : IsNotedAt g.T.Noted.is_noted c.args.place c.args.note (xs ++ ys) (xs ++ zs) = record {
      old = is.old;
      new = is.new;
      there = is.there ∙ sym (get_or-append_right xs ys k c.args.place is.old long le);
      noted = is.noted;
      others = ap (λ (ws : List _). xs ++ ws) is.others ∙ sym (set-append_right xs ys k c.args.place is.new long le);
    } in
    rw (← c.self.view_is) noted
