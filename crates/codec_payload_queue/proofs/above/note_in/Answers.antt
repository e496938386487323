use Rattle.std.proofs.Common.{◌≡◌, ◌<◌, ◌+◌, ◌*◌, ◌/◌, ◌%◌, ◌∙◌, ap, sym, length, get_or, arith, slice_set, refl}
use Rattle.codec_payload_queue.specs.Tiers.{in_tiers}
use Rattle.codec_payload_queue.proofs.TierLemmas.{length_most, slot_at, item_in_tier, set_in_tier, tiers_after}
use Rattle.codec_payload_queue.proofs.above.note_in.Goals as goal

pub index_mut-requires : goal.index_mut-requires
index_mut-requires g c = omega (arith, length_most 1 c.args.tiers.now.items c.requires.tiers, c.requires.place, c.args.tiers.now.ok.0)

pub index_mut-requires-2 : goal.index_mut-requires-2
index_mut-requires-2 g c =
    let ts = c.args.tiers.now.items in
    let l : c.args.place / 1024 < length ts = omega (arith, length_most 1 ts c.requires.tiers, c.requires.place) in
    slot_at 1 (c.args.place / 1024) (c.args.place % 1024) c.index_mut.result.now ts c.requires.tiers l c.index_mut.ensures.value (omega arith) (omega (arith, c.requires.place))

pub returns-clause-tiers : goal.returns-clause-tiers
returns-clause-tiers g c =
    let ts = c.args.tiers.now.items in
    let t = c.index_mut.result.now in
    let l : c.args.place / 1024 < length ts = omega (arith, length_most 1 ts c.requires.tiers, c.requires.place) in
    tiers_after 1 (c.args.place / 1024) t _ ts c.requires.tiers l c.index_mut.ensures.value refl (omega arith)

pub returns-clause-items : goal.returns-clause-items
returns-clause-items g c =
    let ts = c.args.tiers.now.items in
    let k = c.args.place / 1024 in
    let i = c.args.place % 1024 in
    let t = c.index_mut.result.now in
    let l : k < length ts = omega (arith, length_most 1 ts c.requires.tiers, c.requires.place) in
    let w = slot_at 1 k i t ts c.requires.tiers l c.index_mut.ensures.value (omega arith) (omega (arith, c.requires.place)) in
    let place : 1024 * k + i ≡ c.args.place = omega arith in
    record {
      old = c.index_mut-2.result.now;
      new = c.note.new.self;
      there = c.index_mut-2.ensures.value
          ∙ sym (item_in_tier 1 k i t ts c.index_mut-2.result.now c.requires.tiers l c.index_mut.ensures.value w)
          ∙ ap (λ j. get_or (in_tiers ts) j c.index_mut-2.result.now) place;
      noted = c.note.ensures;
      others = set_in_tier 1 k i t _ ts c.note.new.self c.requires.tiers l c.index_mut.ensures.value w refl ∙ ap (λ j. slice_set (in_tiers ts) j c.note.new.self) place;
    }
