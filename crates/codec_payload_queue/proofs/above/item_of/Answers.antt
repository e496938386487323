use Rattle.std.proofs.Common.{◌≡◌, ◌<◌, ◌+◌, ◌*◌, ◌/◌, ◌%◌, ◌∙◌, ap, sym, length, get_or, arith}
use Rattle.codec_payload_queue.specs.Tiers.{in_tiers}
use Rattle.codec_payload_queue.proofs.TierLemmas.{length_most, slot_at, item_in_tier}
use Rattle.codec_payload_queue.proofs.above.item_of.Goals as goal

pub index-requires : goal.index-requires
index-requires g c = omega (arith, length_most 1 c.args.tiers.now.items c.requires.tiers, c.requires.place, c.args.tiers.now.ok.0)

pub index-requires-2 : goal.index-requires-2
index-requires-2 g c =
    let ts = c.args.tiers.now.items in
    let l : c.args.place / 1024 < length ts = omega (arith, length_most 1 ts c.requires.tiers, c.requires.place) in
    slot_at 1 (c.args.place / 1024) (c.args.place % 1024) c.index.result.now ts c.requires.tiers l c.index.ensures (omega arith) (omega (arith, c.requires.place))

pub returns : goal.returns
returns g c =
    let ts = c.args.tiers.now.items in
    let k = c.args.place / 1024 in
    let i = c.args.place % 1024 in
    let d = c.index-2.result.now in
    let l : k < length ts = omega (arith, length_most 1 ts c.requires.tiers, c.requires.place) in
    let w = slot_at 1 k i c.index.result.now ts c.requires.tiers l c.index.ensures (omega arith) (omega (arith, c.requires.place)) in
    c.index-2.ensures
    ∙ sym (item_in_tier 1 k i c.index.result.now ts d c.requires.tiers l c.index.ensures w)
    ∙ ap (λ j. get_or (in_tiers ts) j d) (let e : 1024 * k + i ≡ c.args.place = omega arith in e)
