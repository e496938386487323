use Rattle.std.proofs.Common.{◌≡◌, ◌<◌, ◌+◌, ◌*◌, ◌/◌, ◌%◌, ◌∙◌, ap, length, arith, slice_set, add-one}
use Rattle.std.specs.List.{insert}
use Rattle.codec_payload_queue.specs.Tiers.{in_tiers, with_carried}
use Rattle.std.proofs.lemmas.List.{length-set}
use Rattle.codec_payload_queue.proofs.TierLemmas.{tier_at, length_by_last, slot_up_to, insert_in_tier, carry_from_tier, tiers_after, size_after, last_after}
use Rattle.codec_payload_queue.proofs.above.put_above.Goals as goal

pub put_at-requires-clause-place : goal.put_at-requires-clause-place
put_at-requires-clause-place g c =
    let ts = c.args.tiers.now.items in
    let l : c.args.place / 1024 < length ts = omega (arith, c.requires.place, c.requires.room) in
    slot_up_to 0 (c.args.place / 1024) (c.args.place % 1024) c.index_mut.result.now ts c.requires.tiers l c.index_mut.ensures.value (omega arith) (omega (arith, c.requires.place))

pub put_at-requires-clause-room : goal.put_at-requires-clause-room
put_at-requires-clause-room g c =
    let ts = c.args.tiers.now.items in
    let k = c.args.place / 1024 in
    let last : k + 1 ≡ length ts = omega (arith, c.if-tier-len.true, c.len.ensures, c.args.tiers.now.ok.0) in
    let size = length_by_last 0 k c.index_mut.result.now ts c.requires.tiers last c.index_mut.ensures.value in
    let wide = (tier_at 0 k c.index_mut.result.now ts c.requires.tiers (omega arith) c.index_mut.ensures.value).memory in
    omega (arith, size, wide, last, c.requires.room)

pub put_in-carried-requires : goal.put_in-carried-requires
put_in-carried-requires g c =
    let ts = c.args.tiers.now.items in
    let k = c.args.place / 1024 in
    let l : k < length ts = omega (arith, c.requires.place, c.requires.room) in
    let more : k + 1 < length ts = omega (arith, l, c.if-tier-len.false, c.len.ensures, c.args.tiers.now.ok.0) in
    let full = (tier_at 0 k c.index_mut-else-tier-len.result.now ts c.requires.tiers l c.index_mut-else-tier-len.ensures.value).full more in
    record { place = omega (arith, full) }

pub carry-requires-clause-tiers : goal.carry-requires-clause-tiers
carry-requires-clause-tiers g c =
    let ts = c.args.tiers.now.items in
    let l : c.args.place / 1024 < length ts = omega (arith, c.requires.place, c.requires.room) in
    tiers_after 0 (c.args.place / 1024) c.index_mut-else-tier-len.result.now c.put_in-carried.new.tier ts c.requires.tiers l c.index_mut-else-tier-len.ensures.value c.put_in-carried.ensures.len c.put_in-carried.ensures.capacity

pub carry-requires-clause-room : goal.carry-requires-clause-room
carry-requires-clause-room g c =
    let ts = c.args.tiers.now.items in
    let k = c.args.place / 1024 in
    let l : k < length ts = omega (arith, c.requires.place, c.requires.room) in
    let size = size_after k c.index_mut-else-tier-len.result.now c.put_in-carried.new.tier ts l c.index_mut-else-tier-len.ensures.value c.put_in-carried.ensures.len in
    omega (arith, size, length-set ts k c.put_in-carried.new.tier, c.requires.room)

pub returns-then-tier-len-clause-tiers : goal.returns-then-tier-len-clause-tiers
returns-then-tier-len-clause-tiers g c =
    let ts = c.args.tiers.now.items in
    let k = c.args.place / 1024 in
    let last : k + 1 ≡ length ts = omega (arith, c.if-tier-len.true, c.len.ensures, c.args.tiers.now.ok.0) in
    let size = length_by_last 0 k c.index_mut.result.now ts c.requires.tiers last c.index_mut.ensures.value in
    let wide = (tier_at 0 k c.index_mut.result.now ts c.requires.tiers (omega arith) c.index_mut.ensures.value).memory in
    last_after k c.put_at.new.items ts c.requires.tiers last (omega (arith, wide, c.put_at.ensures.capacity)) (omega (arith, c.put_at.ensures.len)) (omega (arith, size, last, c.requires.room, c.put_at.ensures.len))

pub returns-then-tier-len-clause-items : goal.returns-then-tier-len-clause-items
returns-then-tier-len-clause-items g c =
    let ts = c.args.tiers.now.items in
    let k = c.args.place / 1024 in
    let i = c.args.place % 1024 in
    let t = c.index_mut.result.now in
    let l : k < length ts = omega (arith, c.requires.place, c.requires.room) in
    let w = slot_up_to 0 k i t ts c.requires.tiers l c.index_mut.ensures.value (omega arith) (omega (arith, c.requires.place)) in
    let place : 1024 * k + i ≡ c.args.place = omega arith in
    insert_in_tier 0 k i t c.put_at.new.items ts c.args.item c.requires.tiers l c.index_mut.ensures.value w c.put_at.ensures.items ∙ ap (λ j. insert (in_tiers ts) j c.args.item) place

pub returns-else-tier-len-clause-items : goal.returns-else-tier-len-clause-items
returns-else-tier-len-clause-items g c =
    let ts = c.args.tiers.now.items in
    let k = c.args.place / 1024 in
    let i = c.args.place % 1024 in
    let t = c.index_mut-else-tier-len.result.now in
    let u = c.put_in-carried.new.tier in
    let x = c.put_in-carried.result in
    let l : k < length ts = omega (arith, c.requires.place, c.requires.room) in
    let w = slot_up_to 0 k i t ts c.requires.tiers l c.index_mut-else-tier-len.ensures.value (omega arith) (omega (arith, c.requires.place)) in
    let place : 1024 * k + i ≡ c.args.place = omega arith in
    c.carry.ensures.items
    ∙ ap (λ j. with_carried j x (slice_set ts k u)) (add-one k)
    ∙ carry_from_tier 0 k i t u ts c.args.item x c.requires.tiers l c.index_mut-else-tier-len.ensures.value w c.put_in-carried.ensures.items
    ∙ ap (λ j. insert (in_tiers ts) j c.args.item) place
