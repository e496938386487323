use Rattle.std.proofs.Common.{◌≡◌, ◌<◌, ◌+◌, ◌∷◌, ◌∙◌, length, arith, add-one}
use Rattle.std.specs.VecDeque.{deque_len}
use Rattle.codec_payload_queue.proofs.TierLemmas.{tier_at, length_by_last, carried_on, carried_in, tiers_after, size_after, last_after}
use Rattle.codec_payload_queue.proofs.above.carry.Goals as goal

pub shift-carried-requires : goal.shift-carried-requires
shift-carried-requires g c =
    let ts = c.loop-tier.tiers.items in
    let more : c.loop-tier.tier + 1 < length ts = omega (arith, c.loop-tier-test.true, c.len-last.ensures, c.loop-tier.invariant.len, c.loop-tier.tiers.ok.0) in
    let full = (tier_at 0 c.loop-tier.tier c.index_mut.result.now ts c.loop-tier.invariant.tiers (omega arith) c.index_mut.ensures.value).full more in
    omega (arith, full)

pub loop-tier-preserved : goal.loop-tier-preserved
loop-tier-preserved g c =
    let ts = c.loop-tier.tiers.items in
    let k = c.loop-tier.tier in
    let t = c.index_mut.result.now in
    let u = c.shift-carried.new.tier in
    let l : k < length ts = omega (arith, c.loop-tier-test.true, c.len-last.ensures, c.loop-tier.invariant.len, c.loop-tier.tiers.ok.0) in
    let next = carried_on k t u ts c.loop-tier.carried c.shift-carried.result l c.index_mut.ensures.value c.shift-carried.ensures.items in
    record {
      tiers = tiers_after 0 k t u ts c.loop-tier.invariant.tiers l c.index_mut.ensures.value c.shift-carried.ensures.len c.shift-carried.ensures.capacity;
      items = rw add-one (next ∙ c.loop-tier.invariant.items);
      size = size_after k t u ts l c.index_mut.ensures.value c.shift-carried.ensures.len ∙ c.loop-tier.invariant.size;
      len = c.loop-tier.invariant.len;
      capacity = c.loop-tier.invariant.capacity;
      within = omega (arith, c.loop-tier-test.true);
    }

pub unwrap-requires : goal.unwrap-requires
unwrap-requires g c =
    let ts = c.loop-tier.tiers.items in
    let k = c.loop-tier.tier in
    let t = c.index_mut-2.result.now in
    let last : k + 1 ≡ length ts = omega (arith, c.loop-tier-test.false, c.len-last.ensures, c.loop-tier.invariant.len, c.loop-tier.invariant.within, c.loop-tier.tiers.ok.0, c.args.tiers.now.ok.0, c.requires.from) in
    let size = length_by_last 0 k t ts c.loop-tier.invariant.tiers last c.index_mut-2.ensures.value in
    let wide = (tier_at 0 k t ts c.loop-tier.invariant.tiers (omega arith) c.index_mut-2.ensures.value).memory in
    c.push_front.ensures.succeeds (omega (arith, size, wide, last, c.loop-tier.invariant.size, c.requires.room, c.loop-tier.invariant.len, c.loop-tier.tiers.ok.0, c.args.tiers.now.ok.0))

pub returns-clause-tiers : goal.returns-clause-tiers
returns-clause-tiers g c =
    let ts = c.loop-tier.tiers.items in
    let k = c.loop-tier.tier in
    let t = c.index_mut-2.result.now in
    let last : k + 1 ≡ length ts = omega (arith, c.loop-tier-test.false, c.len-last.ensures, c.loop-tier.invariant.len, c.loop-tier.invariant.within, c.loop-tier.tiers.ok.0, c.args.tiers.now.ok.0, c.requires.from) in
    let size = length_by_last 0 k t ts c.loop-tier.invariant.tiers last c.index_mut-2.ensures.value in
    let wide = (tier_at 0 k t ts c.loop-tier.invariant.tiers (omega arith) c.index_mut-2.ensures.value).memory in
    let long : deque_len c.push_front.new.self ≡ deque_len t + 1 = rw c.unwrap.ensures at c.push_front.ensures.len in
    last_after k c.push_front.new.self ts c.loop-tier.invariant.tiers last (omega (arith, wide, c.push_front.ensures.capacity)) (omega (arith, long))
    (omega (arith, long, size, last, c.loop-tier.invariant.size, c.requires.room, c.loop-tier.invariant.len, c.loop-tier.tiers.ok.0, c.args.tiers.now.ok.0))

pub returns-clause-items : goal.returns-clause-items
returns-clause-items g c =
    let ts = c.loop-tier.tiers.items in
    let k = c.loop-tier.tier in
    let t = c.index_mut-2.result.now in
    let l : k < length ts = omega (arith, c.len-last.ensures, c.loop-tier.invariant.len, c.loop-tier.invariant.within, c.loop-tier.tiers.ok.0, c.args.tiers.now.ok.0, c.requires.from) in
    let new : c.push_front.new.self.items ≡ c.loop-tier.carried ∷ t.items = rw c.unwrap.ensures at c.push_front.ensures.items in
    carried_in k t c.push_front.new.self ts c.loop-tier.carried l c.index_mut-2.ensures.value new ∙ c.loop-tier.invariant.items
