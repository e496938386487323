use Rattle.std.proofs.Common.{◌≡◌, ◌<◌, ◌+◌, ◌-◌, ◌*◌, ◌/◌, ◌∙◌, ℕ, sym, length, get_or, arith}
use Rattle.codec_payload_queue.specs.Tiers.{in_tiers}
use Rattle.codec_payload_queue.proofs.SearchLemmas.{all_below, none_below}
use Rattle.codec_payload_queue.proofs.TierLemmas.{tier_at, length_most, length_least, item_in_tier, length_up_to, tier_rises, point_in_tiers}
use Rattle.codec_payload_queue.proofs.above.search_tiers.Goals as goal

pub loop-low-init : goal.loop-low-init
loop-low-init g c = record {
  order = omega arith;
  bound = omega (arith, c.requires.some, c.len-high.ensures, c.args.tiers.now.ok.0);
  below = λ k d from l. absurd (omega (arith, l));
  behind = λ k d from l. absurd (omega (arith, from, l, length_most 1 c.args.tiers.now.items c.requires.tiers, c.requires.some, c.len-high.ensures, c.args.tiers.now.ok.0));
}

pub index-requires-in-loop-low : goal.index-requires-in-loop-low
index-requires-in-loop-low g c =
    let ts = c.args.tiers.now.items in
    let k : ℕ = c.loop-low.low + (c.loop-low.high - c.loop-low.low) / 2 in
    let more : k + 1 < length ts = omega (arith, c.loop-low-test.true, c.loop-low.invariant.bound) in
    let full = (tier_at 1 k c.index.result.now ts c.requires.tiers (omega arith) c.index.ensures).full more in
    omega (arith, full)

pub loop-low-preserved-then-number : goal.loop-low-preserved-then-number
loop-low-preserved-then-number g c =
    let n = g.T.Numbered.number_of in
    let ts = c.args.tiers.now.items in
    let t = c.index.result.now in
    let x = c.index-in-loop-low.result.now in
    let k : ℕ = c.loop-low.low + (c.loop-low.high - c.loop-low.low) / 2 in
    let more : k + 1 < length ts = omega (arith, c.loop-low-test.true, c.loop-low.invariant.bound) in
    let full = (tier_at 1 k t ts c.requires.tiers (omega arith) c.index.ensures).full more in
    let there : x ≡ get_or (in_tiers ts) (1024 * k + 1023) x = c.index-in-loop-low.ensures ∙ sym (item_in_tier 1 k 1023 t ts x c.requires.tiers (omega arith) c.index.ensures (omega (arith, full))) in
    let up = length_up_to 1 k t ts c.requires.tiers (omega arith) c.index.ensures in
    let low = all_below n (in_tiers ts) c.args.number (1024 * k + 1023) x c.requires.rises (omega (arith, up, full)) there (omega (arith, c.number.ensures, c.if-number.true)) in
    record {
      order = omega (arith, c.loop-low-test.true);
      bound = c.loop-low.invariant.bound;
      below = λ i d from l. low i d from (omega (arith, l));
      behind = c.loop-low.invariant.behind;
    }

pub loop-low-preserved : goal.loop-low-preserved
loop-low-preserved g c =
    let n = g.T.Numbered.number_of in
    let ts = c.args.tiers.now.items in
    let t = c.index.result.now in
    let x = c.index-in-loop-low.result.now in
    let k : ℕ = c.loop-low.low + (c.loop-low.high - c.loop-low.low) / 2 in
    let more : k + 1 < length ts = omega (arith, c.loop-low-test.true, c.loop-low.invariant.bound) in
    let full = (tier_at 1 k t ts c.requires.tiers (omega arith) c.index.ensures).full more in
    let there : x ≡ get_or (in_tiers ts) (1024 * k + 1023) x = c.index-in-loop-low.ensures ∙ sym (item_in_tier 1 k 1023 t ts x c.requires.tiers (omega arith) c.index.ensures (omega (arith, full))) in
    let up = length_up_to 1 k t ts c.requires.tiers (omega arith) c.index.ensures in
    let high = none_below n (in_tiers ts) c.args.number (1024 * k + 1023) x c.requires.rises (omega (arith, up, full)) there (omega (arith, c.number.ensures, c.if-number.false)) in
    record {
      order = omega (arith, c.loop-low-test.true);
      bound = omega (arith, more);
      below = c.loop-low.invariant.below;
      behind = λ i d from l. high i d (omega (arith, from)) l;
    }

pub search_in-requires : goal.search_in-requires
search_in-requires g c = tier_rises g.T.Numbered.number_of 1 c.loop-low.low c.index-2.result.now c.args.tiers.now.items c.requires.tiers (omega (arith, c.loop-low.invariant.order, c.loop-low.invariant.bound)) c.index-2.ensures c.requires.rises

pub returns-clause-bound : goal.returns-clause-bound
returns-clause-bound g c =
    let up = length_up_to 1 c.loop-low.low c.index-2.result.now c.args.tiers.now.items c.requires.tiers (omega (arith, c.loop-low.invariant.order, c.loop-low.invariant.bound)) c.index-2.ensures in
    omega (arith, up, c.search_in.ensures.bound)

pub returns-clause-point : goal.returns-clause-point
returns-clause-point g c =
    let ts = c.args.tiers.now.items in
    let k = c.loop-low.low in
    let same : c.loop-low.high ≡ k = omega (arith, c.loop-low.invariant.order, c.loop-low-test.false) in
    point_in_tiers g.T.Numbered.number_of 1 c.args.number k c.search_in.result c.index-2.result.now ts c.requires.tiers (omega (arith, c.loop-low.invariant.order, c.loop-low.invariant.bound)) c.index-2.ensures
    c.loop-low.invariant.below (λ i d from l. c.loop-low.invariant.behind i d (omega (arith, from, same)) l) c.search_in.ensures.bound c.search_in.ensures.point

pub overflow_mul-result : goal.overflow_mul-result
overflow_mul-result g c =
    let least = length_least 1 c.args.tiers.now.items c.requires.tiers c.requires.some in
    omega (arith, least, c.loop-low.invariant.order, c.loop-low.invariant.bound, c.requires.limit)

pub overflow_add-result : goal.overflow_add-result
overflow_add-result g c =
    let up = length_up_to 1 c.loop-low.low c.index-2.result.now c.args.tiers.now.items c.requires.tiers (omega (arith, c.loop-low.invariant.order, c.loop-low.invariant.bound)) c.index-2.ensures in
    omega (arith, up, c.search_in.ensures.bound, c.requires.limit)
