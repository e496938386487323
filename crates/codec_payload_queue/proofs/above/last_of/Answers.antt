use Rattle.std.proofs.Common.{◌≡◌, ◌<◌, ◌+◌, ◌-◌, ◌*◌, ◌∙◌, ap, sym, length, get_or, arith}
use Rattle.std.proofs.lemmas.Option.{IfSome_then}
use Rattle.codec_payload_queue.specs.Tiers.{in_tiers}
use Rattle.codec_payload_queue.proofs.TierLemmas.{tier_at, length_least, length_by_last, item_in_tier}
use Rattle.codec_payload_queue.proofs.above.last_of.Goals as goal

pub returns-clause-variant : goal.returns-clause-variant
returns-clause-variant g c =
    let ts = c.args.tiers.now.items in
    let l : c.len.result - 1 < length ts = omega (arith, c.requires.some, c.len.ensures, c.args.tiers.now.ok.0) in (
      (λ is. omega (arith, length_least 1 ts c.requires.tiers c.requires.some, c.requires.some)),
      (λ some. c.back.ensures.variant.1 (omega (arith, (tier_at 1 (c.len.result - 1) c.index.result.now ts c.requires.tiers l c.index.ensures).some))),
    )

pub returns-clause-value : goal.returns-clause-value
returns-clause-value g c =
    let ts = c.args.tiers.now.items in
    let k = c.len.result - 1 in
    let t = c.index.result.now in
    let last : k + 1 ≡ length ts = omega (arith, c.requires.some, c.len.ensures, c.args.tiers.now.ok.0) in
    let some = (tier_at 1 k t ts c.requires.tiers (omega arith) c.index.ensures).some in
    let all = length_by_last 1 k t ts c.requires.tiers last c.index.ensures in
    let place : 1024 * k + (t.len - 1) ≡ length (in_tiers ts) - 1 = omega (arith, all, some) in
    IfSome_then c.back.result c.back.ensures.lookup (λ x is. is
    ∙ sym (item_in_tier 1 k (t.len - 1) t ts x.now c.requires.tiers (omega arith) c.index.ensures (omega (arith, some)))
    ∙ ap (λ j. get_or (in_tiers ts) j x.now) place)
