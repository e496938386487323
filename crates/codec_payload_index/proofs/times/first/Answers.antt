use Rattle.std.proofs.Common.{◌≡◌, ◌∙◌, ◌<◌, ◌≤◌, ◌-◌, length, drop, subst, sym, ap, arith, List, ℕ, suc}
use Rattle.codec_payload_index.specs.Times.{bottom, first_come, halved}
use Rattle.codec_payload_index.proofs.LevelLemmas.{level_at, level_above, level_last}
use Rattle.codec_payload_index.proofs.times.first.Goals as goal

pub first_at_top-place-requires : goal.first_at_top-place-requires
first_at_top-place-requires c =
    let ls = c.args.levels.now.items in
    let i = c.len-level.result - 1 in
    let some : 0 < c.len-level.result = omega (arith, c.if-level-eq0.false) in
    let len : c.len-level.result ≡ length ls = omega (arith, c.len-level.ensures, c.args.levels.now.ok.0) in
    let here = level_at i ls c.index.result.now (omega (arith, some, len)) c.index.ensures in
    let few = level_last i ls c.requires (omega (arith, some, len)) in
    subst (λ (ts : List ℕ). length ts ≤ 1) (sym (c.deref.ensures.value ∙ here)) few

pub first_below-place-requires : goal.first_below-place-requires
first_below-place-requires c =
    let ls = c.args.levels.now.items in
    let i = c.loop-level.level - 1 in
    let some : 0 < c.loop-level.level = omega (arith, c.loop-level-test.true) in
    let next : c.loop-level.level ≡ suc i = omega (arith, some) in
    let here = level_at i ls c.index-in-loop-level.result.now (omega (arith, some, c.loop-level.invariant.within)) c.index-in-loop-level.ensures in
    let above = level_above i ls c.requires (omega (arith, some, c.loop-level.invariant.within)) in
    c.loop-level.invariant.found ∙ ap (λ (k : ℕ). first_come c.args.now (bottom (drop k ls))) next ∙ ap (λ (ts : List ℕ). first_come c.args.now ts) above
    ∙ ap (λ (ts : List ℕ). first_come c.args.now (halved ts)) (sym (c.deref-in-loop-level.ensures.value ∙ here))
