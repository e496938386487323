use Rattle.std.proofs.Common.{◌≡◌, ◌∙◌, ◌<◌, ◌≤◌, ◌-◌, length, subst, sym, ap, arith, List, ℕ}
use Rattle.codec_payload_index.specs.Times.{least_of}
use Rattle.codec_payload_index.proofs.LevelLemmas.{level_at, level_last, same_least}
use Rattle.codec_payload_index.proofs.times.least.Goals as goal

pub least_at_top-requires : goal.least_at_top-requires
least_at_top-requires c =
    let ls = c.args.levels.now.items in
    let i = c.len-2.result - 1 in
    let len : c.len-2.result ≡ length ls = omega (arith, c.len-2.ensures, c.args.levels.now.ok.0) in
    let some : 0 < c.len-2.result = omega (arith, c.if-len-eq0.false, c.len.ensures, c.len-2.ensures) in
    let here = level_at i ls c.index.result.now (omega (arith, some, len)) c.index.ensures in
    let few = level_last i ls c.requires (omega (arith, some, len)) in
    subst (λ (ts : List ℕ). length ts ≤ 1) (sym (c.deref.ensures.value ∙ here)) few

pub returns : goal.returns
returns c =
    let ls = c.args.levels.now.items in
    let i = c.len-2.result - 1 in
    let len : c.len-2.result ≡ length ls = omega (arith, c.len-2.ensures, c.args.levels.now.ok.0) in
    let some : 0 < c.len-2.result = omega (arith, c.if-len-eq0.false, c.len.ensures, c.len-2.ensures) in
    let here = level_at i ls c.index.result.now (omega (arith, some, len)) c.index.ensures in
    c.least_at_top.ensures ∙ ap (λ (ts : List ℕ). least_of ts) (c.deref.ensures.value ∙ here) ∙ same_least i ls c.requires (omega (arith, some, len))
