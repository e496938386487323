use Rattle.std.proofs.Common.{◌≡◌, ◌∙◌, ◌<◌, ◌≤◌, length, sym, ap, subst, arith, ℕ, List, refl}
use Rattle.codec_payload_index.specs.Times.{halved}
use Rattle.codec_payload_index.proofs.HalvedLemmas.{fewer_pairs}
use Rattle.codec_payload_index.proofs.LevelLemmas.{one_more, enough, same_bottom}
use Rattle.codec_payload_index.proofs.times.levels_of.Goals as goal

pub loop-alloc-init : goal.loop-alloc-init
loop-alloc-init c = rw c.new-levels.ensures.items (record { are = tt; times = refl })

pub loop-alloc-smaller : goal.loop-alloc-smaller
loop-alloc-smaller c =
    let many : 1 < length c.loop-alloc.last.items = omega (arith, c.loop-alloc-test.true, c.len.ensures, c.loop-alloc.last.ok.0) in
    let same : c.in_ok-next.next.items ≡ halved c.loop-alloc.last.items = c.in_ok-next.ensures ∙ ap (λ (ts : List ℕ). halved ts) c.deref.ensures.value in
    let fewer : length (halved c.loop-alloc.last.items) < length c.loop-alloc.last.items = fewer_pairs c.loop-alloc.last.items many in
    let less : length c.in_ok-next.next.items < length c.loop-alloc.last.items = subst (λ (ts : List ℕ). length ts < length c.loop-alloc.last.items) (sym same) fewer in
    less

pub loop-alloc-preserved : goal.loop-alloc-preserved
loop-alloc-preserved c =
    let same : c.in_ok-next.next.items ≡ halved c.loop-alloc.last.items = c.in_ok-next.ensures ∙ ap (λ (ts : List ℕ). halved ts) c.deref.ensures.value in
    rw c.in_ok-push.ensures.items (record {
      are = one_more c.loop-alloc.levels.items c.loop-alloc.last c.in_ok-next.next c.loop-alloc.invariant.are same;
      times = same_bottom c.loop-alloc.levels.items c.loop-alloc.last c.in_ok-next.next ∙ c.loop-alloc.invariant.times;
    })

pub returns-clause-levels : goal.returns-clause-levels
returns-clause-levels c =
    let few : length c.loop-alloc.last.items ≤ 1 = omega (arith, c.loop-alloc-test.false, c.len.ensures, c.loop-alloc.last.ok.0) in
    rw c.in_ok-push-2.ensures.items (enough c.loop-alloc.levels.items c.loop-alloc.last c.loop-alloc.invariant.are few)

pub returns-clause-times : goal.returns-clause-times
returns-clause-times c = rw c.in_ok-push-2.ensures.items c.loop-alloc.invariant.times
