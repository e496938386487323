use Rattle.std.proofs.Common.{◌≡◌, [], ◌<◌, ◌∙◌, rules, sym, refl, true, false, Bool, length, arith}
use Rattle.std.specs.Prelude.{◌&&◌}
use Rattle.std.proofs.lemmas.Grind.{common_steps}
use Rattle.codec_payload_av1.specs.Av1Obu.{has_bit}
use Rattle.codec_payload_av1.specs.Av1Payload.{elements_at, w_after}
use Rattle.codec_payload_av1.specs.Av1Receiving.{can_take}
use Rattle.codec_payload_av1.proofs.Av1Readable.{are_taken, next_shorter, taken_end, orphan_lost, taken_first, taken_next, taken_none}
use Rattle.codec_payload_av1.proofs.av1.depacketizer.is_readable.Goals as goal

refused : (a b : Bool) → a ≡ false → false ≡ (a && b)
refused true b e = absurd cc
refused false b e = refl

goes_on : (a b : Bool) → a ≡ true → b ≡ (a && b)
goes_on true b e = refl
goes_on false b e = absurd cc

pub loop-begun-init : goal.loop-begun-init
loop-begun-init c =
    record {
      so_far = rw (c.goes_on-may_go_on.ensures, c.count-w.ensures, c.has_orphan-is_orphan.ensures, c.begun_of-begun.ensures) (taken_first c.args.pending.now c.args.header.byte c.args.bytes.now);
      lost = λ is. orphan_lost (has_bit 128 c.args.header.byte) c.begun_of-begun.result.now (sym c.has_orphan-is_orphan.ensures ∙ is);
    }

pub returns-in_default : goal.returns-in_default
returns-in_default c =
    let some : 0 < length c.loop-begun.rest.now = grind (arith, common_steps) in
    sym (taken_none c.goes_on-may_go_on.result c.loop-begun.is_orphan c.loop-begun.begun.now c.loop-begun.w c.loop-begun.rest.now some c.in_default.ensures) ∙ c.loop-begun.invariant.so_far

pub returns-then-not-can_be_taken : goal.returns-then-not-can_be_taken
returns-then-not-can_be_taken c =
    let some : 0 < length c.loop-begun.rest.now = grind (arith, common_steps) in
    refused (can_take c.loop-begun.is_orphan c.goes_on-may_go_on.result c.loop-begun.w c.loop-begun.begun.now c.in-Some.element.now c.in-Some.after.now)
    (are_taken c.goes_on-may_go_on.result false [] (w_after c.loop-begun.w) (elements_at (w_after c.loop-begun.w) c.in-Some.after.now)) (search rules)
    ∙ sym (taken_next c.goes_on-may_go_on.result c.loop-begun.is_orphan c.loop-begun.begun.now c.loop-begun.w c.loop-begun.rest.now c.in-Some.element.now
    c.in-Some.after.now some c.in-Some.ensures c.loop-begun.invariant.lost)
    ∙ c.loop-begun.invariant.so_far

pub loop-begun-smaller : goal.loop-begun-smaller
loop-begun-smaller c =
    let some : 0 < length c.loop-begun.rest.now = grind (arith, common_steps) in
    next_shorter c.loop-begun.w c.loop-begun.rest.now c.in-Some.element.now c.in-Some.after.now some c.in-Some.ensures

pub loop-begun-preserved : goal.loop-begun-preserved
loop-begun-preserved c =
    let some : 0 < length c.loop-begun.rest.now = grind (arith, common_steps) in
    record {
      so_far = rw c.w_after_one-w.ensures
          (goes_on (can_take c.loop-begun.is_orphan c.goes_on-may_go_on.result c.loop-begun.w c.loop-begun.begun.now c.in-Some.element.now c.in-Some.after.now)
          (are_taken c.goes_on-may_go_on.result false [] (w_after c.loop-begun.w) (elements_at (w_after c.loop-begun.w) c.in-Some.after.now)) (search rules)
          ∙ sym (taken_next c.goes_on-may_go_on.result c.loop-begun.is_orphan c.loop-begun.begun.now c.loop-begun.w c.loop-begun.rest.now c.in-Some.element.now
          c.in-Some.after.now some c.in-Some.ensures c.loop-begun.invariant.lost)
          ∙ c.loop-begun.invariant.so_far);
      lost = λ _. refl;
    }

pub returns : goal.returns
returns c =
    let none : length c.loop-begun.rest.now ≡ 0 = grind (arith, common_steps) in
    sym (taken_end c.goes_on-may_go_on.result c.loop-begun.is_orphan c.loop-begun.begun.now c.loop-begun.w c.loop-begun.rest.now none) ∙ c.loop-begun.invariant.so_far
