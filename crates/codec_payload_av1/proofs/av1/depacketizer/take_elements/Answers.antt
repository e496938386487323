use Rattle.std.proofs.Common.{◌≡◌, ℕ, ◌<◌, ◌∙◌, List, ◌∷◌, not, sym, ap, length, arith}
use Rattle.std.specs.Prelude.{◌&&◌, nat_lt}
use Rattle.std.proofs.lemmas.Grind.{common_steps}
use Rattle.std.proofs.lemmas.Result.{err_from_is_err_and}
use Rattle.codec_payload_av1.specs.Av1Obu.{has_bit}
use Rattle.codec_payload_av1.specs.Av1Packing.{is_begun}
use Rattle.codec_payload_av1.specs.Av1Receiving.{received}
use Rattle.codec_payload_av1.proofs.Av1FrontKept.{kept_same, kept_trans}
use Rattle.codec_payload_av1.proofs.Av1Readable.{next_shorter, orphan_lost}
use Rattle.codec_payload_av1.proofs.Av1TakingElements.{after}
use Rattle.codec_payload_av1.proofs.Av1TakingBytes.{takes_first, all_taken, none_read, stays, goes_on, fails, whole_open}
use Rattle.codec_payload_av1.proofs.av1.depacketizer.take_elements.Goals as goal

pub loop-rest-init : goal.loop-rest-init
loop-rest-init c =
    let pending = c.args.pending.now in
    let first = rw c.requires at (takes_first pending c.args.header.byte c.args.bytes.now) in
    let orphan : c.has_orphan-is_orphan.result ≡ (has_bit 128 c.args.header.byte && not (is_begun pending)) = c.has_orphan-is_orphan.ensures
    ∙ ap (λ (b : List ℕ). has_bit 128 c.args.header.byte && not (is_begun b)) c.as_slice.ensures in
    record {
      so_far = rw (orphan, c.goes_on-may_go_on.ensures, c.count-w.ensures) (ap (after c.args.out.now.items) first);
      lost = λ is. orphan_lost (has_bit 128 c.args.header.byte) pending (sym orphan ∙ is);
      kept = kept_same c.args.out.now.items;
    }

pub returns-in_default-clause-taken : goal.returns-in_default-clause-taken
returns-in_default-clause-taken c =
    let some : 0 < length c.loop-rest.rest.now = grind (arith, common_steps) in
    none_read c.goes_on-may_go_on.result c.loop-rest.is_orphan c.loop-rest.pending c.loop-rest.w c.loop-rest.rest.now c.loop-rest.out.items c.args.out.now.items
    (received c.args.pending.now (c.args.header.byte ∷ c.args.bytes.now)) c.loop-rest.invariant.so_far some c.in_default.ensures

pub returns-then-stays_open-clause-taken : goal.returns-then-stays_open-clause-taken
returns-then-stays_open-clause-taken c =
    let some : 0 < length c.loop-rest.rest.now = grind (arith, common_steps) in
    let opened = whole_open c.loop-rest.is_orphan c.goes_on-may_go_on.result (nat_lt c.loop-rest.w 2) (not (is_begun c.in-Some.after.now)) (sym c.if-stays_open.ensures) in
    stays c.goes_on-may_go_on.result c.loop-rest.is_orphan c.loop-rest.pending c.loop-rest.w c.loop-rest.rest.now c.loop-rest.out.items c.args.out.now.items
    (received c.args.pending.now (c.args.header.byte ∷ c.args.bytes.now)) c.loop-rest.invariant.so_far
    c.in-Some.element.now c.in-Some.after.now some c.in-Some.ensures c.extend_behind.new.self opened.0 opened.1 c.in_ok-extend_behind.ensures

pub returns-in_err-take_element-clause-taken : goal.returns-in_err-take_element-clause-taken
returns-in_err-take_element-clause-taken c =
    let some : 0 < length c.loop-rest.rest.now = grind (arith, common_steps) in
    let p = err_from_is_err_and c.from_residual-in_err-take_element.result c.from_residual-in_err-take_element.ensures.1 in
    rw (p.1, p.2)
    (fails c.goes_on-may_go_on.result c.loop-rest.is_orphan c.loop-rest.pending c.loop-rest.w c.loop-rest.rest.now c.loop-rest.out.items c.args.out.now.items
    (received c.args.pending.now (c.args.header.byte ∷ c.args.bytes.now)) c.loop-rest.invariant.so_far
    c.in-Some.element.now c.in-Some.after.now some c.in-Some.ensures c.in_err-take_element.field-0.0 c.loop-rest.invariant.lost (sym c.if-stays_open.ensures) c.in_err-take_element.ensures.added)

pub loop-rest-smaller : goal.loop-rest-smaller
loop-rest-smaller c =
    let some : 0 < length c.loop-rest.rest.now = grind (arith, common_steps) in
    next_shorter c.loop-rest.w c.loop-rest.rest.now c.in-Some.element.now c.in-Some.after.now some c.in-Some.ensures

pub loop-rest-preserved : goal.loop-rest-preserved
loop-rest-preserved c =
    let some : 0 < length c.loop-rest.rest.now = grind (arith, common_steps) in
    let added = c.in_ok-take_element.ensures.added in
    record {
      so_far = rw (c.w_after_one-w.ensures, c.in_ok-take_element.ensures.emptied)
          (goes_on c.goes_on-may_go_on.result c.loop-rest.is_orphan c.loop-rest.pending c.loop-rest.w c.loop-rest.rest.now c.loop-rest.out.items c.args.out.now.items
          (received c.args.pending.now (c.args.header.byte ∷ c.args.bytes.now)) c.loop-rest.invariant.so_far
          c.in-Some.element.now c.in-Some.after.now some c.in-Some.ensures c.take_element.new.out.items added.0 c.loop-rest.invariant.lost (sym c.if-stays_open.ensures) added.1 added.2);
      lost = λ _. c.in_ok-take_element.ensures.emptied;
      kept = kept_trans c.args.out.now.items c.loop-rest.out.items c.take_element.new.out.items c.loop-rest.invariant.kept c.in_ok-take_element.ensures.kept;
    }

pub returns-clause-taken : goal.returns-clause-taken
returns-clause-taken c =
    let none : length c.loop-rest.rest.now ≡ 0 = grind (arith, common_steps) in
    all_taken c.goes_on-may_go_on.result c.loop-rest.is_orphan c.loop-rest.pending c.loop-rest.w c.loop-rest.rest.now c.loop-rest.out.items c.args.out.now.items
    (received c.args.pending.now (c.args.header.byte ∷ c.args.bytes.now)) c.loop-rest.invariant.so_far none
