use Rattle.std.proofs.Common.{◌≡◌, ◌-◌, ℕ, sym, ◌∙◌, ap, Err, Ok, arith}
use Rattle.std.proofs.lemmas.Result.{err_from_is_err_and}
use Rattle.codec_payload_vp9.proofs.GroupLemmas.{groups_go, groups_refuse}
use Rattle.codec_payload_vp9.specs.Vp9Reading.{group_at, groups_at, GroupReading}
use Rattle.codec_payload_vp9.proofs.vp9.descriptor.behind_groups.Goals as goal

pub loop-init : goal.loop-init
loop-init c = λ groups.
    let all : c.args.count - 0 ≡ c.args.count = omega arith in
    (groups, ap (λ (n : ℕ). groups_at n groups c.args.bytes.now) all)

pub loop-preserved : goal.loop-preserved
loop-preserved c = λ groups.
    let here = c.loop.invariant groups in
    let is : (group_at here.0 c.loop.rest.now).rest ≡ Ok c.in_ok-rest.rest.now = sym (c.in_ok-rest.ensures here.0) in
    ((group_at here.0 c.loop.rest.now).groups, sym (groups_go c.args.count c.loop.counter here.0 c.loop.rest.now c.in_ok-rest.rest.now c.loop-test.true is) ∙ here.1)

pub returns-in_err-rest : goal.returns-in_err-rest
returns-in_err-rest c =
    let exit = err_from_is_err_and c.from_residual.result c.from_residual.ensures.1 in
    rw (exit.1, exit.2) (λ groups.
    let here = c.loop.invariant groups in
    let is : (group_at here.0 c.loop.rest.now).rest ≡ Err c.in_err-rest.field-0.0 = sym (c.in_err-rest.ensures here.0) in
    ap (λ (r : GroupReading). r.rest) (sym (groups_refuse c.args.count c.loop.counter here.0 c.loop.rest.now c.in_err-rest.field-0.0 c.loop-test.true is) ∙ here.1))

pub returns : goal.returns
returns c = λ groups.
    let here = c.loop.invariant groups in
    let none : c.args.count - c.loop.counter ≡ 0 = omega arith in
    ap (λ (r : GroupReading). r.rest) (sym (ap (λ (n : ℕ). groups_at n here.0 c.loop.rest.now) none) ∙ here.1)
