use Rattle.std.proofs.Common.{◌≡◌, ◌<◌, [], length, append-nil, sym, ap, ◌∙◌, arith}
use Rattle.std.proofs.lemmas.Bool.Decides.{nat_tests}
use Rattle.std.proofs.lemmas.Grind.{common_steps}
use Rattle.std.proofs.lemmas.Result.{err_from_is_err_and}
use Rattle.codec_payload_av1.proofs.Av1TakingBytes.{received_inner}
use Rattle.codec_payload_av1.proofs.av1.depacketizer.Av1Depacketizer.take_payload.Goals as goal

pub returns-then-not-is_empty-clause-taken : goal.returns-then-not-is_empty-clause-taken
returns-then-not-is_empty-clause-taken c =
    let pending = c.self.inside.pending in
    let len = ap length c.as_slice.ensures in
    let some : 0 < length pending = grind (arith, common_steps) in
    let inside : c.args.header.byte ≡ 0xd0 = grind (arith, common_steps, nat_tests) in
    let read = received_inner pending c.args.header.byte c.args.bytes.now inside (λ none. omega (arith, some, none)) in
    ([], rw (← c.self.view_is, c.in_ok-extend.ensures) read, sym (append-nil c.args.out.now.items))

pub returns-in_err-extend-clause-taken : goal.returns-in_err-extend-clause-taken
returns-in_err-extend-clause-taken c =
    let pending = c.self.inside.pending in
    let len = ap length c.as_slice.ensures in
    let some : 0 < length pending = grind (arith, common_steps) in
    let inside : c.args.header.byte ≡ 0xd0 = grind (arith, common_steps, nat_tests) in
    let read = received_inner pending c.args.header.byte c.args.bytes.now inside (λ none. omega (arith, some, none)) in
    let p = err_from_is_err_and c.from_residual.result c.from_residual.ensures.1 in
    rw (p.1, p.2, ← c.self.view_is) (λ none. let no = sym read ∙ none in absurd cc)
