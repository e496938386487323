use Rattle.std.proofs.Common.{◌≡◌, ◌∙◌, ap, arith, subst, refl, sym, [], List}
use Rattle.codec_payload_references.specs.Notes.{above, below, from, up_to}
use Rattle.codec_payload_references.specs.Units.{Skips}
use Rattle.codec_payload_references.specs.declared.notes.HeldNote.{HeldNote}
use Rattle.codec_payload_references.proofs.UnitLemmas.{below_is, below_zero, collected, from_is, from_zero, rest_is}
use Rattle.codec_payload_references.proofs.notes.skip.Goals as goal

pub returns-then-first-gt0-clause-skips : goal.returns-then-first-gt0-clause-skips
returns-then-first-gt0-clause-skips c =
    let it = collected _ c.args.reader.now (up_to c.min.result c.args.held.now.items) c.collect.result c.collect.new.reader c.collect.ensures.collects in
    subst (λ (hs : List HeldNote). Skips c.args.reader.now hs c.collect.new.reader) (below_is c.args.first c.args.last c.min.result c.args.held.now.items c.if-first-gt0.true c.min.ensures) (it.readings, it.reads)

pub returns-then-first-gt0-clause-unit : goal.returns-then-first-gt0-clause-unit
returns-then-first-gt0-clause-unit c =
    ap (up_to c.args.last) c.collect.ensures.rest ∙ from_is c.args.first c.args.last c.min.result c.args.held.now.items c.if-first-gt0.true c.min.ensures

pub returns-then-first-gt0-clause-rest : goal.returns-then-first-gt0-clause-rest
returns-then-first-gt0-clause-rest c =
    ap (above c.args.last) c.collect.ensures.rest ∙ rest_is c.args.last c.min.result c.args.held.now.items (omega (arith, c.min.ensures))

pub returns-else-first-gt0-clause-skips : goal.returns-else-first-gt0-clause-skips
returns-else-first-gt0-clause-skips c =
    let zero_is : c.args.first ≡ 0 = omega (arith, c.if-first-gt0.false) in
    subst (λ (hs : List HeldNote). Skips c.args.reader.now hs c.args.reader.now) (sym (ap (λ n. below n (up_to c.args.last c.args.held.now.items)) zero_is ∙ below_zero (up_to c.args.last c.args.held.now.items))) ([], refl)

pub returns-else-first-gt0-clause-unit : goal.returns-else-first-gt0-clause-unit
returns-else-first-gt0-clause-unit c =
    let zero_is : c.args.first ≡ 0 = omega (arith, c.if-first-gt0.false) in
    sym (ap (λ n. from n (up_to c.args.last c.args.held.now.items)) zero_is ∙ from_zero (up_to c.args.last c.args.held.now.items))
