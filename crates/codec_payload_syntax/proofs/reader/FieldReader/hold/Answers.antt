use Rattle.std.proofs.Common.{arith}
use Rattle.std.proofs.lemmas.Bool.{leb-true, leb-false}
use Rattle.codec_payload_syntax.proofs.ReaderLemmas.{few_left, held_is}
use Rattle.codec_payload_syntax.proofs.reader.FieldReader.hold.Goals as goal

pub returns-then-count-self-clause-enough : goal.returns-then-count-self-clause-enough
returns-then-count-self-clause-enough c = λ yes. omega (arith, c.if-count-self.true, held_is c.self.inside.held c.self.inside.window c.self.inside.behind.now c.args.self.now c.self.view_is)

pub fill-requires : goal.fill-requires
fill-requires c = omega (arith, c.requires, c.if-count-self.false, held_is c.self.inside.held c.self.inside.window c.self.inside.behind.now c.args.self.now c.self.view_is)

pub returns-clause-enough : goal.returns-clause-enough
returns-clause-enough c = λ yes. omega (arith, leb-true _ _ yes, held_is c.self-2.inside.held c.self-2.inside.window c.self-2.inside.behind.now c.fill.new.self c.self-2.view_is)

pub returns-clause-few : goal.returns-clause-few
returns-clause-few c = λ no.
    let e = held_is c.self-2.inside.held c.self-2.inside.window c.self-2.inside.behind.now c.fill.new.self c.self-2.view_is in
    few_left c.args.count c.fill.new.self (omega (arith, leb-false _ _ no, e)) (omega (arith, c.requires)) c.fill.ensures.many
