use Rattle.std.proofs.Common.{Ok, sym, ap, ◌∙◌, arith}
use Rattle.codec_payload_syntax.specs.FieldReaders.{Unread, left}
use Rattle.codec_payload_syntax.proofs.ReaderLemmas.{held_is, skips_behind, skips_held}
use Rattle.codec_payload_syntax.proofs.reader.FieldReader.skip_bits.Goals as goal

pub split-requires : goal.split-requires
split-requires g c = omega (arith, c.if-count-self.true, held_is c.self.inside.held c.self.inside.window c.self.inside.behind.now c.args.self.now c.self.view_is)

pub returns-then-count-self : goal.returns-then-count-self
returns-then-count-self g c = sym (skips_held c.args.short c.args.count c.split.result c.args.self.now c.split.new.self c.split.ensures.value c.split.ensures.behind)

pub returns-in-Ok : goal.returns-in-Ok
returns-in-Ok g c = ap (λ (u : Unread). Ok (0, left u)) c.self-in-Ok.view_is ∙ c.in-Ok.ensures ∙ skips_behind c.args.short c.args.count c.self.inside.held c.self.inside.window c.self.inside.behind.now c.args.self.now c.self.view_is c.if-count-self.false

pub returns-in-Err : goal.returns-in-Err
returns-in-Err g c = c.in-Err.ensures ∙ skips_behind c.args.short c.args.count c.self.inside.held c.self.inside.window c.self.inside.behind.now c.args.self.now c.self.view_is c.if-count-self.false
