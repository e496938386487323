use Rattle.std.proofs.Common.{ℕ, ◌-◌, ◌/◌, ◌%◌, ◌^◌, ◌≤◌, ◌++◌, sym, ap, ◌∙◌, arith}
use Rattle.std.proofs.lemmas.Nat.{pow_pos}
use Rattle.codec_payload_base.specs.Bits.{bits}
use Rattle.codec_payload_syntax.specs.FieldReaders.{Unread}
use Rattle.codec_payload_syntax.proofs.ReaderLemmas.{held_is, low_small, one_more, split_bits}
use Rattle.codec_payload_syntax.proofs.reader.FieldReader.split.Goals as goal

pub overflow_sub-self : goal.overflow_sub-self
overflow_sub-self c = omega (arith, c.requires, held_is c.self.inside.held c.self.inside.window c.self.inside.behind.now c.args.self.now c.self.view_is)

pub overflow_shl-result : goal.overflow_shl-result
overflow_shl-result c = omega (arith, c.requires, c.self.invariant, held_is c.self.inside.held c.self.inside.window c.self.inside.behind.now c.args.self.now c.self.view_is)

pub nonzero_rem-result : goal.nonzero_rem-result
nonzero_rem-result c =
    let enough : c.args.count ≤ c.self.inside.held = omega (arith, c.requires, held_is c.self.inside.held c.self.inside.window c.self.inside.behind.now c.args.self.now c.self.view_is) in
    rw (one_more c.args.count (omega (arith, enough, c.self.invariant))) (pow_pos c.args.count)

pub returns-clause-value : goal.returns-clause-value
returns-clause-value c =
    let enough : c.args.count ≤ c.self.inside.held = omega (arith, c.requires, held_is c.self.inside.held c.self.inside.window c.self.inside.behind.now c.args.self.now c.self.view_is) in
    let k : ℕ = c.self.inside.held - c.args.count in
    ap (λ (u : Unread). u.held) (sym c.self.view_is)
    ∙ split_bits c.self.inside.held c.self.inside.window c.args.count enough
    ∙ ap (λ (t : ℕ). bits c.args.count (c.self.inside.window / 2 ^ k % t) ++ bits k c.self.inside.window) (sym (one_more c.args.count (omega (arith, enough, c.self.invariant))))

pub returns-clause-below : goal.returns-clause-below
returns-clause-below c =
    let enough : c.args.count ≤ c.self.inside.held = omega (arith, c.requires, held_is c.self.inside.held c.self.inside.window c.self.inside.behind.now c.args.self.now c.self.view_is) in
    let k : ℕ = c.self.inside.held - c.args.count in
    rw (one_more c.args.count (omega (arith, enough, c.self.invariant))) (low_small c.args.count (c.self.inside.window / 2 ^ k))
