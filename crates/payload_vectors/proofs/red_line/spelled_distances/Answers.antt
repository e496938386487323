use Rattle.std.proofs.Common.{◌≡◌, ◌<◌, ◌∙◌, ap, sym, length, lit<, inl, inr, arith}
use Rattle.std.proofs.lemmas.Grind.{common_steps}
use Rattle.std.proofs.lemmas.Iterator.Consumers.{map_from_collect}
use Rattle.std.proofs.lemmas.List.{length-map}
use Rattle.std.proofs.lemmas.Iterator.Splits.{YieldsList-from_str_split}
use Rattle.std.specs.Prelude.{IsTrue}
use Rattle.std.specs.Str.Parse.{digits_value}
use Rattle.payload_vectors.proofs.red_line.spelled_distances.Goals as goal

pub returns-then-not-branch-clause-none : goal.returns-then-not-branch-clause-none
returns-then-not-branch-clause-none c = λ none distances spells.
    let all = map_from_collect _ c.collect.ensures.ran (YieldsList-from_str_split 44 c.args.field.now (lit< tt) c.split.ensures.text c.split.ensures.has_more c.split.ensures.pattern) in
    let these = rw c.in_ok-parts.was at all in
    elim spells [
      | inl is ↦ absurd (grind (arith, common_steps, is))
      | inr is ↦
          let yes : IsTrue c.in_ok-add_numbers.field-0 = c.in_ok-add_numbers.ensures.all.1 (rw (c.deref.ensures.value, these) is.1) in
          absurd (grind (arith, common_steps, yes))
    ]

pub returns-clause-some : goal.returns-clause-some
returns-clause-some c =
    let all = map_from_collect _ c.collect.ensures.ran (YieldsList-from_str_split 44 c.args.field.now (lit< tt) c.split.ensures.text c.split.ensures.has_more c.split.ensures.pattern) in
    let these = rw c.in_ok-parts.was at all in
    let yes : IsTrue c.in_ok-add_numbers.field-0 = c.if-not-branch.false in
    inr (
      λ is. absurd (grind (arith, common_steps, is)),
      rw (c.deref.ensures.value, these) at (c.in_ok-add_numbers.ensures.all.0 yes),
      rw (c.new-distances.ensures.items, c.deref.ensures.value, these) at (c.in_ok-add_numbers.ensures.added yes),
    )

pub returns-then-len-gt-MOST_DISTANCES-clause-none : goal.returns-then-len-gt-MOST_DISTANCES-clause-none
returns-then-len-gt-MOST_DISTANCES-clause-none c = λ none distances spells.
    let all = map_from_collect _ c.collect.ensures.ran (YieldsList-from_str_split 44 c.args.field.now (lit< tt) c.split.ensures.text c.split.ensures.has_more c.split.ensures.pattern) in
    let these = rw c.in_ok-parts.was at all in
    let many : 8 < length c.in_ok-parts.parts.items = grind (arith, common_steps) in
    elim spells [
      | inl is ↦ absurd (grind (arith, common_steps, is))
      | inr is ↦
          let size : length distances ≡ length c.in_ok-parts.parts.items = ap length is.2 ∙ length-map _ (digits_value 10) ∙ sym (ap length these) ∙ length-map c.in_ok-parts.parts.items _ in
          omega (arith, many, size)
    ]
