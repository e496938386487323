use Rattle.std.proofs.Common.{◌≡◌, ◌+◌, ◌*◌, ◌∙◌, ap, sym, length, arith, inl, inr, subst, Option, Some}
use Rattle.std.specs.Global.{Global}
use Rattle.std.specs.declared.collections.VecDeque.{VecDeque}
use Rattle.std.proofs.lemmas.Bool.{cases_lt}
use Rattle.std.proofs.lemmas.List.{length_push}
use Rattle.codec_payload_queue.specs.Tiers.{IsSpare, in_tiers, spare_room}
use Rattle.codec_payload_queue.proofs.TierLemmas.{length_most, length_least, tiers_weaker, tiers_with, items_with}
use Rattle.codec_payload_queue.proofs.above.open_tier.Given.{Over}
use Rattle.codec_payload_queue.proofs.above.open_tier.Goals.{After-push_reserved}
use Rattle.codec_payload_queue.proofs.above.open_tier.Goals as goal

whole : (g : Over) (c : After-push_reserved g) → length (in_tiers c.args.tiers.now.items) ≡ 1024 * length c.args.tiers.now.items
whole g c = elim (cases_lt 0 (length c.args.tiers.now.items)) [
  | inl some ↦
      omega (arith, some, length_most 1 c.args.tiers.now.items c.requires.tiers, length_least 1 c.args.tiers.now.items c.requires.tiers some, c.requires.counted, c.if-above-ne0.false)
  | inr none ↦ omega (arith, none, length_most 1 c.args.tiers.now.items c.requires.tiers)
]

given : (g : Over) (c : After-push_reserved g) → IsSpare c.args.tiers.now (Some c.in-Some.tier)
given g c = let P : Option (VecDeque g.row.T.Denot Global) → Type 0 = λ o. IsSpare c.args.tiers.now o in subst P (sym c.in-Some.ensures.value) c.requires.spare

same_items : (g : Over) (c : After-push_reserved g) → in_tiers c.push_reserved.new.self.items ≡ in_tiers c.args.tiers.now.items
same_items g c = ap in_tiers c.push_reserved.ensures.items ∙ items_with c.in-Some.tier c.args.tiers.now.items (given g c).0

one_more : (g : Over) (c : After-push_reserved g) → length c.push_reserved.new.self.items ≡ length c.args.tiers.now.items + 1
one_more g c = ap length c.push_reserved.ensures.items ∙ length_push c.args.tiers.now.items c.in-Some.tier

pub returns-in-Some-clause-tiers : goal.returns-in-Some-clause-tiers
returns-in-Some-clause-tiers g c = rw c.push_reserved.ensures.items (tiers_with c.in-Some.tier c.args.tiers.now.items c.requires.tiers (whole g c) (given g c).0 (given g c).1)

pub returns-in-Some-clause-items : goal.returns-in-Some-clause-items
returns-in-Some-clause-items g c = same_items g c

pub returns-in-Some-clause-place : goal.returns-in-Some-clause-place
returns-in-Some-clause-place g c = omega (arith, c.requires.counted, whole g c, one_more g c)

pub returns-in-Some-clause-room : goal.returns-in-Some-clause-room
returns-in-Some-clause-room g c =
    let old : spare_room c.args.spare.now ≡ 1024 = ap spare_room (sym c.in-Some.ensures.value) in
    let new : spare_room c.take.new.self ≡ 0 = ap spare_room c.in-Some.ensures.after in
    omega (arith, old, new, whole g c, one_more g c, ap length (same_items g c))

pub returns-in_default-clause-tiers : goal.returns-in_default-clause-tiers
returns-in_default-clause-tiers g c = tiers_weaker c.args.tiers.now.items c.requires.tiers

pub returns-then-above-ne0-clause-tiers : goal.returns-then-above-ne0-clause-tiers
returns-then-above-ne0-clause-tiers g c = tiers_weaker c.args.tiers.now.items c.requires.tiers

pub returns-then-above-ne0-clause-place : goal.returns-then-above-ne0-clause-place
returns-then-above-ne0-clause-place g c = omega (arith, length_most 1 c.args.tiers.now.items c.requires.tiers, c.requires.counted, c.if-above-ne0.true)
