use Rattle.std.proofs.Common.{option_map, ◌≤◌, ◌++◌, ap, length, arith, length-append}
use Rattle.std.proofs.lemmas.List.Edits.{length-insert}
use Rattle.codec_payload_queue.specs.Tiers.{in_tiers, tiers_of}
use Rattle.codec_payload_queue.proofs.tiers.TieredQueue.insert.Goals as goal

pub invariant_of-self-else-place-len : goal.invariant_of-self-else-place-len
invariant_of-self-else-place-len g c =
    let xs = c.self.inside.first.items in
    let ys = in_tiers (tiers_of (option_map (λ b. b.value) c.self.inside.above)) in
    let us = c.insert_above.new.first.items in
    let vs = in_tiers (tiers_of (option_map (λ b. b.value) c.insert_above.new.above)) in
    let within : c.args.place ≤ length (xs ++ ys) = rw (← c.self.view_is) at c.requires.place in
    let one_more = length-insert (xs ++ ys) c.args.place c.args.item within in
    record {
      all = omega (arith, ap length c.insert_above.ensures.items, one_more, length-append us vs, length-append xs ys, c.self.invariant.all);
      fit = c.insert_above.ensures.tiered;
    }
