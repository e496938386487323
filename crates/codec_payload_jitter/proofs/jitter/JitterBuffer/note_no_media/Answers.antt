use Rattle.std.proofs.Common.{◌≡◌, ◌∙◌, ◌-◌, ◌≤◌, ap, arith, sym, subst, List, ℕ, Option}
use Rattle.codec_payload_jitter.specs.KeptMissing.{Keeps, Kept, touched_from, touched_range}
use Rattle.codec_payload_jitter.specs.NotedRanges.{lowest_if_crowded, noted_between}
use Rattle.codec_payload_jitter.proofs.RangeStores.{ranged_keeps}
use Rattle.codec_payload_jitter.proofs.jitter.JitterBuffer.note_no_media.Goals as goal

pub invariant_of-self-2 : goal.invariant_of-self-2
invariant_of-self-2 g c =
    let first = c.start_of-first.result in
    let end = c.args.end in
    let ns = c.self.inside.no_media_numbers.items in
    let order : first ≤ end = omega (arith, c.if-first-end.false) in
    let made : c.touch_from.new.self ≡ touched_from (lowest_if_crowded (end - first) ns) (touched_range first end c.self.inside.kept_missing) =
    c.touch_from.ensures ∙ (ap (λ (o : Option ℕ). touched_from o c.touch_range.new.self) c.lowest_if_crowded-lowest.ensures ∙ ap (touched_from (lowest_if_crowded (end - first) ns)) c.touch_range.ensures) in
    let numbers : c.note_range.new.self.items ≡ noted_between first end ns = c.in_ok-noted.ensures.items in
    let keeps = ranged_keeps first end c.self.inside.kept_missing c.self.inside.buffer ns c.note_range.ensures.rises order c.self.invariant.1 in
    (c.self.invariant.0, subst (λ (xs : List ℕ). Keeps c.touch_from.new.self c.self.inside.buffer xs) (sym numbers) (subst (λ (k : Kept). Keeps k c.self.inside.buffer (noted_between first end ns)) (sym made) keeps))
