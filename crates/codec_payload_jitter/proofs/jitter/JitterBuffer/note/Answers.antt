use Rattle.std.proofs.Common.{rules, ◌≡◌, ◌∙◌, ap, length, subst, sym, List, ℕ}
use Rattle.codec_payload_jitter.specs.KeptMissing.{Keeps, Kept, touched, touched_if}
use Rattle.codec_payload_jitter.specs.NoMediaNumbers.{noted_no_media}
use Rattle.codec_payload_jitter.specs.Receiving.{IsCounted}
use Rattle.codec_payload_jitter.specs.Staying.{lowest_if_full}
use Rattle.codec_payload_jitter.proofs.KeptStores.{noted_keeps}
use Rattle.codec_payload_jitter.proofs.jitter.JitterBuffer.note.Goals as goal

pub invariant_of-self-2 : goal.invariant_of-self-2
invariant_of-self-2 g c =
    let ns = c.self.inside.no_media_numbers.items in
    let made : c.touch_if.new.self ≡ touched_if (lowest_if_full ns) (touched c.args.number c.self.inside.kept_missing) =
    c.touch_if.ensures ∙ (ap (λ o. touched_if o c.touch.new.self) (c.lowest_if_full-lowest.ensures ∙ ap lowest_if_full c.make_room.ensures.same) ∙ ap (touched_if (lowest_if_full ns)) c.touch.ensures) in
    let numbers : c.note.new.self.items ≡ noted_no_media c.args.number ns = c.note.ensures ∙ ap (λ (xs : List ℕ). noted_no_media c.args.number xs) c.make_room.ensures.same in
    let keeps = noted_keeps c.args.number c.self.inside.kept_missing c.self.inside.buffer ns c.self.invariant.1 in
    let counted : IsCounted c.with_outcome-self-inside.result (length c.self.inside.buffer.held) = search rules in
    (counted, subst (λ (xs : List ℕ). Keeps c.touch_if.new.self c.self.inside.buffer xs) (sym numbers) (subst (λ (k : Kept). Keeps k c.self.inside.buffer (noted_no_media c.args.number ns)) (sym made) keeps))
