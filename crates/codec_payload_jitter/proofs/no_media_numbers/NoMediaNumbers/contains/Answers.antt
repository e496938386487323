use Rattle.std.proofs.Common.{◌≡◌, ◌∙◌, ap, sym, subst, true, false, Ok, Err}
use Rattle.std.proofs.lemmas.List.Sorted.{searched}
use Rattle.codec_payload_jitter.specs.NoMediaNumbers.{is_in, Rises, Remembered}
use Rattle.codec_payload_jitter.proofs.NoMediaLemmas.{up, in_at, not_between}
use Rattle.codec_payload_jitter.proofs.no_media_numbers.NoMediaNumbers.contains.Goals as goal

pub returns-in-Ok : goal.returns-in-Ok
returns-in-Ok c =
    let n = c.args.number in
    let xs = c.deref.result.now in
    let rises : Rises xs = subst Rises (sym c.deref.ensures.value) c.self.invariant in
    let at = searched xs n (Ok c.in-Ok.field-0) c.in-Ok.ensures.position (up xs rises) in
    let found : is_in n xs ≡ true = in_at n xs c.in-Ok.field-0 at.0 at.1 in
    sym found ∙ ap (is_in n) c.deref.ensures.value ∙ ap (λ (r : Remembered). is_in n r.items) c.self.view_is

pub returns-in-Err : goal.returns-in-Err
returns-in-Err c =
    let n = c.args.number in
    let xs = c.deref.result.now in
    let rises : Rises xs = subst Rises (sym c.deref.ensures.value) c.self.invariant in
    let at = searched xs n (Err c.in-Err.field-0) c.in-Err.ensures.position (up xs rises) in
    let absent : is_in n xs ≡ false = not_between n xs c.in-Err.field-0 at.1 at.2 in
    sym absent ∙ ap (is_in n) c.deref.ensures.value ∙ ap (λ (r : Remembered). is_in n r.items) c.self.view_is
