use Rattle.std.proofs.Common.{◌≡◌, ◌∙◌, ap, sym, arith, get_or}
use Rattle.std.specs.List.{insert}
use Rattle.codec_payload_jitter.specs.NoMediaNumbers.{below, no_media_in}
use Rattle.codec_payload_jitter.proofs.NoMediaLemmas.{below_within, in_already, in_anew}
use Rattle.codec_payload_jitter.proofs.no_media_numbers.put_in.Goals.{else-place-len-via-then-place-len+else-index-number, else-place-len-via-else-place-len}
use Rattle.codec_payload_jitter.proofs.no_media_numbers.put_in.Goals as goal

pub returns-then-index-number : goal.returns-then-index-number
returns-then-index-number c =
    let xs = c.args.no_media_numbers.now.items in
    let n = c.args.number in
    let place : c.place_in-place.result ≡ below n xs = c.place_in-place.ensures ∙ ap (below n) c.deref.ensures.value in
    let d = c.index.result.now in
    let there : get_or xs (below n xs) d ≡ n = ap (λ k. get_or xs k d) (sym place) ∙ sym c.index.ensures ∙ c.if-index-number.true in
    (sym (in_already d n xs (omega (arith, place, c.args.no_media_numbers.now.ok.0)) there))

pub insert-requires : goal.insert-requires
insert-requires c =
    let xs = c.args.no_media_numbers.now.items in
    let place : c.place_in-place.result ≡ below c.args.number xs = c.place_in-place.ensures ∙ ap (below c.args.number) c.deref.ensures.value in
    omega (arith, place, below_within c.args.number xs, c.args.no_media_numbers.now.ok.0)

pub returns : goal.returns
returns c =
    let xs = c.args.no_media_numbers.now.items in
    let n = c.args.number in
    let place : c.place_in-place.result ≡ below n xs = c.place_in-place.ensures ∙ ap (below n) c.deref.ensures.value in
    let put : insert xs (below n xs) n ≡ no_media_in n xs = elim c.else-place-len.branch [
      | else-place-len-via-then-place-len+else-index-number w ↦
          let d = w.index.result.now in
          in_anew d n xs (λ _ there. w.if-index-number.false (w.index.ensures ∙ ap (λ k. get_or xs k d) place ∙ there))
      | else-place-len-via-else-place-len w ↦ in_anew 0 n xs (λ l. absurd (omega (arith, l, place, w.if-place-len.false, c.args.no_media_numbers.now.ok.0)))
    ] in
    rw c.unwrap.ensures at c.insert.ensures.items ∙ ap (λ k. insert xs k n) place ∙ put
