use Rattle.std.proofs.Common.{◌∙◌, ◌+◌, ◌++◌, ◌∷◌, [], ap, arith, sym}
use Rattle.std.proofs.lemmas.List.{append_assoc}
use Rattle.codec_payload_jitter.specs.Missing.{numbers_between}
use Rattle.codec_payload_jitter.proofs.RangeLemmas.{between_next}
use Rattle.codec_payload_jitter.proofs.no_media_numbers.append_range.Goals as goal

pub loop-number-preserved : goal.loop-number-preserved
loop-number-preserved c =
    let n = c.loop-number.number in
    let end = c.args.end in
    let out = c.loop-number.out.items in
    ap (λ xs. xs ++ numbers_between (n + 1) end) c.in_ok-push.ensures.items
    ∙ (append_assoc out (n ∷ []) (numbers_between (n + 1) end)
    ∙ (ap (λ ns. out ++ ns) (sym (between_next n end (omega (arith, c.loop-number-test.true)))) ∙ c.loop-number.invariant))
