use Rattle.std.proofs.Common.{◌≡◌, ◌∙◌, ◌++◌, ◌∷◌, [], ◌<◌, length, take, sym, ap, arith, ℕ, List, add-one}
use Rattle.std.proofs.Math.Seq.{take-suc, take-length}
use Rattle.codec_payload_index.specs.Times.{halved}
use Rattle.codec_payload_index.proofs.HalvedLemmas.{pairs_of}
use Rattle.codec_payload_index.proofs.times.above.Goals as goal

pub loop-pair-preserved : goal.loop-pair-preserved
loop-pair-preserved c =
    let hs = halved c.args.level.now in
    let k = c.loop-pair.pair in
    let within : k < length hs = omega (arith, pairs_of c.args.level.now, c.loop-pair-test.true) in
    rw add-one (c.in_ok-push.ensures.items ∙ ap (λ (ts : List ℕ). ts ++ c.lesser.result ∷ []) c.loop-pair.invariant ∙ ap (λ (t : ℕ). take k hs ++ t ∷ []) c.lesser.ensures ∙ sym (take-suc hs k 0 within))

pub returns : goal.returns
returns c =
    let hs = halved c.args.level.now in
    let all : c.loop-pair.pair ≡ length hs = omega (arith, pairs_of c.args.level.now, c.loop-pair-test.false, c.loop-pair.auto.pair-end) in
    c.loop-pair.invariant ∙ ap (λ (k : ℕ). take k hs) all ∙ take-length hs
