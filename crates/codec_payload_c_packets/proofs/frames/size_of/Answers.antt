use Rattle.std.proofs.Common.{◌≡◌, ◌∙◌, arith, drop, []}
use Rattle.std.proofs.lemmas.List.{drop_all}
use Rattle.codec_payload_c_packets.proofs.FrameLemmas.{counted_all}
use Rattle.codec_payload_c_packets.proofs.frames.size_of.Goals as goal

pub returns : goal.returns
returns c =
    let none_left : drop c.loop-place.place c.args.frame.now.payloads ≡ [] =
    drop_all c.loop-place.place c.args.frame.now.payloads (omega (arith, c.loop-place-test.false, c.len-place-end.ensures.payloads)) in
    counted_all c.loop-place.size _ _ none_left c.loop-place.invariant.1 ∙ c.loop-place.invariant.0
