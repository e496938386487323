use Rattle.std.proofs.Common.{◌≡◌, ◌∙◌, ◌+◌, ◌<◌, ◌≤◌, ap, sym, subst, arith, length, take, drop, ◌++◌, ◌∷◌, [], List, ℕ}
use Rattle.std.proofs.lemmas.List.{drop_more}
use Rattle.codec_payload_c_packets.proofs.FrameLemmas.{laid_more}
use Rattle.codec_payload_c_packets.specs.Frames.{laid, rooms_in, size_with}
use Rattle.codec_payload_c_packets.proofs.frames.lay.Goals as goal

pub loop-place-preserved : goal.loop-place-preserved
loop-place-preserved c =
    let cut = c.args.cut.now in
    let ps = c.args.frame.now.payloads in
    let i = c.loop-place.place in
    let at = c.loop-place.at in
    let rest : List (List ℕ) = drop (i + 1) ps in
    let below : i < length ps = omega (arith, c.loop-place-test.true, c.len-place-end.ensures.payloads) in
    let left : drop i ps ≡ c.get-payload.result.now ∷ rest = drop_more ps i [] below ∙ ap (λ (p : List ℕ). p ∷ rest) (sym c.get-payload.ensures) in
    let size : at + (rooms_in cut + length c.get-payload.result.now + size_with (rooms_in cut) rest) ≤ length c.loop-place.bytes =
    subst (λ (xs : List (List ℕ)). at + size_with (rooms_in cut) xs ≤ length c.loop-place.bytes) left c.loop-place.invariant.1 in (
      laid_more cut.headroom cut.tailroom at c.loop-place.bytes c.get-payload.result.now rest (omega (arith, size)) c.put_at.new.bytes c.put_at.ensures
          ∙ ap (λ (xs : List (List ℕ)). take at c.loop-place.bytes ++ laid cut.headroom cut.tailroom xs (drop at c.loop-place.bytes)) (sym left)
          ∙ c.loop-place.invariant.0,
      omega (arith, size, c.put_at.auto.bytes),
    )
