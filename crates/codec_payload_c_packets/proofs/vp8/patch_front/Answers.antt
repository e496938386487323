use Rattle.std.proofs.Common.{rules, ◌≡◌, length, take, drop, ◌∷◌, []}
use Rattle.codec_payload_core.specs.Vp8Patch.{Reaches}
use Rattle.codec_payload_c_packets.proofs.PatchFront.{patched_copy}
use Rattle.codec_payload_c_packets.proofs.vp8.patch_front.Goals as goal

pub returns : goal.returns
returns c =
    let copied : c.copy_from_slice.new.self ≡ take c.min-front.result c.args.payload.now = search rules in
    let len : length c.copy_from_slice.new.self ≡ c.min-front.result = search rules in
    let reach : Reaches c.args.patch.now (length (take c.min-front.result c.args.payload.now)) = search rules in
    patched_copy c.args.patch.now c.min-front.result c.args.payload.now c.copy_from_slice.new.self
    (drop c.min-front.result (0 ∷ 0 ∷ 0 ∷ 0 ∷ 0 ∷ 0 ∷ [])) c.copy_to.new.dst copied len c.copy_to.ensures reach
