use Rattle.codec_payload_c_packets.proofs.PatchFront.{reaches_payload}
use Rattle.codec_payload_c_packets.specs.Vp8.{builder_of}
use Rattle.codec_payload_c_packets.proofs.vp8.set_fields.Goals as goal

pub patch_front-requires-clause-reach : goal.patch_front-requires-clause-reach
patch_front-requires-clause-reach c =
    reaches_payload (builder_of c.in-Ok.descriptor c.args.values.now) c.in-Ok-patch_to.patch c.args.payload.now c.in-Ok.ensures.accepted.0 c.in-Ok-patch_to.ensures.patches c.in-Ok.ensures.accepted.1
