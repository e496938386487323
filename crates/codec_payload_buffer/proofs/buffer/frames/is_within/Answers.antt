use Rattle.std.proofs.Common.{◌<◌, length, refl}
use Rattle.codec_payload_buffer.proofs.FramePlaces.{within_frames}
use Rattle.codec_payload_buffer.proofs.buffer.frames.is_within.Goals as goal

pub returns-in-Some : goal.returns-in-Some
returns-in-Some c =
    let items = c.args.complete.now.items in
    let some : 0 < length items = c.in-Some.ensures.variant.0 refl in
    within_frames c.args.last items c.in-Some.highest.now c.requires some c.in-Some.ensures.value
