use Rattle.std.proofs.Common.{◌≡◌, ◌<◌, ◌+◌, ◌-◌, length, arith}
use Rattle.std.proofs.lemmas.Bool.Decides.{nat_tests}
use Rattle.codec_payload_buffer.proofs.FrameEnds.{end_found}
use Rattle.codec_payload_buffer.proofs.buffer.frames.is_frame_before.Goals as goal

pub returns : goal.returns
returns c = λ is.
    let items = c.args.complete.now.items in
    let f = c.at.result.now in
    let next : f.last + 1 ≡ c.args.number = grind (arith, nat_tests, is, c.is_next.ensures) in
    let inside : c.args.place - 1 < length items = omega arith in
    (f.last, next, end_found items (c.args.place - 1) f inside c.at.ensures)
