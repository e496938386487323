use Rattle.std.proofs.Common.{arith, refl, ◌+◌, ◌*◌, ◌<◌, ◌≤◌, length}
use Rattle.codec_payload_audio.proofs.ShiftLemmas.{across, shifted_more}
use Rattle.codec_payload_audio.proofs.amr_wb.shift.write_shifted.Goals as goal

pub loop-i-preserved : goal.loop-i-preserved
loop-i-preserved c =
    let bs = c.args.bytes.now in
    let i = c.loop-i.i in
    let inside : c.args.start + i < length c.args.to.now = omega arith in
    let there : 8 * i + c.args.shift + 8 ≤ 8 * length bs = omega arith in
    shifted_more c.args.to.now c.loop-i.to c.args.start bs c.args.shift i _ inside
    (across bs i c.args.shift _ _ c.requires.some c.requires.few there refl refl (omega (arith, c.type_inv.bytes i)) (omega (arith, c.type_inv.bytes (i + 1))))
    c.loop-i.invariant
