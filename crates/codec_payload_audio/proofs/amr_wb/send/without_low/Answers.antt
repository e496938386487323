use Rattle.std.proofs.Common.{arith}
use Rattle.std.proofs.lemmas.Nat.{shr_split}
use Rattle.codec_payload_audio.proofs.amr_wb.send.without_low.Goals as goal

pub returns : goal.returns
returns c = omega (arith, c.ranges.byte.fits, shr_split c.args.byte c.args.spare)
