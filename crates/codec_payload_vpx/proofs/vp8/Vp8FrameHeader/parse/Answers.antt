use Rattle.std.proofs.Common.{◌∙◌, arith}
use Rattle.codec_payload_vpx.proofs.Vp8Grammar.{vp8_again, vp8_spelled}
use Rattle.codec_payload_vpx.proofs.vp8.Vp8FrameHeader.parse.Goals as goal

pub returns-clause-spelled : goal.returns-clause-spelled
returns-clause-spelled c = vp8_spelled c.args.frame.now c.read.result (λ i. omega (arith, c.type_inv.frame i)) c.read.ensures

pub returns-clause-accepted : goal.returns-clause-accepted
returns-clause-accepted c = λ h is. c.read.ensures ∙ vp8_again c.args.frame.now h is
