use Rattle.std.proofs.Common.{◌∙◌}
use Rattle.codec_payload_vpx.specs.Vp9Frames.{frame_header}
use Rattle.codec_payload_vpx.specs.declared.error.MediaError.TheVariants as errors
use Rattle.codec_payload_syntax.proofs.SyntaxLemmas.{is_spelled, is_accepted}
use Rattle.codec_payload_vpx.proofs.vp9.Vp9FrameHeader.parse.Goals as goal

pub returns-clause-spelled : goal.returns-clause-spelled
returns-clause-spelled c = is_spelled errors.MissingBytes frame_header c.args.frame.now c.read.result c.read.ensures

pub returns-clause-accepted : goal.returns-clause-accepted
returns-clause-accepted c = λ h is. c.read.ensures ∙ is_accepted errors.MissingBytes frame_header c.args.frame.now h is
