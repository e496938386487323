use Rattle.std.proofs.Common.{◌∙◌}
use Rattle.codec_payload_media.specs.Av1OperatingPoints.{numbered_point}
use Rattle.codec_payload_vpx.specs.declared.error.MediaError.TheVariants as errors
use Rattle.codec_payload_syntax.proofs.SyntaxLemmas.{is_spelled, is_accepted}
use Rattle.codec_payload_media.proofs.av1.operating_points.operating_point.Goals as goal

pub returns-clause-spelled : goal.returns-clause-spelled
returns-clause-spelled c = is_spelled errors.MissingBytes (numbered_point c.args.index) c.args.payload.now c.read_payload.result c.read_payload.ensures

pub returns-clause-accepted : goal.returns-clause-accepted
returns-clause-accepted c = λ point is. c.read_payload.ensures ∙ is_accepted errors.MissingBytes (numbered_point c.args.index) c.args.payload.now point is
