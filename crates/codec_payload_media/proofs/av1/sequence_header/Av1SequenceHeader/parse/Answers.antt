use Rattle.std.proofs.Common.{◌∙◌}
use Rattle.codec_payload_media.specs.Av1SequenceHeaders.{sequence_header}
use Rattle.codec_payload_vpx.specs.declared.error.MediaError.TheVariants as errors
use Rattle.codec_payload_syntax.proofs.SyntaxLemmas.{is_spelled, is_accepted}
use Rattle.codec_payload_media.proofs.av1.sequence_header.Av1SequenceHeader.parse.Goals as goal

pub returns-clause-spelled : goal.returns-clause-spelled
returns-clause-spelled c = is_spelled errors.MissingBytes sequence_header c.args.payload.now c.read.result c.read.ensures

pub returns-clause-accepted : goal.returns-clause-accepted
returns-clause-accepted c = λ h is. c.read.ensures ∙ is_accepted errors.MissingBytes sequence_header c.args.payload.now h is
