use Rattle.std.proofs.Common.{◌≤◌, ◌/◌, ◌^◌, arith, inr, refl}
use Rattle.codec_payload_feedback_congestion.proofs.RembLemmas.{halved}
use Rattle.codec_payload_feedback_congestion.proofs.remb.rounded.Goals as goal

pub loop-exponent-preserved : goal.loop-exponent-preserved
loop-exponent-preserved c = record { fits = omega arith; normal = inr (halved c.args.bitrate c.loop-exponent.exponent (omega arith)) }
