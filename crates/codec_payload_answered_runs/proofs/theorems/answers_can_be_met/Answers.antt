use Rattle.codec_payload_answered_runs.proofs.ComeBackExamples.{answers_can_be_met}
use Rattle.codec_payload_answered_runs.proofs.theorems.answers_can_be_met.Goals as goal

pub returns : goal.returns
returns c = answers_can_be_met
