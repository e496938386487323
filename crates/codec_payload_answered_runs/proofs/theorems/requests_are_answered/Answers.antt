use Rattle.codec_payload_answered_runs.proofs.AnsweredLemmas.{requests_are_answered}
use Rattle.codec_payload_answered_runs.proofs.theorems.requests_are_answered.Goals as goal

pub returns : goal.returns
returns c = requests_are_answered
