use Rattle.codec_payload_feedback_transport.proofs.NumberingLemmas.{numbers_come_back}
use Rattle.codec_payload_feedback_transport.proofs.theorems.numbers_come_back.Goals as goal

pub returns : goal.returns
returns c = numbers_come_back
