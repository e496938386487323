use Rattle.codec_payload_feedback_transport.proofs.SentLemmas.{sent_are_known}
use Rattle.codec_payload_feedback_transport.proofs.theorems.sent_are_known.Goals as goal

pub returns : goal.returns
returns c = sent_are_known
