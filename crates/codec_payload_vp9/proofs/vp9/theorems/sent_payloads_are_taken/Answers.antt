use Rattle.codec_payload_vp9.proofs.SentIsTakenLemmas.{sent_is_taken}
use Rattle.codec_payload_vp9.proofs.vp9.theorems.sent_payloads_are_taken.Goals as goal

pub returns-clause-taken : goal.returns-clause-taken
returns-clause-taken c = sent_is_taken
