use Rattle.codec_payload_vp8.proofs.SentIsTakenLemmas.{first_starts, sent_is_taken}
use Rattle.codec_payload_vp8.proofs.vp8.theorems.sent_payloads_are_taken.Goals as goal

pub returns-clause-starts : goal.returns-clause-starts
returns-clause-starts c = first_starts

pub returns-clause-taken : goal.returns-clause-taken
returns-clause-taken c = sent_is_taken
