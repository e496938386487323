use Rattle.codec_payload_audio.proofs.AmrWbGrammarLemmas.{spelled_is_received, received_is_spelled, sent_is_spelled}
use Rattle.codec_payload_audio.proofs.theorems.payloads_follow_the_grammar.Goals as goal

pub returns-clause-received : goal.returns-clause-received
returns-clause-received c = spelled_is_received

pub returns-clause-spelled : goal.returns-clause-spelled
returns-clause-spelled c = received_is_spelled

pub returns-clause-sent : goal.returns-clause-sent
returns-clause-sent c = sent_is_spelled
