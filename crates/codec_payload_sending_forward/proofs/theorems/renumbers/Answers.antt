use Rattle.codec_payload_sending_forward.proofs.NumberRunLemmas.{renumbers, sends_given}
use Rattle.codec_payload_sending_forward.proofs.theorems.renumbers.Goals as goal

pub returns-clause-numbers : goal.returns-clause-numbers
returns-clause-numbers c = renumbers

pub returns-clause-sent : goal.returns-clause-sent
returns-clause-sent c = sends_given
