use Rattle.std.proofs.Common.{Err, Ok, refl}
use Rattle.codec_payload_c_receiving.proofs.receiver.finish.Goals as goal

pub returns-in-Ok-clause-ends : goal.returns-in-Ok-clause-ends
returns-in-Ok-clause-ends c = record { done = Ok c.in-Ok.field-0; finishes = c.in-Ok.ensures.finished; status_is = refl }

pub returns-in-Err-clause-ends : goal.returns-in-Err-clause-ends
returns-in-Err-clause-ends c = record { done = Err c.in-Err.field-0; finishes = c.in-Err.ensures.finished; status_is = refl }
