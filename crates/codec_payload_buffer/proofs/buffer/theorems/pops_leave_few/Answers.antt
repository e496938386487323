use Rattle.codec_payload_buffer.proofs.BlankLemmas.{leaves_few, takes_away}
use Rattle.codec_payload_buffer.proofs.buffer.theorems.pops_leave_few.Goals as goal

pub returns-clause-few : goal.returns-clause-few
returns-clause-few c = leaves_few

pub returns-clause-away : goal.returns-clause-away
returns-clause-away c = takes_away
