use Rattle.codec_payload_timely_runs.proofs.OverdueLemmas.{leave_none_overdue}
use Rattle.codec_payload_timely_runs.proofs.theorems.pops_leave_none_overdue.Goals as goal

pub returns : goal.returns
returns c = leave_none_overdue
