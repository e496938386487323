use Rattle.codec_payload_bandwidth_pacer.proofs.DueLemmas.{leaves_when_due}
use Rattle.codec_payload_bandwidth_pacer.proofs.theorems.packets_leave_when_due.Goals as goal

pub returns : goal.returns
returns c = leaves_when_due
