use Rattle.codec_payload_bandwidth_pacer.proofs.RunLemmas.{leaves_by_the_rate, leaves_by_the_time}
use Rattle.codec_payload_bandwidth_pacer.proofs.theorems.packets_leave_by_the_rate.Goals as goal

pub returns-clause-rate : goal.returns-clause-rate
returns-clause-rate c = leaves_by_the_rate

pub returns-clause-time : goal.returns-clause-time
returns-clause-time c = leaves_by_the_time
