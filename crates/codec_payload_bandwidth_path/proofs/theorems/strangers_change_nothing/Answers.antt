use Rattle.codec_payload_bandwidth_path.proofs.RunLemmas.{packets_behind_change_nothing, strangers_change_nothing}
use Rattle.codec_payload_bandwidth_path.proofs.theorems.strangers_change_nothing.Goals as goal

pub returns-clause-first : goal.returns-clause-first
returns-clause-first c = strangers_change_nothing

pub returns-clause-behind : goal.returns-clause-behind
returns-clause-behind c = packets_behind_change_nothing
