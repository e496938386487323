use Rattle.codec_payload_bandwidth_path.proofs.RunLemmas.{limits_by_calls, resends_by_the_share}
use Rattle.codec_payload_bandwidth_path.proofs.theorems.paths_resend_by_the_share.Goals as goal

pub returns-clause-share : goal.returns-clause-share
returns-clause-share c = resends_by_the_share

pub returns-clause-calls : goal.returns-clause-calls
returns-clause-calls c = limits_by_calls
