use Rattle.codec_payload_buffer_runs.proofs.order.RunLogs.{only_sets_count}
use Rattle.codec_payload_buffer_runs.proofs.theorems.order_of_runs.Goals as goal

pub returns : goal.returns
returns c = only_sets_count
