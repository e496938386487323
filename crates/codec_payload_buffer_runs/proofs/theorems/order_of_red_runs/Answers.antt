use Rattle.codec_payload_buffer_runs.proofs.in_red.RedAlike.{red_sets_count}
use Rattle.codec_payload_buffer_runs.proofs.theorems.order_of_red_runs.Goals as goal

pub returns : goal.returns
returns c = red_sets_count
