use Rattle.codec_payload_buffer_runs.proofs.order.ArrivalLemmas.{release_in_order}
use Rattle.codec_payload_buffer_runs.proofs.theorems.release_in_order.Goals as goal

pub returns : goal.returns
returns c = release_in_order
