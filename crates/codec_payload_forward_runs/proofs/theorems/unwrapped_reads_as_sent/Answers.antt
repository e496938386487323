use Rattle.codec_payload_forward_runs.proofs.FirstHopLemmas.{reads_as_sent}
use Rattle.codec_payload_forward_runs.proofs.theorems.unwrapped_reads_as_sent.Goals as goal

pub returns : goal.returns
returns c = reads_as_sent
