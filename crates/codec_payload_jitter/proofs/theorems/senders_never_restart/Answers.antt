use Rattle.codec_payload_jitter.proofs.RestartLemmas.{never_restarts}
use Rattle.codec_payload_jitter.proofs.theorems.senders_never_restart.Goals as goal

pub returns : goal.returns
returns c = never_restarts
