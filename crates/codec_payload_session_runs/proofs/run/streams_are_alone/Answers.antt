use Rattle.codec_payload_session_runs.proofs.ReachedLemmas.{reached}
use Rattle.codec_payload_session_runs.proofs.run.streams_are_alone.Goals as goal

pub returns : goal.returns
returns c = λ settings calls s run. (reached settings calls s run).alone
