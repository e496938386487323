use Rattle.codec_payload_session_runs.proofs.EndingCallLemmas.{ends_have_causes}
use Rattle.codec_payload_session_runs.proofs.run.ends_have_causes.Goals as goal

pub returns : goal.returns
returns c = ends_have_causes
