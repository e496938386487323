use Rattle.codec_payload_session_runs.proofs.EndingCallLemmas.{finishes_have_causes}
use Rattle.codec_payload_session_runs.proofs.run.finishes_have_causes.Goals as goal

pub returns : goal.returns
returns c = finishes_have_causes
