use Rattle.codec_payload_session_runs.proofs.BeginningLemmas.{two_datagrams_begin}
use Rattle.codec_payload_session_runs.proofs.run.two_datagrams_begin.Goals as goal

pub returns : goal.returns
returns c = two_datagrams_begin
