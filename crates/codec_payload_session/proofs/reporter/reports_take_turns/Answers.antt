use Rattle.codec_payload_session.proofs.ReporterLemmas.{take_turns}
use Rattle.codec_payload_session.proofs.reporter.reports_take_turns.Goals as goal

pub returns : goal.returns
returns c = take_turns
