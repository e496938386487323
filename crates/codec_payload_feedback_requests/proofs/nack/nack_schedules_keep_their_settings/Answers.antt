use Rattle.codec_payload_feedback_requests.proofs.NackRunLemmas.{apart, bounded, exact, follows_most, missing, on_time, reported}
use Rattle.codec_payload_feedback_requests.proofs.nack.nack_schedules_keep_their_settings.Goals as goal

pub returns-clause-exact : goal.returns-clause-exact
returns-clause-exact c = exact

pub returns-clause-missing : goal.returns-clause-missing
returns-clause-missing c = missing

pub returns-clause-bounded : goal.returns-clause-bounded
returns-clause-bounded c = bounded

pub returns-clause-apart : goal.returns-clause-apart
returns-clause-apart c = apart

pub returns-clause-on_time : goal.returns-clause-on_time
returns-clause-on_time c = on_time

pub returns-clause-follows_most : goal.returns-clause-follows_most
returns-clause-follows_most c = follows_most

pub returns-clause-reported : goal.returns-clause-reported
returns-clause-reported c = reported
