use Rattle.codec_payload_answered_runs.proofs.RepeatedRequests.{requests_are_repeated}
use Rattle.codec_payload_answered_runs.proofs.theorems.requests_are_repeated.Goals as goal

pub returns : goal.returns
returns c = requests_are_repeated c.nack_schedules_keep_their_settings.ensures.exact c.nack_schedules_keep_their_settings.ensures.on_time
