use Rattle.codec_payload_sending_forward.proofs.IdRunLemmas.{follows_latest_id, keeps_latest_id}
use Rattle.codec_payload_sending_forward.proofs.theorems.goes_on_behind_the_latest_picture.Goals as goal

pub returns-clause-latest : goal.returns-clause-latest
returns-clause-latest c = keeps_latest_id

pub returns-clause-next : goal.returns-clause-next
returns-clause-next c = follows_latest_id
