use Rattle.codec_payload_bandwidth_pacer.proofs.ShareLemmas.{resends_are_shared}
use Rattle.codec_payload_bandwidth_pacer.proofs.ApartLemmas.{resends_are_apart}
use Rattle.codec_payload_bandwidth_pacer.proofs.theorems.resends_cannot_flood.Goals as goal

pub returns-clause-shared : goal.returns-clause-shared
returns-clause-shared c = resends_are_shared

pub returns-clause-apart : goal.returns-clause-apart
returns-clause-apart c = resends_are_apart
