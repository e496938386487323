use Rattle.codec_payload_jitter.proofs.NoMediaLemmas.{passes_alone, passes_in_place}
use Rattle.codec_payload_jitter.proofs.theorems.passes_no_media_alone.Goals as goal

pub returns-clause-alone : goal.returns-clause-alone
returns-clause-alone c = passes_alone

pub returns-clause-in_place : goal.returns-clause-in_place
returns-clause-in_place c = passes_in_place
