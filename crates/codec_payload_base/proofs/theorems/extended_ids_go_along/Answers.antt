use Rattle.codec_payload_base.proofs.ExtendedLemmas.{ids_go_along_128, ids_go_along_32768, numbers_go_along_128, numbers_go_along_256, numbers_go_along_32768}
use Rattle.codec_payload_base.proofs.theorems.extended_ids_go_along.Goals as goal

pub returns-clause-of_7_bits : goal.returns-clause-of_7_bits
returns-clause-of_7_bits c = numbers_go_along_128

pub returns-clause-of_8_bits : goal.returns-clause-of_8_bits
returns-clause-of_8_bits c = numbers_go_along_256

pub returns-clause-of_15_bits : goal.returns-clause-of_15_bits
returns-clause-of_15_bits c = numbers_go_along_32768

pub returns-clause-short_ids : goal.returns-clause-short_ids
returns-clause-short_ids c = ids_go_along_128

pub returns-clause-long_ids : goal.returns-clause-long_ids
returns-clause-long_ids c = ids_go_along_32768
