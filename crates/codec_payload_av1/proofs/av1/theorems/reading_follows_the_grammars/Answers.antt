use Rattle.codec_payload_av1.proofs.Av1PayloadGrammar.{payload_sound, payload_complete}
use Rattle.codec_payload_av1.proofs.Av1ObuGrammar.{sequence_sound, sequence_complete}
use Rattle.codec_payload_av1.proofs.Av1UnitGrammar.{unit_complete, unit_sound}
use Rattle.codec_payload_av1.proofs.av1.theorems.reading_follows_the_grammars.Goals as goal

pub returns-clause-obus : goal.returns-clause-obus
returns-clause-obus c = λ frame obus. (sequence_complete obus frame, sequence_sound frame obus)

pub returns-clause-payloads : goal.returns-clause-payloads
returns-clause-payloads c = λ bytes p. (payload_complete bytes p, payload_sound bytes p)

pub returns-clause-units : goal.returns-clause-units
returns-clause-units c = λ element o unit. (unit_complete element o, unit_sound element unit)
