use Rattle.codec_payload_red.proofs.LongestLevelsLemmas.{kept_is_longest}
use Rattle.codec_payload_red.proofs.red.sender.RedSender.wrap_into.Goals as goal

pub returns-clause-longest : goal.returns-clause-longest
returns-clause-longest c = kept_is_longest c.args.self.now _ _ _
