use Rattle.codec_payload_red.proofs.LongestLevelsLemmas.{kept_is_longest}
use Rattle.codec_payload_red.proofs.red.sender.RedSender.output.Goals as goal

pub returns-clause-longest : goal.returns-clause-longest
returns-clause-longest c = kept_is_longest c.args.self.now _ _ _

pub returns-in_err-put_output-clause-longest : goal.returns-in_err-put_output-clause-longest
returns-in_err-put_output-clause-longest c = kept_is_longest c.args.self.now _ _ _
