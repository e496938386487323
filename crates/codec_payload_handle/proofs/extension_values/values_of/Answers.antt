use Rattle.std.proofs.Common.{rules, ◌∙◌, ap}
use Rattle.codec_payload_handle.specs.HeaderValues.{values_given}
use Rattle.codec_payload_handle.proofs.HeaderLemmas.{values_back}
use Rattle.codec_payload_handle.proofs.extension_values.values_of.Goals as goal

pub returns-clause-comes_back : goal.returns-clause-comes_back
returns-clause-comes_back c = ap values_given (search rules) ∙ values_back c.args.values.now
