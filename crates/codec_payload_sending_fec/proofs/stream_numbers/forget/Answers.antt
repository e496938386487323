use Rattle.std.proofs.Common.{rules}
use Rattle.codec_payload_sending_fec.proofs.NumberLemmas.{latest_is}
use Rattle.codec_payload_sending_fec.proofs.stream_numbers.forget.Goals as goal

pub returns-clause-steps : goal.returns-clause-steps
returns-clause-steps c = latest_is c.args.steps.now.items c.truncate.new.self.items c.truncate.ensures.items (search rules)
