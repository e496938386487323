use Rattle.std.proofs.Common.{refl}
use Rattle.codec_payload_session_runs.proofs.run.do_step.Goals as goal

pub returns-in-AddPair : goal.returns-in-AddPair
returns-in-AddPair c = rw c.in-AddPair.is (c.add_pair.result, refl, (c.add_pair.ensures.ok, c.add_pair.ensures.err))
