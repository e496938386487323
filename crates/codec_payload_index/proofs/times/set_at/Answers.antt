use Rattle.std.proofs.Common.{set, arith}
use Rattle.codec_payload_index.proofs.HalvedLemmas.{pair_replaced, has_pair}
use Rattle.codec_payload_index.proofs.times.set_at.Goals as goal

pub returns-clause-above : goal.returns-clause-above
returns-clause-above c = rw c.lesser.ensures (rw c.deref.ensures.value (pair_replaced c.args.level.now.items c.args.place c.args.time 0 c.requires))

pub returns-clause-within : goal.returns-clause-within
returns-clause-within c = has_pair (set c.args.level.now.items c.args.place c.args.time) c.args.place (grind (arith, c.requires))
