use Rattle.std.proofs.Common.{arith}
use Rattle.codec_payload_session_stream.proofs.WakingLemmas.{next_none, next_past, next_some}
use Rattle.codec_payload_session_stream.proofs.waking.next_due.Goals as goal

pub returns-in_default : goal.returns-in_default
returns-in_default c = next_none c.args.from c.args.count c.args.now c.args.times.now c.first_from.result c.first_from.ensures c.in_default.is c.requires

pub returns-then-place-count : goal.returns-then-place-count
returns-then-place-count c = next_some c.args.from c.args.count c.in-Some.place c.args.now c.args.times.now c.first_from.result c.first_from.ensures c.in-Some.is c.if-place-count.true

pub returns-else-place-count : goal.returns-else-place-count
returns-else-place-count c = next_past c.args.from c.args.count c.in-Some.place c.args.now c.args.times.now c.first_from.result c.first_from.ensures c.in-Some.is (omega (arith, c.if-place-count.false))
