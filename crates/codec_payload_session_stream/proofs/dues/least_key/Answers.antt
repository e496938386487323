use Rattle.std.proofs.Common.{arith}
use Rattle.codec_payload_session_stream.proofs.DeadlineLemmas.{least_fed, least_other}
use Rattle.codec_payload_session_stream.proofs.dues.least_key.Goals as goal

pub returns-then-key-least : goal.returns-then-key-least
returns-then-key-least c =
    least_fed c.args.waking.now c.args.idle_timeout c.due_key-key.result c.least-least.result c.index-streams-waking.result c.args.streams.now (c.requires.timed c.if-not-waking.false)
    c.if-waking-idle_timeout.false c.index-streams-waking.is c.due_key-key.ensures c.least-least.ensures c.if-key-least.true

pub returns-then-is_due_at : goal.returns-then-is_due_at
returns-then-is_due_at c =
    least_other c.args.waking.now c.args.idle_timeout c.due_key-key.result c.least-least.result c.index-streams-waking.result c.args.streams.now (c.requires.timed c.if-not-waking.false)
    c.if-waking-idle_timeout.false c.index-streams-waking.is c.due_key-key.ensures c.least-least.ensures (omega (arith, c.if-key-least.false)) (c.is_due_at.ensures c.if-is_due_at.true)
