use Rattle.std.proofs.Common.{rules}
use Rattle.codec_payload_session_stream.proofs.WakingLemmas.{due_and}
use Rattle.codec_payload_session_stream.proofs.dues.least_due.Goals as goal

pub loop-stream-preserved : goal.loop-stream-preserved
loop-stream-preserved c = (
  due_and c.args.idle_timeout c.loop-stream.stream-index _ c.loop-stream.due c.due_or_max.result c.args.streams.now c.stream-item.result
      (search rules) c.loop-stream-test.true c.stream-item.is c.loop-stream.invariant.0 c.due_or_max.ensures c.loop-stream.invariant.1 (search rules),
  search rules,
)
