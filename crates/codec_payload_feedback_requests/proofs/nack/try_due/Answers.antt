use Rattle.std.proofs.Common.{rules}
use Rattle.std.proofs.lemmas.List.Edits.{map_over_more}
use Rattle.codec_payload_feedback_requests.specs.NackSchedule.{tried_if_due}
use Rattle.codec_payload_feedback_requests.proofs.nack.try_due.Goals as goal

pub loop-request-preserved : goal.loop-request-preserved
loop-request-preserved c = search (rules, map_over_more (tried_if_due c.args.tries c.args.retry c.args.now))
