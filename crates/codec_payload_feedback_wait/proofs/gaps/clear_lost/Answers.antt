use Rattle.std.proofs.Common.{rules}
use Rattle.std.proofs.lemmas.List.Edits.{map_over_more}
use Rattle.codec_payload_feedback_wait.specs.Gaps.{unless_lost}
use Rattle.codec_payload_feedback_wait.proofs.gaps.clear_lost.Goals as goal

pub loop-place-preserved : goal.loop-place-preserved
loop-place-preserved c = search (rules, map_over_more (unless_lost c.args.now c.args.lost_after))
