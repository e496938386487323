use Rattle.std.proofs.Common.{◌≡◌, length}
use Rattle.codec_payload_feedback_xr.specs.Xr.{first_for, sub_blocks_in}
use Rattle.codec_payload_feedback_xr.proofs.reading.first_for.Given as goal

abbrev pub invariant-loop-answer : goal.invariant-loop-answer
invariant-loop-answer l = first_for l.ssrc (sub_blocks_in l.rest) ≡ first_for l.ssrc (sub_blocks_in l.contents)

abbrev pub decreases-loop-answer : goal.decreases-loop-answer
decreases-loop-answer l = length l.rest
