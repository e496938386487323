use Rattle.codec_payload_buffer.proofs.FrameLemmas.{are_frames, are_in_order, are_apart, are_only_list}
use Rattle.codec_payload_buffer.proofs.buffer.theorems.frames_of_set.Goals as goal

pub returns-clause-same : goal.returns-clause-same
returns-clause-same c = are_frames

pub returns-clause-in_order : goal.returns-clause-in_order
returns-clause-in_order c = are_in_order

pub returns-clause-apart : goal.returns-clause-apart
returns-clause-apart c = are_apart

pub returns-clause-only : goal.returns-clause-only
returns-clause-only c = are_only_list
