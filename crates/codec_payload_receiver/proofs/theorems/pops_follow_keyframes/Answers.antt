use Rattle.codec_payload_receiver.proofs.KeyframeRunLemmas.{datagrams_leave, drops_follow_keyframes, pops_follow_keyframes}
use Rattle.codec_payload_receiver.proofs.theorems.pops_follow_keyframes.Goals as goal

pub returns-clause-marks : goal.returns-clause-marks
returns-clause-marks c = pops_follow_keyframes

pub returns-clause-drops : goal.returns-clause-drops
returns-clause-drops c = drops_follow_keyframes

pub returns-clause-others : goal.returns-clause-others
returns-clause-others c = datagrams_leave
