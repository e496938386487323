use Rattle.codec_payload_keyframes.proofs.GateLemmas.{gates_agree, plain_streams, units_follow_keyframes}
use Rattle.codec_payload_keyframes.proofs.gate.gates_follow_keyframes.Goals as goal

pub returns-clause-agrees : goal.returns-clause-agrees
returns-clause-agrees c = gates_agree

pub returns-clause-follows : goal.returns-clause-follows
returns-clause-follows c = units_follow_keyframes

pub returns-clause-plain : goal.returns-clause-plain
returns-clause-plain c = plain_streams
