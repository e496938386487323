use Rattle.std.proofs.Common.{◌≡◌, drop}
use Rattle.codec_payload_sending_fec.specs.Steps.{steps_of}
use Rattle.codec_payload_sending_fec.specs.StreamNumbers.{without_later}
use Rattle.codec_payload_sending_fec.proofs.stream_numbers.without_later.Given as goal

-- the steps that are left lead to the same number
abbrev pub invariant-loop-place : goal.invariant-loop-place
invariant-loop-place l = without_later l.number l.answer (drop l.place (steps_of l.steps.items)) ≡ without_later l.number l.sent (steps_of l.steps.items)
