use Rattle.std.proofs.Common.{◌≡◌, drop}
use Rattle.codec_payload_c_receiving.specs.AdaptiveWaits.{after_all_missing}
use Rattle.codec_payload_c_receiving.proofs.adaptive_wait.note_missing.Given as goal

-- what is left of the numbers leads to the same end
abbrev pub invariant-loop-number : goal.invariant-loop-number
invariant-loop-number l = after_all_missing l.now (drop l.number-index l.numbers) l.wait ≡ after_all_missing l.now l.numbers l.initial.wait
