use Rattle.std.proofs.Common.{◌≡◌, ◌++◌, drop}
use Rattle.codec_payload_jitter.specs.KeptMissing.{within}
use Rattle.codec_payload_jitter.proofs.kept_missing.copy_within.Given as goal

abbrev pub invariant-loop-number : goal.invariant-loop-number
invariant-loop-number l = l.out.items ++ within l.low l.high (drop l.number-index l.numbers) ≡ l.fn.out.items ++ within l.low l.high l.numbers
