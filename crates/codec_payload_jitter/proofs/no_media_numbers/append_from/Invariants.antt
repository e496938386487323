use Rattle.std.proofs.Common.{◌≡◌, ◌++◌, drop}
use Rattle.codec_payload_jitter.specs.NotedRanges.{numbers_from_on}
use Rattle.codec_payload_jitter.proofs.no_media_numbers.append_from.Given as goal

abbrev pub invariant-loop-number : goal.invariant-loop-number
invariant-loop-number l = l.out.items ++ numbers_from_on l.end (drop l.number-index l.numbers) ≡ l.fn.out.items ++ numbers_from_on l.end l.numbers
