use Rattle.std.proofs.Common.{◌≡◌, ◌++◌, drop}
use Rattle.codec_payload_jitter.specs.NotedRanges.{numbers_below}
use Rattle.codec_payload_jitter.proofs.no_media_numbers.append_below.Given as goal

abbrev pub invariant-loop-number : goal.invariant-loop-number
invariant-loop-number l = l.out.items ++ numbers_below l.first (drop l.number-index l.numbers) ≡ l.fn.out.items ++ numbers_below l.first l.numbers
