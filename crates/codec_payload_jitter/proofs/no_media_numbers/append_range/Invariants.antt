use Rattle.std.proofs.Common.{◌≡◌, ◌++◌}
use Rattle.codec_payload_jitter.specs.Missing.{numbers_between}
use Rattle.codec_payload_jitter.proofs.no_media_numbers.append_range.Given as goal

abbrev pub invariant-loop-number : goal.invariant-loop-number
invariant-loop-number l = l.out.items ++ numbers_between l.number l.end ≡ l.fn.out.items ++ numbers_between l.first l.end
