use Rattle.std.proofs.Common.{◌≡◌, ◌+◌, drop}
use Rattle.codec_payload_jitter.specs.NoMediaNumbers.{below}
use Rattle.codec_payload_jitter.proofs.no_media_numbers.place_in.Given as goal

abbrev pub invariant-loop-i : goal.invariant-loop-i
invariant-loop-i l = below l.number l.no_media_numbers ≡ l.i + below l.number (drop l.i l.no_media_numbers)
