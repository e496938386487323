use Rattle.std.proofs.Common.{◌≡◌, vec_len}
use Rattle.codec_payload_jitter.specs.NoMediaNumbers.{passed_no_media, no_media_left}
use Rattle.codec_payload_jitter.proofs.no_media_numbers.pass_no_media_numbers.Given as goal

-- the rest of the loop leads to the same result
abbrev pub invariant-loop-no_media_numbers : goal.invariant-loop-no_media_numbers
invariant-loop-no_media_numbers g l = record {
  buffer : passed_no_media l.buffer l.no_media_numbers.items ≡ passed_no_media l.initial.buffer l.initial.no_media_numbers.items;
  no_media_numbers : no_media_left l.buffer l.no_media_numbers.items ≡ no_media_left l.initial.buffer l.initial.no_media_numbers.items;
}

abbrev pub decreases-loop-no_media_numbers : goal.decreases-loop-no_media_numbers
decreases-loop-no_media_numbers g l = vec_len l.no_media_numbers
