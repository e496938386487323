use Rattle.std.proofs.Common.{◌≡◌}
use Rattle.codec_payload_fec.specs.Strings.{xor_all}
use Rattle.codec_payload_fec.specs.Sums.{sum_of}
use Rattle.codec_payload_fec.specs.Writing.{chosen_in, lists_of}
use Rattle.codec_payload_fec.proofs.writing.sum_of.Given as goal

-- the chosen packets in front of the place were added
abbrev pub invariant-loop-place : goal.invariant-loop-place
invariant-loop-place l = sum_of l.sum ≡ xor_all (chosen_in l.place l.count l.n (lists_of l.group))
