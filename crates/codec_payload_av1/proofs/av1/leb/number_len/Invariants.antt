use Rattle.std.proofs.Common.{◌≡◌, ◌+◌, ◌-◌, length}
use Rattle.codec_payload_base.specs.Leb.{leb, leb_within}
use Rattle.codec_payload_av1.proofs.av1.leb.number_len.Given as goal

abbrev pub invariant-loop-i : goal.invariant-loop-i
invariant-loop-i l = length (leb l.number) ≡ (l.i - 1) + length (leb_within (10 - l.i) l.rest)
