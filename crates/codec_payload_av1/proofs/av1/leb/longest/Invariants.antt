use Rattle.std.proofs.Common.{◌<◌, ◌+◌, ◌-◌, length}
use Rattle.codec_payload_base.specs.Leb.{leb}
use Rattle.codec_payload_av1.proofs.av1.leb.longest.Given as goal

-- with one byte less for the length it didn't fit
abbrev pub invariant-loop-len : goal.invariant-loop-len
invariant-loop-len l = l.room < (l.room - (l.len - 1)) + length (leb (l.room - (l.len - 1)))
