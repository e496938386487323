use Rattle.std.proofs.Common.{length}
use Rattle.codec_payload_index.proofs.times.+first_from.Given as goal

-- proposed from what the function passes where it calls itself
abbrev pub decreases-first_from : goal.decreases-first_from
decreases-first_from l = length l.levels.now
