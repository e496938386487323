use Rattle.std.proofs.Common.{length}
use Rattle.codec_payload_red.proofs.red.sender.+put_levels.Given as goal

abbrev pub decreases-put_levels : goal.decreases-put_levels
decreases-put_levels l = length l.distances.now
