use Rattle.std.proofs.Common.{length}
use Rattle.codec_payload_red.proofs.red.sender.+choose.Given as goal

abbrev pub decreases-choose : goal.decreases-choose
decreases-choose l = length l.distances.now
