use Rattle.std.proofs.Common.{sym, arith}
use Rattle.codec_payload_red.proofs.SenderHistoryLemmas.{deepest_last}
use Rattle.codec_payload_red.proofs.red.sender.depth_of.Goals as goal

pub returns-in-len1-up : goal.returns-in-len1-up
returns-in-len1-up c = sym (deepest_last c.args.distances.now 0 (omega arith))
