use Rattle.std.proofs.Common.{arith}
use Rattle.codec_payload_red.proofs.SenderHistoryLemmas.{back_found}
use Rattle.codec_payload_red.proofs.red.sender.back_of.Goals as goal

pub returns : goal.returns
returns c = back_found c.args.history.now.items c.args.distance c.in_ok-index.index c.get.result (omega (arith, c.in_ok-index.ensures.0, c.in_ok-index.ensures.1)) c.get.ensures.item
