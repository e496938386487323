use Rattle.codec_payload_feedback_congestion.proofs.ArrivalLaws.{arrivals_reported}
use Rattle.codec_payload_feedback_congestion.proofs.theorems.arrivals_are_reported.Goals as goal

pub returns : goal.returns
returns c = arrivals_reported
