use Rattle.codec_payload_feedback_congestion.proofs.ArrivalRunLemmas.{reports_arrivals}
use Rattle.codec_payload_feedback_congestion.proofs.theorems.reports_are_arrivals.Goals as goal

pub returns : goal.returns
returns c = reports_arrivals
