use Rattle.codec_payload_answered_runs.proofs.RunParts.{filled_gaps_lose_none, filled_gaps_with_history}
use Rattle.codec_payload_answered_runs.proofs.theorems.filled_gaps_lose_none.Goals as goal

pub returns : goal.returns
returns c = record { plain = filled_gaps_lose_none; with_history = filled_gaps_with_history }
