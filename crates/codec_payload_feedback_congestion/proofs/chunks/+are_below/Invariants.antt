use Rattle.codec_payload_feedback_congestion.proofs.chunks.+are_below.Given as goal

-- proposed from what the function passes where it calls itself
abbrev pub decreases-are_below : goal.decreases-are_below
decreases-are_below l = l.count
