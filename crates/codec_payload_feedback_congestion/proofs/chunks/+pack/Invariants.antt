use Rattle.codec_payload_feedback_congestion.proofs.chunks.+pack.Given as goal

-- proposed from what the function passes where it calls itself
abbrev pub decreases-pack : goal.decreases-pack
decreases-pack l = l.count
