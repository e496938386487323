use Rattle.codec_payload_feedback_congestion.proofs.chunks.+push_digits.Given as goal

abbrev pub decreases-push_digits : goal.decreases-push_digits
decreases-push_digits l = l.count
