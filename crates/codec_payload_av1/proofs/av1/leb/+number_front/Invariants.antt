use Rattle.codec_payload_av1.proofs.av1.leb.+number_front.Given as goal

abbrev pub decreases-number_front : goal.decreases-number_front
decreases-number_front l = l.more
