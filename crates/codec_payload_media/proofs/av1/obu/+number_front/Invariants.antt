use Rattle.codec_payload_media.proofs.av1.obu.+number_front.Given as goal

abbrev pub decreases-number_front : goal.decreases-number_front
decreases-number_front l = l.more
