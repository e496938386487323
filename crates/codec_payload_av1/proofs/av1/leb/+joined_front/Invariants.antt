use Rattle.codec_payload_av1.proofs.av1.leb.+joined_front.Given as goal

abbrev pub decreases-joined_front : goal.decreases-joined_front
decreases-joined_front l = l.more
