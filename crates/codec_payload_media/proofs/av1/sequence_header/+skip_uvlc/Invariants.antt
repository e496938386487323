use Rattle.codec_payload_media.proofs.av1.sequence_header.+skip_uvlc.Given as goal

abbrev pub decreases-skip_uvlc : goal.decreases-skip_uvlc
decreases-skip_uvlc l = l.most
