use Rattle.codec_payload_media.proofs.av1.sequence_header.+skip_operating_points.Given as goal

abbrev pub decreases-skip_operating_points : goal.decreases-skip_operating_points
decreases-skip_operating_points l = l.count
