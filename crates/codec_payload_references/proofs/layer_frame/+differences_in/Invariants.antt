use Rattle.codec_payload_references.proofs.layer_frame.+differences_in.Given as goal

abbrev pub decreases-differences_in : goal.decreases-differences_in
decreases-differences_in l = l.most
