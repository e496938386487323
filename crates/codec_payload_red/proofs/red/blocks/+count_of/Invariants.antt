use Rattle.codec_payload_red.proofs.red.blocks.+count_of.Given as goal

abbrev pub decreases-count_of : goal.decreases-count_of
decreases-count_of l = l.most
