use Rattle.codec_payload_fec.proofs.ProtectLemmas.{rebuilds_packets}
use Rattle.codec_payload_fec.proofs.theorems.rebuilds_packets.Goals as goal

pub returns : goal.returns
returns c = rebuilds_packets
