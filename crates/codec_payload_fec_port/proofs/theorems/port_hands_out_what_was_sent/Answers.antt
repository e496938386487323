use Rattle.codec_payload_fec_port.proofs.SoundPorts.{port_hands_out_what_was_sent}
use Rattle.codec_payload_fec_port.proofs.theorems.port_hands_out_what_was_sent.Goals as goal

pub returns : goal.returns
returns c = port_hands_out_what_was_sent
