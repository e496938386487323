use Rattle.codec_payload_edges.proofs.OwnPictureLemmas.{vp8_sends_in_order, vp9_sends_in_order}
use Rattle.codec_payload_edges.proofs.theorems.packetizers_send_in_order.Goals as goal

pub returns-clause-vp8 : goal.returns-clause-vp8
returns-clause-vp8 c = vp8_sends_in_order

pub returns-clause-vp9 : goal.returns-clause-vp9
returns-clause-vp9 c = vp9_sends_in_order
