use Rattle.std.proofs.Common.{◌∙◌, ap}
use Rattle.codec_payload_codec.specs.Depacketizers.{is_built_in_depacketizer}
use Rattle.codec_payload_jitter.proofs.OwnLemmas.{stores_then}
use Rattle.codec_payload_receiver.proofs.datagram.StreamKinds.store.Goals as goal

pub returns-clause-own : goal.returns-clause-own
returns-clause-own g c = λ other.
    let first = c.in-Ok.ensures.own other in
    stores_then _ _ c.args.packets.now.buffer c.store_packet.new.packets.buffer c.recover_all-whole.new.packets.buffer first
    (c.recover_all-whole.ensures.own (ap is_built_in_depacketizer first.stays ∙ other))
