use Rattle.std.proofs.Common.{ap}
use Rattle.codec_payload_jitter.proofs.OwnLemmas.{stores_none}
use Rattle.codec_payload_jitter.specs.Receiving.{Receiving}
use Rattle.codec_payload_receiver.proofs.OwnLemmas.{keeps_packets}
use Rattle.codec_payload_receiver.proofs.receiver.Receiver.receive_by.Goals as goal

pub returns-in-Keep-clause-own : goal.returns-in-Keep-clause-own
returns-in-Keep-clause-own g c = λ other.
    stores_none _ _ c.args.self.now.packets.buffer c.keep.new.self.packets.buffer
    (ap (λ (x : Receiving). x.buffer) (keeps_packets c.args.now c.in-Keep.origin c.bytes.result.now c.args.self.now c.keep.new.self c.keep.result c.keep.ensures))
