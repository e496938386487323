use Rattle.std.proofs.Common.{◌∙◌, ap}
use Rattle.codec_payload_codec.specs.Depacketizers.{is_built_in_depacketizer}
use Rattle.codec_payload_buffer.specs.Steps.{State}
use Rattle.codec_payload_jitter.proofs.OwnLemmas.{stores_then}
use Rattle.codec_payload_receiver.proofs.receiver.Receiver.choose.Goals as goal

pub returns-clause-own : goal.returns-clause-own
returns-clause-own g c = λ other.
    let before : State = c.args.self.now.packets.buffer in
    let mid : State = c.settle_anew.new.self.packets.buffer in
    let first = c.settle_anew.ensures.own other in
    stores_then _ _ before mid c.hear_rarely.new.self.packets.buffer first (c.hear_rarely.ensures.own (ap is_built_in_depacketizer first.stays ∙ other))
