use Rattle.std.proofs.Common.{refl}
use Rattle.codec_payload_c_packets.proofs.WholeLemmas.{lays_whole}
use Rattle.codec_payload_c_packets.proofs.frames.packetize_into.Goals as goal

pub returns-then-is_sent_whole-clause-lays : goal.returns-then-is_sent_whole-clause-lays
returns-then-is_sent_whole-clause-lays c =
    lays_whole c.args.sender.now _ c.args.frame.now.cut.now c.args.frame.now.bytes.now c.hand_over_whole.result _ (c.is_sent_whole.ensures.step c.if-is_sent_whole.true) c.hand_over_whole.ensures.same
    c.hand_over_whole.ensures.lays refl refl refl
