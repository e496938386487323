use Rattle.std.proofs.Common.{◌∙◌, ◌∷◌, ap, List, None}
use Rattle.codec_payload_sending_history.specs.Packets.{Sent, packets_of}
use Rattle.codec_payload_sending_history.specs.declared.retransmission.SentPacket.{SentPacket}
use Rattle.codec_payload_sending_history.proofs.HistoryLemmas.{raised_once}
use Rattle.codec_payload_sending_history.proofs.retransmission.raise_once.Goals as goal

pub returns-clause-items : goal.returns-clause-items
returns-clause-items c =
    let first : Sent = record { bytes = c.last_memory-bytes.result.items; resent = None } in
    ap packets_of c.push_front_reserved.ensures.items ∙ ap (λ (xs : List SentPacket). first ∷ packets_of xs) c.last_memory-bytes.ensures.items
    ∙ raised_once c.args.limit c.args.packets.now.items c.last_memory-bytes.result.items c.requires.some c.last_memory-bytes.ensures.empty
