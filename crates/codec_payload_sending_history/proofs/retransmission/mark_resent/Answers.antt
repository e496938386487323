use Rattle.std.proofs.Common.{◌≡◌, rules, get_or}
use Rattle.std.proofs.lemmas.List.{map-set}
use Rattle.codec_payload_sending_history.specs.Packets.{sent_of}
use Rattle.codec_payload_sending_history.proofs.HistoryLemmas.{sent_at}
use Rattle.codec_payload_sending_history.proofs.retransmission.mark_resent.Goals as goal

pub returns-clause-marked : goal.returns-clause-marked
returns-clause-marked c =
    let items = c.args.packets.now.items in
    let there : c.index_mut.result.now ≡ get_or items c.args.place c.index_mut.result.now = search rules in
    (sent_of c.index_mut.result.now, sent_at items c.args.place c.index_mut.result.now c.requires there, map-set sent_of items c.args.place _)
