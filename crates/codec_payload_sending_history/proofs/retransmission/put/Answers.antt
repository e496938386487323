use Rattle.std.proofs.Common.{◌≡◌, ◌∙◌, ap, get_or, refl, rules, List, ℕ}
use Rattle.codec_payload_sending_history.specs.Histories.{with_bytes}
use Rattle.codec_payload_sending_history.specs.Packets.{packets_of}
use Rattle.codec_payload_sending_history.proofs.HistoryLemmas.{put_at, sent_at}
use Rattle.codec_payload_sending_history.proofs.retransmission.put.Goals as goal

pub returns-clause-items : goal.returns-clause-items
returns-clause-items c =
    let items = c.args.packets.now.items in
    let there : c.index_mut.result.now ≡ get_or items c.args.place c.index_mut.result.now = search rules in
    let bytes : c.swap.new.x.items ≡ c.args.spare.now.items = search rules in
    put_at items c.args.place c.index_mut.result.now _ (sent_at items c.args.place c.index_mut.result.now c.requires there) refl
    ∙ ap (λ (bs : List ℕ). with_bytes c.args.place bs (packets_of items)) bytes
