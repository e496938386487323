use Rattle.codec_payload_rtcp.proofs.ItemLemmas.{entry_again}
use Rattle.codec_payload_rtcp.proofs.items.FullIntraEntry.write.Goals as goal

pub returns-clause-comes_back : goal.returns-clause-comes_back
returns-clause-comes_back c = entry_again c.put.result c.args.entries.now.items c.put.new.entries.items c.args.self.now c.known.ensures c.put.ensures
