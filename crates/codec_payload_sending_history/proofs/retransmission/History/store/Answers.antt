use Rattle.codec_payload_sending_history.proofs.retransmission.History.store.Goals as goal

pub store_above-requires-clause-above : goal.store_above-requires-clause-above
store_above-requires-clause-above c = (c.requires.above c.in-Above.count c.in-Above.is).0

pub store_above-requires-clause-some : goal.store_above-requires-clause-some
store_above-requires-clause-some c = (c.requires.above c.in-Above.count c.in-Above.is).1
