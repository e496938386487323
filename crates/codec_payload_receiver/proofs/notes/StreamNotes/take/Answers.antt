use Rattle.codec_payload_receiver.proofs.NotingLemmas.{takes_none}
use Rattle.codec_payload_receiver.proofs.notes.StreamNotes.take.Goals as goal

pub returns-in-None : goal.returns-in-None
returns-in-None c = takes_none c.args.first c.args.last c.args.self.now c.none.result c.in-None.is c.none.ensures
