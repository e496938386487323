use Rattle.codec_payload_fec_receiver.proofs.HeldLemmas.{dropped_is}
use Rattle.codec_payload_fec_receiver.proofs.fec_receiver.FecReceiver.drop_at.Goals as goal

pub returns : goal.returns
returns c =
    dropped_is c.self.inside.settings c.self.inside.first c.self.inside.store c.self.inside.fecs.items c.remove.new.self.items c.self.inside.is_fresh c.args.self.now c.args.place c.self.view_is c.remove.ensures.items
