use Rattle.codec_payload_sending_forward.proofs.MapLemmas.{raised}
use Rattle.std.proofs.Common.{arith}
use Rattle.codec_payload_sending_forward.proofs.renumbering.Renumbering.record.Goals as goal

pub invariant_of-self : goal.invariant_of-self
invariant_of-self c =
    let s = c.self.inside in
    raised s.first s.highest c.args.number s.left_out.items (omega arith) c.self.invariant
