use Rattle.std.proofs.Common.{subst, sym}
use Rattle.codec_payload_receiver.specs.OwnSessions.{OwnPopsGated}
use Rattle.codec_payload_receiver.specs.Pops.{Answer}
use Rattle.codec_payload_receiver.proofs.receiver.Receiver.pop.Goals as goal

pub returns-clause-own : goal.returns-clause-own
returns-clause-own g c = λ other.
    subst (λ (a : Answer). OwnPopsGated g.B.Depacketizer.state g.B.Depacketizer.depacketize_step c.args.now.0 c.args.self.now a) (sym c.sorted.ensures.same) (c.pop_gated-answer.ensures.own other)
