use Rattle.std.proofs.Common.{Option, Result, subst, sym}
use Rattle.codec_payload_base.specs.declared.error.PacketError.{PacketError}
use Rattle.codec_payload_buffer.specs.Steps.{popped_to}
use Rattle.codec_payload_receiver.specs.OwnSessions.{OwnPopsGated}
use Rattle.codec_payload_receiver.proofs.receiver.Receiver.pop_unit.Goals as goal

pub returns-clause-own : goal.returns-clause-own
returns-clause-own g c = λ other.
    subst (λ (a : Option (Result Unit PacketError)). OwnPopsGated g.B.Depacketizer.state g.B.Depacketizer.depacketize_step c.args.now.0 c.args.self.now (popped_to a c.pop_unit_gated-answer.new.unit))
    (sym c.sorted.ensures.same) (c.pop_unit_gated-answer.ensures.own other)
