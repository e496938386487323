use Rattle.std.proofs.Common.{◌≤◌, length}
use Rattle.codec_payload_receiver.specs.Pops.{DropsUnits}
use Rattle.codec_payload_receiver.proofs.receiver.Receiver.pop_gated.Given as goal

-- the units so far are dropped, and no packet came
abbrev pub invariant-loop-now : goal.invariant-loop-now
invariant-loop-now g l = DropsUnits l.now.0 l.fn.self l.self × (length l.self.packets.buffer.held ≤ length l.fn.self.packets.buffer.held)

abbrev pub decreases-loop-now : goal.decreases-loop-now
decreases-loop-now g l = length l.self.packets.buffer.held
