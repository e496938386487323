use Rattle.std.proofs.Common.{drop, map}
use Rattle.codec_payload_payloader.specs.Sending.{sample_of}
use Rattle.codec_payload_sending.specs.Senders.{Sending}
use Rattle.codec_payload_receiver.specs.Sessions.{Session}
use Rattle.codec_payload_datagram_runs.specs.OwnRuns.{AsksForEnds, AsksForUnit, AsksInRun, AsksPacketizer}
use Rattle.codec_payload_datagram_runs.specs.WireRuns.{Runs, Stops, Wire, begins, wire_of}
use Rattle.codec_payload_datagram_runs.proofs.run.run_datagrams.Given as goal

-- the remaining steps lead to the same result as all steps
abbrev pub invariant-loop-step : goal.invariant-loop-step
invariant-loop-step g l = record {
  runs : (t : Wire) → Runs (map sample_of l.samples) (drop l.step-index l.steps) (wire_of l.sender l.receiver l.run) t → Runs (map sample_of l.samples) l.steps (begins l.fn.sender l.fn.receiver) t;
  stops : (sending : Sending) (session : Session) → Stops (map sample_of l.samples) (drop l.step-index l.steps) (wire_of l.sender l.receiver l.run) sending session
      → Stops (map sample_of l.samples) l.steps (begins l.fn.sender l.fn.receiver) sending session;
  own : (t : Wire)
      → AsksInRun (AsksPacketizer g.P.Packetizer.state g.P.Packetizer.packetize_step g.P.Packetizer.marker_step g.P.Packetizer.marks_spurts) (AsksForEnds g.D.Depacketizer.is_head g.D.Depacketizer.is_tail) (AsksForUnit g.D.Depacketizer.state g.D.Depacketizer.depacketize_step) (map sample_of l.samples) (drop l.step-index l.steps) (wire_of l.sender l.receiver l.run) t
      → AsksInRun (AsksPacketizer g.P.Packetizer.state g.P.Packetizer.packetize_step g.P.Packetizer.marker_step g.P.Packetizer.marks_spurts) (AsksForEnds g.D.Depacketizer.is_head g.D.Depacketizer.is_tail) (AsksForUnit g.D.Depacketizer.state g.D.Depacketizer.depacketize_step) (map sample_of l.samples) l.steps (begins l.fn.sender l.fn.receiver) t;
}
