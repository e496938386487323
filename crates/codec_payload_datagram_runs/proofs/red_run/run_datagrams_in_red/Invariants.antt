use Rattle.std.proofs.Common.{drop, map}
use Rattle.codec_payload_sending_red.specs.Writers.{Writer}
use Rattle.codec_payload_payloader.specs.Sending.{sample_of}
use Rattle.codec_payload_sending.specs.Senders.{Sending}
use Rattle.codec_payload_receiver.specs.Sessions.{Session}
use Rattle.codec_payload_datagram_runs.specs.RedRuns.{RedRuns, RedStops, RedWire, begins_in_red, red_wire_of}
use Rattle.codec_payload_datagram_runs.specs.OwnRedRuns.{AsksInRedRun}
use Rattle.codec_payload_datagram_runs.specs.OwnRuns.{AsksForEnds, AsksForUnit, AsksPacketizer}
use Rattle.codec_payload_datagram_runs.proofs.red_run.run_datagrams_in_red.Given as goal

-- the remaining steps lead to the same result as all steps
abbrev pub invariant-loop-step : goal.invariant-loop-step
invariant-loop-step g l = record {
  runs : (t : RedWire) → RedRuns (map sample_of l.samples) (drop l.step-index l.steps) (red_wire_of l.link.sender l.link.writer l.link.receiver l.run) t
      → RedRuns (map sample_of l.samples) l.steps (begins_in_red l.fn.link.sender l.fn.link.writer l.fn.link.receiver) t;
  stops : (sending : Sending) (writer : Writer) (session : Session)
      → RedStops (map sample_of l.samples) (drop l.step-index l.steps) (red_wire_of l.link.sender l.link.writer l.link.receiver l.run) sending writer session
      → RedStops (map sample_of l.samples) l.steps (begins_in_red l.fn.link.sender l.fn.link.writer l.fn.link.receiver) sending writer session;
  own : (t : RedWire)
      → AsksInRedRun (AsksPacketizer g.P.Packetizer.state g.P.Packetizer.packetize_step g.P.Packetizer.marker_step g.P.Packetizer.marks_spurts) (AsksForEnds g.D.Depacketizer.is_head g.D.Depacketizer.is_tail) (AsksForUnit g.D.Depacketizer.state g.D.Depacketizer.depacketize_step) (map sample_of l.samples) (drop l.step-index l.steps) (red_wire_of l.link.sender l.link.writer l.link.receiver l.run) t
      → AsksInRedRun (AsksPacketizer g.P.Packetizer.state g.P.Packetizer.packetize_step g.P.Packetizer.marker_step g.P.Packetizer.marks_spurts) (AsksForEnds g.D.Depacketizer.is_head g.D.Depacketizer.is_tail) (AsksForUnit g.D.Depacketizer.state g.D.Depacketizer.depacketize_step) (map sample_of l.samples) l.steps (begins_in_red l.fn.link.sender l.fn.link.writer l.fn.link.receiver) t;
}
