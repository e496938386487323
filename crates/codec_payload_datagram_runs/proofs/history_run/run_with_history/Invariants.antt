use Rattle.std.proofs.Common.{drop, map}
use Rattle.codec_payload_sending_history.specs.Packets.{Past}
use Rattle.codec_payload_payloader.specs.Sending.{sample_of}
use Rattle.codec_payload_sending.specs.Senders.{Sending}
use Rattle.codec_payload_receiver.specs.Sessions.{Session}
use Rattle.codec_payload_datagram_runs.specs.HistoryRuns.{HistoryRuns, HistoryStops, Resending, begins_with, resending_of}
use Rattle.codec_payload_datagram_runs.specs.OwnHistoryRuns.{AsksInHistoryRun}
use Rattle.codec_payload_datagram_runs.specs.OwnRuns.{AsksForEnds, AsksForUnit, AsksPacketizer}
use Rattle.codec_payload_datagram_runs.proofs.history_run.run_with_history.Given as goal

-- the remaining steps lead to the same result as all steps
abbrev pub invariant-loop-step : goal.invariant-loop-step
invariant-loop-step g l = record {
  runs : (t : Resending) → HistoryRuns (map sample_of l.samples) (drop l.step-index l.steps) (resending_of l.link.sender l.link.history l.link.receiver l.run) t
      → HistoryRuns (map sample_of l.samples) l.steps (begins_with l.fn.link.sender l.fn.link.history l.fn.link.receiver) t;
  stops : (sending : Sending) (history : Past) (session : Session)
      → HistoryStops (map sample_of l.samples) (drop l.step-index l.steps) (resending_of l.link.sender l.link.history l.link.receiver l.run) sending history session
      → HistoryStops (map sample_of l.samples) l.steps (begins_with l.fn.link.sender l.fn.link.history l.fn.link.receiver) sending history session;
  own : (t : Resending)
      → AsksInHistoryRun (AsksPacketizer g.P.Packetizer.state g.P.Packetizer.packetize_step g.P.Packetizer.marker_step g.P.Packetizer.marks_spurts) (AsksForEnds g.D.Depacketizer.is_head g.D.Depacketizer.is_tail) (AsksForUnit g.D.Depacketizer.state g.D.Depacketizer.depacketize_step) (map sample_of l.samples) (drop l.step-index l.steps) (resending_of l.link.sender l.link.history l.link.receiver l.run) t
      → AsksInHistoryRun (AsksPacketizer g.P.Packetizer.state g.P.Packetizer.packetize_step g.P.Packetizer.marker_step g.P.Packetizer.marks_spurts) (AsksForEnds g.D.Depacketizer.is_head g.D.Depacketizer.is_tail) (AsksForUnit g.D.Depacketizer.state g.D.Depacketizer.depacketize_step) (map sample_of l.samples) l.steps (begins_with l.fn.link.sender l.fn.link.history l.fn.link.receiver) t;
}
