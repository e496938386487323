use Rattle.std.proofs.Common.{drop, map}
use Rattle.codec_payload_sending_history.specs.Packets.{Past}
use Rattle.codec_payload_payloader.specs.Sending.{sample_of}
use Rattle.codec_payload_sending.specs.Senders.{Sending}
use Rattle.codec_payload_receiver.specs.Sessions.{Session}
use Rattle.codec_payload_sending_red.specs.Writers.{Writer}
use Rattle.codec_payload_datagram_runs.specs.OwnRedHistoryRuns.{AsksInRedHistoryRun}
use Rattle.codec_payload_datagram_runs.specs.RedHistoryRuns.{RedHistoryRuns, RedHistoryStops, RedResending, begins_in_red_with, red_resending_of}
use Rattle.codec_payload_datagram_runs.specs.OwnRuns.{AsksForEnds, AsksForUnit, AsksPacketizer}
use Rattle.codec_payload_datagram_runs.proofs.red_history_run.run_in_red_with_history.Given as goal

-- the remaining steps lead to the same result as all steps
abbrev pub invariant-loop-step : goal.invariant-loop-step
invariant-loop-step g l = record {
  runs : (t : RedResending) → RedHistoryRuns (map sample_of l.samples) (drop l.step-index l.steps) (red_resending_of l.link.red.sender l.link.red.writer l.link.history l.link.red.receiver l.run) t
      → RedHistoryRuns (map sample_of l.samples) l.steps (begins_in_red_with l.fn.link.red.sender l.fn.link.red.writer l.fn.link.history l.fn.link.red.receiver) t;
  stops : (sending : Sending) (writer : Writer) (history : Past) (session : Session)
      → RedHistoryStops (map sample_of l.samples) (drop l.step-index l.steps) (red_resending_of l.link.red.sender l.link.red.writer l.link.history l.link.red.receiver l.run) sending writer history session
      → RedHistoryStops (map sample_of l.samples) l.steps (begins_in_red_with l.fn.link.red.sender l.fn.link.red.writer l.fn.link.history l.fn.link.red.receiver) sending writer history session;
  own : (t : RedResending)
      → AsksInRedHistoryRun (AsksPacketizer g.P.Packetizer.state g.P.Packetizer.packetize_step g.P.Packetizer.marker_step g.P.Packetizer.marks_spurts) (AsksForEnds g.D.Depacketizer.is_head g.D.Depacketizer.is_tail) (AsksForUnit g.D.Depacketizer.state g.D.Depacketizer.depacketize_step) (map sample_of l.samples) (drop l.step-index l.steps) (red_resending_of l.link.red.sender l.link.red.writer l.link.history l.link.red.receiver l.run) t
      → AsksInRedHistoryRun (AsksPacketizer g.P.Packetizer.state g.P.Packetizer.packetize_step g.P.Packetizer.marker_step g.P.Packetizer.marks_spurts) (AsksForEnds g.D.Depacketizer.is_head g.D.Depacketizer.is_tail) (AsksForUnit g.D.Depacketizer.state g.D.Depacketizer.depacketize_step) (map sample_of l.samples) l.steps (begins_in_red_with l.fn.link.red.sender l.fn.link.red.writer l.fn.link.history l.fn.link.red.receiver) t;
}
