use Rattle.std.proofs.Common.{◌++◌, List, drop, false, ltb, map, take}
use Rattle.codec_payload_payloader.specs.Sending.{sample_of}
use Rattle.codec_payload_sending.specs.Senders.{Sending}
use Rattle.codec_payload_receiver.specs.Sessions.{Session}
use Rattle.codec_payload_datagram_runs.specs.OwnRuns.{AsksForEnds, AsksForUnit, AsksPacketizer}
use Rattle.codec_payload_datagram_runs.specs.RestartRuns.{AsksInParts, RunsParts, StopsParts}
use Rattle.codec_payload_datagram_runs.specs.declared.run.DatagramRun.{DatagramRun}
use Rattle.codec_payload_datagram_runs.proofs.restart_run.run_with_restarts.Given as goal

-- the remaining parts lead to the same result as all parts
abbrev pub invariant-loop-place : goal.invariant-loop-place
invariant-loop-place g l = record {
  runs : (more : List DatagramRun) (rest : List Sending) (t : Session) → RunsParts (map sample_of l.samples) (ltb 0 l.place) (drop l.place l.parts) (drop l.place l.senders) l.receiver more rest t
      → RunsParts (map sample_of l.samples) false l.parts l.fn.senders l.fn.receiver (l.runs.items ++ more) (take l.place l.senders ++ rest) t;
  stops : (rest : List Sending) (t : Session) → StopsParts (map sample_of l.samples) (ltb 0 l.place) (drop l.place l.parts) (drop l.place l.senders) l.receiver rest t
      → StopsParts (map sample_of l.samples) false l.parts l.fn.senders l.fn.receiver (take l.place l.senders ++ rest) t;
  own : (more : List DatagramRun) (rest : List Sending) (t : Session)
      → AsksInParts (AsksPacketizer g.P.Packetizer.state g.P.Packetizer.packetize_step g.P.Packetizer.marker_step g.P.Packetizer.marks_spurts) (AsksForEnds g.D.Depacketizer.is_head g.D.Depacketizer.is_tail) (AsksForUnit g.D.Depacketizer.state g.D.Depacketizer.depacketize_step) (map sample_of l.samples) (ltb 0 l.place) (drop l.place l.parts) (drop l.place l.senders) l.receiver more rest t
      → AsksInParts (AsksPacketizer g.P.Packetizer.state g.P.Packetizer.packetize_step g.P.Packetizer.marker_step g.P.Packetizer.marks_spurts) (AsksForEnds g.D.Depacketizer.is_head g.D.Depacketizer.is_tail) (AsksForUnit g.D.Depacketizer.state g.D.Depacketizer.depacketize_step) (map sample_of l.samples) false l.parts l.fn.senders l.fn.receiver (l.runs.items ++ more) (take l.place l.senders ++ rest) t;
}
