use Rattle.std.proofs.Common.{◌≡◌, drop, map}
use Rattle.codec_payload_payloader.specs.Sending.{sample_of}
use Rattle.codec_payload_receiver.specs.Sessions.{Session as Receiver}
use Rattle.codec_payload_sending.specs.Senders.{Sending}
use Rattle.codec_payload_sending_forward.specs.Forwarding.{Forward}
use Rattle.codec_payload_session.specs.Ports.{Session}
use Rattle.codec_payload_server_runs.specs.ServeRuns.{ServeRuns, ServeStops, Served, begins_serving, served_of}
use Rattle.codec_payload_server_runs.proofs.run.run_served.Given as goal

-- the remaining steps lead to the same result as all steps
abbrev pub invariant-loop-step : goal.invariant-loop-step
invariant-loop-step g l = record {
  stream : l.link.stream ≡ l.fn.link.stream;
  runs : (t : Served) → ServeRuns l.fn.link.stream (map sample_of l.samples) (drop l.step-index l.steps) (served_of l.link.link.sender l.link.link.forwarder l.link.link.receiver l.link.session l.run) t
      → ServeRuns l.fn.link.stream (map sample_of l.samples) l.steps (begins_serving l.fn.link.link.sender l.fn.link.link.forwarder l.fn.link.link.receiver l.fn.link.session) t;
  stops : (sending : Sending) (forwarder : Forward) (receiver : Receiver) (server : Session)
      → ServeStops l.fn.link.stream (map sample_of l.samples) (drop l.step-index l.steps) (served_of l.link.link.sender l.link.link.forwarder l.link.link.receiver l.link.session l.run) sending forwarder receiver server
      → ServeStops l.fn.link.stream (map sample_of l.samples) l.steps (begins_serving l.fn.link.link.sender l.fn.link.link.forwarder l.fn.link.link.receiver l.fn.link.session) sending forwarder receiver server;
}
