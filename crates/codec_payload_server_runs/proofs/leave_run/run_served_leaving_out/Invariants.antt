use Rattle.std.proofs.Common.{◌≡◌, drop, map}
use Rattle.codec_payload_payloader.specs.Sending.{sample_of}
use Rattle.codec_payload_session.specs.Ports.{Session}
use Rattle.codec_payload_forward_runs.specs.ForwardRuns.{Hops}
use Rattle.codec_payload_server_runs.specs.ServeLeaveRuns.{Left, ServeLeaveRuns, ServeLeaveStops, begins_serving_leaving_out, serving_of}
use Rattle.codec_payload_server_runs.specs.Serving.{Serving}
use Rattle.codec_payload_server_runs.proofs.leave_run.run_served_leaving_out.Given as goal

-- the remaining steps lead to the same result as all steps
abbrev pub invariant-loop-step : goal.invariant-loop-step
invariant-loop-step g l = record {
  stream : l.link.stream ≡ l.fn.link.stream;
  runs : (t : Serving Hops)
      → ServeLeaveRuns l.fn.link.stream (map sample_of l.samples) (drop l.step-index l.steps)
      (serving_of l.link.link.sender l.link.link.forwarder l.link.link.receiver l.link.session l.run) t
      → ServeLeaveRuns l.fn.link.stream (map sample_of l.samples) l.steps
      (begins_serving_leaving_out l.fn.link.link.sender l.fn.link.link.forwarder l.fn.link.link.receiver l.fn.link.session) t;
  stops : (left : Left) (server : Session)
      → ServeLeaveStops l.fn.link.stream (map sample_of l.samples) (drop l.step-index l.steps)
      (serving_of l.link.link.sender l.link.link.forwarder l.link.link.receiver l.link.session l.run) left server
      → ServeLeaveStops l.fn.link.stream (map sample_of l.samples) l.steps
      (begins_serving_leaving_out l.fn.link.link.sender l.fn.link.link.forwarder l.fn.link.link.receiver l.fn.link.session) left server;
}
