use Rattle.std.proofs.Common.{drop, map}
use Rattle.codec_payload_payloader.specs.Sending.{sample_of}
use Rattle.codec_payload_receiver.specs.Sessions.{Session}
use Rattle.codec_payload_sending.specs.Senders.{Sending}
use Rattle.codec_payload_sending_forward.specs.Forwarding.{Forward}
use Rattle.codec_payload_forward_runs.specs.ForwardRuns.{Hops, begins_forwarding, hops_of}
use Rattle.codec_payload_forward_runs.specs.LeaveRuns.{LeaveRuns, LeaveStops}
use Rattle.codec_payload_forward_runs.proofs.leave_run.run_forwarded_leaving_out.Given as goal

-- the remaining steps lead to the same result as all steps
abbrev pub invariant-loop-step : goal.invariant-loop-step
invariant-loop-step g l = record {
  runs : (t : Hops) → LeaveRuns (map sample_of l.samples) (drop l.step-index l.steps) (hops_of l.link.sender l.link.forwarder l.link.receiver l.run) t
      → LeaveRuns (map sample_of l.samples) l.steps (begins_forwarding l.fn.link.sender l.fn.link.forwarder l.fn.link.receiver) t;
  stops : (sending : Sending) (forwarder : Forward) (session : Session)
      → LeaveStops (map sample_of l.samples) (drop l.step-index l.steps) (hops_of l.link.sender l.link.forwarder l.link.receiver l.run) sending forwarder session
      → LeaveStops (map sample_of l.samples) l.steps (begins_forwarding l.fn.link.sender l.fn.link.forwarder l.fn.link.receiver) sending forwarder session;
}
