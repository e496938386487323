use Rattle.std.proofs.Common.{drop, map}
use Rattle.codec_payload_payloader.specs.Sending.{sample_of}
use Rattle.codec_payload_receiver.specs.Sessions.{Session}
use Rattle.codec_payload_sending.specs.Senders.{Sending}
use Rattle.codec_payload_sending_forward.specs.Forwarding.{Forward}
use Rattle.codec_payload_forward_runs.specs.SwitchRuns.{SwitchRuns, SwitchStops, Switched, begins_switching, switched_of}
use Rattle.codec_payload_forward_runs.proofs.switch_run.run_forwarded_switching.Given as goal

-- the remaining steps lead to the same result as all steps
abbrev pub invariant-loop-step : goal.invariant-loop-step
invariant-loop-step g l = record {
  runs : (t : Switched) → SwitchRuns (map sample_of l.samples) (drop l.step-index l.steps) (switched_of l.link.link.sender l.link.second l.link.link.forwarder l.link.link.receiver l.run) t
      → SwitchRuns (map sample_of l.samples) l.steps (begins_switching l.fn.link.link.sender l.fn.link.second l.fn.link.link.forwarder l.fn.link.link.receiver) t;
  stops : (first second : Sending) (forwarder : Forward) (session : Session)
      → SwitchStops (map sample_of l.samples) (drop l.step-index l.steps) (switched_of l.link.link.sender l.link.second l.link.link.forwarder l.link.link.receiver l.run) first second forwarder session
      → SwitchStops (map sample_of l.samples) l.steps (begins_switching l.fn.link.link.sender l.fn.link.second l.fn.link.link.forwarder l.fn.link.link.receiver) first second forwarder session;
}
