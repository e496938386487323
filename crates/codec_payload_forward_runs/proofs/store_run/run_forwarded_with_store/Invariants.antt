use Rattle.std.proofs.Common.{drop, map}
use Rattle.codec_payload_payloader.specs.Sending.{sample_of}
use Rattle.codec_payload_receiver.specs.Sessions.{Session}
use Rattle.codec_payload_sending.specs.Senders.{Sending}
use Rattle.codec_payload_sending_forward.specs.Forwarding.{Forward}
use Rattle.codec_payload_sending_history.specs.Packets.{Past}
use Rattle.codec_payload_forward_runs.specs.StoreRuns.{StoreRuns, StoreStops, Stored, begins_with_store, stored_of}
use Rattle.codec_payload_forward_runs.proofs.store_run.run_forwarded_with_store.Given as goal

-- the remaining steps lead to the same result as all steps
abbrev pub invariant-loop-step : goal.invariant-loop-step
invariant-loop-step g l = record {
  runs : (t : Stored) → StoreRuns (map sample_of l.samples) (drop l.step-index l.steps) (stored_of l.link.link.sender l.link.link.forwarder l.link.link.receiver l.link.store l.run) t
      → StoreRuns (map sample_of l.samples) l.steps (begins_with_store l.fn.link.link.sender l.fn.link.link.forwarder l.fn.link.link.receiver l.fn.link.store) t;
  stops : (sending : Sending) (forwarder : Forward) (session : Session) (store : Past)
      → StoreStops (map sample_of l.samples) (drop l.step-index l.steps) (stored_of l.link.link.sender l.link.link.forwarder l.link.link.receiver l.link.store l.run) sending forwarder session store
      → StoreStops (map sample_of l.samples) l.steps (begins_with_store l.fn.link.link.sender l.fn.link.link.forwarder l.fn.link.link.receiver l.fn.link.store) sending forwarder session store;
}
