use Rattle.std.proofs.Common.{◌≡◌, drop, map}
use Rattle.codec_payload_payloader.specs.Sending.{sample_of}
use Rattle.codec_payload_session.specs.Ports.{Session}
use Rattle.codec_payload_forward_runs.specs.StoreRuns.{Stored}
use Rattle.codec_payload_server_runs.specs.ServeStoreRuns.{Left, ServeStoreRuns, ServeStoreStops, begins_serving_with_store, served_store_of}
use Rattle.codec_payload_server_runs.specs.Serving.{Serving}
use Rattle.codec_payload_server_runs.proofs.store_run.run_served_with_store.Given as goal

-- the remaining steps lead to the same result as all steps
abbrev pub invariant-loop-step : goal.invariant-loop-step
invariant-loop-step g l = record {
  stream : l.link.stream ≡ l.fn.link.stream;
  runs : (t : Serving Stored)
      → ServeStoreRuns l.fn.link.stream (map sample_of l.samples) (drop l.step-index l.steps)
      (served_store_of l.link.link.link.sender l.link.link.link.forwarder l.link.link.link.receiver l.link.link.store l.link.session l.run) t
      → ServeStoreRuns l.fn.link.stream (map sample_of l.samples) l.steps
      (begins_serving_with_store l.fn.link.link.link.sender l.fn.link.link.link.forwarder l.fn.link.link.link.receiver l.fn.link.link.store l.fn.link.session) t;
  stops : (left : Left) (server : Session)
      → ServeStoreStops l.fn.link.stream (map sample_of l.samples) (drop l.step-index l.steps)
      (served_store_of l.link.link.link.sender l.link.link.link.forwarder l.link.link.link.receiver l.link.link.store l.link.session l.run) left server
      → ServeStoreStops l.fn.link.stream (map sample_of l.samples) l.steps
      (begins_serving_with_store l.fn.link.link.link.sender l.fn.link.link.link.forwarder l.fn.link.link.link.receiver l.fn.link.link.store l.fn.link.session) left server;
}
