-- What a run of a media server with a store is for its session, and what it is as a run with a forwarder and a store. So the theorems on
-- both kinds of runs apply.
use Rattle.std.specs.Prelude.{List, map}
use Rattle.codec_payload_payloader.specs.Sending.{Sample}
use Rattle.codec_payload_sending_history.specs.declared.original.OriginalStream.{OriginalStream}
use Rattle.codec_payload_forward_runs.specs.StoreReleases.{ReleasesWithStore}
use Rattle.codec_payload_forward_runs.specs.StoreRuns.{Stored}
use Rattle.codec_payload_forward_runs.specs.declared.store_run.StoreStep.{StoreStep}
use Rattle.codec_payload_server_runs.specs.ServeReleases.{ServesAsSession, UnwrapsSender}
use Rattle.codec_payload_server_runs.specs.ServeStoreRuns.{hops_in, step_of, stored_as}
use Rattle.codec_payload_server_runs.specs.Serving.{Serving, served_in}
use Rattle.codec_payload_server_runs.specs.ServingReleases.{served_steps, steps_behind}
use Rattle.codec_payload_server_runs.specs.declared.run.ServeStep.{ServeStep}
use Rattle.codec_payload_server_runs.specs.declared.store_run.ServeStoreStep.{ServeStoreStep}

-- the steps without requests, and without deliveries of what was written again
abbrev pub server_steps : List ServeStoreStep → List ServeStep
server_steps all_steps = served_steps (map step_of all_steps)

-- The steps of a run with a forwarder and a store. Each datagram that the session took as one of the stream comes to both, or to the store
-- alone before the viewer joins
abbrev pub stored_steps_of : OriginalStream → List Sample → List ServeStoreStep → Serving Stored → List StoreStep
stored_steps_of stream samples all_steps t = steps_behind stored_as stream samples 0 (map step_of all_steps) t.behind.hops.wire.sends t.answers

-- the session makes a run of its calls
abbrev pub ServesStoreAsSession : OriginalStream → List Sample → List ServeStoreStep → Serving Stored → Serving Stored → Type 0
ServesStoreAsSession stream samples all_steps s t = ServesAsSession stream samples (server_steps all_steps) (served_in hops_in s) (served_in hops_in t)

-- if retransmissions come, the stream is the sender's
abbrev pub UnwrapsStored : OriginalStream → List ServeStoreStep → Serving Stored → Type 0
UnwrapsStored stream all_steps s = UnwrapsSender stream (server_steps all_steps) (served_in hops_in s)

-- what is written again, and what the viewer's receiver releases
abbrev pub ReleasesServedWithStore : OriginalStream → List Sample → List ServeStoreStep → Serving Stored → Serving Stored → Type 0
ReleasesServedWithStore stream samples all_steps s t = UnwrapsStored stream all_steps s → ReleasesWithStore samples (stored_steps_of stream samples all_steps t) s.behind t.behind
