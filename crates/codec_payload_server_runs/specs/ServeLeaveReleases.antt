-- What a run of a media server that leaves packets out is for its session, and what it is as a run whose forwarder leaves packets out. So
-- the theorems on both kinds of runs apply.
use Rattle.std.specs.Prelude.{List, map}
use Rattle.codec_payload_payloader.specs.Sending.{Sample}
use Rattle.codec_payload_sending_history.specs.declared.original.OriginalStream.{OriginalStream}
use Rattle.codec_payload_forward_runs.specs.ForwardRuns.{Hops}
use Rattle.codec_payload_forward_runs.specs.LeaveReleases.{ForwardsKept, ReleasesLeavingOut}
use Rattle.codec_payload_forward_runs.specs.declared.leave_run.LeaveStep.{LeaveStep}
use Rattle.codec_payload_server_runs.specs.ServeLeaveRuns.{hops_in, left_as, step_of}
use Rattle.codec_payload_server_runs.specs.ServeReleases.{ServesAsSession, UnwrapsSender}
use Rattle.codec_payload_server_runs.specs.Serving.{Serving, served_in}
use Rattle.codec_payload_server_runs.specs.ServingReleases.{served_steps, steps_behind}
use Rattle.codec_payload_server_runs.specs.declared.leave_run.ServeLeaveStep.{ServeLeaveStep}
use Rattle.codec_payload_server_runs.specs.declared.run.ServeStep.{ServeStep}

-- the steps, whether they leave out what comes to the forwarder or not
abbrev pub server_steps : List ServeLeaveStep → List ServeStep
server_steps all_steps = served_steps (map step_of all_steps)

-- The steps of a run whose forwarder leaves packets out. Each datagram that the session took as one of the stream is forwarded, or left out
abbrev pub leaving_steps_of : OriginalStream → List Sample → List ServeLeaveStep → Serving Hops → List LeaveStep
leaving_steps_of stream samples all_steps t = steps_behind left_as stream samples 0 (map step_of all_steps) t.behind.wire.sends t.answers

-- the session makes a run of its calls
abbrev pub ServesLeavingAsSession : OriginalStream → List Sample → List ServeLeaveStep → Serving Hops → Serving Hops → Type 0
ServesLeavingAsSession stream samples all_steps s t = ServesAsSession stream samples (server_steps all_steps) (served_in hops_in s) (served_in hops_in t)

-- if retransmissions come, the stream is the sender's
abbrev pub UnwrapsLeaving : OriginalStream → List ServeLeaveStep → Serving Hops → Type 0
UnwrapsLeaving stream all_steps s = UnwrapsSender stream (server_steps all_steps) (served_in hops_in s)

-- what is written, if whole frames are left out
abbrev pub ServesKept : OriginalStream → List Sample → List ServeLeaveStep → Serving Hops → Serving Hops → Type 0
ServesKept stream samples all_steps s t = UnwrapsLeaving stream all_steps s → ForwardsKept samples (leaving_steps_of stream samples all_steps t) s.behind t.behind

-- what the viewer's receiver releases
abbrev pub ReleasesServedLeavingOut : OriginalStream → List Sample → List ServeLeaveStep → Serving Hops → Serving Hops → Type 0
ReleasesServedLeavingOut stream samples all_steps s t = UnwrapsLeaving stream all_steps s → ReleasesLeavingOut samples (leaving_steps_of stream samples all_steps t) s.behind t.behind
