-- Runs of a media server whose results meet the premises: of three frames the second is left out, and the other two come to the viewer in another
-- order. The datagram of the second one is lost on the first hop, and comes as a retransmission. The frames are of Opus, and of VP8 with
-- picture ids.
use Rattle.std.specs.Global.{Vec}
use Rattle.std.specs.Prelude.{◌≡◌, ℕ, List, [], ◌∷◌, None, Ok}
use Rattle.codec_payload_jitter.specs.declared.outcome.Outcome.TheVariants as outcomes
use Rattle.codec_payload_session.specs.Ports.{new_session}
use Rattle.codec_payload_session_formats.specs.declared.formats.SessionSettings.{SessionSettings}
use Rattle.codec_payload_session_stream.specs.declared.arrival.Arrival.TheVariants as arrivals
use Rattle.codec_payload_vp8.specs.declared.vp8.depacketizer.Vp8Depacketizer.{Vp8Depacketizer}
use Rattle.codec_payload_datagram_runs.specs.Releases.{AllComeFirst, received_steps}
use Rattle.codec_payload_datagram_runs.specs.WireRunExample.{at, frames_sent, one_each}
use Rattle.codec_payload_forward_runs.specs.ForwardRuns.{Hops}
use Rattle.codec_payload_forward_runs.specs.LeaveReleases.{IsLeftOutWithinWindows, kept_sends_of, kept_steps_of}
use Rattle.codec_payload_forward_runs.specs.LeaveRunExample.{leave_answers, leave_before, leave_frames, leave_ids_before, leave_steps}
use Rattle.codec_payload_session_runs.specs.declared.run.SessionStep.TheVariants as calls
use Rattle.codec_payload_session_runs.specs.declared.run.StepAnswer.{StepAnswer}
use Rattle.codec_payload_session_runs.specs.declared.run.StepAnswer.TheVariants as answers
use Rattle.codec_payload_server_runs.specs.ServeLeaveReleases.{UnwrapsLeaving, leaving_steps_of}
use Rattle.codec_payload_server_runs.specs.ServeLeaveRuns.{ServeLeaveRuns}
use Rattle.codec_payload_server_runs.specs.ServeRunExample.{HasServed, again_stream, moment, sent_stream}
use Rattle.codec_payload_server_runs.specs.Serving.{Serving}
use Rattle.codec_payload_server_runs.specs.declared.leave_run.ServeLeaveStep.{ServeLeaveStep}
use Rattle.codec_payload_server_runs.specs.declared.leave_run.ServeLeaveStep.TheVariants as steps
use Rattle.codec_payload_server_runs.specs.declared.run.ServeStep.TheVariants as serves

abbrev pub serve_leave_steps : List ServeLeaveStep
serve_leave_steps =
    steps.Plain (serves.Send 0) ∷ steps.Plain (serves.Arrive 0 (moment 0)) ∷ steps.Plain (serves.Send 1) ∷ steps.Plain (serves.Call (calls.Poll (at 40)))
    ∷ steps.LeaveOut (serves.Repeat 1 again_stream (moment 960)) ∷ steps.Plain (serves.Send 2) ∷ steps.Plain (serves.Arrive 2 (moment 1920)) ∷ steps.Plain (serves.Deliver 1 (at 40))
    ∷ steps.Plain (serves.Deliver 0 (at 41)) ∷ steps.Plain serves.Finish ∷ steps.Plain (serves.Pop (at 44)) ∷ steps.Plain (serves.Pop (at 44)) ∷ []

-- the session takes all three as datagrams of the stream, and has no event in between
abbrev pub all_taken : List StepAnswer
all_taken =
    answers.Received (Ok (arrivals.Stream 7 111 outcomes.Held)) ∷ answers.Polled None ∷ answers.Received (Ok (arrivals.Stream 7 111 outcomes.Held))
    ∷ answers.Received (Ok (arrivals.Stream 7 111 outcomes.Held)) ∷ []

-- a media server before the run
abbrev pub starts : SessionSettings → Hops → Serving Hops
starts settings hops = record { behind = hops; server = new_session settings; answers = [] }

abbrev pub HasLeftOneOut : Serving Hops → Type 0
HasLeftOneOut t = HasServed one_each leave_answers all_taken t.behind t.answers

-- a run with these results meets the premises, and those of the promise that all units are popped too
pub record ServingLeavingOutCanBeMet : Type 0 where
  pub unwraps : (settings : SessionSettings) (no_media : Vec ℕ) → UnwrapsLeaving sent_stream serve_leave_steps (starts settings (leave_before no_media))
  pub within : (settings : SessionSettings) (no_media : Vec ℕ) (t : Serving Hops) → ServeLeaveRuns sent_stream frames_sent serve_leave_steps (starts settings (leave_before no_media)) t → HasLeftOneOut t
      → IsLeftOutWithinWindows frames_sent (leaving_steps_of sent_stream frames_sent serve_leave_steps t) (leave_before no_media) t.behind
  pub all_come : (t : Serving Hops) → HasLeftOneOut t
      → AllComeFirst 4096 2
      (received_steps frames_sent 0 (kept_steps_of frames_sent (leaving_steps_of sent_stream frames_sent serve_leave_steps t) t.behind)
      (kept_sends_of frames_sent (leaving_steps_of sent_stream frames_sent serve_leave_steps t) t.behind))
  pub ids_within : (settings : SessionSettings) (d : Vp8Depacketizer) (no_media : Vec ℕ) (t : Serving Hops)
      → ServeLeaveRuns sent_stream leave_frames serve_leave_steps (starts settings (leave_ids_before d no_media)) t → HasLeftOneOut t
      → IsLeftOutWithinWindows leave_frames (leaving_steps_of sent_stream leave_frames serve_leave_steps t) (leave_ids_before d no_media) t.behind
  -- what comes to the forwarder
  pub are_left_out : (t : Serving Hops) → HasLeftOneOut t → leaving_steps_of sent_stream frames_sent serve_leave_steps t ≡ leave_steps
