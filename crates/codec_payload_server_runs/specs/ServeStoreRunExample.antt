-- A run of a media server with a store whose results meet the premises: three frames of Opus. The datagram of the second one is lost on the first
-- hop, and comes as a retransmission. It is lost on the second hop too: the viewer requests its number, and it comes from the store.
use Rattle.std.specs.Global.{Vec}
use Rattle.std.specs.Prelude.{◌≡◌, ℕ, true, List, [], ◌∷◌, None, Ok}
use Rattle.codec_payload_jitter.specs.declared.outcome.Outcome.TheVariants as outcomes
use Rattle.codec_payload_session.specs.Ports.{new_session}
use Rattle.codec_payload_session_formats.specs.declared.formats.SessionSettings.{SessionSettings}
use Rattle.codec_payload_session_stream.specs.declared.arrival.Arrival.TheVariants as arrivals
use Rattle.codec_payload_datagram_runs.specs.Releases.{AllComeFirst, received_steps}
use Rattle.codec_payload_datagram_runs.specs.WireRunExample.{at, frames_sent, one_each, opus_sender}
use Rattle.codec_payload_forward_runs.specs.ForwardReleases.{ForwardsStream}
use Rattle.codec_payload_forward_runs.specs.ForwardRunExample.{three_answers}
use Rattle.codec_payload_forward_runs.specs.StoreReleases.{IsStoredWithinWindows, store_steps_of}
use Rattle.codec_payload_forward_runs.specs.StoreRunExample.{again_before, again_forwarder, store_run_steps}
use Rattle.codec_payload_forward_runs.specs.StoreRuns.{Stored}
use Rattle.codec_payload_session_runs.specs.declared.run.SessionStep.TheVariants as calls
use Rattle.codec_payload_session_runs.specs.declared.run.StepAnswer.{StepAnswer}
use Rattle.codec_payload_session_runs.specs.declared.run.StepAnswer.TheVariants as answers
use Rattle.codec_payload_server_runs.specs.ServeRunExample.{HasServed, again_stream, moment, sent_stream}
use Rattle.codec_payload_server_runs.specs.ServeStoreReleases.{UnwrapsStored, stored_steps_of}
use Rattle.codec_payload_server_runs.specs.ServeStoreRuns.{ServeStoreRuns}
use Rattle.codec_payload_server_runs.specs.Serving.{Serving}
use Rattle.codec_payload_server_runs.specs.declared.run.ServeStep.TheVariants as serves
use Rattle.codec_payload_server_runs.specs.declared.store_run.ServeStoreStep.{ServeStoreStep}
use Rattle.codec_payload_server_runs.specs.declared.store_run.ServeStoreStep.TheVariants as steps

-- the viewer's numbers are 100, 101 and 102
abbrev pub serve_store_steps : List ServeStoreStep
serve_store_steps =
    steps.Plain (serves.Send 0) ∷ steps.Plain (serves.Arrive 0 (moment 0)) ∷ steps.Plain (serves.Send 1) ∷ steps.Plain (serves.Call (calls.Poll (at 40)))
    ∷ steps.Plain (serves.Repeat 1 again_stream (moment 960)) ∷ steps.Plain (serves.Send 2) ∷ steps.Plain (serves.Arrive 2 (moment 1920)) ∷ steps.Plain (serves.Deliver 0 (at 40))
    ∷ steps.Plain (serves.Deliver 2 (at 80)) ∷ steps.Request 101 ∷ steps.DeliverAgain 0 (at 120) ∷ steps.Plain serves.Finish ∷ steps.Plain (serves.Pop (at 121))
    ∷ steps.Plain (serves.Pop (at 121)) ∷ steps.Plain (serves.Pop (at 121)) ∷ []

-- the session takes all three as datagrams of the stream, and has no event in between
abbrev pub three_taken : List StepAnswer
three_taken =
    answers.Received (Ok (arrivals.Stream 7 111 outcomes.Held)) ∷ answers.Polled None ∷ answers.Received (Ok (arrivals.Stream 7 111 outcomes.Held))
    ∷ answers.Received (Ok (arrivals.Stream 7 111 outcomes.Held)) ∷ []

abbrev pub store_before : SessionSettings → Vec ℕ → Serving Stored
store_before settings no_media = record { behind = again_before no_media; server = new_session settings; answers = [] }

abbrev pub HasStoredOne : Serving Stored → Type 0
HasStoredOne t = HasServed one_each three_answers three_taken t.behind.hops t.answers × (t.behind.found ≡ true ∷ [])

-- a run with these results meets the premises, also those of the promise that all units are popped, if the packet that is written again
-- repeats the second one
pub record ServingWithStoreCanBeMet : Type 0 where
  pub unwraps : (settings : SessionSettings) (no_media : Vec ℕ) → UnwrapsStored sent_stream serve_store_steps (store_before settings no_media)
  pub empty : (settings : SessionSettings) (no_media : Vec ℕ) → (store_before settings no_media).behind.store.packets ≡ []
  pub forwards : ForwardsStream opus_sender again_forwarder
  pub within : (settings : SessionSettings) (no_media : Vec ℕ) (t : Serving Stored) → ServeStoreRuns sent_stream frames_sent serve_store_steps (store_before settings no_media) t → HasStoredOne t
      → IsStoredWithinWindows frames_sent (stored_steps_of sent_stream frames_sent serve_store_steps t) (store_before settings no_media).behind t.behind (1 ∷ [])
  pub all_come : (t : Serving Stored) → HasStoredOne t
      → AllComeFirst 4096 3
      (received_steps frames_sent 0 (store_steps_of frames_sent (stored_steps_of sent_stream frames_sent serve_store_steps t) t.behind (1 ∷ [])) t.behind.hops.wire.sends)
  -- what comes to the forwarder and to the store
  pub are_stored : (t : Serving Stored) → HasStoredOne t → stored_steps_of sent_stream frames_sent serve_store_steps t ≡ store_run_steps
