-- What a run of a media server is for the run behind its session: each datagram that the session took as one of the stream is a `Forward`
-- step there, as the step of the media server passes it on.
use Rattle.std.specs.Prelude.{nat_lt, ◌&&◌, ◌≡◌, ℕ, if◌then◌else◌, Bool, List, [], ◌∷◌, ◌++◌, drop, map, slice_get}
use Rattle.codec_payload_payloader.specs.Sending.{Sample}
use Rattle.codec_payload_sending_history.specs.declared.original.OriginalStream.{OriginalStream}
use Rattle.codec_payload_datagram_runs.specs.Releases.{sends_after, sent_after}
use Rattle.codec_payload_datagram_runs.specs.declared.run.SentSample.{SentSample}
use Rattle.codec_payload_forward_runs.specs.declared.run.ForwardStep.{ForwardStep}
use Rattle.codec_payload_forward_runs.specs.declared.run.ForwardStep.TheVariants as plain
use Rattle.codec_payload_session_runs.specs.declared.run.StepAnswer.{StepAnswer}
use Rattle.codec_payload_server_runs.specs.ServeReleases.{passed_first}
use Rattle.codec_payload_server_runs.specs.ServeRuns.{fits_in}
use Rattle.codec_payload_server_runs.specs.Serving.{ServingStep, serves, unseen}
use Rattle.codec_payload_server_runs.specs.declared.run.ServeStep.{ServeStep}
use Rattle.codec_payload_server_runs.specs.declared.run.ServeStep.TheVariants as steps

-- the steps of the media server itself
abbrev pub served_steps : {F : Type 0} → List (ServingStep F) → List ServeStep
served_steps [] = []
served_steps (serves is_plain step ∷ later) = step ∷ served_steps later
served_steps (unseen step ∷ later) = served_steps later

-- these steps as steps of the run behind the session
abbrev pub as_steps : {F : Type 0} → (seen_as : ForwardStep → Bool → F) → (is_plain : Bool) → List ForwardStep → List F
as_steps seen_as is_plain forwards = map (λ (step : ForwardStep). seen_as step is_plain) forwards

-- The steps of the run behind the session. Each datagram that the session took as one of the stream is a `Forward` step, and the
-- retransmission of a datagram counts as the datagram. Before these steps `sent` datagrams were sent. `sends` and `told` have the entries
-- of sends and the answers of the session
abbrev pub steps_behind : {F : Type 0} → (seen_as : ForwardStep → Bool → F) → OriginalStream → List Sample → (sent : ℕ) → List (ServingStep F) → List SentSample → (told : List StepAnswer) → List F
steps_behind seen_as stream samples sent [] sends told = []
steps_behind seen_as stream samples sent (unseen step ∷ later) sends told = step ∷ steps_behind seen_as stream samples sent later sends told
steps_behind seen_as stream samples sent (serves is_plain (steps.Send i) ∷ later) sends told =
    seen_as (plain.Send i) is_plain ∷ steps_behind seen_as stream samples (sent_after sent (slice_get samples i) sends) later (sends_after (slice_get samples i) sends) told
steps_behind seen_as stream samples sent (serves is_plain (steps.Arrive k at) ∷ later) sends told =
    if nat_lt k sent then as_steps seen_as is_plain (passed_first stream told k at.time) ++ steps_behind seen_as stream samples sent later sends (drop 1 told)
    else steps_behind seen_as stream samples sent later sends told
steps_behind seen_as stream samples sent (serves is_plain (steps.Repeat k again at) ∷ later) sends told =
    if nat_lt k sent && fits_in stream again then as_steps seen_as is_plain (passed_first stream told k at.time) ++ steps_behind seen_as stream samples sent later sends (drop 1 told)
    else steps_behind seen_as stream samples sent later sends told
steps_behind seen_as stream samples sent (serves is_plain (steps.Call call) ∷ later) sends told = steps_behind seen_as stream samples sent later sends (drop 1 told)
steps_behind seen_as stream samples sent (serves is_plain (steps.Deliver j now) ∷ later) sends told =
    seen_as (plain.Deliver j now) is_plain ∷ steps_behind seen_as stream samples sent later sends told
steps_behind seen_as stream samples sent (serves is_plain (steps.Pop now) ∷ later) sends told = seen_as (plain.Pop now) is_plain ∷ steps_behind seen_as stream samples sent later sends told
steps_behind seen_as stream samples sent (serves is_plain steps.Finish ∷ later) sends told = seen_as plain.Finish is_plain ∷ steps_behind seen_as stream samples sent later sends told
