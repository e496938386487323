-- Answers whose unit is in memory of the caller, with that unit.
use Rattle.std.proofs.Common.{◌≡◌, ◌∙◌, refl, ap, ℕ, List, [], ◌∷◌, Option, Some, None, Result, Ok, Err}
use Rattle.std.specs.Prelude.{⊤}
use Rattle.std.specs.Global.{Vec}
use Rattle.std.specs.declared.alloc.AllocError.{AllocError}
use Rattle.codec_payload_metadata.specs.Release.{Release}
use Rattle.codec_payload_receiver.specs.Sessions.{Session as Receiver}
use Rattle.codec_payload_receiver.specs.declared.pops.Popped.{Popped}
use Rattle.codec_payload_receiver.specs.declared.pops.Popped.TheVariants as popped
use Rattle.codec_payload_session_stream.specs.Events.{report_event, transport_event}
use Rattle.codec_payload_session_requests.specs.Requests.{Asking}
use Rattle.codec_payload_session_stream.specs.Streams.{RequestsBy, RestsBy, StreamState, is_keyframe, step_of, step_with}
use Rattle.codec_payload_session_stream.specs.Telephone.{Gives, GivesFrom, Queue}
use Rattle.codec_payload_session_stream.specs.Turns.{is_nothing}
use Rattle.codec_payload_session_stream.specs.Units.{event_to, step_to}
use Rattle.codec_payload_session_requests.specs.Named.{result_with}
use Rattle.codec_payload_session_stream.specs.declared.events.Event.{Event as EventWith}
use Rattle.codec_payload_session_stream.specs.declared.stream.Stage.{Stage}
use Rattle.codec_payload_session_stream.specs.declared.stream.Stage.TheVariants as stages
use Rattle.codec_payload_session_stream.specs.declared.stream.Step.{Step as StepWith}
use Rattle.codec_payload_session_stream.specs.declared.stream.Step.TheVariants as steps
use Rattle.codec_payload_session_stream.specs.declared.telephone.TelephonePacket.{TelephonePacket}

-- ---- keyframes

pub keyframe_with : (p : Result (Popped ⊤) AllocError) (unit : Release) (r : Receiver) → is_keyframe (result_with p unit) r ≡ is_keyframe p r
keyframe_with (Ok (popped.Unit done)) unit r = refl
keyframe_with (Ok (popped.TooLarge done)) unit r = refl
keyframe_with (Ok (popped.Refused fault)) unit r = refl
keyframe_with (Err e) unit r = refl

-- ---- steps

pub step_pop : (p : Result (Popped ⊤) AllocError) (unit : Release) → step_to (step_with p) unit ≡ step_with (result_with p unit)
step_pop (Ok (popped.Unit done)) unit = refl
step_pop (Ok (popped.TooLarge done)) unit = refl
step_pop (Ok (popped.Refused fault)) unit = refl
step_pop (Err e) unit = refl

step_told : (told : Result (Option (Vec ℕ)) AllocError) (unit : Release) → step_to (step_of told) unit ≡ step_of told
step_told (Ok None) unit = refl
step_told (Ok (Some packet)) unit = refl
step_told (Err e) unit = refl

requests_to : (o : Option Asking) (now : ℕ) (s t : StreamState) (step : StepWith ⊤) (unit : Release) → RequestsBy o now s step t → RequestsBy o now s (step_to step unit) t
requests_to None now s t step unit got = (ap (λ (x : StepWith ⊤). step_to x unit) got.0, got.1)
requests_to (Some a) now s t step unit got = record {
  told = got.told;
  asking = got.asking;
  asks = got.asks;
  answers = ap (λ (x : StepWith ⊤). step_to x unit) got.answers ∙ step_told got.told unit;
  after = got.after;
}

-- a stream without a unit
pub rests_to : (stage : Stage) (now : ℕ) (s t : StreamState) (step : StepWith ⊤) (unit : Release) → RestsBy stage now s step t → RestsBy stage now s (step_to step unit) t
rests_to stages.Probation now s t step unit got = (ap (λ (x : StepWith ⊤). step_to x unit) got.0, got.1)
rests_to stages.Playing now s t step unit got = requests_to s.feedback now s t step unit got
rests_to (stages.Leaving why at) now s t step unit got = (ap (λ (x : StepWith ⊤). step_to x unit) got.0, got.1)
rests_to (stages.Draining why) now s t step unit got = (ap (λ (x : StepWith ⊤). step_to x unit) got.0, got.1)

pub nothing_to : (step : StepWith ⊤) (unit : Release) → is_nothing (step_to step unit) ≡ is_nothing step
nothing_to steps.Begun unit = refl
nothing_to (steps.Unit done) unit = refl
nothing_to (steps.TooLarge done) unit = refl
nothing_to (steps.Refused fault) unit = refl
nothing_to (steps.Feedback packet) unit = refl
nothing_to (steps.Ended why) unit = refl
nothing_to steps.Nothing unit = refl

-- ---- events

gives_from_to : (ws : List TelephonePacket) (q r : Queue) (event : Option (EventWith ⊤)) (unit : Release) → GivesFrom ws q event r → GivesFrom ws q (event_to event unit) r
gives_from_to [] q r event unit got = (ap (λ (e : Option (EventWith ⊤)). event_to e unit) got.0, got.1)
gives_from_to (w ∷ ws) q r event unit got = (ap (λ (e : Option (EventWith ⊤)). event_to e unit) got.0, got.1)

pub gives_to : (q r : Queue) (event : Option (EventWith ⊤)) (unit : Release) → Gives q event r → Gives q (event_to event unit) r
gives_to q r event unit got = gives_from_to q.waiting q r event unit got

pub report_to : (packet : Option (Result (Vec ℕ) AllocError)) (unit : Release) → event_to (report_event packet) unit ≡ report_event packet
report_to None unit = refl
report_to (Some packet) unit = refl

pub transport_to : (packet : Option (Result (Vec ℕ) AllocError)) (unit : Release) → event_to (transport_event packet) unit ≡ transport_event packet
transport_to None unit = refl
transport_to (Some packet) unit = refl
