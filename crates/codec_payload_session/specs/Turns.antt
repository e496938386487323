-- The streams are asked for an event in the order in which they began, until one has an event.
use Rattle.std.specs.Prelude.{◌≡◌, ℕ, List, ◌∷◌, ◌++◌, Option, Some, None}
use Rattle.codec_payload_base.specs.declared.wire.Ticks.{Ticks}
use Rattle.codec_payload_session.specs.Arrivals.{Port, removed, sum_wrapped}
use Rattle.codec_payload_session_stream.specs.Streams.{Steps, info_of}
use Rattle.codec_payload_session_stream.specs.Units.{Event, Step}
use Rattle.codec_payload_session_stream.specs.declared.events.Event.{Event as EventWith}
use Rattle.codec_payload_session_stream.specs.declared.stream.Step.{Step as StepWith}
use Rattle.codec_payload_session_stream.specs.declared.stream.Step.TheVariants as steps
use Rattle.codec_payload_session_stream.specs.declared.stream.StreamInfo.{StreamInfo}
use Rattle.codec_payload_session_stream.specs.declared.stream.StreamState.{StreamState}
use Rattle.codec_payload_session_stream.specs.Turns.{AreQuiet, event_of}

-- ---- events

-- a stream that ended is removed
abbrev pub kept_after : Step → StreamState → List StreamState → List StreamState
kept_after steps.Begun s rest = s ∷ rest
kept_after (steps.Unit unit) s rest = s ∷ rest
kept_after (steps.TooLarge unit) s rest = s ∷ rest
kept_after (steps.Refused fault) s rest = s ∷ rest
kept_after (steps.Feedback packet) s rest = s ∷ rest
kept_after (steps.Ended why) s rest = rest
kept_after steps.Nothing s rest = s ∷ rest

abbrev pub ended_after : Step → StreamState → ℕ → ℕ
ended_after steps.Begun s ended = ended
ended_after (steps.Unit unit) s ended = ended
ended_after (steps.TooLarge unit) s ended = ended
ended_after (steps.Refused fault) s ended = ended
ended_after (steps.Feedback packet) s ended = ended
ended_after (steps.Ended why) s ended = sum_wrapped ended s.taken
ended_after steps.Nothing s ended = ended

abbrev pub last_after : Step → StreamState → Option StreamInfo → Option StreamInfo
last_after steps.Begun s last = last
last_after (steps.Unit unit) s last = last
last_after (steps.TooLarge unit) s last = last
last_after (steps.Refused fault) s last = last
last_after (steps.Feedback packet) s last = last
last_after (steps.Ended why) s last = Some (info_of s)
last_after steps.Nothing s last = last

-- the event of the stream at a place, and the streams after it
abbrev pub told_by : {U : Type 0} → Option StreamState → StepWith U → Option (EventWith U)
told_by None step = None
told_by (Some s) step = event_of s step

abbrev pub after_step : {U : Type 0} → StepWith U → ℕ → Port → Port
after_step steps.Begun place p = p
after_step (steps.Unit unit) place p = p
after_step (steps.TooLarge unit) place p = p
after_step (steps.Refused fault) place p = p
after_step (steps.Feedback packet) place p = p
after_step (steps.Ended why) place p = removed place p
after_step steps.Nothing place p = p

-- the first stream with an event returns it; all streams before it are quiet
pub record Tells (now : Ticks) (idle : ℕ) (before : Port) (event : Event) (after : Port) : Type 0 where
  pub front : List StreamState
  pub quiet : List StreamState
  pub stream : StreamState
  pub stepped : StreamState
  pub rest : List StreamState
  pub step : Step
  pub there : before.streams ≡ front ++ stream ∷ rest
  pub are_quiet : AreQuiet now idle front quiet
  pub steps : Steps now idle stream step stepped
  pub tells : Some event ≡ event_of stepped step
  pub left : after ≡ record before { streams = quiet ++ kept_after step stepped rest; ended = ended_after step stepped before.ended; last = last_after step stepped before.last }

-- without an event all streams were quiet
abbrev pub TakesTurn : Ticks → ℕ → Port → Option Event → Port → Type 0
TakesTurn now idle before None after = (quiet : List StreamState) × AreQuiet now idle before.streams quiet × (after ≡ record before { streams = quiet })
TakesTurn now idle before (Some event) after = Tells now idle before event after
