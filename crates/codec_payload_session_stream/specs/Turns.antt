-- Streams that are asked for an event, one after another, until one has an event.
use Rattle.std.specs.Prelude.{◌≡◌, ℕ, Bool, true, false, List, [], ◌∷◌, ◌++◌, Option, Some, None, length}
use Rattle.codec_payload_base.specs.declared.wire.Ticks.{Ticks}
use Rattle.codec_payload_session_stream.specs.Streams.{Steps}
use Rattle.codec_payload_session_stream.specs.Units.{Turn}
use Rattle.codec_payload_session_stream.specs.declared.events.Event.{Event as EventWith}
use Rattle.codec_payload_session_stream.specs.declared.stream.Step.{Step as StepWith}
use Rattle.codec_payload_session_stream.specs.declared.events.Event.TheVariants as events
use Rattle.codec_payload_session_stream.specs.declared.stream.Step.TheVariants as steps
use Rattle.codec_payload_session_stream.specs.declared.stream.StreamState.{StreamState}

-- each of the streams was asked, and had no event
abbrev pub AreQuiet : Ticks → ℕ → List StreamState → List StreamState → Type 0
AreQuiet now idle [] [] = Unit {0}
AreQuiet now idle [] (t ∷ ts) = ⊥
AreQuiet now idle (s ∷ ss) [] = ⊥
AreQuiet now idle (s ∷ ss) (t ∷ ts) = Steps now idle s steps.Nothing t × AreQuiet now idle ss ts

abbrev pub is_nothing : {U : Type 0} → StepWith U → Bool
is_nothing steps.Begun = false
is_nothing (steps.Unit unit) = false
is_nothing (steps.TooLarge unit) = false
is_nothing (steps.Refused fault) = false
is_nothing (steps.Feedback packet) = false
is_nothing (steps.Ended why) = false
is_nothing steps.Nothing = true

-- the streams before one had no event, this stream has one, and the streams after it were not asked
pub record FirstSteps (now : Ticks) (idle : ℕ) (ss : List StreamState) (turn : Turn) (ts : List StreamState) : Type 0 where
  pub front : List StreamState
  pub quiet : List StreamState
  pub stream : StreamState
  pub stepped : StreamState
  pub rest : List StreamState
  pub before : ss ≡ front ++ stream ∷ rest
  pub are_quiet : AreQuiet now idle front quiet
  pub place : turn.place ≡ length quiet
  pub steps : Steps now idle stream turn.step stepped
  pub tells : is_nothing turn.step ≡ false
  pub after : ts ≡ quiet ++ stepped ∷ rest

abbrev pub StepsFirst : Ticks → ℕ → List StreamState → Option Turn → List StreamState → Type 0
StepsFirst now idle ss None ts = AreQuiet now idle ss ts
StepsFirst now idle ss (Some turn) ts = FirstSteps now idle ss turn ts

-- ---- events

-- the event of a stream; a unit with its RTP time, whether a decoder can show it, and whether it is a keyframe
abbrev pub event_of : {U : Type 0} → StreamState → StepWith U → Option (EventWith U)
event_of s steps.Begun = Some (events.Begun s.ssrc s.format.payload_type)
event_of s (steps.Unit unit) = Some (events.Unit s.ssrc s.format.payload_type s.receiver.time s.receiver.gates.gate.shows s.receiver.gates.is_keyframe unit)
event_of s (steps.TooLarge unit) = Some (events.TooLarge s.ssrc s.format.payload_type unit)
event_of s (steps.Refused fault) = Some (events.Refused s.ssrc s.format.payload_type fault)
event_of s (steps.Feedback packet) = Some (events.Feedback s.ssrc s.format.payload_type packet)
event_of s (steps.Ended why) = Some (events.Ended s.ssrc s.format.payload_type why)
event_of s steps.Nothing = None
