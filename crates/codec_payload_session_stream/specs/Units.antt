-- Units in memory of the caller: what a call answers without its unit, and the same answer with it.
use Rattle.std.specs.Prelude.{◌<◌, ⊤, Option, Some, None, Result, Ok, Err, length}
use Rattle.std.specs.declared.alloc.AllocError.{AllocError}
use Rattle.codec_payload_metadata.specs.Release.{Release}
use Rattle.codec_payload_receiver.specs.declared.pops.Popped.{Popped}
use Rattle.codec_payload_receiver.specs.declared.pops.Popped.TheVariants as popped
use Rattle.codec_payload_session_stream.specs.declared.events.Event.{Event as EventWith}
use Rattle.codec_payload_session_stream.specs.declared.events.Event.TheVariants as events
use Rattle.codec_payload_session_stream.specs.declared.stream.Step.{Step as StepWith}
use Rattle.codec_payload_session_stream.specs.declared.stream.Step.TheVariants as steps
use Rattle.codec_payload_session_stream.specs.declared.stream.Turn.{Turn as TurnWith}
use Rattle.codec_payload_session_requests.specs.Named.{result_with}

-- an event, a step and a turn with their unit
abbrev pub Event : Type 0
Event = EventWith Release

abbrev pub Step : Type 0
Step = StepWith Release

abbrev pub Turn : Type 0
Turn = TurnWith Release

-- ---- the answers of a pop, with the unit that it wrote

abbrev pub unit_with : Result ⊤ AllocError → Release → Result Release AllocError
unit_with (Ok done) unit = Ok unit
unit_with (Err e) unit = Err e

-- ---- steps and events, with that unit

abbrev pub step_to : StepWith ⊤ → Release → Step
step_to steps.Begun unit = steps.Begun
step_to (steps.Unit done) unit = steps.Unit (unit_with done unit)
step_to (steps.TooLarge done) unit = steps.TooLarge unit
step_to (steps.Refused fault) unit = steps.Refused fault
step_to (steps.Feedback packet) unit = steps.Feedback packet
step_to (steps.Ended why) unit = steps.Ended why
step_to steps.Nothing unit = steps.Nothing

abbrev pub turn_to : Option (TurnWith ⊤) → Release → Option Turn
turn_to None unit = None
turn_to (Some turn) unit = Some (record { place = turn.place; step = step_to turn.step unit })

abbrev pub with_unit : EventWith ⊤ → Release → Event
with_unit (events.Begun ssrc payload_type) unit = events.Begun ssrc payload_type
with_unit (events.Unit ssrc payload_type time decodable keyframe done) unit = events.Unit ssrc payload_type time decodable keyframe (unit_with done unit)
with_unit (events.TooLarge ssrc payload_type done) unit = events.TooLarge ssrc payload_type unit
with_unit (events.Refused ssrc payload_type fault) unit = events.Refused ssrc payload_type fault
with_unit (events.Feedback ssrc payload_type packet) unit = events.Feedback ssrc payload_type packet
with_unit (events.Telephone ssrc payload_type time marker payload) unit = events.Telephone ssrc payload_type time marker payload
with_unit (events.Report packet) unit = events.Report packet
with_unit (events.TransportFeedback packet) unit = events.TransportFeedback packet
with_unit (events.Ended ssrc payload_type why) unit = events.Ended ssrc payload_type why

abbrev pub event_to : Option (EventWith ⊤) → Release → Option Event
event_to None unit = None
event_to (Some event) unit = Some (with_unit event unit)

-- ---- a unit has packets

abbrev pub HasPackets : Result Release AllocError → Type 0
HasPackets (Ok unit) = 0 < length unit.metas
HasPackets (Err e) = Unit {0}

abbrev pub HasUnit : Option Event → Type 0
HasUnit None = Unit {0}
HasUnit (Some (events.Begun ssrc payload_type)) = Unit {0}
HasUnit (Some (events.Unit ssrc payload_type time decodable keyframe unit)) = HasPackets unit
HasUnit (Some (events.TooLarge ssrc payload_type unit)) = 0 < length unit.metas
HasUnit (Some (events.Refused ssrc payload_type fault)) = Unit {0}
HasUnit (Some (events.Feedback ssrc payload_type packet)) = Unit {0}
HasUnit (Some (events.Telephone ssrc payload_type time marker payload)) = Unit {0}
HasUnit (Some (events.Report packet)) = Unit {0}
HasUnit (Some (events.TransportFeedback packet)) = Unit {0}
HasUnit (Some (events.Ended ssrc payload_type why)) = Unit {0}
