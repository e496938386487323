-- The answers of the keyframe gate, over every run of a receiver.
use Rattle.std.specs.Prelude.{◌≡◌, ◌↔◌, ℕ, Bool, true, false, List, [], ◌∷◌, Option, Some, None, Result, Ok, Err}
use Rattle.std.specs.declared.alloc.AllocError.{AllocError}
use Rattle.codec_payload_base.specs.declared.wire.Codec.{Codec}
use Rattle.codec_payload_base.specs.declared.wire.Ticks.{Ticks}
use Rattle.codec_payload_metadata.specs.Release.{Release}
use Rattle.codec_payload_jitter.specs.declared.outcome.Outcome.{Outcome}
use Rattle.codec_payload_keyframes.specs.Keyframes.{Event, ShowsLast, WantsKeyframe, is_key_unit, is_video, lost, new_gate, released, said_of, skipped}
use Rattle.codec_payload_keyframes.specs.UnitGates.{Gating, is_passed, is_shown}
use Rattle.codec_payload_keyframes.specs.Vp8Layers.{picture_of}
use Rattle.codec_payload_keyframes.specs.declared.references.UnitReferences.{UnitReferences}
use Rattle.codec_payload_receiver.specs.Pops.{Answer, PopsOnce, has_left, is_large, is_memory}
use Rattle.codec_payload_receiver.specs.Sessions.{Finishes, ReceivesBytes, Session, restarted}
use Rattle.codec_payload_receiver.specs.declared.receiver.ReceiveError.{ReceiveError}

-- the event of an answer without a unit, if it is one: packets were discarded because of their picture ids
abbrev pub events_with : Bool → List Event → List Event
events_with true before = skipped ∷ before
events_with false before = before

abbrev pub fault_events : Bool → Bool → List Event → List Event
fault_events true has_left before = events_with has_left before
fault_events false has_left before = lost ∷ before

-- the event of a pop of the jitter buffer, and the events before it
abbrev pub answer_events : Gating → Bool → Answer → UnitReferences → List Event → List Event
answer_events g has_left None references before = events_with has_left before
answer_events g has_left (Some (Err fault)) references before = fault_events (is_memory fault) has_left before
answer_events g has_left (Some (Ok unit)) references before =
    released (is_key_unit g.gate unit.bytes) unit.contiguous (picture_of unit.codec_extra) (said_of unit.codec_extra references) (is_shown g unit.bytes unit.contiguous unit.codec_extra references)
    ∷ before

-- a unit above the bound is lost
abbrev pub pop_events : (large : Bool) → Gating → Bool → Answer → UnitReferences → List Event → List Event
pop_events true g has_left answer references before = lost ∷ before
pop_events false g has_left answer references before = answer_events g has_left answer references before

-- a run of a receiver, and its events, the latest first: pops, announced restarts, and calls that leave the gate unchanged
pub data GateRun (s : Session) : List Event → Session → Type 0 where
  begins : GateRun s [] s
  pops : {mid t : Session} {before events : List Event} (now : ℕ) (answer : Answer) → GateRun s before mid → (once : PopsOnce now mid answer t)
      → events ≡ pop_events (is_large mid.bound.most answer) mid.gates (has_left mid.packets once.packets) answer once.references before → GateRun s events t
  restarts : {mid t : Session} {before : List Event} (ssrc : Option ℕ) (named : Session) → GateRun s before mid → named.gates ≡ mid.gates → t ≡ restarted ssrc named
      → GateRun s (skipped ∷ before) t
  others : {mid t : Session} {before : List Event} → GateRun s before mid → t.gates ≡ mid.gates → GateRun s before t

-- over every run of a new receiver of video: the latest unit is decodable exactly if it is a keyframe, or all that it may refer to is
-- decodable; `wants_keyframe` is true exactly if an event since the last keyframe needs one
abbrev pub PopsFollowKeyframes : Type 0
PopsFollowKeyframes =
    (codec : Codec) (s t : Session) (events : List Event) → is_video codec ≡ true → s.gates.gate ≡ new_gate codec → GateRun s events t
    → ((t.gates.gate.shows ≡ true) ↔ ShowsLast events) × ((t.gates.gate.wants ≡ true) ↔ WantsKeyframe events)

-- a receiver that drops units passes on a unit only if it is a keyframe, or all that it may refer to is decodable
abbrev pub DropsFollowKeyframes : Type 0
DropsFollowKeyframes =
    (codec : Codec) (s mid : Session) (events : List Event) (unit : Release) (references : UnitReferences) → is_video codec ≡ true → s.gates.gate ≡ new_gate codec → GateRun s events mid
    → mid.gates.drops ≡ true → is_passed mid.gates unit.bytes unit.contiguous unit.codec_extra references ≡ true
    → ShowsLast (released (is_key_unit mid.gates.gate unit.bytes) unit.contiguous (picture_of unit.codec_extra) (said_of unit.codec_extra references) true ∷ events)

-- datagrams and the end of the stream leave the gate unchanged
abbrev pub DatagramsLeaveTheGate : Type 0
DatagramsLeaveTheGate =
    ((now : Ticks) (bytes : List ℕ) (s : Session) (answer : Result Outcome ReceiveError) (t : Session) → ReceivesBytes now bytes s answer t → t.gates ≡ s.gates)
    × ((s t : Session) (done : Result Unit AllocError) → Finishes s done t → t.gates ≡ s.gates)
