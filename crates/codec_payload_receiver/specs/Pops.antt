-- Pops of a receiver: each is a pop of the jitter buffer, and updates the keyframe gate.
use Rattle.std.specs.Prelude.{◌≡◌, ◌==◌, ◌||◌, ℕ, length, not, Bool, true, false, Option, Some, None, Result, Ok, Err}
use Rattle.std.specs.declared.alloc.AllocError.{AllocError}
use Rattle.codec_payload_base.specs.declared.error.PacketError.{PacketError}
use Rattle.codec_payload_base.specs.declared.error.PacketError.TheVariants as faults
use Rattle.codec_payload_metadata.specs.Release.{Release}
use Rattle.codec_payload_jitter.specs.Receiving.{PopsWith, Receiving, settled, waiting_at}
use Rattle.codec_payload_keyframes.specs.UnitGates.{Gating, is_passed, with_loss, with_skip, with_unit}
use Rattle.codec_payload_keyframes.specs.declared.references.UnitReferences.{UnitReferences}
use Rattle.codec_payload_receiver.specs.Bounds.{is_over, with_over}
use Rattle.codec_payload_receiver.specs.Noting.{Noting, TakesNotes}
use Rattle.codec_payload_receiver.specs.Sessions.{Session, time_with}
use Rattle.codec_payload_receiver.specs.declared.bound.UnitBound.{UnitBound}
use Rattle.codec_payload_receiver.specs.declared.pops.Popped.{Popped}
use Rattle.codec_payload_receiver.specs.declared.pops.Popped.TheVariants as popped

-- the answer of a pop
abbrev pub Answer : Type 0
Answer = Option (Result Release PacketError)

-- a pop returned no unit; complete frames were discarded if packets left
abbrev pub without_unit : Gating → Bool → Gating
without_unit g true = with_skip g
without_unit g false = g

-- after this fault the frame is still held
abbrev pub is_memory : PacketError → Bool
is_memory faults.OutOfMemory = true
is_memory _ = false

-- the answer of the jitter buffer, with all faults in one place: out of memory is one of them. A unit above the bound is a unit
abbrev pub answer_of : {U : Type 0} → Option (Result (Popped U) AllocError) → Option (Result U PacketError)
answer_of None = None
answer_of (Some (Ok (popped.Unit unit))) = Some (Ok unit)
answer_of (Some (Ok (popped.TooLarge unit))) = Some (Ok unit)
answer_of (Some (Ok (popped.Refused fault))) = Some (Err fault)
answer_of (Some (Err e)) = Some (Err faults.OutOfMemory)

-- the fault of a refused frame is not out of memory
abbrev pub NamesFault : {U : Type 0} → Option (Result (Popped U) AllocError) → Type 0
NamesFault None = Unit {0}
NamesFault (Some (Ok (popped.Unit unit))) = Unit {0}
NamesFault (Some (Ok (popped.TooLarge unit))) = Unit {0}
NamesFault (Some (Ok (popped.Refused fault))) = is_memory fault ≡ false
NamesFault (Some (Err e)) = Unit {0}

abbrev pub after_fault : Bool → Gating → Bool → Gating
after_fault true g has_left = without_unit g has_left
after_fault false g has_left = with_loss g

-- the gate after an answer, whose unit refers to these frames
abbrev pub gates_after : Gating → Bool → Answer → UnitReferences → Gating
gates_after g has_left None references = without_unit g has_left
gates_after g has_left (Some (Err fault)) references = after_fault (is_memory fault) g has_left
gates_after g has_left (Some (Ok unit)) references = with_unit g unit.bytes unit.contiguous unit.codec_extra references

-- a unit can be dropped; any other answer is passed on
abbrev pub is_passed_on : Gating → Answer → UnitReferences → Bool
is_passed_on g None references = true
is_passed_on g (Some (Err fault)) references = true
is_passed_on g (Some (Ok unit)) references = is_passed g unit.bytes unit.contiguous unit.codec_extra references

-- ---- the bound of units

-- the answer is a unit above the bound
abbrev pub is_large : Option ℕ → Answer → Bool
is_large most None = false
is_large most (Some (Err fault)) = false
is_large most (Some (Ok unit)) = is_over most unit.bytes

-- a receiver says that the unit is too large
abbrev pub is_too_large : {U : Type 0} → Option (Result (Popped U) AllocError) → Bool
is_too_large None = false
is_too_large (Some (Ok (popped.Unit unit))) = false
is_too_large (Some (Ok (popped.TooLarge unit))) = true
is_too_large (Some (Ok (popped.Refused fault))) = false
is_too_large (Some (Err e)) = false

abbrev pub is_unit : {U : Type 0} → Option (Result U PacketError) → Bool
is_unit None = false
is_unit (Some (Err fault)) = false
is_unit (Some (Ok unit)) = true

-- how many packets the unit of an answer has
abbrev pub packets_in : Answer → ℕ
packets_in None = 0
packets_in (Some (Err fault)) = 0
packets_in (Some (Ok unit)) = length unit.metas

-- the gate, the time and the bound after an answer: a unit above the bound is lost for the gate, leaves the time, and counts
abbrev pub gates_if : (large : Bool) → Gating → Bool → Answer → UnitReferences → Gating
gates_if true g has_left answer references = with_loss g
gates_if false g has_left answer references = gates_after g has_left answer references

abbrev pub time_if : (large : Bool) → Option ℕ → Answer → Option ℕ
time_if true time answer = time
time_if false time answer = time_with time answer

abbrev pub bound_if : (large : Bool) → UnitBound → Answer → UnitBound
bound_if true b answer = with_over (packets_in answer) b
bound_if false b answer = b

-- a unit above the bound is passed on too, as what it is
abbrev pub is_answered : Session → Answer → UnitReferences → Bool
is_answered s answer references = is_large s.bound.most answer || is_passed_on s.gates answer references

-- ---- pops

-- the pop discarded packets
abbrev pub has_left : Receiving → Receiving → Bool
has_left r t = not (t.counters.left == r.counters.left)

-- one pop of the jitter buffer. A unit takes its notes, which say what it refers to, also a unit above the bound
pub record PopsOnce (now : ℕ) (s : Session) (answer : Answer) (t : Session) : Type 0 where
  pub packets : Receiving
  pub references : UnitReferences
  pub notes : Option Noting
  pub pops : PopsWith (waiting_at (settled s.packets) now) (settled s.packets) answer packets
  pub takes : TakesNotes answer s.notes references notes
  pub left : t ≡ record s {
    packets = packets;
    time = time_if (is_large s.bound.most answer) s.time answer;
    gates = gates_if (is_large s.bound.most answer) s.gates (has_left s.packets packets) answer references;
    bound = bound_if (is_large s.bound.most answer) s.bound answer;
    notes = notes;
  }

-- the same, and whether the answer is passed on
abbrev pub PassesOnce : ℕ → Session → Answer → Bool → Session → Type 0
PassesOnce now s answer passed t = (once : PopsOnce now s answer t) × (passed ≡ is_answered s answer once.references)

-- pops whose units are dropped
pub data DropsUnits (now : ℕ) : Session → Session → Type 0 where
  none_dropped : {s : Session} → DropsUnits now s s
  one_more : {s mid t : Session} (unit : Release) → DropsUnits now s mid → PassesOnce now mid (Some (Ok unit)) false t → DropsUnits now s t

-- a pop of a receiver: units are dropped, and the first other answer is passed on
pub record PopsGated (now : ℕ) (s : Session) (answer : Answer) (t : Session) : Type 0 where
  pub mid : Session
  pub dropped : DropsUnits now s mid
  pub pops : PopsOnce now mid answer t
  pub passed : is_answered mid answer pops.references ≡ true
