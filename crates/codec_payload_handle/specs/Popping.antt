-- The next unit for the caller: the unit that waits, or the result of a pop.
use Rattle.std.specs.Prelude.{◌≡◌, ◌≢◌, ◌⊎◌, ℕ, ◌<◌, ◌≤◌, Option, Some, None, Result, Ok, Err, List, length}
use Rattle.codec_payload_core.specs.Faults.{fault_number}
use Rattle.codec_payload_core.specs.Release.{Release}
use Rattle.codec_payload_core.specs.declared.error.PacketError.{PacketError}
use Rattle.codec_payload_core.specs.declared.error.PacketError.TheVariants as faults
use Rattle.codec_payload_handle.specs.Bytes.{filled}
use Rattle.codec_payload_handle.specs.Units.{refused_unit, too_large_unit}
use Rattle.codec_payload_handle.specs.declared.unit.Unit.{Unit as CUnit}

-- the answer of a pop
abbrev pub Answer : Type 0
Answer = Option (Result Release PacketError)

-- `Stays`: no pop was made. `Popped`: a pop gave this answer. `Told`: the description of a unit. The unit waited already, or a
-- pop returns it now.
abbrev pub Comes : (Stays : Type 0) (Popped : Answer → Type 0) (waited : Option Release) → Release → Type 0
Comes Stays Popped waited u = ((waited ≡ Some u) × Stays) ⊎ ((waited ≡ None) × Popped (Some (Ok u)))

-- a call for a unit: the unit that waits before and after it, the description of a unit, and the output buffer
pub record Handing : Type 0 where
  pub waited : Option Release
  pub waits : Option Release
  pub unit_before : CUnit
  pub unit : CUnit
  pub before : List ℕ
  pub bytes : List ℕ

-- there was a unit: it is described, and its bytes are at the front of the output buffer
pub record Gives (Stays : Type 0) (Popped : Answer → Type 0) (Told : Release → CUnit → Type 0) (h : Handing) : Type 0 where
  pub release : Release
  pub comes : Comes Stays Popped h.waited release
  pub tells : Told release h.unit
  pub room : length release.bytes ≤ length h.before
  pub writes : h.bytes ≡ filled release.bytes h.before
  pub gone : h.waits ≡ None

-- there was a unit: it is described, and waits, since the output buffer is too small
pub record Keeps (Stays : Type 0) (Popped : Answer → Type 0) (Told : Release → CUnit → Type 0) (h : Handing) : Type 0 where
  pub release : Release
  pub comes : Comes Stays Popped h.waited release
  pub tells : Told release h.unit
  pub room : length h.before < length release.bytes
  pub untouched : h.bytes ≡ h.before
  pub waits : h.waits ≡ Some release

-- there was no unit to return
pub record GivesNone (Popped : Answer → Type 0) (h : Handing) : Type 0 where
  pub none_waited : h.waited ≡ None
  pub pops : Popped None
  pub none_waits : h.waits ≡ None

-- a pop returned an error
pub record GivesFault (Popped : Answer → Type 0) (status : ℕ) (h : Handing) : Type 0 where
  pub none_waited : h.waited ≡ None
  pub fault : PacketError
  pub number : status ≡ fault_number fault
  pub pops : Popped (Some (Err fault))
  pub none_waits : h.waits ≡ None

-- the next unit, by the status
pub record AnswersPop (Stays : Type 0) (Popped : Answer → Type 0) (Told : Release → CUnit → Type 0) (status : ℕ) (h : Handing) : Type 0 where
  pub ok : status ≡ 0 → Gives Stays Popped Told h
  pub too_small : status ≡ 33 → Keeps Stays Popped Told h
  pub none : status ≡ 32 → GivesNone Popped h
  pub fault : status ≢ 0 → status ≢ 32 → status ≢ 33 → GivesFault Popped status h
  pub unchanged : status ≢ 0 → status ≢ 33 → (h.unit ≡ h.unit_before) × (h.bytes ≡ h.before)

-- the pop of a receiver refused a frame: its fault, which is not out of memory, is the description, and there are no bytes
pub record GivesRefusal (Popped : Answer → Type 0) (h : Handing) : Type 0 where
  pub none_waited : h.waited ≡ None
  pub fault : PacketError
  pub not_memory : fault_number fault ≢ 17
  pub tells : h.unit ≡ refused_unit fault
  pub pops : Popped (Some (Err fault))
  pub none_waits : h.waits ≡ None
  pub untouched : h.bytes ≡ h.before

-- the pop of a receiver gave a unit that is too large: that is the description, and there are no bytes
pub record GivesTooLarge (TooLarge : Release → Type 0) (h : Handing) : Type 0 where
  pub none_waited : h.waited ≡ None
  pub release : Release
  pub pops : TooLarge release
  pub tells : h.unit ≡ too_large_unit
  pub none_waits : h.waits ≡ None
  pub untouched : h.bytes ≡ h.before

-- memory ran out for a pop of a receiver
pub record GivesNoMemory (Popped : Answer → Type 0) (status : ℕ) (h : Handing) : Type 0 where
  pub none_waited : h.waited ≡ None
  pub number : status ≡ 17
  pub pops : Popped (Some (Err faults.OutOfMemory))
  pub none_waits : h.waits ≡ None

-- the next unit, refused frame or unit that is too large of a receiver, by the status and the fault of the description
pub record AnswersPopOrRefusal (Stays : Type 0) (Popped : Answer → Type 0) (TooLarge : Release → Type 0) (Told : Release → CUnit → Type 0) (status : ℕ) (h : Handing) : Type 0 where
  pub ok : status ≡ 0 → h.unit.fault ≡ 0 → Gives Stays Popped Told h
  pub refused : status ≡ 0 → h.unit.fault ≢ 0 → h.unit.fault ≢ 76 → GivesRefusal Popped h
  pub too_large : status ≡ 0 → h.unit.fault ≡ 76 → GivesTooLarge TooLarge h
  pub too_small : status ≡ 33 → Keeps Stays Popped Told h
  pub none : status ≡ 32 → GivesNone Popped h
  pub no_memory : status ≢ 0 → status ≢ 32 → status ≢ 33 → GivesNoMemory Popped status h
  pub unchanged : status ≢ 0 → status ≢ 33 → (h.unit ≡ h.unit_before) × (h.bytes ≡ h.before)
