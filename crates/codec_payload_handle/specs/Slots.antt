-- A unit in memory that is used again.
use Rattle.std.specs.Prelude.{◌≡◌, ℕ, Bool, true, false, nat_le, Option, Some, None, Result, Ok, Err, List, length, ⊤}
use Rattle.std.specs.declared.alloc.AllocError.{AllocError}
use Rattle.codec_payload_core.specs.Release.{Release}
use Rattle.codec_payload_core.specs.declared.buffer.RtpMeta.{RtpMeta}
use Rattle.codec_payload_core.specs.declared.error.PacketError.{PacketError}
use Rattle.codec_payload_core.specs.declared.error.PacketError.TheVariants as faults
use Rattle.codec_payload_handle.specs.Bytes.{filled}
use Rattle.codec_payload_handle.specs.Popping.{Answer}
use Rattle.codec_payload_handle.specs.Units.{TellsUnit, TellsValues}
use Rattle.codec_payload_handle.specs.declared.extension_values.ExtensionValues.{ExtensionValues as CValues}
use Rattle.codec_payload_handle.specs.declared.unit.Unit.{Unit as CUnit}
use Rattle.codec_payload_session_stream.specs.Units.{Event}
use Rattle.codec_payload_session_stream.specs.declared.events.Event.TheVariants as events
use Rattle.codec_payload_receiver.specs.declared.pops.Popped.{Popped as Pop}
use Rattle.codec_payload_receiver.specs.declared.pops.Popped.TheVariants as popped

-- `Popped`: a pop gave this answer. Its unit, if there is one, is in the slot afterwards; otherwise the slot has none
abbrev pub PopsTo : (Popped : Answer → Type 0) → Option (Result ⊤ PacketError) → Option Release → Type 0
PopsTo Popped None slot = Popped None × (slot ≡ None)
PopsTo Popped (Some (Err fault)) slot = Popped (Some (Err fault)) × (slot ≡ None)
PopsTo Popped (Some (Ok _)) slot = (u : Release) × (slot ≡ Some u) × Popped (Some (Ok u))

-- `Popped`: a pop of a receiver gave this answer, and whether its unit is too large. Any other unit is in the slot afterwards
abbrev pub PopsFrom : (Popped : (large : Bool) → Answer → Type 0) → Option (Result (Pop ⊤) AllocError) → Option Release → Type 0
PopsFrom Popped None slot = Popped false None × (slot ≡ None)
PopsFrom Popped (Some (Err e)) slot = Popped false (Some (Err faults.OutOfMemory)) × (slot ≡ None)
PopsFrom Popped (Some (Ok (popped.Refused fault))) slot = Popped false (Some (Err fault)) × (slot ≡ None)
PopsFrom Popped (Some (Ok (popped.Unit _))) slot = (u : Release) × (slot ≡ Some u) × Popped false (Some (Ok u))
PopsFrom Popped (Some (Ok (popped.TooLarge _))) slot = (u : Release) × (slot ≡ None) × Popped true (Some (Ok u))

-- the unit is described, and its bytes are at the front of the output buffer, if that has room for them
pub record IsWrittenTo (u : Release) (has_room : Bool) (unit : CUnit) (before bytes : List ℕ) : Type 0 where
  pub tells : TellsUnit u unit
  pub room : has_room ≡ nat_le (length u.bytes) (length before)
  pub writes : bytes ≡ filled u.bytes before

abbrev pub IsWritten : Option Release → Bool → CUnit → (before bytes : List ℕ) → Type 0
IsWritten None has_room unit before bytes = Unit {0}
IsWritten (Some u) has_room unit before bytes = IsWrittenTo u has_room unit before bytes

-- the unit of a slot is described, its bytes are lent, and its packets are those of the latest unit: the slot has it no longer
pub record IsLentAs (u : Release) (unit : CUnit) (lent : List ℕ) (taken : Option (List RtpMeta)) (slot : Option Release) : Type 0 where
  pub tells : TellsUnit u unit
  pub lends : lent ≡ u.bytes
  pub takes : taken ≡ Some u.metas
  pub gone : slot ≡ None

abbrev pub IsLent : Option Release → CUnit → (lent : List ℕ) → (taken : Option (List RtpMeta)) → (slot : Option Release) → Type 0
IsLent None unit lent taken slot = Unit {0}
IsLent (Some u) unit lent taken slot = IsLentAs u unit lent taken slot

-- the packets of the latest unit, after a poll with this event
abbrev pub latest_packets : Option Event → Option (List RtpMeta) → Option (List RtpMeta)
latest_packets None taken = taken
latest_packets (Some (events.Begun ssrc payload_type)) taken = taken
latest_packets (Some (events.Unit ssrc payload_type time decodable keyframe (Ok unit))) taken = Some unit.metas
latest_packets (Some (events.Unit ssrc payload_type time decodable keyframe (Err e))) taken = taken
latest_packets (Some (events.TooLarge ssrc payload_type unit)) taken = taken
latest_packets (Some (events.Refused ssrc payload_type fault)) taken = taken
latest_packets (Some (events.Feedback ssrc payload_type packet)) taken = taken
latest_packets (Some (events.Telephone ssrc payload_type time marker payload)) taken = taken
latest_packets (Some (events.Report packet)) taken = taken
latest_packets (Some (events.TransportFeedback packet)) taken = taken
latest_packets (Some (events.Ended ssrc payload_type why)) taken = taken

-- the values of the unit with these packets, if there is one
abbrev pub TellsValuesOf : Option (List RtpMeta) → Option CValues → Type 0
TellsValuesOf None values = values ≡ None
TellsValuesOf (Some metas) (Some values) = TellsValues metas values
TellsValuesOf (Some metas) None = ⊥
