-- The calls on a depacketizer.
use Rattle.std.specs.Prelude.{◌≡◌, ◌≢◌, ℕ, ◌==◌, nat_le, if◌then◌else◌, List, [], Option, Some, Ok, Err, length}
use Rattle.codec_payload_core.specs.Depacketizers.{DepacketizerState, DepacketizerStep, depacketizer_state_of}
use Rattle.codec_payload_core.specs.Faults.{fault_number}
use Rattle.codec_payload_core.specs.declared.error.PacketError.{PacketError}
use Rattle.codec_payload_core.specs.declared.interface.CodecExtra.TheVariants as told
use Rattle.codec_payload_handle.specs.Bytes.{filled}
use Rattle.codec_payload_handle.specs.Extras.{extra_told}
use Rattle.codec_payload_handle.specs.declared.extra.Extra.{Extra}
use Rattle.codec_payload_handle.specs.declared.object.Assembler.{Assembler}
use Rattle.codec_payload_handle.specs.declared.object.Object.{Object}
use Rattle.codec_payload_handle.specs.declared.object.Object.TheVariants as objects
use Rattle.codec_payload_c_packets.specs.declared.depacketizer.LentUnit.{LentUnit}
use Rattle.std_alloc.specs.Vec.{vec_ptr}

-- a new depacketizer, without bytes of a unit
abbrev pub IsAssemblerOf : Option DepacketizerState → Object → Type 0
IsAssemblerOf depacketizer (objects.Assembler r) = (Some (depacketizer_state_of r.value.depacketizer) ≡ depacketizer) × (r.value.bytes.items ≡ []) × (r.value.extra ≡ told.None)
IsAssemblerOf depacketizer _ = ⊥

-- a payload is read as the depacketizer reads it
pub record Unpacks (r : Assembler) (payload : List ℕ) (status : ℕ) (s : Assembler) : Type 0 where
  pub ok : status ≡ 0 → DepacketizerStep (depacketizer_state_of r.depacketizer) payload r.bytes.items r.extra (Ok tt) (depacketizer_state_of s.depacketizer) s.bytes.items s.extra
  pub fault : status ≢ 0
      → (e : PacketError) × (status ≡ fault_number e) × DepacketizerStep (depacketizer_state_of r.depacketizer) payload r.bytes.items r.extra (Err e)
      (depacketizer_state_of s.depacketizer) s.bytes.items s.extra

-- the unit so far is written to the output buffer, or stays if the buffer is too small
pub record Takes (r : Assembler) (status size : ℕ) (extra : Extra) (before bytes : List ℕ) (s : Assembler) : Type 0 where
  pub answers : status ≡ (if nat_le (length r.bytes.items) (length before) then 0 else 33)
  pub size_is : size ≡ length r.bytes.items
  pub tells : extra ≡ extra_told r.extra
  pub writes : bytes ≡ filled r.bytes.items before
  pub bytes_left : s.bytes.items ≡ (if status == 0 then [] else r.bytes.items)
  pub extra_left : s.extra ≡ (if status == 0 then told.None else r.extra)
  pub depacketizer : s.depacketizer ≡ r.depacketizer

-- where the unit so far is: the block of the depacketizer's own bytes
pub record LentBy (r : Assembler) (unit : LentUnit) : Type 0 where
  pub place : unit.at ≡ vec_ptr r.bytes
  pub size : unit.bytes ≡ length r.bytes.items
  pub tells : unit.extra ≡ extra_told r.extra

-- the unit so far is lent: it stays in the depacketizer, which is unchanged
pub record Lends (r : Assembler) (status : ℕ) (unit : LentUnit) (s : Assembler) : Type 0 where
  pub answers : status ≡ 0
  pub lent : LentBy s unit
  pub same : s ≡ r

-- the next unit begins, without bytes and data
pub record StartsAnew (r s : Assembler) : Type 0 where
  pub bytes : s.bytes.items ≡ []
  pub extra : s.extra ≡ told.None
  pub depacketizer : s.depacketizer ≡ r.depacketizer

-- the unit so far is forgotten
pub record Forgets (r : Assembler) (status : ℕ) (s : Assembler) : Type 0 where
  pub answers : status ≡ 0
  pub anew : StartsAnew r s
