-- The result of a call, together with the result of reading.
use Rattle.std.specs.Prelude.{◌≡◌, List, ℕ, ◌++◌, Option, Some, None, Result, Ok, Err}
use Rattle.codec_payload_base.specs.declared.error.PacketError.{PacketError}
use Rattle.codec_payload_base.specs.declared.error.PacketError.TheVariants as faults

-- A fault of the bytes occurs only if reading finds nothing; memory can run out anywhere.
abbrev pub Fails : {Y : Type 0} → PacketError → Option Y → Type 0
Fails faults.OutOfMemory read = Unit {0}
Fails faults.ErrAv1CorruptedPacket read = read ≡ None
Fails _ read = ⊥

-- The bytes that reading finds were appended.
abbrev pub Appends : {X : Type 0} → Result X PacketError → List ℕ → List ℕ → Option (List ℕ) → Type 0
Appends (Ok x) old new read = (added : List ℕ) × (read ≡ Some added) × (new ≡ old ++ added)
Appends (Err e) old new read = Fails e read

-- The bytes that reading finds first were appended, and the ones that it finds next are left.
abbrev pub Takes : {X : Type 0} → Result X PacketError → List ℕ → List ℕ → List ℕ → Option (List ℕ × List ℕ) → Type 0
Takes (Ok x) old new left read = (added : List ℕ) × (read ≡ Some (added, left)) × (new ≡ old ++ added)
Takes (Err e) old new left read = Fails e read
