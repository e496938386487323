-- The calls on packets of FEC.
use Rattle.std.specs.Prelude.{◌≡◌, ◌⊎◌, ℕ, List, length, Option, Some, None, Result, Ok, Err}
use Rattle.codec_payload_fec.specs.Fec.{Fec, mask_of}
use Rattle.codec_payload_fec.specs.Rebuilding.{found_in, rebuilt}
use Rattle.codec_payload_fec.specs.Stores.{Store, kept, no_packets}
use Rattle.codec_payload_fec.specs.declared.packet.FecFault.{FecFault}
use Rattle.codec_payload_fec.specs.declared.packet.FecFault.TheVariants as faults
use Rattle.codec_payload_c_path.specs.Writing.{IsUnwritten, PutsPacket, Writing}
use Rattle.codec_payload_c_path.specs.declared.fec.FecInfo.{FecInfo}
use Rattle.codec_payload_c_path.specs.declared.object.PathObject.{PathObject}
use Rattle.codec_payload_c_path.specs.declared.object.PathObject.TheVariants as objects

-- the statuses for bytes that are not a packet of FEC
abbrev pub fec_status : FecFault → ℕ
fec_status faults.HeaderTooShort = 82
fec_status faults.Extended = 83
fec_status faults.LevelTooShort = 84
fec_status faults.EmptyMask = 85
fec_status faults.PayloadTooShort = 86

abbrev pub info_of : Fec → FecInfo
info_of f = record { mask = mask_of f.mask f.continued; bytes = length f.recovery.bytes; base = f.base }

-- Status 0: what the packet protects. Otherwise the status of the first fault, and nothing is written
abbrev pub ReadsFec : Result Fec FecFault → ℕ → FecInfo → FecInfo → Type 0
ReadsFec (Ok f) status before after = (status ≡ 0) × (after ≡ info_of f)
ReadsFec (Err fault) status before after = (status ≡ fec_status fault) × (after ≡ before)

-- a store without packets, which take at most that many bytes in all
abbrev pub IsStoreOf : (bytes : ℕ) → PathObject → Type 0
IsStoreOf bytes (objects.PacketStore r) = r.value ≡ no_packets bytes
IsStoreOf bytes _ = ⊥

-- Status 0: the packet is kept, unless it is too large. Status 17: memory ran out, and nothing changes
abbrev pub KeepsPacket : List ℕ → Store → ℕ → Store → Type 0
KeepsPacket packet r status s = ((status ≡ 0) × (s ≡ kept packet r)) ⊎ ((status ≡ 17) × (s ≡ r))

-- Status 32: no packet is rebuilt, and nothing is written
abbrev pub PutsRebuilt : Option (List ℕ) → ℕ → Writing → Type 0
PutsRebuilt (Some packet) status w = PutsPacket packet status w
PutsRebuilt None status w = (status ≡ 32) × IsUnwritten w

-- Status 17: memory ran out, and nothing is written. Bytes that are not a packet of FEC: the status of the first fault, and nothing is
-- written
abbrev pub RebuildsPacket : Result Fec FecFault → (ssrc : ℕ) → Store → ℕ → Writing → Type 0
RebuildsPacket (Ok f) ssrc r status w = PutsRebuilt (rebuilt ssrc f (found_in r.slots)) status w ⊎ ((status ≡ 17) × IsUnwritten w)
RebuildsPacket (Err fault) ssrc r status w = (status ≡ fec_status fault) × IsUnwritten w
