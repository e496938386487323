-- A packet in the output buffer.
use Rattle.std.specs.Prelude.{◌≡◌, ℕ, nat_le, Bool, true, false, List, length}
use Rattle.codec_payload_c_path.specs.Bytes.{filled}

-- what a call writes: the output buffer, and the size of the packet, before and after
pub record Writing : Type 0 where
  pub before : List ℕ
  pub bytes : List ℕ
  pub size_before : ℕ
  pub size : ℕ

-- nothing is written
abbrev pub IsUnwritten : Writing → Type 0
IsUnwritten w = (w.bytes ≡ w.before) × (w.size ≡ w.size_before)

-- Status 0: the packet is at the front of the output buffer. Status 33: the output buffer is too small. The size is reported
abbrev pub PutsIf : Bool → List ℕ → ℕ → Writing → Type 0
PutsIf true packet status w = (status ≡ 0) × (w.bytes ≡ filled packet w.before) × (w.size ≡ length packet)
PutsIf false packet status w = (status ≡ 33) × (w.bytes ≡ w.before) × (w.size ≡ length packet)

abbrev pub PutsPacket : List ℕ → ℕ → Writing → Type 0
PutsPacket packet status w = PutsIf (nat_le (length packet) (length w.before)) packet status w
