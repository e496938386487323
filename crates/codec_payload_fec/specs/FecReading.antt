-- Packets of FEC as they are read, from the left, with the first fault that is met.
use Rattle.std.specs.Prelude.{◌≡◌, ℕ, ◌%◌, ◌==◌, nat_le, nat_lt, if◌then◌else◌, Bool, false, true, List, [], ◌∷◌, length, take, drop, Option, Some, None, Result, Ok, Err}
use Rattle.std.specs.Int.{w16, w32, from_be_bytes}
use Rattle.codec_payload_base.specs.Flags.{AreBytes}
use Rattle.codec_payload_fec.specs.Fec.{Fec, FitsFec, fec_bytes, mask_of}
use Rattle.codec_payload_fec.specs.declared.packet.FecFault.{FecFault}
use Rattle.codec_payload_fec.specs.declared.packet.FecFault.TheVariants as faults
use Rattle.codec_payload_fec.specs.declared.packet.FecPacket.{FecPacket}
use Rattle.codec_payload_fec.specs.declared.packet.Level.{Level}

abbrev pub fec_of : FecPacket → Fec
fec_of f = record {
  base = f.base;
  mask = f.mask;
  continued = f.mask_continued;
  recovery = record { first = f.first; second = f.second; time = f.time; size = f.length; bytes = f.payload.now };
  further = f.further.now;
}

-- level 0: its mask, its payload, and the bytes after it
pub record LevelValue : Type 0 where
  pub mask : ℕ
  pub continued : Option ℕ
  pub payload : List ℕ
  pub further : List ℕ

abbrev pub level_of : Level → LevelValue
level_of l = record { mask = l.mask; continued = l.mask_continued; payload = l.payload.now; further = l.further.now }

-- a payload of that many bytes after a mask
abbrev pub level_with : ℕ → Option ℕ → ℕ → List ℕ → Result LevelValue FecFault
level_with mask continued size bytes =
    if mask_of mask continued == 0 then Err faults.EmptyMask
    else if nat_lt (length bytes) size then Err faults.PayloadTooShort
    else Ok (record { mask = mask; continued = continued; payload = take size bytes; further = drop size bytes })

-- the header and the payload of level 0, with a mask of 48 bits or one of 16
unfoldable pub level_at : Bool → List ℕ → Result LevelValue FecFault
level_at true (p1 ∷ p0 ∷ m1 ∷ m0 ∷ c3 ∷ c2 ∷ c1 ∷ c0 ∷ rest) =
    level_with (from_be_bytes w16 (m1 ∷ m0 ∷ [])) (Some (from_be_bytes w32 (c3 ∷ c2 ∷ c1 ∷ c0 ∷ []))) (from_be_bytes w16 (p1 ∷ p0 ∷ [])) rest
level_at false (p1 ∷ p0 ∷ m1 ∷ m0 ∷ rest) = level_with (from_be_bytes w16 (m1 ∷ m0 ∷ [])) None (from_be_bytes w16 (p1 ∷ p0 ∷ [])) rest
level_at is_long bytes = Err faults.LevelTooShort

-- a packet of FEC with these fields of its header, and that level
abbrev pub with_level : (first second base time size : ℕ) → Result LevelValue FecFault → Result Fec FecFault
with_level first second base time size (Err fault) = Err fault
with_level first second base time size (Ok l) =
    Ok (record { base = base; mask = l.mask; continued = l.continued; recovery = record { first = first; second = second; time = time; size = size; bytes = l.payload }; further = l.further })

unfoldable pub fec_at : List ℕ → Result Fec FecFault
fec_at (b0 ∷ b1 ∷ n1 ∷ n0 ∷ t3 ∷ t2 ∷ t1 ∷ t0 ∷ l1 ∷ l0 ∷ rest) =
    if nat_le 128 b0 then Err faults.Extended
    else with_level (b0 % 64) b1 (from_be_bytes w16 (n1 ∷ n0 ∷ [])) (from_be_bytes w32 (t3 ∷ t2 ∷ t1 ∷ t0 ∷ [])) (from_be_bytes w16 (l1 ∷ l0 ∷ [])) (level_at (nat_le 64 b0) rest)
fec_at bytes = Err faults.HeaderTooShort

-- ---- what is spelled is read, and what is read is spelled so

abbrev pub FecComesBack : Type 0
FecComesBack = (f : Fec) → FitsFec f → fec_at (fec_bytes f) ≡ Ok f

abbrev pub ReadIsSpelled : Type 0
ReadIsSpelled = (bytes : List ℕ) (f : Fec) → AreBytes bytes → fec_at bytes ≡ Ok f → (bytes ≡ fec_bytes f) × FitsFec f
