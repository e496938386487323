-- OBUs of a temporal unit (AV1 bitstream specification, sections 5.2 to 5.4): a forbidden bit, the type (4 bits), whether there
-- is an extension (1) and a size (1), a bit of any value; the extension of 3 bits temporal and 2 spatial layer and 3 of any value;
-- the size in LEB128 of at most eight bytes; the payload.
use Rattle.std.specs.Prelude.{◌≡◌, ◌<◌, ◌≤◌, ◌+◌, ◌*◌, ◌++◌, ℕ, ◌/◌, ◌%◌, ◌==◌, ◌||◌, nat_lt, Bool, true, false, List, [], ◌∷◌, length, take, drop, if◌then◌else◌, Option, Some, None, Result, Ok, Err}
use Rattle.codec_payload_base.specs.Flags.{AreBytes}
use Rattle.codec_payload_base.specs.Leb.{IsLeb128, leb_low}
use Rattle.codec_payload_vpx.specs.declared.error.MediaError.{MediaError}
use Rattle.codec_payload_vpx.specs.declared.error.MediaError.TheVariants as errors
use Rattle.codec_payload_media.specs.declared.av1.obu.Av1Extension.{Av1Extension}
use Rattle.codec_payload_media.specs.declared.av1.obu.Av1Obu.{Av1Obu as LentObu}
use Rattle.codec_payload_vpx.specs.Reading.{◌>>=◌, told}
use Rattle.codec_payload_media.specs.Items.{AreSpelled, all_ok, items_at}

pub record Obu : Type 0 where
  pub obu_type : ℕ
  pub extension : Option Av1Extension
  pub payload : List ℕ

abbrev pub obu_of : LentObu → Obu
obu_of o = record { obu_type = o.obu_type; extension = o.extension; payload = o.payload.now }

-- ---- how an OBU is spelled

abbrev pub extension_bit : Option Av1Extension → ℕ
extension_bit None = 0
extension_bit (Some e) = 4

-- the byte of an extension, whose last bits have any value
pub record IsExtensionByte (e : Av1Extension) (bytes : List ℕ) : Type 0 where
  pub temporal : e.temporal_id < 8
  pub spatial : e.spatial_id < 4
  pub reserved : ℕ
  pub bits : reserved < 8
  pub is : bytes ≡ (32 * e.temporal_id + 8 * e.spatial_id + reserved) ∷ []

abbrev pub IsExtension : Option Av1Extension → List ℕ → Type 0
IsExtension None bytes = bytes ≡ []
IsExtension (Some e) bytes = IsExtensionByte e bytes

-- The bytes begin with that OBU.
pub record IsSizedObu (bytes : List ℕ) (o : Obu) (rest : List ℕ) : Type 0 where
  pub kind : o.obu_type < 16
  pub reserved : ℕ
  pub reserved_bit : reserved < 2
  pub extension : List ℕ
  pub extended : IsExtension o.extension extension
  pub size : List ℕ
  pub spelled : IsLeb128 size (length o.payload)
  pub short : length size ≤ 8
  pub is : bytes ≡ (8 * o.obu_type + extension_bit o.extension + 2 + reserved) ∷ (extension ++ (size ++ (o.payload ++ rest)))

-- ---- how it is read

abbrev pub extension_at : Bool → List ℕ → Result (Option Av1Extension × List ℕ) MediaError
extension_at false bytes = Ok (None, bytes)
extension_at true [] = Err errors.MissingBytes
extension_at true (byte ∷ rest) = Ok (Some (record { temporal_id = byte / 32; spatial_id = byte / 8 % 4 }), rest)

-- the OBU whose size was read
abbrev pub sized : ℕ → Option Av1Extension → Option (ℕ × List ℕ) → Result (Obu × List ℕ) MediaError
sized obu_type extension None = Err errors.MissingBytes
sized obu_type extension (Some size) =
    if nat_lt (length size.1) size.0 then Err errors.SizesDoNotFit
    else Ok (record { obu_type = obu_type; extension = extension; payload = take size.0 size.1 }, drop size.0 size.1)

abbrev pub obu_at : List ℕ → Result (Obu × List ℕ) MediaError
obu_at [] = Err errors.MissingBytes
obu_at (header ∷ rest) =
    if (header / 128 == 1) || (header / 2 % 2 == 0) then Err errors.ReservedValue
    else (extension_at (header / 4 % 2 == 1) rest >>= λ extension. sized (header / 8 % 16) extension.0 (leb_low 7 extension.1))

-- the items of an iteration
pub record Left : Type 0 where
  pub bytes : List ℕ

abbrev pub told_obu : Result LentObu MediaError → Result Obu MediaError
told_obu r = told obu_of r

abbrev pub obus_left : Left → List (Result Obu MediaError)
obus_left s = items_at obu_at s.bytes

-- Reading finds the OBUs that the bytes spell, and no others.
abbrev pub ReadsObus : Type 0
ReadsObus = (bytes : List ℕ) (obus : List Obu) → AreBytes bytes → (AreSpelled IsSizedObu bytes obus → items_at obu_at bytes ≡ all_ok obus) × (items_at obu_at bytes ≡ all_ok obus → AreSpelled IsSizedObu bytes obus)
