-- Frames of VP8 (RFC 6386, section 9.1): a tag of three bytes, low byte first: bit 0 (clear in a keyframe), the version (3 bits),
-- whether it is shown (1) and the size of the first partition (19). A keyframe continues with a start code, then width and height
-- of 14 bits each below two of scale. The partitions follow.
use Rattle.std.specs.Prelude.{◌≡◌, ℕ, ◌+◌, ◌*◌, ◌/◌, ◌%◌, ◌<◌, ◌≤◌, ◌==◌, ◌&&◌, nat_lt, Bool, true, false, List, [], ◌∷◌, ◌++◌, length, if◌then◌else◌, Option, Some, None, is_some, IfSome, Result, Ok, Err}
use Rattle.std.specs.Int.{w16, to_le_bytes, from_le_bytes}
use Rattle.codec_payload_vpx.specs.BitFields.{bit_if}
use Rattle.codec_payload_vpx.specs.declared.error.MediaError.{MediaError}
use Rattle.codec_payload_vpx.specs.declared.error.MediaError.TheVariants as errors
use Rattle.codec_payload_vpx.specs.declared.vp8.Vp8FrameHeader.{Vp8FrameHeader}
use Rattle.codec_payload_vpx.specs.declared.vp8.Vp8Keyframe.{Vp8Keyframe}
use Rattle.codec_payload_vpx.specs.Reading.{◌>>=◌}

-- ---- how a header is spelled

abbrev pub bit_unless : Bool → ℕ → ℕ
bit_unless true bit = 0
bit_unless false bit = bit

-- the tag as a number of 24 bits
abbrev pub tag_of : Vp8FrameHeader → ℕ
tag_of h = bit_unless (is_some h.keyframe) 1 + 2 * h.version + bit_if h.shown 16 + 32 * h.first_partition_size

-- three bytes, low byte first
abbrev pub three_bytes : ℕ → List ℕ
three_bytes n = n % 256 ∷ n / 256 % 256 ∷ n / 65536 ∷ []

abbrev pub side_bytes : ℕ → ℕ → List ℕ
side_bytes size scale = to_le_bytes w16 (size + 16384 * scale)

abbrev pub keyframe_bytes : Option Vp8Keyframe → List ℕ
keyframe_bytes None = []
keyframe_bytes (Some k) = 0x9d ∷ 0x01 ∷ 0x2a ∷ (side_bytes k.width k.horizontal_scale ++ side_bytes k.height k.vertical_scale)

abbrev pub header_bytes : Vp8FrameHeader → List ℕ
header_bytes h = three_bytes (tag_of h) ++ keyframe_bytes h.keyframe

-- ---- values with a spelling

pub record FitsKeyframe (k : Vp8Keyframe) : Type 0 where
  pub width : k.width < 16384
  pub horizontal_scale : k.horizontal_scale < 4
  pub height : k.height < 16384
  pub vertical_scale : k.vertical_scale < 4

-- The bytes are a frame with that header, and the first partition fits after it.
pub record IsVp8Frame (frame : List ℕ) (h : Vp8FrameHeader) : Type 0 where
  pub version : h.version < 8
  pub size : h.first_partition_size < 524288
  pub keyframe : IfSome h.keyframe FitsKeyframe
  pub partitions : List ℕ
  pub is : frame ≡ header_bytes h ++ partitions
  pub fits : h.first_partition_size ≤ length partitions

-- ---- how it is read

abbrev pub keyframe_of : ℕ → ℕ → Vp8Keyframe
keyframe_of horizontal vertical = record { width = horizontal % 16384; horizontal_scale = horizontal / 16384; height = vertical % 16384; vertical_scale = vertical / 16384 }

abbrev pub is_start_code : ℕ → ℕ → ℕ → Bool
is_start_code a b c = (a == 0x9d) && (b == 0x01) && (c == 0x2a)

unfoldable pub keyframe_at : List ℕ → Result (Vp8Keyframe × List ℕ) MediaError
keyframe_at (a ∷ b ∷ c ∷ w0 ∷ w1 ∷ h0 ∷ h1 ∷ rest) =
    if is_start_code a b c then Ok (keyframe_of (from_le_bytes w16 (w0 ∷ w1 ∷ [])) (from_le_bytes w16 (h0 ∷ h1 ∷ [])), rest) else Err errors.WrongMarker
keyframe_at bytes = Err errors.MissingBytes

abbrev pub behind_tag : Bool → List ℕ → Result (Option Vp8Keyframe × List ℕ) MediaError
behind_tag false bytes = Ok (None, bytes)
behind_tag true bytes = do
  keyframe ← keyframe_at bytes
  Ok (Some keyframe.0, keyframe.1)

-- the header with this tag, if the partition has room
abbrev pub with_partition : ℕ → Option Vp8Keyframe → List ℕ → Result Vp8FrameHeader MediaError
with_partition tag keyframe bytes =
    if nat_lt (length bytes) (tag / 32) then Err errors.SizesDoNotFit
    else Ok (record { version = tag / 2 % 8; shown = tag / 16 % 2 == 1; first_partition_size = tag / 32; keyframe = keyframe })

-- the header with this tag, before these bytes
abbrev pub with_tag : ℕ → List ℕ → Result Vp8FrameHeader MediaError
with_tag tag bytes = do
  keyframe ← behind_tag (tag % 2 == 0) bytes
  with_partition tag keyframe.0 keyframe.1

unfoldable pub vp8_frame_at : List ℕ → Result Vp8FrameHeader MediaError
vp8_frame_at (t0 ∷ t1 ∷ t2 ∷ rest) = with_tag (t0 + 256 * t1 + 65536 * t2) rest
vp8_frame_at bytes = Err errors.MissingBytes
