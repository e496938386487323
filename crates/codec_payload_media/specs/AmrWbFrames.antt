-- Frames of AMR-WB in their storage form (RFC 4867, section 5.3): a bit of any value, the type (4 bits), the quality (1), two
-- bits of any value, then the speech, in whole bytes.
use Rattle.std.specs.Prelude.{◌≡◌, ◌<◌, ◌+◌, ◌++◌, ℕ, ◌*◌, ◌/◌, ◌%◌, ◌==◌, nat_lt, min, Bool, List, [], ◌∷◌, length, take, drop, slice_index_or, if◌then◌else◌, Option, Some, None, Result, Ok, Err}
use Rattle.codec_payload_vpx.specs.BitFields.{bit_if}
use Rattle.codec_payload_vpx.specs.declared.error.MediaError.{MediaError}
use Rattle.codec_payload_vpx.specs.declared.error.MediaError.TheVariants as errors
use Rattle.codec_payload_media.specs.declared.amr_wb.AmrWbFrame.{AmrWbFrame as LentFrame}
use Rattle.codec_payload_vpx.specs.Reading.{told}
use Rattle.codec_payload_base.specs.Flags.{AreBytes}
use Rattle.codec_payload_media.specs.Items.{AreSpelled, all_ok, items_at, count_of}

pub record Frame : Type 0 where
  pub frame_type : ℕ
  pub quality : Bool
  pub speech : List ℕ

abbrev pub frame_of : LentFrame → Frame
frame_of f = record { frame_type = f.frame_type; quality = f.quality; speech = f.speech.now }

-- ---- how a frame is spelled

-- how many bytes of speech each type has (3GPP TS 26.201, table 1a); None for a reserved one
abbrev pub speech_lengths : List (Option ℕ)
speech_lengths =
    Some 17 ∷ Some 23 ∷ Some 32 ∷ Some 36 ∷ Some 40 ∷ Some 46 ∷ Some 50 ∷ Some 58 ∷ Some 60 ∷ Some 5 ∷ None ∷ None ∷ None ∷ None ∷ Some 0 ∷ Some 0 ∷ []

abbrev pub speech_length : ℕ → Option ℕ
speech_length kind = slice_index_or speech_lengths kind None

-- The bytes begin with that frame.
pub record IsAmrWbFrame (bytes : List ℕ) (f : Frame) (rest : List ℕ) : Type 0 where
  pub kind : f.frame_type < 16
  pub first : ℕ
  pub first_bit : first < 2
  pub last : ℕ
  pub last_bits : last < 4
  pub is : bytes ≡ (128 * first + 8 * f.frame_type + bit_if f.quality 4 + last) ∷ (f.speech ++ rest)
  pub speech : speech_length f.frame_type ≡ Some (length f.speech)

-- ---- how it is read

-- the frame with this first byte and this amount of speech
abbrev pub with_speech : ℕ → Option ℕ → List ℕ → Result (Frame × List ℕ) MediaError
with_speech byte None bytes = Err errors.ReservedValue
with_speech byte (Some n) bytes =
    if nat_lt (length bytes) n then Err errors.MissingBytes
    else Ok (record { frame_type = byte / 8 % 16; quality = byte / 4 % 2 == 1; speech = take n bytes }, drop n bytes)

abbrev pub frame_at : List ℕ → Result (Frame × List ℕ) MediaError
frame_at [] = Err errors.MissingBytes
frame_at (byte ∷ rest) = with_speech byte (speech_length (byte / 8 % 16)) rest

-- the items of an iteration
pub record Left : Type 0 where
  pub bytes : List ℕ

abbrev pub told_frame : Result LentFrame MediaError → Result Frame MediaError
told_frame r = told frame_of r

abbrev pub frames_left : Left → List (Result Frame MediaError)
frames_left s = items_at frame_at s.bytes

-- 20 ms of each frame, in ticks of 16 kHz
abbrev pub ticks_of_frames : ℕ → ℕ
ticks_of_frames n = min (320 * n) 18446744073709551615

abbrev pub unit_ticks : List ℕ → Result ℕ MediaError
unit_ticks bytes = told ticks_of_frames (count_of (items_at frame_at bytes))

-- Reading finds the frames that the bytes spell, and no others.
abbrev pub ReadsAmrWbFrames : Type 0
ReadsAmrWbFrames = (bytes : List ℕ) (frames : List Frame) → AreBytes bytes → (AreSpelled IsAmrWbFrame bytes frames → items_at frame_at bytes ≡ all_ok frames) × (items_at frame_at bytes ≡ all_ok frames → AreSpelled IsAmrWbFrame bytes frames)
