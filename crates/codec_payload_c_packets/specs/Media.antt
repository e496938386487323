-- Properties of frames.
use Rattle.std.specs.Prelude.{◌≡◌, ◌&&◌, ℕ, ◌-◌, ◌==◌, nat_le, nat_lt, if◌then◌else◌, Bool, true, false, List, length, Option, Some, None, is_some, option_map, Result, Ok, Err}
use Rattle.codec_payload_media.specs.AmrWbFrames.{Frame}
use Rattle.codec_payload_media.specs.Av1Records.{av1c_bytes}
use Rattle.codec_payload_media.specs.Av1SequenceHeaders.{sequence_header}
use Rattle.codec_payload_media.specs.Av1Units.{Obu, obu_at}
use Rattle.codec_payload_media.specs.OpusPackets.{head_bytes}
use Rattle.codec_payload_vpx.specs.Syntax.{value_of}
use Rattle.codec_payload_media.specs.declared.av1.obu.Av1Extension.{Av1Extension}
use Rattle.codec_payload_media.specs.declared.av1.sequence_header.Av1SequenceHeader.{Av1SequenceHeader}
use Rattle.codec_payload_vpx.specs.declared.error.MediaError.{MediaError}
use Rattle.codec_payload_vpx.specs.declared.error.MediaError.TheVariants as errors
use Rattle.codec_payload_media.specs.declared.frame_info.FrameInfo.{FrameInfo}
use Rattle.codec_payload_media.specs.declared.frame_info.PictureSize.{PictureSize}
use Rattle.codec_payload_media.specs.declared.opus.OpusHead.{OpusHead}
use Rattle.codec_payload_core.specs.Bits.{bits_of}
use Rattle.codec_payload_handle.specs.Bytes.{filled}
use Rattle.codec_payload_handle.specs.Extras.{or_zero}
use Rattle.codec_payload_c_packets.specs.declared.media.AmrWbFrameInfo.{AmrWbFrameInfo}
use Rattle.codec_payload_c_packets.specs.declared.media.FrameFacts.{FrameFacts}
use Rattle.codec_payload_c_packets.specs.declared.media.ObuInfo.{ObuInfo}
use Rattle.codec_payload_c_packets.specs.declared.media.Vp9FrameInfo.{Vp9FrameInfo}

-- the statuses for malformed frames
abbrev pub media_status : MediaError → ℕ
media_status errors.MissingBytes = 38
media_status errors.WrongMarker = 39
media_status errors.ReservedValue = 40
media_status errors.SizesDoNotFit = 41

abbrev pub or_false : Option Bool → Bool
or_false None = false
or_false (Some b) = b

abbrev pub width_of : PictureSize → ℕ
width_of s = s.width

abbrev pub height_of : PictureSize → ℕ
height_of s = s.height

abbrev pub facts_of : FrameInfo → FrameFacts
facts_of i = record {
  duration = or_zero i.duration;
  width = or_zero (option_map width_of i.size);
  height = or_zero (option_map height_of i.size);
  has_keyframe = is_some i.keyframe;
  keyframe = or_false i.keyframe;
  has_size = is_some i.size;
  has_duration = is_some i.duration;
}

abbrev pub TellsFrame : Result FrameInfo MediaError → ℕ → FrameFacts → FrameFacts → Type 0
TellsFrame (Ok i) status before facts = (status ≡ 0) × (facts ≡ facts_of i)
TellsFrame (Err e) status before facts = (status ≡ media_status e) × (facts ≡ before)

-- ---- parts of a unit, each after the previous one

abbrev pub temporal_of : Av1Extension → ℕ
temporal_of e = e.temporal_id

abbrev pub spatial_of : Av1Extension → ℕ
spatial_of e = e.spatial_id

-- an OBU and the bytes after it, in a unit of this length
abbrev pub obu_info : ℕ → Obu × List ℕ → ObuInfo
obu_info total x = record {
  start = total - length x.1 - length x.0.payload;
  bytes = length x.0.payload;
  obu_type = x.0.obu_type;
  temporal_id = or_zero (option_map temporal_of x.0.extension);
  spatial_id = or_zero (option_map spatial_of x.0.extension);
  has_extension = is_some x.0.extension;
}

abbrev pub TellsObu : ℕ → Result (Obu × List ℕ) MediaError → ℕ → ObuInfo → ObuInfo → Type 0
TellsObu total (Ok x) status before info = (status ≡ 0) × (info ≡ obu_info total x)
TellsObu total (Err e) status before info = (status ≡ media_status e) × (info ≡ before)

abbrev pub frame_place : ℕ → Frame × List ℕ → AmrWbFrameInfo
frame_place total x = record { start = total - length x.1 - length x.0.speech; bytes = length x.0.speech; frame_type = x.0.frame_type; quality = x.0.quality }

abbrev pub TellsAmrWbFrame : ℕ → Result (Frame × List ℕ) MediaError → ℕ → AmrWbFrameInfo → AmrWbFrameInfo → Type 0
TellsAmrWbFrame total (Ok x) status before info = (status ≡ 0) × (info ≡ frame_place total x)
TellsAmrWbFrame total (Err e) status before info = (status ≡ media_status e) × (info ≡ before)

abbrev pub vp9_place : ℕ × List ℕ → Vp9FrameInfo
vp9_place x = record { start = x.0; bytes = length x.1 }

-- a frame after `before` bytes; status 32 if there are fewer frames
abbrev pub TellsVp9Frame : Result (Option (ℕ × List ℕ)) MediaError → ℕ → Vp9FrameInfo → Vp9FrameInfo → Type 0
TellsVp9Frame (Ok (Some x)) status before info = (status ≡ 0) × (info ≡ vp9_place x)
TellsVp9Frame (Ok None) status before info = (status ≡ 32) × (info ≡ before)
TellsVp9Frame (Err e) status before info = (status ≡ media_status e) × (info ≡ before)

-- by two answers: the offset is after the end; it is at the end or after it
abbrev pub IfWithin : Bool → Bool → Type 0 → Type 0 → Type 0 → Type 0
IfWithin true ends found beyond nothing = beyond
IfWithin false true found beyond nothing = nothing
IfWithin false false found beyond nothing = found

-- the rest from an offset on: status 37 after the end, status 32 at the end
abbrev pub AtOffset : {A : Type 0} → List ℕ → ℕ → (ℕ → A → A → Type 0) → ℕ → A → A → Type 0
AtOffset unit offset tells status before after =
    IfWithin (nat_lt (length unit) offset) (nat_le (length unit) offset) (tells status before after) ((status ≡ 37) × (after ≡ before)) ((status ≡ 32) × (after ≡ before))

-- ---- bytes of headers

abbrev pub with_status : Result Av1SequenceHeader MediaError → Result Av1SequenceHeader ℕ
with_status (Ok h) = Ok h
with_status (Err e) = Err (media_status e)

-- the sequence header of an OBU without bytes after it
abbrev pub header_of : Obu × List ℕ → Result Av1SequenceHeader ℕ
header_of x = if (x.0.obu_type == 1) && (length x.1 == 0) then with_status (value_of sequence_header (bits_of x.0.payload)) else Err 37

abbrev pub header_found : Result (Obu × List ℕ) MediaError → Result Av1SequenceHeader ℕ
header_found (Ok x) = header_of x
header_found (Err e) = Err (media_status e)

abbrev pub header_in : List ℕ → Result Av1SequenceHeader ℕ
header_in obu = header_found (obu_at obu)

-- the av1C record of this header, or the status that refuses it
abbrev pub WritesRecord : List ℕ → Result Av1SequenceHeader ℕ → ℕ → List ℕ → List ℕ → ℕ → ℕ → Type 0
WritesRecord obu (Err s) status before bytes size_before size = (status ≡ s) × (bytes ≡ before) × (size ≡ size_before)
WritesRecord obu (Ok h) status before bytes size_before size =
    (status ≡ (if nat_le (length (av1c_bytes h obu)) (length before) then 0 else 33)) × (bytes ≡ filled (av1c_bytes h obu) before) × (size ≡ length (av1c_bytes h obu))

abbrev pub WritesHead : Bool → OpusHead → ℕ → List ℕ → List ℕ → Type 0
WritesHead false h status before bytes = (status ≡ 37) × (bytes ≡ before)
WritesHead true h status before bytes = (status ≡ (if nat_le 19 (length before) then 0 else 33)) × (bytes ≡ filled (head_bytes h) before)
