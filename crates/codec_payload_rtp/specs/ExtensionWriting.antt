-- Values of header extensions as the elements that are written.
use Rattle.std.specs.Prelude.{◌≡◌, ℕ, zero, suc, ◌+◌, ◌^◌, ◌<◌, ◌≤◌, ◌==◌, ◌&&◌, not, nat_le, nat_lt, if◌then◌else◌, Bool, true, false, List, [], ◌∷◌, ◌++◌, Option, Some, None, IfSome, length}
use Rattle.std.specs.List.{flat_map}
use Rattle.std.specs.Option.{option_map}
use Rattle.std.specs.Int.{w64, to_be_bytes, cast_signed, cast_unsigned}
use lib.IntN.{ℤ, pos, negsuc}
use Rattle.codec_payload_base.specs.declared.wire.extension.AbsCaptureTime.{AbsCaptureTime}
use Rattle.codec_payload_base.specs.declared.wire.extension.VideoTiming.{VideoTiming}
use Rattle.codec_payload_base.specs.declared.wire.extension.ExtensionValues.{ExtensionValues}
use Rattle.codec_payload_rtp.specs.Elements.{Element, form_for, profile_of_form, words_of}
use Rattle.codec_payload_rtp.specs.ExtensionFormats.{timing_bytes, and_then, elements_of, values_in}
use Rattle.codec_payload_rtp.specs.RtpPackets.{Extension, bit_if}
use Rattle.codec_payload_rtp.specs.declared.values.ExtensionIds.{ExtensionIds}

-- ---- values as bytes

-- the offset of the clock in two's complement, if it is known
abbrev pub offset_bytes : Option ℤ → List ℕ
offset_bytes None = []
offset_bytes (Some offset) = to_be_bytes w64 (cast_unsigned w64 offset)

abbrev pub capture_bytes : AbsCaptureTime → List ℕ
capture_bytes t = to_be_bytes w64 t.capture_time ++ offset_bytes t.clock_offset

abbrev pub one_byte : ℕ → List ℕ
one_byte byte = byte ∷ []

-- a level of 0 to -127 dBov, and whether there is speech (RFC 6464, section 3); another level has no byte
abbrev pub level_byte : Bool → ℤ → Option ℕ
level_byte voice (pos zero) = Some (bit_if voice 128)
level_byte voice (pos (suc n)) = None
level_byte voice (negsuc n) = if nat_lt n 127 then Some (bit_if voice 128 + (n + 1)) else None

-- without a value, there is no speech
abbrev pub is_speech : Option Bool → Bool
is_speech None = false
is_speech (Some voice) = voice

abbrev pub audio_byte : ExtensionValues → Option ℕ
audio_byte values = and_then (level_byte (is_speech values.voice_activity)) values.audio_level

-- ---- values under their ids

-- the bytes of a value, if present, and the id of its extension, if it has one
pub record Row : Type 0 where
  pub id : Option ℕ
  pub bytes : Option (List ℕ)

abbrev pub element_for : Option ℕ → Option (List ℕ) → List Element
element_for None bytes = []
element_for (Some id) None = []
element_for (Some id) (Some bytes) = record { id = id; bytes = bytes } ∷ []

abbrev pub row_elements : Row → List Element
row_elements row = element_for row.id row.bytes

abbrev pub rows_elements : List Row → List Element
rows_elements rows = flat_map row_elements rows

abbrev pub rows_for : ExtensionIds → ExtensionValues → List Row
rows_for ids values =
    record { id = ids.abs_capture_time; bytes = option_map capture_bytes values.abs_capture_time }
    ∷ record { id = ids.video_orientation; bytes = option_map one_byte values.video_orientation }
    ∷ record { id = ids.video_content_type; bytes = option_map one_byte values.video_content_type }
    ∷ record { id = ids.video_timing; bytes = option_map timing_bytes values.video_timing }
    ∷ record { id = ids.layers_allocation; bytes = values.layers_allocation }
    ∷ record { id = ids.audio_level; bytes = option_map one_byte (audio_byte values) }
    ∷ []

-- the elements of all values that have an id
abbrev pub elements_for : ExtensionIds → ExtensionValues → List Element
elements_for ids values = rows_elements (rows_for ids values)

-- the extension of these elements, if there are any
abbrev pub extension_for : List Element → Option Extension
extension_for [] = None
extension_for (e ∷ es) = Some (record { profile = profile_of_form (form_for (e ∷ es)); bytes = words_of (form_for (e ∷ es)) (e ∷ es) })

-- ---- which ids can be written

abbrev pub id_fits : Option ℕ → Bool
id_fits None = true
id_fits (Some id) = nat_le 1 id

abbrev pub is_id : ℕ → Option ℕ → Bool
is_id id None = false
is_id id (Some other) = id == other

-- the id differs from all others
abbrev pub is_apart : ℕ → List (Option ℕ) → Bool
is_apart id [] = true
is_apart id (other ∷ others) = not (is_id id other) && is_apart id others

abbrev pub is_apart_from : Option ℕ → List (Option ℕ) → Bool
is_apart_from None others = true
is_apart_from (Some id) others = is_apart id others

-- each is 1 or more, and no two are the same
abbrev pub are_ids : List (Option ℕ) → Bool
are_ids [] = true
are_ids (id ∷ others) = id_fits id && (is_apart_from id others && are_ids others)

abbrev pub ids_fit : ExtensionIds → Bool
ids_fit ids = are_ids (ids.abs_capture_time ∷ ids.video_orientation ∷ ids.video_content_type ∷ ids.video_timing ∷ ids.layers_allocation ∷ ids.audio_level ∷ [])

-- ---- values read from written bytes

-- a value is read back if its extension has an id
abbrev pub kept_by : {A : Type 0} → Option ℕ → Option A → Option A
kept_by None value = None
kept_by (Some id) value = value

-- a level that has a byte
abbrev pub sent_level : ℤ → Option ℤ
sent_level (pos zero) = Some (pos zero)
sent_level (pos (suc n)) = None
sent_level (negsuc n) = if nat_lt n 127 then Some (negsuc n) else None

-- the values that are read: those with an id; for audio a level that has a byte, and speech only with a level
abbrev pub values_told : ExtensionIds → ExtensionValues → ExtensionValues
values_told ids values = record {
  abs_capture_time = kept_by ids.abs_capture_time values.abs_capture_time;
  video_orientation = kept_by ids.video_orientation values.video_orientation;
  video_content_type = kept_by ids.video_content_type values.video_content_type;
  video_timing = kept_by ids.video_timing values.video_timing;
  layers_allocation = kept_by ids.layers_allocation values.layers_allocation;
  audio_level = kept_by ids.audio_level (and_then sent_level values.audio_level);
  voice_activity = kept_by ids.audio_level (option_map (λ level. is_speech values.voice_activity) (and_then sent_level values.audio_level));
}

-- the numbers of a value have their width
pub record FitsCapture (t : AbsCaptureTime) : Type 0 where
  pub time : t.capture_time < 2 ^ 64
  pub offset : IfSome t.clock_offset (λ z. (cast_unsigned w64 z < 2 ^ 64) × (cast_signed w64 (cast_unsigned w64 z) ≡ z))

pub record FitsTiming (t : VideoTiming) : Type 0 where
  pub encode_start : t.encode_start < 65536
  pub encode_finish : t.encode_finish < 65536
  pub packetize_complete : t.packetize_complete < 65536
  pub last_left_pacer : t.last_left_pacer < 65536
  pub network_1 : t.network_1 < 65536
  pub network_2 : t.network_2 < 65536

pub record FitsValues (values : ExtensionValues) : Type 0 where
  pub capture : IfSome values.abs_capture_time FitsCapture
  pub timing : IfSome values.video_timing FitsTiming
  pub layers : IfSome values.layers_allocation (λ b. length b ≤ 255)

-- values written under ids that fit are read
abbrev pub ValuesComeBack : Type 0
ValuesComeBack =
    (ids : ExtensionIds) (values : ExtensionValues) → ids_fit ids ≡ true → FitsValues values
    → values_in ids (elements_of (extension_for (elements_for ids values))) ≡ values_told ids values
