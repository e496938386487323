-- Descriptors of VP8 payloads.
use Rattle.std.specs.Prelude.{◌≡◌, ℕ, Bool, List, Result, Ok, Err, is_some, option_map}
use Rattle.codec_payload_core.specs.PictureIds.{id_value}
use Rattle.codec_payload_core.specs.Vp8Descriptor.{Descriptor, id_bits, key_index, parsed}
use Rattle.codec_payload_core.specs.Vp8Keyframe.{is_keyframe}
use Rattle.codec_payload_core.specs.Vp8Patch.{Builder, HasValues, Patch, patch_for, patched}
use Rattle.codec_payload_core.specs.declared.vp8.Vp8DescriptorError.{Vp8DescriptorError}
use Rattle.codec_payload_core.specs.declared.vp8.Vp8DescriptorError.TheVariants as unread
use Rattle.codec_payload_core.specs.declared.vp8.Vp8PatchError.{Vp8PatchError}
use Rattle.codec_payload_core.specs.declared.vp8.Vp8PatchError.TheVariants as unpatched
use Rattle.codec_payload_handle.specs.Extras.{or_zero}
use Rattle.codec_payload_handle.specs.Numbers.{given_if}
use Rattle.codec_payload_c_packets.specs.declared.vp8.Vp8FieldsInfo.{Vp8FieldsInfo}

-- 1 if a byte is missing, 11 if TL0PICIDX comes without a temporal layer
abbrev pub descriptor_status : Vp8DescriptorError → ℕ
descriptor_status unread.ShortPayload = 1
descriptor_status unread.MalformedDescriptor = 11

-- 32 for a missing field, 37 for a value that does not fit
abbrev pub patch_status : Vp8PatchError → ℕ
patch_status unpatched.PictureIdMissing = 32
patch_status unpatched.PictureIdTooLarge = 37
patch_status unpatched.Tl0PicIdxMissing = 32
patch_status unpatched.KeyIdxMissing = 32
patch_status unpatched.KeyIdxTooLarge = 37

-- the fields of a descriptor
abbrev pub fields_told : Descriptor → Vp8FieldsInfo
fields_told d = record {
  picture_id = or_zero (option_map id_value d.picture_id);
  tl0_pic_idx = or_zero d.tl0_pic_idx;
  key_idx = or_zero (key_index d);
  has_picture_id = is_some d.picture_id;
  has_tl0_pic_idx = is_some d.tl0_pic_idx;
  has_key_idx = is_some (key_index d);
  picture_id_bits = or_zero (option_map id_bits d.picture_id);
}

abbrev pub ReadsTo : Result Descriptor Vp8DescriptorError → List ℕ → ℕ → Vp8FieldsInfo → Bool → Type 0
ReadsTo (Ok d) payload status fields starts = (status ≡ 0) × (fields ≡ fields_told d) × (starts ≡ is_keyframe payload)
ReadsTo (Err error) payload status fields starts = status ≡ descriptor_status error

-- the requested values
abbrev pub builder_of : Descriptor → Vp8FieldsInfo → Builder
builder_of d v = record {
  descriptor = d;
  picture_id = given_if v.has_picture_id v.picture_id;
  tl0_pic_idx = given_if v.has_tl0_pic_idx v.tl0_pic_idx;
  key_idx = given_if v.has_key_idx v.key_idx;
}

-- the patch is written, and the descriptor then has the requested values; otherwise the payload is unchanged
pub record IsPatchedBy (b : Builder) (p : Patch) (status : ℕ) (before after : List ℕ) : Type 0 where
  pub answers : status ≡ 0
  pub writes : after ≡ patched p before
  pub new : Descriptor
  pub parses : parsed after ≡ Ok new
  pub values : HasValues b new

abbrev pub PatchesBy : Builder → Result Patch Vp8PatchError → ℕ → List ℕ → List ℕ → Type 0
PatchesBy b (Ok p) status before after = IsPatchedBy b p status before after
PatchesBy b (Err error) status before after = (status ≡ patch_status error) × (after ≡ before)

abbrev pub PatchesTo : Result Descriptor Vp8DescriptorError → Vp8FieldsInfo → ℕ → List ℕ → List ℕ → Type 0
PatchesTo (Ok d) values status before after = PatchesBy (builder_of d values) (patch_for (builder_of d values)) status before after
PatchesTo (Err error) values status before after = (status ≡ descriptor_status error) × (after ≡ before)
