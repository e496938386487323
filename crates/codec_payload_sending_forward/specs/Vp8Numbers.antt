-- The ids in the payload descriptors of VP8 (RFC 7741, section 4.2).
use Rattle.std.specs.Prelude.{ℕ, List, Option, Some, None, option_map, Result, Ok, Err}
use Rattle.codec_payload_base.specs.PictureIds.{id_value}
use Rattle.codec_payload_vp8.specs.Vp8Descriptor.{Descriptor, parsed}
use Rattle.codec_payload_vp8.specs.Vp8Patch.{Patch, patch_for, patched}
use Rattle.codec_payload_vp8.specs.declared.vp8.descriptor.Vp8DescriptorError.{Vp8DescriptorError}
use Rattle.codec_payload_vp8.specs.declared.vp8.patch.Vp8PatchError.{Vp8PatchError}
use Rattle.codec_payload_sending_forward.specs.Ids.{moved_ids}
use Rattle.codec_payload_sending_forward.specs.declared.ids.IdOffsets.{IdOffsets}
use Rattle.codec_payload_sending_forward.specs.declared.ids.PayloadIds.{PayloadIds}

-- the ids of a payload, if it has a descriptor
abbrev pub ids_of : Descriptor → PayloadIds
ids_of d = record { picture_id = d.picture_id; tl0_pic_idx = d.tl0_pic_idx }

abbrev pub described_ids : Result Descriptor Vp8DescriptorError → Option PayloadIds
described_ids (Ok d) = Some (ids_of d)
described_ids (Err error) = None

abbrev pub vp8_ids : List ℕ → Option PayloadIds
vp8_ids payload = described_ids (parsed payload)

-- the patch of a descriptor: the new picture id and TL0PICIDX, if it has them
abbrev pub some_patch : Result Patch Vp8PatchError → Option Patch
some_patch (Ok p) = Some p
some_patch (Err error) = None

-- a patch that asks for these ids
abbrev pub patch_with : Descriptor → PayloadIds → Option Patch
patch_with d ids = some_patch (patch_for (record { descriptor = d; picture_id = option_map id_value ids.picture_id; tl0_pic_idx = ids.tl0_pic_idx; key_idx = None }))

abbrev pub patch_by : IdOffsets → Result Descriptor Vp8DescriptorError → Option Patch
patch_by o (Ok d) = patch_with d (moved_ids o (ids_of d))
patch_by o (Err error) = None

abbrev pub patch_in : IdOffsets → List ℕ → Option Patch
patch_in o payload = patch_by o (parsed payload)

-- a payload with the new ids; one without a descriptor stays
abbrev pub patched_by : Option Patch → List ℕ → List ℕ
patched_by None payload = payload
patched_by (Some p) payload = patched p payload

abbrev pub payload_as : IdOffsets → List ℕ → List ℕ
payload_as o payload = patched_by (patch_in o payload) payload
