-- The ids in the payload descriptors of VP9 (RFC 9628, section 4.2): the picture id, if I is set, and TL0PICIDX, if L is set and F is
-- clear.
use Rattle.std.specs.Prelude.{◌≡◌, ℕ, ◌&&◌, not, Bool, false, true, List, [], ◌∷◌, ◌++◌, Option, Some, None, option_map}
use Rattle.codec_payload_base.specs.Flags.{has_bit}
use Rattle.codec_payload_base.specs.PictureIds.{byte_if, id_if, take_id}
use Rattle.codec_payload_base.specs.declared.picture_id.PictureId.{PictureId}
use Rattle.codec_payload_vp9.specs.Vp9Descriptor.{Descriptor, spelled}
use Rattle.codec_payload_vp9.specs.Vp9Laws.{IsDescribed}
use Rattle.codec_payload_sending_forward.specs.Ids.{moved_ids, moved_picture, moved_tl0}
use Rattle.codec_payload_sending_forward.specs.declared.ids.IdOffsets.{IdOffsets}
use Rattle.codec_payload_sending_forward.specs.declared.ids.PayloadIds.{PayloadIds}
use Rattle.codec_payload_sending_forward.specs.declared.vp9_ids.Front.{Front}

-- A payload: I P L F B E V Z, the picture id, TID(3) U SID(3) D, TL0PICIDX, and the bytes after them
pub record Fronted : Type 0 where
  pub flags : ℕ
  pub picture_id : Option PictureId
  pub layers : Option ℕ
  pub tl0_pic_idx : Option ℕ
  pub rest : List ℕ

abbrev pub fronted : Front → Fronted
fronted f = record { flags = f.flags; picture_id = f.picture_id; layers = f.layers; tl0_pic_idx = f.tl0_pic_idx; rest = f.rest.now }

abbrev pub spelled_front : Fronted → List ℕ
spelled_front f = f.flags ∷ (id_if f.picture_id ++ (byte_if f.layers ++ (byte_if f.tl0_pic_idx ++ f.rest)))

-- ---- read in order: a part that is present if its bit says so; none if a byte of it is missing

abbrev pub some_id : Option (PictureId × List ℕ) → Option (Option PictureId × List ℕ)
some_id None = None
some_id (Some id) = Some (Some id.0, id.1)

abbrev pub taken_id : Bool → List ℕ → Option (Option PictureId × List ℕ)
taken_id false bytes = Some (None, bytes)
taken_id true bytes = some_id (take_id bytes)

abbrev pub taken_byte : Bool → List ℕ → Option (Option ℕ × List ℕ)
taken_byte false bytes = Some (None, bytes)
taken_byte true [] = None
taken_byte true (byte ∷ bytes) = Some (Some byte, bytes)

abbrev pub has_tl0 : ℕ → Bool
has_tl0 flags = has_bit flags 5 && not (has_bit flags 4)

abbrev pub then_rest : ℕ → Option PictureId → Option ℕ → Option (Option ℕ × List ℕ) → Option Fronted
then_rest flags id layers None = None
then_rest flags id layers (Some tl0) = Some (record { flags = flags; picture_id = id; layers = layers; tl0_pic_idx = tl0.0; rest = tl0.1 })

abbrev pub then_tl0 : ℕ → Option PictureId → Option (Option ℕ × List ℕ) → Option Fronted
then_tl0 flags id None = None
then_tl0 flags id (Some layers) = then_rest flags id layers.0 (taken_byte (has_tl0 flags) layers.1)

abbrev pub then_layers : ℕ → Option (Option PictureId × List ℕ) → Option Fronted
then_layers flags None = None
then_layers flags (Some id) = then_tl0 flags id.0 (taken_byte (has_bit flags 5) id.1)

abbrev pub front_of : List ℕ → Option Fronted
front_of [] = None
front_of (flags ∷ bytes) = then_layers flags (taken_id (has_bit flags 7) bytes)

-- ---- the ids of a payload, and a payload with new ids

abbrev pub front_ids : Fronted → PayloadIds
front_ids f = record { picture_id = f.picture_id; tl0_pic_idx = f.tl0_pic_idx }

abbrev pub vp9_ids : List ℕ → Option PayloadIds
vp9_ids payload = option_map front_ids (front_of payload)

abbrev pub with_ids : Fronted → PayloadIds → Fronted
with_ids f ids = record f { picture_id = ids.picture_id; tl0_pic_idx = ids.tl0_pic_idx }

-- a payload that is cut off before the end of TL0PICIDX stays
abbrev pub moved_by : IdOffsets → Option Fronted → List ℕ → List ℕ
moved_by o None payload = payload
moved_by o (Some f) payload = spelled_front (with_ids f (moved_ids o (front_ids f)))

abbrev pub vp9_payload_as : IdOffsets → List ℕ → List ℕ
vp9_payload_as o payload = moved_by o (front_of payload) payload

-- ---- what this changes

-- a descriptor with its picture id and TL0PICIDX moved, in their widths: the flags, the layers, the differences to the pictures that
-- are referred to and the scalability structure stay
abbrev pub moved_descriptor : IdOffsets → Descriptor → Descriptor
moved_descriptor o d = record d { picture_id = option_map (moved_picture o.picture) d.picture_id; tl0picidx = option_map (moved_tl0 o.tl0) d.tl0picidx }

-- of a payload that consists of a descriptor and bytes after it, only these two fields change
abbrev pub MovesIds : Type 0
MovesIds =
    (o : IdOffsets) (d : Descriptor) (payload rest : List ℕ) → IsDescribed payload d rest
    → IsDescribed (vp9_payload_as o payload) (moved_descriptor o d) rest
