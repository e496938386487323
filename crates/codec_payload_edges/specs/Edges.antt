-- What a packet with media says of its picture.
use Rattle.std.specs.Prelude.{ℕ, ◌+◌, ◌*◌, ◌/◌, ◌%◌, ◌==◌, ◌&&◌, not, Bool, false, true, List, [], ◌∷◌, Option, Some, None, if◌then◌else◌}
use Rattle.codec_payload_base.specs.Flags.{has_bit}
use Rattle.codec_payload_base.specs.PictureIds.{id_value, take_id}
use Rattle.codec_payload_base.specs.declared.picture_id.PictureId.{PictureId}
use Rattle.codec_payload_base.specs.declared.picture_id.PictureId.TheVariants.{Long, Short}
use Rattle.codec_payload_edges.specs.declared.edge.Edge.{Edge}
use Rattle.codec_payload_edges.specs.declared.edge.IdWidth.{IdWidth}
use Rattle.codec_payload_edges.specs.declared.edge.IdWidth.TheVariants as widths

-- how many ids there are: 2 to the power of the bits
abbrev pub ids_of : IdWidth → ℕ
ids_of widths.Bits7 = 128
ids_of widths.Bits15 = 32768
ids_of widths.Bits16 = 65536

-- the id that comes `ahead` ids after this one
abbrev pub id_after : IdWidth → (id ahead : ℕ) → ℕ
id_after width id ahead = (id + ahead) % ids_of width

-- M of a picture id is clear for 7 bits, and set for 15 bits
abbrev pub width_of : PictureId → IdWidth
width_of (Short n) = widths.Bits7
width_of (Long n) = widths.Bits15

abbrev pub edge_with : PictureId → (begins ends : Bool) → Edge
edge_with id begins ends = record { id = id_value id; width = width_of id; begins = begins; ends = ends }

-- ---- VP8 (RFC 7741, section 4.2): X R N S R PID(3). If X is set, I L T K RSV(4). If I is set, the picture id. S is set at the begin of
-- a partition, and the first partition of a picture has the index 0. The marker of RTP is set for the last packet of a picture

abbrev pub begins_vp8 : ℕ → Bool
begins_vp8 first = has_bit first 4 && (first % 8 == 0)

abbrev pub vp8_with : (first : ℕ) → (marker : Bool) → Option (PictureId × List ℕ) → Option Edge
vp8_with first marker None = None
vp8_with first marker (Some id) = Some (edge_with id.0 (begins_vp8 first) marker)

abbrev pub vp8_extended : (first : ℕ) → (marker : Bool) → List ℕ → Option Edge
vp8_extended first marker [] = None
vp8_extended first marker (flags ∷ bytes) = if has_bit flags 7 then vp8_with first marker (take_id bytes) else None

abbrev pub vp8_edge : (marker : Bool) → List ℕ → Option Edge
vp8_edge marker [] = None
vp8_edge marker (first ∷ bytes) = if has_bit first 7 then vp8_extended first marker bytes else None

-- ---- VP9 (RFC 9628, section 4.2): I P L F B E V Z. If I is set, the picture id. If L is set, TID(3) U SID(3) D. B is set for the first
-- packet of a frame and E for its last one; a picture begins with the frame of the spatial layer 0. The marker of RTP is set for the
-- last packet of a picture

abbrev pub vp9_layered : (flags : ℕ) → (marker : Bool) → PictureId → List ℕ → Option Edge
vp9_layered flags marker id [] = None
vp9_layered flags marker id (layers ∷ bytes) = Some (edge_with id (has_bit flags 3 && (layers / 2 % 8 == 0)) (has_bit flags 2 && marker))

abbrev pub vp9_with : (flags : ℕ) → (marker : Bool) → PictureId → List ℕ → Option Edge
vp9_with flags marker id bytes =
    if has_bit flags 5 then vp9_layered flags marker id bytes else Some (edge_with id (has_bit flags 3) (has_bit flags 2 && marker))

abbrev pub vp9_by : (flags : ℕ) → (marker : Bool) → Option (PictureId × List ℕ) → Option Edge
vp9_by flags marker None = None
vp9_by flags marker (Some id) = vp9_with flags marker id.0 id.1

abbrev pub vp9_edge : (marker : Bool) → List ℕ → Option Edge
vp9_edge marker [] = None
vp9_edge marker (flags ∷ bytes) = if has_bit flags 7 then vp9_by flags marker (take_id bytes) else None

-- ---- the dependency descriptor (AV1 RTP specification, appendix A): start_of_frame(1), end_of_frame(1),
-- frame_dependency_template_id(6), frame_number(16)

abbrev pub described_edge : List ℕ → Option Edge
described_edge [] = None
described_edge (flags ∷ []) = None
described_edge (flags ∷ high ∷ []) = None
described_edge (flags ∷ high ∷ low ∷ bytes) =
    Some (record { id = high * 256 + low; width = widths.Bits16; begins = has_bit flags 7; ends = has_bit flags 6 })
