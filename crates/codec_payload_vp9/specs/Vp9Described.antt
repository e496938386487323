-- The fields of a VP9 depacketizer that has read a descriptor.
use Rattle.std.specs.Prelude.{ℕ, ◌+◌, List, [], ◌∷◌, slice_set, Option, Some, None}
use Rattle.codec_payload_base.specs.Extended.{extended}
use Rattle.codec_payload_base.specs.PictureIds.{id_value, extended_by}
use Rattle.codec_payload_base.specs.declared.picture_id.PictureId.{PictureId}
use Rattle.codec_payload_vp9.specs.Vp9Descriptor.{Descriptor, Group, Structure}
use Rattle.codec_payload_vp9.specs.Vp9Fields.{Fields, Groups}
use Rattle.codec_payload_vp9.specs.Vp9Reading.{groups_of, no_groups, with_difference, with_flags, with_group, with_layers, with_structure}

-- the picture id, if present, extended from the previous one
abbrev pub with_picture_id : Fields → Option PictureId → Fields
with_picture_id d None = d
with_picture_id d (Some id) = record d { picture_id = id_value id; extended_pid = Some (extended_by d.extended_pid d.picture_id id) }

abbrev pub with_layers_if : Fields → Option ℕ → Fields
with_layers_if d None = d
with_layers_if d (Some octet) = with_layers d octet

-- TL0PICIDX in the same way
abbrev pub with_index : Fields → Option ℕ → Fields
with_index d None = d
with_index d (Some index) = record d { tl0picidx = index; extended_tl0picidx = Some (extended 256 d.extended_tl0picidx index) }

-- the differences, from this place on
abbrev pub with_differences : ℕ → Fields → List ℕ → Fields
with_differences place d [] = d
with_differences place d (byte ∷ bytes) = with_differences (place + 1) (with_difference d place byte) bytes

-- the width and the height of a layer
abbrev pub with_size : Fields → ℕ → ℕ → ℕ → Fields
with_size d layer width height = record d { width = slice_set d.width layer (Some width); height = slice_set d.height layer (Some height) }

-- the sizes of the layers from this one on
abbrev pub with_sizes : ℕ → Fields → List (ℕ × ℕ) → Fields
with_sizes layer d [] = d
with_sizes layer d (size ∷ sizes) = with_sizes (layer + 1) (with_size d layer size.0 size.1) sizes

abbrev pub with_count : Fields → Option ℕ → Fields
with_count d None = d
with_count d (Some count) = record d { ng = count }

-- the structure without its groups
abbrev pub with_scalability : Fields → Option Structure → Fields
with_scalability d None = d
with_scalability d (Some s) = with_count (with_sizes 0 (with_structure d s.head) s.sizes) s.count

-- everything before the structure
abbrev pub with_front : Fields → Descriptor → Fields
with_front d read = with_differences 0 (with_index (with_layers_if (with_picture_id (with_flags d read.flags) read.picture_id) read.layers) read.tl0picidx) read.differences

-- all fields but the groups
abbrev pub with_descriptor : Fields → Descriptor → Fields
with_descriptor d read = with_scalability (with_front d read) read.structure

-- groups after others
abbrev pub with_groups : Groups → List Group → Groups
with_groups groups [] = groups
with_groups groups (group ∷ all) = with_groups (with_group groups group.head group.differences) all

-- the groups of a structure, or else the old groups
abbrev pub groups_after : Fields → Option Structure → Groups
groups_after d None = groups_of d
groups_after d (Some s) = with_groups no_groups s.groups
