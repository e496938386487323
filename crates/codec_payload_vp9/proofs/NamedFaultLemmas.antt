-- The fault of a descriptor is never out of memory.
use Rattle.std.proofs.Common.{◌≡◌, ◌∙◌, sym, ap, refl, ℕ, zero, suc, ◌+◌, List, [], ◌∷◌, Bool, true, false, ◌&&◌, Option, Some, None, Result, Ok, Err, length, take, drop, ◌<◌, arith}
use Rattle.std.specs.Prelude.{nat_lt, if◌then◌else◌}
use Rattle.codec_payload_base.specs.Flags.{has_bit}
use Rattle.codec_payload_base.specs.PictureIds.{take_id}
use Rattle.codec_payload_base.specs.declared.error.PacketError.{PacketError}
use Rattle.codec_payload_base.specs.declared.error.PacketError.TheVariants as faults
use Rattle.codec_payload_base.specs.declared.picture_id.PictureId.{PictureId}
use Rattle.codec_payload_vp9.specs.Vp9Fields.{Fields, Groups}
use Rattle.codec_payload_vp9.specs.Vp9Reading.{SameButGroups, group_count, Reading, reads, refuses, next_from, then_read, with_id, read_id, with_layers, layers_at, read_tl0}
use Rattle.codec_payload_vp9.specs.Vp9Reading.{read_layers, with_difference, differences_at, read_differences, read_before, number_at, with_height, with_width, read_size}
use Rattle.codec_payload_vp9.specs.Vp9Reading.{sizes_at, read_sizes, group_count_at, read_group_count, with_structure, behind_head, head_at, read_head, GroupReading, no_groups}
use Rattle.codec_payload_vp9.specs.Vp9Reading.{with_group, count_of_differences, group_at, groups_at, groups_from, if_read, structure_groups, read_groups, groups_of, if_before}
use Rattle.codec_payload_vp9.specs.Vp9Reading.{all_groups, is_no_memory}

abbrev Named : {X : Type 0} → Result X PacketError → Type 0
Named r = is_no_memory r ≡ false

then_named : (r : Result (List ℕ) PacketError) (d : Fields) (next : Fields → List ℕ → Reading) → Named r → ((e : Fields) (bytes : List ℕ) → Named (next e bytes).rest) → Named (next_from d r next).rest
then_named (Ok bytes) d next is on = on d bytes
then_named (Err fault) d next is on = is

if_named : (b : Bool) (x y : Reading) → Named x.rest → Named y.rest → Named (if b then x else y).rest
if_named true x y first second = first
if_named false x y first second = second

with_id_named : (d : Fields) (id : Option (PictureId × List ℕ)) → Named (with_id d id).rest
with_id_named d None = refl
with_id_named d (Some id) = refl

read_id_named : (d : Fields) (bytes : List ℕ) → Named (read_id d bytes).rest
read_id_named d bytes = if_named d.i (with_id d (take_id bytes)) (reads d bytes) (with_id_named d (take_id bytes)) refl

read_tl0_named : (d : Fields) (bytes : List ℕ) → Named (read_tl0 d bytes).rest
read_tl0_named d [] = refl
read_tl0_named d (index ∷ bytes) = refl

layers_at_named : (d : Fields) (bytes : List ℕ) → Named (layers_at d bytes).rest
layers_at_named d [] = refl
layers_at_named d (octet ∷ bytes) =
    let e = with_layers d octet in
    if_named (nat_lt 2 e.sid) (refuses e faults.ErrTooManySpatialLayers) (if e.f then reads e bytes else read_tl0 e bytes) refl
    (if_named e.f (reads e bytes) (read_tl0 e bytes) refl (read_tl0_named e bytes))

read_layers_named : (d : Fields) (bytes : List ℕ) → Named (read_layers d bytes).rest
read_layers_named d bytes = if_named d.l (layers_at d bytes) (reads d bytes) (layers_at_named d bytes) refl

differences_named : (count place : ℕ) (d : Fields) (bytes : List ℕ) → Named (differences_at count place d bytes).rest
differences_named zero place d bytes = refl
differences_named (suc count) place d [] = refl
differences_named (suc count) place d (byte ∷ bytes) =
    let e = with_difference d place byte in
    if_named (has_bit byte 0) (differences_at count (place + 1) e bytes) (reads e bytes) (differences_named count (place + 1) e bytes) refl

read_differences_named : (d : Fields) (bytes : List ℕ) → Named (read_differences d bytes).rest
read_differences_named d bytes = if_named (d.f && d.p) (differences_at 3 0 d bytes) (reads d bytes) (differences_named 3 0 d bytes) refl

read_before_named : (d : Fields) (bytes : List ℕ) → Named (read_before d bytes).rest
read_before_named d bytes =
    let id = read_id d bytes in
    let layers = then_read id read_layers in
    then_named layers.rest layers.fields read_differences (then_named id.rest id.fields read_layers (read_id_named d bytes) read_layers_named) read_differences_named

number_named : (bytes : List ℕ) → Named (number_at bytes)
number_named [] = refl
number_named (high ∷ []) = refl
number_named (high ∷ low ∷ bytes) = refl

height_named : (d : Fields) (layer : ℕ) (height : Result (ℕ × List ℕ) PacketError) → Named height → Named (with_height d layer height).rest
height_named d layer (Err fault) is = is
height_named d layer (Ok height) is = refl

width_named : (d : Fields) (layer : ℕ) (width : Result (ℕ × List ℕ) PacketError) → Named width → Named (with_width d layer width).rest
width_named d layer (Err fault) is = is
width_named d layer (Ok width) is = height_named _ layer (number_at width.1) (number_named width.1)

sizes_named : (count layer : ℕ) (d : Fields) (bytes : List ℕ) → Named (sizes_at count layer d bytes).rest
sizes_named zero layer d bytes = refl
sizes_named (suc count) layer d bytes =
    let size = read_size d layer bytes in
    then_named size.rest size.fields (sizes_at count (layer + 1)) (width_named d layer (number_at bytes) (number_named bytes)) (sizes_named count (layer + 1))

read_sizes_named : (d : Fields) (bytes : List ℕ) → Named (read_sizes d bytes).rest
read_sizes_named d bytes = if_named d.y (sizes_at (d.ns + 1) 0 d bytes) (reads d bytes) (sizes_named (d.ns + 1) 0 d bytes) refl

count_at_named : (d : Fields) (bytes : List ℕ) → Named (group_count_at d bytes).rest
count_at_named d [] = refl
count_at_named d (count ∷ bytes) = refl

group_count_named : (d : Fields) (bytes : List ℕ) → Named (read_group_count d bytes).rest
group_count_named d bytes = if_named d.g (group_count_at d bytes) (reads d bytes) (count_at_named d bytes) refl

behind_head_named : (d : Fields) (bytes : List ℕ) → Named (behind_head d bytes).rest
behind_head_named d bytes =
    let sizes = read_sizes d bytes in
    if_named (nat_lt 2 d.ns) (refuses d faults.ErrVP9CorruptedPacket) (then_read sizes read_group_count) refl
    (then_named sizes.rest sizes.fields read_group_count (read_sizes_named d bytes) group_count_named)

-- the groups

if_group_named : (b : Bool) (x y : GroupReading) → Named x.rest → Named y.rest → Named (if b then x else y).rest
if_group_named true x y first second = first
if_group_named false x y first second = second

group_named : (groups : Groups) (bytes : List ℕ) → Named (group_at groups bytes).rest
group_named groups [] = refl
group_named groups (head ∷ bytes) =
    if_group_named (nat_lt (length bytes) (count_of_differences head)) (record { groups = with_group groups head bytes; rest = Err faults.ErrShortPacket })
    (record { groups = with_group groups head (take (count_of_differences head) bytes); rest = Ok (drop (count_of_differences head) bytes) }) refl refl

from_named : (groups : Groups) (r : Result (List ℕ) PacketError) (next : Groups → List ℕ → GroupReading) → Named r → ((g : Groups) (bytes : List ℕ) → Named (next g bytes).rest)
    → Named (groups_from groups r next).rest
from_named groups (Ok bytes) next is on = on groups bytes
from_named groups (Err fault) next is on = is

groups_named : (count : ℕ) (groups : Groups) (bytes : List ℕ) → Named (groups_at count groups bytes).rest
groups_named zero groups bytes = refl
groups_named (suc count) groups bytes = let r = group_at groups bytes in from_named r.groups r.rest (groups_at count) (group_named groups bytes) (groups_named count)

if_read_named : (count : ℕ) (r : Result (List ℕ) PacketError) → Named r → Named (if_read count r).rest
if_read_named count (Ok bytes) is = groups_named count no_groups bytes
if_read_named count (Err fault) is = is

structure_named : (d : Fields) (bytes : List ℕ) → Named (structure_groups d bytes).rest
structure_named d [] = refl
structure_named d (head ∷ bytes) = let r = behind_head (with_structure d head) bytes in if_read_named r.fields.ng r.rest (behind_head_named (with_structure d head) bytes)

read_groups_named : (d : Fields) (bytes : List ℕ) → Named (read_groups d bytes).rest
read_groups_named d bytes = if_group_named d.v (structure_groups d bytes) (record { groups = groups_of d; rest = Ok bytes }) (structure_named d bytes) refl

if_before_named : (d : Fields) (r : Result (List ℕ) PacketError) → Named r → Named (if_before d r).rest
if_before_named d (Ok bytes) is = read_groups_named d bytes
if_before_named d (Err fault) is = is

all_named : (d : Fields) (bytes : List ℕ) → Named (all_groups d bytes).rest
all_named d bytes = let r = read_before d bytes in if_before_named r.fields r.rest (read_before_named d bytes)

pub names_no_memory : (d : Fields) (bytes : List ℕ) → (all_groups d bytes).rest ≡ Err faults.OutOfMemory → ⊥
names_no_memory d bytes is = let never = sym (ap is_no_memory is) ∙ all_named d bytes in cc

-- The structure without its groups, and then the groups.

then_v : (r : Result (List ℕ) PacketError) (d : Fields) (v : Bool) (next : Fields → List ℕ → Reading) → d.v ≡ v → ((e : Fields) (bytes : List ℕ) → (next e bytes).fields.v ≡ e.v)
    → (next_from d r next).fields.v ≡ v
then_v (Ok bytes) d v next is on = on d bytes ∙ is
then_v (Err fault) d v next is on = is

if_v : (b : Bool) (x y : Reading) (v : Bool) → x.fields.v ≡ v → y.fields.v ≡ v → (if b then x else y).fields.v ≡ v
if_v true x y v first second = first
if_v false x y v first second = second

height_v : (d : Fields) (layer : ℕ) (height : Result (ℕ × List ℕ) PacketError) → (with_height d layer height).fields.v ≡ d.v
height_v d layer (Err fault) = refl
height_v d layer (Ok height) = refl

width_v : (d : Fields) (layer : ℕ) (width : Result (ℕ × List ℕ) PacketError) → (with_width d layer width).fields.v ≡ d.v
width_v d layer (Err fault) = refl
width_v d layer (Ok width) = height_v _ layer (number_at width.1)

sizes_v : (count layer : ℕ) (d : Fields) (bytes : List ℕ) → (sizes_at count layer d bytes).fields.v ≡ d.v
sizes_v zero layer d bytes = refl
sizes_v (suc count) layer d bytes =
    let size = read_size d layer bytes in
    then_v size.rest size.fields d.v (sizes_at count (layer + 1)) (width_v d layer (number_at bytes)) (sizes_v count (layer + 1))

count_at_v : (d : Fields) (bytes : List ℕ) → (group_count_at d bytes).fields.v ≡ d.v
count_at_v d [] = refl
count_at_v d (count ∷ bytes) = refl

group_count_v : (d : Fields) (bytes : List ℕ) → (read_group_count d bytes).fields.v ≡ d.v
group_count_v d bytes = if_v d.g (group_count_at d bytes) (reads d bytes) d.v (count_at_v d bytes) refl

behind_head_v : (d : Fields) (bytes : List ℕ) → (behind_head d bytes).fields.v ≡ d.v
behind_head_v d bytes =
    let sizes = read_sizes d bytes in
    if_v (nat_lt 2 d.ns) (refuses d faults.ErrVP9CorruptedPacket) (then_read sizes read_group_count) d.v refl
    (then_v sizes.rest sizes.fields d.v read_group_count (if_v d.y (sizes_at (d.ns + 1) 0 d bytes) (reads d bytes) d.v (sizes_v (d.ns + 1) 0 d bytes) refl) group_count_v)

if_read_is : (count : ℕ) (r : Result (List ℕ) PacketError) → if_read count r ≡ groups_from no_groups r (groups_at count)
if_read_is count (Ok bytes) = refl
if_read_is count (Err fault) = refl

-- without a structure there are no groups
pub no_structure : (d : Fields) (bytes : List ℕ) → d.v ≡ false → read_groups d bytes ≡ groups_from (groups_of d) (read_head d bytes).rest (groups_at (group_count d))
no_structure d bytes is = rw is refl

-- the groups that there were are gone once the first byte of a structure was read
abbrev pub cleared : List ℕ → Groups → Groups
cleared [] groups = groups
cleared (head ∷ bytes) groups = no_groups

structure_is : (bytes : List ℕ) (d after : Fields) → SameButGroups after (head_at d bytes).fields → d.v ≡ true → groups_of after ≡ cleared bytes (groups_of d)
    → structure_groups d bytes ≡ groups_from (groups_of after) (head_at d bytes).rest (groups_at (group_count after))
structure_is [] d after kept is groups = sym (ap (λ (g : Groups). record { groups = g; rest = Err faults.ErrShortPacket }) groups)
structure_is (head ∷ bytes) d after kept is groups =
    let r = behind_head (with_structure d head) bytes in
    let v : after.v ≡ true = ap (λ (f : Fields). f.v) kept ∙ (behind_head_v (with_structure d head) bytes ∙ is) in
    let ng : after.ng ≡ r.fields.ng = ap (λ (f : Fields). f.ng) kept in
    let count : group_count after ≡ r.fields.ng = ap (λ (b : Bool). if b then after.ng else 0) v ∙ ng in
    if_read_is r.fields.ng r.rest
    ∙ ap (λ (n : ℕ). groups_from no_groups r.rest (groups_at n)) (sym count)
    ∙ ap (λ (g : Groups). groups_from g r.rest (groups_at (group_count after))) (sym groups)

pub with_structure_is : (d after : Fields) (bytes : List ℕ) → SameButGroups after (head_at d bytes).fields → d.v ≡ true → groups_of after ≡ cleared bytes (groups_of d)
    → read_groups d bytes ≡ groups_from (groups_of after) (read_head d bytes).rest (groups_at (group_count after))
with_structure_is d after bytes kept is groups =
    ap (λ (b : Bool). if b then structure_groups d bytes else record { groups = groups_of d; rest = Ok bytes }) is
    ∙ structure_is bytes d after kept is groups
    ∙ ap (λ (b : Bool). groups_from (groups_of after) (if b then head_at d bytes else reads d bytes).rest (groups_at (group_count after))) (sym is)

pub cleared_some : (bytes : List ℕ) (groups : Groups) → 0 < length bytes → cleared bytes groups ≡ no_groups
cleared_some [] groups some = absurd (omega (arith, some))
cleared_some (head ∷ bytes) groups some = refl
