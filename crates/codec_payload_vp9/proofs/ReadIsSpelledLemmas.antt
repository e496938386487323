-- A value that was read has this spelling.
use Rattle.std.proofs.Common.{◌≡◌, ◌∙◌, sym, ap, refl, ℕ, zero, suc, ◌+◌, ◌*◌, ◌/◌, ◌%◌, ◌<◌, ◌≤◌, List, [], ◌∷◌, ◌++◌, length, take, drop, Bool, true, false, ◌&&◌, Option, Some}
use Rattle.std.proofs.Common.{None, Result, Ok, Err, append_assoc, arith, subst, ltb-false}
use Rattle.std.proofs.lemmas.List.{length-take, take-append-drop}
use Rattle.std.specs.Prelude.{is_some, nat_lt, IfSome, if◌then◌else◌}
use Rattle.codec_payload_base.specs.Flags.{has_bit, AreBytes}
use Rattle.codec_payload_base.specs.PictureIds.{take_id, byte_if, id_if, FitsWidth}
use Rattle.codec_payload_base.specs.declared.error.PacketError.{PacketError}
use Rattle.codec_payload_base.specs.declared.error.PacketError.TheVariants as faults
use Rattle.codec_payload_base.specs.declared.picture_id.PictureId.{PictureId}
use Rattle.codec_payload_base.proofs.PictureIdLemmas.{spelled_taken}
use Rattle.codec_payload_vp9.specs.Vp9Fields.{Fields, Groups}
use Rattle.codec_payload_vp9.specs.Vp9Descriptor.{Descriptor, Group, Structure, spelled, spelled_sizes, spelled_groups, spelled_structure, spelled_tail, HasLayers, AreDifferences}
use Rattle.codec_payload_vp9.specs.Vp9Descriptor.{HasDifferences, HasSizes, AreGroups, HasGroups, IsDescriptor, IsStructure, HasStructure}
use Rattle.codec_payload_vp9.specs.Vp9Reading.{Reading, reads, refuses, next_from, then_read, with_flags, with_id, read_id, with_layers, layers_at, behind_layers, read_tl0}
use Rattle.codec_payload_vp9.specs.Vp9Reading.{read_layers, with_difference, differences_at, read_differences, read_before, number_at, with_height, with_width, read_size}
use Rattle.codec_payload_vp9.specs.Vp9Reading.{sizes_at, read_sizes, group_count_at, read_group_count, with_structure, behind_head, GroupReading, no_groups, groups_of, with_group}
use Rattle.codec_payload_vp9.specs.Vp9Reading.{count_of_differences, groups_at, if_read, structure_groups, read_groups, if_before, all_groups}

-- the next part is read from the end of the first
next_reads : (d : Fields) (x : Result (List ℕ) PacketError) (next : Fields → List ℕ → Reading) (rest : List ℕ) → (next_from d x next).rest ≡ Ok rest
    → (mid : List ℕ) × (x ≡ Ok mid) × ((next d mid).rest ≡ Ok rest) × (next_from d x next ≡ next d mid)
next_reads d (Ok mid) next rest h = (mid, refl, h, refl)
next_reads d (Err fault) next rest h = cc

are_behind : (front rest : List ℕ) → AreBytes (front ++ rest) → AreBytes rest
are_behind [] rest are = are
are_behind (x ∷ front) rest are = are_behind front rest (λ i. are (suc i))

-- the flags stay
abbrev Keeps : Fields → Fields → Type 0
Keeps d e = (e.p ≡ d.p) × (e.l ≡ d.l) × (e.f ≡ d.f) × (e.v ≡ d.v)

keeps_pick : (b : Bool) (d : Fields) (r s : Reading) → Keeps d r.fields → Keeps d s.fields → let x : Reading = if b then r else s in Keeps d x.fields
keeps_pick true d r s one other = one
keeps_pick false d r s one other = other

with_id_keeps : (d : Fields) (id : Option (PictureId × List ℕ)) → Keeps d (with_id d id).fields
with_id_keeps d None = (refl, refl, refl, refl)
with_id_keeps d (Some id) = (refl, refl, refl, refl)

keeps_id : (d : Fields) (bytes : List ℕ) → Keeps d (read_id d bytes).fields
keeps_id d bytes = keeps_pick d.i d (with_id d (take_id bytes)) (reads d bytes) (with_id_keeps d (take_id bytes)) (refl, refl, refl, refl)

-- the picture id
id_with : (d : Fields) (bytes : List ℕ) (x : Option (PictureId × List ℕ)) (rest : List ℕ) → AreBytes bytes → take_id bytes ≡ x → (with_id d x).rest ≡ Ok rest
    → (id : Option PictureId) × (bytes ≡ id_if id ++ rest) × (is_some id ≡ true) × IfSome id FitsWidth
id_with d bytes None rest are is h = cc
id_with d bytes (Some id) rest are is h =
    let taken = spelled_taken bytes id are is in
    let end : id.1 ≡ rest = cc in
    (Some id.0, taken.0 ∙ ap (λ (t : List ℕ). id_if (Some id.0) ++ t) end, refl, taken.1)

id_read : (b : Bool) (d : Fields) (bytes rest : List ℕ) → AreBytes bytes → (let x : Reading = if b then with_id d (take_id bytes) else reads d bytes in x.rest ≡ Ok rest)
    → (id : Option PictureId) × (bytes ≡ id_if id ++ rest) × (is_some id ≡ b) × IfSome id FitsWidth
id_read true d bytes rest are h = id_with d bytes (take_id bytes) rest are refl h
id_read false d bytes rest are h = let e : bytes ≡ rest = cc in (None, e, refl, tt)

-- the layers
keeps_tl0 : (d : Fields) (bytes : List ℕ) → Keeps d (read_tl0 d bytes).fields
keeps_tl0 d [] = (refl, refl, refl, refl)
keeps_tl0 d (index ∷ bytes) = (refl, refl, refl, refl)

keeps_behind_layers : (d : Fields) (bytes : List ℕ) → Keeps d (behind_layers d bytes).fields
keeps_behind_layers d bytes =
    let inner : Reading = if d.f then reads d bytes else read_tl0 d bytes in
    keeps_pick (nat_lt 2 d.sid) d (refuses d faults.ErrTooManySpatialLayers) inner (refl, refl, refl, refl)
    (keeps_pick d.f d (reads d bytes) (read_tl0 d bytes) (refl, refl, refl, refl) (keeps_tl0 d bytes))

keeps_layers_at : (d : Fields) (bytes : List ℕ) → Keeps d (layers_at d bytes).fields
keeps_layers_at d [] = (refl, refl, refl, refl)
keeps_layers_at d (octet ∷ bytes) = keeps_behind_layers (with_layers d octet) bytes

keeps_layers : (d : Fields) (bytes : List ℕ) → Keeps d (read_layers d bytes).fields
keeps_layers d bytes = keeps_pick d.l d (layers_at d bytes) (reads d bytes) (keeps_layers_at d bytes) (refl, refl, refl, refl)

abbrev LayersRead : Bool → Bool → List ℕ → List ℕ → Type 0
LayersRead l f bytes rest = (layers : Option ℕ) × (tl0 : Option ℕ) × (bytes ≡ byte_if layers ++ (byte_if tl0 ++ rest)) × HasLayers l f layers tl0

tl0_read : (d : Fields) (octet : ℕ) (bytes rest : List ℕ) → octet / 2 % 8 < 3 → (read_tl0 d bytes).rest ≡ Ok rest → LayersRead true false (octet ∷ bytes) rest
tl0_read d octet [] rest few h = cc
tl0_read d octet (index ∷ bytes) rest few h = let e : bytes ≡ rest = cc in (Some octet, Some index, ap (λ (t : List ℕ). octet ∷ index ∷ t) e, (refl, refl, few))

layers_by : (many f : Bool) (d : Fields) (octet : ℕ) (bytes rest : List ℕ) → nat_lt 2 (octet / 2 % 8) ≡ many
    → (let x : Reading = if many then refuses d faults.ErrTooManySpatialLayers else if f then reads d bytes else read_tl0 d bytes in x.rest ≡ Ok rest) → LayersRead true f (octet ∷ bytes) rest
layers_by true f d octet bytes rest is h = cc
layers_by false true d octet bytes rest is h =
    let e : bytes ≡ rest = cc in
    (Some octet, None, ap (λ (t : List ℕ). octet ∷ t) e, (refl, refl, omega (arith, ltb-false 2 (octet / 2 % 8) is)))
layers_by false false d octet bytes rest is h = tl0_read d octet bytes rest (omega (arith, ltb-false 2 (octet / 2 % 8) is)) h

layers_there : (d : Fields) (bytes rest : List ℕ) → (layers_at d bytes).rest ≡ Ok rest → LayersRead true d.f bytes rest
layers_there d [] rest h = cc
layers_there d (octet ∷ bytes) rest h = layers_by (nat_lt 2 (octet / 2 % 8)) d.f (with_layers d octet) octet bytes rest refl h

layers_read : (l : Bool) (d : Fields) (bytes rest : List ℕ) → (let x : Reading = if l then layers_at d bytes else reads d bytes in x.rest ≡ Ok rest) → LayersRead l d.f bytes rest
layers_read true d bytes rest h = layers_there d bytes rest h
layers_read false d bytes rest h = let e : bytes ≡ rest = cc in (None, None, e, refl)

-- the differences
one_more : (count byte : ℕ) (differences : List ℕ) → has_bit byte 0 ≡ true → AreDifferences count differences → AreDifferences (suc count) (byte ∷ differences)
one_more zero byte differences on are = absurd are
one_more (suc count) byte [] on are = absurd are
one_more (suc count) byte (next ∷ differences) on are = (on, are)

abbrev DifferencesRead : ℕ → List ℕ → List ℕ → Type 0
DifferencesRead count bytes rest = (differences : List ℕ) × (bytes ≡ differences ++ rest) × AreDifferences count differences

one_by : (on : Bool) (count place : ℕ) (d : Fields) (byte : ℕ) (bytes rest : List ℕ) → has_bit byte 0 ≡ on
    → ((differences_at count (place + 1) (with_difference d place byte) bytes).rest ≡ Ok rest → DifferencesRead count bytes rest)
    → (differences_at (suc count) place d (byte ∷ bytes)).rest ≡ Ok rest → DifferencesRead (suc count) (byte ∷ bytes) rest
one_by true count place d byte bytes rest is others h =
    let goes = rw is at h in
    let more = others goes in
    (byte ∷ more.0, ap (λ (t : List ℕ). byte ∷ t) more.1, one_more count byte more.0 is more.2)
one_by false count place d byte bytes rest is others h =
    let goes = rw is at h in
    let e : bytes ≡ rest = cc in
    (byte ∷ [], ap (λ (t : List ℕ). byte ∷ t) e, is)

differences_on : (count place : ℕ) (d : Fields) (bytes rest : List ℕ) → (differences_at count place d bytes).rest ≡ Ok rest → DifferencesRead count bytes rest
differences_on zero place d bytes rest h = cc
differences_on (suc count) place d [] rest h = cc
differences_on (suc count) place d (byte ∷ bytes) rest h =
    one_by (has_bit byte 0) count place d byte bytes rest refl (λ goes. differences_on count (place + 1) (with_difference d place byte) bytes rest goes) h

differences_read : (b : Bool) (d : Fields) (bytes rest : List ℕ) → (d.f && d.p) ≡ b → (read_differences d bytes).rest ≡ Ok rest
    → (differences : List ℕ) × (bytes ≡ differences ++ rest) × HasDifferences b differences
differences_read true d bytes rest is h = let goes = rw is at h in differences_on 3 0 d bytes rest goes
differences_read false d bytes rest is h = let goes = rw is at h in let e : bytes ≡ rest = cc in ([], e, refl)

keeps_on : (count place : ℕ) (d : Fields) (bytes : List ℕ) → Keeps d (differences_at count place d bytes).fields
keeps_on zero place d bytes = (refl, refl, refl, refl)
keeps_on (suc count) place d [] = (refl, refl, refl, refl)
keeps_on (suc count) place d (byte ∷ bytes) =
    keeps_pick (has_bit byte 0) d (differences_at count (place + 1) (with_difference d place byte) bytes) (reads (with_difference d place byte) bytes)
    (keeps_on count (place + 1) (with_difference d place byte) bytes) (refl, refl, refl, refl)

keeps_differences : (d : Fields) (bytes : List ℕ) → Keeps d (read_differences d bytes).fields
keeps_differences d bytes = keeps_pick (d.f && d.p) d (differences_at 3 0 d bytes) (reads d bytes) (keeps_on 3 0 d bytes) (refl, refl, refl, refl)

-- the sizes
size_read : (d : Fields) (layer : ℕ) (bytes rest : List ℕ) → AreBytes bytes → (read_size d layer bytes).rest ≡ Ok rest
    → (size : ℕ × ℕ) × (bytes ≡ size.0 / 256 ∷ size.0 % 256 ∷ size.1 / 256 ∷ size.1 % 256 ∷ rest)
size_read d layer [] rest are h = cc
size_read d layer (a ∷ []) rest are h = cc
size_read d layer (a ∷ b ∷ []) rest are h = cc
size_read d layer (a ∷ b ∷ c ∷ []) rest are h = cc
size_read d layer (a ∷ b ∷ c ∷ e ∷ bytes) rest are h =
    let end : bytes ≡ rest = cc in
    let a_is : a ≡ (a * 256 + b) / 256 = omega (arith, are 1) in
    let b_is : b ≡ (a * 256 + b) % 256 = omega (arith, are 1) in
    let c_is : c ≡ (c * 256 + e) / 256 = omega (arith, are 3) in
    let e_is : e ≡ (c * 256 + e) % 256 = omega (arith, are 3) in (
      (a * 256 + b, c * 256 + e),
      ap (λ (n : ℕ). n ∷ b ∷ c ∷ e ∷ bytes) a_is ∙ ap (λ (n : ℕ). (a * 256 + b) / 256 ∷ n ∷ c ∷ e ∷ bytes) b_is
          ∙ ap (λ (n : ℕ). (a * 256 + b) / 256 ∷ (a * 256 + b) % 256 ∷ n ∷ e ∷ bytes) c_is ∙ ap (λ (n : ℕ). (a * 256 + b) / 256 ∷ (a * 256 + b) % 256 ∷ (c * 256 + e) / 256 ∷ n ∷ bytes) e_is
          ∙ ap (λ (t : List ℕ). (a * 256 + b) / 256 ∷ (a * 256 + b) % 256 ∷ (c * 256 + e) / 256 ∷ (c * 256 + e) % 256 ∷ t) end,
    )

abbrev SizesRead : ℕ → List ℕ → List ℕ → Type 0
SizesRead count bytes rest = (sizes : List (ℕ × ℕ)) × (bytes ≡ spelled_sizes sizes ++ rest) × (length sizes ≡ count)

sizes_on : (count layer : ℕ) (d : Fields) (bytes rest : List ℕ) → AreBytes bytes → (sizes_at count layer d bytes).rest ≡ Ok rest → SizesRead count bytes rest
sizes_on zero layer d bytes rest are h = let e : bytes ≡ rest = cc in ([], e, refl)
sizes_on (suc count) layer d bytes rest are h =
    let r = read_size d layer bytes in
    let (mid, first, others, _) = next_reads r.fields r.rest (sizes_at count (layer + 1)) rest h in
    let (size, is) = size_read d layer bytes mid are first in
    let four : List ℕ = size.0 / 256 ∷ size.0 % 256 ∷ size.1 / 256 ∷ size.1 % 256 ∷ [] in
    let behind : AreBytes mid = are_behind four mid (subst AreBytes is are) in
    let more = sizes_on count (layer + 1) r.fields mid rest behind others in
    (size ∷ more.0, is ∙ ap (λ (t : List ℕ). four ++ t) more.1, ap suc more.2)

sizes_read : (y : Bool) (d : Fields) (bytes rest : List ℕ) → AreBytes bytes → (let x : Reading = if y then sizes_at (d.ns + 1) 0 d bytes else reads d bytes in x.rest ≡ Ok rest)
    → (sizes : List (ℕ × ℕ)) × (bytes ≡ spelled_sizes sizes ++ rest) × HasSizes y (d.ns + 1) sizes
sizes_read true d bytes rest are h = sizes_on (d.ns + 1) 0 d bytes rest are h
sizes_read false d bytes rest are h = let e : bytes ≡ rest = cc in ([], e, refl)

-- G and the number of groups stay meanwhile
abbrev KeepsCount : Fields → Fields → Type 0
KeepsCount d e = (e.g ≡ d.g) × (e.ng ≡ d.ng)

count_next : (d e : Fields) (x : Result (List ℕ) PacketError) (next : Fields → List ℕ → Reading) → KeepsCount d e
    → ((bytes : List ℕ) → KeepsCount e (next e bytes).fields) → KeepsCount d (next_from e x next).fields
count_next d e (Ok bytes) next one others = let more = others bytes in (more.0 ∙ one.0, more.1 ∙ one.1)
count_next d e (Err fault) next one others = one

count_height : (d : Fields) (layer : ℕ) (x : Result (ℕ × List ℕ) PacketError) → KeepsCount d (with_height d layer x).fields
count_height d layer (Ok height) = (refl, refl)
count_height d layer (Err fault) = (refl, refl)

count_width : (d : Fields) (layer : ℕ) (x : Result (ℕ × List ℕ) PacketError) → KeepsCount d (with_width d layer x).fields
count_width d layer (Ok width) = count_height _ layer (number_at width.1)
count_width d layer (Err fault) = (refl, refl)

count_sizes : (count layer : ℕ) (d : Fields) (bytes : List ℕ) → KeepsCount d (sizes_at count layer d bytes).fields
count_sizes zero layer d bytes = (refl, refl)
count_sizes (suc count) layer d bytes =
    let r = read_size d layer bytes in
    count_next d r.fields r.rest (sizes_at count (layer + 1)) (count_width d layer (number_at bytes)) (λ more. count_sizes count (layer + 1) r.fields more)

count_pick : (b : Bool) (d : Fields) (r s : Reading) → KeepsCount d r.fields → KeepsCount d s.fields → let x : Reading = if b then r else s in KeepsCount d x.fields
count_pick true d r s one other = one
count_pick false d r s one other = other

count_read_sizes : (d : Fields) (bytes : List ℕ) → KeepsCount d (read_sizes d bytes).fields
count_read_sizes d bytes = count_pick d.y d (sizes_at (d.ns + 1) 0 d bytes) (reads d bytes) (count_sizes (d.ns + 1) 0 d bytes) (refl, refl)

-- the number of groups
abbrev CountIs : Bool → ℕ → Option ℕ → ℕ → Type 0
CountIs g before None after = (g ≡ false) × (after ≡ before)
CountIs g before (Some count) after = (g ≡ true) × (after ≡ count)

count_there : (d : Fields) (bytes rest : List ℕ) → (group_count_at d bytes).rest ≡ Ok rest
    → (count : Option ℕ) × (bytes ≡ byte_if count ++ rest) × CountIs true d.ng count (group_count_at d bytes).fields.ng
count_there d [] rest h = cc
count_there d (count ∷ bytes) rest h = let e : bytes ≡ rest = cc in (Some count, ap (λ (t : List ℕ). count ∷ t) e, (refl, refl))

count_read : (g : Bool) (d : Fields) (bytes rest : List ℕ) → (let x : Reading = if g then group_count_at d bytes else reads d bytes in x.rest ≡ Ok rest)
    → (count : Option ℕ) × (bytes ≡ byte_if count ++ rest) × (let x : Reading = if g then group_count_at d bytes else reads d bytes in CountIs g d.ng count x.fields.ng)
count_read true d bytes rest h = count_there d bytes rest h
count_read false d bytes rest h = let e : bytes ≡ rest = cc in (None, e, (refl, refl))

-- the groups
abbrev GroupsRead : ℕ → List ℕ → List ℕ → Type 0
GroupsRead count bytes rest = (all : List Group) × (bytes ≡ spelled_groups all ++ rest) × (length all ≡ count) × AreGroups all

group_by : (short : Bool) (count : ℕ) (groups : Groups) (head : ℕ) (bytes rest : List ℕ) → nat_lt (length bytes) (count_of_differences head) ≡ short
    → ((groups_at count (with_group groups head (take (count_of_differences head) bytes)) (drop (count_of_differences head) bytes)).rest ≡ Ok rest
    → GroupsRead count (drop (count_of_differences head) bytes) rest)
    → (groups_at (suc count) groups (head ∷ bytes)).rest ≡ Ok rest → GroupsRead (suc count) (head ∷ bytes) rest
group_by true count groups head bytes rest is others h = let never = rw is at h in cc
group_by false count groups head bytes rest is others h =
    let goes = rw is at h in
    let more = others goes in
    let n = count_of_differences head in
    let enough : n ≤ length bytes = ltb-false (length bytes) n is in
    let size : length (take n bytes) ≡ n = omega (arith, length-take n bytes, enough) in
    let whole : bytes ≡ (take n bytes ++ spelled_groups more.0) ++ rest =
    sym (take-append-drop n bytes) ∙ ap (λ (t : List ℕ). take n bytes ++ t) more.1 ∙ sym (append_assoc (take n bytes) (spelled_groups more.0) rest) in
    let group : Group = record { head = head; differences = take n bytes } in
    (group ∷ more.0, ap (λ (t : List ℕ). head ∷ t) whole, ap suc more.2, (size, more.3))

groups_on : (count : ℕ) (groups : Groups) (bytes rest : List ℕ) → (groups_at count groups bytes).rest ≡ Ok rest → GroupsRead count bytes rest
groups_on zero groups bytes rest h = let e : bytes ≡ rest = cc in ([], e, refl, tt)
groups_on (suc count) groups [] rest h = cc
groups_on (suc count) groups (head ∷ bytes) rest h =
    group_by (nat_lt (length bytes) (count_of_differences head)) count groups head bytes rest refl (λ goes. groups_on count _ (drop (count_of_differences head) bytes) rest goes) h

-- the structure
if_reads : (n : ℕ) (x : Result (List ℕ) PacketError) (rest : List ℕ) → (if_read n x).rest ≡ Ok rest → (mid : List ℕ) × (x ≡ Ok mid) × ((groups_at n no_groups mid).rest ≡ Ok rest)
if_reads n (Ok mid) rest h = (mid, refl, h)
if_reads n (Err fault) rest h = cc

has_groups : (g : Bool) (count : Option ℕ) (after : ℕ) (groups : List Group) → CountIs g 0 count after → length groups ≡ after → HasGroups g count groups
has_groups g None after [] is size = (is.0, refl)
has_groups g None after (group ∷ groups) is size = absurd (omega (arith, is.1, size))
has_groups g (Some count) after groups is size = (is.0, size ∙ is.1)

head_reads : (many : Bool) (d : Fields) (bytes mid : List ℕ) → nat_lt 2 d.ns ≡ many → (behind_head d bytes).rest ≡ Ok mid
    → (d.ns < 3) × ((then_read (read_sizes d bytes) read_group_count).rest ≡ Ok mid) × (behind_head d bytes ≡ then_read (read_sizes d bytes) read_group_count)
head_reads true d bytes mid is h = let never = rw is at h in cc
head_reads false d bytes mid is h = let goes = rw is at h in (omega (arith, ltb-false 2 d.ns is), goes, rw is refl)

structure_read : (d : Fields) (head : ℕ) (bytes rest : List ℕ) → AreBytes bytes → (structure_groups d (head ∷ bytes)).rest ≡ Ok rest
    → (s : Structure) × (head ∷ bytes ≡ spelled_structure (Some s) ++ rest) × IsStructure s
structure_read d head bytes rest are h =
    let start = with_structure d head in
    let r = behind_head start bytes in
    let (mid, ended, in_groups) = if_reads r.fields.ng r.rest rest h in
    let (few, goes, same) = head_reads (nat_lt 2 start.ns) start bytes mid refl ended in
    let sized = read_sizes start bytes in
    let (behind_sizes, sizes_end, counts, whole) = next_reads sized.fields sized.rest read_group_count mid goes in
    let (sizes, sizes_is, has_sizes) = sizes_read (has_bit head 4) start bytes behind_sizes are sizes_end in
    let kept = count_read_sizes start bytes in
    let (count, count_is, counted) = count_read sized.fields.g sized.fields behind_sizes mid counts in
    let after : r.fields.ng ≡ (read_group_count sized.fields behind_sizes).fields.ng = ap (λ (x : Reading). x.fields.ng) (same ∙ whole) in
    let in_counted : (groups_at (read_group_count sized.fields behind_sizes).fields.ng no_groups mid).rest ≡ Ok rest = subst (λ (n : ℕ). (groups_at n no_groups mid).rest ≡ Ok rest) after in_groups in
    let (groups, groups_is, size, all_are) = groups_on (read_group_count sized.fields behind_sizes).fields.ng no_groups mid rest in_counted in
    let has : HasGroups sized.fields.g count groups =
    has_groups sized.fields.g count _ groups (subst (λ (n : ℕ). CountIs sized.fields.g n count (read_group_count sized.fields behind_sizes).fields.ng) kept.1 counted) size in
    let s : Structure = record { head = head; sizes = sizes; count = count; groups = groups } in
    let tail : bytes ≡ (spelled_sizes sizes ++ (byte_if count ++ spelled_groups groups)) ++ rest =
    sizes_is ∙ ap (λ (t : List ℕ). spelled_sizes sizes ++ t) (count_is ∙ ap (λ (t : List ℕ). byte_if count ++ t) groups_is ∙ sym (append_assoc (byte_if count) (spelled_groups groups) rest))
    ∙ sym (append_assoc (spelled_sizes sizes) (byte_if count ++ spelled_groups groups) rest) in
    (s, ap (λ (t : List ℕ). head ∷ t) tail, record { few = few; sizes = has_sizes; count = subst (λ (b : Bool). HasGroups b count groups) kept.0 has; groups = all_are })

structure_there : (d : Fields) (bytes rest : List ℕ) → AreBytes bytes → (structure_groups d bytes).rest ≡ Ok rest
    → (structure : Option Structure) × (bytes ≡ spelled_structure structure ++ rest) × HasStructure true structure
structure_there d [] rest are h = cc
structure_there d (head ∷ bytes) rest are h = let s = structure_read d head bytes rest (λ i. are (suc i)) h in (Some s.0, s.1, (refl, s.2))

groups_read : (v : Bool) (d : Fields) (bytes rest : List ℕ) → AreBytes bytes
    → (let x : GroupReading = if v then structure_groups d bytes else record { groups = groups_of d; rest = Ok bytes } in x.rest ≡ Ok rest)
    → (structure : Option Structure) × (bytes ≡ spelled_structure structure ++ rest) × HasStructure v structure
groups_read true d bytes rest are h = structure_there d bytes rest are h
groups_read false d bytes rest are h = let e : bytes ≡ rest = cc in (None, e, refl)

-- the parts can be joined in any order of brackets
four_joined : (a b c d rest : List ℕ) → a ++ (b ++ (c ++ (d ++ rest))) ≡ (a ++ (b ++ (c ++ d))) ++ rest
four_joined a b c d rest = simp append_assoc refl

five_joined : (a b c d e rest : List ℕ) → (a ++ (b ++ (c ++ d))) ++ (e ++ rest) ≡ (a ++ (b ++ (c ++ (d ++ e)))) ++ rest
five_joined a b c d e rest = simp append_assoc refl

-- the whole
if_befores : (d : Fields) (x : Result (List ℕ) PacketError) (rest : List ℕ) → (if_before d x).rest ≡ Ok rest → (mid : List ℕ) × (x ≡ Ok mid) × ((read_groups d mid).rest ≡ Ok rest)
if_befores d (Ok mid) rest h = (mid, refl, h)
if_befores d (Err fault) rest h = cc

pub read_is_spelled : (d : Fields) (flags : ℕ) (bytes rest : List ℕ) → AreBytes bytes → (all_groups (with_flags d flags) bytes).rest ≡ Ok rest
    → (x : Descriptor) × IsDescriptor x × (flags ∷ bytes ≡ spelled x ++ rest)
read_is_spelled d flags bytes rest are h =
    let start = with_flags d flags in
    let r = read_before start bytes in
    let (before, ended, in_structure) = if_befores r.fields r.rest rest h in
    let one = read_id start bytes in
    let two = then_read one read_layers in
    let (behind_layers, two_ends, in_differences, three_is) = next_reads two.fields two.rest read_differences before ended in
    let (behind_id, one_ends, in_layers, two_is) = next_reads one.fields one.rest read_layers behind_layers two_ends in
    let (id, id_is, has_id, fits) = id_read (has_bit flags 7) start bytes behind_id are one_ends in
    let keeps_one = keeps_id start bytes in
    let are_one : AreBytes behind_id = are_behind (id_if id) behind_id (subst AreBytes id_is are) in
    let (layers, tl0, layers_is, layers_had) = layers_read one.fields.l one.fields behind_id behind_layers in_layers in
    let has_layers : HasLayers (has_bit flags 5) (has_bit flags 4) layers tl0 =
    subst (λ (b : Bool). HasLayers (has_bit flags 5) b layers tl0) keeps_one.2 (subst (λ (b : Bool). HasLayers b one.fields.f layers tl0) keeps_one.1 layers_had) in
    let keeps_layered = keeps_layers one.fields behind_id in
    let fields_two : two.fields ≡ (read_layers one.fields behind_id).fields = ap (λ (x : Reading). x.fields) two_is in
    let f_two : two.fields.f ≡ has_bit flags 4 = ap (λ (x : Fields). x.f) fields_two ∙ keeps_layered.2 ∙ keeps_one.2 in
    let p_two : two.fields.p ≡ has_bit flags 6 = ap (λ (x : Fields). x.p) fields_two ∙ keeps_layered.0 ∙ keeps_one.0 in
    let v_two : two.fields.v ≡ has_bit flags 1 = ap (λ (x : Fields). x.v) fields_two ∙ keeps_layered.3 ∙ keeps_one.3 in
    let both : (two.fields.f && two.fields.p) ≡ (has_bit flags 4 && has_bit flags 6) = ap (λ (b : Bool). b && two.fields.p) f_two ∙ ap (λ (b : Bool). has_bit flags 4 && b) p_two in
    let (differences, differences_is, has_differences) = differences_read (has_bit flags 4 && has_bit flags 6) two.fields behind_layers before both in_differences in
    let v_three : r.fields.v ≡ has_bit flags 1 = ap (λ (x : Reading). x.fields.v) three_is ∙ (keeps_differences two.fields behind_layers).3 ∙ v_two in
    let front = id_if id ++ (byte_if layers ++ (byte_if tl0 ++ differences)) in
    let whole : bytes ≡ front ++ before =
    id_is ∙ ap (λ (t : List ℕ). id_if id ++ t) (layers_is ∙ ap (λ (t : List ℕ). byte_if layers ++ (byte_if tl0 ++ t)) differences_is)
    ∙ four_joined (id_if id) (byte_if layers) (byte_if tl0) differences before in
    let are_before : AreBytes before = are_behind front before (subst AreBytes whole are) in
    let (structure, structure_is, structure_had) = groups_read r.fields.v r.fields before rest are_before in_structure in
    let has_structure : HasStructure (has_bit flags 1) structure = subst (λ (b : Bool). HasStructure b structure) v_three structure_had in
    let x : Descriptor = record { flags = flags; picture_id = id; layers = layers; tl0picidx = tl0; differences = differences; structure = structure } in
    let tail : bytes ≡ spelled_tail x ++ rest = whole ∙ ap (λ (t : List ℕ). front ++ t) structure_is
    ∙ five_joined (id_if id) (byte_if layers) (byte_if tl0) differences (spelled_structure structure) rest in
    (x, record { id = has_id; width = fits; layers = has_layers; differences = has_differences; structure = has_structure }, ap (λ (t : List ℕ). flags ∷ t) tail)
