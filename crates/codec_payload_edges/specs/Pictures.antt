-- The edges of the latest pictures of a stream.
use Rattle.std.specs.Prelude.{ℕ, ◌+◌, ◌-◌, ◌%◌, ◌==◌, ◌&&◌, ◌||◌, max, min, nat_le, nat_lt, not, if◌then◌else◌, Bool, false, true, List, [], ◌∷◌, Option, Some, None, replicate, slice_index_or, slice_set}
use Rattle.codec_payload_edges.specs.Edges.{id_after, ids_of}
use Rattle.codec_payload_edges.specs.declared.edge.Edge.{Edge}
use Rattle.codec_payload_edges.specs.declared.edge.IdWidth.{IdWidth}
use Rattle.codec_payload_edges.specs.declared.pictures.Between.{Between}
use Rattle.codec_payload_edges.specs.declared.pictures.Gaps.{Gaps}
use Rattle.codec_payload_edges.specs.declared.pictures.Picture.{Picture}

-- the latest pictures, each at its id modulo 32; the latest ranges whose numbers were noted, and the index of the next one; whether the
-- sender has kept the rule so far
pub record Pictures : Type 0 where
  pub places : List (Option Picture)
  pub noted : List (Option Between)
  pub next : ℕ
  pub is_trusted : Bool

abbrev pub no_edges : Pictures
no_edges = record { places = replicate 32 None; noted = replicate 8 None; next = 0; is_trusted = true }

abbrev pub distrusted : Pictures → Pictures
distrusted s = record s { is_trusted = false }

-- ---- noted ranges

abbrev pub with_noted : Between → Pictures → Pictures
with_noted range s = record s { noted = slice_set s.noted s.next (Some range); next = (s.next + 1) % 8 }

abbrev pub is_between : ℕ → Option Between → Bool
is_between n None = false
is_between n (Some range) = nat_lt range.after n && nat_lt n range.before

abbrev pub has_noted : ℕ → List (Option Between) → Bool
has_noted n [] = false
has_noted n (range ∷ ranges) = is_between n range || has_noted n ranges

-- media under a noted number
abbrev pub checked : ℕ → Pictures → Pictures
checked n s = if has_noted n s.noted then distrusted s else s

-- ---- a picture

abbrev pub new_picture : Edge → Picture
new_picture e = record { id = e.id; width = e.width; begin = None; end = None }

abbrev pub is_known : ℕ → IdWidth → Picture → Bool
is_known id width p = (p.id == id) && (ids_of p.width == ids_of width)

abbrev pub is_same : Edge → Picture → Bool
is_same e p = is_known e.id e.width p

abbrev pub or_zero : Option ℕ → ℕ
or_zero None = 0
or_zero (Some n) = n

-- the highest number that is known of it
abbrev pub latest_of : Picture → ℕ
latest_of p = max (or_zero p.begin) (or_zero p.end)

-- the picture with one more packet
abbrev pub if_edge : Bool → ℕ → Option ℕ → Option ℕ
if_edge is_edge n known = if is_edge then Some n else known

abbrev pub with_edge : ℕ → Edge → Picture → Picture
with_edge n e p = record p { begin = if_edge e.begins n p.begin; end = if_edge e.ends n p.end }

-- An id begins at one number and ends at one number, and does not end before it begins
abbrev pub is_kept : Bool → ℕ → Option ℕ → Bool
is_kept is_edge n None = true
is_kept is_edge n (Some known) = not is_edge || (known == n)

abbrev pub is_in_order : Option ℕ → Option ℕ → Bool
is_in_order None last = true
is_in_order (Some first) None = true
is_in_order (Some first) (Some last) = nat_le first last

abbrev pub is_sound : ℕ → Edge → Picture → Bool
is_sound n e p = is_kept e.begins n p.begin && (is_kept e.ends n p.end && is_in_order (if_edge e.begins n p.begin) (if_edge e.ends n p.end))

-- The picture of a packet: the known one if it has the id and is less than a wrap of ids away, else a new one, unless the known one is
-- later
abbrev pub picture_for : ℕ → Edge → Option Picture → Option Picture
picture_for n e None = Some (new_picture e)
picture_for n e (Some p) =
    if is_same e p && nat_lt (max n (latest_of p) - min n (latest_of p)) (ids_of e.width) then Some p
    else (if nat_lt (latest_of p) n then Some (new_picture e) else None)

-- ---- the numbers between pictures

abbrev pub found_at : ℕ → IdWidth → Option Picture → Option Picture
found_at id width None = None
found_at id width (Some p) = if is_known id width p then Some p else None

abbrev pub find : ℕ → IdWidth → List (Option Picture) → Option Picture
find id width places = found_at id width (slice_index_or places (id % 32) None)

abbrev pub begin_of : Option Picture → Option ℕ
begin_of None = None
begin_of (Some p) = p.begin

abbrev pub end_of : Option Picture → Option ℕ
end_of None = None
end_of (Some p) = p.end

-- the numbers between the end of a picture and the begin of the next one, if there are some, and at most 127
abbrev pub between_of : Option ℕ → Option ℕ → Option Between
between_of None first = None
between_of (Some last) None = None
between_of (Some last) (Some first) =
    if nat_lt last first && (nat_le 2 (first - last) && nat_le (first - last) 128) then Some (record { after = last; before = first }) else None

abbrev pub no_gaps : Gaps
no_gaps = record { before = None; after = None }

abbrev pub gap_before : ℕ → Edge → List (Option Picture) → Option Between
gap_before n e places = if e.begins then between_of (end_of (find (id_after e.width e.id (ids_of e.width - 1)) e.width places)) (Some n) else None

abbrev pub gap_after : ℕ → Edge → List (Option Picture) → Option Between
gap_after n e places = if e.ends then between_of (Some n) (begin_of (find (id_after e.width e.id 1) e.width places)) else None

abbrev pub gaps_at : ℕ → Edge → List (Option Picture) → Gaps
gaps_at n e places = record { before = gap_before n e places; after = gap_after n e places }

-- ---- a packet with an edge is stored

abbrev pub places_with : ℕ → Edge → Picture → List (Option Picture) → List (Option Picture)
places_with n e p places = slice_set places (e.id % 32) (Some (with_edge n e p))

abbrev pub heard_in : ℕ → Edge → Pictures → Picture → Pictures × Gaps
heard_in n e s p =
    if is_sound n e p then (record s { places = places_with n e p s.places }, gaps_at n e (places_with n e p s.places)) else (distrusted s, no_gaps)

abbrev pub heard_if : ℕ → Edge → Pictures → Option Picture → Pictures × Gaps
heard_if n e s None = (s, no_gaps)
heard_if n e s (Some p) = heard_in n e s p

abbrev pub heard : ℕ → Edge → Pictures → Pictures × Gaps
heard n e s =
    if not s.is_trusted || not (e.begins || e.ends) then (s, no_gaps) else heard_if n e s (picture_for n e (slice_index_or s.places (e.id % 32) None))
