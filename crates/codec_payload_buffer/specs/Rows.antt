-- Rows: the longest ranges of held packets in which a frame can be complete; how a push, an eviction and a pop change them; and
-- their complete frames.
use Rattle.std.specs.Prelude.{◌≡◌, ◌≢◌, ℕ, ◌+◌, ◌<◌, ◌≤◌, ◌&&◌, ◌||◌, not, Bool, true, false, List, [], ◌∷◌, nat_lt, ◌==◌, if◌then◌else◌, Option, Some, None, drop}
use Rattle.codec_payload_buffer.specs.Held.{Held, number_of}
use Rattle.codec_payload_buffer.specs.Frames.{is_same_time, start_or_here}
use Rattle.codec_payload_buffer.specs.declared.buffer.frames.CompleteFrame.{CompleteFrame}
use Rattle.codec_payload_buffer.specs.declared.buffer.rows.Row.{Row}

-- one packet as a row
abbrev pub row_of : Held → Row
row_of p = record { first = number_of p; last = number_of p; time = p.meta.time; head = start_or_here None p; tail = p.tail }

-- r continues q: the next number, the same time, and q does not end a unit
abbrev pub meet : Row → Row → Bool
meet q r = (q.last + 1 == r.first) && is_same_time q.time r.time && not q.tail

-- the first number, if there is one, or else the second
abbrev pub or_else : Option ℕ → Option ℕ → Option ℕ
or_else (Some n) o = Some n
or_else None o = o

-- two rows that meet, joined
abbrev pub joined : Row → Row → Row
joined q r = record { first = q.first; last = r.last; time = r.time; head = or_else q.head r.head; tail = r.tail }

-- joined if they meet, or else the later row
abbrev pub join_if : Row → Row → Row
join_if q r = if meet q r then joined q r else r

-- q in front of the rows, joined with the first of them if they meet
abbrev pub put_before : Row → List Row → List Row
put_before q [] = q ∷ []
put_before q (r ∷ rs) = if meet q r then joined q r ∷ rs else q ∷ r ∷ rs

-- the longest rows of the packets, in order
abbrev pub rows : List Held → List Row
rows [] = []
rows (p ∷ ps) = put_before (row_of p) (rows ps)

-- The frames

-- the frame of a row: from its lowest head to its last packet, if that ends a unit
abbrev pub frame_in : Bool → Option ℕ → ℕ → Option CompleteFrame
frame_in true (Some first) last = Some (record { first = first; last = last })
frame_in true None last = None
frame_in false head last = None

abbrev pub frame_of_row : Row → Option CompleteFrame
frame_of_row r = frame_in r.tail r.head r.last

-- a frame, if there is one, in front of others
abbrev pub with_frame : Option CompleteFrame → List CompleteFrame → List CompleteFrame
with_frame None fs = fs
with_frame (Some f) fs = f ∷ fs

-- the frames of rows, in order
abbrev pub row_frames : List Row → List CompleteFrame
row_frames [] = []
row_frames (r ∷ rs) = with_frame (frame_of_row r) (row_frames rs)

-- Changes, as the code makes them

-- how many rows begin up to n
abbrev pub row_end : ℕ → List Row → ℕ
row_end n [] = 0
row_end n (r ∷ rs) = if nat_lt n r.first then 0 else row_end n rs + 1

-- p among the rows, joined with the rows that it meets
abbrev pub row_placed : Row → List Row → List Row
row_placed p [] = p ∷ []
row_placed p (r ∷ rs) = if nat_lt r.first p.first then put_before r (row_placed p rs) else put_before p (r ∷ rs)

-- p joined with the row after it, if they meet
abbrev pub with_next : Row → List Row → Row
with_next p [] = p
with_next p (r ∷ rs) = if meet p r then joined p r else p

-- the row of p after it was inserted; r is the row in front of it
abbrev pub merged_after : Row → Row → List Row → Row
merged_after r p [] = join_if r p
merged_after r p (s ∷ rs) = if nat_lt s.first p.first then merged_after s p rs else join_if r (with_next p (s ∷ rs))

abbrev pub merged : Row → List Row → Row
merged p [] = p
merged p (r ∷ rs) = if nat_lt r.first p.first then merged_after r p rs else with_next p (r ∷ rs)

-- the frame in its place by its end; it replaces a frame with the same end
abbrev pub noted : CompleteFrame → List CompleteFrame → List CompleteFrame
noted f [] = f ∷ []
noted f (g ∷ gs) = if nat_lt g.last f.last then g ∷ noted f gs else (if g.last == f.last then f ∷ gs else f ∷ g ∷ gs)

abbrev pub noted_if : Option CompleteFrame → List CompleteFrame → List CompleteFrame
noted_if None fs = fs
noted_if (Some f) fs = noted f fs

-- how many frames end below n
abbrev pub frame_place : ℕ → List CompleteFrame → ℕ
frame_place n [] = 0
frame_place n (g ∷ gs) = if nat_lt g.last n then frame_place n gs + 1 else 0

-- one of the frames ends at n
abbrev pub has_end : ℕ → List CompleteFrame → Bool
has_end n [] = false
has_end n (f ∷ fs) = (f.last == n) || has_end n fs

-- the lowest head up to a number
abbrev pub next_head : ℕ → List Held → Option ℕ
next_head last [] = None
next_head last (p ∷ ps) = if nat_lt last (number_of p) then None else (if p.head then Some (number_of p) else next_head last ps)

-- the rest of the first row without its first packet; `left` has the remaining packets
abbrev pub shortened : Row → List Held → Option Row
shortened r left = if r.first == r.last then None else Some (record r { first = r.first + 1; head = next_head r.last left })

-- a row, if there is one, in front of others
abbrev pub with_row : Option Row → List Row → List Row
with_row None rs = rs
with_row (Some r) rs = r ∷ rs

-- its frame
abbrev pub frame_of_rest : Option Row → Option CompleteFrame
frame_of_rest None = None
frame_of_rest (Some r) = frame_of_row r

-- the lowest frame, if there was one, is replaced by this frame or removed
abbrev pub first_mended : Option CompleteFrame → Option CompleteFrame → List CompleteFrame → List CompleteFrame
first_mended None new fs = fs
first_mended (Some f) new fs = with_frame new (drop 1 fs)

-- Invariants of rows and frames

-- each row begins above n, and above the end of the previous row
abbrev pub RowsAbove : ℕ → List Row → Type 0
RowsAbove n [] = Unit {0}
RowsAbove n (r ∷ rs) = (n < r.first) × (r.first ≤ r.last) × RowsAbove r.last rs

-- the rows are in order, and do not overlap
abbrev pub RowsRise : List Row → Type 0
RowsRise [] = Unit {0}
RowsRise (r ∷ rs) = (r.first ≤ r.last) × RowsAbove r.last rs

-- no row meets the next
abbrev pub AreLongest : List Row → Type 0
AreLongest [] = Unit {0}
AreLongest (r ∷ []) = Unit {0}
AreLongest (r ∷ s ∷ rs) = (meet r s ≡ false) × AreLongest (s ∷ rs)

-- each frame ends above n, and above the end of the previous frame
abbrev pub EndsAbove : ℕ → List CompleteFrame → Type 0
EndsAbove n [] = Unit {0}
EndsAbove n (f ∷ fs) = (n < f.last) × EndsAbove f.last fs

abbrev pub EndsRise : List CompleteFrame → Type 0
EndsRise [] = Unit {0}
EndsRise (f ∷ fs) = EndsAbove f.last fs

-- a head above the first packet is the head of the remaining packets
abbrev pub IsHeadKept : Row → List Held → Type 0
IsHeadKept r left = r.head ≢ Some r.first → r.first ≢ r.last → r.head ≡ next_head r.last left

-- there is a first row, and it can be shortened
abbrev pub IsFirstShort : List Row → List Held → Type 0
IsFirstShort [] left = ⊥
IsFirstShort (r ∷ rs) left = (r.first ≤ r.last) × IsHeadKept r left

-- the frames of the first row before and after, and the rows after
abbrev pub IsShortened : List Row → List Held → Option CompleteFrame → Option CompleteFrame → List Row → Type 0
IsShortened [] left before after new = ⊥
IsShortened (r ∷ rs) left before after new = (before ≡ frame_of_row r) × (after ≡ frame_of_rest (shortened r left)) × (new ≡ with_row (shortened r left) rs)
