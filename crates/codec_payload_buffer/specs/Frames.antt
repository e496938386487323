-- The complete frames of a set of packets.
use Rattle.std.specs.Prelude.{◌≡◌, ℕ, ◌+◌, ◌<◌, ◌≤◌, ◌&&◌, not, Bool, true, false, List, [], ◌∷◌, ◌++◌, ◌==◌, if◌then◌else◌, Option, Some, None, Contains, ◌↔◌}
use Rattle.codec_payload_base.specs.Time.{Time}
use Rattle.codec_payload_buffer.specs.Held.{Held, number_of, Rises}
use Rattle.codec_payload_buffer.specs.declared.buffer.frames.CompleteFrame.{CompleteFrame}

-- two times are equal: number and rate
abbrev pub is_same_time : Time → Time → Bool
is_same_time s t = (s.numer == t.numer) && (s.rate == t.rate)

-- q can come right before p in one frame: the number before, the same time, and no end of a unit
abbrev pub leads_to : Held → Held → Bool
leads_to q p = (number_of q + 1 == number_of p) && is_same_time q.meta.time p.meta.time && not q.tail

-- the longest row that ends right before p, latest packet first; `earlier` has the earlier packets, latest first
abbrev pub row_before : Held → List Held → List Held
row_before p [] = []
row_before p (q ∷ qs) = if leads_to q p then q ∷ row_before q qs else []

-- this number, or p's number if p begins a unit
abbrev pub start_or_here : Option ℕ → Held → Option ℕ
start_or_here (Some n) p = Some n
start_or_here None p = if p.head then Some (number_of p) else None

-- the number of the lowest head of a row, whose latest packet comes first
abbrev pub lowest_head : List Held → Option ℕ
lowest_head [] = None
lowest_head (p ∷ ps) = start_or_here (lowest_head ps) p

-- the frame from a start, if there is one, to b
abbrev pub ended_at : Held → Option ℕ → List CompleteFrame
ended_at b None = []
ended_at b (Some first) = record { first = first; last = number_of b } ∷ []

-- the frame that ends at b, if b ends a unit and its row has a head
abbrev pub frame_at : Held → List Held → List CompleteFrame
frame_at b earlier = if b.tail then ended_at b (lowest_head (b ∷ row_before b earlier)) else []

-- the frames that end in `later`, in order
abbrev pub frames_after : List Held → List Held → List CompleteFrame
frames_after earlier [] = []
frames_after earlier (p ∷ later) = frame_at p earlier ++ frames_after (p ∷ earlier) later

-- all complete frames, in order
abbrev pub frames : List Held → List CompleteFrame
frames held = frames_after [] held

-- The same in terms of the set of packets.

-- all numbers from first to b's are held, have b's time, and only b ends a unit
pub record IsRow (held : List Held) (first : ℕ) (b : Held) : Type 0 where
  pub to_end : first ≤ number_of b
  pub each : (n : ℕ) → first ≤ n → n ≤ number_of b → (p : Held) × Contains held p × (number_of p ≡ n) × (p.meta.time ≡ b.meta.time) × (n < number_of b → p.tail ≡ false)

-- the packet with this number is held and begins a unit
abbrev pub IsHeadAt : List Held → ℕ → Type 0
IsHeadAt held n = (p : Held) × Contains held p × (number_of p ≡ n) × (p.head ≡ true)

-- a complete frame: from the lowest head of all rows that end at the last packet
pub record IsFrame (held : List Held) (frame : CompleteFrame) : Type 0 where
  pub end : Held
  pub held_end : Contains held end
  pub at_end : number_of end ≡ frame.last
  pub is_tail : end.tail ≡ true
  pub row : IsRow held frame.first end
  pub begins : IsHeadAt held frame.first
  pub lowest : (n : ℕ) → IsRow held n end → IsHeadAt held n → frame.first ≤ n

-- each frame starts above n
abbrev pub StartAbove : ℕ → List CompleteFrame → Type 0
StartAbove n [] = Unit {0}
StartAbove n (f ∷ fs) = (n < f.first) × StartAbove n fs

-- the starts rise, so no frame comes twice
abbrev pub StartsRise : List CompleteFrame → Type 0
StartsRise [] = Unit {0}
StartsRise (f ∷ fs) = StartAbove f.first fs × StartsRise fs

-- each frame ends before the next one starts
abbrev pub StandApart : List CompleteFrame → Type 0
StandApart [] = Unit {0}
StandApart (f ∷ fs) = (f.first ≤ f.last) × StartAbove f.last fs × StandApart fs

-- the recursion lists exactly the complete frames of the set
abbrev pub AreFramesOfSet : Type 0
AreFramesOfSet = (held : List Held) → Rises held → (f : CompleteFrame) → Contains (frames held) f ↔ IsFrame held f

-- in the order of their starts
abbrev pub AreInOrder : Type 0
AreInOrder = (held : List Held) → Rises held → StartsRise (frames held)

-- the ends are in the same order: no two frames meet
abbrev pub AreApart : Type 0
AreApart = (held : List Held) → Rises held → StandApart (frames held)

-- no other list has these frames in order
abbrev pub AreOnlyList : Type 0
AreOnlyList = (held : List Held) → Rises held → (fs : List CompleteFrame) → StartsRise fs → ((f : CompleteFrame) → Contains fs f ↔ IsFrame held f) → fs ≡ frames held
