-- Senders that send their pictures in order, and the numbers between pictures.
use Rattle.std.specs.Prelude.{◌≡◌, ◌⊎◌, ℕ, suc, ◌+◌, ◌*◌, ◌%◌, ◌<◌, ◌≤◌, Bool, false, true, List, [], ◌∷◌, Option, Some, None, IfSome}
use Rattle.codec_payload_edges.specs.Edges.{ids_of}
use Rattle.codec_payload_edges.specs.Pictures.{Pictures, checked, distrusted, heard, no_edges, with_noted}
use Rattle.codec_payload_edges.specs.declared.edge.Edge.{Edge}
use Rattle.codec_payload_edges.specs.declared.pictures.Between.{Between}

-- ---- what is called

-- a packet with an edge that was stored
pub record Stored : Type 0 where
  pub number : ℕ
  pub edge : Edge

-- a call
pub data Call : Type 0 where
  Hears : Stored → Call
  Checks : ℕ → Call
  Notes : Between → Call
  Distrusts : Call
  Forgets : Call

abbrev pub after_call : Call → Pictures → Pictures
after_call (Hears x) s = (heard x.number x.edge s).0
after_call (Checks n) s = checked n s
after_call (Notes range) s = with_noted range s
after_call Distrusts s = distrusted s
after_call Forgets s = no_edges

-- the state after calls, the latest of which is the first of the list
abbrev pub after_calls : List Call → Pictures
after_calls [] = no_edges
after_calls (call ∷ calls) = after_call call (after_calls calls)

-- the packets that were stored since the sender began
abbrev pub stored_in : List Call → List Stored
stored_in [] = []
stored_in (Hears x ∷ calls) = x ∷ stored_in calls
stored_in (Checks n ∷ calls) = stored_in calls
stored_in (Notes range ∷ calls) = stored_in calls
stored_in (Distrusts ∷ calls) = stored_in calls
stored_in (Forgets ∷ calls) = []

abbrev pub IsAmong : Stored → List Stored → Type 0
IsAmong x [] = ⊥
IsAmong x (y ∷ ys) = (x ≡ y) ⊎ IsAmong x ys

-- ---- the rule

-- one packet ends a picture, another one begins the next picture, and their numbers differ by 2 to 128
pub record IsBetween (xs : List Stored) (range : Between) : Type 0 where
  pub last : Edge
  pub first : Edge
  pub last_came : IsAmong (record { number = range.after; edge = last }) xs
  pub first_came : IsAmong (record { number = range.before; edge = first }) xs
  pub ends : last.ends ≡ true
  pub begins : first.begins ≡ true
  pub same_width : ids_of last.width ≡ ids_of first.width
  pub follows : (last.id + 1) % ids_of last.width ≡ first.id % ids_of last.width
  pub some : range.after + 2 ≤ range.before
  pub few : range.before ≤ range.after + 128

-- whatever was called before, the numbers that a packet finds are between two such packets
abbrev pub AreBetweenPictures : Type 0
AreBetweenPictures =
    (calls : List Call) (x : Stored)
    → IfSome ((heard x.number x.edge (after_calls calls)).1).before (IsBetween (x ∷ stored_in calls))
    × IfSome ((heard x.number x.edge (after_calls calls)).1).after (IsBetween (x ∷ stored_in calls))

-- ---- senders

-- What a sender sends: of which picture the packet with a number is, if it carries media, where pictures are counted in the order of
-- sending; the id of each picture, which is sent modulo the number of ids; and by how much it rises at most from a picture to the next
-- one
pub record Sender : Type 0 where
  pub picture_of : ℕ → Option ℕ
  pub id_of : ℕ → ℕ
  pub step : ℕ

-- Pictures are sent in order: the packets of a later picture have higher numbers; and of each picture that was counted a packet was
-- sent. Ids rise from each picture to the next one
pub record SendsInOrder (s : Sender) : Type 0 where
  pub in_order : (m n i k : ℕ) → m < n → s.picture_of m ≡ Some i → s.picture_of n ≡ Some k → i ≤ k
  pub each_sent : (m n i j k : ℕ) → s.picture_of m ≡ Some i → s.picture_of n ≡ Some k → i < j → j < k → (q : ℕ) × (s.picture_of q ≡ Some j)
  pub ids_rise : (i : ℕ) → s.id_of i < s.id_of (suc i)
  pub ids_near : (i : ℕ) → s.id_of (suc i) ≤ s.id_of i + s.step

-- a packet of a sender: the edge has the id of its picture, in any width in which ids rise by at most the 128th part of all ids: by 1 for
-- 7 bits (as RFC 7741 and RFC 9628, section 4.2, require of all PictureIDs), by 256 for 15 bits, and by 512 for 16 bits. The first
-- packet of a picture has the lowest number, the last packet the highest one
pub record IsOf (s : Sender) (x : Stored) : Type 0 where
  pub picture : ℕ
  pub is_media : s.picture_of x.number ≡ Some picture
  pub id : x.edge.id % ids_of x.edge.width ≡ s.id_of picture % ids_of x.edge.width
  pub near : s.step * 128 ≤ ids_of x.edge.width
  pub is_first : x.edge.begins ≡ true → (n : ℕ) → n < x.number → s.picture_of n ≡ Some picture → ⊥
  pub is_last : x.edge.ends ≡ true → (n : ℕ) → x.number < n → s.picture_of n ≡ Some picture → ⊥

abbrev pub AreOf : Sender → List Stored → Type 0
AreOf s [] = Unit {0}
AreOf s (x ∷ xs) = IsOf s x × AreOf s xs

-- no packet with a number between carries media
abbrev pub CarriesNone : Sender → Between → Type 0
CarriesNone s range = (n : ℕ) → range.after < n → n < range.before → s.picture_of n ≡ None

-- For each sender that sends in order, and any of its packets, in any order: the numbers that a packet finds carry no media
abbrev pub CarryNoMedia : Type 0
CarryNoMedia =
    (s : Sender) (calls : List Call) (x : Stored) → SendsInOrder s → AreOf s (x ∷ stored_in calls)
    → IfSome ((heard x.number x.edge (after_calls calls)).1).before (CarriesNone s)
    × IfSome ((heard x.number x.edge (after_calls calls)).1).after (CarriesNone s)

-- Each packet between two packets with media carries media
abbrev pub HasMediaAlone : Sender → Type 0
HasMediaAlone s = (m n k i j : ℕ) → m < n → n < k → s.picture_of m ≡ Some i → s.picture_of k ≡ Some j → (picture : ℕ) × (s.picture_of n ≡ Some picture)

-- Of such a sender nothing is ever found
abbrev pub FindsNothing : Type 0
FindsNothing =
    (s : Sender) (calls : List Call) (x : Stored) → SendsInOrder s → HasMediaAlone s → AreOf s (x ∷ stored_in calls)
    → (((heard x.number x.edge (after_calls calls)).1).before ≡ None) × (((heard x.number x.edge (after_calls calls)).1).after ≡ None)
