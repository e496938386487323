-- What notes say, one after the other, is what a unit of them says.
use Rattle.std.proofs.Common.{◌≡◌, ◌∙◌, refl, ap, ℕ, ◌<◌, ◌≤◌, ◌-◌, ◌||◌, [], ◌∷◌, List, Bool, true, false, cond, leb, ltb, min, Option, None, arith}
use Rattle.std.proofs.lemmas.Bool.Decides.{nat_tests}
use Rattle.codec_payload_keyframes.specs.declared.references.Referring.{Referring}
use Rattle.codec_payload_references.specs.Frames.{Following, Frame, with_frames}
use Rattle.codec_payload_references.specs.Notes.{above, below, from, up_to}
use Rattle.codec_payload_references.specs.Units.{AreReadings, Collects, differences_after, frames_of, frames_with, is_any_unread, is_unread, references_so_far, referring_of, with_frame_of, with_reading}
use Rattle.codec_payload_references.specs.declared.notes.HeldNote.{HeldNote}
use Rattle.codec_payload_references.specs.declared.unit.Reading.{Reading}
use Rattle.codec_payload_references.specs.declared.unit.Reading.TheVariants as readings
use Rattle.codec_payload_references.specs.declared.unit.UnitSoFar.{UnitSoFar}

pub record Collected (u : UnitSoFar) (r : Following) (hs : List HeldNote) (v : UnitSoFar) (s : Following) : Type 0 where
  pub readings : List Reading
  pub reads : AreReadings r hs readings s
  pub frames : v.frames ≡ with_frames u.frames (frames_of readings)
  pub unread : v.is_unread ≡ (u.is_unread || is_any_unread readings)
  pub differences : v.differences ≡ differences_after u.differences hs

frames_more : (u : Option Referring) (x : Reading) (fs : List Frame) → with_frames (frames_with u x) fs ≡ with_frames u (with_frame_of x fs)
frames_more u readings.Absent fs = refl
frames_more u readings.Unread fs = refl
frames_more u (readings.Frame n d) fs = refl

or_assoc : (a b c : Bool) → ((a || b) || c) ≡ (a || (b || c))
or_assoc true b c = refl
or_assoc false b c = refl

or_false : (a : Bool) → a ≡ (a || false)
or_false true = refl
or_false false = refl

pub collected : (u : UnitSoFar) (r : Following) (hs : List HeldNote) (v : UnitSoFar) (s : Following) → Collects u r hs v s → Collected u r hs v s
collected u r [] v s c = record {
  readings = [];
  reads = c.1;
  frames = ap (λ (w : UnitSoFar). w.frames) c.0;
  unread = ap (λ (w : UnitSoFar). w.is_unread) c.0 ∙ or_false u.is_unread;
  differences = ap (λ (w : UnitSoFar). w.differences) c.0;
}
collected u r (h ∷ hs) v s (x, between, reading, rest) =
    let later = collected (with_reading u h.note.layer_frame x) between hs v s rest in
    record {
      readings = x ∷ later.readings;
      reads = (between, reading, later.reads);
      frames = later.frames ∙ frames_more u.frames x (frames_of later.readings);
      unread = later.unread ∙ or_assoc u.is_unread (is_unread x) (is_any_unread later.readings);
      differences = later.differences;
    }

pub descriptor_is : (v : UnitSoFar) (xs : List Reading) → v.frames ≡ with_frames None (frames_of xs) → v.is_unread ≡ is_any_unread xs → (references_so_far v).descriptor ≡ referring_of xs
descriptor_is v xs frames unread = rw (frames, unread) refl

-- ---- the notes before a unit, and those of it

pub below_is : (first last k : ℕ) (hs : List HeldNote) → 0 < first → k ≡ min last (first - 1) → up_to k hs ≡ below first (up_to last hs)
below_is first last k [] some is = refl
below_is first last k (h ∷ hs) some is = by (below_is first last k hs some is) (leb h.number k) (leb h.number last) refl refl
  where
    by : up_to k hs ≡ below first (up_to last hs) → (b c : Bool) → leb h.number k ≡ b → leb h.number last ≡ c
        → cond b (h ∷ up_to k hs) [] ≡ below first (cond c (h ∷ up_to last hs) [])
    by later true true e f =
        let t : ltb h.number first ≡ true = grind (arith, nat_tests, e, is, some) in
        rw t (ap (λ (zs : List HeldNote). h ∷ zs) later)
    by later true false e f = absurd (grind (arith, nat_tests, e, f, is, some))
    by later false true e f = let t : ltb h.number first ≡ false = grind (arith, nat_tests, e, f, is, some) in rw t refl
    by later false false e f = refl

pub from_is : (first last k : ℕ) (hs : List HeldNote) → 0 < first → k ≡ min last (first - 1) → up_to last (above k hs) ≡ from first (up_to last hs)
from_is first last k [] some is = refl
from_is first last k (h ∷ hs) some is = by (from_is first last k hs some is) (leb h.number k) (leb h.number last) refl refl
  where
    by : up_to last (above k hs) ≡ from first (up_to last hs) → (b c : Bool) → leb h.number k ≡ b → leb h.number last ≡ c → up_to last (cond b (above k hs) (h ∷ hs)) ≡ from first (cond c (h ∷ up_to last hs) [])
    by later true true e f =
        let t : ltb h.number first ≡ true = grind (arith, nat_tests, e, is, some) in
        rw t later
    by later true false e f = absurd (grind (arith, nat_tests, e, f, is, some))
    by later false true e f = let t : ltb h.number first ≡ false = grind (arith, nat_tests, e, f, is, some) in rw (f, t) refl
    by later false false e f = rw f refl

pub rest_is : (last k : ℕ) (hs : List HeldNote) → k ≤ last → above last (above k hs) ≡ above last hs
rest_is last k [] le = refl
rest_is last k (h ∷ hs) le = by (rest_is last k hs le) (leb h.number k) refl
  where
    by : above last (above k hs) ≡ above last hs → (b : Bool) → leb h.number k ≡ b → above last (cond b (above k hs) (h ∷ hs)) ≡ above last (h ∷ hs)
    by later true e = let t : leb h.number last ≡ true = grind (arith, nat_tests, e, le) in rw t later
    by later false e = refl

pub below_zero : (hs : List HeldNote) → below 0 hs ≡ []
below_zero [] = refl
below_zero (h ∷ hs) = let t : ltb h.number 0 ≡ false = grind (arith, nat_tests) in rw t refl

pub from_zero : (hs : List HeldNote) → from 0 hs ≡ hs
from_zero [] = refl
from_zero (h ∷ hs) = let t : ltb h.number 0 ≡ false = grind (arith, nat_tests) in rw t refl
