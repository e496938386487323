-- Packets of two parts in one buffer: no complete frame has packets of both, as their numbers lie apart.
use Rattle.std.proofs.Common.{◌≡◌, ◌∙◌, refl, sym, ap, subst, ℕ, ◌+◌, ◌<◌, ◌≤◌, ◌||◌, cond, List, [], ◌∷◌, ◌++◌, Bool, true, false, Some, None, append_assoc, append-nil, arith, eqb, length, ltb}
use Rattle.std.proofs.lemmas.Bool.Decides.{nat_tests}
use Rattle.std.proofs.lemmas.Bool.{lt-ltb}
use Rattle.codec_payload_base.specs.Time.{Time}
use Rattle.codec_payload_buffer.proofs.FrameParts.{IsPart, IsRun}
use Rattle.codec_payload_buffer.proofs.PopLemmas.{due_first, part_due}
use Rattle.codec_payload_buffer.proofs.RowLemmas.{all_above, none_between}
use Rattle.codec_payload_buffer.specs.Frames.{ended_at, frame_at, frames, frames_after, leads_to, lowest_head, row_before}
use Rattle.codec_payload_buffer.specs.Held.{AllAbove, Held, above, between, has_number, placed}
use Rattle.codec_payload_buffer.specs.Scan.{first_of}
use Rattle.codec_payload_buffer.specs.Steps.{State, due_among, due_of, starts_right_after}
use Rattle.codec_payload_codec.proofs.CaseLemmas.{by_test}
use Rattle.codec_payload_buffer.specs.declared.buffer.frames.CompleteFrame.{CompleteFrame}

-- all numbers are below a bound
abbrev pub AllUnder : ℕ → List Held → Type 0
AllUnder bound [] = Unit {0}
AllUnder bound (p ∷ ps) = (p.meta.seq_no.0 < bound) × AllUnder bound ps

pub under_back : (bound : ℕ) (xs ys : List Held) → AllUnder bound (xs ++ ys) → AllUnder bound ys
under_back bound [] ys under = under
under_back bound (x ∷ xs) ys under = under_back bound xs ys under.1

pub under_more : (b c : ℕ) (ps : List Held) → b ≤ c → AllUnder b ps → AllUnder c ps
under_more b c [] le under = tt
under_more b c (p ∷ ps) le under = (omega (arith, le, under.0), under_more b c ps le under.1)

-- a packet far below does not lead to one
far_apart : (bound : ℕ) (q p : Held) → q.meta.seq_no.0 < bound → bound < p.meta.seq_no.0 → leads_to q p ≡ false
far_apart bound q p low high = grind (arith, nat_tests, low, high)

row_far : (bound : ℕ) (p : Held) (es : List Held) → bound < p.meta.seq_no.0 → AllUnder bound es → row_before p es ≡ []
row_far bound p [] high under = refl
row_far bound p (e ∷ es) high under = let far = far_apart bound e p under.0 high in rw far refl

row_near : (bound : ℕ) (p : Held) (ds es : List Held) → bound < p.meta.seq_no.0 → AllAbove bound ds → AllUnder bound es → row_before p (ds ++ es) ≡ row_before p ds
row_near bound p [] es high over under = row_far bound p es high under
row_near bound p (d ∷ ds) es high over under =
    ap (λ (ps : List Held). cond (leads_to d p) (d ∷ ps) []) (row_near bound d ds es over.0 over.1 under)

-- frames of later packets
frames_near : (bound : ℕ) (ds es new : List Held) → AllAbove bound ds → AllUnder bound es → AllAbove bound new → frames_after (ds ++ es) new ≡ frames_after ds new
frames_near bound ds es [] over under high = refl
frames_near bound ds es (p ∷ new) over under high =
    ap (λ (ps : List Held). cond p.tail (ended_at p (lowest_head (p ∷ ps))) [] ++ frames_after (p ∷ ds ++ es) new) (row_near bound p ds es high.0 over under)
    ∙ ap (λ (fs : List CompleteFrame). frame_at p ds ++ fs) (frames_near bound (p ∷ ds) es new (high.0, over) under high.1)

frames_joined : (bound : ℕ) (es old new : List Held) → AllUnder bound es → AllUnder bound old → AllAbove bound new → frames_after es (old ++ new) ≡ frames_after es old ++ frames_after [] new
frames_joined bound es [] new earlier under over = frames_near bound [] es new tt earlier over
frames_joined bound es (p ∷ old) new earlier under over =
    ap (λ (fs : List CompleteFrame). frame_at p es ++ fs) (frames_joined bound (p ∷ es) old new (under.0, earlier) under.1 over)
    ∙ sym (append_assoc (frame_at p es) (frames_after (p ∷ es) old) (frames_after [] new))

pub joined : (bound : ℕ) (old new : List Held) → AllUnder bound old → AllAbove bound new → frames (old ++ new) ≡ frames old ++ frames new
joined bound old new under over = frames_joined bound [] old new tt under over

-- The frame that is due

-- if nothing waits, the first frame is due
pub due_at_once : (s : State) (f : CompleteFrame) (fs : List CompleteFrame) → s.hold_back ≡ 0 → due_among s (f ∷ fs) ≡ Some f
due_at_once s f fs none =
    ap (λ (h : ℕ). cond (starts_right_after s.cutoff f.first || ltb h (length (f ∷ fs))) (Some f) None) none
    ∙ (ap (λ (b : Bool). cond (starts_right_after s.cutoff f.first || b) (Some f) None) (lt-ltb 0 (length (f ∷ fs)) (omega arith))
    ∙ ap (λ (b : Bool). cond b (Some f) None) (or_true (starts_right_after s.cutoff f.first)))
  where
    or_true : (b : Bool) → (b || true) ≡ true
    or_true true = refl
    or_true false = refl

-- the earlier packets alone, and the later ones alone, if nothing waits
abbrev pub earlier_in : List Held → State → State
earlier_in old s = record s { held = old; hold_back = 0 }

abbrev pub later_in : List Held → State → State
later_in new s = record s { held = new; cutoff = None; hold_back = 0 }

-- the frame that is due is one of the earlier packets, or these have no frame and it is one of the later packets
pub data IsDueIn (old new : List Held) (s : State) (f : CompleteFrame) : Type 0 where
  in_earlier : due_of (earlier_in old s) ≡ Some f → IsDueIn old new s f
  in_later : frames old ≡ [] → due_of (later_in new s) ≡ Some f → IsDueIn old new s f

first_is : (g f : CompleteFrame) (fs : List CompleteFrame) → first_of (g ∷ fs) ≡ Some f → g ≡ f
first_is g f fs e = cc

pub due_in : (bound : ℕ) (old new : List Held) (s : State) (f : CompleteFrame) → s.held ≡ old ++ new → AllUnder bound old → AllAbove bound new → due_of s ≡ Some f → IsDueIn old new s f
due_in bound old new s f held under over due =
    let all : due_among s (frames old ++ frames new) ≡ Some f =
    ap (due_among s) (sym (ap frames held ∙ joined bound old new under over)) ∙ due in
    by_frames (frames old) refl (frames new) refl (due_first s (frames old ++ frames new) f all)
  where
    by_frames : (fs : List CompleteFrame) → frames old ≡ fs → (gs : List CompleteFrame) → frames new ≡ gs → first_of (fs ++ gs) ≡ Some f → IsDueIn old new s f
    by_frames (g ∷ fs) is gs is_new first =
        let same : g ≡ f = first_is g f (fs ++ gs) first in
        in_earlier (ap (due_among (earlier_in old s)) is ∙ (due_at_once (earlier_in old s) g fs refl ∙ ap (λ (x : CompleteFrame). Some x) same))
    by_frames [] is (g ∷ gs) is_new first =
        let same : g ≡ f = first_is g f gs first in
        in_later is (ap (due_among (later_in new s)) is_new ∙ (due_at_once (later_in new s) g gs refl ∙ ap (λ (x : CompleteFrame). Some x) same))
    by_frames [] is [] is_new first = absurd (cc)

-- Its packets

last_under : (bound first last : ℕ) (time : Time) (ps after : List Held) → IsRun first last time ps → AllUnder bound (ps ++ after) → last < bound
last_under bound first last time [] after run under = absurd run
last_under bound first last time (p ∷ []) after run under = omega (arith, run.1, under.0)
last_under bound first last time (p ∷ q ∷ ps) after run under = last_under bound (first + 1) last time (q ∷ ps) after run.3 under.1

-- the last number of the frame that is due is one of the held packets
pub due_under : (bound : ℕ) (s : State) (f : CompleteFrame) → AllUnder bound s.held → due_of s ≡ Some f → f.last < bound
due_under bound s f under due =
    let part = part_due s f due in
    let is : IsPart s.held f part.0 part.1 = part.2 in
    last_under bound f.first f.last is.time part.0 part.1 is.run (under_back bound is.before (part.0 ++ part.1) (subst (AllUnder bound) is.whole under))

pub between_joined : (first last : ℕ) (old new : List Held) → between first last (old ++ new) ≡ between first last old ++ between first last new
between_joined first last [] new = refl
between_joined first last (p ∷ old) new = let rest = between_joined first last old new in grind (arith, nat_tests, rest)

pub above_joined : (last : ℕ) (old new : List Held) → above last (old ++ new) ≡ above last old ++ above last new
above_joined last [] new = refl
above_joined last (p ∷ old) new = let rest = above_joined last old new in grind (arith, nat_tests, rest)

-- nothing of the earlier packets is above a later number, nor from one on
pub none_above : (bound last : ℕ) (old : List Held) → bound ≤ last → AllUnder bound old → above last old ≡ []
none_above bound last [] le under = refl
none_above bound last (p ∷ old) le under = let rest = none_above bound last old le under.1 in grind (arith, nat_tests, rest, le, under.0)

pub none_from : (bound first last : ℕ) (old : List Held) → bound ≤ first → AllUnder bound old → between first last old ≡ []
none_from bound first last [] le under = refl
none_from bound first last (p ∷ old) le under = let rest = none_from bound first last old le under.1 in grind (arith, nat_tests, rest, le, under.0)

-- a frame of the earlier packets
pub between_earlier : (bound first last : ℕ) (old new : List Held) → last < bound → AllAbove bound new → between first last (old ++ new) ≡ between first last old
between_earlier bound first last old new low over =
    between_joined first last old new ∙ (ap (λ (ps : List Held). between first last old ++ ps) (none_between first last bound new (omega (arith, low)) over)
    ∙ append-nil (between first last old))

pub above_earlier : (bound last : ℕ) (old new : List Held) → last < bound → AllAbove bound new → above last (old ++ new) ≡ above last old ++ new
above_earlier bound last old new low over =
    above_joined last old new ∙ ap (λ (ps : List Held). above last old ++ ps) (all_above last new (over_lower bound last new (omega (arith, low)) over))
  where
    over_lower : (b c : ℕ) (ps : List Held) → c ≤ b → AllAbove b ps → AllAbove c ps
    over_lower b c [] le over = tt
    over_lower b c (p ∷ ps) le over = (omega (arith, le, over.0), over_lower b c ps le over.1)

-- a frame of the later packets
pub between_later : (bound first last : ℕ) (old new : List Held) → bound ≤ first → AllUnder bound old → between first last (old ++ new) ≡ between first last new
between_later bound first last old new le under =
    between_joined first last old new ∙ ap (λ (ps : List Held). ps ++ between first last new) (none_from bound first last old le under)

pub above_later : (bound last : ℕ) (old new : List Held) → bound ≤ last → AllUnder bound old → above last (old ++ new) ≡ above last new
above_later bound last old new le under = above_joined last old new ∙ ap (λ (ps : List Held). ps ++ above last new) (none_above bound last old le under)

-- Pushes of later packets

pub placed_later : (bound : ℕ) (p : Held) (old new : List Held) → bound < p.meta.seq_no.0 → AllUnder bound old → placed p (old ++ new) ≡ old ++ placed p new
placed_later bound p [] new high under = refl
placed_later bound p (q ∷ old) new high under =
    let rest = placed_later bound p old new high under.1 in
    let before : ltb q.meta.seq_no.0 p.meta.seq_no.0 ≡ true = grind (arith, nat_tests, high, under.0) in
    rw before (ap (λ (ps : List Held). q ∷ ps) rest)

pub has_later : (bound n : ℕ) (old new : List Held) → bound < n → AllUnder bound old → has_number n (old ++ new) ≡ has_number n new
has_later bound n [] new high under = refl
has_later bound n (q ∷ old) new high under =
    let rest = has_later bound n old new high under.1 in
    let other : eqb q.meta.seq_no.0 n ≡ false = grind (arith, nat_tests, high, under.0) in
    rw other rest

pub over_placed : (bound : ℕ) (p : Held) (hs : List Held) → bound < p.meta.seq_no.0 → AllAbove bound hs → AllAbove bound (placed p hs)
over_placed bound p [] high over = (high, tt)
over_placed bound p (q ∷ qs) high over =
    by_test (ltb q.meta.seq_no.0 p.meta.seq_no.0) (λ b. AllAbove bound (cond b (q ∷ placed p qs) (p ∷ q ∷ qs))) (λ e. (over.0, over_placed bound p qs high over.1)) (λ e. (high, over))

pub under_placed : (bound : ℕ) (p : Held) (hs : List Held) → p.meta.seq_no.0 < bound → AllUnder bound hs → AllUnder bound (placed p hs)
under_placed bound p [] low under = (low, tt)
under_placed bound p (q ∷ qs) low under =
    by_test (ltb q.meta.seq_no.0 p.meta.seq_no.0) (λ b. AllUnder bound (cond b (q ∷ placed p qs) (p ∷ q ∷ qs))) (λ e. (under.0, under_placed bound p qs low under.1)) (λ e. (low, under))

pub under_above : (bound last : ℕ) (hs : List Held) → AllUnder bound hs → AllUnder bound (above last hs)
under_above bound last [] under = tt
under_above bound last (p ∷ ps) under =
    by_test (ltb last p.meta.seq_no.0) (λ b. AllUnder bound (cond b (p ∷ above last ps) (above last ps))) (λ e. (under.0, under_above bound last ps under.1)) (λ e. under_above bound last ps under.1)
