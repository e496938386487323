-- The frame that is due, and the buffer after it has left.
use Rattle.std.proofs.Common.{◌≡◌, ◌≢◌, inl, inr, Err, ℕ, ◌<◌, ◌≤◌, ◌+◌, [], ◌∷◌, ◌++◌, List, length, ap, sym, ◌∙◌, arith, cond, Some, None, ltb, ◌||◌}
use Rattle.std.proofs.lemmas.List.{length-append, length-map}
use Rattle.std.proofs.lemmas.Bool.Decides.{nat_tests}
use Rattle.codec_payload_buffer.specs.declared.buffer.frames.CompleteFrame.{CompleteFrame}
use Rattle.codec_payload_buffer.specs.Held.{Held, Rises, AllAbove, between, above}
use Rattle.codec_payload_buffer.specs.Frames.{frames}
use Rattle.codec_payload_buffer.proofs.FrameParts.{IsPart, IsRun}
use Rattle.codec_payload_base.specs.Time.{Time}
use Rattle.codec_payload_base.specs.declared.error.PacketError.{PacketError}
use Rattle.codec_payload_base.specs.declared.error.PacketError.TheVariants as faults
use Rattle.codec_payload_metadata.specs.Release.{Release}
use Rattle.codec_payload_buffer.specs.Scan.{first_of}
use Rattle.codec_payload_buffer.specs.Steps.{State, IsSound, due_of, due_among, starts_right_after, packets_of_frame, AllOfTime, metas_of, Passes, none, one_more, PassesOver, Releases, TakesFrame}
use Rattle.codec_payload_metadata.specs.declared.meta.RtpMeta.{RtpMeta}
use Rattle.std.proofs.Common.{zero, suc, get_or, subst}
use Rattle.codec_payload_codec.proofs.CaseLemmas.{by_test}
use Rattle.codec_payload_buffer.proofs.RowLemmas.{first_split, first_le_last, part_between, run_length}

pub due_first : (s : State) (fs : List CompleteFrame) (f : CompleteFrame) → due_among s fs ≡ Some f → first_of fs ≡ Some f
due_first s [] f h = absurd (cc)
due_first s (g ∷ gs) f h =
    by_test (starts_right_after s.cutoff g.first || ltb s.hold_back (length (g ∷ gs))) (λ b. cond b (Some g) None ≡ Some f → Some g ≡ Some f)
    (λ e h. h) (λ e h. absurd (cc)) h

-- the frame that is due is the lowest
pub due_is_first : (s : State) (f : CompleteFrame) → due_of s ≡ Some f → first_of (frames s.held) ≡ Some f
due_is_first s f h = due_first s (frames s.held) f h

-- the packets of the frame that is due stand together
pub part_due : (s : State) (f : CompleteFrame) → due_of s ≡ Some f → (packets after : List Held) × IsPart s.held f packets after
part_due s f h = first_split [] s.held f (due_is_first s f h)

pub order_due : (s : State) (f : CompleteFrame) → due_of s ≡ Some f → f.first ≤ f.last
order_due s f h = let part = part_due s f h in first_le_last part.0 f.first f.last part.2.time part.2.run

above_above : (last m : ℕ) (hs : List Held) → AllAbove m hs → AllAbove m (above last hs)
above_above last m [] a = tt
above_above last m (p ∷ ps) a = by_test (ltb last p.meta.seq_no.0) (λ b. AllAbove m (cond b (p ∷ above last ps) (above last ps)))
    (λ e. (a.0, above_above last m ps a.1)) (λ e. above_above last m ps a.1)

pub above_rises : (last : ℕ) (hs : List Held) → Rises hs → Rises (above last hs)
above_rises last [] r = tt
above_rises last (p ∷ ps) r = by_test (ltb last p.meta.seq_no.0) (λ b. Rises (cond b (p ∷ above last ps) (above last ps)))
    (λ e. (above_above last p.meta.seq_no.0 ps r.0, above_rises last ps r.1)) (λ e. above_rises last ps r.1)

pub above_is_above : (last : ℕ) (hs : List Held) → AllAbove last (above last hs)
above_is_above last [] = tt
above_is_above last (p ∷ ps) = by_test (ltb last p.meta.seq_no.0) (λ b. AllAbove last (cond b (p ∷ above last ps) (above last ps)))
    (λ e. (grind (arith, nat_tests, e), above_is_above last ps)) (λ e. above_is_above last ps)

pub above_shorter : (last : ℕ) (hs : List Held) → length (above last hs) ≤ length hs
above_shorter last [] = omega arith
above_shorter last (p ∷ ps) = grind (arith, nat_tests, above_shorter last ps)

not_empty : (packets : List Held) (first last : ℕ) (time : Time) → IsRun first last time packets → 0 < length packets
not_empty [] first last time run = absurd run
not_empty (p ∷ ps) first last time run = omega arith

-- at least one packet leaves with the frame
pub due_shorter : (s : State) (f : CompleteFrame) → Rises s.held → due_of s ≡ Some f → length (above f.last s.held) < length s.held
due_shorter s f r h =
    let part = part_due s f h in
    let split = part_between part.2.before part.0 part.1 f.first f.last part.2.time part.2.run (rw (← part.2.whole) r) in
    let some : 0 < length part.0 = not_empty part.0 f.first f.last part.2.time part.2.run in
    rw part.2.whole (rw split.beyond (omega (arith, some, length-append part.2.before (part.0 ++ part.1), length-append part.0 part.1)))

pub passes_shorter : (s t : State) → Rises s.held → PassesOver s t → length t.held < length s.held
passes_shorter s t r p = rw p.left (due_shorter s p.frame r p.is_due)

-- a frame that is released or refused takes packets with it
pub release_shorter : (s t : State) (r : Release) → Rises s.held → Releases s r t → length t.held < length s.held
release_shorter s t r rises out = rw out.left (due_shorter s out.frame rises out.is_due)

pub refusal_shorter : (s t : State) (fault : PacketError) → Rises s.held → TakesFrame s (Err fault) t → fault ≢ faults.OutOfMemory → length t.held < length s.held
refusal_shorter s t fault rises (inl stall) other = absurd (other stall.0)
refusal_shorter s t fault rises (inr out) other = rw out.left (due_shorter s out.frame rises out.is_due)

-- if no frame is due, no frame is skipped, and no frame is due afterwards
pub nothing_passed : (s t : State) (over : List CompleteFrame) (f : CompleteFrame) → due_of s ≡ None → Passes s over t → due_of t ≡ Some f → ⊥
nothing_passed s t over f waits none due = cc
nothing_passed s u over f waits (one_more passes passed) due = nothing_passed s _ _ passed.frame waits passes passed.is_due

run_times : (packets : List Held) (first last : ℕ) (time : Time) → IsRun first last time packets → AllOfTime time packets
run_times [] first last time run k d l = absurd run
run_times (p ∷ []) first last time run zero d l = run.2
run_times (p ∷ []) first last time run (suc k) d l = absurd (omega arith)
run_times (p ∷ q ∷ ps) first last time run zero d l = run.1
run_times (p ∷ q ∷ ps) first last time run (suc k) d l = run_times (q ∷ ps) (first + 1) last time run.3 k d (omega arith)

-- the packets of the frame that is due are there, and have one time
pub due_packets : (s : State) (f : CompleteFrame) → Rises s.held → due_of s ≡ Some f → (time : Time) × AllOfTime time (packets_of_frame s f) × (0 < length (packets_of_frame s f))
due_packets s f r h =
    let part = part_due s f h in
    let split = part_between part.2.before part.0 part.1 f.first f.last part.2.time part.2.run (rw (← part.2.whole) r) in
    let inside : packets_of_frame s f ≡ part.0 = ap (between f.first f.last) part.2.whole ∙ split.inside in
    (part.2.time, rw inside (run_times part.0 f.first f.last part.2.time part.2.run), rw inside (not_empty part.0 f.first f.last part.2.time part.2.run))

pub due_metas : (s : State) (f : CompleteFrame) (metas : List RtpMeta) → Rises s.held → due_of s ≡ Some f → metas ≡ metas_of (packets_of_frame s f) → 0 < length metas
due_metas s f metas r h is = omega (arith, (due_packets s f r h).2, ap length is, length-map (packets_of_frame s f) (λ (p : Held). p.meta))

first_time : (ps : List Held) (m : RtpMeta) (time : Time) → AllOfTime time ps → 0 < length ps → m ≡ get_or (metas_of ps) 0 m → time ≡ m.time
first_time [] m time all some is = absurd (omega arith)
first_time (p ∷ ps) m time all some is = sym (ap (λ (x : RtpMeta). x.time) is ∙ all 0 p (omega arith))

-- and their numbers follow one another
pub due_whole : (s : State) (f : CompleteFrame) → Rises s.held → due_of s ≡ Some f → f.last + 1 ≡ f.first + length (packets_of_frame s f)
due_whole s f r h =
    let part = part_due s f h in
    let split = part_between part.2.before part.0 part.1 f.first f.last part.2.time part.2.run (rw (← part.2.whole) r) in
    let inside : packets_of_frame s f ≡ part.0 = ap (between f.first f.last) part.2.whole ∙ split.inside in
    rw inside (run_length part.0 f.first f.last part.2.time part.2.run)

-- their time is the time of the first packet
pub due_time : (s : State) (f : CompleteFrame) (metas : List RtpMeta) (m : RtpMeta) → Rises s.held → due_of s ≡ Some f → metas ≡ metas_of (packets_of_frame s f)
    → m ≡ get_or metas 0 m → AllOfTime m.time (packets_of_frame s f)
due_time s f metas m r h is first =
    let packets = due_packets s f r h in
    let same = first_time (packets_of_frame s f) m packets.0 packets.1 packets.2 (first ∙ ap (λ (xs : List RtpMeta). get_or xs 0 m) is) in
    subst (λ (t : Time). AllOfTime t (packets_of_frame s f)) same packets.1

-- the buffer without the packets up to a number is sound
pub sound_left : (s t : State) (last : ℕ) → IsSound s → t.held ≡ above last s.held → t.cutoff ≡ Some last → t.limit ≡ s.limit → IsSound t
sound_left s t last sound held cutoff limit = record {
  rises = rw held (above_rises last s.held sound.rises);
  above = rw (cutoff, held) (above_is_above last s.held);
  few = rw (held, limit) (omega (arith, sound.few, above_shorter last s.held));
}
