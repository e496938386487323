-- If a whole unit comes first, it is the lowest frame.
use Rattle.std.proofs.Common.{◌≡◌, ◌∙◌, refl, sym, ap, ℕ, subst, List, [], Option, Some, None, Bool, true, false, cond, ◌++◌, ◌+◌, ◌∷◌}
use Rattle.codec_payload_base.specs.Time.{Time}
use Rattle.codec_payload_buffer.proofs.FrameParts.{IsRun, BeginsWithHead}
use Rattle.codec_payload_buffer.proofs.RowLemmas.{leads_from}
use Rattle.codec_payload_buffer.specs.Frames.{frames, frames_after, ended_at, lowest_head, row_before, leads_to, start_or_here}
use Rattle.codec_payload_buffer.specs.Held.{Held}
use Rattle.codec_payload_buffer.specs.Scan.{first_of, open_start}
use Rattle.codec_payload_buffer.specs.Steps.{State, due_of, due_among, starts_right_after}
use Rattle.codec_payload_buffer.specs.declared.buffer.frames.CompleteFrame.{CompleteFrame}

-- the row of the previous packet continues
goes_back : (q : Held) (qs : List Held) (p : Held) (n : ℕ) → leads_to q p ≡ true → open_start (q ∷ qs) ≡ Some n → lowest_head (p ∷ row_before p (q ∷ qs)) ≡ Some n
goes_back q qs p n on start = at (leads_to q p) on
  where
    at : (b : Bool) → b ≡ true → start_or_here (lowest_head (cond b (q ∷ row_before q qs) [])) p ≡ Some n
    at true e = ap (λ (o : Option ℕ). start_or_here o p) start
    at false e = absurd (cc)

pub ends_here : (b : Bool) (o : Option ℕ) (p : Held) (later : List CompleteFrame) (n : ℕ) → b ≡ true → o ≡ Some n
    → first_of (cond b (ended_at p o) [] ++ later) ≡ Some (record { first = n; last = p.meta.seq_no.0 })
ends_here true (Some m) p later n t f = let e : m ≡ n = cc in ap (λ (k : ℕ). Some (record { first = k; last = p.meta.seq_no.0 })) e
ends_here true None p later n t f = absurd (cc)
ends_here false o p later n t f = absurd (cc)

pub goes_on : (b : Bool) (o later : List CompleteFrame) → b ≡ false → first_of (cond b o [] ++ later) ≡ first_of later
goes_on true o later f = absurd (cc)
goes_on false o later f = refl

-- a row in progress continues to its tail
pub walk : (qs : List Held) (q : Held) (ps rest : List Held) (n last : ℕ) (time : Time) → open_start (q ∷ qs) ≡ Some n → q.tail ≡ false → q.meta.time ≡ time
    → IsRun (q.meta.seq_no.0 + 1) last time ps → first_of (frames_after (q ∷ qs) (ps ++ rest)) ≡ Some (record { first = n; last = last })
walk qs q [] rest n last time start inner same run = absurd run
walk qs q (p ∷ []) rest n last time start inner same run =
    let on = leads_from q p (sym run.0) (same ∙ sym run.2) inner in
    let from : lowest_head (p ∷ row_before p (q ∷ qs)) ≡ Some n = goes_back q qs p n on start in
    ends_here p.tail (lowest_head (p ∷ row_before p (q ∷ qs))) p (frames_after (p ∷ q ∷ qs) rest) n run.3 from ∙ ap (λ (k : ℕ). Some (record { first = n; last = k })) run.1
walk qs q (p ∷ r ∷ ps) rest n last time start inner same run =
    let on = leads_from q p (sym run.0) (same ∙ sym run.1) inner in
    let from : lowest_head (p ∷ row_before p (q ∷ qs)) ≡ Some n = goes_back q qs p n on start in
    let next : IsRun (p.meta.seq_no.0 + 1) last time (r ∷ ps) = subst (λ (k : ℕ). IsRun (k + 1) last time (r ∷ ps)) (sym run.0) run.3 in
    goes_on p.tail (ended_at p (lowest_head (p ∷ row_before p (q ∷ qs)))) (frames_after (p ∷ q ∷ qs) (r ∷ ps ++ rest)) run.2 ∙ walk (q ∷ qs) p (r ∷ ps) rest n last time from run.2 run.1 next

head_starts : (p : Held) (first : ℕ) → p.head ≡ true → p.meta.seq_no.0 ≡ first → open_start (p ∷ []) ≡ Some first
head_starts p first head number = at p.head head ∙ ap Some number
  where
    at : (b : Bool) → b ≡ true → cond b (Some p.meta.seq_no.0) None ≡ Some p.meta.seq_no.0
    at true e = refl
    at false e = absurd (cc)

first_frame : (ps rest : List Held) (first last : ℕ) (time : Time) → IsRun first last time ps → BeginsWithHead ps → first_of (frames (ps ++ rest)) ≡ Some (record { first = first; last = last })
first_frame [] rest first last time run begins = absurd run
first_frame (p ∷ []) rest first last time run begins =
    ends_here p.tail (lowest_head (p ∷ [])) p (frames_after (p ∷ []) rest) first run.3 (head_starts p first begins run.0) ∙ ap (λ (k : ℕ). Some (record { first = first; last = k })) run.1
first_frame (p ∷ q ∷ ps) rest first last time run begins =
    let next : IsRun (p.meta.seq_no.0 + 1) last time (q ∷ ps) = subst (λ (k : ℕ). IsRun (k + 1) last time (q ∷ ps)) (sym run.0) run.3 in
    goes_on p.tail (ended_at p (lowest_head (p ∷ []))) (frames_after (p ∷ []) (q ∷ ps ++ rest)) run.2 ∙ walk [] p (q ∷ ps) rest first last time (head_starts p first begins run.0) run.2 run.1 next

due_from : (s : State) (fs : List CompleteFrame) (f : CompleteFrame) → first_of fs ≡ Some f → starts_right_after s.cutoff f.first ≡ true → due_among s fs ≡ Some f
due_from s [] f h starts = absurd (cc)
due_from s (g ∷ gs) f h starts =
    let e : g ≡ f = cc in
    let t : starts_right_after s.cutoff g.first ≡ true = subst (λ (x : CompleteFrame). starts_right_after s.cutoff x.first ≡ true) (sym e) starts in
    rw t h

-- so the frame is due, if it starts right after the cutoff or there is no cutoff
pub due_front : (s : State) (ps rest : List Held) (first last : ℕ) (time : Time) → s.held ≡ ps ++ rest → IsRun first last time ps → BeginsWithHead ps
    → starts_right_after s.cutoff first ≡ true → due_of s ≡ Some (record { first = first; last = last })
due_front s ps rest first last time whole run begins starts =
    due_from s (frames s.held) (record { first = first; last = last }) (ap (λ (hs : List Held). first_of (frames hs)) whole ∙ first_frame ps rest first last time run begins) starts
