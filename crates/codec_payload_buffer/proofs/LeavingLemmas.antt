-- Packets that leave in pops: the packets of the frames that a pop takes are the packets that were held before it.
use Rattle.std.proofs.Common.{◌≡◌, ◌≢◌, ◌∙◌, refl, ap, sym, ℕ, ◌+◌, ◌-◌, ◌<◌, ◌≤◌, List, [], ◌∷◌, ◌++◌, true, Option, Some, None, length, arith, cond, ltb, Result, Err, inl, inr}
use Rattle.std.proofs.lemmas.Bool.Decides.{nat_tests}
use Rattle.codec_payload_codec.proofs.CaseLemmas.{by_test}
use Rattle.codec_payload_base.specs.Time.{Time}
use Rattle.codec_payload_base.specs.declared.error.PacketError.{PacketError}
use Rattle.codec_payload_base.specs.declared.error.PacketError.TheVariants as faults
use Rattle.codec_payload_buffer.specs.Held.{Held, AllAbove, IsAboveCutoff, above, between}
use Rattle.codec_payload_buffer.specs.Blanks.{released_packets}
use Rattle.codec_payload_buffer.specs.Leaving.{left_of, packets_in, refused_by, refused_in}
use Rattle.codec_payload_metadata.specs.Release.{Release}
use Rattle.codec_payload_buffer.specs.Steps.{State, IsSound, Passes, PassesOver, Pops, TakesFrame, none, one_more, due_of, packets_of_frame}
use Rattle.codec_payload_buffer.specs.declared.buffer.frames.CompleteFrame.{CompleteFrame}
use Rattle.codec_payload_buffer.specs.declared.buffer.leaving.Left.{Left}
use Rattle.codec_payload_buffer.proofs.BlankLemmas.{parts_within}
use Rattle.codec_payload_buffer.proofs.FrameParts.{IsRun}
use Rattle.codec_payload_buffer.proofs.PopLemmas.{order_due, part_due, sound_left}
use Rattle.codec_payload_buffer.proofs.RowLemmas.{above_all}

-- n is above the cutoff, if there is one
abbrev IsOver : Option ℕ → ℕ → Type 0
IsOver None n = Unit {0}
IsOver (Some c) n = c < n

first_over : (c : ℕ) (packets after : List Held) (first last : ℕ) (time : Time) → IsRun first last time packets → AllAbove c (packets ++ after) → c < first
first_over c [] after first last time run a = absurd run
first_over c (p ∷ []) after first last time run a = omega (arith, a.0, run.0)
first_over c (p ∷ q ∷ ps) after first last time run a = omega (arith, a.0, run.0)

over_by : (cutoff : Option ℕ) (before packets after : List Held) (first last : ℕ) (time : Time) → IsRun first last time packets → IsAboveCutoff cutoff (before ++ (packets ++ after)) → IsOver cutoff first
over_by None before packets after first last time run a = tt
over_by (Some c) before packets after first last time run a = first_over c packets after first last time run (above_all c before (packets ++ after) a)

-- the frame that is due lies above the cutoff
due_over : (s : State) (f : CompleteFrame) → IsSound s → due_of s ≡ Some f → IsOver s.cutoff f.first
due_over s f sound due =
    let part = part_due s f due in
    over_by s.cutoff part.2.before part.0 part.1 f.first f.last part.2.time part.2.run (rw part.2.whole at sound.above)

over_less : (cutoff : Option ℕ) (m n : ℕ) → IsOver cutoff m → m ≤ n → IsOver cutoff n
over_less None m n over le = tt
over_less (Some c) m n over le = omega (arith, over, le)

-- packets above a number, among all packets
between_above : (c first last : ℕ) (hs : List Held) → c < first → between first last (above c hs) ≡ between first last hs
between_above c first last [] lt = refl
between_above c first last (p ∷ ps) lt =
    by_test (ltb c p.meta.seq_no.0) (λ b. between first last (cond b (p ∷ above c ps) (above c ps)) ≡ between first last (p ∷ ps))
    (λ e. rw (between_above c first last ps lt) refl)
    (λ e. let low : ltb p.meta.seq_no.0 first ≡ true = grind (arith, nat_tests, e, lt) in rw low (between_above c first last ps lt))

pub passes_sound : (s t : State) (over : List CompleteFrame) → Passes s over t → IsSound s → IsSound t
passes_sound s t over none sound = sound
passes_sound s u over (one_more {t = t} passes p) sound =
    sound_left t u p.frame.last (passes_sound s t _ passes sound) (ap (λ (x : State). x.held) p.left) (ap (λ (x : State). x.cutoff) p.left) (ap (λ (x : State). x.limit) p.left)

-- skipped frames take no packet above the cutoff
kept_between : (s t : State) (over : List CompleteFrame) → Passes s over t → IsSound s → (first last : ℕ) → IsOver t.cutoff first → between first last t.held ≡ between first last s.held
kept_between s t over none sound first last up = refl
kept_between s u over (one_more {t = t} passes p) sound first last up =
    let mid : IsSound t = passes_sound s t _ passes sound in
    let lt : p.frame.last < first = rw (ap (λ (x : State). x.cutoff) p.left) at up in
    let order = order_due t p.frame p.is_due in
    ap (λ (x : State). between first last x.held) p.left
    ∙ (between_above p.frame.last first last t.held lt
    ∙ kept_between s t _ passes sound first last (over_less t.cutoff p.frame.first first (due_over t p.frame mid p.is_due) (omega (arith, lt, order))))

-- the packets of the frame that is due were held before the pop
pub held_before : (s t : State) (over : List CompleteFrame) (f : CompleteFrame) → Passes s over t → IsSound s → due_of t ≡ Some f → between f.first f.last s.held ≡ packets_of_frame t f
held_before s t over f passes sound due = sym (kept_between s t over passes sound f.first f.last (due_over t f (passes_sound s t over passes sound) due))

-- the frame that is due is one frame
same_due : (s : State) (f h : CompleteFrame) → due_of s ≡ Some f → due_of s ≡ Some h → f ≡ h
same_due s f h one two = cc

-- one more skipped frame
pub more_in : (s t u : State) (over : List CompleteFrame) (p : PassesOver t u) (f : CompleteFrame) (size skipped : ℕ) → Passes s over t → IsSound s → due_of t ≡ Some f → size ≡ length (packets_of_frame t f)
    → skipped ≡ packets_in over s.held → skipped + size ≡ packets_in (p.frame ∷ over) s.held
more_in s t u over p f size skipped passes sound due is so_far =
    let same : f ≡ p.frame = same_due t f p.frame due p.is_due in
    let size_is : size ≡ length (packets_of_frame t p.frame) = is ∙ ap (λ (x : CompleteFrame). length (packets_of_frame t x)) same in
    omega (arith, size_is, so_far, ap length (held_before s t over p.frame passes sound p.is_due))

-- the packets of a frame that leaves, with the packets that stay
pub passed_fits : (s t : State) (p : PassesOver s t) (f : CompleteFrame) (size : ℕ) → due_of s ≡ Some f → size ≡ length (packets_of_frame s f) → size + length t.held ≤ length s.held
passed_fits s t p f size due is =
    let same : f ≡ p.frame = same_due s f p.frame due p.is_due in
    let size_is : size ≡ length (packets_of_frame s p.frame) = is ∙ ap (λ (x : CompleteFrame). length (packets_of_frame s x)) same in
    omega (arith, size_is, ap (λ (x : State). length x.held) p.left, parts_within p.frame.first p.frame.last s.held)

pub record IsRefused (s t u : State) (fault : PacketError) (takes : TakesFrame t (Err fault) u) (count : ℕ) : Type 0 where
  pub counted : count ≡ packets_in (refused_by t (Err fault) u takes) s.held
  pub fits : count + length u.held ≤ length t.held

-- the packets of a frame that the depacketizer refuses, or none if memory ran out
pub refused_counts : (s t u : State) (over : List CompleteFrame) (f : CompleteFrame) (fault : PacketError) (size count : ℕ) (takes : TakesFrame t (Err fault) u) → Passes s over t → IsSound s
    → due_of t ≡ Some f → (fault ≡ faults.OutOfMemory → count ≡ 0) → (fault ≢ faults.OutOfMemory → count ≡ size) → (fault ≢ faults.OutOfMemory → size ≡ length (packets_of_frame t f))
    → IsRefused s t u fault takes count
refused_counts s t u over f fault size count (inl stalls) passes sound due stays leaves is =
    let zero_is : count ≡ 0 = stays stalls.0 in
    record { counted = zero_is; fits = omega (arith, zero_is, ap (λ (x : State). length x.held) stalls.1.left) }
refused_counts s t u over f fault size count (inr refuses) passes sound due stays leaves is =
    let same : f ≡ refuses.frame = same_due t f refuses.frame due refuses.is_due in
    let count_is : count ≡ length (packets_of_frame t refuses.frame) = leaves refuses.not_memory ∙ (is refuses.not_memory ∙ ap (λ (x : CompleteFrame). length (packets_of_frame t x)) same) in
    record {
      counted = omega (arith, count_is, ap length (held_before s t over refuses.frame passes sound refuses.is_due));
      fits = omega (arith, count_is, ap (λ (x : State). length x.held) refuses.left, parts_within refuses.frame.first refuses.frame.last t.held);
    }

-- from the counts of the code
pub left_is : (s : State) (answer : Option (Result Release PacketError)) (t : State) (pops : Pops s answer t) (left : Left) (gone released skipped refused : ℕ)
    → left.incomplete + released + skipped + refused ≡ gone → left.skipped ≡ skipped → left.refused ≡ refused → gone ≡ length s.held - length t.held → released ≡ released_packets answer
    → skipped ≡ packets_in pops.0 s.held → refused ≡ packets_in (refused_in s answer t pops) s.held → left ≡ left_of s answer t pops
left_is s answer t pops left gone released skipped refused sum skipped_is refused_is gone_is released_is in_skipped in_refused =
    let rest : ℕ = length s.held - (length t.held + released_packets answer + packets_in pops.0 s.held + packets_in (refused_in s answer t pops) s.held) in
    let incomplete_is : left.incomplete ≡ rest = omega (arith, sum, gone_is, released_is, in_skipped, in_refused) in
    ap (λ (n : ℕ). parts n left.skipped left.refused) incomplete_is
    ∙ (ap (λ (n : ℕ). parts rest n left.refused) (skipped_is ∙ in_skipped) ∙ ap (λ (n : ℕ). parts rest (packets_in pops.0 s.held) n) (refused_is ∙ in_refused))
  where
    parts : ℕ → ℕ → ℕ → Left
    parts n k r = record { incomplete = n; skipped = k; refused = r }
