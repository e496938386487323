-- If every packet is held, each pop releases the next unit.
use Rattle.std.proofs.Common.{◌≡◌, ◌∙◌, refl, ap, ℕ, suc, subst, List, [], Option, Some, None, Ok, Err, true, ◌++◌, ◌+◌, ◌-◌, ◌∷◌, ◌<◌, inl, inr, arith, length}
use Rattle.std.proofs.lemmas.Bool.Decides.{nat_tests}
use Rattle.codec_payload_base.specs.Time.{Time}
use Rattle.codec_payload_base.specs.declared.error.PacketError.{PacketError}
use Rattle.codec_payload_base.specs.declared.error.PacketError.TheVariants as faults
use Rattle.codec_payload_buffer.proofs.FrameParts.{IsRun, BeginsWithHead}
use Rattle.codec_payload_buffer.proofs.FrontLemmas.{due_front}
use Rattle.codec_payload_buffer_runs.proofs.order.SafetyLemmas.{next_after}
use Rattle.codec_payload_buffer_runs.proofs.units.UnitRows.{IsFaithful, Exact, tail_is}
use Rattle.codec_payload_buffer_runs.proofs.units.UnitTimes.{HasTime}
use Rattle.codec_payload_codec.specs.Depacketizers.{DepacketizerKind}
use Rattle.codec_payload_buffer.specs.Held.{Held}
use Rattle.codec_payload_payloader.specs.Packets.{Packet, AreNumbered}
use Rattle.codec_payload_metadata.specs.Release.{Release}
use Rattle.codec_payload_buffer_runs.specs.Schedule.{Answer}
use Rattle.codec_payload_buffer_runs.specs.LawfulUnits.{StartsWithHead}
use Rattle.codec_payload_buffer_runs.specs.SentStream.{SentUnit, EndsWithTail}
use Rattle.codec_payload_buffer.specs.Steps.{State, due_of, starts_right_after, Pops, Passes, none, one_more, PassesOver, Releases, Refuses}
use Rattle.codec_payload_buffer.specs.declared.buffer.frames.CompleteFrame.{CompleteFrame}
use Rattle.codec_payload_metadata.specs.declared.meta.RtpMeta.{RtpMeta}

-- no frame is skipped from s on: so none in any number of steps
pub none_passed : (s t : State) (over : List CompleteFrame) → ((r : State) → PassesOver s r → ⊥) → Passes s over t → t ≡ s
none_passed s t over never none = refl
none_passed s u over never (one_more passes passed) = absurd (never u (subst (λ (x : State). PassesOver x u) (none_passed s _ _ never passes) passed))

pub numbered_front : (n : ℕ) (xs ys : List Packet) → AreNumbered n (xs ++ ys) → AreNumbered n xs
numbered_front n [] ys a = tt
numbered_front n (x ∷ xs) ys a = (a.0, numbered_front (n + 1) xs ys a.1)

pub numbered_back : (n : ℕ) (xs ys : List Packet) → AreNumbered n (xs ++ ys) → AreNumbered (n + length xs) ys
numbered_back n [] ys a = let z : n ≡ n + 0 = omega arith in subst (λ (m : ℕ). AreNumbered m ys) z a
numbered_back n (x ∷ xs) ys a = let e : n + 1 + length xs ≡ n + suc (length xs) = omega arith in subst (λ (m : ℕ). AreNumbered m ys) e (numbered_back (n + 1) xs ys a.1)

starts_next : (first : ℕ) (cutoff : Option ℕ) (n : ℕ) → next_after first cutoff ≡ n → starts_right_after cutoff n ≡ true
starts_next first None n e = refl
starts_next first (Some c) n e = grind (arith, nat_tests, e)

not_empty : (kind : DepacketizerKind) (xs : List Packet) → EndsWithTail kind xs → 0 < length xs
not_empty kind [] ends = absurd ends
not_empty kind (x ∷ xs) ends = omega arith

module _ (known : ℕ → Packet → RtpMeta → Type 0) (clock_rate : ℕ) (kind : DepacketizerKind) (faithful : IsFaithful known clock_rate kind) where
  -- pushes of two lists of packets, one after the other
  pub record IsSplit (k : ℕ) (xs ys : List Packet) (ps : List Held) : Type 0 where
    pub front : List Held
    pub back : List Held
    pub whole : ps ≡ front ++ back
    pub of_front : Exact known clock_rate kind faithful k xs front
    pub of_back : Exact known clock_rate kind faithful (k + length xs) ys back

  pub exact_split : (k : ℕ) (xs ys : List Packet) (ps : List Held) → Exact known clock_rate kind faithful k (xs ++ ys) ps → IsSplit k xs ys ps
  exact_split k [] ys ps e =
      let z : k ≡ k + 0 = omega arith in
      record { front = []; back = ps; whole = refl; of_front = tt; of_back = subst (λ (n : ℕ). Exact known clock_rate kind faithful n ys ps) z e }
  exact_split k (x ∷ xs) ys [] e = absurd e
  exact_split k (x ∷ xs) ys (p ∷ ps) e =
      let rest = exact_split (k + 1) xs ys ps e.2 in
      let n : k + 1 + length xs ≡ k + suc (length xs) = omega arith in
      record {
        front = p ∷ rest.front;
        back = rest.back;
        whole = ap (λ (zs : List Held). p ∷ zs) rest.whole;
        of_front = (e.0, e.1, rest.of_front);
        of_back = subst (λ (m : ℕ). Exact known clock_rate kind faithful m ys rest.back) n rest.of_back;
      }

  -- the time of a held packet, by the clock of the run
  abbrev pub held_time : ℕ → Time
  held_time time = record { numer = time; rate = clock_rate }

  -- pushes of exactly a unit's packets are a run
  pub run_of_exact : (k n time : ℕ) (xs : List Packet) (ps : List Held) → EndsWithTail kind xs → HasTime time xs → AreNumbered n xs
      → Exact known clock_rate kind faithful k xs ps → (last : ℕ) → last + 1 ≡ n + length xs → IsRun n last (held_time time) ps
  run_of_exact k n time [] ps ends times numbers e last l = absurd ends
  run_of_exact k n time (x ∷ xs) [] ends times numbers e last l = absurd e
  run_of_exact k n time (x ∷ []) (p ∷ []) ends times numbers e last l =
      let number : p.meta.seq_no.0 ≡ n = faithful.number k x p.meta e.0 ∙ numbers.0 in
      (number, omega (arith, number, l), faithful.time k x p.meta e.0 ∙ ap held_time times.0, tail_is known clock_rate kind faithful k x p e.0 e.1 ∙ ends)
  run_of_exact k n time (x ∷ []) (p ∷ q ∷ ps) ends times numbers e last l = absurd e.2
  run_of_exact k n time (x ∷ y ∷ xs) (p ∷ []) ends times numbers e last l = absurd e.2
  run_of_exact k n time (x ∷ y ∷ xs) (p ∷ q ∷ ps) ends times numbers e last l = (
    faithful.number k x p.meta e.0 ∙ numbers.0,
    faithful.time k x p.meta e.0 ∙ ap held_time times.0,
    tail_is known clock_rate kind faithful k x p e.0 e.1 ∙ ends.0,
    run_of_exact (k + 1) (n + 1) time (y ∷ xs) (q ∷ ps) ends.1 times.1 numbers.1 e.2 last (omega (arith, l)),
  )

  pub begins_of_exact : (k : ℕ) (xs : List Packet) (ps : List Held) → StartsWithHead kind xs → Exact known clock_rate kind faithful k xs ps → BeginsWithHead ps
  begins_of_exact k [] ps s e = absurd s
  begins_of_exact k (x ∷ xs) [] s e = absurd e
  begins_of_exact k (x ∷ xs) (p ∷ ps) s e = ap (λ (h : Held). h.head) e.1 ∙ s

  -- the next unit is due
  pub next_due : (s : State) (first k time : ℕ) (u : SentUnit) (rest : List Packet) → EndsWithTail kind u.packets → StartsWithHead kind u.packets
      → HasTime time u.packets → AreNumbered (first + k) u.packets
      → Exact known clock_rate kind faithful k (u.packets ++ rest) s.held → next_after first s.cutoff ≡ first + k
      → (f : CompleteFrame) × (due_of s ≡ Some f) × (f.first ≡ first + k) × (f.last + 1 ≡ first + k + length u.packets)
  next_due s first k time u rest ends starts times numbers e next =
      let split = exact_split k u.packets rest s.held e in
      let last = first + k + length u.packets - 1 in
      let some : 0 < length u.packets = not_empty kind u.packets ends in
      let l : last + 1 ≡ first + k + length u.packets = omega arith in
      let run = run_of_exact k (first + k) time u.packets split.front ends times numbers split.of_front last l in (
        record { first = first + k; last = last },
        due_front s split.front split.back (first + k) last (held_time time) split.whole run (begins_of_exact k u.packets split.front starts split.of_front)
            (starts_next first s.cutoff (first + k) next),
        refl,
        l,
      )

-- if a frame is due, none is skipped and none is refused, the pop releases it unless memory runs out
pub pop_releases : (s t : State) (a : Answer) (f : CompleteFrame) → due_of s ≡ Some f → ((r : State) → PassesOver s r → ⊥)
    → ((fault : PacketError) (r : State) → Refuses s fault r → ⊥) → (a ≡ Some (Err faults.OutOfMemory) → ⊥) → Pops s a t
    → (r : Release) × (a ≡ Some (Ok r)) × Releases s r t
pop_releases s t None f due never sound memory pop =
    let same = none_passed s t pop.0 never pop.1.0 in
    let nothing : due_of s ≡ None = subst (λ (x : State). due_of x ≡ None) same pop.1.1 in
    absurd (cc)
pop_releases s t (Some (Ok r)) f due never sound memory pop =
    (r, refl, subst (λ (x : State). Releases x r t) (none_passed s pop.1.0 pop.0 never pop.1.1) pop.1.2)
pop_releases s t (Some (Err fault)) f due never sound memory pop = elim pop.1.2 [
  | inl stall ↦ absurd (memory (ap (λ (e : PacketError). Some (Err e)) stall.0))
  | inr refusal ↦ absurd (sound fault t (subst (λ (x : State). Refuses x fault t) (none_passed s pop.1.0 pop.0 never pop.1.1) refusal))
]
