-- A pop of a run releases packets that steps before it pushed.
use Rattle.std.proofs.Common.{◌≡◌, ◌≢◌, ◌∙◌, sym, ap, subst, ℕ, ◌+◌, ◌<◌, List, [], ◌∷◌, ◌++◌, Option, Some, None, Ok, Err, inl, inr, arith, cond, ltb, length, map}
use Rattle.std.specs.Prelude.{slice_get}
use Rattle.codec_payload_base.specs.declared.error.PacketError.TheVariants as faults
use Rattle.codec_payload_codec.proofs.CaseLemmas.{by_test}
use Rattle.codec_payload_codec.specs.Depacketizers.{DepacketizerState}
use Rattle.codec_payload_buffer.specs.Held.{Held, number_of, placed, between, above}
use Rattle.codec_payload_buffer.specs.Steps.{State, arrived, is_dropped, kept_to_limit, without_lowest, pushed, metas_of, packets_of_frame, Passes, none, one_more, PopsOver}
use Rattle.codec_payload_buffer.specs.Stretches.{after_pushes}
use Rattle.codec_payload_buffer.specs.declared.buffer.frames.CompleteFrame.{CompleteFrame}
use Rattle.codec_payload_buffer_runs.proofs.units.BuiltInRuns.{Pushing, Runs, after_push, plainly}
use Rattle.codec_payload_buffer_runs.proofs.in_red.RedRuns.{wrapped_by}
use Rattle.codec_payload_buffer_runs.proofs.order.SafetyLemmas.{send_keeps}
use Rattle.codec_payload_buffer_runs.specs.Headline.{ArePushedBefore, IsOfEarlier, AreOfEarlier}
use Rattle.codec_payload_payloader.specs.Packets.{Packet}
use Rattle.codec_payload_buffer_runs.specs.RedPromises.{recovered_held}
use Rattle.codec_payload_buffer_runs.specs.RedSchedule.{Protection, all_in_red, meta_of_recovered, recovered_in}
use Rattle.codec_payload_buffer_runs.specs.Schedule.{Answer, RunState, meta_of_push}
use Rattle.codec_payload_payloader.specs.Sending.{Sample}
use Rattle.codec_payload_buffer_runs.specs.declared.run.Sent.{Sent}
use Rattle.codec_payload_buffer_runs.specs.declared.run.Step.{Step}
use Rattle.codec_payload_buffer_runs.specs.declared.run.Step.TheVariants as steps
use Rattle.codec_payload_red.specs.RedLevels.{Sender}
use Rattle.codec_payload_red.specs.RedRecovery.{Receiver, RecoveredPacket}

-- steps before this place pushed all of these
abbrev pub AllEarlier : ℕ → List Held → Type 0
AllEarlier place [] = Unit {0}
AllEarlier place (p ∷ ps) = (p.meta.received.0 < place) × AllEarlier place ps

earlier_metas : (place : ℕ) (ps : List Held) → AllEarlier place ps → ArePushedBefore place (metas_of ps)
earlier_metas place [] all = tt
earlier_metas place (p ∷ ps) all = (all.0, earlier_metas place ps all.1)

next_earlier : (place : ℕ) (ps : List Held) → AllEarlier place ps → AllEarlier (place + 1) ps
next_earlier place [] all = tt
next_earlier place (p ∷ ps) all = (omega (arith, all.0), next_earlier place ps all.1)

earlier_placed : (place : ℕ) (p : Held) (hs : List Held) → p.meta.received.0 < place → AllEarlier place hs → AllEarlier place (placed p hs)
earlier_placed place p [] l all = (l, tt)
earlier_placed place p (q ∷ qs) l all =
    by_test (ltb q.meta.seq_no.0 p.meta.seq_no.0) (λ b. AllEarlier place (cond b (q ∷ placed p qs) (p ∷ q ∷ qs))) (λ e. (all.0, earlier_placed place p qs l all.1)) (λ e. (l, all))

earlier_between : (place first last : ℕ) (hs : List Held) → AllEarlier place hs → AllEarlier place (between first last hs)
earlier_between place first last [] all = tt
earlier_between place first last (p ∷ ps) all =
    let rest = earlier_between place first last ps all.1 in
    by_test (ltb (number_of p) first) (λ b. AllEarlier place (cond b (between first last ps) (cond (ltb last (number_of p)) (between first last ps) (p ∷ between first last ps)))) (λ e. rest)
    (λ e. by_test (ltb last (number_of p)) (λ b. AllEarlier place (cond b (between first last ps) (p ∷ between first last ps))) (λ f. rest) (λ f. (all.0, rest)))

earlier_above : (place last : ℕ) (hs : List Held) → AllEarlier place hs → AllEarlier place (above last hs)
earlier_above place last [] all = tt
earlier_above place last (p ∷ ps) all =
    let rest = earlier_above place last ps all.1 in
    by_test (ltb last (number_of p)) (λ b. AllEarlier place (cond b (p ∷ above last ps) (above last ps))) (λ e. (all.0, rest)) (λ e. rest)

earlier_lowest : (place : ℕ) (s : State) (hs : List Held) → AllEarlier place hs → AllEarlier place s.held → AllEarlier place (without_lowest s hs).held
earlier_lowest place s [] all held = held
earlier_lowest place s (p ∷ ps) all held = all.1

earlier_kept : (place : ℕ) (s : State) → AllEarlier place s.held → AllEarlier place (kept_to_limit s).held
earlier_kept place s all =
    by_test (ltb s.limit (length s.held)) (λ b. AllEarlier place (cond b (without_lowest s s.held) s).held) (λ e. earlier_lowest place s s.held all all) (λ e. all)

-- a push
earlier_pushed : (place : ℕ) (s : State) (p : Held) → p.meta.received.0 < place → AllEarlier place s.held → AllEarlier place (pushed s p).held
earlier_pushed place s p l all =
    let more : State = record s { held = placed p s.held } in
    by_test (is_dropped s (number_of p)) (λ b. AllEarlier place (cond b s (kept_to_limit more)).held) (λ e. all) (λ e. earlier_kept place more (earlier_placed place p s.held l all))

earlier_pushes : (place : ℕ) (s : State) (ps : List Held) → AllEarlier place ps → AllEarlier place s.held → AllEarlier place (after_pushes s ps).held
earlier_pushes place s [] new all = all
earlier_pushes place s (p ∷ ps) new all = earlier_pushes place (pushed s p) ps new.1 (earlier_pushed place s p new.0 all)

-- a pop
earlier_passes : (place : ℕ) (s t : State) (over : List CompleteFrame) → AllEarlier place s.held → Passes s over t → AllEarlier place t.held
earlier_passes place s t over all none = all
earlier_passes place s u over all (one_more {t = t} passes p) =
    subst (λ (x : State). AllEarlier place x.held) (sym p.left) (earlier_above place p.frame.last t.held (earlier_passes place s t _ all passes))

earlier_pop : (place : ℕ) (s t : State) (over : List CompleteFrame) (a : Answer) → a ≢ Some (Err faults.OutOfMemory) → PopsOver s over a t → AllEarlier place s.held
    → IsOfEarlier place a × AllEarlier place t.held
earlier_pop place s t over None found pop all = (tt, earlier_passes place s t over all pop.0)
earlier_pop place s t over (Some (Ok r)) found pop all =
    let mid = earlier_passes place s pop.0 over all pop.1 in
    let out = pop.2 in (
      subst (ArePushedBefore place) (sym out.metas) (earlier_metas place (packets_of_frame pop.0 out.frame) (earlier_between place out.frame.first out.frame.last pop.0.held mid)),
      subst (λ (x : State). AllEarlier place x.held) (sym out.left) (earlier_above place out.frame.last pop.0.held mid),
    )
earlier_pop place s t over (Some (Err fault)) found pop all =
    let mid = earlier_passes place s pop.0 over all pop.1 in (
      tt,
      elim pop.2 [
        | inl memory ↦ absurd (found (ap (λ f. Some (Err f)) memory.0))
        | inr refusal ↦ subst (λ (x : State). AllEarlier place x.held) (sym refusal.left) (earlier_above place refusal.frame.last pop.0.held mid)
      ],
    )

-- the pushes of a step happened before the next step
abbrev pub PushesEarlier : Pushing → Type 0
PushesEarlier pushing = (place k : ℕ) (s : RunState) → AllEarlier place s.buffer.held → AllEarlier (place + 1) (pushing place k s).held

module _ (pushing : Pushing) (samples : List Sample) (earlier : PushesEarlier pushing) where
  -- each pop of the steps that are left
  pub of_earlier : (place : ℕ) (later : List Step) (s t : RunState) (sends : List Sent) (pops : List Answer) → Runs pushing samples place later s sends pops t
      → AllEarlier place s.buffer.held → AreOfEarlier place later pops
  of_earlier place [] s t sends pops run all = tt
  of_earlier place (steps.Send i mtu ∷ later) s t sends pops run all =
      let kept = send_keeps samples place i mtu s run.4 run.0 run.2 run.7 in
      let same : pops ≡ run.3 = run.6 ∙ ap (λ (ps : List Answer). ps ++ run.3) run.7.0 in
      let held = subst (λ (b : State). AllEarlier (place + 1) b.held) (sym kept.0) (next_earlier place s.buffer.held all) in
      subst (AreOfEarlier (place + 1) later) (sym same) (of_earlier (place + 1) later run.4 t run.1 run.3 run.8 held)
  of_earlier place (steps.Push k ∷ later) s t sends pops run all =
      let same : pops ≡ run.3 = run.6 ∙ ap (λ (ps : List Answer). ps ++ run.3) run.7.1 in
      let held = subst (λ (x : RunState). AllEarlier (place + 1) x.buffer.held) (sym run.7.2) (earlier place k s all) in
      subst (AreOfEarlier (place + 1) later) (sym same) (of_earlier (place + 1) later run.4 t run.1 run.3 run.8 held)
  of_earlier place (steps.Pop ∷ later) s t sends pops run all =
      let same : pops ≡ run.7.1 ∷ run.3 = run.6 ∙ ap (λ (ps : List Answer). ps ++ run.3) run.7.3 in
      let pop = earlier_pop place s.buffer run.7.2 run.7.5.0 run.7.1 run.7.4 run.7.5.1 all in
      let held = subst (λ (x : RunState). AllEarlier (place + 1) x.buffer.held) (sym run.7.6) (next_earlier place run.7.2.held pop.1) in
      subst (AreOfEarlier place (steps.Pop ∷ later)) (sym same) (pop.0, of_earlier (place + 1) later run.4 t run.1 run.3 run.8 held)

-- a packet that is pushed as it is
plain_one : (place clock_rate : ℕ) (o : Option Packet) (s : State) → AllEarlier place s.held → AllEarlier (place + 1) (after_push place clock_rate o s).held
plain_one place clock_rate None s all = next_earlier place s.held all
plain_one place clock_rate (Some p) s all =
    let l : place < place + 1 = omega arith in
    earlier_pushed (place + 1) s (arrived s.depacketizer (meta_of_push place clock_rate p) p.payload) l (next_earlier place s.held all)

pub plain_earlier : PushesEarlier plainly
plain_earlier place k s all = plain_one place s.payloading.clock_rate (slice_get s.sink.packets k) s.buffer all

-- the packets recovered from a packet
recovered_earlier : (place clock_rate pt : ℕ) (carrier : Packet) (d : DepacketizerState) (xs : List RecoveredPacket)
    → AllEarlier (place + 1) (map (λ (x : RecoveredPacket). arrived d (meta_of_recovered place clock_rate pt carrier x) x.bytes) xs)
recovered_earlier place clock_rate pt carrier d [] = tt
recovered_earlier place clock_rate pt carrier d (x ∷ xs) =
    let l : place < place + 1 = omega arith in
    (l, recovered_earlier place clock_rate pt carrier d xs)

red_one : (place clock_rate : ℕ) (receiver : Receiver) (o : Option Packet) (d : DepacketizerState) → AllEarlier (place + 1) (recovered_held place clock_rate receiver o d)
red_one place clock_rate receiver None d = tt
red_one place clock_rate receiver (Some p) d = recovered_earlier place clock_rate receiver.primary_pt p d (recovered_in receiver p)

pub red_earlier : (w : Protection) (red : Sender) → PushesEarlier (wrapped_by w red)
red_earlier w red place k s all =
    earlier_pushes (place + 1) s.buffer (recovered_held place s.payloading.clock_rate w.receiver (slice_get (all_in_red red w.budget s.sink.packets) k) s.buffer.depacketizer)
    (red_one place s.payloading.clock_rate w.receiver (slice_get (all_in_red red w.budget s.sink.packets) k) s.buffer.depacketizer) (next_earlier place s.buffer.held all)
