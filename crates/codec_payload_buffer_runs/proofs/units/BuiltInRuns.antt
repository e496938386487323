-- A run over a built-in packetizer and depacketizer: the effect of each step is stated exactly.
use Rattle.std.proofs.Common.{inl, inr, ◌≡◌, ◌≢◌, ◌<◌, ◌^◌, ◌⊎◌, ◌∙◌, ap, refl, subst, ℕ, ◌+◌, List, [], ◌∷◌, ◌++◌, Bool, true, Option, Some, None, Result, Ok, Err, length, cond}
use Rattle.std.specs.Prelude.{MatchOption, MatchResult, slice_get, nat_lt, ⊤}
use Rattle.codec_payload_base.specs.declared.error.PacketError.{PacketError}
use Rattle.codec_payload_base.specs.declared.error.PacketError.TheVariants as faults
use Rattle.codec_payload_codec.proofs.CaseLemmas.{by_test}
use Rattle.codec_payload_codec.proofs.CodecLemmas.{codec_payloads, packetizer_stays}
use Rattle.codec_payload_buffer.proofs.OwnLemmas.{passes_stays, unpacks_stays}
use Rattle.codec_payload_payloader.proofs.SendLemmas.{as_built_in}
use Rattle.codec_payload_codec.specs.Depacketizers.{DepacketizerState, is_built_in_depacketizer, is_codec}
use Rattle.codec_payload_buffer_runs.specs.Headline.{IsUnused}
use Rattle.codec_payload_buffer.specs.Held.{Held, placed, number_of}
use Rattle.codec_payload_codec.specs.Packetizers.{PacketizerState, PacketizerStep, is_built_in}
use Rattle.codec_payload_payloader.specs.Packets.{Packet, AreNumbered}
use Rattle.codec_payload_buffer_runs.specs.Schedule as any
use Rattle.codec_payload_buffer_runs.specs.Schedule.{Answer, RunState, payloads_of, fault_of, packets_sent, after_send, meta_of_push}
use Rattle.codec_payload_payloader.specs.Sending.{Sample, AreAs}
use Rattle.codec_payload_buffer.specs.Steps.{State, arrived, pushed, is_dropped, kept_to_limit, without_lowest, Unpacked, Unpacks, Gives, Passes, none, one_more, PassesOver, TakesFrame, Pops}
use Rattle.codec_payload_buffer.specs.declared.buffer.frames.CompleteFrame.{CompleteFrame}
use Rattle.codec_payload_buffer_runs.specs.declared.run.Sent.{Sent}
use Rattle.codec_payload_buffer_runs.specs.declared.run.Step.{Step}
use Rattle.codec_payload_buffer_runs.specs.declared.run.Step.TheVariants as steps

-- the sample was sent, or refused by the packetizer, which sends nothing
pub record SendsIt (place mtu : ℕ) (sample : Sample) (s : RunState) (entry : Sent) (t : RunState) : Type 0 where
  pub answer : Result (List (List ℕ)) PacketError
  pub packetizer : PacketizerState
  pub packetized : PacketizerStep s.payloading.packetizer mtu sample.bytes answer packetizer
  pub not_memory : answer ≢ Err faults.OutOfMemory
  pub built_in : is_built_in s.payloading.packetizer ≡ true
  pub entry_is : entry ≡ record { step = place; first = length s.sink.packets; count = length (payloads_of answer); fault = fault_of answer }
  pub numbered : AreNumbered (s.sink.first + length s.sink.packets) (packets_sent s packetizer sample (payloads_of answer))
  pub few : length t.sink.packets < 2 ^ 63
  pub left : t ≡ after_send s packetizer (packets_sent s packetizer sample (payloads_of answer))

-- the buffer after step `place` pushed that packet, if there is one
abbrev pub after_push : ℕ → ℕ → Option Packet → State → State
after_push place clock_rate None s = s
after_push place clock_rate (Some p) s = pushed s (arrived s.depacketizer (meta_of_push place clock_rate p) p.payload)

-- the buffer after step `place`, which names packet k, pushed the contents of that packet
abbrev pub Pushing : Type 0
Pushing = ℕ → ℕ → RunState → State

-- the packet itself is pushed
abbrev pub plainly : Pushing
plainly place k s = after_push place s.payloading.clock_rate (slice_get s.sink.packets k) s.buffer

-- one step, at its place: the entry of a `Send` and the result of a `Pop`, if it is one
abbrev pub DoesStep : Pushing → List Sample → ℕ → Step → RunState → List Sent → List Answer → RunState → Type 0
DoesStep pushing samples place (steps.Send i mtu) s sends pops t =
    (pops ≡ []) × MatchOption (slice_get samples i) ((sends ≡ []) × (t ≡ s)) (λ sample. (entry : Sent) × (sends ≡ entry ∷ []) × SendsIt place mtu sample s entry t)
DoesStep pushing samples place (steps.Push k) s sends pops t =
    (sends ≡ []) × (pops ≡ []) × (t ≡ record s { buffer = pushing place k s })
DoesStep pushing samples place steps.Pop s sends pops t =
    (sends ≡ []) × (answer : Answer) × (buffer : State) × (pops ≡ answer ∷ []) × (answer ≢ Some (Err faults.OutOfMemory)) × Pops s.buffer answer buffer × (t ≡ record s { buffer = buffer })

-- the steps from place `place` on, in order
abbrev pub Runs : Pushing → List Sample → ℕ → List Step → RunState → List Sent → List Answer → RunState → Type 0
Runs pushing samples place [] s sends pops t = (sends ≡ []) × (pops ≡ []) × (t ≡ s)
Runs pushing samples place (step ∷ later) s sends pops t =
    (send : List Sent) × (sends_later : List Sent) × (pop : List Answer) × (pops_later : List Answer) × (mid : RunState)
    × (sends ≡ send ++ sends_later) × (pops ≡ pop ++ pops_later) × DoesStep pushing samples place step s send pop mid × Runs pushing samples (place + 1) later mid sends_later pops_later t

abbrev pub IsOfCodec : State → Type 0
IsOfCodec s = is_built_in_depacketizer s.depacketizer ≡ true

pub passed_stays : (s t : State) → PassesOver s t → is_built_in_depacketizer t.depacketizer ≡ is_built_in_depacketizer s.depacketizer
passed_stays s t passed = ap (λ (x : State). is_built_in_depacketizer x.depacketizer) passed.left ∙ unpacks_stays s.depacketizer _ _ _ passed.depacketizer passed.gives

pops_stay : (s t : State) (answer : Answer) → Pops s answer t → is_built_in_depacketizer t.depacketizer ≡ is_built_in_depacketizer s.depacketizer
pops_stay s t None pop = passes_stays s t pop.0 pop.1.0
pops_stay s t (Some answer) pop = takes answer pop.1.2 ∙ passes_stays s pop.1.0 pop.0 pop.1.1
  where
    at_stall : (frame : CompleteFrame) (d : DepacketizerState) → (d ≡ pop.1.0.depacketizer) ⊎ Gives pop.1.0 frame (Err faults.OutOfMemory) d
        → is_built_in_depacketizer d ≡ is_built_in_depacketizer pop.1.0.depacketizer
    at_stall frame d (inl same) = ap is_built_in_depacketizer same
    at_stall frame d (inr gives) = unpacks_stays pop.1.0.depacketizer _ _ _ d gives

    takes : (a : Result _ PacketError) → TakesFrame pop.1.0 a t → is_built_in_depacketizer t.depacketizer ≡ is_built_in_depacketizer pop.1.0.depacketizer
    takes (Ok r) out = ap (λ (x : State). is_built_in_depacketizer x.depacketizer) out.left ∙ unpacks_stays pop.1.0.depacketizer _ _ _ out.depacketizer out.gives
    takes (Err fault) out = elim out [
      | inl memory ↦ ap (λ (x : State). is_built_in_depacketizer x.depacketizer) memory.1.left ∙ at_stall memory.1.frame memory.1.depacketizer memory.1.reached
      | inr refusal ↦ ap (λ (x : State). is_built_in_depacketizer x.depacketizer) refusal.left ∙ unpacks_stays pop.1.0.depacketizer _ _ _ refusal.depacketizer refusal.gives
    ]

-- of a packetizer that is built in the packets are exactly those
sends_exactly : (place mtu : ℕ) (sample : Sample) (s : RunState) (entry : Sent) (t : RunState) → is_built_in s.payloading.packetizer ≡ true → any.SendsIt place mtu sample s entry t
    → SendsIt place mtu sample s entry t × (is_built_in t.payloading.packetizer ≡ true)
sends_exactly place mtu sample s entry t built_in sent =
    let stays : is_built_in sent.packetizer ≡ true = packetizer_stays s.payloading.packetizer mtu sample.bytes sent.answer sent.packetizer sent.packetized ∙ built_in in
    let exact : sent.packets ≡ packets_sent s sent.packetizer sample (payloads_of sent.answer) =
    as_built_in _ _ (subst (λ (b : Bool). AreAs b sent.packets (packets_sent s sent.packetizer sample (payloads_of sent.answer))) stays sent.are) in (
      record {
        answer = sent.answer;
        packetizer = sent.packetizer;
        packetized = sent.packetized;
        not_memory = sent.not_memory;
        built_in = built_in;
        entry_is = sent.entry_is;
        numbered = subst (AreNumbered (s.sink.first + length s.sink.packets)) exact sent.numbered;
        few = sent.few;
        left = sent.left ∙ ap (after_send s sent.packetizer) exact;
      },
      ap (λ (x : RunState). is_built_in x.payloading.packetizer) sent.left ∙ stays,
    )

-- a push leaves the depacketizer as it is
lowest_keeps : (s : State) (ps : List Held) → (without_lowest s ps).depacketizer ≡ s.depacketizer
lowest_keeps s [] = refl
lowest_keeps s (p ∷ ps) = refl

pub push_keeps : (s : State) (p : Held) → (pushed s p).depacketizer ≡ s.depacketizer
push_keeps s p =
    let more = record s { held = placed p s.held } in
    by_test (is_dropped s (number_of p)) (λ b. (cond b s (kept_to_limit more)).depacketizer ≡ s.depacketizer) (λ e. refl)
    (λ e. by_test (nat_lt more.limit (length more.held)) (λ b. (cond b (without_lowest more more.held) more).depacketizer ≡ s.depacketizer) (λ f. lowest_keeps more more.held) (λ f. refl))

-- of a depacketizer that is built in a packet is held exactly so
pushes_exactly : (place clock_rate : ℕ) (o : Option Packet) (s t : State) → IsOfCodec s → any.Pushes place clock_rate o s t → (t ≡ after_push place clock_rate o s) × IsOfCodec t
pushes_exactly place clock_rate None s t built_in pushes = (pushes, ap (λ (x : State). is_built_in_depacketizer x.depacketizer) pushes ∙ built_in)
pushes_exactly place clock_rate (Some p) s t built_in pushes =
    let held = pushes.1.2 built_in in
    let left = pushes.2 ∙ ap (pushed s) held in
    (left, ap (λ (x : State). is_built_in_depacketizer x.depacketizer) left ∙ (ap is_built_in_depacketizer (push_keeps s _) ∙ built_in))

-- a step that sends, of a packetizer that is built in
pub send_exactly : (samples : List Sample) (place i mtu : ℕ) (s t : RunState) (sends : List Sent) (pops : List Answer) → is_built_in s.payloading.packetizer ≡ true
    → IsOfCodec s.buffer → any.DoesStep samples place (steps.Send i mtu) s sends pops t
    → DoesStep plainly samples place (steps.Send i mtu) s sends pops t × (is_built_in t.payloading.packetizer ≡ true) × IsOfCodec t.buffer
send_exactly samples place i mtu s t sends pops packetizer depacketizer step =
    let one = at (slice_get samples i) step.1 in
    ((step.0, one.0), one.1, one.2)
  where
    at : (o : Option Sample) → MatchOption o ((sends ≡ []) × (t ≡ s)) (λ sample. (entry : Sent) × (sends ≡ entry ∷ []) × any.SendsIt place mtu sample s entry t)
        → MatchOption o ((sends ≡ []) × (t ≡ s)) (λ sample. (entry : Sent) × (sends ≡ entry ∷ []) × SendsIt place mtu sample s entry t)
        × (is_built_in t.payloading.packetizer ≡ true) × IsOfCodec t.buffer
    at None here = (here, ap (λ (x : RunState). is_built_in x.payloading.packetizer) here.1 ∙ packetizer, ap (λ (x : RunState). is_built_in_depacketizer x.buffer.depacketizer) here.1 ∙ depacketizer)
    at (Some sample) done =
        let sent = sends_exactly place mtu sample s done.0 t packetizer done.2 in
        ((done.0, done.1, sent.0), sent.1, ap (λ (x : RunState). is_built_in_depacketizer x.buffer.depacketizer) done.2.left ∙ depacketizer)

-- a step that pops leaves both built in
pub pop_exactly : (samples : List Sample) (place : ℕ) (s t : RunState) (sends : List Sent) (pops : List Answer) → is_built_in s.payloading.packetizer ≡ true
    → IsOfCodec s.buffer → any.DoesStep samples place steps.Pop s sends pops t
    → (is_built_in t.payloading.packetizer ≡ true) × IsOfCodec t.buffer
pop_exactly samples place s t sends pops packetizer depacketizer step = (
  ap (λ (x : RunState). is_built_in x.payloading.packetizer) step.6 ∙ packetizer,
  ap (λ (x : RunState). is_built_in_depacketizer x.buffer.depacketizer) step.6 ∙ (pops_stay s.buffer step.2 step.1 step.5 ∙ depacketizer),
)

-- so the steps of such a run are stated exactly
pub runs_exactly : (samples : List Sample) (place : ℕ) (later : List Step) (s : RunState) (sends : List Sent) (pops : List Answer) (t : RunState)
    → is_built_in s.payloading.packetizer ≡ true → IsOfCodec s.buffer → any.Runs samples place later s sends pops t → Runs plainly samples place later s sends pops t
runs_exactly samples place [] s sends pops t packetizer depacketizer run = run
runs_exactly samples place (steps.Send i mtu ∷ later) s sends pops t packetizer depacketizer run =
    let one = send_exactly samples place i mtu s run.4 run.0 run.2 packetizer depacketizer run.7 in
    (run.0, run.1, run.2, run.3, run.4, run.5, run.6, one.0, runs_exactly samples (place + 1) later run.4 run.1 run.3 t one.1 one.2 run.8)
runs_exactly samples place (steps.Push k ∷ later) s sends pops t packetizer depacketizer run =
    let step = run.7 in
    let one = pushes_exactly place s.payloading.clock_rate (slice_get s.sink.packets k) s.buffer step.2 depacketizer step.3 in (
      run.0,
      run.1,
      run.2,
      run.3,
      run.4,
      run.5,
      run.6,
      (step.0, step.1, step.4 ∙ ap (λ (b : State). record s { buffer = b }) one.0),
      runs_exactly samples (place + 1) later run.4 run.1 run.3 t (ap (λ (x : RunState). is_built_in x.payloading.packetizer) step.4 ∙ packetizer)
          (ap (λ (x : RunState). is_built_in_depacketizer x.buffer.depacketizer) step.4 ∙ one.1) run.8,
    )
runs_exactly samples place (steps.Pop ∷ later) s sends pops t packetizer depacketizer run =
    let one = pop_exactly samples place s run.4 run.0 run.2 packetizer depacketizer run.7 in
    (run.0, run.1, run.2, run.3, run.4, run.5, run.6, run.7, runs_exactly samples (place + 1) later run.4 run.1 run.3 t one.0 one.1 run.8)

-- an unused run is of a codec on both sides
pub unused_exactly : (samples : List Sample) (all_steps : List Step) (s : RunState) (sends : List Sent) (pops : List Answer) (t : RunState)
    → IsUnused s → any.Runs samples 0 all_steps s sends pops t → Runs plainly samples 0 all_steps s sends pops t
unused_exactly samples all_steps s sends pops t unused run =
    runs_exactly samples 0 all_steps s sends pops t unused.built_in (ap is_codec unused.alike ∙ codec_payloads s.payloading.packetizer unused.built_in) run
