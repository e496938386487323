-- A run with RED over unused parts is a run without RED, except for the packets that its steps push.
use Rattle.std.proofs.Common.{◌≡◌, ◌∙◌, refl, sym, ap, subst, ℕ, zero, suc, ◌+◌, List, [], ◌∷◌, ◌++◌, length, take, map, Option, Some, None, true}
use Rattle.std.specs.Prelude.{slice_get}
use Rattle.std.proofs.lemmas.List.{map-append}
use Rattle.codec_payload_buffer_runs.proofs.units.BuiltInRuns.{Pushing, Runs, IsOfCodec, push_keeps, send_exactly, pop_exactly}
use Rattle.codec_payload_codec.specs.Depacketizers.{DepacketizerState, is_built_in_depacketizer}
use Rattle.codec_payload_buffer.specs.Held.{Held}
use Rattle.codec_payload_codec.specs.Packetizers.{is_built_in}
use Rattle.codec_payload_buffer.specs.Steps.{State, arrived, pushed}
use Rattle.codec_payload_buffer.specs.Stretches.{after_pushes}
use Rattle.codec_payload_payloader.specs.Packets.{Packet}
use Rattle.codec_payload_payloader.specs.RedPackets.{in_red}
use Rattle.codec_payload_buffer_runs.specs.RedPromises.{recovered_held}
use Rattle.codec_payload_buffer_runs.specs.RedSchedule.{remembered, all_remembered, all_in_red, Protection, RedState, SendsInRed, meta_of_recovered, recovered_in, PushesAll, RedPushes, RunsInRed}
use Rattle.codec_payload_buffer_runs.specs.Schedule.{Answer, RunState}
use Rattle.codec_payload_payloader.specs.Sending.{Sample}
use Rattle.codec_payload_buffer_runs.specs.declared.run.Sent.{Sent}
use Rattle.codec_payload_buffer_runs.specs.declared.run.Step.{Step}
use Rattle.codec_payload_buffer_runs.specs.declared.run.Step.TheVariants as steps
use Rattle.codec_payload_red.specs.RedLevels.{Entry, Sender, recorded}
use Rattle.codec_payload_red.specs.RedRecovery.{Receiver, RecoveredPacket}
use Rattle.codec_payload_red.specs.RedRun.{sender_after, sender_at}

-- ---- the actual contents of the sink

pub after_append : (s : Sender) (xs ys : List Entry) → sender_after s (xs ++ ys) ≡ sender_after (sender_after s xs) ys
after_append s [] ys = refl
after_append s (x ∷ xs) ys = after_append (recorded s x.bytes x.time) xs ys

in_red_append : (s : Sender) (budget : ℕ) (ps qs : List Packet) → all_in_red s budget (ps ++ qs) ≡ all_in_red s budget ps ++ all_in_red (sender_after s (all_remembered ps)) budget qs
in_red_append s budget [] qs = refl
in_red_append s budget (p ∷ ps) qs = ap (λ (xs : List Packet). in_red s budget p ∷ xs) (in_red_append (recorded s p.payload p.rtp_time) budget ps qs)

-- the sink holds in RED the packets that a sink without RED would hold, and the sender remembers them
pub record IsInStep (red : Sender) (budget : ℕ) (s : RedState) : Type 0 where
  pub images : s.images ≡ all_in_red red budget s.plain.sink.packets
  pub sender : s.sender ≡ sender_after red (all_remembered s.plain.sink.packets)

pub in_step_sent : (red : Sender) (budget : ℕ) (s t : RedState) → SendsInRed budget s t → IsInStep red budget s → IsInStep red budget t
in_step_sent red budget s t sent now = record {
  images = sent.images ∙ (ap (λ (xs : List Packet). xs ++ all_in_red s.sender budget sent.packets) now.images
      ∙ (ap (λ (x : Sender). all_in_red red budget s.plain.sink.packets ++ all_in_red x budget sent.packets) now.sender
      ∙ (sym (in_red_append red budget s.plain.sink.packets sent.packets) ∙ ap (all_in_red red budget) (sym sent.gained))));
  sender = sent.sender ∙ (ap (λ (x : Sender). sender_after x (all_remembered sent.packets)) now.sender
      ∙ (sym (after_append red (all_remembered s.plain.sink.packets) (all_remembered sent.packets))
      ∙ ap (sender_after red) (sym (map-append remembered s.plain.sink.packets sent.packets) ∙ ap all_remembered (sym sent.gained))));
}

pub in_step_kept : (red : Sender) (budget : ℕ) (s t : RedState) → t.images ≡ s.images → t.sender ≡ s.sender → t.plain.sink.packets ≡ s.plain.sink.packets
    → IsInStep red budget s → IsInStep red budget t
in_step_kept red budget s t images sender packets now = record {
  images = images ∙ (now.images ∙ ap (all_in_red red budget) (sym packets));
  sender = sender ∙ (now.sender ∙ ap (λ (ps : List Packet). sender_after red (all_remembered ps)) (sym packets));
}

-- the image of an index is the packet with that index, wrapped by the sender that remembers the packets before it
pub record IsImage (red : Sender) (budget : ℕ) (sent : List Packet) (k : ℕ) (p : Packet) : Type 0 where
  pub packet : Packet
  pub there : slice_get sent k ≡ Some packet
  pub is : p ≡ in_red (sender_at red (all_remembered sent) k) budget packet

pub image_at : (red : Sender) (budget : ℕ) (sent : List Packet) (k : ℕ) (p : Packet) → slice_get (all_in_red red budget sent) k ≡ Some p → IsImage red budget sent k p
image_at red budget [] k p h = absurd (cc)
image_at red budget (q ∷ sent) zero p h = record { packet = q; there = refl; is = let same : in_red red budget q ≡ p = cc in sym same }
image_at red budget (q ∷ sent) (suc k) p h = let rest = image_at (recorded red q.payload q.rtp_time) budget sent k p h in record { packet = rest.packet; there = rest.there; is = rest.is }

-- a beginning in RED is a beginning of the packets in RED
pub take_in_red : (red : Sender) (budget : ℕ) (n : ℕ) (ps : List Packet) → take n (all_in_red red budget ps) ≡ all_in_red red budget (take n ps)
take_in_red red budget zero ps = refl
take_in_red red budget (suc n) [] = refl
take_in_red red budget (suc n) (p ∷ ps) = ap (λ (xs : List Packet). in_red red budget p ∷ xs) (take_in_red (recorded red p.payload p.rtp_time) budget n ps)

pub length_in_red : (red : Sender) (budget : ℕ) (ps : List Packet) → length (all_in_red red budget ps) ≡ length ps
length_in_red red budget [] = refl
length_in_red red budget (p ∷ ps) = ap suc (length_in_red (recorded red p.payload p.rtp_time) budget ps)

-- ---- the pushes of its steps

-- a packet of a sender that sent nothing before this run is wrapped in RED, and the packets that a receiver recovers from it are
-- pushed
abbrev pub wrapped_by : Protection → Sender → Pushing
wrapped_by w red place k s = after_pushes s.buffer (recovered_held place s.payloading.clock_rate w.receiver (slice_get (all_in_red red w.budget s.sink.packets) k) s.buffer.depacketizer)

all_exactly : (place clock_rate pt : ℕ) (carrier : Packet) (xs : List RecoveredPacket) (s t : State) → IsOfCodec s → PushesAll place clock_rate pt carrier xs s t
    → (t ≡ after_pushes s (map (λ (x : RecoveredPacket). arrived s.depacketizer (meta_of_recovered place clock_rate pt carrier x) x.bytes) xs)) × IsOfCodec t
all_exactly place clock_rate pt carrier [] s t built_in pushes = (pushes, ap (λ (x : State). is_built_in_depacketizer x.depacketizer) pushes ∙ built_in)
all_exactly place clock_rate pt carrier (x ∷ xs) s t built_in pushes =
    let held = pushes.1.2 built_in in
    let keeps = push_keeps s pushes.0 in
    let rest = all_exactly place clock_rate pt carrier xs (pushed s pushes.0) t (ap is_built_in_depacketizer keeps ∙ built_in) pushes.2 in
    let others : DepacketizerState → List Held = λ d. map (λ (y : RecoveredPacket). arrived d (meta_of_recovered place clock_rate pt carrier y) y.bytes) xs in
    (rest.0 ∙ (ap (λ (d : DepacketizerState). after_pushes (pushed s pushes.0) (others d)) keeps ∙ ap (λ (h : Held). after_pushes (pushed s h) (others s.depacketizer)) held), rest.1)

red_exactly : (place clock_rate : ℕ) (receiver : Receiver) (o : Option Packet) (s t : State) → IsOfCodec s → RedPushes place clock_rate receiver o s t
    → (t ≡ after_pushes s (recovered_held place clock_rate receiver o s.depacketizer)) × IsOfCodec t
red_exactly place clock_rate receiver None s t built_in pushes = (pushes, ap (λ (x : State). is_built_in_depacketizer x.depacketizer) pushes ∙ built_in)
red_exactly place clock_rate receiver (Some p) s t built_in pushes = all_exactly place clock_rate receiver.primary_pt p (recovered_in receiver p) s t built_in pushes

-- the run without RED, and its effect on the sink and the sender
pub runs_in_red : (w : Protection) (red : Sender) (samples : List Sample) (place : ℕ) (later : List Step) (s t : RedState) (sends : List Sent) (pops : List Answer)
    → is_built_in s.plain.payloading.packetizer ≡ true → IsOfCodec s.plain.buffer → IsInStep red w.budget s → RunsInRed w samples place later s sends pops t
    → Runs (wrapped_by w red) samples place later s.plain sends pops t.plain × IsInStep red w.budget t
runs_in_red w red samples place [] s t sends pops packetizer depacketizer now run = ((run.0, run.1, ap (λ (x : RedState). x.plain) run.2), subst (IsInStep red w.budget) (sym run.2) now)
runs_in_red w red samples place (steps.Send i mtu ∷ later) s t sends pops packetizer depacketizer now run =
    let one = send_exactly samples place i mtu s.plain run.4.plain run.0 run.2 packetizer depacketizer run.7.0 in
    let rest = runs_in_red w red samples (place + 1) later run.4 t run.1 run.3 one.1 one.2 (in_step_sent red w.budget s run.4 run.7.1 now) run.8 in
    ((run.0, run.1, run.2, run.3, run.4.plain, run.5, run.6, one.0, rest.0), rest.1)
runs_in_red w red samples place (steps.Push k ∷ later) s t sends pops packetizer depacketizer now run =
    let step = run.7 in
    let one = red_exactly place s.plain.payloading.clock_rate w.receiver (slice_get s.images k) s.plain.buffer step.2 depacketizer step.3 in
    let plain : run.4.plain ≡ record s.plain { buffer = step.2 } = ap (λ (x : RedState). x.plain) step.4 in
    let is : step.2 ≡ wrapped_by w red place k s.plain =
    one.0 ∙ ap (λ (ps : List Packet). after_pushes s.plain.buffer (recovered_held place s.plain.payloading.clock_rate w.receiver (slice_get ps k) s.plain.buffer.depacketizer)) now.images in
    let kept = in_step_kept red w.budget s run.4 (ap (λ (x : RedState). x.images) step.4) (ap (λ (x : RedState). x.sender) step.4) (ap (λ (x : RunState). x.sink.packets) plain) now in
    let rest = runs_in_red w red samples (place + 1) later run.4 t run.1 run.3 (ap (λ (x : RunState). is_built_in x.payloading.packetizer) plain ∙ packetizer)
    (ap (λ (x : RunState). is_built_in_depacketizer x.buffer.depacketizer) plain ∙ one.1) kept run.8 in
    ((run.0, run.1, run.2, run.3, run.4.plain, run.5, run.6, (step.0, step.1, plain ∙ ap (λ (b : State). record s.plain { buffer = b }) is), rest.0), rest.1)
runs_in_red w red samples place (steps.Pop ∷ later) s t sends pops packetizer depacketizer now run =
    let step = run.7.0 in
    let one = pop_exactly samples place s.plain run.4.plain run.0 run.2 packetizer depacketizer step in
    let kept = in_step_kept red w.budget s run.4 run.7.1 run.7.2 (ap (λ (x : RunState). x.sink.packets) step.6) now in
    let rest = runs_in_red w red samples (place + 1) later run.4 t run.1 run.3 one.0 one.1 kept run.8 in
    ((run.0, run.1, run.2, run.3, run.4.plain, run.5, run.6, step, rest.0), rest.1)
