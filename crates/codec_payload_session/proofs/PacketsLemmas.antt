-- A unit that a poll returns has packets.
use Rattle.std.proofs.Common.{◌≡◌, ◌<◌, ◌≤◌, ap, sym, subst, ℕ, List, [], ◌∷◌, ◌++◌, Bool, true, false, Option, Some, None, Result, Ok, Err, length, arith}
use Rattle.std.proofs.lemmas.Bool.Decides.{nat_tests}
use Rattle.std.proofs.lemmas.List.{length-map}
use Rattle.std.specs.Global.{Vec}
use Rattle.std.specs.declared.alloc.AllocError.{AllocError}
use Rattle.codec_payload_base.specs.Time.{Time}
use Rattle.codec_payload_base.specs.declared.wire.Ticks.{Ticks}
use Rattle.codec_payload_buffer.specs.Held.{Held, between, number_of}
use Rattle.codec_payload_metadata.specs.Release.{Release}
use Rattle.codec_payload_buffer.specs.Steps.{State, due_of, metas_of, packets_of_frame}
use Rattle.codec_payload_buffer.specs.declared.buffer.frames.CompleteFrame.{CompleteFrame}
use Rattle.codec_payload_metadata.specs.declared.meta.RtpMeta.{RtpMeta}
use Rattle.codec_payload_buffer.proofs.FrameParts.{IsRun}
use Rattle.codec_payload_buffer.proofs.PopLemmas.{order_due, part_due}
use Rattle.codec_payload_jitter.specs.Receiving.{PopsWith, Receiving, settled, waiting_at}
use Rattle.codec_payload_receiver.specs.Pops.{PopsGated, answer_of}
use Rattle.codec_payload_receiver.specs.Sessions.{Session as Receiver}
use Rattle.codec_payload_receiver.specs.declared.pops.Popped.{Popped}
use Rattle.codec_payload_receiver.specs.declared.pops.Popped.TheVariants as popped
use Rattle.codec_payload_session.specs.Arrivals.{Port}
use Rattle.codec_payload_session.specs.Polls.{GoesOn, Polls, PollsAfter, SendsAfter, TurnsOrReports}
use Rattle.codec_payload_session_stream.specs.Events.{report_event, transport_event}
use Rattle.codec_payload_session.specs.Ports.{Session}
use Rattle.codec_payload_session_requests.specs.Requests.{Asking}
use Rattle.codec_payload_session_stream.specs.Streams.{Follows, Pops, RequestsBy, RestsBy, StepsBy, StreamState, step_of}
use Rattle.codec_payload_session.specs.Turns.{TakesTurn}
use Rattle.codec_payload_session_stream.specs.Turns.{event_of}
use Rattle.codec_payload_session_stream.specs.Units.{Event, HasPackets, HasUnit, Step}
use Rattle.codec_payload_session_stream.specs.declared.stream.Stage.{Stage}
use Rattle.codec_payload_session_stream.specs.declared.stream.Stage.TheVariants as stages
use Rattle.codec_payload_session_stream.specs.declared.stream.Step.TheVariants as steps
use Rattle.codec_payload_session_stream.specs.declared.telephone.TelephonePacket.{TelephonePacket}

-- ---- the buffer

between_some : (first last : ℕ) (before : List Held) (p : Held) (after : List Held) → first ≤ number_of p → number_of p ≤ last → 0 < length (between first last (before ++ p ∷ after))
between_some first last [] p after low high = grind (arith, nat_tests)
between_some first last (q ∷ qs) p after low high = grind (arith, nat_tests, between_some first last qs p after low high)

run_some : (first last : ℕ) (before packets after : List Held) (time : Time) → IsRun first last time packets → first ≤ last → 0 < length (between first last (before ++ (packets ++ after)))
run_some first last before [] after time run order = absurd run
run_some first last before (p ∷ []) after time run order = between_some first last before p after (omega (arith, run.0)) (omega (arith, run.0, order))
run_some first last before (p ∷ q ∷ ps) after time run order = between_some first last before p ((q ∷ ps) ++ after) (omega (arith, run.0)) (omega (arith, run.0, order))

frame_some : (s : State) (f : CompleteFrame) → due_of s ≡ Some f → 0 < length (packets_of_frame s f)
frame_some s f due =
    let part = part_due s f due in
    subst (λ (hs : List Held). 0 < length (between f.first f.last hs)) (sym part.2.whole) (run_some f.first f.last part.2.before part.0 part.1 part.2.time part.2.run (order_due s f due))

metas_some : (s : State) (f : CompleteFrame) (metas : List RtpMeta) → due_of s ≡ Some f → metas ≡ metas_of (packets_of_frame s f) → 0 < length metas
metas_some s f metas due is = omega (arith, frame_some s f due, ap length is, length-map (packets_of_frame s f) (λ (p : Held). p.meta))

-- ---- the receiver

pops_some : (wait : Option ℕ) (r t : Receiving) (unit : Release) → PopsWith wait r (Some (Ok unit)) t → 0 < length unit.metas
pops_some None r t unit pops = absurd (cc (pops.0))
pops_some (Some h) r t unit pops = metas_some pops.1.1.0 pops.1.1.2.frame unit.metas pops.1.1.2.is_due pops.1.1.2.metas

pub gated_some : (now : ℕ) (s t : Receiver) (unit : Release) → PopsGated now s (Some (Ok unit)) t → 0 < length unit.metas
gated_some now s t unit gated = pops_some (waiting_at (settled gated.mid.packets) now) (settled gated.mid.packets) gated.pops.packets unit gated.pops.pops

-- ---- the stream

abbrev HasPacketsIn : Step → Type 0
HasPacketsIn steps.Begun = Unit {0}
HasPacketsIn (steps.Unit unit) = HasPackets unit
HasPacketsIn (steps.TooLarge unit) = 0 < length unit.metas
HasPacketsIn (steps.Refused fault) = Unit {0}
HasPacketsIn (steps.Feedback packet) = Unit {0}
HasPacketsIn (steps.Ended why) = Unit {0}
HasPacketsIn steps.Nothing = Unit {0}

told_some : (told : Result (Option (Vec ℕ)) AllocError) → HasPacketsIn (step_of told)
told_some (Ok None) = tt
told_some (Ok (Some packet)) = tt
told_some (Err e) = tt

is_some_step : (step other : Step) → step ≡ other → HasPacketsIn other → HasPacketsIn step
is_some_step step other is some = subst (λ (x : Step). HasPacketsIn x) (sym is) some

requests_some : (o : Option Asking) (now : ℕ) (s t : StreamState) (step : Step) → RequestsBy o now s step t → HasPacketsIn step
requests_some None now s t step got = is_some_step step steps.Nothing got.0 tt
requests_some (Some a) now s t step got = is_some_step step (step_of got.told) got.answers (told_some got.told)

rests_some : (stage : Stage) (now : ℕ) (s t : StreamState) (step : Step) → RestsBy stage now s step t → HasPacketsIn step
rests_some stages.Probation now s t step got = is_some_step step steps.Nothing got.0 tt
rests_some stages.Playing now s t step got = requests_some s.feedback now s t step got
rests_some (stages.Leaving why at) now s t step got = is_some_step step steps.Nothing got.0 tt
rests_some (stages.Draining why) now s t step got = is_some_step step (steps.Ended why) got.0 tt

follows_some : (told : Option (Result (Popped Release) AllocError)) (now : ℕ) (r q : Receiver) (s t : StreamState) (step : Step) → PopsGated now r (answer_of told) q → Follows told now s step t → HasPacketsIn step
follows_some None now r q s t step pops got = rests_some s.stage now s t step got
follows_some (Some (Ok (popped.Unit unit))) now r q s t step pops got = is_some_step step (steps.Unit (Ok unit)) got.0 (gated_some now r q unit pops)
follows_some (Some (Ok (popped.TooLarge unit))) now r q s t step pops got = is_some_step step (steps.TooLarge unit) got.0 (gated_some now r q unit pops)
follows_some (Some (Ok (popped.Refused fault))) now r q s t step pops got = is_some_step step (steps.Refused fault) got.0 tt
follows_some (Some (Err e)) now r q s t step pops got = is_some_step step (steps.Unit (Err e)) got.0 tt

pops_in : (now : Ticks) (s t : StreamState) (step : Step) → Pops now s step t → HasPacketsIn step
pops_in now s t step got = follows_some got.told now.0 s.receiver got.receiver (record s { receiver = got.receiver }) t step got.pops got.follows

steps_by_some : (b announced : Bool) (now : Ticks) (idle : ℕ) (s t : StreamState) (step : Step) → StepsBy b announced now idle s step t → HasPacketsIn step
steps_by_some true announced now idle s t step got = is_some_step step steps.Nothing got.0 tt
steps_by_some false false now idle s t step got = is_some_step step steps.Begun got.0 tt
steps_by_some false true now idle s t step got = pops_in now got.0 t step got.2

-- ---- the session

event_some : (s : StreamState) (step : Step) → HasPacketsIn step → HasUnit (event_of s step)
event_some s steps.Begun some = tt
event_some s (steps.Unit unit) some = some
event_some s (steps.TooLarge unit) some = some
event_some s (steps.Refused fault) some = tt
event_some s (steps.Feedback packet) some = tt
event_some s (steps.Ended why) some = tt
event_some s steps.Nothing some = tt

turn_some : (now : Ticks) (idle : ℕ) (p q : Port) (event : Option Event) → TakesTurn now idle p event q → HasUnit event
turn_some now idle p q None got = tt
turn_some now idle p q (Some event) got =
    subst (λ (e : Option Event). HasUnit e) (sym got.tells)
    (event_some got.stepped got.step (steps_by_some _ got.stream.announced now idle got.stream got.stepped got.step got.steps))

report_some : (packet : Option (Result (Vec ℕ) AllocError)) (event : Option Event) → event ≡ report_event packet → HasUnit event
report_some None event is = subst (λ (e : Option Event). HasUnit e) (sym is) tt
report_some (Some packet) event is = subst (λ (e : Option Event). HasUnit e) (sym is) tt

goes_some : (o : Option Event) (now : ℕ) (s t : Session) (event : Option Event) → HasUnit o → GoesOn o now s event t → HasUnit event
goes_some None now s t event some got = report_some got.packet event got.answers
goes_some (Some first) now s t event some got = subst (λ (e : Option Event). HasUnit e) (sym got.0) some

turns_some : (now : Ticks) (s t : Session) (event : Option Event) → TurnsOrReports now s event t → HasUnit event
turns_some now s t event got = goes_some got.event now.0 _ t event (turn_some now s.settings.idle_timeout s.port got.port got.event got.turn) got.goes_on

transport_some : (packet : Option (Result (Vec ℕ) AllocError)) (event : Option Event) → event ≡ transport_event packet → HasUnit event
transport_some None event is = subst (λ (e : Option Event). HasUnit e) (sym is) tt
transport_some (Some packet) event is = subst (λ (e : Option Event). HasUnit e) (sym is) tt

sends_some : (o : Option Event) (now : ℕ) (s t : Session) (event : Option Event) → HasUnit o → SendsAfter o now s event t → HasUnit event
sends_some None now s t event some got = transport_some got.packet event got.answers
sends_some (Some first) now s t event some got = subst (λ (e : Option Event). HasUnit e) (sym got.0) some

polls_after_some : (ws : List TelephonePacket) (now : Ticks) (s t : Session) (event : Option Event) → PollsAfter ws now s event t → HasUnit event
polls_after_some [] now s t event got = sends_some got.event now.0 got.after t event (turns_some now s got.after got.event got.turn) got.sends
polls_after_some (w ∷ ws) now s t event got = subst (λ (e : Option Event). HasUnit e) (sym got.0) tt

pub polls_some : (now : Ticks) (s t : Session) (event : Option Event) → Polls now s event t → HasUnit event
polls_some now s t event got = polls_after_some s.telephone.waiting now s t event got
