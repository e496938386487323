-- The keyframe gate of a receiver follows the events of a run.
use Rattle.std.proofs.Common.{◌≡◌, ◌∙◌, ◌||◌, not, Bool, true, false, List, [], ◌∷◌, Option, Some, None, Result, Ok, Err, ℕ, refl, sym, ap, subst, inl, inr}
use Rattle.std.specs.declared.alloc.AllocError.{AllocError}
use Rattle.codec_payload_base.specs.declared.wire.Codec.{Codec}
use Rattle.codec_payload_base.specs.declared.wire.Ticks.{Ticks}
use Rattle.codec_payload_jitter.specs.declared.outcome.Outcome.{Outcome}
use Rattle.codec_payload_keyframes.specs.Keyframes.{Event, Run, after_skip, is_key_unit, loses, new_gate, releases, said_of, skipped, skips}
use Rattle.codec_payload_keyframes.specs.Keyframes.{begins as gate_begins}
use Rattle.codec_payload_keyframes.specs.UnitGates.{Gating, is_shown}
use Rattle.codec_payload_keyframes.specs.Vp8Layers.{picture_of}
use Rattle.codec_payload_keyframes.specs.declared.gate.KeyframeGate.{KeyframeGate}
use Rattle.codec_payload_keyframes.specs.declared.references.UnitReferences.{UnitReferences}
use Rattle.codec_payload_keyframes.proofs.GateLemmas.{gates_agree, units_follow_keyframes}
use Rattle.codec_payload_keyframes.proofs.LayerLemmas.{layer_fits}
use Rattle.codec_payload_receiver.specs.KeyframeRuns.{DatagramsLeaveTheGate, DropsFollowKeyframes, GateRun, PopsFollowKeyframes, answer_events, begins, fault_events, others, pop_events, pops, restarts}
use Rattle.codec_payload_datagrams.specs.Kinds.{Datagram}
use Rattle.codec_payload_receiver.specs.Pops.{Answer, after_fault, gates_after, gates_if, has_left, is_large, is_memory}
use Rattle.codec_payload_receiver.specs.Sessions.{ChoosesIf, Finishes, Heard, Keeps, ReceivesBy, ReceivesBytes, Session, SettlesOn, first_waiting, opened_if}
use Rattle.codec_payload_datagrams.specs.declared.choice.Candidate.{Candidate}
use Rattle.codec_payload_datagrams.specs.declared.choice.Verdict.{Verdict}
use Rattle.codec_payload_datagrams.specs.declared.choice.Verdict.TheVariants as verdicts
use Rattle.codec_payload_receiver.specs.declared.receiver.ReceiveError.{ReceiveError}
use Rattle.codec_payload_receiver.specs.declared.receiver.ReceiveError.TheVariants as errors

-- the run of a gate, after a fault
fault_run : (codec : Codec) (g : Gating) (memory left : Bool) (before : List Event) → Run codec before g.gate
    → Run codec (fault_events memory left before) (after_fault memory g left).gate
fault_run codec g true true before run = skips run
fault_run codec g true false before run = run
fault_run codec g false left before run = loses run

-- after an answer
answer_run : (codec : Codec) (g : Gating) (left : Bool) (answer : Answer) (references : UnitReferences) (before : List Event) → Run codec before g.gate
    → Run codec (answer_events g left answer references before) (gates_after g left answer references).gate
answer_run codec g true None references before run = skips run
answer_run codec g false None references before run = run
answer_run codec g left (Some (Err fault)) references before run = fault_run codec g (is_memory fault) left before run
answer_run codec g left (Some (Ok unit)) references before run =
    releases (is_key_unit g.gate unit.bytes) unit.contiguous (picture_of unit.codec_extra) (said_of unit.codec_extra references) (layer_fits unit.codec_extra) run

-- after a pop
pop_run : (codec : Codec) (large : Bool) (g : Gating) (left : Bool) (answer : Answer) (references : UnitReferences) (before : List Event) → Run codec before g.gate
    → Run codec (pop_events large g left answer references before) (gates_if large g left answer references).gate
pop_run codec true g left answer references before run = loses run
pop_run codec false g left answer references before run = answer_run codec g left answer references before run

-- the gate of a receiver has the run of its events
run_of : (codec : Codec) (s t : Session) (events : List Event) → s.gates.gate ≡ new_gate codec → GateRun s events t → Run codec events t.gates.gate
run_of codec s t events new begins = subst (λ (k : KeyframeGate). Run codec [] k) (sym new) gate_begins
run_of codec s t events new (pops {mid = mid} {before = before} now answer run once is) =
    subst (λ (es : List Event). Run codec es t.gates.gate) (sym is)
    (subst (λ (x : Session). Run codec (pop_events (is_large mid.bound.most answer) mid.gates (has_left mid.packets once.packets) answer once.references before) x.gates.gate) (sym once.left)
    (pop_run codec (is_large mid.bound.most answer) mid.gates (has_left mid.packets once.packets) answer once.references before (run_of codec s mid before new run)))
run_of codec s t events new (restarts {mid = mid} {before = before} ssrc named run same is) =
    subst (λ (x : Session). Run codec (skipped ∷ before) x.gates.gate) (sym is)
    (subst (λ (k : Gating). Run codec (skipped ∷ before) (after_skip k.gate)) (sym same) (skips (run_of codec s mid before new run)))
run_of codec s t events new (others {mid = mid} run same) = subst (λ (k : Gating). Run codec events k.gate) (sym same) (run_of codec s mid events new run)

pub pops_follow_keyframes : PopsFollowKeyframes
pops_follow_keyframes codec s t events video new run = gates_agree codec events t.gates.gate video (run_of codec s t events new run)

-- a unit that is passed on is decodable, if units are dropped
shown_if_passed : (drops shown : Bool) → drops ≡ true → (not drops || shown) ≡ true → shown ≡ true
shown_if_passed true shown dropping passed = passed
shown_if_passed false shown dropping passed = cc

pub drops_follow_keyframes : DropsFollowKeyframes
drops_follow_keyframes codec s mid events unit references video new run dropping passed =
    units_follow_keyframes codec events mid.gates.gate (is_key_unit mid.gates.gate unit.bytes) unit.contiguous (picture_of unit.codec_extra) (said_of unit.codec_extra references) video
    (layer_fits unit.codec_extra) (run_of codec s mid events new run)
    (shown_if_passed mid.gates.drops (is_shown mid.gates unit.bytes unit.contiguous unit.codec_extra references) dropping passed)

-- a datagram leaves the gate unchanged
heard_leaves : (now : Ticks) (d : Datagram) (s t : Session) (answer : Result Outcome ReceiveError) → Heard now d s answer t → t.gates ≡ s.gates
heard_leaves now d s t (Ok outcome) heard = ap (λ (x : Session). x.gates) heard.left
heard_leaves now d s t (Err errors.OutOfMemory) heard = ap (λ (x : Session). x.gates) heard.0
heard_leaves now d s t (Err (errors.Rtp e)) heard = ap (λ (x : Session). x.gates) heard.left
heard_leaves now d s t (Err errors.Red) heard = ap (λ (x : Session). x.gates) heard.left
heard_leaves now d s t (Err errors.Retransmission) heard = ap (λ (x : Session). x.gates) heard.left
heard_leaves now d s t (Err errors.BlocksOutOfMemory) heard = ap (λ (x : Session). x.gates) heard.left

settles_leaves : (o : Option Candidate) (whole : Bool) (s t : Session) → SettlesOn o whole s t → t.gates ≡ s.gates
settles_leaves None whole s t settles = ap (λ (x : Session). x.gates) settles.1
settles_leaves (Some c) true s t settles = ap (λ (x : Session). x.gates) settles.left ∙ heard_leaves c.received _ _ settles.mid settles.answer settles.heard
settles_leaves (Some c) false s t settles = ap (λ (x : Session). x.gates) settles

keeps_leaves : (now : Ticks) (bytes : List ℕ) (s t : Session) (answer : Result Outcome ReceiveError) (o : _) → Keeps now o bytes s answer t → t.gates ≡ s.gates
keeps_leaves now bytes s t (Ok outcome) o keeps = ap (λ (x : Session). x.gates) keeps.1.left
keeps_leaves now bytes s t (Err fault) o keeps = ap (λ (x : Session). x.gates) keeps.1

opened_leaves : (b : Bool) (s : Session) → (opened_if b s).gates ≡ s.gates
opened_leaves true s = refl
opened_leaves false s = refl

chooses_leaves : (whole : Bool) (place : ℕ) (now : Ticks) (bytes : List ℕ) (s : Session) (answer : Result Outcome ReceiveError) (t : Session) → ChoosesIf whole place now bytes s answer t → t.gates ≡ s.gates
chooses_leaves true place now bytes s answer t got = heard_leaves now _ got.0 t answer got.2 ∙ settles_leaves _ true _ got.0 got.1 ∙ opened_leaves _ s
chooses_leaves false place now bytes s answer t got = ap (λ (x : Session). x.gates) got.1

receives_by_leaves : (v : Verdict) (now : Ticks) (bytes : List ℕ) (s : Session) (answer : Result Outcome ReceiveError) (t : Session) → ReceivesBy v now bytes s answer t → t.gates ≡ s.gates
receives_by_leaves verdicts.Hear now bytes s answer t got = heard_leaves now _ s t answer got
receives_by_leaves (verdicts.Keep o) now bytes s answer t got = keeps_leaves now bytes s t answer o got
receives_by_leaves (verdicts.Choose place) now bytes s answer t got = chooses_leaves got.whole place now bytes s answer t got.chooses

receives_leaves : (now : Ticks) (bytes : List ℕ) (s : Session) (answer : Result Outcome ReceiveError) (t : Session) → ReceivesBytes now bytes s answer t → t.gates ≡ s.gates
receives_leaves now bytes s answer t (inl got) = receives_by_leaves _ now bytes s answer t got
receives_leaves now bytes s answer t (inr got) = ap (λ (x : Session). x.gates) got.1

finishes_leaves : (s t : Session) (done : Result Unit AllocError) → Finishes s done t → t.gates ≡ s.gates
finishes_leaves s t (Ok done) got = ap (λ (x : Session). x.gates) got.2 ∙ settles_leaves (first_waiting s) true s got.0 got.1
finishes_leaves s t (Err e) got = ap (λ (x : Session). x.gates) got.1

pub datagrams_leave : DatagramsLeaveTheGate
datagrams_leave = (receives_leaves, finishes_leaves)
