use Rattle.std.proofs.Common.{◌≡◌, ◌∙◌, ℕ, ap, subst, sym, true, false, Option}
use Rattle.std.specs.Option.{option_map}
use Rattle.codec_payload_buffer.specs.Steps.{popped_to}
use Rattle.codec_payload_jitter.specs.Receiving.{Receiving, settled, waiting_at}
use Rattle.codec_payload_jitter.specs.declared.outcome.PacketCounters.{PacketCounters}
use Rattle.codec_payload_keyframes.specs.UnitGates.{Gating}
use Rattle.codec_payload_keyframes.specs.declared.references.UnitReferences.{UnitReferences}
use Rattle.codec_payload_receiver.specs.Noting.{Noting, noting_of}
use Rattle.codec_payload_receiver.specs.Pops.{Answer, PassesOnce, bound_if, gates_after, has_left, is_large}
use Rattle.codec_payload_receiver.specs.Sessions.{Session, time_with}
use Rattle.codec_payload_receiver.specs.declared.bound.UnitBound.{UnitBound}
use Rattle.codec_payload_receiver.proofs.PopLemmas.{gates_by, others_after, over_after, still_sorted}
use Rattle.codec_payload_receiver.proofs.receiver.Receiver.pop_unit_once.Goals as goal

pub invariant_of-self : goal.invariant_of-self
invariant_of-self g c = still_sorted c.self.inside.arrived (waiting_at (settled c.self.inside.packets) c.args.now.0) c.self.inside.packets c.pop_unit-answer.new.self (popped_to c.pop_unit-answer.result c.pop_unit-answer.new.unit) c.pop_unit-answer.ensures.pops c.self.invariant

pub invariant_of-self-2 : goal.invariant_of-self-2
invariant_of-self-2 g c = still_sorted c.self.inside.arrived (waiting_at (settled c.self.inside.packets) c.args.now.0) c.self.inside.packets c.pop_unit-answer.new.self (popped_to c.pop_unit-answer.result c.pop_unit-answer.new.unit) c.pop_unit-answer.ensures.pops c.self.invariant

pub returns-then-note_in-clause-pops : goal.returns-then-note_in-clause-pops
returns-then-note_in-clause-pops g c =
    let s : Session = record {
      stream = c.self.inside.stream;
      named = c.self.inside.named;
      ssrc = c.self.inside.ssrc;
      packets = c.self.inside.packets;
      arrived = c.self.inside.arrived;
      time = c.self.inside.times;
      reception = c.self.inside.statistics;
      choice = c.self.inside.choice;
      seen = c.self.inside.seen;
      gates = c.self.inside.gates;
      bound = c.self.inside.bound;
      notes = option_map noting_of c.self.inside.notes;
    } in
    let after : Receiving = c.pop_unit-answer.new.self in
    let answer : Answer = popped_to c.pop_unit-answer.result c.pop_unit-answer.new.unit in
    let bound : UnitBound = c.note_in.new.self in
    let references : UnitReferences = c.take_notes_in.new.references in
    let notes : Option Noting = option_map noting_of c.take_notes_in.new.notes in
    let t : Session = record s { packets = after; gates = c.lose.new.self; bound = bound; notes = notes } in
    let large : is_large s.bound.most answer ≡ true = sym c.note_in.ensures.large ∙ c.if-note_in.true in
    subst (λ (x : Session). PassesOnce c.args.now.0 x answer true t) c.self.view_is
    (over_after c.args.now.0 s t answer after references notes c.pop_unit-answer.ensures.pops c.take_notes_in.ensures large
    (ap (λ (b : UnitBound). record s { packets = after; gates = c.lose.new.self; bound = b; notes = notes }) c.note_in.ensures.after
    ∙ ap (λ (k : Gating). record s { packets = after; gates = k; bound = bound_if (is_large s.bound.most answer) s.bound answer; notes = notes }) c.lose.ensures))

pub returns-clause-pops : goal.returns-clause-pops
returns-clause-pops g c =
    let s : Session = record {
      stream = c.self.inside.stream;
      named = c.self.inside.named;
      ssrc = c.self.inside.ssrc;
      packets = c.self.inside.packets;
      arrived = c.self.inside.arrived;
      time = c.self.inside.times;
      reception = c.self.inside.statistics;
      choice = c.self.inside.choice;
      seen = c.self.inside.seen;
      gates = c.self.inside.gates;
      bound = c.self.inside.bound;
      notes = option_map noting_of c.self.inside.notes;
    } in
    let after : Receiving = c.pop_unit-answer.new.self in
    let answer : Answer = popped_to c.pop_unit-answer.result c.pop_unit-answer.new.unit in
    let bound : UnitBound = c.note_in.new.self in
    let gates : Gating = c.follow_to-is_passed.new.gates in
    let time : Option ℕ = c.extend_to.new.times in
    let references : UnitReferences = c.take_notes_in.new.references in
    let notes : Option Noting = option_map noting_of c.take_notes_in.new.notes in
    let t : Session = record s { packets = after; time = time; gates = gates; bound = bound; notes = notes } in
    let others : is_large s.bound.most answer ≡ false = sym c.note_in.ensures.large ∙ c.if-note_in.false in
    let gates_is : gates ≡ gates_after s.gates (has_left s.packets after) answer references =
    gates_by s.gates gates c.counters-left.result.left c.counters.result.left s.packets.counters.left after.counters.left answer references (ap (λ (k : PacketCounters). k.left) c.counters-left.ensures.value) (ap (λ (k : PacketCounters). k.left) c.counters.ensures.value) c.follow_to-is_passed.ensures.after in
    subst (λ (x : Session). PassesOnce c.args.now.0 x answer c.follow_to-is_passed.result t) c.self.view_is
    (others_after c.args.now.0 s t answer after references notes c.pop_unit-answer.ensures.pops c.take_notes_in.ensures c.follow_to-is_passed.result c.follow_to-is_passed.ensures.passed others
    (ap (λ (b : UnitBound). record s { packets = after; time = time; gates = gates; bound = b; notes = notes }) c.note_in.ensures.after
    ∙ ap (λ (x : Option ℕ). record s { packets = after; time = x; gates = gates; bound = bound_if (is_large s.bound.most answer) s.bound answer; notes = notes }) c.extend_to.ensures
    ∙ ap (λ (k : Gating). record s { packets = after; time = time_with s.time answer; gates = k; bound = bound_if (is_large s.bound.most answer) s.bound answer; notes = notes }) gates_is))
