use Rattle.std.proofs.Common.{◌≡◌, ◌≤◌, refl, ℕ, false, Some, ◌∙◌, ap, sym, subst, arith, length, None, Option, Result}
use Rattle.codec_payload_base.specs.declared.error.PacketError.{PacketError}
use Rattle.codec_payload_codec.specs.Depacketizers.{is_built_in_depacketizer}
use Rattle.codec_payload_buffer.specs.Frames.{frames}
use Rattle.codec_payload_buffer.specs.Leaving.{IsWhole}
use Rattle.codec_payload_metadata.specs.Release.{Release}
use Rattle.codec_payload_buffer.specs.Steps.{State, OwnPops, Pops}
use Rattle.codec_payload_jitter.specs.Receiving.{IsCounted, PopsWith, Receiving, arrival_of, counted_pop, is_pressed, settled, units_in, waiting_at}
use Rattle.std.specs.Option.{option_map}
use Rattle.codec_payload_jitter.specs.declared.outcome.PacketCounters.{PacketCounters}
use Rattle.codec_payload_jitter.specs.OwnReceiving.{OwnPopsWith}
use Rattle.codec_payload_jitter.proofs.OwnLemmas.{settled_stays}
use Rattle.codec_payload_jitter.proofs.ReceivingLemmas.{conserved_pop, pops_with_is, pressed_waits_for_none}
use Rattle.codec_payload_jitter.proofs.PressureLemmas.{crowded_presses, crowded_waits, none_left, settled_holds, taken_from}
use Rattle.codec_payload_jitter.proofs.KeptStores.{popped_keeps}
use Rattle.codec_payload_jitter.proofs.jitter.JitterBuffer.pop.Goals as goal

pub invariant_of-self : goal.invariant_of-self
invariant_of-self g c =
    let s : State = c.set_hold_back.new.self in
    let t : State = c.pop_counted-answer.new.self in
    let same : length s.held ≡ length c.self.inside.buffer.held = ap (λ (x : State). length x.held) c.set_hold_back.ensures in
    let whole : IsWhole s c.pop_counted-answer.result.0 c.pop_counted-answer.result.1 t = c.pop_counted-answer.ensures.whole in (
      subst (λ (k : PacketCounters). IsCounted k (length t.held)) (sym c.with_pop-self-inside.ensures)
          (conserved_pop c.self.inside.counters c.units_in-units.result c.packets_in-released.result (length s.held) (length t.held) (length c.self.inside.buffer.held) (length t.held)
          c.pop_counted-answer.result.1 c.self.invariant.0 same refl (omega (arith, whole, c.packets_in-released.ensures))),
      popped_keeps c.in-Some.hold_back c.self.inside.kept_missing c.self.inside.buffer s t c.self.inside.no_media_numbers.items c.pop_counted-answer.result.0 c.set_hold_back.ensures c.is_sound.ensures c.pop_counted-answer.ensures.pops.0 c.self.invariant.1,
    )

pub returns-clause-pops : goal.returns-clause-pops
returns-clause-pops g c =
    let h : ℕ = c.in-Some.hold_back in
    let inside : Receiving = record {
      numbering = c.self.inside.numbers;
      buffer = c.self.inside.buffer;
      no_media_numbers = c.self.inside.no_media_numbers.items;
      noted = c.self.inside.noted_times.noted;
      first = c.self.inside.first;
      kept = option_map arrival_of c.self.inside.kept;
      rate = c.self.inside.clock_rate;
      wait_limits = c.self.inside.wait_limits;
      ended = c.self.inside.ended;
      counters = c.self.inside.counters;
      lowest = c.self.inside.lowest;
      is_restarting = c.self.inside.is_restarting;
      room = c.self.inside.room;
    } in
    let r : Receiving = settled c.args.self.now in
    let is : inside ≡ r = c.self.view_is ∙ c.settle.ensures in
    let answer = c.pop_counted-answer.result.0 in
    let waits : waiting_at r c.args.now.0 ≡ Some h = ap (λ (x : Receiving). waiting_at x c.args.now.0) (sym c.settle.ensures) ∙ (sym c.waiting.ensures ∙ c.in-Some.is) in
    let made : PopsWith (Some h) inside answer (record inside { buffer = c.pop_counted-answer.new.self; counters = c.with_pop-self-inside.result }) =
    pops_with_is (Some h) h inside c.set_hold_back.new.self c.pop_counted-answer.new.self answer c.pop_counted-answer.result.1 c.with_pop-self-inside.result refl c.set_hold_back.ensures
    c.pop_counted-answer.ensures.pops
    (c.with_pop-self-inside.ensures ∙ (ap (λ n. counted_pop c.self.inside.counters n c.packets_in-released.result c.pop_counted-answer.result.1) c.units_in-units.ensures
    ∙ ap (λ n. counted_pop c.self.inside.counters (units_in answer) n c.pop_counted-answer.result.1) c.packets_in-released.ensures)) in
    subst (λ (w : Option ℕ). PopsWith w r answer (record inside { buffer = c.pop_counted-answer.new.self; counters = c.with_pop-self-inside.result })) (sym waits)
    (subst (λ (x : Receiving). PopsWith (Some h) x answer (record inside { buffer = c.pop_counted-answer.new.self; counters = c.with_pop-self-inside.result })) is made)

pub returns-clause-drained : goal.returns-clause-drained
returns-clause-drained g c = λ pressed none.
    let s : State = c.set_hold_back.new.self in
    let t : State = c.pop_counted-answer.new.self in
    let pops : Pops s None t = subst (λ (answer : Option (Result Release PacketError)). Pops s answer t) none c.pop_counted-answer.ensures.pops.0 in
    let zero_is : c.in-Some.hold_back ≡ 0 = pressed_waits_for_none c.settle.new.self c.args.now.0 c.in-Some.hold_back
    (ap (λ (r : Receiving). is_pressed r c.args.now.0) c.settle.ensures ∙ pressed) (sym c.waiting.ensures ∙ c.in-Some.is) in
    let set : s.hold_back ≡ c.in-Some.hold_back = ap (λ (x : State). x.hold_back) c.set_hold_back.ensures in
    let few : length (frames t.held) ≤ s.hold_back = c.pops_leave_few.ensures.few s t pops in
    omega (arith, few, set, zero_is)

pub returns-clause-crowded : goal.returns-clause-crowded
returns-clause-crowded g c = λ crowded none.
    let s : State = c.set_hold_back.new.self in
    let t : State = c.pop_counted-answer.new.self in
    let pops : Pops s None t = subst (λ (answer : Option (Result Release PacketError)). Pops s answer t) none c.pop_counted-answer.ensures.pops.0 in
    let zero_is : c.in-Some.hold_back ≡ 0 = pressed_waits_for_none c.settle.new.self c.args.now.0 c.in-Some.hold_back
    (ap (λ (r : Receiving). is_pressed r c.args.now.0) c.settle.ensures ∙ crowded_presses c.args.self.now c.args.now.0 crowded) (sym c.waiting.ensures ∙ c.in-Some.is) in
    let set : s.hold_back ≡ c.in-Some.hold_back = ap (λ (x : State). x.hold_back) c.set_hold_back.ensures in
    let few : length (frames t.held) ≤ s.hold_back = c.pops_leave_few.ensures.few s t pops in
    none_left (frames t.held) (omega (arith, few, set, zero_is))

pub returns-clause-fewer : goal.returns-clause-fewer
returns-clause-fewer g c =
    let s : State = c.set_hold_back.new.self in
    let t : State = c.pop_counted-answer.new.self in
    let set : length s.held ≡ length c.self.inside.buffer.held = ap (λ (x : State). length x.held) c.set_hold_back.ensures in
    let seen : length c.self.inside.buffer.held ≡ length c.settle.new.self.buffer.held = ap (λ (r : Receiving). length r.buffer.held) c.self.view_is in
    taken_from _ s c.args.self.now.buffer t (set ∙ (seen ∙ (ap (λ (r : Receiving). length r.buffer.held) c.settle.ensures ∙ settled_holds c.args.self.now))) c.pop_counted-answer.ensures.fewer

pub returns-in_default-clause-crowded : goal.returns-in_default-clause-crowded
returns-in_default-clause-crowded g c = λ crowded none. absurd (crowded_waits c.args.self.now c.args.now.0 crowded (ap (λ (r : Receiving). waiting_at r c.args.now.0) (sym c.settle.ensures) ∙ (sym c.waiting.ensures ∙ c.in_default.is)))

pub returns-clause-own : goal.returns-clause-own
returns-clause-own g c = λ other.
    let h : ℕ = c.in-Some.hold_back in
    let r : Receiving = settled c.args.self.now in
    let answer = c.pop_counted-answer.result.0 in
    let set : c.set_hold_back.new.self ≡ record r.buffer { hold_back = h } =
    c.set_hold_back.ensures ∙ ap (λ (x : Receiving). record x.buffer { hold_back = h }) (c.self.view_is ∙ c.settle.ensures) in
    let custom : is_built_in_depacketizer c.set_hold_back.new.self.depacketizer ≡ false =
    ap (λ (x : State). is_built_in_depacketizer x.depacketizer) set ∙ (ap is_built_in_depacketizer (settled_stays c.args.self.now) ∙ other) in
    let waits : waiting_at r c.args.now.0 ≡ Some h = ap (λ (x : Receiving). waiting_at x c.args.now.0) (sym c.settle.ensures) ∙ (sym c.waiting.ensures ∙ c.in-Some.is) in
    subst (λ (w : Option ℕ). OwnPopsWith g.B.Depacketizer.state g.B.Depacketizer.depacketize_step w r answer) (sym waits)
    (subst (λ (x : State). OwnPops g.B.Depacketizer.state g.B.Depacketizer.depacketize_step x answer) set (c.pop_counted-answer.ensures.own custom))
