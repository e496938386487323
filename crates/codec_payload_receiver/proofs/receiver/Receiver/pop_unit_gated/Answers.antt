use Rattle.std.proofs.Common.{◌≡◌, ◌∙◌, Bool, sym, subst, true, arith, length}
use Rattle.codec_payload_buffer.specs.Steps.{popped_to}
use Rattle.codec_payload_jitter.specs.Receiving.{is_pressed, settled}
use Rattle.codec_payload_receiver.specs.Pops.{PassesOnce, none_dropped}
use Rattle.codec_payload_receiver.specs.Sessions.{Session}
use Rattle.codec_payload_receiver.proofs.OwnLemmas.{drops_stays}
use Rattle.codec_payload_receiver.proofs.PopLemmas.{dropped_most, no_more, none_are_dropped, once_most, one_more_dropped, taken_within}
use Rattle.codec_payload_receiver.proofs.receiver.Receiver.pop_unit_gated.Goals as goal

pub returns-then-is_passed-clause-pops : goal.returns-then-is_passed-clause-pops
returns-then-is_passed-clause-pops g c = record {
  mid = c.args.self.now;
  dropped = none_dropped;
  pops = c.pop_unit_once-is_passed.ensures.pops.0;
  passed = sym c.pop_unit_once-is_passed.ensures.pops.1 ∙ c.if-is_passed.true;
}

pub returns-then-is_passed-clause-own : goal.returns-then-is_passed-clause-own
returns-then-is_passed-clause-own g c = λ other. (c.args.self.now, none_dropped, c.pop_unit_once-is_passed.ensures.own other)

pub loop-now-init : goal.loop-now-init
loop-now-init g c =
    let passes = subst (λ (b : Bool). PassesOnce c.args.now.0 c.args.self.now (popped_to c.pop_unit_once-is_passed.result.0 c.pop_unit_once-is_passed.new.unit) b c.pop_unit_once-is_passed.new.self) c.if-is_passed.false c.pop_unit_once-is_passed.ensures.pops in (
      one_more_dropped c.args.now.0 c.args.self.now c.args.self.now c.pop_unit_once-is_passed.new.self (popped_to c.pop_unit_once-is_passed.result.0 c.pop_unit_once-is_passed.new.unit) none_dropped passes,
      no_more c.args.now.0 c.args.self.now c.pop_unit_once-is_passed.new.self (popped_to c.pop_unit_once-is_passed.result.0 c.pop_unit_once-is_passed.new.unit) c.args.self.now.packets.buffer c.pop_unit_once-is_passed.new.self.packets.buffer (length c.args.self.now.packets.buffer.held) c.pop_unit_once-is_passed.ensures.fewer passes (omega arith),
    )

pub returns-then-is_passed-2-clause-pops : goal.returns-then-is_passed-2-clause-pops
returns-then-is_passed-2-clause-pops g c = record {
  mid = c.loop-now.self;
  dropped = c.loop-now.invariant.0;
  pops = c.pop_unit_again-is_passed.ensures.pops.0;
  passed = sym c.pop_unit_again-is_passed.ensures.pops.1 ∙ c.if-is_passed-2.true;
}

pub returns-then-is_passed-2-clause-drained : goal.returns-then-is_passed-2-clause-drained
returns-then-is_passed-2-clause-drained g c = λ keeps pressed none.
    let same = none_are_dropped c.args.now.0 c.args.self.now c.loop-now.self keeps c.loop-now.invariant.0 in
    c.pop_unit_again-is_passed.ensures.drained (subst (λ (x : Session). is_pressed (settled x.packets) c.args.now.0 ≡ true) (sym same) pressed) none

pub loop-now-preserved : goal.loop-now-preserved
loop-now-preserved g c =
    let passes = subst (λ (b : Bool). PassesOnce c.args.now.0 c.loop-now.self (popped_to c.pop_unit_again-is_passed.result.0 c.pop_unit_again-is_passed.new.unit) b c.pop_unit_again-is_passed.new.self) c.if-is_passed-2.false c.pop_unit_again-is_passed.ensures.pops in (
      one_more_dropped c.args.now.0 c.args.self.now c.loop-now.self c.pop_unit_again-is_passed.new.self (popped_to c.pop_unit_again-is_passed.result.0 c.pop_unit_again-is_passed.new.unit) c.loop-now.invariant.0 passes,
      no_more c.args.now.0 c.loop-now.self c.pop_unit_again-is_passed.new.self (popped_to c.pop_unit_again-is_passed.result.0 c.pop_unit_again-is_passed.new.unit) c.loop-now.self.packets.buffer c.pop_unit_again-is_passed.new.self.packets.buffer (length c.args.self.now.packets.buffer.held) c.pop_unit_again-is_passed.ensures.fewer passes c.loop-now.invariant.1,
    )

pub returns-then-is_passed-2-clause-fewer : goal.returns-then-is_passed-2-clause-fewer
returns-then-is_passed-2-clause-fewer g c = taken_within (popped_to c.pop_unit_again-is_passed.result.0 c.pop_unit_again-is_passed.new.unit) c.loop-now.self.packets.buffer c.args.self.now.packets.buffer c.pop_unit_again-is_passed.new.self.packets.buffer c.loop-now.invariant.1 c.pop_unit_again-is_passed.ensures.fewer

pub returns-then-is_passed-2-clause-own : goal.returns-then-is_passed-2-clause-own
returns-then-is_passed-2-clause-own g c = λ other. (
  c.loop-now.self,
  c.loop-now.invariant.0,
  c.pop_unit_again-is_passed.ensures.own (drops_stays c.args.now.0 c.args.self.now c.loop-now.self c.loop-now.invariant.0 ∙ other),
)

pub returns-then-is_passed-2-clause-most : goal.returns-then-is_passed-2-clause-most
returns-then-is_passed-2-clause-most g c =
    once_most c.args.now.0 c.loop-now.self (popped_to c.pop_unit_again-is_passed.result.0 c.pop_unit_again-is_passed.new.unit) c.pop_unit_again-is_passed.new.self c.pop_unit_again-is_passed.ensures.pops.0 ∙ dropped_most c.args.now.0 c.args.self.now c.loop-now.self c.loop-now.invariant.0
