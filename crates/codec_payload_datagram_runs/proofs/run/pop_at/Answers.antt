use Rattle.std.proofs.Common.{◌≡◌, Some, Result, Ok, arith, subst}
use Rattle.std.specs.declared.alloc.AllocError.{AllocError}
use Rattle.codec_payload_metadata.specs.Release.{Release}
use Rattle.codec_payload_receiver.specs.OwnSessions.{OwnPopsGated}
use Rattle.codec_payload_receiver.specs.Pops.{answer_of}
use Rattle.codec_payload_receiver.specs.declared.pops.Popped.{Popped}
use Rattle.codec_payload_receiver.specs.declared.pops.Popped.TheVariants as popped
use Rattle.codec_payload_datagram_runs.proofs.run.pop_at.Goals as goal

pub returns-in-Some-Ok-Unit-clause-own : goal.returns-in-Some-Ok-Unit-clause-own
returns-in-Some-Ok-Unit-clause-own g c = λ other.
    let is : c.in-Some-Ok-Unit.field-0 ≡ Ok (popped.Unit c.in-Some-Ok-Unit.unit) = grind (arith, c.in-Some-Ok-Unit.field-0-is, c.in-Some-Ok-Unit.field-0-0-is, c.in-Some-Ok-Unit.unit-is) in
    subst (λ (r : Result (Popped Release) AllocError). OwnPopsGated g.D.Depacketizer.state g.D.Depacketizer.depacketize_step c.args.now.0 c.args.receiver.now (answer_of (Some r))) is (c.in-Some-Ok-Unit.ensures.own other)

pub returns-in-Some-Ok-TooLarge-clause-own : goal.returns-in-Some-Ok-TooLarge-clause-own
returns-in-Some-Ok-TooLarge-clause-own g c = λ other.
    let is : c.in-Some-Ok-TooLarge.field-0 ≡ Ok (popped.TooLarge c.in-Some-Ok-TooLarge.unit) = grind (arith, c.in-Some-Ok-TooLarge.field-0-is, c.in-Some-Ok-TooLarge.field-0-0-is, c.in-Some-Ok-TooLarge.unit-is) in
    subst (λ (r : Result (Popped Release) AllocError). OwnPopsGated g.D.Depacketizer.state g.D.Depacketizer.depacketize_step c.args.now.0 c.args.receiver.now (answer_of (Some r))) is (c.in-Some-Ok-TooLarge.ensures.own other)

pub returns-in-Some-Ok-Refused-clause-own : goal.returns-in-Some-Ok-Refused-clause-own
returns-in-Some-Ok-Refused-clause-own g c = λ other.
    let is : c.in-Some-Ok-Refused.field-0 ≡ Ok (popped.Refused c.in-Some-Ok-Refused.fault) = grind (arith, c.in-Some-Ok-Refused.field-0-is, c.in-Some-Ok-Refused.field-0-0-is, c.in-Some-Ok-Refused.fault-is) in
    subst (λ (r : Result (Popped Release) AllocError). OwnPopsGated g.D.Depacketizer.state g.D.Depacketizer.depacketize_step c.args.now.0 c.args.receiver.now (answer_of (Some r))) is (c.in-Some-Ok-Refused.ensures.own other)
