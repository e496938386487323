use Rattle.std.proofs.Common.{◌≡◌, ◌∙◌, ap, sym, subst, Option, Some, None, Result, Ok, Err}
use Rattle.codec_payload_base.specs.declared.error.PacketError.{PacketError}
use Rattle.codec_payload_buffer.specs.Leaving.{PopsLeaving}
use Rattle.codec_payload_metadata.specs.Release.{Release}
use Rattle.codec_payload_buffer.specs.Steps.{popped_into}
use Rattle.codec_payload_buffer.specs.declared.buffer.unit.UnitInfo.{UnitInfo}
use Rattle.codec_payload_buffer.proofs.buffer.DepacketizingBuffer.pop_counted.Goals as goal

pub returns-in-Some-Ok-clause-own : goal.returns-in-Some-Ok-clause-own
returns-in-Some-Ok-clause-own g c = λ other. rw c.unit_of.ensures (rw (c.in-Some-Ok.is, c.in-Some-Ok.field-0-is) at c.pop_counted_into-answer.ensures.own other)

pub returns-in-Some-Ok-clause-pops : goal.returns-in-Some-Ok-clause-pops
returns-in-Some-Ok-clause-pops g c =
    let call = c.pop_counted_into-answer in
    let same : popped_into call.result.0 call.new.bytes.items call.new.metas.items ≡ Some (Ok c.unit_of.result) =
    ap (λ (x : Option (Result UnitInfo PacketError)). popped_into x call.new.bytes.items call.new.metas.items) (c.in-Some-Ok.is ∙ ap Some c.in-Some-Ok.field-0-is)
    ∙ ap (λ (r : Release). Some (Ok r)) (sym c.unit_of.ensures) in
    subst (λ (a : Option (Result Release PacketError)). PopsLeaving c.args.self.now a call.result.1 call.new.self) same call.ensures.pops

pub returns-in-Some-Err-clause-pops : goal.returns-in-Some-Err-clause-pops
returns-in-Some-Err-clause-pops g c =
    let call = c.pop_counted_into-answer in
    let same : popped_into call.result.0 call.new.bytes.items call.new.metas.items ≡ Some (Err c.in-Some-Err.fault) =
    ap (λ (x : Option (Result UnitInfo PacketError)). popped_into x call.new.bytes.items call.new.metas.items) (c.in-Some-Err.is ∙ ap Some c.in-Some-Err.field-0-is) in
    subst (λ (a : Option (Result Release PacketError)). PopsLeaving c.args.self.now a call.result.1 call.new.self) same call.ensures.pops

pub returns-in-None-clause-pops : goal.returns-in-None-clause-pops
returns-in-None-clause-pops g c =
    let call = c.pop_counted_into-answer in
    let same : popped_into call.result.0 call.new.bytes.items call.new.metas.items ≡ None =
    ap (λ (x : Option (Result UnitInfo PacketError)). popped_into x call.new.bytes.items call.new.metas.items) c.in-None.is in
    subst (λ (a : Option (Result Release PacketError)). PopsLeaving c.args.self.now a call.result.1 call.new.self) same call.ensures.pops
