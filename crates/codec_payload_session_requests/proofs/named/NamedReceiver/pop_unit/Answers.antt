use Rattle.std.proofs.Common.{◌≡◌, ◌∙◌, ap, subst, sym}
use Rattle.codec_payload_buffer.specs.Steps.{popped_to}
use Rattle.codec_payload_receiver.specs.Pops.{Answer, PopsGated, answer_of, is_large, is_too_large}
use Rattle.codec_payload_receiver.specs.Sessions.{Session as Receiver}
use Rattle.codec_payload_session_requests.specs.Named.{popped_with}
use Rattle.codec_payload_session_requests.proofs.NamedLemmas.{pops_named, answer_with, names_with, large_with}
use Rattle.codec_payload_session_requests.proofs.named.NamedReceiver.pop_unit.Goals as goal

pub invariant_of-self : goal.invariant_of-self
invariant_of-self c =
    let answer = popped_to (answer_of c.pop_unit.result) c.pop_unit.new.unit in
    pops_named c.args.now.0 c.self.inside.receiver.value c.pop_unit.new.self answer c.self.invariant
    (subst (λ (s : Receiver). PopsGated c.args.now.0 s answer c.pop_unit.new.self) c.deref_mut.ensures.value c.pop_unit.ensures.pops)

pub returns-clause-pops : goal.returns-clause-pops
returns-clause-pops c =
    subst (λ (s : Receiver). PopsGated c.args.now.0 s (answer_of (popped_with c.pop_unit.result c.pop_unit.new.unit)) c.pop_unit.new.self) (c.deref_mut.ensures.value ∙ c.self.view_is)
    (subst (λ (a : Answer). PopsGated c.args.now.0 c.deref_mut.result.now a c.pop_unit.new.self) (sym (answer_with c.pop_unit.result c.pop_unit.new.unit)) c.pop_unit.ensures.pops)

pub returns-clause-refused : goal.returns-clause-refused
returns-clause-refused c = names_with c.pop_unit.result c.pop_unit.new.unit c.pop_unit.ensures.refused

pub returns-clause-large : goal.returns-clause-large
returns-clause-large c =
    subst (λ (s : Receiver). is_too_large (popped_with c.pop_unit.result c.pop_unit.new.unit) ≡ is_large s.bound.most (answer_of (popped_with c.pop_unit.result c.pop_unit.new.unit)))
    (c.deref_mut.ensures.value ∙ c.self.view_is)
    (large_with c.pop_unit.result c.pop_unit.new.unit ∙ (c.pop_unit.ensures.large ∙ ap (is_large c.deref_mut.result.now.bound.most) (sym (answer_with c.pop_unit.result c.pop_unit.new.unit))))
