use Rattle.std.proofs.Common.{◌≡◌, ◌∙◌, Bool, true, Option, None, Some, ap, arith, length, refl, subst, sym}
use Rattle.std.specs.Prelude.{⊤}
use Rattle.std.proofs.lemmas.Bool.Decides.{nat_tests}
use Rattle.codec_payload_session_stream.specs.Quiet.{RestsUntil}
use Rattle.codec_payload_receiver.specs.Sessions.{Session as Receiver}
use Rattle.codec_payload_session_requests.specs.Requests.{Asking, answered_if}
use Rattle.codec_payload_session_stream.specs.Streams.{Pops, RestsBy, StreamState, is_keyframe, step_with, work_deadline}
use Rattle.codec_payload_metadata.specs.Release.{Release}
use Rattle.codec_payload_session_stream.specs.Units.{step_to}
use Rattle.codec_payload_session_requests.specs.Named.{result_with}
use Rattle.codec_payload_session_stream.specs.declared.stream.Step.{Step as StepWith}
use Rattle.codec_payload_session_stream.specs.declared.stream.Step.TheVariants as steps
use Rattle.codec_payload_session_stream.proofs.DoneLemmas.{quiet_after}
use Rattle.codec_payload_session_stream.proofs.QuietLemmas.{nothing_is}
use Rattle.codec_payload_session_stream.proofs.SkipLemmas.{rests_until, seen}
use Rattle.codec_payload_session_stream.proofs.UnitLemmas.{keyframe_with, rests_to, step_pop}
use Rattle.codec_payload_session_stream.proofs.stream.StreamState.pop.Goals as goal

pub invariant_of-self-then-held : goal.invariant_of-self-then-held
invariant_of-self-then-held c =
    let s : StreamState = record (seen c.self.inside) { receiver = c.pop_unit.new.self } in
    let t : StreamState = seen c.self-in-None.inside in
    let nothing : c.rest-step.result.0 ≡ steps.Nothing = nothing_is c.rest-step.result.0 (sym c.is_nothing.ensures ∙ c.if-is_nothing.true) in
    let rests : RestsBy s.stage c.args.now.0 s c.rest-step.result.0 t = subst (λ (x : StreamState). RestsBy s.stage c.args.now.0 s c.rest-step.result.0 x) (sym c.self-in-None.view_is) c.rest-step.ensures.rests in
    let same : length t.receiver.packets.buffer.held ≡ length c.self.inside.receiver.packets.buffer.held = grind (arith, nat_tests, c.if-held.true, c.held.ensures, c.held-held.ensures) in
    let work : c.find_work-work.result ≡ work_deadline t = subst (λ (x : StreamState). c.find_work-work.result ≡ work_deadline x) (sym c.self-in-None.view_is) c.find_work-work.ensures in
    let rest : RestsUntil c.quiet_time-until.result c.args.now.0 t = subst (λ (x : StreamState). RestsUntil c.quiet_time-until.result c.args.now.0 x) (sym c.self-in-None.view_is) c.quiet_time-until.ensures in
    rests_until c.args.now.0 c.quiet_time-until.result c.or_none-kept.result c.find_work-work.result c.self.inside.receiver s t c.in-None.ensures.pops
    (rests_to s.stage c.args.now.0 s t steps.Nothing c.pop_unit.new.unit (subst (λ (x : StepWith ⊤). RestsBy s.stage c.args.now.0 s x t) nothing rests)) same work c.or_none-kept.ensures rest

pub invariant_of-self-in-Some : goal.invariant_of-self-in-Some
invariant_of-self-in-Some c =
    let t : StreamState = record (seen c.self.inside) { receiver = c.pop_unit.new.self; feedback = c.answer_if.new.feedback } in
    let announced : t.announced ≡ true = ap (λ (s : StreamState). s.announced) c.self.view_is ∙ c.requires.announced in
    quiet_after c.args.now.0 c.until_if-until.result 18446744073709551615 c.is_done.result c.self.inside.receiver (result_with c.in-Some.popped c.pop_unit.new.unit) t c.in-Some.ensures.pops announced c.is_done.ensures
    c.until_if-until.ensures

pub returns-in-Some : goal.returns-in-Some
returns-in-Some c =
    let s : StreamState = record (seen c.self.inside) { receiver = c.pop_unit.new.self } in
    let t : StreamState = record s { feedback = c.answer_if.new.feedback } in
    let unit : Release = c.pop_unit.new.unit in
    let keyframe : c.is_keyframe-keyframe.result ≡ is_keyframe (result_with c.in-Some.popped unit) c.pop_unit.new.self =
    c.is_keyframe-keyframe.ensures ∙ ap (λ (r : Receiver). is_keyframe c.in-Some.popped r) c.inner-in-Some.ensures ∙ sym (keyframe_with c.in-Some.popped unit c.pop_unit.new.self) in
    let after : t ≡ record s { feedback = answered_if (is_keyframe (result_with c.in-Some.popped unit) c.pop_unit.new.self) s.feedback } =
    ap (λ (o : Option Asking). record s { feedback = o }) (c.answer_if.ensures ∙ ap (λ (b : Bool). answered_if b s.feedback) keyframe) in
    let step_is : step_to c.step_with.result unit ≡ step_with (result_with c.in-Some.popped unit) = ap (λ (x : StepWith ⊤). step_to x unit) c.step_with.ensures ∙ step_pop c.in-Some.popped unit in
    subst (λ (s : StreamState). Pops c.args.now s (step_to c.step_with.result unit) t) c.self.view_is
    (record { told = Some (result_with c.in-Some.popped unit); receiver = c.pop_unit.new.self; pops = c.in-Some.ensures.pops; refused = c.in-Some.ensures.refused; large = c.in-Some.ensures.large; follows = (step_is, after) })

pub returns-then-held : goal.returns-then-held
returns-then-held c =
    let s : StreamState = record (seen c.self.inside) { receiver = c.pop_unit.new.self } in
    let t : StreamState = seen c.self-in-None.inside in
    let rests : RestsBy s.stage c.args.now.0 s c.rest-step.result.0 t = subst (λ (x : StreamState). RestsBy s.stage c.args.now.0 s c.rest-step.result.0 x) (sym c.self-in-None.view_is) c.rest-step.ensures.rests in
    subst (λ (x : StreamState). Pops c.args.now x (step_to c.rest-step.result.0 c.pop_unit.new.unit) t) c.self.view_is
    (record {
      told = None;
      receiver = c.pop_unit.new.self;
      pops = c.in-None.ensures.pops;
      refused = tt;
      large = refl;
      follows = rests_to s.stage c.args.now.0 s t c.rest-step.result.0 c.pop_unit.new.unit rests;
    })

pub returns-else-is_nothing : goal.returns-else-is_nothing
returns-else-is_nothing c =
    let s : StreamState = record (seen c.self.inside) { receiver = c.pop_unit.new.self } in
    subst (λ (x : StreamState). Pops c.args.now x (step_to c.rest-step.result.0 c.pop_unit.new.unit) c.rest-step.new.self) c.self.view_is
    (record {
      told = None;
      receiver = c.pop_unit.new.self;
      pops = c.in-None.ensures.pops;
      refused = tt;
      large = refl;
      follows = rests_to s.stage c.args.now.0 s c.rest-step.new.self c.rest-step.result.0 c.pop_unit.new.unit c.rest-step.ensures.rests;
    })
