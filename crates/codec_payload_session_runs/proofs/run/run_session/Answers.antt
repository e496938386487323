use Rattle.std.proofs.Common.{◌≡◌, ◌≤◌, ◌∙◌, ◌+◌, ◌++◌, ◌∷◌, [], ℕ, List, arith, length-append, length-take, sym, ap, subst, length, take, rules}
use Rattle.std.proofs.lemmas.List.{take_all, take_more}
use Rattle.codec_payload_session.specs.Ports.{Session, taken_in}
use Rattle.codec_payload_session_runs.proofs.CountLemmas.{counted}
use Rattle.codec_payload_session_runs.proofs.ReachedLemmas.{each_ended, reached}
use Rattle.codec_payload_session_runs.proofs.RunLemmas.{calls_more, runs_more}
use Rattle.codec_payload_session_runs.specs.SessionRuns.{Call, Runs, calls_of}
use Rattle.codec_payload_session_runs.specs.declared.run.SessionStep.{SessionStep}
use Rattle.codec_payload_session_runs.specs.declared.run.StepAnswer.{StepAnswer}
use Rattle.codec_payload_session_runs.proofs.run.run_session.Goals as goal

pub loop-step-preserved : goal.loop-step-preserved
loop-step-preserved c =
    let more : take (c.loop-step.step-index + 1) c.args.steps.now ≡ take c.loop-step.step-index c.args.steps.now ++ c.step-item.result ∷ [] =
    take_more c.args.steps.now c.loop-step.step-index c.step-item.result c.loop-step-test.true ∙ ap (λ (x : SessionStep). take c.loop-step.step-index c.args.steps.now ++ x ∷ []) (sym c.step-item.is) in
    let gained : c.push.new.self.items ≡ c.loop-step.answers.items ++ c.do_step.result ∷ [] = search rules in
    let same : length c.loop-step.answers.items ≡ length (take c.loop-step.step-index c.args.steps.now) =
    omega (arith, c.loop-step.invariant.each, length-take {A = SessionStep}, c.loop-step-test.true) in
    record {
      each = omega (arith, ap (λ (xs : List StepAnswer). length xs) gained, length-append {A = StepAnswer}, c.loop-step.invariant.each);
      room = omega (arith, c.push.ensures.capacity, c.loop-step.invariant.room);
      runs =
          subst (λ (xs : List SessionStep). Runs (calls_of xs c.push.new.self.items) c.args.session.now c.do_step.new.session) (sym more)
          (subst (λ (ys : List StepAnswer). Runs (calls_of (take c.loop-step.step-index c.args.steps.now ++ c.step-item.result ∷ []) ys) c.args.session.now c.do_step.new.session) (sym gained)
          (subst (λ (cs : List Call). Runs cs c.args.session.now c.do_step.new.session)
          (sym (calls_more (take c.loop-step.step-index c.args.steps.now) c.loop-step.answers.items c.step-item.result c.do_step.result same))
          (runs_more (calls_of (take c.loop-step.step-index c.args.steps.now) c.loop-step.answers.items) c.args.session.now c.loop-step.session c.do_step.new.session c.step-item.result c.do_step.result
          c.loop-step.invariant.runs c.do_step.ensures)));
    }

-- all steps were made
all_made : (steps : List SessionStep) (i : ℕ) (answers : List StepAnswer) (s t : Session) → length steps ≤ i → Runs (calls_of (take i steps) answers) s t → Runs (calls_of steps answers) s t
all_made steps i answers s t past run = subst (λ (xs : List SessionStep). Runs (calls_of xs answers) s t) (take_all i steps past) run

pub returns-clause-counted : goal.returns-clause-counted
returns-clause-counted c = λ settings is.
    counted settings (calls_of c.args.steps.now c.loop-step.answers.items) c.loop-step.session c.counts.result (taken_in c.loop-step.session.port.streams)
    (subst (λ (s : Session). Runs (calls_of c.args.steps.now c.loop-step.answers.items) s c.loop-step.session) is
    (all_made c.args.steps.now c.loop-step.step-index c.loop-step.answers.items c.args.session.now c.loop-step.session c.loop-step-test.false c.loop-step.invariant.runs))
    c.counts.ensures.value c.counts.ensures.accounted

pub returns-clause-alone : goal.returns-clause-alone
returns-clause-alone c = λ settings is.
    (reached settings (calls_of c.args.steps.now c.loop-step.answers.items) c.loop-step.session
    (subst (λ (s : Session). Runs (calls_of c.args.steps.now c.loop-step.answers.items) s c.loop-step.session) is
    (all_made c.args.steps.now c.loop-step.step-index c.loop-step.answers.items c.args.session.now c.loop-step.session c.loop-step-test.false c.loop-step.invariant.runs))).alone

pub returns-clause-ended : goal.returns-clause-ended
returns-clause-ended c = λ settings is.
    each_ended settings (calls_of c.args.steps.now c.loop-step.answers.items) c.loop-step.session
    (subst (λ (s : Session). Runs (calls_of c.args.steps.now c.loop-step.answers.items) s c.loop-step.session) is
    (all_made c.args.steps.now c.loop-step.step-index c.loop-step.answers.items c.args.session.now c.loop-step.session c.loop-step-test.false c.loop-step.invariant.runs))

pub returns-clause-order : goal.returns-clause-order
returns-clause-order c = λ settings is.
    (reached settings (calls_of c.args.steps.now c.loop-step.answers.items) c.loop-step.session
    (subst (λ (s : Session). Runs (calls_of c.args.steps.now c.loop-step.answers.items) s c.loop-step.session) is
    (all_made c.args.steps.now c.loop-step.step-index c.loop-step.answers.items c.args.session.now c.loop-step.session c.loop-step-test.false c.loop-step.invariant.runs))).order
