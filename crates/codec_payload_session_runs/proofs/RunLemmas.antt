-- Runs of a session, call by call.
use Rattle.std.proofs.Common.{◌≡◌, refl, ap, subst, List, [], ◌∷◌, ◌++◌, Option, Some, None, Ok, Err, length, arith}
use Rattle.codec_payload_session.specs.Ports.{Session, made_of, new_session}
use Rattle.codec_payload_session_formats.specs.declared.checks.SessionSettingsError.{SessionSettingsError}
use Rattle.codec_payload_session_formats.specs.declared.formats.SessionSettings.{SessionSettings as Settings}
use Rattle.codec_payload_session_runs.specs.SessionRuns.{Call, Does, Runs, calls_of, refusal_of}
use Rattle.codec_payload_session_runs.specs.declared.run.NewRunError.TheVariants as refusals
use Rattle.codec_payload_session_runs.specs.declared.run.SessionStep.{SessionStep}
use Rattle.codec_payload_session_runs.specs.declared.run.StepAnswer.{StepAnswer}

-- one more call
pub runs_more : (cs : List Call) (s mid t : Session) (step : SessionStep) (answer : StepAnswer) → Runs cs s mid → Does step mid answer t
    → Runs (cs ++ record { step = step; answer = answer } ∷ []) s t
runs_more [] s mid t step answer run does = (t, subst (λ (x : Session). Does step x answer t) run does, refl)
runs_more (c ∷ cs) s mid t step answer run does = (run.0, run.1, runs_more cs run.0 mid t step answer run.2 does)

pub calls_more : (ss : List SessionStep) (rs : List StepAnswer) (step : SessionStep) (answer : StepAnswer) → length rs ≡ length ss
    → calls_of (ss ++ step ∷ []) (rs ++ answer ∷ []) ≡ calls_of ss rs ++ record { step = step; answer = answer } ∷ []
calls_more [] [] step answer same = refl
calls_more [] (r ∷ rs) step answer same = absurd (omega arith)
calls_more (s ∷ ss) [] step answer same = absurd (omega arith)
calls_more (s ∷ ss) (r ∷ rs) step answer same = ap (λ (cs : List Call). record { step = s; answer = r } ∷ cs) (calls_more ss rs step answer (omega arith))

-- ---- a new session

pub made_new : (o : Option SessionSettingsError) (settings : Settings) (s : Session) → Ok s ≡ made_of o settings → s ≡ new_session settings
made_new None settings s is = cc
made_new (Some fault) settings s is = absurd (cc)

pub made_none : (o : Option SessionSettingsError) (settings : Settings) (s : Session) → Ok s ≡ made_of o settings → o ≡ None
made_none None settings s is = refl
made_none (Some fault) settings s is = absurd (cc)

pub refused_by : (o : Option SessionSettingsError) (settings : Settings) (fault : SessionSettingsError) → Err fault ≡ made_of o settings → refusal_of o ≡ refusals.Settings fault
refused_by None settings fault is = absurd (cc)
refused_by (Some other) settings fault is = cc
