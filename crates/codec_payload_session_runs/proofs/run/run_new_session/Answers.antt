use Rattle.std.proofs.Common.{subst}
use Rattle.codec_payload_session_formats.specs.Checks.{fault_of}
use Rattle.codec_payload_session.specs.Ports.{Session}
use Rattle.codec_payload_session_runs.specs.SessionRuns.{Runs, calls_of}
use Rattle.codec_payload_session_runs.proofs.RunLemmas.{made_new, made_none, refused_by}
use Rattle.codec_payload_session_runs.proofs.run.run_new_session.Goals as goal

pub returns-in-Ok-run_session-clause-runs : goal.returns-in-Ok-run_session-clause-runs
returns-in-Ok-run_session-clause-runs c =
    subst (λ (s : Session). Runs (calls_of c.args.steps.now c.in-Ok-run_session.run'.answers.items) s c.run_session.new.session)
    (made_new (fault_of c.args.settings) c.args.settings c.in-Ok.session c.in-Ok.ensures) c.in-Ok-run_session.ensures.runs

pub returns-in-Ok-run_session-clause-counted : goal.returns-in-Ok-run_session-clause-counted
returns-in-Ok-run_session-clause-counted c =
    c.in-Ok-run_session.ensures.counted c.args.settings (made_new (fault_of c.args.settings) c.args.settings c.in-Ok.session c.in-Ok.ensures)

pub returns-in-Ok-run_session-clause-alone : goal.returns-in-Ok-run_session-clause-alone
returns-in-Ok-run_session-clause-alone c =
    c.in-Ok-run_session.ensures.alone c.args.settings (made_new (fault_of c.args.settings) c.args.settings c.in-Ok.session c.in-Ok.ensures)

pub returns-in-Ok-run_session-clause-ended : goal.returns-in-Ok-run_session-clause-ended
returns-in-Ok-run_session-clause-ended c =
    c.in-Ok-run_session.ensures.ended c.args.settings (made_new (fault_of c.args.settings) c.args.settings c.in-Ok.session c.in-Ok.ensures)

pub returns-in-Ok-run_session-clause-order : goal.returns-in-Ok-run_session-clause-order
returns-in-Ok-run_session-clause-order c =
    c.in-Ok-run_session.ensures.order c.args.settings (made_new (fault_of c.args.settings) c.args.settings c.in-Ok.session c.in-Ok.ensures)

pub returns-in-Ok-run_session-clause-usable : goal.returns-in-Ok-run_session-clause-usable
returns-in-Ok-run_session-clause-usable c = made_none (fault_of c.args.settings) c.args.settings c.in-Ok.session c.in-Ok.ensures

pub returns-in-Err-clause-refused : goal.returns-in-Err-clause-refused
returns-in-Err-clause-refused c = refused_by (fault_of c.args.settings) c.args.settings c.in-Err.fault c.in-Err.ensures
