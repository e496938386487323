use Rattle.std.proofs.Common.{◌≡◌, ◌≤◌, length, take, vec_capacity}
use Rattle.codec_payload_session_runs.specs.SessionRuns.{Runs, calls_of}
use Rattle.codec_payload_session_runs.proofs.run.run_session.Given as goal

-- the steps in front of this one were made
abbrev pub invariant-loop-step : goal.invariant-loop-step
invariant-loop-step l = record {
  each : length l.answers.items ≡ l.step-index;
  room : length l.steps ≤ vec_capacity l.answers;
  runs : Runs (calls_of (take l.step-index l.steps) l.answers.items) l.fn.session l.session;
}
