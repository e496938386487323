use Rattle.std.proofs.Common.{◌≡◌, List, ◌++◌, map, drop}
use Rattle.codec_payload_buffer_runs.specs.Schedule.{RunState, run_state, Runs, Stops, Answer}
use Rattle.codec_payload_payloader.specs.Sending.{sample_of}
use Rattle.codec_payload_buffer_runs.specs.declared.run.Sent.{Sent}
use Rattle.codec_payload_buffer_runs.proofs.plain.run_plain.Given as goal

-- any result of the remaining steps completes the result of all steps
abbrev pub invariant-loop-place : goal.invariant-loop-place
invariant-loop-place g l =
    let samples = map sample_of l.samples in
    let before = run_state l.fn.payloader l.fn.buffer l.fn.sink in
    let now = run_state l.payloader l.buffer l.sink in
    record {
      completes : (sends : List Sent) (pops : List Answer) (after : RunState) → Runs samples l.place (drop l.place l.steps) now sends pops after
          → Runs samples 0 l.steps before (l.run.sends.items ++ sends) (l.run.pops.items ++ pops) after;
      limit : l.buffer.limit ≡ l.fn.buffer.limit;
      stops : (after : RunState) → Stops samples l.place (drop l.place l.steps) now after → Stops samples 0 l.steps before after;
    }
