use Rattle.std.proofs.Common.{rules, ◌≤◌, [], length, refl}
use Rattle.std.proofs.lemmas.List.{append-nil, drop_all}
use Rattle.codec_payload_buffer_runs.proofs.order.RunLogs.{promises}
use Rattle.codec_payload_buffer_runs.specs.RunPromises.{RunsAsSteps, ran}
use Rattle.codec_payload_buffer_runs.specs.Schedule.{run_state}
use Rattle.codec_payload_buffer_runs.proofs.plain.run_plain.Goals as goal

pub returns-clause-promises : goal.returns-clause-promises
returns-clause-promises g c =
    let at_end : length c.args.steps.now ≤ c.loop-place.place = search rules in
    let after = run_state c.loop-place.payloader c.loop-place.buffer c.loop-place.sink in
    let whole = c.loop-place.invariant.completes [] [] after (rw (drop_all _ _ at_end) (refl, refl, refl)) in
    let runs : RunsAsSteps (ran c.args.samples.now c.args.steps.now (run_state c.args.payloader.now c.args.buffer.now c.args.sink.now) c.loop-place.run after) = simp append-nil at whole in
    promises (ran c.args.samples.now c.args.steps.now (run_state c.args.payloader.now c.args.buffer.now c.args.sink.now) c.loop-place.run after) runs
