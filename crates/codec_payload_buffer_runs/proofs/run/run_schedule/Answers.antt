use Rattle.std.proofs.Common.{refl}
use Rattle.codec_payload_buffer_runs.proofs.run.run_schedule.Goals as goal

pub returns-in-Some-clause-red_promises : goal.returns-in-Some-clause-red_promises
returns-in-Some-clause-red_promises g c = rw c.in-Some.is (c.run_in_red.new.red.sender.now, refl, c.run_in_red.ensures.promises)

pub returns-in-Some-clause-red_stops : goal.returns-in-Some-clause-red_stops
returns-in-Some-clause-red_stops g c = rw c.in-Some.is (c.run_in_red.new.red.sender.now, refl, c.run_in_red.ensures.stops)
