use Rattle.std.proofs.Common.{◌≡◌, ◌-◌, ◌*◌, ◌<◌, length, is_some}
use Rattle.codec_payload_red.specs.RedReading.{blocks_at}
use Rattle.codec_payload_red.proofs.red.blocks.blocks_are_whole.Given as goal

abbrev pub invariant-loop : goal.invariant-loop
invariant-loop l = record {
  same : is_some (blocks_at (l.count - l.counter) l.heads l.rest) ≡ is_some (blocks_at l.count l.headers l.bodies);
  there : 4 * (l.count - l.counter) < length l.heads;
}
