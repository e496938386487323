use Rattle.std.proofs.Common.{◌≡◌, ◌+◌, ◌*◌, ◌-◌, ◌≤◌}
use Rattle.codec_payload_vpx.specs.Vp9Superframes.{size_sum}
use Rattle.codec_payload_vpx.proofs.vp9.superframe.size_sum.Given as goal

abbrev pub invariant-loop : goal.invariant-loop
invariant-loop l = record {
  within : l.counter ≤ l.count;
  bound : l.sum ≤ 4294967296 * l.counter;
  same : l.sum + size_sum (l.count - l.counter) l.width l.rest ≡ size_sum l.count l.width l.sizes;
}
