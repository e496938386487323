use Rattle.std.proofs.Common.{◌≡◌, ◌*◌, ◌-◌, ◌≤◌}
use Rattle.codec_payload_media.specs.OpusPackets.{lengths_at}
use Rattle.codec_payload_media.proofs.opus.read_lengths.Given as goal

abbrev pub invariant-loop : goal.invariant-loop
invariant-loop l = record {
  within : l.counter ≤ l.count;
  bound : l.sum ≤ 1275 * l.counter;
  same : lengths_at (l.count - l.counter) l.sum l.rest ≡ lengths_at l.count 0 l.bytes;
}
