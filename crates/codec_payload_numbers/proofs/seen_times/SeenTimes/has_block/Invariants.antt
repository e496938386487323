use Rattle.std.proofs.Common.{◌≡◌, drop}
use Rattle.codec_payload_numbers.specs.SeenTimes.{has_block}
use Rattle.codec_payload_numbers.proofs.seen_times.SeenTimes.has_block.Given as goal

abbrev pub invariant-loop-place : goal.invariant-loop-place
invariant-loop-place l = has_block l.time (drop l.place l.self.places) ≡ has_block l.time l.self.places
