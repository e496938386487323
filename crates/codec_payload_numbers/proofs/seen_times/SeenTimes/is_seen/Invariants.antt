use Rattle.std.proofs.Common.{◌≡◌, drop}
use Rattle.codec_payload_numbers.specs.SeenTimes.{is_seen}
use Rattle.codec_payload_numbers.proofs.seen_times.SeenTimes.is_seen.Given as goal

abbrev pub invariant-loop-place : goal.invariant-loop-place
invariant-loop-place l = is_seen l.time (drop l.place l.self.places) ≡ is_seen l.time l.self.places
