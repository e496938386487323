use Rattle.std.proofs.Common.{◌≡◌, drop}
use Rattle.codec_payload_feedback_requests.specs.Requests.{earlier}
use Rattle.codec_payload_feedback_requests.specs.RoundTrips.{least_most, median}
use Rattle.codec_payload_feedback_requests.proofs.round_trip.median.Given as goal

abbrev pub invariant-loop-sample : goal.invariant-loop-sample
invariant-loop-sample l = earlier l.least (least_most (drop l.sample-index l.samples) l.samples) ≡ median l.samples
