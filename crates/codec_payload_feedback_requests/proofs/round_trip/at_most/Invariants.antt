use Rattle.std.proofs.Common.{◌≡◌, ◌≤◌, ◌+◌, drop}
use Rattle.codec_payload_feedback_requests.specs.RoundTrips.{at_most}
use Rattle.codec_payload_feedback_requests.proofs.round_trip.at_most.Given as goal

abbrev pub invariant-loop-other : goal.invariant-loop-other
invariant-loop-other l =
    (l.count + at_most l.sample (drop l.other-index l.samples) ≡ at_most l.sample l.samples) × (l.count ≤ l.other-index)
