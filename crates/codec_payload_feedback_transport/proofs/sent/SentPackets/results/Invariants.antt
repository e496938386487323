use Rattle.std.proofs.Common.{◌≡◌, ◌++◌, drop}
use Rattle.codec_payload_feedback_transport.specs.Sent.{results_of}
use Rattle.codec_payload_feedback_transport.proofs.sent.SentPackets.results.Given as goal

-- the results so far, and those of the statuses that are left, are all results
abbrev pub invariant-loop-received : goal.invariant-loop-received
invariant-loop-received l = l.results.items ++ results_of l.number (drop l.received-index l.feedback.statuses.items) l.self ≡ results_of l.feedback.base l.feedback.statuses.items l.self
