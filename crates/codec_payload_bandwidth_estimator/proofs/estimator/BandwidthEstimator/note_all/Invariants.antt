use Rattle.std.proofs.Common.{◌≡◌, drop}
use Rattle.codec_payload_bandwidth_estimator.specs.Estimates.{after_fates}
use Rattle.codec_payload_bandwidth_estimator.proofs.estimator.BandwidthEstimator.note_all.Given as goal

abbrev pub invariant-loop-fate : goal.invariant-loop-fate
invariant-loop-fate l = after_fates (drop l.fate-index l.fates) l.self ≡ after_fates l.fates l.initial.self
