use Rattle.std.proofs.Common.{◌≡◌, ◌++◌, drop, length, take}
use Rattle.codec_payload_session.specs.Reporting.{all_reported}
use Rattle.codec_payload_session.proofs.reporter.start_fractions.Given as goal

-- the streams so far, and the others as a report leaves them
abbrev pub invariant-loop-place : goal.invariant-loop-place
invariant-loop-place l = record {
  made : take l.place l.streams ++ all_reported l.round.is_new l.room (drop l.place l.streams) ≡ all_reported l.round.is_new l.round.room l.initial.streams;
  same : length l.streams ≡ length l.initial.streams;
}
