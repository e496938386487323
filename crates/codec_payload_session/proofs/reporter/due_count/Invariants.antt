use Rattle.std.proofs.Common.{◌≡◌, ◌≤◌, ◌+◌, drop, length}
use Rattle.codec_payload_session.specs.Reporting.{due_streams}
use Rattle.codec_payload_session.proofs.reporter.due_count.Given as goal

-- the streams so far, and the others
abbrev pub invariant-loop-place : goal.invariant-loop-place
invariant-loop-place l = record {
  counted : l.count + length (due_streams l.is_new (drop l.place l.streams)) ≡ length (due_streams l.is_new l.streams);
  few : l.count ≤ l.place;
}
