use Rattle.std.proofs.Common.{◌≡◌, ◌-◌, ◌≤◌, length, false}
use Rattle.std.specs.List.{AllWithin}
use Rattle.codec_payload_session_stream.specs.Changes.{is_left_behind}
use Rattle.codec_payload_session.proofs.streams.Streams.has_left_behind.Given as goal

-- no stream so far was left
abbrev pub invariant-loop-place : goal.invariant-loop-place
invariant-loop-place l = record {
  none : AllWithin (λ s. is_left_behind l.now l.wait l.ssrc l.format s ≡ false) l.self-inside.list.items 0 l.from;
  within : l.from ≤ length l.self-inside.list.items;
}

-- the streams that are left
abbrev pub decreases-loop-place : goal.decreases-loop-place
decreases-loop-place l = length l.self-inside.list.items - l.from
