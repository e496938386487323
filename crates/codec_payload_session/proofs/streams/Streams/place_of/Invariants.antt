use Rattle.std.proofs.Common.{◌≡◌, ◌-◌, ◌≤◌, length, false}
use Rattle.std.specs.List.{AllWithin}
use Rattle.codec_payload_session_stream.specs.Streams.{is_of}
use Rattle.codec_payload_session.proofs.streams.Streams.place_of.Given as goal

-- no stream so far is this one
abbrev pub invariant-loop-place : goal.invariant-loop-place
invariant-loop-place l = record {
  none : AllWithin (λ s. is_of l.ssrc l.payload_type s ≡ false) l.self-inside.list.items 0 l.from;
  within : l.from ≤ length l.self-inside.list.items;
}

-- the streams that are left
abbrev pub decreases-loop-place : goal.decreases-loop-place
decreases-loop-place l = length l.self-inside.list.items - l.from
