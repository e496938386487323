use Rattle.std.proofs.Common.{◌≢◌, ◌≤◌, ◌-◌, length}
use Rattle.std.specs.List.{AllWithin}
use Rattle.codec_payload_index.proofs.ssrcs.walk.Given as goal

-- no place so far has the SSRC
abbrev pub invariant-loop-place : goal.invariant-loop-place
invariant-loop-place l = record {
  behind : l.from ≤ l.place;
  none : AllWithin (λ s. s ≢ l.ssrc) l.ssrcs l.from l.place;
}

-- the places that are left
abbrev pub decreases-loop-place : goal.decreases-loop-place
decreases-loop-place l = length l.ssrcs - l.place
