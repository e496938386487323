use Rattle.std.proofs.Common.{◌≡◌, map, take}
use Rattle.codec_payload_fec.specs.Writing.{lists_of}
use Rattle.codec_payload_sending_fec.proofs.held_frame.slices.Given as goal

-- the packets in front of the place were taken
abbrev pub invariant-loop-place : goal.invariant-loop-place
invariant-loop-place l = lists_of l.slices.items ≡ take l.place (map (λ p. p.items) l.frame)
