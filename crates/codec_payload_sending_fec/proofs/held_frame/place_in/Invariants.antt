use Rattle.std.proofs.Common.{◌≡◌, ◌≤◌, length, map}
use Rattle.codec_payload_sending_fec.specs.Senders.{place_in}
use Rattle.codec_payload_sending_fec.proofs.held_frame.place_in.Given as goal

-- the packets in front of the place lead to the same place
abbrev pub invariant-loop-place : goal.invariant-loop-place
invariant-loop-place l = (place_in l.number l.place (map (λ p. p.items) l.frame) ≡ place_in l.number (length l.frame) (map (λ p. p.items) l.frame)) × (l.place ≤ length l.frame)

abbrev pub decreases-loop-place : goal.decreases-loop-place
decreases-loop-place l = l.place
