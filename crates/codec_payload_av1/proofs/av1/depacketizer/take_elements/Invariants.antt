use Rattle.std.proofs.Common.{◌≡◌, true, [], ◌∷◌, length, take}
use Rattle.codec_payload_av1.specs.Av1Payload.{elements_at}
use Rattle.codec_payload_av1.specs.Av1Receiving.{received}
use Rattle.codec_payload_av1.proofs.Av1TakingBytes.{takes}
use Rattle.codec_payload_av1.proofs.Av1TakingElements.{after}
use Rattle.codec_payload_av1.proofs.av1.depacketizer.take_elements.Given as goal

abbrev pub invariant-loop-rest : goal.invariant-loop-rest
invariant-loop-rest l = record {
  so_far : after l.out.items (takes l.may_go_on l.is_orphan l.pending l.w (elements_at l.w l.rest)) ≡ after l.fn.out.items (received l.fn.pending (l.fn.header.byte ∷ l.bytes));
  lost : l.is_orphan ≡ true → l.pending ≡ [];
  kept : take (length l.fn.out.items) l.out.items ≡ l.fn.out.items;
}

abbrev pub decreases-loop-rest : goal.decreases-loop-rest
decreases-loop-rest l = length l.rest
