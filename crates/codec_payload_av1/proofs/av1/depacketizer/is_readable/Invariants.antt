use Rattle.std.proofs.Common.{◌≡◌, true, [], ◌∷◌, length}
use Rattle.std.specs.Prelude.{is_some}
use Rattle.codec_payload_av1.specs.Av1Payload.{elements_at}
use Rattle.codec_payload_av1.specs.Av1Receiving.{received}
use Rattle.codec_payload_av1.proofs.Av1Readable.{are_taken}
use Rattle.codec_payload_av1.proofs.av1.depacketizer.is_readable.Given as goal

abbrev pub invariant-loop-begun : goal.invariant-loop-begun
invariant-loop-begun l = record {
  so_far : are_taken l.may_go_on l.is_orphan l.begun l.w (elements_at l.w l.rest) ≡ is_some (received l.pending (l.fn.header.byte ∷ l.bytes));
  lost : l.is_orphan ≡ true → l.begun ≡ [];
}

abbrev pub decreases-loop-begun : goal.decreases-loop-begun
decreases-loop-begun l = length l.rest
