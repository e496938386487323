use Rattle.std.proofs.Common.{◌≡◌, ℕ, ◌+◌, ◌-◌, length, arith}
use Rattle.codec_payload_av1.specs.Av1Payload.{Payload, written}
use Rattle.codec_payload_av1.specs.Av1Piece.{pieces_of}
use Rattle.codec_payload_av1.specs.Av1Size.{packet_size, leb_len, lengths}
use Rattle.codec_payload_av1.proofs.Av1PayloadLengths.{length_written}
use Rattle.codec_payload_av1.proofs.av1.packer.OpenPayload.size.Goals as goal

size_is : (p : Payload) (mtu left : ℕ) → left + packet_size leb_len (lengths p.elements) ≡ mtu → mtu - left ≡ length (written p)
size_is p mtu left filled = omega (arith, length_written p, filled)

pub returns : goal.returns
returns c = rw (← c.self.view_is) (λ continues goes_on starts. size_is
    (record { continues = continues; goes_on = goes_on; starts = starts; elements = pieces_of c.self.inside.elements.items }) c.self.inside.mtu c.self.inside.left
    c.self.invariant.0)
