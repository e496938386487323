-- The packet that a retransmission repeats.
use Rattle.std.proofs.Common.{◌≡◌, ◌∙◌, ap, ℕ, List, [], ◌++◌, Option, Some, None, Ok}
use Rattle.std.specs.Prelude.{option_map}
use Rattle.codec_payload_rtp.specs.RtpPackets.{Packet, packet_bytes}
use Rattle.codec_payload_rtp.specs.RtpReading.{rtp_at}
use Rattle.codec_payload_sending_history.specs.Originals.{WritesOriginal, numbered, original_with}
use Rattle.codec_payload_sending_history.specs.declared.original.OriginalStream.{OriginalStream}

pub writes_original : (stream : OriginalStream) (datagram before bytes : List ℕ) (p : Packet) (x : ℕ × List ℕ)
    → rtp_at datagram ≡ Ok p → numbered p.payload ≡ Some x → before ≡ []
    → bytes ≡ before ++ packet_bytes (original_with stream p.header x)
    → rtp_at (packet_bytes (original_with stream p.header x)) ≡ Ok (original_with stream p.header x)
    → WritesOriginal stream datagram bytes
writes_original stream datagram before bytes p x e n b w r =
    let whole : bytes ≡ packet_bytes (original_with stream p.header x) = w ∙ ap (λ (xs : List ℕ). xs ++ packet_bytes (original_with stream p.header x)) b in
    record { packet = p; original = original_with stream p.header x; was = e; is = ap (option_map (original_with stream p.header)) n; bytes_are = whole; reads = ap rtp_at whole ∙ r }
