-- Packets that the sender sends again on the first hop. A session there requests what it lacks, and the sender's history resends it. If the
-- history has a stream of retransmissions (RFC 4588), each of them is unwrapped, and then comes to store and forwarder as the datagram did
-- that it repeats.
use Rattle.std.specs.Prelude.{◌≡◌, ℕ, List}
use Rattle.codec_payload_codec.specs.Packetizers.{PacketizerState}
use Rattle.codec_payload_rtp.specs.RtpReading.{rtp_at}
use Rattle.codec_payload_sending.specs.Datagrams.{IsSentAt, Sample}
use Rattle.codec_payload_sending.specs.declared.sender.Outgoing.{Outgoing}
use Rattle.codec_payload_sending_history.specs.Histories.{IsRetransmission}
use Rattle.codec_payload_sending_history.specs.Originals.{WritesOriginal}
use Rattle.codec_payload_sending_history.specs.declared.original.OriginalStream.{OriginalStream}
use Rattle.codec_payload_sending_history.specs.declared.retransmission.RetransmissionStream.{RetransmissionStream}

-- the stream of a sender, as its retransmissions are unwrapped
abbrev pub original_stream : Outgoing → OriginalStream
original_stream stream = record { ssrc = stream.ssrc; payload_type = stream.payload_type }

-- a datagram of a sender, a retransmission of it under any number, and what is unwrapped: it reads as the datagram does. So a forwarder
-- does with one what it does with the other
abbrev pub ReadsAsSent : Type 0
ReadsAsSent =
    (stream : Outgoing) (packetizer : PacketizerState) (sample : Sample) (count place : ℕ) (payload datagram : List ℕ) (again : RetransmissionStream) (next : ℕ) (retransmission bytes : List ℕ)
    → IsSentAt stream packetizer sample count place payload datagram → IsRetransmission again next datagram retransmission
    → WritesOriginal (original_stream stream) retransmission bytes → rtp_at bytes ≡ rtp_at datagram
