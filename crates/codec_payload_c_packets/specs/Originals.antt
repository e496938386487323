-- The call that writes the packet that a retransmission repeats.
use Rattle.std.specs.Prelude.{◌≡◌, ◌⊎◌, ℕ, List}
use Rattle.codec_payload_sending_history.specs.Originals.{IsRefused, WritesOriginal}
use Rattle.codec_payload_sending_history.specs.declared.original.OriginalError.{OriginalError}
use Rattle.codec_payload_sending_history.specs.declared.original.OriginalError.TheVariants as errors
use Rattle.codec_payload_sending_history.specs.declared.original.OriginalStream.{OriginalStream}
use Rattle.codec_payload_c_packets.specs.Congestion.{IsUnwritten, PutsPacket}
use Rattle.codec_payload_handle.specs.RtpFaults.{rtp_status}
use Rattle.codec_payload_c_packets.specs.TransportReporters.{Writing}

-- the statuses for a datagram that repeats no packet
abbrev pub original_status : OriginalError → ℕ
original_status errors.PayloadType = 37
original_status (errors.Rtp fault) = rtp_status fault
original_status errors.TooShort = 49
original_status errors.OutOfMemory = 17

-- the packet of the stream that the retransmission repeats; or the status says why there is none, and nothing is written
abbrev pub WritesOriginalOf : OriginalStream → List ℕ → ℕ → Writing → Type 0
WritesOriginalOf stream datagram status w =
    ((original : List ℕ) × WritesOriginal stream datagram original × PutsPacket original status w)
    ⊎ ((error : OriginalError) × IsRefused stream datagram error × (status ≡ original_status error) × IsUnwritten w)
