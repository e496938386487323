-- Why a store has no packet for a number of a viewer's stream.
use Rattle.std.proofs.Common.{◌≡◌, ℕ, List, false, Ok, inl, inr}
use Rattle.codec_payload_sending_history.specs.Histories.{HasNot, IsKept}
use Rattle.codec_payload_sending_history.specs.Packets.{Past}
use Rattle.codec_payload_rtp.specs.RtpPackets.{Packet}
use Rattle.codec_payload_rtp.specs.RtpReading.{rtp_at}
use Rattle.codec_payload_sending_forward.specs.Forwarding.{Forward, IsNotRequested, IsNumberOf, is_source}

pub not_kept : (f : Forward) (store : Past) (number n low : ℕ) → IsNumberOf f number n low → HasNot store low → IsNotRequested f store number
not_kept f store number n low sent absent = inr (inl (n, low, sent, absent))

pub of_another : (f : Forward) (store : Past) (number n low : ℕ) (datagram : List ℕ) (p : Packet) → IsNumberOf f number n low → IsKept store low datagram
    → rtp_at datagram ≡ Ok p → is_source f.source p.header.ssrc ≡ false → IsNotRequested f store number
of_another f store number n low datagram p sent kept reads other = inr (inr (n, low, sent, (datagram, p, kept, reads, other)))
