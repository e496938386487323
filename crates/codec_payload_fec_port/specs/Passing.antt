-- What passes in the place of packets of media that a sender puts into RED, and of other packets.
use Rattle.std.specs.Prelude.{◌≡◌, ℕ, ◌<◌, ◌==◌, false, List, ◌∷◌, Some, None, Ok}
use Rattle.codec_payload_rtp.specs.RtpPackets.{Packet, is_rtcp}
use Rattle.codec_payload_rtp.specs.RtpReading.{rtp_at}
use Rattle.codec_payload_fec_port.specs.Plain.{plain_of, retyped}
use Rattle.codec_payload_fec_port.specs.Settings.{is_given}
use Rattle.codec_payload_fec_port.specs.declared.port_settings.FecPortSettings.{FecPortSettings}

-- a packet in RED (RFC 2198): the only block has its payload type and its payload
abbrev pub in_red : FecPortSettings → Packet → Packet
in_red s p = record p { header = retyped s.red_type p.header; payload = p.header.payload_type ∷ p.payload }

-- a packet of media, without padding, that is put into RED passes as it was before
abbrev pub MediaPassesAsBefore : Type 0
MediaPassesAsBefore =
    (s : FecPortSettings) (p : Packet) (datagram : List ℕ) → p.header.payload_type < 128 → (p.header.payload_type == s.red_type) ≡ false → (p.header.payload_type == s.fec_type) ≡ false → p.padding ≡ 0
    → is_rtcp datagram ≡ false → rtp_at datagram ≡ Ok (in_red s p) → plain_of s datagram ≡ Some p

-- a packet that is not RED, FEC, or a retransmission of RED passes as it is
abbrev pub OthersPassAsTheyAre : Type 0
OthersPassAsTheyAre =
    (s : FecPortSettings) (p : Packet) (datagram : List ℕ) → (p.header.payload_type == s.red_type) ≡ false → (p.header.payload_type == s.fec_type) ≡ false → is_given s.red_retransmission p.header.payload_type ≡ false
    → rtp_at datagram ≡ Ok p → plain_of s datagram ≡ None
