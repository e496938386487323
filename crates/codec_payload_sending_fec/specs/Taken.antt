-- What a receiver of FEC takes from what a sender of FEC writes.
use Rattle.std.specs.Prelude.{◌≡◌, ℕ, ◌<◌, true, List, length, None, Ok}
use Rattle.codec_payload_base.specs.Flags.{AreBytes}
use Rattle.codec_payload_rtp.specs.RtpPackets.{Packet, packet_bytes}
use Rattle.codec_payload_rtp.specs.RtpReading.{rtp_at}
use Rattle.codec_payload_fec_receiver.specs.Contents.{Fec, Media, content_of}
use Rattle.codec_payload_fec_receiver.specs.Late.{plain_bytes}
use Rattle.codec_payload_fec_receiver.specs.declared.content.FecSettings.{FecSettings}
use Rattle.codec_payload_sending_fec.specs.Senders.{Sender, fault_of, fec_packet, is_media, numbered, protected_bytes, refusal_of, sent_packet}
use Rattle.codec_payload_sending_fec.specs.declared.fec_sender.FecSenderSettings.{FecSenderSettings}

-- the settings of a sender, and those of a receiver of its stream
pub record Hears (s : FecSenderSettings) (r : FecSettings) : Type 0 where
  pub in_range : refusal_of s ≡ None
  pub ssrc : r.ssrc ≡ s.ssrc
  pub red_type : r.red_type ≡ s.red_type
  pub fec_type : r.fec_type ≡ s.fec_type
  pub late_ids : r.late_ids ≡ s.late_ids

-- the packet as it was passed, under its number of the stream, without padding
abbrev pub passed : ℕ → Packet → Packet
passed n p = record (numbered n p) { padding = 0 }

-- A packet with a payload, written under any number, is taken as media: the packet that was passed. What the receiver keeps of it is what the
-- sender makes FEC for
abbrev pub MediaIsTaken : Type 0
MediaIsTaken =
    (s : FecSenderSettings) (r : FecSettings) (datagram : List ℕ) (p : Packet) (n : ℕ) → Hears s r → AreBytes datagram → rtp_at datagram ≡ Ok p
    → fault_of s (length datagram) p ≡ None → is_media p.payload ≡ true → n < 65536
    → (content_of r (rtp_at (packet_bytes (sent_packet s.red_type (numbered n p)))) ≡ Media (passed n p)) × (plain_bytes r.late_ids (passed n p) ≡ protected_bytes s (numbered n p))

-- a packet of FEC, written under any number, is taken as FEC
abbrev pub FecIsTaken : Type 0
FecIsTaken =
    (s : Sender) (r : FecSettings) (n : ℕ) (bytes : List ℕ) → Hears s.settings r → s.settings.ssrc < 4294967296 → s.time < 4294967296 → n < 65536
    → content_of r (rtp_at (packet_bytes (fec_packet s n bytes))) ≡ Fec bytes
