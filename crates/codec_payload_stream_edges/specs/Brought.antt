-- Which packet with media a datagram brings to a stream, and what it says of its picture.
use Rattle.std.specs.Prelude.{ℕ, ◌+◌, ◌*◌, ◌==◌, ◌&&◌, ◌||◌, nat_lt, if◌then◌else◌, Bool, true, false, List, [], ◌∷◌, Option, Some, None, Result, Ok, Err}
use Rattle.std.specs.Option.{is_some}
use Rattle.codec_payload_base.specs.declared.wire.Codec.{Codec}
use Rattle.codec_payload_base.specs.declared.wire.Codec.TheVariants as codecs
use Rattle.codec_payload_datagrams.specs.declared.kinds.Retransmission.{Retransmission}
use Rattle.codec_payload_edges.specs.Edges.{described_edge, vp8_edge, vp9_edge}
use Rattle.codec_payload_edges.specs.declared.edge.Edge.{Edge}
use Rattle.codec_payload_receiver.specs.declared.receiver.RedSettings.{RedSettings}
use Rattle.codec_payload_receiver.specs.declared.receiver.Settings.{Settings}
use Rattle.codec_payload_rtp.specs.ExtensionFormats.{bytes_for, elements_of}
use Rattle.codec_payload_rtp.specs.RtpPackets.{Extension, Header, Packet}
use Rattle.codec_payload_rtp.specs.RtpReading.{rtp_at}
use Rattle.codec_payload_rtp.specs.RtpValues.{extension_of}
use Rattle.codec_payload_rtp.specs.declared.rtp.RtpError.{RtpError}
use Rattle.codec_payload_stream_edges.specs.declared.rules.Brought.{Brought as LentBrought}
use Rattle.codec_payload_stream_edges.specs.declared.rules.EdgeRules.{EdgeRules}

-- a packet with media: its original number, the marker, its header extension, and the payload of the stream
pub record MediaPacket : Type 0 where
  pub number : ℕ
  pub marker : Bool
  pub extension : Option Extension
  pub bytes : List ℕ

abbrev pub brought_of : LentBrought → MediaPacket
brought_of b = record { number = b.number; marker = b.marker; extension = extension_of b.extension; bytes = b.payload.now }

-- ---- the rules of a receiver's stream

abbrev pub type_of_red : Option RedSettings → Option ℕ
type_of_red None = None
type_of_red (Some red) = Some red.payload_type

abbrev pub type_of_red_again : Option RedSettings → Option ℕ
type_of_red_again None = None
type_of_red_again (Some red) = red.retransmission

abbrev pub type_of_retransmission : Option Retransmission → Option ℕ
type_of_retransmission None = None
type_of_retransmission (Some it) = Some it.payload_type

abbrev pub rules_with : Codec → (descriptor : Option ℕ) → (payload_type : ℕ) → Option RedSettings → (retransmission : Option ℕ) → EdgeRules
rules_with codec descriptor payload_type red retransmission = record {
  codec = codec;
  descriptor = descriptor;
  payload_type = payload_type;
  red = type_of_red red;
  retransmission = retransmission;
  red_again = type_of_red_again red;
}

abbrev pub rules_of : Codec → Settings → EdgeRules
rules_of codec s = rules_with codec s.dependency_descriptor s.payload_type s.red (type_of_retransmission s.retransmission)

abbrev pub has_ids : Codec → Bool
has_ids codecs.Vp8 = true
has_ids codecs.Vp9 = true
has_ids _ = false

-- packets of the stream can say where pictures begin and end
abbrev pub can_say : EdgeRules → Bool
can_say k = has_ids k.codec || is_some k.descriptor

-- ---- the packet

abbrev pub has_type : Option ℕ → ℕ → Bool
has_type None payload_type = false
has_type (Some own) payload_type = own == payload_type

-- the only block of a RED payload (RFC 2198, section 3): F clear and 7 bits of type, then the block
abbrev pub lone_block : ℕ → List ℕ → Option (List ℕ)
lone_block payload_type [] = None
lone_block payload_type (first ∷ block) = if (first == payload_type) && nat_lt first 128 then Some block else None

-- under the SSRC of the stream: its payload type, or RED
abbrev pub is_own_type : EdgeRules → ℕ → Bool
is_own_type k payload_type = (payload_type == k.payload_type) || has_type k.red payload_type

abbrev pub own_payload : EdgeRules → ℕ → List ℕ → Option (List ℕ)
own_payload k payload_type bytes =
    if payload_type == k.payload_type then Some bytes
    else (if has_type k.red payload_type then lone_block k.payload_type bytes else None)

-- retransmissions (RFC 4588, section 4): the original number in two bytes, and then the original payload
abbrev pub original_payload : EdgeRules → ℕ → List ℕ → Option (List ℕ)
original_payload k payload_type bytes =
    if has_type k.retransmission payload_type then Some bytes
    else (if has_type k.red_again payload_type then lone_block k.payload_type bytes else None)

abbrev pub whole : Header → ℕ → Option (List ℕ) → Option MediaPacket
whole h number None = None
whole h number (Some bytes) = Some (record { number = number; marker = h.marker; extension = h.extension; bytes = bytes })

abbrev pub brought_again : EdgeRules → Header → List ℕ → Option MediaPacket
brought_again k h [] = None
brought_again k h (high ∷ []) = None
brought_again k h (high ∷ low ∷ bytes) = whole h (high * 256 + low) (original_payload k h.payload_type bytes)

-- what an RTP packet brings to the stream with this SSRC
abbrev pub brought : EdgeRules → ℕ → Packet → Option MediaPacket
brought k ssrc p =
    if (p.header.ssrc == ssrc) && is_own_type k p.header.payload_type
    then whole p.header p.header.sequence_number (own_payload k p.header.payload_type p.payload)
    else brought_again k p.header p.payload

abbrev pub brought_read : EdgeRules → ℕ → Result Packet RtpError → Option MediaPacket
brought_read k ssrc (Ok p) = brought k ssrc p
brought_read k ssrc (Err e) = None

-- what any bytes bring
abbrev pub brought_at : EdgeRules → ℕ → List ℕ → Option MediaPacket
brought_at k ssrc bytes = brought_read k ssrc (rtp_at bytes)

-- ---- what it says of its picture

abbrev pub edge_by : Codec → Bool → List ℕ → Option Edge
edge_by codecs.Vp8 marker bytes = vp8_edge marker bytes
edge_by codecs.Vp9 marker bytes = vp9_edge marker bytes
edge_by _ marker bytes = None

-- by the dependency descriptor, if the packet has one
abbrev pub edge_with : Option (List ℕ) → Codec → Bool → List ℕ → Option Edge
edge_with None codec marker bytes = edge_by codec marker bytes
edge_with (Some descriptor) codec marker bytes = described_edge descriptor

abbrev pub edge_of : EdgeRules → MediaPacket → Option Edge
edge_of k m = edge_with (bytes_for k.descriptor (elements_of m.extension)) k.codec m.marker m.bytes

-- it is the first or the last packet of its picture
abbrev pub at_edge : Option Edge → Option Edge
at_edge None = None
at_edge (Some e) = if e.begins || e.ends then Some e else None
