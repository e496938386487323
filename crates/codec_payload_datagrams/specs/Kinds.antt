-- Which datagrams belong to a stream.
use Rattle.std.specs.Prelude.{ℕ, ◌+◌, ◌*◌, ◌%◌, ◌==◌, ◌||◌, ◌&&◌, not, nat_lt, if◌then◌else◌, Bool, true, false, List, [], ◌∷◌, map, Option, Some, None, Result, Ok, Err, length}
use Rattle.codec_payload_base.specs.Extensions.{no_values}
use Rattle.codec_payload_base.specs.declared.wire.RtpHeader.{RtpHeader}
use Rattle.codec_payload_red.specs.RedBlocks.{Block, block_of, blocks_of, older}
use Rattle.codec_payload_red.specs.RedPayload.{Red}
use Rattle.codec_payload_red.specs.RedReading.{red_at}
use Rattle.codec_payload_red.specs.RedRecovery.{Receiver, RecoveredPacket}
use Rattle.codec_payload_rtp.specs.ExtensionFormats.{values_in, elements_of}
use Rattle.codec_payload_rtp.specs.RtpPackets.{Header, Packet, is_rtcp}
use Rattle.codec_payload_rtp.specs.RtpReading.{rtp_at}
use Rattle.codec_payload_rtp.specs.RtpValues.{header_of, packet_of}
use Rattle.codec_payload_rtp.specs.declared.rtp.RtpError.{RtpError}
use Rattle.codec_payload_rtp.specs.declared.values.ExtensionIds.{ExtensionIds}
use Rattle.codec_payload_datagrams.specs.declared.kinds.Datagram.{Datagram as LentDatagram}
use Rattle.codec_payload_datagrams.specs.declared.kinds.Datagram.TheVariants as lent
use Rattle.codec_payload_datagrams.specs.declared.kinds.Malformation.{Malformation}
use Rattle.codec_payload_datagrams.specs.declared.kinds.Malformation.TheVariants as malformations
use Rattle.codec_payload_datagrams.specs.declared.kinds.RedPacket.{RedPacket}
use Rattle.codec_payload_datagrams.specs.declared.kinds.RedStream.{RedStream}
use Rattle.codec_payload_datagrams.specs.declared.kinds.SentAgain.{SentAgain as LentSentAgain}
use Rattle.codec_payload_datagrams.specs.declared.kinds.Retransmission.{Retransmission}

-- the settings by which a stream recognises its datagrams: its payload type, the types without media, how it uses RED, the SSRC
-- and type of retransmissions, and the ids of header extensions
pub record Kinds : Type 0 where
  pub payload_type : ℕ
  pub no_media : List ℕ
  pub red : Option RedStream
  pub retransmission : Option Retransmission
  pub ids : ExtensionIds

-- a retransmission: its header, the original number and SSRC, and the original payload
pub record Original : Type 0 where
  pub header : Header
  pub number : ℕ
  pub ssrc : ℕ
  pub bytes : List ℕ

-- a RED packet: its header, the receiver that numbers its blocks, the primary block, and the redundant blocks. A retransmitted
-- one has the original number and SSRC in its header
pub record Carrier : Type 0 where
  pub header : Header
  pub receiver : Receiver
  pub primary : Block
  pub older : List Block

-- a datagram, as one stream sees it
pub data Datagram : Type 0 where
  RtcpPacket : Datagram
  Malformed : Malformation → Datagram
  OfOthers : Datagram
  WithoutMedia : Header → Datagram
  WithMedia : Packet → Datagram
  InRed : Carrier → Datagram
  Again : Original → Datagram
  AgainInRed : Carrier → Datagram
  AgainEmpty : Datagram

abbrev pub original_of : LentSentAgain → Original
original_of s = record { header = header_of s.header; number = s.number; ssrc = s.ssrc; bytes = s.payload.now }

abbrev pub carrier_of : RedPacket → Carrier
carrier_of r = record { header = header_of r.header; receiver = r.receiver; primary = block_of r.primary; older = blocks_of r.older.items }

abbrev pub datagram_of : LentDatagram → Datagram
datagram_of lent.Rtcp = RtcpPacket
datagram_of (lent.Malformed e) = Malformed e
datagram_of lent.OtherStream = OfOthers
datagram_of (lent.NoMedia p) = WithoutMedia (header_of p.header)
datagram_of (lent.Media p) = WithMedia (packet_of p)
datagram_of (lent.Red r) = InRed (carrier_of r)
datagram_of (lent.SentAgain s) = Again (original_of s)
datagram_of (lent.RedAgain r) = AgainInRed (carrier_of r)
datagram_of lent.Nothing = AgainEmpty

-- the type is in the list
abbrev pub is_among : ℕ → List ℕ → Bool
is_among payload_type [] = false
is_among payload_type (t ∷ ts) = (t == payload_type) || is_among payload_type ts

-- the SSRC differs from the known SSRC
abbrev pub is_other : Option ℕ → ℕ → Bool
is_other None ssrc = false
is_other (Some known) ssrc = not (known == ssrc)

-- the packet has padding only
abbrev pub is_padding_only : Packet → Bool
is_padding_only p = nat_lt 0 p.padding && (length p.payload == 0)

-- a packet with a payload type of the stream
abbrev pub media_kind : Packet → Datagram
media_kind p = if is_padding_only p then WithoutMedia p.header else WithMedia p

-- RED packets (RFC 2198)

-- the RED receiver for this payload type, if it is the one of RED
abbrev pub red_of : Option RedStream → ℕ → Option Receiver
red_of None payload_type = None
red_of (Some red) payload_type = if red.payload_type == payload_type then Some red.receiver else None

-- the primary block
abbrev pub primary_of : Red → Block
primary_of r = record { pt = r.pt; timestamp_offset = 0; payload = r.primary; is_primary = true }

-- the blocks of a payload, under this header
abbrev pub carrier_with : Receiver → Header → Red → Carrier
carrier_with receiver h r = record { header = h; receiver = receiver; primary = primary_of r; older = map older r.redundant }

abbrev pub red_read : Receiver → Header → Option Red → Datagram
red_read receiver h None = Malformed malformations.Red
red_read receiver h (Some r) = InRed (carrier_with receiver h r)

abbrev pub red_kind : Receiver → Packet → Datagram
red_kind receiver p = if is_padding_only p then WithoutMedia p.header else red_read receiver p.header (red_at p.payload)

-- Retransmissions (RFC 4588, section 4)

abbrev pub is_sent_again : Option Retransmission → Header → Bool
is_sent_again None h = false
is_sent_again (Some r) h = (r.ssrc == h.ssrc) && (r.payload_type == h.payload_type)

-- the retransmission settings with this SSRC, if one is given
abbrev pub under : Option Retransmission → Option ℕ → Option Retransmission
under None ssrc = None
under (Some r) None = Some r
under (Some r) (Some ssrc) = Some (record r { ssrc = ssrc })

abbrev pub retransmitted_under : Option ℕ → Kinds → Kinds
retransmitted_under ssrc s = record s { retransmission = under s.retransmission ssrc }

-- the SSRC of the stream, or the SSRC of the packet if the stream's is unknown
abbrev pub ssrc_or : Option ℕ → ℕ → ℕ
ssrc_or None ssrc = ssrc
ssrc_or (Some known) ssrc = known

-- the first two bytes are the original number; a retransmission without payload is padding
abbrev pub again_read : Option ℕ → Header → List ℕ → Datagram
again_read known h [] = AgainEmpty
again_read known h (high ∷ []) = Malformed malformations.Retransmission
again_read known h (high ∷ low ∷ bytes) = Again (record { header = h; number = high * 256 + low; ssrc = ssrc_or known h.ssrc; bytes = bytes })

abbrev pub again_kind : Option ℕ → Packet → Datagram
again_kind known p = again_read known p.header p.payload

-- Retransmissions of RED packets: the RED payload comes after the original number

abbrev pub is_the_type : Option ℕ → ℕ → Bool
is_the_type None payload_type = false
is_the_type (Some own) payload_type = own == payload_type

-- the RED receiver for a packet with the SSRC of retransmissions, if its payload type is the one of retransmitted RED
abbrev pub red_again_of : Option Retransmission → Option RedStream → Header → Option Receiver
red_again_of None red h = None
red_again_of (Some r) None h = None
red_again_of (Some r) (Some red) h = if (r.ssrc == h.ssrc) && is_the_type red.retransmission h.payload_type then Some red.receiver else None

-- the header of the original packet: only number and SSRC differ
abbrev pub repeated_header : Option ℕ → Header → ℕ → Header
repeated_header known h number = record h { sequence_number = number; ssrc = ssrc_or known h.ssrc }

abbrev pub red_again_read : Receiver → Header → Option Red → Datagram
red_again_read receiver h None = Malformed malformations.Red
red_again_read receiver h (Some r) = AgainInRed (carrier_with receiver h r)

abbrev pub red_again_parts : Receiver → Option ℕ → Header → List ℕ → Datagram
red_again_parts receiver known h [] = AgainEmpty
red_again_parts receiver known h (high ∷ []) = Malformed malformations.Retransmission
red_again_parts receiver known h (high ∷ low ∷ bytes) = red_again_read receiver (repeated_header known h (high * 256 + low)) (red_at bytes)

abbrev pub red_again_kind : Receiver → Option ℕ → Packet → Datagram
red_again_kind receiver known p = red_again_parts receiver known p.header p.payload

-- Any datagram

-- a packet with the payload type of the stream, of RED, without media, or of another type
abbrev pub own_kind : Kinds → Option Receiver → Packet → Datagram
own_kind s (Some receiver) p = red_kind receiver p
own_kind s None p = if is_among p.header.payload_type s.no_media then WithoutMedia p.header else OfOthers

-- a packet of the sender that is no retransmission
abbrev pub first_kind : Kinds → Option ℕ → Packet → Datagram
first_kind s ssrc p =
    if is_other ssrc p.header.ssrc then OfOthers
    else (if p.header.payload_type == s.payload_type then media_kind p
    else own_kind s (red_of s.red p.header.payload_type) p)

-- a retransmission of a RED packet, or none
abbrev pub kind_beside : Kinds → Option ℕ → Option Receiver → Packet → Datagram
kind_beside s ssrc None p = first_kind s ssrc p
kind_beside s ssrc (Some receiver) p = red_again_kind receiver ssrc p

-- by SSRC and payload type: a packet with the payload type of the stream is no retransmission of RED
abbrev pub kind_for : Kinds → Option ℕ → Packet → Datagram
kind_for s ssrc p =
    if is_sent_again s.retransmission p.header then again_kind ssrc p
    else (if p.header.payload_type == s.payload_type then first_kind s ssrc p
    else kind_beside s ssrc (red_again_of s.retransmission s.red p.header) p)

abbrev pub kind_read : Kinds → Option ℕ → Result Packet RtpError → Datagram
kind_read s ssrc (Err e) = Malformed (malformations.Rtp e)
kind_read s ssrc (Ok p) = kind_for s ssrc p

-- for any bytes
abbrev pub datagram_at : Kinds → Option ℕ → List ℕ → Datagram
datagram_at s ssrc bytes = if is_rtcp bytes then RtcpPacket else kind_read s ssrc (rtp_at bytes)

-- memory is taken for a datagram of this kind: for its packet, or for its number
abbrev pub takes_memory : Datagram → Bool
takes_memory RtcpPacket = false
takes_memory (Malformed e) = false
takes_memory OfOthers = false
takes_memory (WithoutMedia h) = true
takes_memory (WithMedia p) = true
takes_memory (InRed c) = true
takes_memory (Again o) = true
takes_memory (AgainInRed c) = true
takes_memory AgainEmpty = false

-- Headers

-- the header of a packet, with the fields that payloads of the stream have
abbrev pub header_for : Kinds → Header → RtpHeader
header_for s h = record {
  payload_type = s.payload_type;
  sequence_number = h.sequence_number;
  timestamp = h.timestamp;
  ssrc = h.ssrc;
  marker = h.marker;
  ext_vals = values_in s.ids (elements_of h.extension);
}

-- the original header of a retransmission: marker, time and extension are unchanged
abbrev pub original_header : Kinds → Original → RtpHeader
original_header s o = record (header_for s o.header) { sequence_number = o.number; ssrc = o.ssrc }

-- a packet from a redundant block has neither marker nor values
abbrev pub block_header : Kinds → ℕ → RecoveredPacket → RtpHeader
block_header s ssrc x = record {
  payload_type = s.payload_type;
  sequence_number = x.seq_no % 65536;
  timestamp = x.time;
  ssrc = ssrc;
  marker = false;
  ext_vals = no_values;
}
