-- A writer of datagrams in RED (RFC 2198): what each call leaves.
use Rattle.std.specs.Prelude.{◌≡◌, ℕ, ◌<◌, ◌≤◌, ◌==◌, ◌⊎◌, nat_lt, not, ◌&&◌, if◌then◌else◌, Bool, true, false, List, [], Option, Some, None, Ok, Err, length}
use Rattle.codec_payload_red.specs.RedLevels.{Sender, is_accepted, output, recorded, wrapped}
use Rattle.codec_payload_red.specs.RedPayload.{IsRed}
use Rattle.codec_payload_rtp.specs.RtpPackets.{Packet}
use Rattle.codec_payload_rtp.specs.RtpReading.{rtp_at}
use Rattle.codec_payload_sending_red.specs.declared.red_writer.RedWriteError.{RedWriteError}
use Rattle.codec_payload_sending_red.specs.declared.red_writer.RedWriteError.TheVariants as faults
use Rattle.codec_payload_sending_red.specs.declared.red_writer.RedWriterError.{RedWriterError}
use Rattle.codec_payload_sending_red.specs.declared.red_writer.RedWriterError.TheVariants as errors

-- a writer: the payload types of RED and of the media, the most bytes of a payload, and the RED sender with the last payloads
pub record Writer : Type 0 where
  pub red_type : ℕ
  pub media_type : ℕ
  pub budget : ℕ
  pub red : Sender

-- which setting is out of range, if one is
abbrev pub refusal_of : ℕ → ℕ → List ℕ → Option RedWriterError
refusal_of red_type media_type distances =
    if nat_lt 127 media_type then Some errors.MediaType
    else if nat_lt 127 red_type then Some errors.RedType
    else if red_type == media_type then Some errors.RedType
    else if not (is_accepted distances) then Some errors.Distances
    else None

abbrev pub writer_by : ℕ → ℕ → List ℕ → ℕ → Writer
writer_by red_type media_type distances budget = record {
  red_type = red_type;
  media_type = media_type;
  budget = budget;
  red = record { red_pt = red_type; primary_pt = media_type; distances = distances; history = [] };
}

-- the payload type of a packet: the one of RED, if the payload and the last header of RED fit
abbrev pub type_for : Writer → List ℕ → ℕ
type_for w payload = if nat_lt (length payload) w.budget then w.red_type else w.media_type

-- the payload was remembered
abbrev pub remembering : Writer → Packet → Writer
remembering w packet = record w { red = recorded w.red packet.payload packet.header.timestamp }

-- the bytes read as the packet in RED, whose payload is these blocks: earlier payloads, and its own as the primary one. A payload that
-- does not fit with one byte more is sent unchanged, under the payload type of the media
pub record IsInRed (w : Writer) (packet : Packet) (out : List ℕ) (w' : Writer) : Type 0 where
  pub reads : rtp_at out ≡ Ok (record {
    header = record packet.header { payload_type = type_for w packet.payload };
    payload = output w.red packet.payload packet.header.timestamp w.budget;
    padding = 0;
  })
  pub blocks : length packet.payload < w.budget → IsRed (output w.red packet.payload packet.header.timestamp w.budget) (wrapped w.red packet.payload packet.header.timestamp w.budget)
  pub bounded : length packet.payload < w.budget → length (output w.red packet.payload packet.header.timestamp w.budget) ≤ w.budget
  pub remembered : w' ≡ remembering w packet

-- a packet of the media is sent in RED, any other packet as it is
abbrev pub WritesPacket : Bool → Writer → Packet → List ℕ → List ℕ → Writer → Type 0
WritesPacket true w packet datagram out w' = IsInRed w packet out w'
WritesPacket false w packet datagram out w' = (out ≡ datagram) × (w' ≡ w)

pub record Writes (w : Writer) (datagram out : List ℕ) (w' : Writer) : Type 0 where
  pub packet : Packet
  pub read : rtp_at datagram ≡ Ok packet
  pub written : WritesPacket (packet.header.payload_type == w.media_type) w packet datagram out w'

-- the datagram is not an RTP packet, by that fault; or memory ran out, and the payload may be remembered
abbrev pub IsFault : Writer → List ℕ → RedWriteError → Writer → Type 0
IsFault w datagram (faults.Rtp fault) w' = (rtp_at datagram ≡ Err fault) × (w' ≡ w)
IsFault w datagram faults.OutOfMemory w' = (w' ≡ w) ⊎ ((packet : Packet) × (rtp_at datagram ≡ Ok packet) × (w' ≡ remembering w packet))
