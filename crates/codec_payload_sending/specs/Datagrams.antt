-- The datagrams of a sample: each is an RTP packet.
use Rattle.std.specs.Prelude.{◌≡◌, ℕ, ◌+◌, ◌%◌, ◌^◌, ◌<◌, ◌==◌, ◌&&◌, ◌||◌, Bool, true, List, [], ◌∷◌, ◌++◌, Ok, length, slice_index_or}
use Rattle.codec_payload_base.specs.Time.{Time, rebased}
use Rattle.codec_payload_base.specs.StrippedValues.{stripped}
use Rattle.codec_payload_base.specs.declared.wire.extension.ExtensionValues.{ExtensionValues}
use Rattle.codec_payload_codec.specs.Packetizers.{PacketizerState, is_built_in, marker_of, talk_spurt_of}
use Rattle.codec_payload_rtp.specs.ExtensionWriting.{elements_for, extension_for}
use Rattle.codec_payload_rtp.specs.RtpPackets.{Header}
use Rattle.codec_payload_rtp.specs.RtpReading.{rtp_at}
use Rattle.codec_payload_sending.specs.declared.sender.Fields.{Fields}
use Rattle.codec_payload_sending.specs.declared.sender.Sample.{Sample as LentSample}
use Rattle.codec_payload_sending.specs.declared.sender.Outgoing.{Outgoing}

-- a sample, without where its bytes lie
pub record Sample : Type 0 where
  pub rtp_time : Time
  pub bytes : List ℕ
  pub start_of_talk_spurt : Bool
  pub ext_vals : ExtensionValues

abbrev pub sample_of : LentSample → Sample
sample_of s = record { rtp_time = s.rtp_time; bytes = s.bytes.now; start_of_talk_spurt = s.start_of_talk_spurt; ext_vals = s.ext_vals }

-- the RTP time of a sample: by the RTP clock, of which 32 bits are kept
abbrev pub time_of : Outgoing → Sample → ℕ
time_of stream sample = (rebased sample.rtp_time stream.clock_rate).numer % 2 ^ 32

-- the header of a packet of the stream, with the elements of these values
abbrev pub header_with : Outgoing → Fields → ExtensionValues → Header
header_with stream fields values = record {
  marker = fields.marker;
  payload_type = stream.payload_type;
  sequence_number = fields.number;
  timestamp = fields.time;
  ssrc = stream.ssrc;
  csrcs = [];
  extension = extension_for (elements_for stream.ids values);
}

-- what the fields of the packet at a place are, whose marker this is
abbrev pub fields_at : Outgoing → Sample → ℕ → Bool → Fields
fields_at stream sample place marker = record { marker = marker; number = (stream.number + place) % 2 ^ 16; time = time_of stream sample }

-- its header, with this number of packets of the sample
abbrev pub header_at : Outgoing → Sample → ℕ → ℕ → Bool → Header
header_at stream sample place count marker = header_with stream (fields_at stream sample place marker) (stripped sample.ext_vals place count)

-- the marker of a packetizer that is built in, for the packet at a place of so many; one that a caller brings marks as it likes
abbrev pub IsMarker : PacketizerState → Sample → ℕ → ℕ → Bool → Type 0
IsMarker packetizer sample place count marker =
    is_built_in packetizer ≡ true → marker ≡ (marker_of packetizer (place + 1 == count) || (talk_spurt_of packetizer && sample.start_of_talk_spurt))

-- before any payload, the bytes read as that header
abbrev pub IsHeader : List ℕ → Header → Type 0
IsHeader bytes header = (payload : List ℕ) → rtp_at (bytes ++ payload) ≡ Ok (record { header = header; payload = payload; padding = 0 })

-- the header of the packet at a place
pub record IsHeadedAt (stream : Outgoing) (packetizer : PacketizerState) (sample : Sample) (count place : ℕ) (bytes : List ℕ) : Type 0 where
  pub marker : Bool
  pub marked : IsMarker packetizer sample place count marker
  pub reads : IsHeader bytes (header_at stream sample place count marker)

-- the datagram reads as the packet at a place, with that payload
pub record IsSentAt (stream : Outgoing) (packetizer : PacketizerState) (sample : Sample) (count place : ℕ) (payload datagram : List ℕ) : Type 0 where
  pub marker : Bool
  pub marked : IsMarker packetizer sample place count marker
  pub reads : rtp_at datagram ≡ Ok (record { header = header_at stream sample place count marker; payload = payload; padding = 0 })

-- each of these datagrams reads as the packet at its place, with its payload
abbrev pub AreSent : Outgoing → PacketizerState → Sample → List (List ℕ) → List (List ℕ) → Type 0
AreSent stream packetizer sample payloads datagrams =
    (length datagrams ≡ length payloads)
    × ((place : ℕ) → place < length payloads → IsSentAt stream packetizer sample (length payloads) place (slice_index_or payloads place []) (slice_index_or datagrams place []))

-- headers in front of payloads
abbrev pub joined : List (List ℕ) → List (List ℕ) → List (List ℕ)
joined headers [] = []
joined [] (payload ∷ payloads) = payload ∷ joined [] payloads
joined (header ∷ headers) (payload ∷ payloads) = (header ++ payload) ∷ joined headers payloads

-- how many bytes payloads have
abbrev pub octets_in : List (List ℕ) → ℕ
octets_in [] = 0
octets_in (payload ∷ payloads) = length payload + octets_in payloads
