-- A sender: what each call leaves.
use Rattle.std.specs.Prelude.{◌≡◌, ℕ, ◌+◌, ◌%◌, ◌^◌, ◌++◌, nat_lt, not, if◌then◌else◌, true, drop, min, List, [], Option, Some, None, Result, Ok, Err, length, slice_index_or, slice_set, take}
use Rattle.codec_payload_base.specs.Answers.{Lands}
use Rattle.codec_payload_base.specs.Time.{Time, rebased}
use Rattle.codec_payload_base.specs.declared.wire.Frequency.{Frequency}
use Rattle.codec_payload_base.specs.declared.error.PacketError.{PacketError}
use Rattle.codec_payload_codec.specs.Packetizers.{PacketizerState, PacketizerStep, is_built_in}
use Rattle.codec_payload_rtp.specs.ExtensionWriting.{ids_fit}
use Rattle.codec_payload_sending.specs.Datagrams.{Sample, AreSent, octets_in, time_of}
use Rattle.codec_payload_sending.specs.declared.sender.Counts.{Counts}
use Rattle.codec_payload_sending.specs.declared.sender.Report.{Report}
use Rattle.codec_payload_sending.specs.declared.sender.SenderSettings.{SenderSettings}
use Rattle.codec_payload_sending.specs.declared.sender.SenderError.{SenderError}
use Rattle.codec_payload_sending.specs.declared.sender.SenderError.TheVariants as errors
use Rattle.codec_payload_sending.specs.declared.sender.Outgoing.{Outgoing}

-- a sender, as contracts see it: its packetizer, the most bytes of a payload, what its packets share and the number of the next,
-- the bytes that are free behind each datagram, what reports count, and the datagrams of the sample that was sent last
pub record Sending : Type 0 where
  pub packetizer : PacketizerState
  pub mtu : ℕ
  pub stream : Outgoing
  pub tailroom : ℕ
  pub counts : Counts
  pub datagrams : List (List ℕ)

-- ---- settings

-- which setting is out of range, if one is
abbrev pub refusal_of : SenderSettings → Option SenderError
refusal_of s =
    if nat_lt 127 s.payload_type then Some errors.PayloadType
    else if nat_lt 65535 s.tailroom then Some errors.Tailroom
    else if not (ids_fit s.extension_ids) then Some errors.ExtensionIds
    else None

abbrev pub nothing_sent : Counts
nothing_sent = record { packets = 0; octets = 0; rtp_time = None }

abbrev pub sender_by : SenderSettings → PacketizerState → Sending
sender_by s packetizer = record {
  packetizer = packetizer;
  mtu = s.mtu;
  stream = record { ssrc = s.ssrc; payload_type = s.payload_type; clock_rate = s.clock_rate; ids = s.extension_ids; number = s.first_number };
  tailroom = s.tailroom;
  counts = nothing_sent;
  datagrams = [];
}

-- ---- sending

-- these payloads of a sample were sent as well
abbrev pub counted : Counts → ℕ → List (List ℕ) → Counts
counted counts time payloads = record {
  packets = (counts.packets + length payloads) % 2 ^ 32;
  octets = (counts.octets + octets_in payloads) % 2 ^ 32;
  rtp_time = Some time;
}

-- a sample was sent: of the payloads that the packetizer gives each is a datagram, with consecutive numbers
pub record Sends (s : Sending) (sample : Sample) (t : Sending) : Type 0 where
  pub payloads : List (List ℕ)
  pub packetized : is_built_in s.packetizer ≡ true → PacketizerStep s.packetizer s.mtu sample.bytes (Ok payloads) t.packetizer
  pub sent : AreSent s.stream t.packetizer sample payloads t.datagrams
  pub left : t ≡ record s {
    packetizer = t.packetizer;
    stream = record s.stream { number = (s.stream.number + length payloads) % 2 ^ 16 };
    counts = counted s.counts (time_of s.stream sample) payloads;
    datagrams = t.datagrams;
  }

-- nothing was sent: the packetizer answered with the fault, or memory ran out for its payloads or their headers
pub record Refuses (s : Sending) (sample : Sample) (fault : PacketError) (t : Sending) : Type 0 where
  pub packetized : is_built_in s.packetizer ≡ true → (answer : Result (List (List ℕ)) PacketError) × PacketizerStep s.packetizer s.mtu sample.bytes answer t.packetizer × Lands answer (Err fault) []
  pub left : t ≡ record s { packetizer = t.packetizer; datagrams = [] }

-- ---- formats and reports

-- the sender with another packetizer, payload type and clock rate; all else goes on
abbrev pub with_format : Sending → PacketizerState → ℕ → Frequency → Sending
with_format s packetizer payload_type clock_rate = record s { packetizer = packetizer; stream = record s.stream { payload_type = payload_type; clock_rate = clock_rate } }

-- the fields of a sender report at a time (RFC 3550, section 6.4.1)
abbrev pub report_of : Sending → Time → Report
report_of s now = record {
  ssrc = s.stream.ssrc;
  rtp_time = (rebased now s.stream.clock_rate).numer % 2 ^ 32;
  packets = s.counts.packets;
  octets = s.counts.octets;
}

-- ---- a datagram with its tailroom

-- the region is the datagram at a place, and the bytes that are free after it
pub record IsLent (s : Sending) (place : ℕ) (region : List ℕ) : Type 0 where
  pub size : length region ≡ length (slice_index_or s.datagrams place []) + s.tailroom
  pub packet : take (length (slice_index_or s.datagrams place [])) region ≡ slice_index_or s.datagrams place []

-- a call was lent the region from a place on, and left other bytes of the same length there
pub record IsLentFrom {R : Type 0} (call : List ℕ → R → List ℕ → Type 0) (front : ℕ) (before : List ℕ) (result : R) (after : List ℕ) : Type 0 where
  pub left : List ℕ
  pub size : length left ≡ length (drop (min front (length before)) before)
  pub called : call (drop (min front (length before)) before) result left
  pub rest : after ≡ take (min front (length before)) before ++ left

-- the datagram at a place is what the region has in front of the tailroom; all else is unchanged
abbrev pub with_datagram : Sending → ℕ → List ℕ → Sending
with_datagram s place region = record s { datagrams = slice_set s.datagrams place (take (length (slice_index_or s.datagrams place [])) region) }
