-- A sender of FEC: what it has, what each call writes, and what it leaves.
use Rattle.std.specs.Prelude.{◌≡◌, ℕ, zero, suc, ◌+◌, ◌-◌, ◌%◌, ◌==◌, ◌&&◌, ◌||◌, nat_lt, nat_le, not, if◌then◌else◌, Bool, true, false, List, [], ◌∷◌, ◌++◌, length, take, drop, map, get_or, Option, Some, None, Result, Ok, Err}
use Rattle.std.specs.List.{insert}
use Rattle.codec_payload_rtp.specs.RtpPackets.{Packet, packet_bytes}
use Rattle.codec_payload_rtp.specs.RtpReading.{rtp_at}
use Rattle.codec_payload_rtp.specs.declared.rtp.RtpError.{RtpError}
use Rattle.codec_payload_fec.specs.Fec.{fec_bytes}
use Rattle.codec_payload_fec.specs.Strings.{number_of}
use Rattle.codec_payload_fec.specs.Writing.{fecs}
use Rattle.codec_payload_fec.specs.declared.writing.FecWriter.{FecWriter}
use Rattle.codec_payload_fec_receiver.specs.Late.{plain_bytes}
use Rattle.codec_payload_sending_fec.specs.StreamNumbers.{Numbers, counted, followed, is_highest, is_late, is_too_old, next_number, none_so_far, noted, sent_as}
use Rattle.codec_payload_sending_fec.specs.declared.fec_sender.FecSendError.{FecSendError}
use Rattle.codec_payload_sending_fec.specs.declared.fec_sender.FecSendError.TheVariants as faults
use Rattle.codec_payload_sending_fec.specs.declared.fec_sender.FecSenderError.{FecSenderError}
use Rattle.codec_payload_sending_fec.specs.declared.fec_sender.FecSenderError.TheVariants as errors
use Rattle.codec_payload_sending_fec.specs.declared.fec_sender.FecSenderSettings.{FecSenderSettings}

-- `numbers`: numbers of the media and of the stream. `time`: the time of the packet with the highest number. `frame`: the packets since
-- the latest FEC, as FEC protects them, in order of their numbers
pub record Sender : Type 0 where
  pub settings : FecSenderSettings
  pub numbers : Numbers
  pub time : ℕ
  pub frame : List (List ℕ)

-- which setting is out of range
abbrev pub refusal_of : FecSenderSettings → Option FecSenderError
refusal_of s =
    if nat_lt 127 s.red_type then Some errors.RedType
    else if nat_lt 127 s.fec_type || (s.fec_type == s.red_type) then Some errors.FecType
    else None

abbrev pub new_sender : FecSenderSettings → Sender
new_sender s = record { settings = s; numbers = none_so_far s.first_number; time = 0; frame = [] }

-- ---- a packet of the media

-- what is refused, the first fault first. The packet of RED has one byte more
abbrev pub fault_of : FecSenderSettings → ℕ → Packet → Option FecSendError
fault_of s size p =
    if nat_lt 65547 size then Some faults.TooLarge
    else if not (p.header.ssrc == s.ssrc) then Some faults.OtherStream
    else if (p.header.payload_type == s.red_type) || (p.header.payload_type == s.fec_type) then Some faults.PayloadType
    else None

-- the packet under another number
abbrev pub numbered : ℕ → Packet → Packet
numbered number p = record p { header = record p.header { sequence_number = number } }

-- in RED, with one block; padding is not sent
abbrev pub in_red : ℕ → Packet → Packet
in_red red_type p = record { header = record p.header { payload_type = red_type }; payload = p.header.payload_type ∷ p.payload; padding = 0 }

-- a packet without a payload is sent as it is
abbrev pub is_media : List ℕ → Bool
is_media [] = false
is_media (b ∷ bs) = true

abbrev pub sent_packet : ℕ → Packet → Packet
sent_packet red_type p = if is_media p.payload then in_red red_type p else p

-- as FEC protects it
abbrev pub protected_bytes : FecSenderSettings → Packet → List ℕ
protected_bytes s p = plain_bytes s.late_ids (record p { padding = 0 })

-- ---- the frame

-- the number is before the other one
abbrev pub is_before : ℕ → ℕ → Bool
is_before number other = nat_lt ((number + 32768 + 65536 - other) % 65536) 32768

-- how many of the first k packets stay in front of that number: those up to the last one that is not behind it
unfoldable pub place_in : ℕ → ℕ → List (List ℕ) → ℕ
place_in number zero frame = 0
place_in number (suc k) frame = if is_before number (number_of (get_or frame k [])) then place_in number k frame else suc k

abbrev pub with_packet : List ℕ → List (List ℕ) → List (List ℕ)
with_packet p frame = insert frame (place_in (number_of p) (length frame) frame) p

-- FEC is to be made for a packet: it has a payload, no FEC follows it, and there are fewer than 512
abbrev pub is_protecting : FecWriter → Bool
is_protecting w = nat_lt 0 w.protection || nat_lt 0 w.keyframe_protection

abbrev pub is_held : Sender → ℕ → Packet → Bool
is_held s n p = is_protecting s.settings.writer && is_media p.payload && not (is_late s.numbers n) && nat_lt (length s.frame) 512

abbrev pub held_if : Bool → List ℕ → List (List ℕ) → List (List ℕ)
held_if is_held p frame = if is_held then with_packet p frame else frame

-- the time of the highest number
abbrev pub time_after : Sender → ℕ → Packet → ℕ
time_after s n p = if is_highest s.numbers.highest n then p.header.timestamp else s.time

-- the packet has the number n, counted without wrap
abbrev pub after_packet : Sender → ℕ → Packet → Sender
after_packet s n p = record s {
  numbers = noted n s.numbers;
  time = time_after s n p;
  frame = held_if (is_held s n p) (protected_bytes s.settings (numbered (sent_as s.numbers n) p)) s.frame;
}

abbrev pub number_in : Sender → Packet → ℕ
number_in s p = counted s.numbers.highest p.header.sequence_number

-- a packet with the marker and the highest number so far ends its frame: what is missing of the frame comes late
abbrev pub ends_frame : Sender → ℕ → Packet → Bool
ends_frame s n p = p.header.marker && is_highest s.numbers.highest n

-- what a call writes, whether the frame ends, and what is left
pub record Pushed : Type 0 where
  pub bytes : List ℕ
  pub ends : Bool
  pub sender : Sender

abbrev pub pushed_as : Sender → ℕ → Packet → Result Pushed FecSendError
pushed_as s n p =
    if is_too_old s.numbers n then Err faults.TooOld
    else Ok (record { bytes = packet_bytes (sent_packet s.settings.red_type (numbered (sent_as s.numbers n) p)); ends = ends_frame s n p; sender = after_packet s n p })

abbrev pub pushed_if : Option FecSendError → Sender → Packet → Result Pushed FecSendError
pushed_if (Some fault) s p = Err fault
pushed_if None s p = pushed_as s (number_in s p) p

abbrev pub pushed_at : ℕ → Result Packet RtpError → Sender → Result Pushed FecSendError
pushed_at size (Err fault) s = Err (faults.Rtp fault)
pushed_at size (Ok p) s = pushed_if (fault_of s.settings size p) s p

abbrev pub pushed : List ℕ → Sender → Result Pushed FecSendError
pushed datagram s = pushed_at (length datagram) (rtp_at datagram) s

-- ---- FEC behind a frame

-- a packet of FEC in RED, under that number
abbrev pub fec_packet : Sender → ℕ → List ℕ → Packet
fec_packet s number bytes = record {
  header = record { marker = false; payload_type = s.settings.red_type; sequence_number = number; timestamp = s.time; ssrc = s.settings.ssrc; csrcs = []; extension = None };
  payload = s.settings.fec_type ∷ bytes;
  padding = 0;
}

-- packets of FEC under numbers that follow one another
abbrev pub fec_packets : Sender → ℕ → List (List ℕ) → List (List ℕ)
fec_packets s number [] = []
fec_packets s number (f ∷ fs) = packet_bytes (fec_packet s number f) ∷ fec_packets s ((number + 1) % 65536) fs

abbrev pub protection_for : Bool → FecWriter → ℕ
protection_for is_keyframe w = if is_keyframe then w.keyframe_protection else w.protection

-- the payloads of the packets of FEC
abbrev pub payloads_of : Bool → Sender → List (List ℕ)
payloads_of is_keyframe s = map fec_bytes (fecs (protection_for is_keyframe s.settings.writer) s.frame)

abbrev pub fec_of_frame : Bool → Sender → List (List ℕ)
fec_of_frame is_keyframe s = fec_packets s (next_number s.numbers) (payloads_of is_keyframe s)

-- the FEC takes its numbers, and the next frame begins
abbrev pub follow_if : ℕ → Numbers → Numbers
follow_if zero m = m
follow_if (suc count) m = followed (suc count % 65536) m

abbrev pub finished : Bool → Sender → Sender
finished is_keyframe s = record s { numbers = follow_if (length (payloads_of is_keyframe s)) s.numbers; frame = [] }
