-- A history of sent packets, as contracts see it.
use Rattle.std.specs.Prelude.{◌≡◌, ◌⊎◌, ℕ, ◌+◌, ◌%◌, nat_lt, Bool, true, List, [], ◌∷◌, map, Option, Some, None, Result, Ok, Err}
use Rattle.codec_payload_base.specs.declared.wire.Ticks.{Ticks}
use Rattle.codec_payload_rtp.specs.RtpPackets.{Packet}
use Rattle.codec_payload_rtp.specs.RtpReading.{rtp_at}
use Rattle.codec_payload_rtp.specs.declared.rtp.RtpError.{RtpError}
use Rattle.codec_payload_sending_history.specs.declared.retransmission.RetransmissionStream.{RetransmissionStream}
use Rattle.codec_payload_sending_history.specs.declared.retransmission.SentPacket.{SentPacket}

-- a packet that was sent, and when it was resent last, if it was
pub record Sent : Type 0 where
  pub bytes : List ℕ
  pub resent : Option Ticks

-- a history: its settings; the number of the next retransmission; the highest number; the number that was refused last, if no
-- packet was kept since; and a place for each number, from the highest down, with the packet of that number. A place without a
-- packet has no bytes
pub record Past : Type 0 where
  pub limit : ℕ
  pub interval : ℕ
  pub stream : Option RetransmissionStream
  pub next : ℕ
  pub newest : ℕ
  pub refused : Option ℕ
  pub packets : List Sent

-- a place without a packet
abbrev pub no_packet : Sent
no_packet = record { bytes = []; resent = None }

abbrev pub sent_of : SentPacket → Sent
sent_of p = record { bytes = p.bytes.items; resent = p.resent }

abbrev pub packets_of : List SentPacket → List Sent
packets_of = map sent_of

-- the sequence number of a packet, if it is one
abbrev pub number_of : Result Packet RtpError → Option ℕ
number_of (Ok p) = Some p.header.sequence_number
number_of (Err fault) = None

abbrev pub number_in : List ℕ → Option ℕ
number_in bytes = number_of (rtp_at bytes)

-- the place of a number has no packet, or the packet with this number
abbrev pub IsPlaceOf : ℕ → Sent → Type 0
IsPlaceOf number p = (p ≡ no_packet) ⊎ (number_in p.bytes ≡ Some number)

-- the places are of consecutive numbers, down from that one
abbrev pub AreNumbered : ℕ → List Sent → Type 0
AreNumbered number [] = Unit {0}
AreNumbered number (p ∷ packets) = IsPlaceOf number p × AreNumbered ((number + 65535) % 65536) packets

-- the payload type of retransmissions is below 128
abbrev pub stream_fits : Option RetransmissionStream → Bool
stream_fits None = true
stream_fits (Some stream) = nat_lt stream.payload_type 128
