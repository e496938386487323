-- Reports of RTCP about the streams of a session (RFC 3550, section 6.4.1).
use Rattle.std.specs.Prelude.{ℕ, min, ◌+◌, ◌-◌, ◌*◌, ◌/◌, ◌%◌, ◌^◌, ◌==◌, ◌&&◌, not, nat_lt, if◌then◌else◌, Bool, true, false, List, [], ◌∷◌, map, Option, Some, None, Result, Ok, Err, slice_get}
use Rattle.std.specs.Int.{w32, cast_unsigned}
use Rattle.std.specs.Option.{option_map}
use Rattle.codec_payload_base.specs.declared.wire.Ticks.{Ticks}
use Rattle.codec_payload_rtcp.specs.RtcpPackets.{Packet, Sender, sender_report, receiver_report, source_description, goodbye, nack, picture_loss, full_intra, other}
use Rattle.codec_payload_rtcp.specs.RtcpReading.{compound_at}
use Rattle.codec_payload_rtcp.specs.declared.items.ReportBlock.{ReportBlock}
use Rattle.codec_payload_rtcp.specs.declared.packet.RtcpError.{RtcpError}
use Rattle.codec_payload_numbers.specs.Reports.{report_of, reported}
use Rattle.codec_payload_numbers.specs.declared.statistics.ReceptionReport.{ReceptionReport}
use Rattle.codec_payload_session_stream.specs.declared.reports.SenderClock.{SenderClock}
use Rattle.codec_payload_session_stream.specs.declared.stream.StreamState.{StreamState}

-- ---- the clock of a sender

-- the NTP timestamp and the RTP timestamp of a sender report, and when it arrived
abbrev pub clock_of : Ticks → Sender → SenderClock
clock_of now r = record { ntp_time = r.ntp_seconds * 2 ^ 32 + r.ntp_fraction; rtp_time = r.rtp_time; arrived = now }

-- from one RTP time on to another, modulo 2^32
abbrev pub ticks_between : ℕ → ℕ → ℕ
ticks_between from to = (to + (2 ^ 32 - from)) % 2 ^ 32

-- ticks of an RTP clock as NTP time, rounded down
abbrev pub ntp_ticks : ℕ → ℕ → ℕ
ntp_ticks ticks rate = ticks * 2 ^ 32 / rate

abbrev pub ntp_by : SenderClock → ℕ → ℕ → ℕ
ntp_by c time rate =
    if nat_lt (ticks_between c.rtp_time time) (2 ^ 31)
    then (c.ntp_time + ntp_ticks (ticks_between c.rtp_time time) rate) % 2 ^ 64
    else (c.ntp_time + (2 ^ 64 - ntp_ticks (ticks_between time c.rtp_time) rate)) % 2 ^ 64

-- the NTP time of an RTP time: as far from the NTP time of the report as the RTP time is from its RTP time, the shorter way round
abbrev pub ntp_at : SenderClock → ℕ → ℕ → ℕ
ntp_at c time rate = ntp_by c (time % 2 ^ 32) rate

-- ---- sender reports arrive

abbrev pub report_if : ℕ → Sender → Option Sender
report_if ssrc r = if ssrc == r.ssrc then Some r else None

-- the packet is a sender report of the SSRC
abbrev pub report_by : ℕ → Packet → Option Sender
report_by ssrc (sender_report r) = report_if ssrc r
report_by ssrc (receiver_report r) = None
report_by ssrc (source_description cs) = None
report_by ssrc (goodbye g) = None
report_by ssrc (nack f) = None
report_by ssrc (picture_loss f) = None
report_by ssrc (full_intra f) = None
report_by ssrc (other p) = None

abbrev pub later_of : Option Sender → Option Sender → Option Sender
later_of None earlier = earlier
later_of (Some r) earlier = Some r

-- the last sender report of the SSRC among the packets
abbrev pub latest : ℕ → List Packet → Option Sender
latest ssrc [] = None
latest ssrc (p ∷ ps) = later_of (latest ssrc ps) (report_by ssrc p)

-- without a new report the clock stays
abbrev pub clock_after : Ticks → Option Sender → Option SenderClock → Option SenderClock
clock_after now None clock = clock
clock_after now (Some r) clock = Some (clock_of now r)

-- the packets arrived at this time
abbrev pub noted : Ticks → List Packet → StreamState → StreamState
noted now ps s = record s { sender_clock = clock_after now (latest s.ssrc ps) s.sender_clock }

abbrev pub noted_where : Ticks → List Packet → List StreamState → List StreamState
noted_where now ps ss = map (noted now ps) ss

-- a compound packet with a fault has no reports
abbrev pub noted_in : Ticks → Result (List Packet) RtcpError → List StreamState → List StreamState
noted_in now (Ok ps) ss = noted_where now ps ss
noted_in now (Err e) ss = ss

-- the streams after a datagram of RTCP
abbrev pub noted_at : Ticks → List ℕ → List StreamState → List StreamState
noted_at now bytes ss = noted_in now (compound_at false bytes) ss

-- the clock of the stream, if it has this SSRC
abbrev pub clocked_if : ℕ → SenderClock → StreamState → StreamState
clocked_if ssrc clock s = if s.ssrc == ssrc then record s { sender_clock = Some clock } else s

abbrev pub clocked_where : ℕ → SenderClock → List StreamState → List StreamState
clocked_where ssrc clock ss = map (clocked_if ssrc clock) ss

abbrev pub clock_in : Option StreamState → Option SenderClock
clock_in None = None
clock_in (Some s) = s.sender_clock

-- the clock of the stream at a place
abbrev pub clock_among : Option ℕ → List StreamState → Option SenderClock
clock_among None ss = None
clock_among (Some place) ss = clock_in (slice_get ss place)

-- ---- report blocks

-- LSR: the middle 32 bits of the NTP timestamp of the latest sender report, or 0
abbrev pub last_report : Option SenderClock → ℕ
last_report None = 0
last_report (Some clock) = clock.ntp_time / 2 ^ 16 % 2 ^ 32

-- DLSR: the time since that report arrived, in 1/65536 s and 32 bits, or 0
abbrev pub delay_since : Option SenderClock → ℕ → ℕ → ℕ
delay_since None tick_rate now = 0
delay_since (Some clock) tick_rate now = min ((now - clock.arrived.0) * 65536 / tick_rate) (2 ^ 32 - 1)

-- the lost packets are 24 bits in two's complement
abbrev pub block_about : ℕ → Option SenderClock → ℕ → ℕ → ReceptionReport → ReportBlock
block_about ssrc clock tick_rate now r = record {
  ssrc = ssrc;
  fraction_lost = r.fraction_lost;
  cumulative_lost = cast_unsigned w32 r.cumulative_lost % 2 ^ 24;
  highest_sequence_number = r.highest;
  jitter = r.jitter;
  last_sender_report = last_report clock;
  delay_since_sender_report = delay_since clock tick_rate now;
}

-- the block about the sender of a stream; none if no packet of it arrived
abbrev pub block_of : ℕ → ℕ → StreamState → Option ReportBlock
block_of tick_rate now s = option_map (block_about s.ssrc s.sender_clock tick_rate now) (report_of s.receiver.reception)

-- the block about the stream at a place
abbrev pub block_in : (tick_rate now : ℕ) → Option StreamState → Option ReportBlock
block_in tick_rate now None = None
block_in tick_rate now (Some s) = block_of tick_rate now s

abbrev pub block_among : Option ℕ → (tick_rate now : ℕ) → List StreamState → Option ReportBlock
block_among None tick_rate now ss = None
block_among (Some place) tick_rate now ss = block_in tick_rate now (slice_get ss place)

-- the next report starts its fraction here
abbrev pub reported_by : StreamState → StreamState
reported_by s = record s { receiver = record s.receiver { reception = reported s.receiver.reception } }

-- the next report of a reported stream starts its fraction here
abbrev pub reported_if : Bool → Bool → StreamState → StreamState
reported_if true is_new s = record (reported_by s) { was_reported = true }
reported_if false is_new s = record s { was_reported = not is_new && s.was_reported }
