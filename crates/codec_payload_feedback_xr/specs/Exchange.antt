-- What a peer learns by extended reports, and what it sends: its reference time, and the answer to the latest one of another peer.
use Rattle.std.specs.Prelude.{◌≡◌, ◌≤◌, ℕ, ◌+◌, ◌-◌, ◌%◌, ◌==◌, ◌||◌, nat_le, if◌then◌else◌, Bool, true, false, List, [], ◌∷◌, ◌++◌, Option, Some, None, Result, Ok, Err}
use Rattle.std.specs.Option.{is_some, option_map}
use Rattle.codec_payload_rtcp.specs.RtcpPackets.{Packet, sender_report, receiver_report, source_description, goodbye, nack, picture_loss, full_intra, other}
use Rattle.codec_payload_rtcp.specs.RtcpWriting.{AreUnpadded}
use Rattle.codec_payload_feedback_xr.specs.RoundTrip.{middle_bits, ntp_time, round_trip, ticks_of}
use Rattle.codec_payload_feedback_xr.specs.Xr.{Report, dlrr_block, dlrr_in, or_else, reference_time_block, reference_time_in, xr_packet}
use Rattle.codec_payload_feedback_xr.specs.XrReading.{body_at}
use Rattle.codec_payload_feedback_xr.specs.declared.exchange.PeerTime.{PeerTime}
use Rattle.codec_payload_feedback_xr.specs.declared.exchange.TimeExchange.{TimeExchange}
use Rattle.codec_payload_feedback_xr.specs.declared.report.Dlrr.{Dlrr}
use Rattle.codec_payload_feedback_xr.specs.declared.report.XrFault.{XrFault}

-- the middle 32 bits of a timestamp are not 0: a DLRR with 0 would say that no reference time came
abbrev pub marked : ℕ → ℕ
marked time = if middle_bits time == 0 then time + 65536 else time

abbrev pub reference_time : ℕ → ℕ → ℕ
reference_time now tick_rate = marked (ntp_time now tick_rate)

abbrev pub no_exchange : TimeExchange
no_exchange = record { round_trip = None; unanswered = 0; peer = None }

-- ---- what comes

abbrev pub read_report : Result Report XrFault → Option Report
read_report (Ok r) = Some r
read_report (Err fault) = None

-- an extended report without a fault
abbrev pub report_by : ℕ → List ℕ → Option Report
report_by packet_type body = if packet_type == 207 then read_report (body_at body) else None

abbrev pub report_in : Packet → Option Report
report_in (other p) = report_by p.packet_type p.body
report_in (sender_report s) = None
report_in (receiver_report r) = None
report_in (source_description cs) = None
report_in (goodbye g) = None
report_in (nack f) = None
report_in (picture_loss f) = None
report_in (full_intra f) = None

-- the round trip that an answer gives, in ticks. `at` is the middle 32 bits of the NTP time when it came
abbrev pub trip_by : (tick_rate : ℕ) → Option ℕ → Option ℕ
trip_by tick_rate trip = option_map (λ units. ticks_of units tick_rate) trip

abbrev pub trip_of : (tick_rate at : ℕ) → Option Dlrr → Option ℕ
trip_of tick_rate at None = None
trip_of tick_rate at (Some d) = trip_by tick_rate (round_trip at d.last_rr d.delay)

abbrev pub answer_by : (ssrc tick_rate at : ℕ) → Option Report → Option ℕ
answer_by ssrc tick_rate at None = None
answer_by ssrc tick_rate at (Some r) = trip_of tick_rate at (dlrr_in ssrc r.blocks)

-- the round trip by the answer of a packet to this SSRC
abbrev pub answer_of : (ssrc tick_rate at : ℕ) → Packet → Option ℕ
answer_of ssrc tick_rate at p = answer_by ssrc tick_rate at (report_in p)

-- a reference time of the peer with this SSRC, which came at this time
abbrev pub peer_of : (ssrc at : ℕ) → Option ℕ → Option PeerTime
peer_of ssrc at time = option_map (λ t. record { ssrc = ssrc; last_rr = middle_bits t; arrived = at }) time

abbrev pub peer_by : (at : ℕ) → Option Report → Option PeerTime
peer_by at None = None
peer_by at (Some r) = peer_of r.ssrc at (reference_time_in r.blocks)

-- an answer replaces the round trip
abbrev pub answered : Option ℕ → TimeExchange → TimeExchange
answered None x = x
answered (Some trip) x = record x { round_trip = Some trip; unanswered = 0 }

-- a reference time replaces the earlier one
abbrev pub asked : Option PeerTime → TimeExchange → TimeExchange
asked peer x = record x { peer = or_else peer x.peer }

-- a packet came
abbrev pub taken : (ssrc tick_rate at : ℕ) → Packet → TimeExchange → TimeExchange
taken ssrc tick_rate at p x = answered (answer_of ssrc tick_rate at p) (asked (peer_by at (report_in p)) x)

-- packets came, one after another
abbrev pub taken_all : (ssrc tick_rate at : ℕ) → List Packet → TimeExchange → TimeExchange
taken_all ssrc tick_rate at [] x = x
taken_all ssrc tick_rate at (p ∷ ps) x = taken_all ssrc tick_rate at ps (taken ssrc tick_rate at p x)

-- a compound packet came at this time
abbrev pub exchanged : (ssrc tick_rate now : ℕ) → List Packet → TimeExchange → TimeExchange
exchanged ssrc tick_rate now ps x = taken_all ssrc tick_rate (middle_bits (ntp_time now tick_rate)) ps x

abbrev pub any_at : (ssrc tick_rate at : ℕ) → List Packet → Bool
any_at ssrc tick_rate at [] = false
any_at ssrc tick_rate at (p ∷ ps) = is_some (answer_of ssrc tick_rate at p) || any_at ssrc tick_rate at ps

-- one of its packets has an answer that gives a round trip
abbrev pub any_answer : (ssrc tick_rate now : ℕ) → List Packet → Bool
any_answer ssrc tick_rate now ps = any_at ssrc tick_rate (middle_bits (ntp_time now tick_rate)) ps

-- ---- what leaves

-- the delay is the time since the reference time came, modulo 2^32
abbrev pub answer_to : ℕ → PeerTime → Dlrr
answer_to at peer = record { ssrc = peer.ssrc; last_rr = peer.last_rr; delay = (at + 4294967296 - peer.arrived) % 4294967296 }

abbrev pub answer_packets : (ssrc at : ℕ) → Option PeerTime → List Packet
answer_packets ssrc at None = []
answer_packets ssrc at (Some peer) = xr_packet (record { ssrc = ssrc; blocks = dlrr_block (answer_to at peer ∷ []) ∷ [] }) ∷ []

-- the reference time, and the answer if a reference time waits for one
abbrev pub exchange_packets : (ssrc time : ℕ) → TimeExchange → List Packet
exchange_packets ssrc time x =
    xr_packet (record { ssrc = ssrc; blocks = reference_time_block time ∷ [] }) ∷ answer_packets ssrc (middle_bits time) x.peer

-- new is old with the bytes of these packets at its end
abbrev pub AppendsEach : List Packet → List ℕ → List ℕ → Type 0
AppendsEach ps old new = (written : List ℕ) × AreUnpadded ps written × (new ≡ old ++ written)

-- ---- a report was sent

-- after three reports without an answer the next one ends the round trip
abbrev pub counted : Bool → TimeExchange → TimeExchange
counted true x = record x { unanswered = x.unanswered + 1; peer = None }
counted false x = record x { round_trip = None; unanswered = 0; peer = None }

abbrev pub sent_by : Option ℕ → TimeExchange → TimeExchange
sent_by None x = record x { peer = None }
sent_by (Some trip) x = counted (nat_le (x.unanswered + 1) 3) x

abbrev pub sent : TimeExchange → TimeExchange
sent x = sent_by x.round_trip x

abbrev pub is_lost_by : Option ℕ → ℕ → Bool
is_lost_by None unanswered = false
is_lost_by (Some trip) unanswered = nat_le 3 unanswered

abbrev pub is_lost : TimeExchange → Bool
is_lost x = is_lost_by x.round_trip x.unanswered
