-- The calls that measure a round trip by extended reports.
use Rattle.std.specs.Prelude.{◌≡◌, ◌⊎◌, ℕ, ◌==◌, Bool, true, false, List, [], Result, Ok, Err}
use Rattle.codec_payload_rtcp.specs.RtcpPackets.{Packet}
use Rattle.codec_payload_rtcp.specs.declared.packet.RtcpError.{RtcpError}
use Rattle.codec_payload_feedback_xr.specs.Exchange.{AppendsEach, any_answer, exchange_packets, exchanged, reference_time}
use Rattle.codec_payload_c_packets.specs.Congestion.{IsUnwritten, PutsPacket}
use Rattle.codec_payload_c_packets.specs.Histories.{rtcp_status}
use Rattle.codec_payload_c_packets.specs.TransportReporters.{Writing}
use Rattle.codec_payload_c_path.specs.Exchanges.{exchange_given, exchange_told}
use Rattle.codec_payload_c_path.specs.declared.exchange.XrExchange.{XrExchange}

-- what a call reads and writes, before and after
pub record Exchanging : Type 0 where
  pub before : XrExchange
  pub after : XrExchange
  pub answered_before : Bool
  pub answered : Bool

abbrev pub IsUntaken : Exchanging → Type 0
IsUntaken x = (x.after ≡ x.before) × (x.answered ≡ x.answered_before)

-- Status 0: the packets are taken. Otherwise the status of the first fault, and nothing changes
abbrev pub TakesPackets : (ssrc tick_rate now : ℕ) → Result (List Packet) RtcpError → ℕ → Exchanging → Type 0
TakesPackets ssrc tick_rate now (Ok packets) status x =
    (status ≡ 0) × (x.after ≡ exchange_told (exchanged ssrc tick_rate now packets (exchange_given x.before))) × (x.answered ≡ any_answer ssrc tick_rate now packets)
TakesPackets ssrc tick_rate now (Err fault) status x = (status ≡ rtcp_status fault) × IsUntaken x

-- status 37: the clock has no rate, and nothing changes
abbrev pub TakesReportsIf : (no_rate : Bool) → (ssrc tick_rate now : ℕ) → Result (List Packet) RtcpError → ℕ → Exchanging → Type 0
TakesReportsIf true ssrc tick_rate now packets status x = (status ≡ 37) × IsUntaken x
TakesReportsIf false ssrc tick_rate now packets status x = TakesPackets ssrc tick_rate now packets status x

abbrev pub TakesReports : (ssrc tick_rate now : ℕ) → Result (List Packet) RtcpError → ℕ → Exchanging → Type 0
TakesReports ssrc tick_rate now packets status x = TakesReportsIf (tick_rate == 0) ssrc tick_rate now packets status x

-- the reference time, and the answer to the latest reference time that came, at the front of the output buffer
abbrev pub PutsReports : (ssrc tick_rate now : ℕ) → XrExchange → ℕ → Writing → Type 0
PutsReports ssrc tick_rate now x status w =
    (packets : List ℕ) × AppendsEach (exchange_packets ssrc (reference_time now tick_rate) (exchange_given x)) [] packets × PutsPacket packets status w

-- Status 37: the clock has no rate. Status 17: memory ran out. Neither writes anything
abbrev pub WritesReportsIf : (no_rate : Bool) → (ssrc tick_rate now : ℕ) → XrExchange → ℕ → Writing → Type 0
WritesReportsIf true ssrc tick_rate now x status w = (status ≡ 37) × IsUnwritten w
WritesReportsIf false ssrc tick_rate now x status w = PutsReports ssrc tick_rate now x status w ⊎ ((status ≡ 17) × IsUnwritten w)

abbrev pub WritesReports : (ssrc tick_rate now : ℕ) → XrExchange → ℕ → Writing → Type 0
WritesReports ssrc tick_rate now x status w = WritesReportsIf (tick_rate == 0) ssrc tick_rate now x status w
