-- Reports about the streams of a session: blocks of receiver reports, and what sender reports say.
use Rattle.std.specs.Prelude.{◌≡◌, ℕ, Option, Some, None}
use Rattle.std.specs.List.{position}
use Rattle.codec_payload_handle.specs.declared.object.PortSession.{PortSession}
use Rattle.codec_payload_rtcp.specs.declared.items.ReportBlock.{ReportBlock}
use Rattle.codec_payload_session.specs.Arrivals.{Port}
use Rattle.codec_payload_session.specs.Ports.{ReportsIf}
use Rattle.codec_payload_session_stream.specs.Reports.{block_among, clock_among}
use Rattle.codec_payload_session_stream.specs.Streams.{is_of}
use Rattle.codec_payload_session_stream.specs.declared.reports.SenderClock.{SenderClock}
use Rattle.codec_payload_handle.specs.declared.report_block.ReportBlockInfo.{ReportBlockInfo}
use Rattle.codec_payload_c_receiving.specs.declared.session_reports.SenderClockInfo.{SenderClockInfo}
use Rattle.codec_payload_handle.specs.ReportBlocks.{TellsBlock}

-- ---- blocks

-- the block about the sender of the stream with this SSRC and payload type; no other stream changes
pub record TellsBlockOf (ssrc payload_type now : ℕ) (r : PortSession) (status : ℕ) (before after : ReportBlockInfo) (s : PortSession) : Type 0 where
  pub answer : Option ReportBlock
  pub port : Port
  pub reports : ReportsIf (position (is_of ssrc payload_type) r.session.port.streams) r.session.settings.tick_rate now r.session.port answer port
  pub left : s ≡ record r { session = record r.session { port = port } }
  pub tells : TellsBlock answer status before after

-- the block that the next report about the stream with this SSRC and payload type would have now
abbrev pub block_told_by : (ssrc payload_type now : ℕ) → PortSession → Option ReportBlock
block_told_by ssrc payload_type now r =
    block_among (position (is_of ssrc payload_type) r.session.port.streams) r.session.settings.tick_rate now r.session.port.streams

-- ---- the clock of a sender

-- the clock of the stream with this SSRC and payload type
abbrev pub clock_told_by : ℕ → ℕ → PortSession → Option SenderClock
clock_told_by ssrc payload_type r = clock_among (position (is_of ssrc payload_type) r.session.port.streams) r.session.port.streams

abbrev pub clock_info : SenderClock → SenderClockInfo
clock_info c = record { ntp_time = c.ntp_time; arrived = c.arrived.0; rtp_time = c.rtp_time }

-- a clock, if it is known; otherwise status 32
abbrev pub TellsClock : Option SenderClock → ℕ → (before after : SenderClockInfo) → Type 0
TellsClock None status before after = (status ≡ 32) × (after ≡ before)
TellsClock (Some c) status before after = (status ≡ 0) × (after ≡ clock_info c)
