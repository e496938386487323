-- Sender reports, receiver reports and their blocks, of a compound RTCP packet.
use Rattle.std.specs.Prelude.{◌≡◌, ℕ, ◌+◌, ◌*◌, ◌/◌, nat_lt, Bool, true, false, List, length, filter_map, slice_get, Option, Some, None, Result, Ok, Err}
use Rattle.codec_payload_rtcp.specs.RtcpItems.{block_at}
use Rattle.codec_payload_rtcp.specs.RtcpPackets.{Packet, sender_report, receiver_report, source_description, goodbye, nack, picture_loss, full_intra, other}
use Rattle.codec_payload_rtcp.specs.RtcpReading.{compound_at}
use Rattle.codec_payload_rtcp.specs.declared.packet.RtcpError.{RtcpError}
use Rattle.codec_payload_c_packets.specs.Histories.{rtcp_status}
use Rattle.codec_payload_handle.specs.ReportBlocks.{block_info}
use Rattle.codec_payload_c_packets.specs.declared.rtcp_reports.RtcpReportInfo.{RtcpReportInfo}
use Rattle.codec_payload_handle.specs.declared.report_block.ReportBlockInfo.{ReportBlockInfo}

-- the fields and the blocks of a report, sender report or receiver report (RFC 3550, sections 6.4.1 and 6.4.2)
abbrev pub report_in : Packet → Option (RtcpReportInfo × List ℕ)
report_in (sender_report s) =
    Some (record { ntp_time = s.ntp_seconds * 4294967296 + s.ntp_fraction; blocks = length s.blocks / 24; ssrc = s.ssrc; rtp_time = s.rtp_time; packets = s.packet_count; octets = s.octet_count; is_sender = true }, s.blocks)
report_in (receiver_report r) =
    Some (record { ntp_time = 0; blocks = length r.blocks / 24; ssrc = r.ssrc; rtp_time = 0; packets = 0; octets = 0; is_sender = false }, r.blocks)
report_in (source_description cs) = None
report_in (goodbye g) = None
report_in (nack f) = None
report_in (picture_loss f) = None
report_in (full_intra f) = None
report_in (other p) = None

-- the reports among packets, in order
abbrev pub reports_in : List Packet → List (RtcpReportInfo × List ℕ)
reports_in packets = filter_map report_in packets

abbrev pub found_or : Option (RtcpReportInfo × List ℕ) → Result (RtcpReportInfo × List ℕ) ℕ
found_or (Some report) = Ok report
found_or None = Err 32

abbrev pub report_among : ℕ → Result (List Packet) RtcpError → Result (RtcpReportInfo × List ℕ) ℕ
report_among index (Ok packets) = found_or (slice_get (reports_in packets) index)
report_among index (Err fault) = Err (rtcp_status fault)

-- the report with this index in a compound packet; or status 32 if there are fewer, or the status of the first fault
abbrev pub report_with : (full : Bool) → (index : ℕ) → List ℕ → Result (RtcpReportInfo × List ℕ) ℕ
report_with full index rtcp = report_among index (compound_at full rtcp)

-- Status 0: the fields. Otherwise nothing is written
abbrev pub ReadsReport : Result (RtcpReportInfo × List ℕ) ℕ → ℕ → (before after : RtcpReportInfo) → Type 0
ReadsReport (Ok report) status before after = (status ≡ 0) × (after ≡ report.0)
ReadsReport (Err refusal) status before after = (status ≡ refusal) × (after ≡ before)

-- the block at this place; or status 32 if there are fewer
abbrev pub ReadsBlockIf : Bool → List ℕ → (place status : ℕ) → (before after : ReportBlockInfo) → Type 0
ReadsBlockIf true blocks place status before after = (status ≡ 0) × (after ≡ block_info (block_at place blocks))
ReadsBlockIf false blocks place status before after = (status ≡ 32) × (after ≡ before)

abbrev pub ReadsBlock : List ℕ → (place status : ℕ) → (before after : ReportBlockInfo) → Type 0
ReadsBlock blocks place status before after = ReadsBlockIf (nat_lt place (length blocks / 24)) blocks place status before after

abbrev pub ReadsBlockOf : Result (RtcpReportInfo × List ℕ) ℕ → (place status : ℕ) → (before after : ReportBlockInfo) → Type 0
ReadsBlockOf (Ok report) place status before after = ReadsBlock report.1 place status before after
ReadsBlockOf (Err refusal) place status before after = (status ≡ refusal) × (after ≡ before)
