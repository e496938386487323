use Rattle.std.proofs.Common.{◌≡◌, slice_get}
use Rattle.codec_payload_rtcp.specs.RtcpReading.{packets_left}
use Rattle.codec_payload_c_packets.specs.RtcpReports.{reports_in}
use Rattle.codec_payload_c_packets.proofs.rtcp_reports.nth_report.Given as goal

abbrev pub invariant-loop-packet : goal.invariant-loop-packet
invariant-loop-packet l = slice_get (reports_in (packets_left l.packet-iterator)) l.left ≡ slice_get (reports_in (packets_left l.fn.packets)) l.index
