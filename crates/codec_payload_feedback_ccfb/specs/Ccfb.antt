-- Congestion control feedback (RFC 8888, section 3.1), and how it is spelled.
use Rattle.std.specs.Prelude.{ℕ, ◌+◌, ◌-◌, ◌*◌, ◌%◌, ◌==◌, ◌&&◌, nat_le, if◌then◌else◌, Bool, true, List, [], ◌∷◌, ◌++◌, length, map, Option, Some, None}
use Rattle.std.specs.Int.{w16, w32, to_be_bytes}
use Rattle.std.specs.List.{flat_map}
use Rattle.codec_payload_rtcp.specs.RtcpPackets.{Packet, other}
use Rattle.codec_payload_feedback_ccfb.specs.declared.feedback.CongestionFeedback.{CongestionFeedback}
use Rattle.codec_payload_feedback_ccfb.specs.declared.feedback.PacketMetric.{PacketMetric}
use Rattle.codec_payload_feedback_ccfb.specs.declared.feedback.StreamReport.{StreamReport}

-- a block: the SSRC of the stream, the first sequence number (begin_seq), and of each number from there on what is reported, or that the
-- packet did not arrive
pub record Report : Type 0 where
  pub ssrc : ℕ
  pub first : ℕ
  pub metrics : List (Option PacketMetric)

-- the SSRC of the sender, the blocks, and the time of the report
pub record Congestion : Type 0 where
  pub sender : ℕ
  pub reports : List Report
  pub timestamp : ℕ

-- values without their places in memory
abbrev pub report_of : StreamReport → Report
report_of r = record { ssrc = r.ssrc; first = r.first; metrics = r.metrics.items }

abbrev pub congestion_of : CongestionFeedback → Congestion
congestion_of f = record { sender = f.sender_ssrc; reports = map report_of f.reports.items; timestamp = f.timestamp }

-- ---- how it is spelled

-- R(1) ECN(2) ATO(13); all bits are 0 if the packet did not arrive
abbrev pub metric_word : Option PacketMetric → ℕ
metric_word None = 0
metric_word (Some m) = 32768 + m.ecn * 8192 + m.offset

abbrev pub metric_bytes : Option PacketMetric → List ℕ
metric_bytes m = to_be_bytes w16 (metric_word m)

abbrev pub metrics_bytes : List (Option PacketMetric) → List ℕ
metrics_bytes ms = flat_map metric_bytes ms

-- two bytes of zeros after an odd number of packets
abbrev pub fill_of : ℕ → List ℕ
fill_of count = if count % 2 == 0 then [] else 0 ∷ 0 ∷ []

-- the SSRC, begin_seq, num_reports, the packets
abbrev pub report_bytes : Report → List ℕ
report_bytes r = to_be_bytes w32 r.ssrc ++ (to_be_bytes w16 r.first ++ (to_be_bytes w16 (length r.metrics) ++ (metrics_bytes r.metrics ++ fill_of (length r.metrics))))

abbrev pub reports_bytes : List Report → List ℕ
reports_bytes rs = flat_map report_bytes rs

-- after the header: the SSRC of the sender, the blocks, the time of the report
abbrev pub body_bytes : Congestion → List ℕ
body_bytes f = to_be_bytes w32 f.sender ++ (reports_bytes f.reports ++ to_be_bytes w32 f.timestamp)

-- RTPFB, format 11
abbrev pub ccfb_packet : Congestion → Packet
ccfb_packet f = other (record { packet_type = 205; count = 11; body = body_bytes f })

-- ---- what has a spelling

abbrev pub metric_fits : Option PacketMetric → Bool
metric_fits None = true
metric_fits (Some m) = nat_le m.ecn 3 && nat_le m.offset 8191

abbrev pub metrics_fit : List (Option PacketMetric) → Bool
metrics_fit [] = true
metrics_fit (m ∷ ms) = metric_fits m && metrics_fit ms

-- at most 16,384 packets
abbrev pub report_fits : Report → Bool
report_fits r = nat_le (length r.metrics) 16384 && metrics_fit r.metrics

abbrev pub block_size : ℕ → ℕ
block_size count = 8 + 2 * (count + count % 2)

-- blocks in the given number of bytes
abbrev pub reports_fit : ℕ → List Report → Bool
reports_fit room [] = true
reports_fit room (r ∷ rs) = report_fits r && (nat_le (block_size (length r.metrics)) room && reports_fit (room - block_size (length r.metrics)) rs)

-- the packet has at most 65,536 words
abbrev pub congestion_fits : Congestion → Bool
congestion_fits f = reports_fit 262132 f.reports
