-- The calls on congestion control feedback of RFC 8888.
use Rattle.std.specs.Prelude.{◌≡◌, ◌⊎◌, ℕ, ◌/◌, ◌%◌, ◌==◌, ◌&&◌, nat_le, if◌then◌else◌, Bool, true, false, List, [], ◌∷◌, ◌++◌, drop, filter_map, length, map, slice_get, Option, Some, None, Result, Ok, Err}
use Rattle.codec_payload_rtcp.specs.RtcpPackets.{Packet, sender_report, receiver_report, source_description, goodbye, nack, picture_loss, full_intra, other}
use Rattle.codec_payload_rtcp.specs.RtcpWriting.{Appends}
use Rattle.codec_payload_feedback_ccfb.specs.Ccfb.{Congestion, Report, ccfb_packet, congestion_fits}
use Rattle.codec_payload_feedback_ccfb.specs.CcfbReading.{body_at}
use Rattle.codec_payload_feedback_ccfb.specs.declared.feedback.CcfbFault.{CcfbFault}
use Rattle.codec_payload_feedback_ccfb.specs.declared.feedback.CcfbFault.TheVariants as faults
use Rattle.codec_payload_feedback_ccfb.specs.declared.feedback.PacketMetric.{PacketMetric}
use Rattle.codec_payload_c_path.specs.Writing.{IsUnwritten, PutsPacket, Writing}
use Rattle.codec_payload_c_path.specs.declared.ccfb.CcfbInfo.{CcfbInfo}
use Rattle.codec_payload_c_path.specs.declared.ccfb.CcfbPacket.{CcfbPacket}

-- ---- a packet of a compound packet: type 205, format 11

abbrev pub body_of : Packet → Option (List ℕ)
body_of (sender_report s) = None
body_of (receiver_report r) = None
body_of (source_description cs) = None
body_of (goodbye g) = None
body_of (nack f) = None
body_of (picture_loss f) = None
body_of (full_intra f) = None
body_of (other p) = if (p.packet_type == 205) && (p.count == 11) then Some p.body else None

abbrev pub bodies_in : List Packet → List (List ℕ)
bodies_in packets = filter_map body_of packets

-- ---- reading

-- the statuses for bytes that are not congestion control feedback
abbrev pub fault_status : CcfbFault → ℕ
fault_status faults.TooShort = 78
fault_status faults.BlockTooShort = 79
fault_status faults.TooMany = 80
fault_status faults.MetricsTooShort = 81

-- zeros for a packet that did not arrive
abbrev pub metric_told : Option PacketMetric → CcfbPacket
metric_told (Some m) = record { offset = m.offset; ecn = m.ecn; arrived = true }
metric_told None = record { offset = 0; ecn = 0; arrived = false }

abbrev pub info_of : Congestion → Report → CcfbInfo
info_of f r = record { count = length r.metrics; sender_ssrc = f.sender; ssrc = r.ssrc; timestamp = f.timestamp; first = r.first }

-- what a call writes, before and after
pub record Reading : Type 0 where
  pub info_before : CcfbInfo
  pub info : CcfbInfo
  pub before : List CcfbPacket
  pub packets : List CcfbPacket

-- Status 0: what is reported about each packet, in order; later elements stay. Status 33: there is no room for it. The description is
-- written
abbrev pub PutsIfRoom : Bool → Report → ℕ → List CcfbPacket → List CcfbPacket → Type 0
PutsIfRoom true r status before packets = (status ≡ 0) × (packets ≡ map metric_told r.metrics ++ drop (length r.metrics) before)
PutsIfRoom false r status before packets = (status ≡ 33) × (packets ≡ before)

abbrev pub PutsStream : Congestion → Report → ℕ → CcfbInfo → List CcfbPacket → List CcfbPacket → Type 0
PutsStream f r status info before packets = (info ≡ info_of f r) × PutsIfRoom (nat_le (length r.metrics) (length before)) r status before packets

abbrev pub IsUnread : Reading → Type 0
IsUnread x = (x.info ≡ x.info_before) × (x.packets ≡ x.before)

-- status 32: it has no report with this index
abbrev pub ReadsReport : Congestion → Option Report → ℕ → Reading → Type 0
ReadsReport f (Some r) status x = PutsStream f r status x.info x.before x.packets
ReadsReport f None status x = (status ≡ 32) × IsUnread x

-- otherwise the status of the first fault, and nothing is written
abbrev pub ReadsFeedback : Result Congestion CcfbFault → (stream : ℕ) → ℕ → Reading → Type 0
ReadsFeedback (Ok f) stream status x = ReadsReport f (slice_get f.reports stream) status x
ReadsFeedback (Err fault) stream status x = (status ≡ fault_status fault) × IsUnread x

-- status 17: memory ran out, and nothing is written
abbrev pub ReadsStream : (body : List ℕ) → (stream : ℕ) → ℕ → Reading → Type 0
ReadsStream body stream status x = ReadsFeedback (body_at body) stream status x ⊎ ((status ≡ 17) × IsUnread x)

-- ---- writing

abbrev pub metric_given : CcfbPacket → Option PacketMetric
metric_given p = if p.arrived then Some (record { ecn = p.ecn; offset = p.offset }) else None

-- feedback with one block
abbrev pub feedback_given : CcfbInfo → List CcfbPacket → Congestion
feedback_given i packets =
    record { sender = i.sender_ssrc; reports = record { ssrc = i.ssrc; first = i.first; metrics = map metric_given packets } ∷ []; timestamp = i.timestamp }

-- the packet at the front of the output buffer
abbrev pub PutsFeedback : Congestion → ℕ → Writing → Type 0
PutsFeedback f status w = (packet : List ℕ) × Appends [] packet (ccfb_packet f) × PutsPacket packet status w

-- status 37: the feedback has no spelling, and nothing is written
abbrev pub WritesIfFits : Bool → Congestion → ℕ → Writing → Type 0
WritesIfFits true f status w = PutsFeedback f status w
WritesIfFits false f status w = (status ≡ 37) × IsUnwritten w

-- status 17: memory ran out, and nothing is written
abbrev pub WritesStream : CcfbInfo → List CcfbPacket → ℕ → Writing → Type 0
WritesStream i packets status w =
    WritesIfFits (congestion_fits (feedback_given i packets)) (feedback_given i packets) status w ⊎ ((status ≡ 17) × IsUnwritten w)

-- a time of microseconds in quarters of a millisecond, modulo 2^32
abbrev pub in_quarters : ℕ → ℕ
in_quarters micros = micros / 250 % 4294967296
