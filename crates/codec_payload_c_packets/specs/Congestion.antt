-- The calls that read and write feedback for congestion control without a handle.
use Rattle.std.specs.Prelude.{◌≡◌, ◌⊎◌, ℕ, ◌+◌, ◌%◌, nat_le, Bool, true, false, List, [], ◌∷◌, ◌++◌, length, drop, slice_get, Option, Some, None, Result, Ok, Err}
use Rattle.std.specs.Int.{w32, from_be_bytes, to_be_bytes}
use Rattle.std.specs.List.{flat_map}
use Rattle.codec_payload_feedback_congestion.specs.Feedback.{Reported, feedback_at}
use Rattle.codec_payload_feedback_congestion.specs.Packet.{AppendsRembPacket}
use Rattle.codec_payload_feedback_congestion.specs.Remb.{Estimate, remb_at}
use Rattle.codec_payload_feedback_congestion.specs.declared.remb.RembFault.{RembFault}
use Rattle.codec_payload_feedback_congestion.specs.declared.remb.RembFault.TheVariants as remb
use Rattle.codec_payload_feedback_congestion.specs.declared.transport.TransportError.{TransportError}
use Rattle.codec_payload_feedback_congestion.specs.declared.transport.TransportError.TheVariants as failures
use Rattle.codec_payload_feedback_congestion.specs.declared.transport.TransportFault.{TransportFault}
use Rattle.codec_payload_feedback_congestion.specs.declared.transport.TransportFault.TheVariants as faults
use Rattle.codec_payload_handle.specs.Bytes.{filled}
use Rattle.codec_payload_rtcp.specs.RtcpPackets.{Feedback}
use Rattle.codec_payload_rtcp.specs.declared.packet.RtcpError.{RtcpError}
use Rattle.codec_payload_feedback_transport.specs.Messages.{messages_at}
use Rattle.codec_payload_feedback_transport.specs.Numbering.{AppendsNumbered, IsUnnumbered}
use Rattle.codec_payload_feedback_transport.specs.declared.numbering.NumberingError.{NumberingError}
use Rattle.codec_payload_feedback_transport.specs.declared.numbering.NumberingError.TheVariants as numbering
use Rattle.codec_payload_c_packets.specs.Histories.{put_first, rtcp_status}
use Rattle.codec_payload_handle.specs.RtpFaults.{rtp_status}
use Rattle.codec_payload_c_packets.specs.TransportReporters.{Writing}
use Rattle.codec_payload_c_packets.specs.declared.congestion.PacketArrival.{PacketArrival}
use Rattle.codec_payload_c_packets.specs.declared.congestion.TransportFeedbackInfo.{TransportFeedbackInfo}

-- ---- writing

-- SSRCs in network order
abbrev pub ssrc_bytes : List ℕ → List ℕ
ssrc_bytes ssrcs = flat_map (to_be_bytes w32) ssrcs

-- nothing is written
abbrev pub IsUnwritten : Writing → Type 0
IsUnwritten w = (w.bytes ≡ w.before) × (w.size ≡ w.size_before)

-- Status 0: the packet is at the front of the output buffer. Status 33: the output buffer is too small. The size is reported
abbrev pub PutsIf : Bool → List ℕ → ℕ → Writing → Type 0
PutsIf true packet status w = (status ≡ 0) × (w.bytes ≡ filled packet w.before) × (w.size ≡ length packet)
PutsIf false packet status w = (status ≡ 33) × (w.bytes ≡ w.before) × (w.size ≡ length packet)

abbrev pub PutsPacket : List ℕ → ℕ → Writing → Type 0
PutsPacket packet status w = PutsIf (nat_le (length packet) (length w.before)) packet status w

-- a packet of REMB about these SSRCs
abbrev pub PutsRemb : ℕ → ℕ → List ℕ → ℕ → Writing → Type 0
PutsRemb sender bitrate ssrcs status w =
    (packet : List ℕ) × AppendsRembPacket [] packet sender bitrate (ssrc_bytes ssrcs) × PutsPacket packet status w

-- Status 17: memory ran out. Status 37: there are more than 255 SSRCs. Neither writes anything
abbrev pub WritesRembIf : Bool → ℕ → ℕ → List ℕ → ℕ → Writing → Type 0
WritesRembIf true sender bitrate ssrcs status w = PutsRemb sender bitrate ssrcs status w ⊎ ((status ≡ 17) × IsUnwritten w)
WritesRembIf false sender bitrate ssrcs status w = (status ≡ 37) × IsUnwritten w

abbrev pub WritesRemb : ℕ → ℕ → List ℕ → ℕ → Writing → Type 0
WritesRemb sender bitrate ssrcs status w = WritesRembIf (nat_le (length ssrcs) 255) sender bitrate ssrcs status w

-- ---- numbers

-- the statuses for a datagram that gets no number
abbrev pub numbering_status : NumberingError → ℕ
numbering_status (numbering.Rtp fault) = rtp_status fault
numbering_status numbering.OtherProfile = 74
numbering_status numbering.NoRoom = 75
numbering_status numbering.OutOfMemory = 17

-- a datagram that is read as the packet with the number; or the status says why there is none, and nothing is written
abbrev pub WritesNumbered : (id number : ℕ) → List ℕ → ℕ → Writing → Type 0
WritesNumbered id number datagram status w =
    ((written : List ℕ) × AppendsNumbered id number datagram [] written × PutsPacket written status w)
    ⊎ ((error : NumberingError) × IsUnnumbered id number datagram error × (status ≡ numbering_status error) × IsUnwritten w)

-- ---- one message of a compound packet

abbrev pub found_or : Option Feedback → Result Feedback ℕ
found_or (Some m) = Ok m
found_or None = Err 32

abbrev pub message_among : ℕ → Result (List Feedback) RtcpError → Result Feedback ℕ
message_among index (Ok messages) = found_or (slice_get messages index)
message_among index (Err fault) = Err (rtcp_status fault)

-- the message of this type with this index, from 0; or status 32 if there are fewer, or the status of the first fault
abbrev pub message_with : (full : Bool) → (packet_type index : ℕ) → List ℕ → Result Feedback ℕ
message_with full packet_type index rtcp = message_among index (messages_at full packet_type rtcp)

-- ---- REMB

-- the statuses for control information that is not REMB
abbrev pub remb_status : RembFault → ℕ
remb_status remb.TooShort = 66
remb_status remb.NotRemb = 67
remb_status remb.TooLarge = 68
remb_status remb.SourcesTooShort = 69

-- SSRCs of four bytes each
unfoldable pub ssrcs_in : List ℕ → List ℕ
ssrcs_in (s3 ∷ s2 ∷ s1 ∷ s0 ∷ bytes) = from_be_bytes w32 (s3 ∷ s2 ∷ s1 ∷ s0 ∷ []) ∷ ssrcs_in bytes
ssrcs_in bytes = []

-- what a call writes: the bitrate, the SSRCs, and how many there are, before and after
pub record Estimating : Type 0 where
  pub bitrate_before : ℕ
  pub bitrate : ℕ
  pub before : List ℕ
  pub ssrcs : List ℕ
  pub count_before : ℕ
  pub count : ℕ

abbrev pub IsUnread : Estimating → Type 0
IsUnread e = (e.bitrate ≡ e.bitrate_before) × (e.ssrcs ≡ e.before) × (e.count ≡ e.count_before)

-- Status 0: the bitrate, the SSRCs, as many as there is room for, and how many there are. Otherwise the status of the first fault, and
-- nothing is written
abbrev pub ReadsEstimate : Result Estimate RembFault → ℕ → Estimating → Type 0
ReadsEstimate (Ok estimate) status e =
    (status ≡ 0) × (e.bitrate ≡ estimate.bitrate) × (e.ssrcs ≡ put_first (ssrcs_in estimate.ssrcs) e.before) × (e.count ≡ length (ssrcs_in estimate.ssrcs))
ReadsEstimate (Err fault) status e = (status ≡ remb_status fault) × IsUnread e

abbrev pub ReadsRemb : Result Feedback ℕ → ℕ → Estimating → Type 0
ReadsRemb (Ok message) status e = ReadsEstimate (remb_at message.fci) status e
ReadsRemb (Err refusal) status e = (status ≡ refusal) × IsUnread e

-- ---- transport-wide feedback

-- the statuses for control information that is not transport-wide feedback
abbrev pub fault_status : TransportFault → ℕ
fault_status faults.HeaderTooShort = 70
fault_status faults.ChunksTooShort = 71
fault_status faults.ReservedStatus = 72
fault_status faults.DeltasTooShort = 73

abbrev pub transport_status : TransportError → ℕ
transport_status failures.OutOfMemory = 17
transport_status (failures.Fault fault) = fault_status fault

-- the SSRCs of the message, and what the feedback reports on
abbrev pub info_of : Feedback → Reported → TransportFeedbackInfo
info_of m f = record { count = length f.statuses; sender_ssrc = m.sender; media_ssrc = m.media; base = f.base; counter = f.counter }

-- what a status says about the packet with this number
abbrev pub arrival_of : ℕ → Option ℕ → PacketArrival
arrival_of number (Some time) = record { time = time; number = number; arrived = true }
arrival_of number None = record { time = 0; number = number; arrived = false }

-- what statuses say about the packets from this number on
abbrev pub arrivals_from : ℕ → List (Option ℕ) → List PacketArrival
arrivals_from number [] = []
arrivals_from number (s ∷ ss) = arrival_of number s ∷ arrivals_from ((number + 1) % 65536) ss

-- what a call writes: the description, and what is said about packets, before and after
pub record Arrivals : Type 0 where
  pub info_before : TransportFeedbackInfo
  pub info : TransportFeedbackInfo
  pub before : List PacketArrival
  pub packets : List PacketArrival

-- Status 0: what the feedback says about each packet, in order; later elements stay. Status 33: there is no room for it. The description
-- is written
abbrev pub PutsIfRoom : Bool → Reported → ℕ → List PacketArrival → List PacketArrival → Type 0
PutsIfRoom true f status before packets = (status ≡ 0) × (packets ≡ arrivals_from f.base f.statuses ++ drop (length f.statuses) before)
PutsIfRoom false f status before packets = (status ≡ 33) × (packets ≡ before)

abbrev pub PutsArrivals : Feedback → Reported → ℕ → TransportFeedbackInfo → List PacketArrival → List PacketArrival → Type 0
PutsArrivals m f status info before packets =
    (info ≡ info_of m f) × PutsIfRoom (nat_le (length f.statuses) (length before)) f status before packets

abbrev pub IsUntold : Arrivals → Type 0
IsUntold a = (a.info ≡ a.info_before) × (a.packets ≡ a.before)

abbrev pub ReadsReported : Feedback → Result Reported TransportFault → ℕ → Arrivals → Type 0
ReadsReported m (Ok f) status a = PutsArrivals m f status a.info a.before a.packets
ReadsReported m (Err fault) status a = (status ≡ fault_status fault) × IsUntold a

-- Status 17: memory ran out, and nothing is written. Otherwise what the feedback says, or the status of its first fault
abbrev pub ReadsArrivals : Feedback → ℕ → Arrivals → Type 0
ReadsArrivals m status a = ReadsReported m (feedback_at m.fci) status a ⊎ ((status ≡ 17) × IsUntold a)

abbrev pub ReadsTransport : Result Feedback ℕ → ℕ → Arrivals → Type 0
ReadsTransport (Ok m) status a = ReadsArrivals m status a
ReadsTransport (Err refusal) status a = (status ≡ refusal) × IsUntold a
