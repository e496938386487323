-- The calls on a history of sent packets, and the requests in RTCP feedback.
use Rattle.std.specs.Prelude.{◌≡◌, ◌⊎◌, ◌≤◌, ℕ, ◌-◌, ◌^◌, ◌&&◌, ◌++◌, nat_le, min, if◌then◌else◌, Bool, true, false, List, [], ◌∷◌, length, take, drop, Option, Some, None, Result, Ok, Err}
use Rattle.std.specs.declared.alloc.AllocError.{AllocError}
use Rattle.codec_payload_base.specs.declared.wire.Ticks.{Ticks}
use Rattle.codec_payload_rtcp.specs.declared.packet.RtcpError.{RtcpError}
use Rattle.codec_payload_rtcp.specs.declared.packet.RtcpError.TheVariants as rtcp
use Rattle.codec_payload_sending_history.specs.Histories.{HasNot, IsAt, IsFault, Keeps, KeepsOnce, Resends, ResendsWithin, history_by, is_too_soon}
use Rattle.codec_payload_sending_history.specs.Packets.{Sent, stream_fits}
use Rattle.codec_payload_sending_history.specs.declared.feedback.Request.{Request}
use Rattle.codec_payload_sending_history.specs.declared.feedback.Request.TheVariants as requests
use Rattle.codec_payload_sending_history.specs.declared.retransmission.HistorySettings.{HistorySettings as Settings}
use Rattle.codec_payload_sending_history.specs.declared.retransmission.Kept.TheVariants as kept
use Rattle.codec_payload_sending_history.specs.declared.retransmission.KeptOnce.TheVariants as once
use Rattle.codec_payload_sending_history.specs.declared.retransmission.KeepError.{KeepError}
use Rattle.codec_payload_sending_history.specs.declared.retransmission.KeepError.TheVariants as faults
use Rattle.codec_payload_sending_history.specs.declared.retransmission.Resent.{Resent}
use Rattle.codec_payload_sending_history.specs.declared.retransmission.Resent.TheVariants as results
use Rattle.codec_payload_sending_history.specs.declared.retransmission.RetransmissionStream.{RetransmissionStream}
use Rattle.codec_payload_handle.specs.Bytes.{filled}
use Rattle.codec_payload_handle.specs.declared.object.Object.{Object}
use Rattle.codec_payload_handle.specs.declared.object.Object.TheVariants as objects
use Rattle.codec_payload_handle.specs.declared.object.PacketHistory.{PacketHistory}
use Rattle.codec_payload_handle.specs.RtpFaults.{rtp_status}
use Rattle.codec_payload_c_packets.specs.declared.history.HistorySettings.{HistorySettings}

-- ---- settings

-- the stream of retransmissions, if there is one
abbrev pub stream_set : HistorySettings → Option RetransmissionStream
stream_set s = if s.has_rtx then Some (record { ssrc = s.rtx_ssrc; payload_type = s.rtx_payload_type; first_number = s.rtx_first_number }) else None

-- the settings of a history, from C
abbrev pub settings_set : HistorySettings → Settings
settings_set s = record { limit = s.limit; interval = s.interval; stream = stream_set s }

-- 1 to 32,768 packets are kept, and the payload type of retransmissions is at most 127
abbrev pub is_in_range : HistorySettings → Bool
is_in_range s = nat_le 1 s.limit && nat_le s.limit 32768 && stream_fits (stream_set s)

-- a new history by these settings
abbrev pub IsPacketHistoryOf : HistorySettings → Object → Type 0
IsPacketHistoryOf s (objects.PacketHistory r) = history_by (settings_set s) ≡ Ok r.value.history
IsPacketHistoryOf s _ = ⊥

-- ---- keeping

-- the status of a datagram that is not kept
abbrev pub keep_status : KeepError → ℕ
keep_status (faults.Rtp fault) = rtp_status fault
keep_status faults.OutOfMemory = 17

-- Status 0, and 0: the datagram is kept at its number. Status 0, and 1: its number is too old. Otherwise the status says why it is
-- not kept, and nothing has changed
abbrev pub KeepsDatagram : PacketHistory → List ℕ → (status before answer : ℕ) → PacketHistory → Type 0
KeepsDatagram r datagram status before answer s =
    ((status ≡ 0) × (answer ≡ 0) × Keeps r.history datagram kept.Stored s.history)
    ⊎ ((status ≡ 0) × (answer ≡ 1) × Keeps r.history datagram kept.TooOld s.history)
    ⊎ ((fault : KeepError) × (status ≡ keep_status fault) × IsFault datagram fault × (answer ≡ before) × (s.history ≡ r.history))

-- The same unless the number is kept. Status 0, and 0: the datagram is new, and is kept. Status 0, and 1: its number is known.
-- Status 0, and 2: its number is too old
abbrev pub KeepsDatagramOnce : PacketHistory → List ℕ → (status before answer : ℕ) → PacketHistory → Type 0
KeepsDatagramOnce r datagram status before answer s =
    ((status ≡ 0) × (answer ≡ 0) × KeepsOnce r.history datagram once.New s.history)
    ⊎ ((status ≡ 0) × (answer ≡ 1) × KeepsOnce r.history datagram once.Known s.history)
    ⊎ ((status ≡ 0) × (answer ≡ 2) × KeepsOnce r.history datagram once.TooOld s.history)
    ⊎ ((fault : KeepError) × (status ≡ keep_status fault) × IsFault datagram fault × (answer ≡ before) × (s.history ≡ r.history))

-- ---- resending

-- what a call writes: the output buffer, the size of the datagram, and what was done, before and after
pub record Resending : Type 0 where
  pub before : List ℕ
  pub bytes : List ℕ
  pub size_before : ℕ
  pub size : ℕ
  pub resent_before : ℕ
  pub resent : ℕ

-- Status 0, written: the datagram is at the front of the output buffer, and the packet is resent. Status 0, not kept or too soon: the
-- size is 0, and all else is unchanged. Status 33: the output buffer is too small for the datagram, the size is the one that is
-- needed, and nothing else has changed: not the number of the next retransmission, nor when the packet was resent last. Status 17:
-- memory ran out, and nothing has changed
abbrev pub GivesResent : Ticks → ℕ → PacketHistory → Result Resent AllocError → ℕ → Resending → PacketHistory → Type 0
GivesResent now number r (Ok results.Written) status h s =
    (datagram : List ℕ) × (status ≡ 0) × (h.resent ≡ 0) × Resends now number r.history [] results.Written datagram s.history × (length datagram ≤ length h.before) × (h.bytes ≡ filled datagram h.before) × (h.size ≡ length datagram)
GivesResent now number r (Ok results.TooLarge) status h s =
    (datagram : List ℕ) × (status ≡ 33) × ResendsWithin (length h.before) now number r.history [] results.TooLarge datagram s.history × (h.size ≡ length datagram) × (h.bytes ≡ h.before) × (h.resent ≡ h.resent_before)
GivesResent now number r (Ok results.NotKept) status h s =
    (status ≡ 0) × (h.resent ≡ 1) × HasNot r.history number × (h.size ≡ 0) × (h.bytes ≡ h.before) × (s.history ≡ r.history)
GivesResent now number r (Ok results.TooSoon) status h s =
    (status ≡ 0) × (h.resent ≡ 2) × ((place : ℕ) × (p : Sent) × IsAt r.history number place p × (is_too_soon r.history.interval now p.resent ≡ true))
    × (h.size ≡ 0) × (h.bytes ≡ h.before) × (s.history ≡ r.history)
GivesResent now number r (Err e) status h s =
    (status ≡ 17) × (h.resent ≡ h.resent_before) × (h.size ≡ h.size_before) × (h.bytes ≡ h.before) × (s.history ≡ r.history)

-- a packet is requested at that time
pub record ResendsPacket (now number : ℕ) (r : PacketHistory) (status : ℕ) (h : Resending) (s : PacketHistory) : Type 0 where
  pub at : Ticks
  pub at_is : at.0 ≡ now
  pub answer : Result Resent AllocError
  pub gives : GivesResent at number r answer status h s

-- ---- requests

-- the statuses for bytes that are not a compound RTCP packet
abbrev pub rtcp_status : RtcpError → ℕ
rtcp_status rtcp.HeaderTooShort = 50
rtcp_status rtcp.WrongVersion = 51
rtcp_status rtcp.FirstNotReport = 52
rtcp_status rtcp.PacketTooShort = 53
rtcp_status rtcp.PaddingNotLast = 54
rtcp_status rtcp.PaddingOfZero = 55
rtcp_status rtcp.PaddingTooLong = 56
rtcp_status rtcp.ReportTooShort = 57
rtcp_status rtcp.ChunkTooShort = 58
rtcp_status rtcp.ItemsTooShort = 59
rtcp_status rtcp.GoodbyeTooShort = 60
rtcp_status rtcp.ReasonTooShort = 61
rtcp_status rtcp.FeedbackTooShort = 62
rtcp_status rtcp.NackWrongLength = 63
rtcp_status rtcp.PictureLossWrongLength = 64
rtcp_status rtcp.FullIntraWrongLength = 65

-- the numbers of the requested packets, in order
abbrev pub numbers_asked : List Request → List ℕ
numbers_asked [] = []
numbers_asked (requests.Packet number ∷ rs) = number ∷ numbers_asked rs
numbers_asked (requests.Keyframe ∷ rs) = numbers_asked rs

-- a keyframe is requested
abbrev pub asks_keyframe : List Request → Bool
asks_keyframe [] = false
asks_keyframe (requests.Packet number ∷ rs) = asks_keyframe rs
asks_keyframe (requests.Keyframe ∷ rs) = true

-- the items at the front, as many as there is room for
abbrev pub put_first : List ℕ → List ℕ → List ℕ
put_first given before = take (length before) given ++ drop (length given) before

-- what the call writes, before and after
pub record Reading : Type 0 where
  pub before : List ℕ
  pub numbers : List ℕ
  pub count_before : ℕ
  pub count : ℕ
  pub wants_before : Bool
  pub wants : Bool

-- Status 0: the requested numbers, as many as there is room for, how many there are (at most 2^64 - 1), and whether a keyframe is
-- requested. Otherwise the status is the first fault of the compound packet, and nothing is written
abbrev pub ReadsRequests : Result (List Request) RtcpError → ℕ → Reading → Type 0
ReadsRequests (Ok rs) status r =
    (status ≡ 0) × (r.numbers ≡ put_first (numbers_asked rs) r.before) × (r.count ≡ min (length (numbers_asked rs)) (2 ^ 64 - 1)) × (r.wants ≡ asks_keyframe rs)
ReadsRequests (Err fault) status r = (status ≡ rtcp_status fault) × (r.numbers ≡ r.before) × (r.count ≡ r.count_before) × (r.wants ≡ r.wants_before)
