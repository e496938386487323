-- The calls on a sender of FEC.
use Rattle.std.specs.Prelude.{◌≡◌, ◌⊎◌, ℕ, nat_lt, Bool, true, false, List, [], length, slice_index_or, Result, Ok, Err}
use Rattle.codec_payload_rtp.specs.declared.rtp.RtpError.{RtpError}
use Rattle.codec_payload_rtp.specs.declared.rtp.RtpError.TheVariants as rtp_errors
use Rattle.codec_payload_sending_fec.specs.Senders.{Pushed, fec_of_frame, finished, pushed}
use Rattle.codec_payload_sending_fec.specs.declared.fec_sender.FecSendError.{FecSendError}
use Rattle.codec_payload_sending_fec.specs.declared.fec_sender.FecSendError.TheVariants as faults
use Rattle.codec_payload_c_path.specs.Writing.{IsUnwritten, PutsPacket, Writing}
use Rattle.codec_payload_c_path.specs.declared.object.CallerFecSender.{CallerFecSender}
use Rattle.codec_payload_c_fec.specs.Lending.{IsLent}
use Rattle.codec_payload_c_fec.specs.declared.lending.LentPacket.{LentPacket}

-- ---- a packet of the media

-- the statuses for bytes that are not an RTP packet
abbrev pub rtp_status : RtpError → ℕ
rtp_status rtp_errors.HeaderTooShort = 42
rtp_status rtp_errors.WrongVersion = 43
rtp_status rtp_errors.CsrcsTooShort = 44
rtp_status rtp_errors.ExtensionHeaderTooShort = 45
rtp_status rtp_errors.ExtensionTooShort = 46
rtp_status rtp_errors.PaddingOfZero = 47
rtp_status rtp_errors.PaddingTooLong = 48

abbrev pub send_status : FecSendError → ℕ
send_status (faults.Rtp fault) = rtp_status fault
send_status faults.TooLarge = 90
send_status faults.OtherStream = 91
send_status faults.PayloadType = 92
send_status faults.TooOld = 93
send_status faults.OutOfMemory = 17

-- what a call tells: the packet that is lent, and whether the frame ends, before and after
pub record Sending : Type 0 where
  pub before : LentPacket
  pub packet : LentPacket
  pub ends_before : Bool
  pub ends : Bool

-- nothing is told, and the packet that was lent is no longer
abbrev pub IsUnsent : CallerFecSender → Sending → CallerFecSender → Type 0
IsUnsent r w s = (w.packet ≡ w.before) × (w.ends ≡ w.ends_before) × (s.sender ≡ r.sender) × (s.packet.items ≡ [])

-- Status 0: the packet in RED is lent, in the sender's memory. Otherwise the status of the first fault
abbrev pub SendsAs : Result Pushed FecSendError → CallerFecSender → ℕ → Sending → CallerFecSender → Type 0
SendsAs (Ok x) r status w s = (status ≡ 0) × (s.sender ≡ x.sender) × (s.packet.items ≡ x.bytes) × IsLent s.packet w.packet × (w.ends ≡ x.ends)
SendsAs (Err fault) r status w s = (status ≡ send_status fault) × IsUnsent r w s

-- Status 17: memory ran out. The FEC of the latest frame stays
abbrev pub SendsPacket : List ℕ → CallerFecSender → ℕ → Sending → CallerFecSender → Type 0
SendsPacket datagram r status w s = (SendsAs (pushed datagram r.sender) r status w s ⊎ ((status ≡ 17) × IsUnsent r w s)) × (s.fec ≡ r.fec)

-- ---- FEC behind a frame

-- Status 0: the FEC is made. Status 17: memory ran out, the sender is as before, and there is no FEC
abbrev pub FinishesIn : Bool → CallerFecSender → ℕ → (before after : ℕ) → CallerFecSender → Type 0
FinishesIn is_keyframe r status before after s =
    ((status ≡ 0) × (s.sender ≡ finished is_keyframe r.sender) × (s.fec.payloads ≡ fec_of_frame is_keyframe r.sender) × (after ≡ length (fec_of_frame is_keyframe r.sender)))
    ⊎ ((status ≡ 17) × (s.sender ≡ r.sender) × (s.fec.payloads ≡ []) × (after ≡ before))

-- the packet that is lent stays lent
abbrev pub FinishesFrame : Bool → CallerFecSender → ℕ → (before after : ℕ) → CallerFecSender → Type 0
FinishesFrame is_keyframe r status before after s = FinishesIn is_keyframe r status before after s × (s.packet ≡ r.packet)

-- Status 0: the packet at the place is written. Status 32: there is none
abbrev pub PutsFecIf : Bool → ℕ → CallerFecSender → ℕ → Writing → Type 0
PutsFecIf true place r status w = PutsPacket (slice_index_or r.fec.payloads place []) status w
PutsFecIf false place r status w = (status ≡ 32) × IsUnwritten w

abbrev pub PutsFec : ℕ → CallerFecSender → ℕ → Writing → Type 0
PutsFec place r status w = PutsFecIf (nat_lt place (length r.fec.payloads)) place r status w

-- another share of protection, from the next FEC on
abbrev pub protected : (protection keyframe_protection : ℕ) → CallerFecSender → CallerFecSender
protected protection keyframe_protection r =
    record r { sender = record r.sender { settings = record r.sender.settings { writer = record { protection = protection; keyframe_protection = keyframe_protection } } } }
