-- Calls of a port, and the packets that they hand out of a stream.
use Rattle.std.specs.Prelude.{◌≡◌, ℕ, ◌+◌, ◌%◌, ◌<◌, ◌≤◌, ◌==◌, if◌then◌else◌, List, [], ◌∷◌, ◌++◌, Option, Some, None, Result, Ok, Err}
use Rattle.codec_payload_rtp.specs.RtpPackets.{Packet, is_rtcp}
use Rattle.codec_payload_rtp.specs.RtpReading.{rtp_at}
use Rattle.codec_payload_fec.specs.Fec.{Fec}
use Rattle.codec_payload_fec.specs.FecReading.{fec_at}
use Rattle.codec_payload_fec.specs.declared.packet.FecFault.{FecFault}
use Rattle.codec_payload_fec_receiver.specs.Contents.{Content, Nothing, Media, content_of}
use Rattle.codec_payload_fec_receiver.specs.Contents.{Fec as FecIn}
use Rattle.codec_payload_fec_receiver.specs.Late.{plain_bytes}
use Rattle.codec_payload_fec_receiver.specs.Runs.{IsMadeFrom, IsSender, raised}
use Rattle.codec_payload_fec_receiver.specs.declared.late.LateIds.{LateIds}
use Rattle.codec_payload_fec_port.specs.Cleared.{cleared_at}
use Rattle.codec_payload_fec_port.specs.Ports.{Held, Port, cleared_of, fetched, handed, new_port, port_ended, port_received, port_restarted, tried}
use Rattle.codec_payload_fec_port.specs.Settings.{fec_settings}
use Rattle.codec_payload_fec_port.specs.declared.port_settings.FecPortSettings.{FecPortSettings}

-- a call: a datagram is received; the next packet is taken; memory runs out when it is taken, before or after it is rebuilt; a stream
-- restarts, or ends. If memory runs out for a datagram, nothing changes, as if it had been lost
pub data PortCall : Type 0 where
  Receives : (datagram : List ℕ) → PortCall
  Takes : PortCall
  LacksBefore : PortCall
  LacksAfter : PortCall
  Restarts : (ssrc : ℕ) → PortCall
  Ends : (ssrc : ℕ) → PortCall

-- the packet, if it is of the stream x
abbrev pub handed_of : ℕ → FecPortSettings → Option Held → List (List ℕ)
handed_of x settings None = []
handed_of x settings (Some h) = if h.ssrc == x then cleared_of settings h ∷ [] else []

-- the packets that are handed out of the stream x
abbrev pub handed_out : ℕ → List PortCall → Port → List (List ℕ)
handed_out x [] s = []
handed_out x (Receives datagram ∷ calls) s = handed_out x calls (port_received datagram s)
handed_out x (Takes ∷ calls) s = handed_of x s.settings (fetched s).waiting ++ handed_out x calls (handed s)
handed_out x (LacksBefore ∷ calls) s = handed_out x calls (tried s)
handed_out x (LacksAfter ∷ calls) s = handed_out x calls (fetched s)
handed_out x (Restarts ssrc ∷ calls) s = handed_out x calls (port_restarted ssrc s)
handed_out x (Ends ssrc ∷ calls) s = handed_out x calls (port_ended ssrc s)

-- ---- what arrives of the sender of the stream x

-- what a datagram is for the stream x. RTCP is nothing
abbrev pub content_at : ℕ → FecPortSettings → List ℕ → Content
content_at x settings datagram = if is_rtcp datagram then Nothing else content_of (fec_settings settings x) (rtp_at datagram)

-- a number is less than 8,192 from the highest one of the stream so far; the first one is at least 73,728, to where one may count
abbrev pub IsClose : Option ℕ → ℕ → Type 0
IsClose None n = 73728 ≤ n
IsClose (Some highest) n = (n < highest + 8192) × (highest < n + 8192)

-- a datagram has a number that is close to the highest one, and is what the sender sent with that number
pub record IsNumbered (Is : ℕ → Type 0) (before after : Option ℕ) : Type 0 where
  pub number : ℕ
  pub close : IsClose before number
  pub is : Is number
  pub raises : after ≡ raised before number

abbrev pub IsSentMedia : LateIds → (ℕ → Option (List ℕ)) → Packet → ℕ → Type 0
IsSentMedia late sent p n = (p.header.sequence_number ≡ n % 65536) × (sent n ≡ Some (plain_bytes late p))

-- bytes that are not a packet of FEC rebuild nothing
abbrev pub IsSentFec : (ℕ → Option (List ℕ)) → Result Fec FecFault → Option ℕ → Option ℕ → Type 0
IsSentFec sent (Ok f) before after = IsNumbered (λ n. IsMadeFrom sent n f) before after
IsSentFec sent (Err fault) before after = after ≡ before

-- what a datagram is for the stream is of the sender
abbrev pub IsOfSender : LateIds → (ℕ → Option (List ℕ)) → Content → Option ℕ → Option ℕ → Type 0
IsOfSender late sent Nothing before after = after ≡ before
IsOfSender late sent (Media p) before after = IsNumbered (IsSentMedia late sent p) before after
IsOfSender late sent (FecIn bytes) before after = IsSentFec sent (fec_at bytes) before after

-- the datagrams of the stream x are of the sender; others are any. `highest`: the highest number of the stream so far
abbrev pub AreOfSender : ℕ → FecPortSettings → (ℕ → Option (List ℕ)) → Option ℕ → List PortCall → Type 0
AreOfSender x settings sent highest [] = Unit {0}
AreOfSender x settings sent highest (Receives datagram ∷ calls) =
    (after : Option ℕ) × IsOfSender settings.late_ids sent (content_at x settings datagram) highest after × AreOfSender x settings sent after calls
AreOfSender x settings sent highest (Takes ∷ calls) = AreOfSender x settings sent highest calls
AreOfSender x settings sent highest (LacksBefore ∷ calls) = AreOfSender x settings sent highest calls
AreOfSender x settings sent highest (LacksAfter ∷ calls) = AreOfSender x settings sent highest calls
AreOfSender x settings sent highest (Restarts ssrc ∷ calls) = AreOfSender x settings sent highest calls
AreOfSender x settings sent highest (Ends ssrc ∷ calls) = AreOfSender x settings sent highest calls

-- ---- what is handed out was sent

-- a packet was sent, as FEC protects it; the elements that are filled in late are left out
abbrev pub WasSent : LateIds → (ℕ → Option (List ℕ)) → List ℕ → Type 0
WasSent late sent p = (n : ℕ) × (q : List ℕ) × (sent n ≡ Some q) × (p ≡ cleared_at late q (rtp_at q))

abbrev pub WereSent : LateIds → (ℕ → Option (List ℕ)) → List (List ℕ) → Type 0
WereSent late sent [] = Unit {0}
WereSent late sent (p ∷ ps) = WasSent late sent p × WereSent late sent ps

-- Whatever datagrams are lost, repeated or come in another order, and whatever other datagrams come, those of other streams with FEC among
-- them, and whenever streams begin, end, restart or are replaced: each packet that is handed out of the stream was sent
abbrev pub PortHandsOutWhatWasSent : Type 0
PortHandsOutWhatWasSent =
    (x : ℕ) (sent : ℕ → Option (List ℕ)) (settings : FecPortSettings) (calls : List PortCall) → IsSender x sent → AreOfSender x settings sent None calls
    → WereSent settings.late_ids sent (handed_out x calls (new_port settings))
