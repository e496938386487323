-- The units that a run in RED releases. A packet arrives with its own datagram, or as a block of a later one (RFC 2198).
use Rattle.std.specs.Prelude.{◌≡◌, ℕ, ◌+◌, ◌-◌, ◌%◌, ◌<◌, ◌≤◌, ◌⊎◌, ◌==◌, Bool, true, false, List, [], ◌∷◌, ◌++◌, Option, Some, None, Result, Ok, Err, Contains, length, map}
use Rattle.codec_payload_base.specs.Extensions.{no_values}
use Rattle.codec_payload_metadata.specs.declared.meta.RtpMeta.{RtpMeta}
use Rattle.codec_payload_codec.specs.Packetizers.{is_video, payloads_by, may_split}
use Rattle.codec_payload_numbers.specs.Numbers.{Numbering}
use Rattle.codec_payload_red.specs.RedLevels.{Entry}
use Rattle.codec_payload_red.specs.RedRecovery.{Receiver}
use Rattle.codec_payload_red.specs.RedRun.{IsKeptIn, IsRecoverable}
use Rattle.codec_payload_sending_red.specs.Writers.{Writer}
use Rattle.codec_payload_rtp.specs.RtpPackets as rtp
use Rattle.codec_payload_rtp.specs.RtpReading.{rtp_at}
use Rattle.codec_payload_rtp.specs.declared.rtp.RtpError.{RtpError}
use Rattle.codec_payload_rtp.specs.declared.values.ExtensionIds.{ExtensionIds}
use Rattle.codec_payload_buffer_runs.specs.Exact.{AnswersAll}
use Rattle.codec_payload_buffer_runs.specs.Headline.{InOrder}
use Rattle.codec_payload_buffer_runs.specs.SentStream.{AllEndWithTail, SentUnit, packets_of, units_of_run}
use Rattle.codec_payload_payloader.specs.Packets.{Packet}
use Rattle.codec_payload_payloader.specs.Sending.{Sample}
use Rattle.codec_payload_sending.specs.Senders.{Sending}
use Rattle.codec_payload_sending.specs.declared.sender.Outgoing.{Outgoing}
use Rattle.codec_payload_receiver.specs.Sessions.{Session}
use Rattle.codec_payload_receiver.specs.declared.receiver.RedSettings.{RedSettings}
use Rattle.codec_payload_datagrams.specs.declared.kinds.Retransmission.{Retransmission}
use Rattle.codec_payload_receiver.specs.declared.receiver.Settings.{Settings}
use Rattle.codec_payload_datagram_runs.specs.RedRuns.{RedRuns, RedWire, begins_in_red}
use Rattle.codec_payload_datagram_runs.specs.Releases.{AreDatagrams, AreDeliveredBefore, ComeWithin, HaveNoPops, IsWithinWindows, delivered, received_steps, sending_steps, values_read}
use Rattle.codec_payload_datagram_runs.specs.declared.run.DatagramStep.{DatagramStep}
use Rattle.codec_payload_datagram_runs.specs.declared.run.DatagramStep.TheVariants as steps

-- Which datagram carries which packet

-- the payload and the RTP time of a datagram, as a writer remembers them
abbrev pub entry_read : Result rtp.Packet RtpError → Entry
entry_read (Ok p) = record { bytes = p.payload; time = p.header.timestamp }
entry_read (Err fault) = record { bytes = []; time = 0 }

abbrev pub entries_in : List (List ℕ) → List Entry
entries_in datagrams = map (λ datagram. entry_read (rtp_at datagram)) datagrams

-- the written datagram with the index `carrier` has the packet with the index k: its own, or as a block. `sent` are the datagrams
-- of the sender
abbrev pub Carries : Writer → List (List ℕ) → ℕ → ℕ → Type 0
Carries w sent carrier k = (k ≡ carrier) ⊎ IsKeptIn w.red w.budget (entries_in sent) k carrier

-- marker and values in the metadata of a packet: of the packet, if it came with its own datagram. A block has neither
abbrev pub HasHeaderOf : Bool → ExtensionIds → Outgoing → Packet → RtpMeta → Type 0
HasHeaderOf true ids stream q meta = (meta.header.marker ≡ q.marker) × (meta.header.ext_vals ≡ values_read ids stream q.ext_vals)
HasHeaderOf false ids stream q meta = (meta.header.marker ≡ false) × (meta.header.ext_vals ≡ no_values)

-- the metadata of a packet: a datagram that carries it was delivered at its time of arrival
pub record IsRedDelivery (ids : ExtensionIds) (stream : Outgoing) (w : Writer) (sent : List (List ℕ)) (all_steps : List DatagramStep) (k : ℕ) (q : Packet) (meta : RtpMeta) : Type 0 where
  pub carrier : ℕ
  pub delivers : Contains all_steps (steps.Deliver carrier meta.received)
  pub carries : Carries w sent carrier k
  pub number : meta.seq_no.0 ≡ q.number
  pub time : meta.time ≡ record { numer = q.rtp_time; rate = stream.clock_rate }
  pub header : HasHeaderOf (k == carrier) ids stream q meta

-- Premises

-- retransmissions have another SSRC
abbrev pub is_ssrc_of : Option Retransmission → ℕ → Bool
is_ssrc_of None ssrc = false
is_ssrc_of (Some r) ssrc = r.ssrc == ssrc

-- how a receiver with these settings recovers packets from blocks
abbrev pub red_receiver : Settings → RedSettings → Receiver
red_receiver settings red = record { primary_pt = settings.payload_type % 128; step = red.step }

-- the writer and the receiver have the same payload types, and packets in RED are neither RTCP (RFC 5761, section 4) nor
-- retransmissions
pub record AreOfOneRed (sender : Sending) (writer : Writer) (settings : Settings) (red : RedSettings) : Type 0 where
  pub used : settings.red ≡ Some red
  pub red_type : red.payload_type ≡ writer.red_type
  pub media_type : writer.media_type ≡ sender.stream.payload_type
  pub not_rtcp : (writer.red_type < 64) ⊎ (95 < writer.red_type)
  pub not_again : is_ssrc_of settings.retransmission sender.stream.ssrc ≡ false

-- The premises of a run without RED, about the written datagrams. The codec is not VP8, VP9 or AV1. The windows leave room for
-- blocks. The packets can be recovered from blocks: the writer is new, and the times of the packets are as many ticks apart as the
-- receiver's step
pub record IsInRedWithinWindows (samples : List Sample) (all_steps : List DatagramStep) (s t : RedWire) : Type 0 where
  pub plain : IsWithinWindows samples all_steps s.wire.sending s.wire.session t.wire.sends
  pub no_video : is_video s.wire.sending.packetizer ≡ false
  pub red : RedSettings
  pub one_red : AreOfOneRed s.wire.sending s.writer plain.settings red
  pub apart : plain.settings.forward + plain.settings.backward + 8 ≤ 65536
  pub recoverable : IsRecoverable s.writer.red (red_receiver plain.settings red) s.writer.budget (entries_in t.wire.datagrams)

-- Guarantees

-- The buffer has room for `count` packets. For each packet, a datagram that carries the packet is delivered before the stream ends.
-- No pop is made before that. Each datagram is at most `backward` - 8 behind the highest one before it, so its blocks are within
-- the windows too
pub record AllComeInRed (limit count : ℕ) (numbering : Numbering) (w : Writer) (sent : List (List ℕ)) (received : List DatagramStep) : Type 0 where
  pub few : count ≤ limit
  pub before : List DatagramStep
  pub after : List DatagramStep
  pub whole : received ≡ before ++ steps.Finish ∷ after
  pub no_pops : HaveNoPops before
  pub each : (k : ℕ) → k < count → (carrier : ℕ) × Contains (delivered before) carrier × Carries w sent carrier k
  pub wide : 8 ≤ numbering.backward
  pub near : ComeWithin numbering.forward (numbering.backward - 8) (delivered before)

-- what is known of the metadata of a packet of these units, by its index
abbrev pub IsKnownInRed : List Sample → List DatagramStep → RedWire → RedWire → ℕ → Packet → RtpMeta → Type 0
IsKnownInRed samples all_steps s t =
    IsRedDelivery s.wire.session.stream.ids s.wire.sending.stream s.writer t.wire.datagrams (received_steps samples 0 all_steps t.wire.sends)

-- The datagrams of the sender read as the packets of canonical units. The units are popped in order, each at most once and
-- complete, from packets that came with delivered datagrams. Their times of arrival are times of deliveries before the pop. If all
-- packets come before the stream ends, and all pops come after that, all units are popped.
pub record ReleasesUnitsInRed (samples : List Sample) (all_steps : List DatagramStep) (s t : RedWire) : Type 0 where
  pub units : List SentUnit
  pub canonical : map (λ (u : SentUnit). u.parts) units ≡ units_of_run s.wire.sending.packetizer samples (sending_steps s.wire.sending.mtu all_steps)
  pub datagrams : AreDatagrams s.wire.sending.stream (packets_of units) t.wire.datagrams
  pub ends : AllEndWithTail (payloads_by s.wire.sending.packetizer) units
  pub in_order : InOrder (IsKnownInRed samples all_steps s t) (may_split s.wire.sending.packetizer) units 0 t.wire.pops
  pub before_pops : AreDeliveredBefore [] (received_steps samples 0 all_steps t.wire.sends) t.wire.pops
  pub exactly :
      AllComeInRed s.wire.session.packets.buffer.limit (length t.wire.datagrams) s.wire.session.packets.numbering s.writer t.wire.datagrams (received_steps samples 0 all_steps t.wire.sends)
      → AnswersAll (IsKnownInRed samples all_steps s t) 0 units t.wire.pops

-- this applies to a run that meets the premises
abbrev pub ReleasesInRed : List Sample → List DatagramStep → RedWire → RedWire → Type 0
ReleasesInRed samples all_steps s t = IsInRedWithinWindows samples all_steps s t → ReleasesUnitsInRed samples all_steps s t

-- for every run in RED
abbrev pub ReleaseInRed : Type 0
ReleaseInRed =
    (samples : List Sample) (all_steps : List DatagramStep) (sender : Sending) (writer : Writer) (receiver : Session) (t : RedWire)
    → RedRuns samples all_steps (begins_in_red sender writer receiver) t → ReleasesInRed samples all_steps (begins_in_red sender writer receiver) t
