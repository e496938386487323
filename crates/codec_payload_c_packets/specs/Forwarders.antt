-- The calls on a forwarder to a viewer.
use Rattle.std.specs.Prelude.{◌≡◌, ◌⊎◌, ◌<◌, ◌≤◌, ℕ, ◌%◌, ◌&&◌, if◌then◌else◌, Bool, true, false, List, [], length, Option, Some, None, option_map, is_ok, is_some, Result, Ok, Err}
use Rattle.codec_payload_core.specs.declared.wire.Codec.{Codec}
use Rattle.codec_payload_core.specs.declared.wire.Codec.TheVariants as codecs
use Rattle.codec_payload_rtp.specs.RtpPackets.{Packet}
use Rattle.codec_payload_rtp.specs.RtpReading.{rtp_at}
use Rattle.codec_payload_rtp.specs.declared.rtp.RtpError.{RtpError}
use Rattle.codec_payload_sending_history.specs.Packets.{Past}
use Rattle.codec_payload_sending_history.specs.declared.retransmission.RetransmissionStream.{RetransmissionStream}
use Rattle.codec_payload_sending_forward.specs.Counting.{after_answer, after_resent, no_counts}
use Rattle.codec_payload_sending_forward.specs.Forwarding.{Forward, Forwards, IsNotRequested, IsRequested, Leaves, Repeats, forward_by, size_again, forwarded_size, time_for}
use Rattle.codec_payload_sending_forward.specs.declared.counts.ForwardCounts.{ForwardCounts}
use Rattle.codec_payload_sending_forward.specs.declared.forwarder.ForwardSettings.{ForwardSettings}
use Rattle.codec_payload_sending_forward.specs.declared.forwarder.Forwarded.{Forwarded}
use Rattle.codec_payload_sending_forward.specs.declared.forwarder.Forwarded.TheVariants as answers
use Rattle.codec_payload_handle.specs.Bytes.{filled}
use Rattle.codec_payload_handle.specs.Kinds.{is_packet_history}
use Rattle.codec_payload_handle.specs.Settings.{codec_numbered}
use Rattle.codec_payload_handle.specs.declared.object.Object.{Object}
use Rattle.codec_payload_handle.specs.declared.object.Object.TheVariants as objects
use Rattle.codec_payload_handle.specs.declared.object.PacketForwarder.{PacketForwarder}
use Rattle.codec_payload_handle.specs.RtpFaults.{rtp_status}
use Rattle.codec_payload_c_packets.specs.declared.forwarder.ForwarderCountsInfo.{ForwarderCountsInfo}
use Rattle.codec_payload_c_packets.specs.declared.forwarder.ForwarderSettings.{ForwarderSettings}
use Rattle.codec_payload_c_packets.specs.declared.sender.SenderReportInfo.{SenderReportInfo}

-- ---- settings

-- the stream of retransmissions, if there is one
abbrev pub stream_set : ForwarderSettings → Option RetransmissionStream
stream_set s = if s.has_rtx then Some (record { ssrc = s.rtx_ssrc; payload_type = s.rtx_payload_type; first_number = s.rtx_first_number }) else None

-- the settings of a forwarder, from C
abbrev pub settings_set : ForwarderSettings → ForwardSettings
settings_set s = record {
  codec = codec_numbered s.codec;
  ssrc = s.ssrc;
  payload_type = s.payload_type;
  first_number = s.first_number;
  first_time = s.first_time;
  retransmissions = stream_set s;
}

abbrev pub is_supported : Codec → Bool
is_supported codecs.Unknown = false
is_supported codec = true

-- a codec of the library, and settings by which there is a forwarder: payload types of at most 127
abbrev pub is_in_range : ForwarderSettings → Bool
is_in_range s = is_supported (codec_numbered s.codec) && is_ok (forward_by (settings_set s))

-- to begin with: number and time 0, and a packet is resent as it was sent
abbrev pub begins_with : (codec ssrc payload_type : ℕ) → ForwarderSettings
begins_with codec ssrc payload_type = record {
  codec = codec;
  ssrc = ssrc;
  first_time = 0;
  rtx_ssrc = 0;
  first_number = 0;
  rtx_first_number = 0;
  payload_type = payload_type;
  rtx_payload_type = 0;
  has_rtx = false;
}

-- a forwarder by these settings that wants no source, and nothing was counted
pub record IsNewForwarder (s : ForwarderSettings) (r : PacketForwarder) : Type 0 where
  pub forwarder : forward_by (settings_set s) ≡ Ok r.forwarder
  pub counts : r.counts ≡ no_counts

abbrev pub IsPacketForwarderOf : ForwarderSettings → Object → Type 0
IsPacketForwarderOf s (objects.PacketForwarder r) = IsNewForwarder s r.value
IsPacketForwarderOf s _ = ⊥

-- ---- packets

-- what a call writes: the output buffer, the size of the datagram, and what was done, before and after
pub record Writing : Type 0 where
  pub before : List ℕ
  pub bytes : List ℕ
  pub size_before : ℕ
  pub size : ℕ
  pub answer_before : ℕ
  pub answer : ℕ

abbrev pub forwarded_number : Forwarded → ℕ
forwarded_number answers.Began = 0
forwarded_number answers.Written = 1
forwarded_number answers.NoKeyframe = 2
forwarded_number answers.OtherSource = 3
forwarded_number answers.TooOld = 4
forwarded_number answers.LeftOut = 5
forwarded_number answers.Filled = 6

-- a step of the forwarder with a packet: its answer, the datagram that it writes, and the forwarder after it
abbrev pub Step : Type 1
Step = Packet → Forward → Forwarded → List ℕ → Forward → Type 0

-- the step was made: the datagram is at the front of the output buffer, its size and the answer are reported, and the answer counts
pub record IsDone (Does : Step) (p : Packet) (r : PacketForwarder) (w : Writing) (s : PacketForwarder) : Type 0 where
  pub done : Forwarded
  pub datagram : List ℕ
  pub does : Does p r.forwarder done datagram s.forwarder
  pub fits : length datagram ≤ length w.before
  pub bytes : w.bytes ≡ filled datagram w.before
  pub size : w.size ≡ length datagram
  pub answer : w.answer ≡ forwarded_number done
  pub counts : s.counts ≡ after_answer done (length p.payload) r.counts

-- neither the forwarder nor the output buffer nor the answer has changed
abbrev pub IsUndone : PacketForwarder → Writing → PacketForwarder → Type 0
IsUndone r w s = (s.forwarder ≡ r.forwarder) × (s.counts ≡ r.counts) × (w.bytes ≡ w.before) × (w.answer ≡ w.answer_before)

-- Status 33: the output buffer has less than the bytes that the packet may need, and these are reported. Status 17: memory ran out.
-- Status 0: the step is made
abbrev pub MakesStep : Step → (needed : ℕ) → Packet → PacketForwarder → ℕ → Writing → PacketForwarder → Type 0
MakesStep Does needed p r status w s =
    ((status ≡ 33) × (length w.before < needed) × (w.size ≡ needed) × IsUndone r w s)
    ⊎ ((status ≡ 17) × (needed ≤ length w.before) × (w.size ≡ w.size_before) × IsUndone r w s)
    ⊎ ((status ≡ 0) × (needed ≤ length w.before) × IsDone Does p r w s)

-- with a datagram that is not a packet, the status says why
abbrev pub WritesBy : ℕ → Result Packet RtpError → PacketForwarder → ℕ → Writing → PacketForwarder → Type 0
WritesBy now (Ok p) r status w s = MakesStep (Forwards now) (forwarded_size p) p r status w s
WritesBy now (Err fault) r status w s = (status ≡ rtp_status fault) × (w.size ≡ w.size_before) × IsUndone r w s

-- a packet that arrived is written for the viewer, or the answer says why not
abbrev pub WritesDatagram : ℕ → List ℕ → PacketForwarder → ℕ → Writing → PacketForwarder → Type 0
WritesDatagram now datagram r status w s = WritesBy now (rtp_at datagram) r status w s

abbrev pub LeavesBy : Result Packet RtpError → PacketForwarder → ℕ → Writing → PacketForwarder → Type 0
LeavesBy (Ok p) r status w s = MakesStep Leaves 13 p r status w s
LeavesBy (Err fault) r status w s = (status ≡ rtp_status fault) × (w.size ≡ w.size_before) × IsUndone r w s

-- a packet is left out; a packet of padding has 13 bytes
abbrev pub LeavesDatagram : List ℕ → PacketForwarder → ℕ → Writing → PacketForwarder → Type 0
LeavesDatagram datagram r status w s = LeavesBy (rtp_at datagram) r status w s

-- ---- requests

-- the packet is written again, and counts as resent
pub record IsAgain (p : Packet) (r : PacketForwarder) (w : Writing) (s : PacketForwarder) : Type 0 where
  pub datagram : List ℕ
  pub repeats : Repeats p r.forwarder true datagram s.forwarder
  pub fits : length datagram ≤ length w.before
  pub bytes : w.bytes ≡ filled datagram w.before
  pub size : w.size ≡ length datagram
  pub counts : s.counts ≡ after_resent (is_some r.forwarder.settings.retransmissions) (length p.payload) r.counts

-- the store has no packet that was sent under the number
abbrev pub IsAbsent : Past → ℕ → Forward → Type 0
IsAbsent store number f =
    IsNotRequested f store number
    ⊎ ((p : Packet) × IsRequested f store number p × Repeats p f false [] f)

-- Status 0, and 0: a packet that is requested by the number is written again. Status 0, and 1: there is none, the size is 0, and
-- nothing else has changed. Status 33: the output buffer is too small for it, and the size is reported. Status 17: memory ran out
abbrev pub ResendsFrom : Past → ℕ → PacketForwarder → ℕ → Writing → PacketForwarder → Type 0
ResendsFrom store number r status w s =
    ((status ≡ 0) × (w.answer ≡ 0) × ((p : Packet) × IsRequested r.forwarder store number p × IsAgain p r w s))
    ⊎ ((status ≡ 0) × (w.answer ≡ 1) × IsAbsent store number r.forwarder × (w.size ≡ 0) × (w.bytes ≡ w.before) × (s.forwarder ≡ r.forwarder) × (s.counts ≡ r.counts))
    ⊎ ((status ≡ 33) × ((p : Packet) × IsRequested r.forwarder store number p × (length w.before < size_again r.forwarder p) × (w.size ≡ size_again r.forwarder p)) × IsUndone r w s)
    ⊎ ((status ≡ 17) × (w.size ≡ w.size_before) × IsUndone r w s)

-- the same from a history in a handle
abbrev pub ResendsIn : Option Object → ℕ → PacketForwarder → ℕ → Writing → PacketForwarder → Type 0
ResendsIn (Some (objects.PacketHistory h)) number r status w s = ResendsFrom h.value.history number r status w s
ResendsIn _ number r status w s = Unit {0}

-- status 34: the handle of the history is empty; status 35: it holds another type. The forwarder is unchanged
abbrev pub RefusesStore : Option Object → ℕ → PacketForwarder → PacketForwarder → Type 0
RefusesStore None status r s = (status ≡ 34) × (s ≡ r)
RefusesStore (Some object) status r s = is_packet_history object ≡ false → (status ≡ 35) × (s ≡ r)

-- ---- counts and reports

abbrev pub counts_told : ForwardCounts → ForwarderCountsInfo
counts_told c = record {
  packets = c.packets;
  octets = c.octets;
  switches = c.switches;
  filled = c.filled;
  left_out = c.left_out;
  refused = c.refused;
  resent = c.resent;
}

-- the fields of a sender report at that time of the viewer's stream
abbrev pub report_at : PacketForwarder → ℕ → SenderReportInfo
report_at r time = record { ssrc = r.forwarder.settings.ssrc; rtp_time = time; packets = r.counts.packets % 4294967296; octets = r.counts.octets % 4294967296 }

-- the same for a time of a source, if it is forwarded
abbrev pub reported : PacketForwarder → (ssrc time : ℕ) → Option SenderReportInfo
reported r ssrc time = option_map (report_at r) (time_for r.forwarder ssrc time)

abbrev pub TellsReport : Option SenderReportInfo → ℕ → (before after : SenderReportInfo) → Type 0
TellsReport (Some report) status before after = (status ≡ 0) × (after ≡ report)
TellsReport None status before after = (status ≡ 32) × (after ≡ before)
