-- The calls on a sender of datagrams.
use Rattle.std.specs.Prelude.{◌≡◌, ◌≢◌, ℕ, ◌+◌, ◌-◌, ◌^◌, ◌&&◌, ◌++◌, nat_le, min, if◌then◌else◌, Bool, List, Option, Some, None, IfSome, is_some, length, drop}
use Rattle.std.specs.Option.{unwrap_or}
use Rattle.codec_payload_base.specs.declared.error.PacketError.{PacketError}
use Rattle.codec_payload_base.specs.declared.wire.extension.ExtensionValues.{ExtensionValues}
use Rattle.codec_payload_core.specs.Faults.{fault_number}
use Rattle.codec_payload_core.specs.Packetizers.{PacketizerState}
use Rattle.codec_payload_rtp.specs.ExtensionWriting.{ids_fit}
use Rattle.codec_payload_sending.specs.Datagrams.{Sample}
use Rattle.codec_payload_sending.specs.Senders.{Sends, Refuses as RefusesSample, report_of, sender_by, with_format}
use Rattle.codec_payload_sending.specs.declared.sender.SenderError.{SenderError}
use Rattle.codec_payload_sending.specs.declared.sender.SenderError.TheVariants as errors
use Rattle.codec_payload_sending.specs.declared.sender.SenderSettings.{SenderSettings as Settings}
use Rattle.codec_payload_handle.specs.Bytes.{filled}
use Rattle.codec_payload_handle.specs.HeaderValues.{values_given}
use Rattle.codec_payload_handle.specs.declared.object.Object.{Object}
use Rattle.codec_payload_handle.specs.declared.object.Object.TheVariants as objects
use Rattle.codec_payload_handle.specs.declared.object.StreamSender.{StreamSender}
use Rattle.codec_payload_handle.specs.declared.settings.Spec.{Spec}
use Rattle.codec_payload_handle.specs.Ids.{ids_given}
use Rattle.codec_payload_c_packets.specs.declared.sender.Sample.{Sample as CSample}
use Rattle.codec_payload_c_packets.specs.declared.sender.SenderCountsInfo.{SenderCountsInfo}
use Rattle.codec_payload_c_packets.specs.declared.sender.SenderReportInfo.{SenderReportInfo}
use Rattle.codec_payload_c_packets.specs.declared.sender.SenderSettings.{SenderSettings}

-- the settings of a sender, from C
abbrev pub settings_for : SenderSettings → Settings
settings_for s = record {
  ssrc = s.ssrc;
  payload_type = s.payload_type;
  first_number = s.first_number;
  clock_rate = s.spec.rate;
  mtu = s.mtu;
  tailroom = 0;
  extension_ids = ids_given s.extension_ids;
}

-- the payload type and the ids of header extensions are in range
abbrev pub is_in_range : SenderSettings → Bool
is_in_range s = nat_le s.payload_type 127 && ids_fit (ids_given s.extension_ids)

-- the status of a refusal
abbrev pub refusal_status : SenderError → ℕ
refusal_status errors.PayloadType = 37
refusal_status errors.Tailroom = 37
refusal_status errors.ExtensionIds = 37
refusal_status errors.OutOfMemory = 17

-- a new sender by these settings
abbrev pub IsStreamSenderOf : SenderSettings → Option PacketizerState → Object → Type 0
IsStreamSenderOf s packetizer (objects.StreamSender r) = IfSome packetizer (λ p. (r.value.sender ≡ sender_by (settings_for s) p) × (r.value.rate ≡ s.spec.rate))
IsStreamSenderOf s packetizer _ = ⊥

-- a frame with its time and values of header extensions
abbrev pub sample_with : StreamSender → ℕ → Bool → ExtensionValues → List ℕ → Sample
sample_with r rtp_time starts values frame = record { rtp_time = record { numer = rtp_time; rate = r.rate }; bytes = frame; start_of_talk_spurt = starts; ext_vals = values }

-- the same, from C
abbrev pub sample_given : StreamSender → CSample → List ℕ → Sample
sample_given r s frame = sample_with r s.rtp_time s.starts_talk_spurt (values_given s.values) frame

-- A frame is sent: its datagrams replace the datagrams of the previous frame. After an error there are no datagrams.
pub record SendsFrame (r : StreamSender) (sample : Sample) (status before count : ℕ) (s : StreamSender) : Type 0 where
  pub ok : status ≡ 0 → Sends r.sender sample s.sender
  pub counted : status ≡ 0 → count ≡ length s.sender.datagrams
  pub fault : status ≢ 0 → (e : PacketError) × (status ≡ fault_number e) × RefusesSample r.sender sample e s.sender
  pub unchanged : status ≢ 0 → count ≡ before
  pub rate : s.rate ≡ r.rate

-- a datagram in the output buffer: 0 if there is one and the buffer is large enough, 33 if the buffer is too small, 32 without
-- one
abbrev pub GivesDatagram : Option (List ℕ) → ℕ → (before bytes : List ℕ) → (size_before size : ℕ) → Type 0
GivesDatagram None status before bytes size_before size = (status ≡ 32) × (bytes ≡ before) × (size ≡ size_before)
GivesDatagram (Some d) status before bytes size_before size =
    (status ≡ (if nat_le (length d) (length before) then 0 else 33)) × (bytes ≡ filled d before) × (size ≡ length d)

-- the fields of sender reports
pub record TellsCounts (r : StreamSender) (c : SenderCountsInfo) : Type 0 where
  pub packets : c.packets ≡ r.sender.counts.packets
  pub octets : c.octets ≡ r.sender.counts.octets
  pub has_rtp_time : c.has_rtp_time ≡ is_some r.sender.counts.rtp_time
  pub rtp_time : c.rtp_time ≡ unwrap_or r.sender.counts.rtp_time 0
  pub next_number : c.next_number ≡ r.sender.stream.number

-- A datagram into the caller's bytes, and room for a tail of that size after it: 33 where the bytes are too few for both, and the
-- size is then that of both, at most 2^64 - 1
abbrev pub GivesWithTail : ℕ → Option (List ℕ) → ℕ → (before bytes : List ℕ) → (size_before size : ℕ) → Type 0
GivesWithTail tail None status before bytes size_before size = (status ≡ 32) × (bytes ≡ before) × (size ≡ size_before)
GivesWithTail tail (Some d) status before bytes size_before size =
    (status ≡ (if nat_le (length d + tail) (length before) then 0 else 33))
    × (bytes ≡ (if nat_le (length d + tail) (length before) then d ++ drop (length d) before else before))
    × (size ≡ (if nat_le (length d + tail) (length before) then length d else min (length d + tail) (2 ^ 64 - 1)))

-- Another format: with status 0 the stream goes on with this packetizer, payload type and rate, and all else stays. Without a
-- packetizer, or with a payload type above 127, the status is 37, and nothing changes
pub record SetsFormat (packetizer : Option PacketizerState) (spec : Spec) (payload_type : ℕ) (r : StreamSender) (status : ℕ) (s : StreamSender) : Type 0 where
  pub answers : status ≡ (if is_some packetizer && nat_le payload_type 127 then 0 else 37)
  pub ok : status ≡ 0 → IfSome packetizer (λ p. s ≡ record { sender = with_format r.sender p payload_type spec.rate; rate = spec.rate })
  pub unchanged : status ≢ 0 → s ≡ r

-- the fields of a sender report for that time, in ticks of the RTP clock
abbrev pub reported_at : StreamSender → ℕ → SenderReportInfo
reported_at r now = let report = report_of r.sender (record { numer = now; rate = r.rate }) in
    record { ssrc = report.ssrc; rtp_time = report.rtp_time; packets = report.packets; octets = report.octets }
