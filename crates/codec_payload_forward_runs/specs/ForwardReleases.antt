-- The units that a viewer's receiver releases behind a forwarder, with any loss, repetition and order of datagrams on both hops.
--
-- The forwarder changes the same fields of all packets: numbers, times and the ids of VP8 and VP9 by the same offsets. So the viewer's
-- receiver sees the datagrams of one sender: the sender of the run, with the viewer's SSRC, payload type, numbers, times and ids.
-- Premises and guarantees are those of a run over one hop from that sender.
use Rattle.std.specs.Prelude.{◌≡◌, ℕ, ◌+◌, ◌%◌, ◌<◌, ◌^◌, nat_lt, if◌then◌else◌, Bool, true, false, List, [], ◌∷◌, ◌++◌, Option, Some, None, option_map, Ok, drop, map, slice_get}
use Rattle.codec_payload_base.specs.declared.wire.Codec.{Codec}
use Rattle.codec_payload_base.specs.declared.wire.Codec.TheVariants as codecs
use Rattle.codec_payload_buffer_runs.specs.SentStream.{AreReadable, SentUnit, units_of_run}
use Rattle.codec_payload_codec.specs.Depacketizers.{DepacketizerState}
use Rattle.codec_payload_codec.specs.Packetizers.{PacketizerState, Vp8Packetizing, Vp9Packetizing}
use Rattle.codec_payload_payloader.specs.Sending.{Sample, rtp_time_at}
use Rattle.codec_payload_receiver.specs.Defaults.{no_ids}
use Rattle.codec_payload_receiver.specs.Sessions.{Session, session_by}
use Rattle.codec_payload_receiver.specs.declared.receiver.Settings.{Settings}
use Rattle.codec_payload_rtp.specs.RtpPackets.{Packet, packet_bytes}
use Rattle.codec_payload_rtp.specs.RtpReading.{rtp_at}
use Rattle.codec_payload_sending.specs.Senders.{Sending}
use Rattle.codec_payload_sending.specs.declared.sender.Counts.{Counts}
use Rattle.codec_payload_sending.specs.declared.sender.Outgoing.{Outgoing}
use Rattle.codec_payload_sending_forward.specs.Forwarding.{Forward, is_source, sent_packet}
use Rattle.codec_payload_sending_forward.specs.declared.ids.IdOffsets.{IdOffsets}
use Rattle.codec_payload_vp9.specs.Vp9Sent.{Sender as Vp9Sender}
use Rattle.codec_payload_sending_forward.specs.Times.{time_as}
use Rattle.codec_payload_sending_forward.specs.declared.forwarder.Forwarded.{Forwarded}
use Rattle.codec_payload_sending_forward.specs.declared.forwarder.Forwarded.TheVariants as answers
use Rattle.codec_payload_datagram_runs.specs.HistoryReleases.{delivery_of}
use Rattle.codec_payload_datagram_runs.specs.Releases.{AreOfOneStream, ComeTimely, ComeWithin, ReleasesUnits, delivered, received_steps, sending_steps, sends_after, sent_after, times_sent}
use Rattle.codec_payload_datagram_runs.specs.WireLogs.{KeepsPromises}
use Rattle.codec_payload_datagram_runs.specs.WireRuns.{Wire}
use Rattle.codec_payload_datagram_runs.specs.declared.run.DatagramStep.{DatagramStep}
use Rattle.codec_payload_datagram_runs.specs.declared.run.DatagramStep.TheVariants as plain
use Rattle.codec_payload_datagram_runs.specs.declared.run.SentSample.{SentSample}
use Rattle.codec_payload_forward_runs.specs.ForwardRuns.{ForwardRuns, Hops, begins_forwarding, packet_read}
use Rattle.codec_payload_forward_runs.specs.declared.run.ForwardStep.{ForwardStep}
use Rattle.codec_payload_forward_runs.specs.declared.run.ForwardStep.TheVariants as steps

-- Which datagrams are forwarded

-- the datagram with this index, if a packet was written for it
abbrev pub forwarded_by : Forwarded → ℕ → List ℕ
forwarded_by answers.Began k = k ∷ []
forwarded_by answers.Written k = k ∷ []
forwarded_by answers.NoKeyframe k = []
forwarded_by answers.OtherSource k = []
forwarded_by answers.TooOld k = []
forwarded_by answers.LeftOut k = []
forwarded_by answers.Filled k = []

-- the same for the first of these answers
abbrev pub forwarded_first : List Forwarded → ℕ → List ℕ
forwarded_first [] k = []
forwarded_first (answer ∷ answers) k = forwarded_by answer k

-- The steps of the viewer's receiver, as steps of a run over one hop: each delivery of a written datagram is the delivery of the
-- datagram that was forwarded as it. Before these steps `sent` datagrams were sent; `forwarded` has the indices of the datagrams that
-- were written so far. `sends` and `results` have the entries of sends and the answers of the forwarder
abbrev pub viewer_steps : List Sample → (sent : ℕ) → (forwarded : List ℕ) → List ForwardStep → List SentSample → List Forwarded → List DatagramStep
viewer_steps samples sent forwarded [] sends results = []
viewer_steps samples sent forwarded (steps.Send i ∷ later) sends results =
    plain.Send i ∷ viewer_steps samples (sent_after sent (slice_get samples i) sends) forwarded later (sends_after (slice_get samples i) sends) results
viewer_steps samples sent forwarded (steps.Forward k now ∷ later) sends results =
    if nat_lt k sent then viewer_steps samples sent (forwarded ++ forwarded_first results k) later sends (drop 1 results) else viewer_steps samples sent forwarded later sends results
viewer_steps samples sent forwarded (steps.Deliver j now ∷ later) sends results = delivery_of (slice_get forwarded j) now ++ viewer_steps samples sent forwarded later sends results
viewer_steps samples sent forwarded (steps.Pop now ∷ later) sends results = plain.Pop now ∷ viewer_steps samples sent forwarded later sends results
viewer_steps samples sent forwarded (steps.Finish ∷ later) sends results = plain.Finish ∷ viewer_steps samples sent forwarded later sends results

-- the same for a whole run
abbrev pub viewer_steps_of : List Sample → List ForwardStep → Hops → List DatagramStep
viewer_steps_of samples all_steps t = viewer_steps samples 0 [] all_steps t.wire.sends t.answers

-- the indices of the datagrams that were written, after these steps
abbrev pub forwarded_in : List Sample → (sent : ℕ) → (forwarded : List ℕ) → List ForwardStep → List SentSample → List Forwarded → List ℕ
forwarded_in samples sent forwarded [] sends results = forwarded
forwarded_in samples sent forwarded (steps.Send i ∷ later) sends results =
    forwarded_in samples (sent_after sent (slice_get samples i) sends) forwarded later (sends_after (slice_get samples i) sends) results
forwarded_in samples sent forwarded (steps.Forward k now ∷ later) sends results =
    if nat_lt k sent then forwarded_in samples sent (forwarded ++ forwarded_first results k) later sends (drop 1 results) else forwarded_in samples sent forwarded later sends results
forwarded_in samples sent forwarded (steps.Deliver j now ∷ later) sends results = forwarded_in samples sent forwarded later sends results
forwarded_in samples sent forwarded (steps.Pop now ∷ later) sends results = forwarded_in samples sent forwarded later sends results
forwarded_in samples sent forwarded (steps.Finish ∷ later) sends results = forwarded_in samples sent forwarded later sends results

-- the same for a whole run
abbrev pub forwarded_of : List Sample → List ForwardStep → Hops → List ℕ
forwarded_of samples all_steps t = forwarded_in samples 0 [] all_steps t.wire.sends t.answers

-- The viewer's stream

-- a packet of the sender as the viewer gets it: the same marker, under the viewer's SSRC and payload type, with number, time and the ids
-- in the payload moved by the offsets of the forwarder, without header extension
abbrev pub viewer_packet : Forward → Packet → Packet
viewer_packet f p = sent_packet f.settings f.ids.offsets ((p.header.sequence_number + f.numbers.offset) % 65536) (time_as f.times p.header.timestamp) p

-- its datagram
abbrev pub viewer_bytes : Forward → Option Packet → List ℕ
viewer_bytes f None = []
viewer_bytes f (Some p) = packet_bytes (viewer_packet f p)

abbrev pub viewer_datagram : Forward → List ℕ → List ℕ
viewer_datagram f datagram = viewer_bytes f (packet_read (rtp_at datagram))

-- a sender's stream as the viewer gets it
abbrev pub viewer_stream : Forward → Outgoing → Outgoing
viewer_stream f stream = record {
  ssrc = f.settings.ssrc;
  payload_type = f.settings.payload_type;
  clock_rate = stream.clock_rate;
  ids = no_ids;
  number = (stream.number + f.numbers.offset) % 65536;
}

-- a sample at the viewer's RTP time
abbrev pub viewer_sample : Forward → ℕ → Sample → Sample
viewer_sample f clock_rate sample = record sample { rtp_time = record { numer = time_as f.times (rtp_time_at clock_rate sample.rtp_time); rate = clock_rate } }

abbrev pub viewer_samples : Forward → ℕ → List Sample → List Sample
viewer_samples f clock_rate samples = map (viewer_sample f clock_rate) samples

abbrev pub viewer_counts : Forward → Counts → Counts
viewer_counts f counts = record counts { rtp_time = option_map (time_as f.times) counts.rtp_time }

-- a packetizer of VP9 whose ids are moved
abbrev pub moved_sender : IdOffsets → Vp9Sender → Vp9Sender
moved_sender o s = record s { picture_id = (s.picture_id + o.picture) % 32768; tl0picidx = (s.tl0picidx + o.tl0) % 256 }

-- The packetizer whose payloads the viewer gets. That of VP8 stays as it is: its units do not depend on its ids, and the viewer's
-- datagrams have the moved ids in the width that they were sent in
abbrev pub moved_packetizer : Codec → IdOffsets → PacketizerState → PacketizerState
moved_packetizer codecs.Vp9 o (Vp9Packetizing s) = Vp9Packetizing (moved_sender o s)
moved_packetizer codec o packetizer = packetizer

abbrev pub viewer_packetizer : Forward → PacketizerState → PacketizerState
viewer_packetizer f packetizer = moved_packetizer f.settings.codec f.ids.offsets packetizer

-- the sender whose datagrams the viewer gets
abbrev pub viewer_sender : Forward → Sending → Sending
viewer_sender f s = record s { packetizer = viewer_packetizer f s.packetizer; stream = viewer_stream f s.stream; counts = viewer_counts f s.counts; datagrams = map (viewer_datagram f) s.datagrams }

-- the run over one hop from that sender to the viewer
abbrev pub viewer_wire : Forward → Wire → Wire
viewer_wire f s = record s { sending = viewer_sender f s.sending; datagrams = map (viewer_datagram f) s.datagrams }

-- Premises

-- The payloads have no ids that close up behind pictures which are left out: the codec is not VP8, or the packetizer sends no picture
-- ids
abbrev pub keeps_payloads : Codec → PacketizerState → Bool
keeps_payloads codecs.Vp8 (Vp8Packetizing None) = true
keeps_payloads codecs.Vp8 packetizer = false
keeps_payloads codec packetizer = true

-- If the codec is VP8 or VP9, the packetizer is that of the codec: its ids are moved
abbrev pub keeps_packetizer : Codec → PacketizerState → Bool
keeps_packetizer codecs.Vp8 (Vp8Packetizing id) = true
keeps_packetizer codecs.Vp8 packetizer = false
keeps_packetizer codecs.Vp9 (Vp9Packetizing sender) = true
keeps_packetizer codecs.Vp9 packetizer = false
keeps_packetizer codec packetizer = true

-- The forwarder moves the ids of all payloads by the same offsets. It has not begun with the sender's stream yet, or has left out no
-- packet of it, and, if there are ids that close up, no picture
pub record ForwardsStream (sender : Sending) (forwarder : Forward) : Type 0 where
  pub none_left_out : is_source forwarder.source sender.stream.ssrc ≡ true → forwarder.numbers.left_out ≡ []
  pub none_closed : keeps_payloads forwarder.settings.codec sender.packetizer ≡ false → is_source forwarder.source sender.stream.ssrc ≡ true → forwarder.ids.left_out ≡ []

-- The numbers have their width, as those of each sender and each forwarder
pub record HaveWidths (sender : Sending) (forwarder : Forward) : Type 0 where
  pub clock_rate : 0 < sender.stream.clock_rate
  pub payload_type : forwarder.settings.payload_type < 128
  pub ssrc : forwarder.settings.ssrc < 2 ^ 32

-- The receiver is new, for the viewer's stream; the samples can be read again; and all datagrams that are delivered to the receiver are
-- within its windows, and timely. The forwarder may get any datagrams, in any order
pub record IsForwardedWithinWindows (samples : List Sample) (all_steps : List ForwardStep) (s t : Hops) : Type 0 where
  pub forwards : ForwardsStream s.wire.sending s.forwarder
  pub of_codec : keeps_packetizer s.forwarder.settings.codec s.wire.sending.packetizer ≡ true
  pub widths : HaveWidths s.wire.sending s.forwarder
  pub settings : Settings
  pub depacketizer : DepacketizerState
  pub new : session_by settings depacketizer ≡ Ok s.wire.session
  pub one_stream : AreOfOneStream (viewer_sender t.forwarder s.wire.sending) settings depacketizer
  pub readable : AreReadable s.wire.sending.packetizer samples
  pub within : ComeWithin settings.forward settings.backward (delivered (received_steps samples 0 (viewer_steps_of samples all_steps t) t.wire.sends))
  pub timely : ComeTimely s.wire.sending.stream.clock_rate (times_sent s.wire.sending.stream.clock_rate samples (viewer_steps_of samples all_steps t) t.wire.sends)
      (delivered (received_steps samples 0 (viewer_steps_of samples all_steps t) t.wire.sends))

-- Guarantees

-- these bytes are the datagrams with these indices, as the viewer gets them
abbrev pub AreForwarded : Forward → List (List ℕ) → List (List ℕ) → List ℕ → Type 0
AreForwarded f datagrams [] [] = Unit {0}
AreForwarded f datagrams [] (k ∷ ks) = ⊥
AreForwarded f datagrams (bytes ∷ more) [] = ⊥
AreForwarded f datagrams (bytes ∷ more) (k ∷ ks) =
    ((datagram : List ℕ) × (p : Packet) × (slice_get datagrams k ≡ Some datagram) × (rtp_at datagram ≡ Ok p) × (bytes ≡ packet_bytes (viewer_packet f p)) × (rtp_at bytes ≡ Ok (viewer_packet f p)))
    × AreForwarded f datagrams more ks

-- Each written datagram is the one that was forwarded, as the viewer gets it. All have the same offsets
abbrev pub ForwardsPackets : List Sample → List ForwardStep → Hops → Hops → Type 0
ForwardsPackets samples all_steps s t =
    ForwardsStream s.wire.sending s.forwarder → AreForwarded t.forwarder t.wire.datagrams t.written (forwarded_of samples all_steps t)

-- What a viewer's receiver releases: what it releases in a run over one hop from the sender whose datagrams the viewer gets. The units
-- are those of the samples of the run
pub record ReleasesToViewer (samples : List Sample) (all_steps : List ForwardStep) (s t : Hops) : Type 0 where
  pub released : ReleasesUnits (viewer_samples t.forwarder s.wire.sending.stream.clock_rate samples) (viewer_steps_of samples all_steps t) (viewer_wire t.forwarder s.wire) (viewer_wire t.forwarder t.wire)
  pub canonical : map (λ (u : SentUnit). u.parts) released.units ≡ units_of_run s.wire.sending.packetizer samples (sending_steps s.wire.sending.mtu (viewer_steps_of samples all_steps t))

abbrev pub ReleasesForwarded : List Sample → List ForwardStep → Hops → Hops → Type 0
ReleasesForwarded samples all_steps s t = IsForwardedWithinWindows samples all_steps s t → ReleasesToViewer samples all_steps s t

-- the same pop by pop
abbrev pub KeepsPromisesForwarded : List Sample → List ForwardStep → Hops → Hops → Type 0
KeepsPromisesForwarded samples all_steps s t =
    IsForwardedWithinWindows samples all_steps s t
    → KeepsPromises (viewer_samples t.forwarder s.wire.sending.stream.clock_rate samples) (viewer_steps_of samples all_steps t) (viewer_wire t.forwarder s.wire) (viewer_wire t.forwarder t.wire)

-- for every run with a forwarder
abbrev pub ReleaseForwarded : Type 0
ReleaseForwarded =
    (samples : List Sample) (all_steps : List ForwardStep) (sender : Sending) (forwarder : Forward) (receiver : Session) (t : Hops)
    → ForwardRuns samples all_steps (begins_forwarding sender forwarder receiver) t → ReleasesForwarded samples all_steps (begins_forwarding sender forwarder receiver) t

abbrev pub PromisesForwarded : Type 0
PromisesForwarded =
    (samples : List Sample) (all_steps : List ForwardStep) (sender : Sending) (forwarder : Forward) (receiver : Session) (t : Hops)
    → ForwardRuns samples all_steps (begins_forwarding sender forwarder receiver) t → KeepsPromisesForwarded samples all_steps (begins_forwarding sender forwarder receiver) t

abbrev pub PacketsForwarded : Type 0
PacketsForwarded =
    (samples : List Sample) (all_steps : List ForwardStep) (sender : Sending) (forwarder : Forward) (receiver : Session) (t : Hops)
    → ForwardRuns samples all_steps (begins_forwarding sender forwarder receiver) t → ForwardsPackets samples all_steps (begins_forwarding sender forwarder receiver) t
