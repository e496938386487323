-- The units that a viewer's receiver releases behind a forwarder that goes over once from one source to another, between two frames.
--
-- The forwarder writes one stream: the datagrams of the first source up to the switch, and then those of the second source, from the one
-- on with which the forwarder began. So the viewer's receiver sees the datagrams of one sender. It sends the samples of the first source
-- up to the switch, and then those of the second, at the viewer's times. Premises and guarantees are those of a run over one hop from that
-- sender.
use Rattle.std.specs.Prelude.{◌≡◌, ℕ, ◌+◌, ◌-◌, ◌<◌, ◌≤◌, ◌^◌, ◌⊎◌, nat_lt, if◌then◌else◌, true, List, [], ◌∷◌, ◌++◌, Option, Some, None, Ok, drop, length, map, slice_get, take}
use Rattle.codec_payload_base.specs.declared.wire.Codec.{Codec}
use Rattle.codec_payload_base.specs.declared.wire.Codec.TheVariants as codecs
use Rattle.codec_payload_buffer_runs.specs.SentStream.{AreReadable, SentUnit}
use Rattle.codec_payload_buffer_runs.specs.Units.{canonical_units}
use Rattle.codec_payload_codec.specs.Depacketizers.{DepacketizerState}
use Rattle.codec_payload_codec.specs.Packetizers.{PacketizerState, Vp8Packetizing}
use Rattle.codec_payload_payloader.specs.Sending.{Sample}
use Rattle.codec_payload_receiver.specs.Sessions.{Session, session_by}
use Rattle.codec_payload_receiver.specs.declared.receiver.Settings.{Settings}
use Rattle.codec_payload_sending.specs.Senders.{Sending}
use Rattle.codec_payload_sending_forward.specs.Forwarding.{Forward}
use Rattle.codec_payload_datagram_runs.specs.HistoryReleases.{delivery_of}
use Rattle.codec_payload_datagram_runs.specs.Releases.{AreOfOneStream, ComeTimely, ComeWithin, delivered, received_steps, sends_after, times_sent}
use Rattle.codec_payload_datagram_runs.specs.WireLogs.{KeepsPromises}
use Rattle.codec_payload_datagram_runs.specs.WireRuns.{Wire, begins}
use Rattle.codec_payload_datagram_runs.specs.declared.run.DatagramStep.{DatagramStep}
use Rattle.codec_payload_datagram_runs.specs.declared.run.DatagramStep.TheVariants as seen
use Rattle.codec_payload_datagram_runs.specs.declared.run.SentSample.{SentSample}
use Rattle.codec_payload_forward_runs.specs.ForwardReleases.{HaveWidths, forwarded_by, keeps_packetizer, viewer_datagram, viewer_samples, viewer_sender}
use Rattle.codec_payload_forward_runs.specs.LeaveReleases.{AreAt, sends_no_ids}
use Rattle.codec_payload_forward_runs.specs.SwitchReleases.{AreTwoSources, Event, IsOneStream, SwitchesOnce, Writing, cut_of, delivers, ends, events_of, forwards, place_in, pops, start_of, wants, writings}
use Rattle.codec_payload_forward_runs.specs.SwitchRuns.{SwitchRuns, Switched, begins_switching}
use Rattle.codec_payload_forward_runs.specs.declared.run.ForwardStep.TheVariants as plain
use Rattle.codec_payload_forward_runs.specs.declared.switch_run.Source.{Source}
use Rattle.codec_payload_forward_runs.specs.declared.switch_run.Source.TheVariants as sources
use Rattle.codec_payload_forward_runs.specs.declared.switch_run.SwitchStep.{SwitchStep}
use Rattle.codec_payload_forward_runs.specs.declared.switch_run.SwitchStep.TheVariants as steps

-- What the sources sent

-- a sample that a source sent, with the result
pub record Sent : Type 0 where
  pub sample : Sample
  pub entry : SentSample

-- a sample, if there is one, with the first of these results
abbrev pub with_first : Option Sample → List SentSample → List Sent
with_first None entries = []
with_first (Some sample) [] = []
with_first (Some sample) (entry ∷ entries) = record { sample = sample; entry = entry } ∷ []

-- the samples that a source sends in these steps; `entries` has their results
abbrev pub sent_in : Source → List Sample → List SwitchStep → List SentSample → List Sent
sent_in source samples [] entries = []
sent_in sources.First samples (steps.Of sources.First (plain.Send i) ∷ later) entries =
    with_first (slice_get samples i) entries ++ sent_in sources.First samples later (sends_after (slice_get samples i) entries)
sent_in sources.Second samples (steps.Of sources.Second (plain.Send i) ∷ later) entries =
    with_first (slice_get samples i) entries ++ sent_in sources.Second samples later (sends_after (slice_get samples i) entries)
sent_in source samples (step ∷ later) entries = sent_in source samples later entries

-- The samples whose datagrams are all below an index. The first of these samples begins at the datagram `k`
abbrev pub all_below : (index k : ℕ) → List Sent → List Sent
all_below index k [] = []
all_below index k (x ∷ xs) = if nat_lt index (k + x.entry.count) then all_below index (k + x.entry.count) xs else x ∷ all_below index (k + x.entry.count) xs

-- the samples of whose datagrams none is below an index
abbrev pub none_below : (index k : ℕ) → List Sent → List Sent
none_below index k [] = []
none_below index k (x ∷ xs) = if nat_lt k index then none_below index (k + x.entry.count) xs else x ∷ none_below index (k + x.entry.count) xs

-- no sample has datagrams on both sides of an index
abbrev pub NoneAcross : (index k : ℕ) → List Sent → Type 0
NoneAcross index k [] = Unit {0}
NoneAcross index k (x ∷ xs) = ((k + x.entry.count ≤ index) ⊎ (index ≤ k)) × NoneAcross index (k + x.entry.count) xs

-- the same for a whole run
abbrev pub first_sent : List Sample → List SwitchStep → Switched → List Sent
first_sent samples all_steps t = sent_in sources.First samples all_steps t.hops.wire.sends

abbrev pub second_sent : List Sample → List SwitchStep → Switched → List Sent
second_sent samples all_steps t = sent_in sources.Second samples all_steps t.sends

abbrev pub writings_of : List Sample → List SwitchStep → Switched → List Writing
writings_of samples all_steps t = writings (events_of samples all_steps t)

abbrev pub cut_in : List Sample → List SwitchStep → Switched → ℕ
cut_in samples all_steps t = cut_of (writings_of samples all_steps t)

abbrev pub start_in : List Sample → List SwitchStep → Switched → ℕ
start_in samples all_steps t = start_of (writings_of samples all_steps t)

-- the samples of the first source up to the switch, and those of the second from then on
abbrev pub sent_before_switch : List Sample → List SwitchStep → Switched → List Sent
sent_before_switch samples all_steps t = all_below (cut_in samples all_steps t) 0 (first_sent samples all_steps t)

abbrev pub sent_after_switch : List Sample → List SwitchStep → Switched → List Sent
sent_after_switch samples all_steps t = none_below (start_in samples all_steps t) 0 (second_sent samples all_steps t)

-- The viewer's stream

abbrev pub samples_in : List Sent → List Sample
samples_in xs = map (λ (x : Sent). x.sample) xs

abbrev pub entries_in : List Sent → List SentSample
entries_in xs = map (λ (x : Sent). x.entry) xs

-- the canonical units of these samples
abbrev pub units_of_sent : PacketizerState → (mtu : ℕ) → List Sent → List (List (List ℕ))
units_of_sent packetizer mtu [] = []
units_of_sent packetizer mtu (x ∷ xs) = canonical_units packetizer mtu x.sample.bytes ++ units_of_sent packetizer mtu xs

-- its samples, at the viewer's times: before the switch by the first offsets, and after it by the second
abbrev pub stream_samples : List Sample → List SwitchStep → (rate : ℕ) → (before after : Forward) → Switched → List Sample
stream_samples samples all_steps rate before after t =
    viewer_samples before rate (samples_in (sent_before_switch samples all_steps t)) ++ viewer_samples after rate (samples_in (sent_after_switch samples all_steps t))

abbrev pub stream_sends : List Sample → List SwitchStep → Switched → List SentSample
stream_sends samples all_steps t = entries_in (sent_before_switch samples all_steps t ++ sent_after_switch samples all_steps t)

-- its datagrams
abbrev pub stream_datagrams : (cut start : ℕ) → (before after : Forward) → (first second : List (List ℕ)) → List (List ℕ)
stream_datagrams cut start before after first second = map (viewer_datagram before) (take cut first) ++ map (viewer_datagram after) (drop start second)

-- the samples are sent, one after another; `i` is the index of the first
abbrev pub send_each : (i : ℕ) → List Sent → List DatagramStep
send_each i [] = []
send_each i (x ∷ xs) = seen.Send i ∷ send_each (i + 1) xs

-- What the viewer's receiver does: each delivery of a written datagram is the delivery of the datagram at its place. `places` has the
-- places of the datagrams that were written so far
abbrev pub viewed_steps : (cut start : ℕ) → (places : List ℕ) → List Event → List DatagramStep
viewed_steps cut start places [] = []
viewed_steps cut start places (wants ssrc ∷ later) = viewed_steps cut start places later
viewed_steps cut start places (forwards source k answer ∷ later) = viewed_steps cut start (places ++ forwarded_by answer (place_in source cut start k)) later
viewed_steps cut start places (delivers j now ∷ later) = delivery_of (slice_get places j) now ++ viewed_steps cut start places later
viewed_steps cut start places (pops now ∷ later) = seen.Pop now ∷ viewed_steps cut start places later
viewed_steps cut start places (ends ∷ later) = seen.Finish ∷ viewed_steps cut start places later

abbrev pub viewed_steps_of : List Sample → List SwitchStep → Switched → List DatagramStep
viewed_steps_of samples all_steps t = viewed_steps (cut_in samples all_steps t) (start_in samples all_steps t) [] (events_of samples all_steps t)

-- The steps of the run over one hop. All samples are sent in front of the receiver's steps: what a receiver does does not depend on when a
-- datagram was sent
abbrev pub stream_steps : List Sample → List SwitchStep → Switched → List DatagramStep
stream_steps samples all_steps t = send_each 0 (sent_before_switch samples all_steps t ++ sent_after_switch samples all_steps t) ++ viewed_steps_of samples all_steps t

-- the places of the written datagrams
abbrev pub places_of : (cut start : ℕ) → List Writing → List ℕ
places_of cut start ws = map (λ (w : Writing). place_in w.source cut start w.datagram) ws

-- the run over one hop from the sender whose datagrams the viewer gets: before it, and after it
abbrev pub stream_begins : (before : Forward) → Switched → Wire
stream_begins before s = begins (viewer_sender before s.hops.wire.sending) s.hops.wire.session

abbrev pub stream_wire : List Sample → List SwitchStep → (before after : Forward) → Switched → Wire
stream_wire samples all_steps before after t = record t.hops.wire {
  sending = viewer_sender after t.second;
  datagrams = stream_datagrams (cut_in samples all_steps t) (start_in samples all_steps t) before after t.hops.wire.datagrams t.datagrams;
  sends = stream_sends samples all_steps t;
}

-- Premises

-- The switch comes between two frames: no frame of the first source has datagrams in front of it and behind it, and the forwarder goes over
-- with the first datagram of a frame of the second
pub record IsBetweenFrames (samples : List Sample) (all_steps : List SwitchStep) (t : Switched) : Type 0 where
  pub first : NoneAcross (cut_in samples all_steps t) 0 (first_sent samples all_steps t)
  pub second : NoneAcross (start_in samples all_steps t) 0 (second_sent samples all_steps t)

-- both sources have the same packetizer, of the codec of the forwarder, which sends no picture ids
pub record SendNoIds (codec : Codec) (first second : Sending) : Type 0 where
  pub no_ids : sends_no_ids first.packetizer ≡ true
  pub packetizer : second.packetizer ≡ first.packetizer
  pub of_codec : keeps_packetizer codec first.packetizer ≡ true

-- both packetizers are of VP8 and send picture ids, and payloads have room for ids of two bytes
pub record SendPictureIds (codec : Codec) (first second : Sending) : Type 0 where
  pub codec_is : codec ≡ codecs.Vp8
  pub first_id : ℕ
  pub first_is : first.packetizer ≡ Vp8Packetizing (Some first_id)
  pub second_id : ℕ
  pub second_is : second.packetizer ≡ Vp8Packetizing (Some second_id)
  pub room : 4 < first.mtu

-- both sources send the same format, in payloads of the same size, at the same clock
pub record SendAlike (codec : Codec) (first second : Sending) : Type 0 where
  pub mtu : second.mtu ≡ first.mtu
  pub clock_rate : second.stream.clock_rate ≡ first.stream.clock_rate
  pub format : SendNoIds codec first second ⊎ SendPictureIds codec first second

-- what is written is one stream, with these offsets before and after the switch
abbrev pub OneStreamOf : List Sample → List SwitchStep → Switched → Switched → Type 0
OneStreamOf samples all_steps s t = IsOneStream t.hops.wire.datagrams t.datagrams s.hops.forwarder (writings_of samples all_steps t) t.hops.written

-- The run has one switch, between two frames of sources that send alike. The receiver is new, for the viewer's stream; the samples can be
-- read again; and all datagrams that are delivered to the receiver are within its windows, and timely: by the viewer's times, also across
-- the switch. The forwarder may get any datagrams, in any order
pub record IsSwitchedWithinWindows (samples : List Sample) (all_steps : List SwitchStep) (s t : Switched) : Type 0 where
  pub two : AreTwoSources s
  pub once : SwitchesOnce (writings_of samples all_steps t)
  pub between : IsBetweenFrames samples all_steps t
  pub alike : SendAlike s.hops.forwarder.settings.codec s.hops.wire.sending s.second
  pub widths : HaveWidths s.hops.wire.sending s.hops.forwarder
  -- the viewer's stream has fewer than 2^63 datagrams
  pub few : cut_in samples all_steps t + (length t.datagrams - start_in samples all_steps t) < 2 ^ 63
  pub settings : Settings
  pub depacketizer : DepacketizerState
  pub new : session_by settings depacketizer ≡ Ok s.hops.wire.session
  pub one_stream : AreOfOneStream (viewer_sender s.hops.forwarder s.hops.wire.sending) settings depacketizer
  pub readable : AreReadable s.hops.wire.sending.packetizer samples
  pub within : ComeWithin settings.forward settings.backward (delivered (viewed_steps_of samples all_steps t))
  pub timely : (stream : OneStreamOf samples all_steps s t)
      → ComeTimely s.hops.wire.sending.stream.clock_rate
      (times_sent s.hops.wire.sending.stream.clock_rate (stream_samples samples all_steps s.hops.wire.sending.stream.clock_rate stream.before stream.after t) (stream_steps samples all_steps t) (stream_sends samples all_steps t))
      (delivered (viewed_steps_of samples all_steps t))

-- Guarantees

-- What a viewer's receiver releases: what it releases in a run over one hop from the sender whose datagrams the viewer gets. Each written
-- datagram is the one at its place in the viewer's stream, and the receiver's steps are those of the run. The units are those of the
-- samples of the first source up to the switch, and then of the samples of the second from then on
pub record ReleasesSwitched (samples : List Sample) (all_steps : List SwitchStep) (s t : Switched) : Type 0 where
  pub stream : OneStreamOf samples all_steps s t
  pub written : AreAt (stream_datagrams (cut_in samples all_steps t) (start_in samples all_steps t) stream.before stream.after t.hops.wire.datagrams t.datagrams) t.hops.written
      (places_of (cut_in samples all_steps t) (start_in samples all_steps t) (writings_of samples all_steps t))
  pub received : received_steps (stream_samples samples all_steps s.hops.wire.sending.stream.clock_rate stream.before stream.after t) 0 (stream_steps samples all_steps t) (stream_sends samples all_steps t)
      ≡ viewed_steps_of samples all_steps t
  pub promises : KeepsPromises (stream_samples samples all_steps s.hops.wire.sending.stream.clock_rate stream.before stream.after t) (stream_steps samples all_steps t) (stream_begins stream.before s)
      (stream_wire samples all_steps stream.before stream.after t)
  pub canonical : map (λ (u : SentUnit). u.parts) promises.released.units
      ≡ units_of_sent s.hops.wire.sending.packetizer s.hops.wire.sending.mtu (sent_before_switch samples all_steps t) ++ units_of_sent s.second.packetizer s.second.mtu (sent_after_switch samples all_steps t)

abbrev pub ReleasesSwitching : List Sample → List SwitchStep → Switched → Switched → Type 0
ReleasesSwitching samples all_steps s t = IsSwitchedWithinWindows samples all_steps s t → ReleasesSwitched samples all_steps s t

-- for every run with two sources
abbrev pub ReleaseSwitching : Type 0
ReleaseSwitching =
    (samples : List Sample) (all_steps : List SwitchStep) (first second : Sending) (forwarder : Forward) (receiver : Session) (t : Switched)
    → SwitchRuns samples all_steps (begins_switching first second forwarder receiver) t → ReleasesSwitching samples all_steps (begins_switching first second forwarder receiver) t
