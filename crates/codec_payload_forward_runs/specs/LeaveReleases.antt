-- The units that a viewer's receiver releases behind a forwarder that leaves whole frames out.
--
-- A packet that is left out ahead of all others takes no number, so the viewer's receiver sees the datagrams of a sender that sends only
-- the other frames: with consecutive numbers, and at the viewer's times. Premises and guarantees are those of a run over one hop from
-- that sender.
use Rattle.std.specs.Prelude.{◌≡◌, ℕ, ◌+◌, ◌-◌, ◌*◌, ◌%◌, ◌<◌, ◌&&◌, nat_lt, if◌then◌else◌, Bool, true, false, List, [], ◌∷◌, ◌++◌, Option, Some, None, Ok, drop, map, slice_get}
use Rattle.codec_payload_base.specs.declared.wire.Codec.TheVariants as codecs
use Rattle.codec_payload_base.specs.declared.wire.Ticks.{Ticks}
use Rattle.codec_payload_buffer_runs.specs.SentStream.{AreReadable, SentUnit, units_of_run}
use Rattle.codec_payload_codec.specs.Depacketizers.{DepacketizerState}
use Rattle.codec_payload_codec.specs.Packetizers.{PacketizerState, Vp8Packetizing, Vp9Packetizing}
use Rattle.codec_payload_payloader.specs.Sending.{Sample}
use Rattle.codec_payload_receiver.specs.Sessions.{Session, session_by}
use Rattle.codec_payload_receiver.specs.declared.receiver.Settings.{Settings}
use Rattle.codec_payload_rtp.specs.RtpPackets.{Packet, packet_bytes}
use Rattle.codec_payload_rtp.specs.RtpReading.{rtp_at}
use Rattle.codec_payload_sending.specs.Senders.{Sending}
use Rattle.codec_payload_sending_forward.specs.Forwarding.{Forward, is_source, sent_packet}
use Rattle.codec_payload_sending_forward.specs.Numbers.{below, is_in}
use Rattle.codec_payload_sending_forward.specs.Times.{time_as}
use Rattle.codec_payload_sending_forward.specs.declared.ids.IdOffsets.{IdOffsets}
use Rattle.codec_payload_sending_forward.specs.declared.forwarder.Forwarded.{Forwarded}
use Rattle.codec_payload_sending_forward.specs.declared.forwarder.Forwarded.TheVariants as answers
use Rattle.codec_payload_datagram_runs.specs.HistoryReleases.{delivery_of}
use Rattle.codec_payload_datagram_runs.specs.Releases.{AreOfOneStream, ComeTimely, ComeWithin, StayWithin, delivered, received_steps, sending_steps, sends_after, sent_after, times_sent}
use Rattle.codec_payload_datagram_runs.specs.WireLogs.{KeepsPromises}
use Rattle.codec_payload_datagram_runs.specs.WireRuns.{Wire, begins}
use Rattle.codec_payload_datagram_runs.specs.declared.run.DatagramStep.{DatagramStep}
use Rattle.codec_payload_datagram_runs.specs.declared.run.DatagramStep.TheVariants as seen
use Rattle.codec_payload_datagram_runs.specs.declared.run.SentSample.{SentSample}
use Rattle.codec_payload_forward_runs.specs.ForwardReleases.{HaveWidths, forwarded_by, keeps_packetizer, viewer_samples, viewer_sender, viewer_stream}
use Rattle.codec_payload_forward_runs.specs.ForwardRuns.{Hops, begins_forwarding, packet_read}
use Rattle.codec_payload_forward_runs.specs.LeaveRuns.{LeaveRuns}
use Rattle.codec_payload_forward_runs.specs.declared.leave_run.LeaveStep.{LeaveStep}
use Rattle.codec_payload_forward_runs.specs.declared.leave_run.LeaveStep.TheVariants as steps
use Rattle.codec_payload_forward_runs.specs.declared.run.ForwardStep.TheVariants as plain

-- What happened in a run

-- What happened in a step: a sample was to be sent, with its entry, if there is such a sample; a datagram came to the forwarder, to be
-- forwarded or to be left out, with the answer; a written datagram was to be delivered; a pop; the end of the stream
pub data Event : Type 0 where
  sends : (sample : ℕ) (entry : Option SentSample) → Event
  forwards : (datagram : ℕ) (answer : Forwarded) → Event
  leaves : (datagram : ℕ) (answer : Forwarded) → Event
  delivers : (written : ℕ) (now : Ticks) → Event
  pops : (now : Ticks) → Event
  ends : Event

-- the entry of a sample, if there is one
abbrev pub entry_of : Option Sample → List SentSample → Option SentSample
entry_of None entries = None
entry_of (Some sample) [] = None
entry_of (Some sample) (entry ∷ entries) = Some entry

-- what happened to this datagram, by the first of these answers
abbrev pub by_first : (ℕ → Forwarded → Event) → ℕ → List Forwarded → List Event
by_first event k [] = []
by_first event k (answer ∷ answers) = event k answer ∷ []

-- What happened in these steps. Before them `sent` datagrams were sent. `entries` and `results` have the entries of sends and the answers
-- of the forwarder. A step that names no datagram is skipped
abbrev pub events : List Sample → (sent : ℕ) → List LeaveStep → List SentSample → List Forwarded → List Event
events samples sent [] entries results = []
events samples sent (steps.Plain (plain.Send i) ∷ later) entries results =
    sends i (entry_of (slice_get samples i) entries) ∷ events samples (sent_after sent (slice_get samples i) entries) later (sends_after (slice_get samples i) entries) results
events samples sent (steps.Plain (plain.Forward k now) ∷ later) entries results =
    if nat_lt k sent then by_first forwards k results ++ events samples sent later entries (drop 1 results) else events samples sent later entries results
events samples sent (steps.Plain (plain.Deliver j now) ∷ later) entries results = delivers j now ∷ events samples sent later entries results
events samples sent (steps.Plain (plain.Pop now) ∷ later) entries results = pops now ∷ events samples sent later entries results
events samples sent (steps.Plain plain.Finish ∷ later) entries results = ends ∷ events samples sent later entries results
events samples sent (steps.LeaveOut k ∷ later) entries results =
    if nat_lt k sent then by_first leaves k results ++ events samples sent later entries (drop 1 results) else events samples sent later entries results

-- the same for a whole run
abbrev pub events_of : List Sample → List LeaveStep → Hops → List Event
events_of samples all_steps t = events samples 0 all_steps t.wire.sends t.answers

-- The datagrams that came once the forwarder forwarded the source, in order

abbrev pub came_by : Forwarded → ℕ → List ℕ
came_by answers.Began k = k ∷ []
came_by answers.Written k = k ∷ []
came_by answers.NoKeyframe k = []
came_by answers.OtherSource k = []
came_by answers.TooOld k = k ∷ []
came_by answers.LeftOut k = k ∷ []
came_by answers.Filled k = k ∷ []

abbrev pub came : List Event → List ℕ
came [] = []
came (forwards k answer ∷ later) = came_by answer k ++ came later
came (leaves k answer ∷ later) = came_by answer k ++ came later
came (other ∷ later) = came later

-- each is less than 32,768 above the highest one before it, and less than 32,768 below
abbrev pub ComeNear : List ℕ → Type 0
ComeNear [] = Unit {0}
ComeNear (k ∷ ks) = StayWithin 32768 32767 k ks

-- The datagrams that were left out ahead of all others, the highest first

abbrev pub gone_by : Forwarded → ℕ → List ℕ → List ℕ
gone_by answers.Began k gone = gone
gone_by answers.Written k gone = gone
gone_by answers.NoKeyframe k gone = gone
gone_by answers.OtherSource k gone = gone
gone_by answers.TooOld k gone = gone
gone_by answers.LeftOut k gone = if is_in k gone then gone else k ∷ gone
gone_by answers.Filled k gone = gone

abbrev pub gone_in : List ℕ → List Event → List ℕ
gone_in gone [] = gone
gone_in gone (leaves k answer ∷ later) = gone_in (gone_by answer k gone) later
gone_in gone (other ∷ later) = gone_in gone later

-- Whole frames

-- how many datagrams a sample has
abbrev pub count_of : Option SentSample → ℕ
count_of None = 0
count_of (Some entry) = entry.count

-- the first datagram of a sample, if it has one, was left out
abbrev pub leaves_sample : List ℕ → (first count : ℕ) → Bool
leaves_sample gone first count = nat_lt 0 count && is_in first gone

-- of the datagrams of a sample, which follow `first`, all were left out, or none
abbrev pub IsWhole : List ℕ → (first count : ℕ) → Type 0
IsWhole gone first count = (place : ℕ) → place < count → is_in (first + place) gone ≡ is_in first gone

abbrev pub AreWhole : List ℕ → (sent : ℕ) → List Event → Type 0
AreWhole gone sent [] = Unit {0}
AreWhole gone sent (sends i entry ∷ later) = IsWhole gone sent (count_of entry) × AreWhole gone (sent + count_of entry) later
AreWhole gone sent (other ∷ later) = AreWhole gone sent later

-- a packet of padding was written
abbrev pub fills : Forwarded → Bool
fills answers.Began = false
fills answers.Written = false
fills answers.NoKeyframe = false
fills answers.OtherSource = false
fills answers.TooOld = false
fills answers.LeftOut = false
fills answers.Filled = true

-- no datagram that is left out comes late
abbrev pub NoneFilled : List Event → Type 0
NoneFilled [] = Unit {0}
NoneFilled (leaves k answer ∷ later) = (fills answer ≡ false) × NoneFilled later
NoneFilled (other ∷ later) = NoneFilled later

-- The steps of the viewer's receiver, as steps of a run over one hop

-- the index of a datagram among those that were not left out
abbrev pub place_of : List ℕ → ℕ → ℕ
place_of gone k = k - below k gone

-- a sample that was not left out
abbrev pub step_unless : Bool → ℕ → List DatagramStep
step_unless true i = []
step_unless false i = seen.Send i ∷ []

-- Samples that were left out are not sent; each delivery of a written datagram is the delivery of the datagram that was forwarded as it.
-- Before these steps `sent` datagrams were sent; `forwarded` has the places of the datagrams that were written so far
abbrev pub kept_steps : (gone : List ℕ) → (sent : ℕ) → (forwarded : List ℕ) → List Event → List DatagramStep
kept_steps gone sent forwarded [] = []
kept_steps gone sent forwarded (sends i entry ∷ later) = step_unless (leaves_sample gone sent (count_of entry)) i ++ kept_steps gone (sent + count_of entry) forwarded later
kept_steps gone sent forwarded (forwards k answer ∷ later) = kept_steps gone sent (forwarded ++ forwarded_by answer (place_of gone k)) later
kept_steps gone sent forwarded (leaves k answer ∷ later) = kept_steps gone sent forwarded later
kept_steps gone sent forwarded (delivers j now ∷ later) = delivery_of (slice_get forwarded j) now ++ kept_steps gone sent forwarded later
kept_steps gone sent forwarded (pops now ∷ later) = seen.Pop now ∷ kept_steps gone sent forwarded later
kept_steps gone sent forwarded (ends ∷ later) = seen.Finish ∷ kept_steps gone sent forwarded later

-- the entries of the samples that were not left out
abbrev pub entry_unless : Bool → Option SentSample → List SentSample
entry_unless true entry = []
entry_unless false None = []
entry_unless false (Some entry) = entry ∷ []

abbrev pub kept_sends : (gone : List ℕ) → (sent : ℕ) → List Event → List SentSample
kept_sends gone sent [] = []
kept_sends gone sent (sends i entry ∷ later) = entry_unless (leaves_sample gone sent (count_of entry)) entry ++ kept_sends gone (sent + count_of entry) later
kept_sends gone sent (other ∷ later) = kept_sends gone sent later

-- the places of the datagrams that were written, after these steps
abbrev pub kept_forwarded : (gone : List ℕ) → (forwarded : List ℕ) → List Event → List ℕ
kept_forwarded gone forwarded [] = forwarded
kept_forwarded gone forwarded (forwards k answer ∷ later) = kept_forwarded gone (forwarded ++ forwarded_by answer (place_of gone k)) later
kept_forwarded gone forwarded (other ∷ later) = kept_forwarded gone forwarded later

-- the first datagrams of the samples that were left out, the highest first; `ks` are those so far
abbrev pub firsts_in : (gone : List ℕ) → (sent : ℕ) → (ks : List ℕ) → List Event → List ℕ
firsts_in gone sent ks [] = ks
firsts_in gone sent ks (sends i entry ∷ later) = firsts_in gone (sent + count_of entry) (if leaves_sample gone sent (count_of entry) then sent ∷ ks else ks) later
firsts_in gone sent ks (other ∷ later) = firsts_in gone sent ks later

-- the same for a whole run
abbrev pub gone_of : List Sample → List LeaveStep → Hops → List ℕ
gone_of samples all_steps t = gone_in [] (events_of samples all_steps t)

abbrev pub firsts_of : List Sample → List LeaveStep → Hops → List ℕ
firsts_of samples all_steps t = firsts_in (gone_of samples all_steps t) 0 [] (events_of samples all_steps t)

abbrev pub kept_steps_of : List Sample → List LeaveStep → Hops → List DatagramStep
kept_steps_of samples all_steps t = kept_steps (gone_of samples all_steps t) 0 [] (events_of samples all_steps t)

abbrev pub kept_sends_of : List Sample → List LeaveStep → Hops → List SentSample
kept_sends_of samples all_steps t = kept_sends (gone_of samples all_steps t) 0 (events_of samples all_steps t)

abbrev pub kept_forwarded_of : List Sample → List LeaveStep → Hops → List ℕ
kept_forwarded_of samples all_steps t = kept_forwarded (gone_of samples all_steps t) [] (events_of samples all_steps t)

-- The viewer's stream

-- How numbers and ids of the viewer's stream close up: the number of the sender's first datagram; what is added to the ids before all
-- pictures that are left out; and the first datagram of each picture that was left out, the highest first
pub record Offsets : Type 0 where
  pub number : ℕ
  pub ids : IdOffsets
  pub pictures : List ℕ

-- what is added to the ids of the datagram with that index: a picture id is less by the pictures that were left out before it
abbrev pub ids_at : Offsets → ℕ → IdOffsets
ids_at o k = record o.ids { picture = (o.ids.picture + 65535 * below k o.pictures) % 65536 }

-- A packet of the sender as the viewer gets it, under this number and with ids moved so: the same payload otherwise, and the same marker,
-- under the viewer's SSRC and payload type, at the viewer's time, without header extension
abbrev pub closed_packet : Forward → IdOffsets → ℕ → Packet → Packet
closed_packet f ids number p = sent_packet f.settings ids (number % 65536) (time_as f.times p.header.timestamp) p

-- its datagram
abbrev pub closed_bytes : Forward → IdOffsets → ℕ → Option Packet → List ℕ
closed_bytes f ids number None = []
closed_bytes f ids number (Some p) = packet_bytes (closed_packet f ids number p)

abbrev pub closed_datagram : Forward → IdOffsets → ℕ → List ℕ → List ℕ
closed_datagram f ids number datagram = closed_bytes f ids number (packet_read (rtp_at datagram))

-- The datagrams that were not left out, as the viewer gets them, with consecutive numbers from `number` on. The first of the datagrams has
-- the index `k`
abbrev pub closed : Forward → Offsets → (gone : List ℕ) → (k number : ℕ) → List (List ℕ) → List (List ℕ)
closed f o gone k number [] = []
closed f o gone k number (d ∷ ds) = if is_in k gone then closed f o gone (k + 1) number ds else closed_datagram f (ids_at o k) number d ∷ closed f o gone (k + 1) (number + 1) ds

-- the sender whose datagrams the viewer gets: the sender of the run, whose first number is this one
abbrev pub closed_sender : Forward → (number : ℕ) → Sending → Sending
closed_sender f number s = record (viewer_sender f s) { packetizer = s.packetizer; stream = record (viewer_stream f s.stream) { number = number % 65536 } }

-- the run over one hop from that sender to the viewer: before it, and after it
abbrev pub closed_begins : Forward → (number : ℕ) → Wire → Wire
closed_begins f number s = begins (closed_sender f number s.sending) s.session

abbrev pub closed_wire : Forward → Offsets → (gone : List ℕ) → List SentSample → Wire → Wire
closed_wire f o gone entries t = record t { sending = closed_sender f o.number t.sending; datagrams = closed f o gone 0 o.number t.datagrams; sends = entries }

-- Premises

-- the packetizer sends no ids of pictures, and its state stays
abbrev pub sends_no_ids : PacketizerState → Bool
sends_no_ids (Vp8Packetizing (Some id)) = false
sends_no_ids (Vp9Packetizing sender) = false
sends_no_ids packetizer = true

-- if the packetizer sends ids of pictures, it and the forwarder are of VP8, and payloads have room for ids of two bytes
abbrev pub AllowsIds : Forward → Sending → Type 0
AllowsIds f s = sends_no_ids s.packetizer ≡ false → (f.settings.codec ≡ codecs.Vp8) × (4 < s.mtu)

-- The forwarder has not begun with the sender's stream before the run. Of each frame all packets are left out ahead of all others, or
-- none, and the datagrams that come to the forwarder are near each other
pub record LeavesWhole (samples : List Sample) (all_steps : List LeaveStep) (s t : Hops) : Type 0 where
  pub other : is_source s.forwarder.source s.wire.sending.stream.ssrc ≡ false
  pub ids : AllowsIds s.forwarder s.wire.sending
  pub of_codec : keeps_packetizer s.forwarder.settings.codec s.wire.sending.packetizer ≡ true
  pub widths : HaveWidths s.wire.sending s.forwarder
  pub whole : AreWhole (gone_of samples all_steps t) 0 (events_of samples all_steps t)
  pub none_filled : NoneFilled (events_of samples all_steps t)
  pub near : ComeNear (came (events_of samples all_steps t))

-- all other premises are those of a run in which nothing is left out
pub record IsLeftOutWithinWindows (samples : List Sample) (all_steps : List LeaveStep) (s t : Hops) : Type 0 where
  pub leaves : LeavesWhole samples all_steps s t
  pub settings : Settings
  pub depacketizer : DepacketizerState
  pub new : session_by settings depacketizer ≡ Ok s.wire.session
  pub one_stream : AreOfOneStream (closed_sender t.forwarder 0 s.wire.sending) settings depacketizer
  pub readable : AreReadable s.wire.sending.packetizer samples
  pub within : ComeWithin settings.forward settings.backward (delivered (received_steps samples 0 (kept_steps_of samples all_steps t) (kept_sends_of samples all_steps t)))
  pub timely : ComeTimely s.wire.sending.stream.clock_rate (times_sent s.wire.sending.stream.clock_rate samples (kept_steps_of samples all_steps t) (kept_sends_of samples all_steps t))
      (delivered (received_steps samples 0 (kept_steps_of samples all_steps t) (kept_sends_of samples all_steps t)))

-- Guarantees

-- these bytes are the datagrams with these places
abbrev pub AreAt : (datagrams bytes : List (List ℕ)) → List ℕ → Type 0
AreAt datagrams [] [] = Unit {0}
AreAt datagrams [] (place ∷ places) = ⊥
AreAt datagrams (bytes ∷ more) [] = ⊥
AreAt datagrams (bytes ∷ more) (place ∷ places) = (slice_get datagrams place ≡ Some bytes) × AreAt datagrams more places

-- What is written: each written datagram is the one that was forwarded, as the viewer gets it. Numbers are consecutive, and picture ids
-- close up by one for each frame that was left out
pub record WritesKept (samples : List Sample) (all_steps : List LeaveStep) (s t : Hops) (offsets : Offsets) : Type 0 where
  pub written : AreAt (closed t.forwarder offsets (gone_of samples all_steps t) 0 offsets.number t.wire.datagrams) t.written (kept_forwarded_of samples all_steps t)
  pub pictures : sends_no_ids s.wire.sending.packetizer ≡ false → offsets.pictures ≡ firsts_of samples all_steps t

-- this applies to a run in which whole frames are left out
abbrev pub ForwardsKept : List Sample → List LeaveStep → Hops → Hops → Type 0
ForwardsKept samples all_steps s t = LeavesWhole samples all_steps s t → (offsets : Offsets) × WritesKept samples all_steps s t offsets

-- What a viewer's receiver releases: what it releases in a run over one hop from the sender whose datagrams the viewer gets. The units are
-- those of the samples that were not left out
pub record ReleasesKept (samples : List Sample) (all_steps : List LeaveStep) (s t : Hops) : Type 0 where
  pub offsets : Offsets
  pub writes : WritesKept samples all_steps s t offsets
  pub promises : KeepsPromises (viewer_samples t.forwarder s.wire.sending.stream.clock_rate samples) (kept_steps_of samples all_steps t)
      (closed_begins t.forwarder offsets.number s.wire) (closed_wire t.forwarder offsets (gone_of samples all_steps t) (kept_sends_of samples all_steps t) t.wire)
  pub canonical : map (λ (u : SentUnit). u.parts) promises.released.units
      ≡ units_of_run s.wire.sending.packetizer samples (sending_steps s.wire.sending.mtu (kept_steps_of samples all_steps t))

abbrev pub ReleasesLeavingOut : List Sample → List LeaveStep → Hops → Hops → Type 0
ReleasesLeavingOut samples all_steps s t = IsLeftOutWithinWindows samples all_steps s t → ReleasesKept samples all_steps s t

-- for every run whose forwarder leaves packets out
abbrev pub ReleaseLeavingOut : Type 0
ReleaseLeavingOut =
    (samples : List Sample) (all_steps : List LeaveStep) (sender : Sending) (forwarder : Forward) (receiver : Session) (t : Hops)
    → LeaveRuns samples all_steps (begins_forwarding sender forwarder receiver) t → ReleasesLeavingOut samples all_steps (begins_forwarding sender forwarder receiver) t

abbrev pub ForwardLeavingOut : Type 0
ForwardLeavingOut =
    (samples : List Sample) (all_steps : List LeaveStep) (sender : Sending) (forwarder : Forward) (receiver : Session) (t : Hops)
    → LeaveRuns samples all_steps (begins_forwarding sender forwarder receiver) t → ForwardsKept samples all_steps (begins_forwarding sender forwarder receiver) t
