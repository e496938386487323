-- The units that a viewer's receiver releases behind a forwarder that goes over between two sources any number of times, and back, each time
-- between two frames.
--
-- The forwarder writes one stream of stretches, one after another. A stretch has the datagrams of one source, from the one on with which the
-- forwarder begins, up to the highest one that is written before the next switch; the last stretch has all that follow. So the viewer's
-- receiver sees the datagrams of one sender. It sends the samples of each stretch in turn, at the viewer's times. Premises and guarantees are
-- those of a run over one hop from that sender.
use Rattle.std.specs.Prelude.{◌≡◌, ℕ, ◌+◌, ◌-◌, ◌%◌, ◌<◌, ◌≤◌, ◌^◌, if◌then◌else◌, max, Bool, true, false, List, [], ◌∷◌, ◌++◌, Ok, drop, length, map, slice_get, take}
use Rattle.codec_payload_buffer_runs.specs.SentStream.{AreReadable, SentUnit}
use Rattle.codec_payload_codec.specs.Depacketizers.{DepacketizerState}
use Rattle.codec_payload_payloader.specs.Sending.{Sample}
use Rattle.codec_payload_receiver.specs.Sessions.{Session, session_by}
use Rattle.codec_payload_receiver.specs.declared.receiver.Settings.{Settings}
use Rattle.codec_payload_sending.specs.Senders.{Sending}
use Rattle.codec_payload_sending_forward.specs.Forwarding.{Forward}
use Rattle.codec_payload_datagram_runs.specs.HistoryReleases.{delivery_of}
use Rattle.codec_payload_datagram_runs.specs.Releases.{AreOfOneStream, ComeTimely, ComeWithin, delivered, received_steps, times_sent}
use Rattle.codec_payload_datagram_runs.specs.WireLogs.{KeepsPromises}
use Rattle.codec_payload_datagram_runs.specs.WireRuns.{Wire, begins}
use Rattle.codec_payload_datagram_runs.specs.declared.run.DatagramStep.{DatagramStep}
use Rattle.codec_payload_datagram_runs.specs.declared.run.DatagramStep.TheVariants as seen
use Rattle.codec_payload_forward_runs.specs.ForwardReleases.{HaveWidths, viewer_datagram, viewer_samples, viewer_sender}
use Rattle.codec_payload_forward_runs.specs.LeaveReleases.{AreAt}
use Rattle.codec_payload_forward_runs.specs.SwitchReleases.{AreTwoSources, Event, Writing, datagrams_of, delivers, ends, events_of, forwards, pops, wants, writing_of}
use Rattle.codec_payload_forward_runs.specs.SwitchRuns.{SwitchRuns, Switched, begins_switching}
use Rattle.codec_payload_forward_runs.specs.SwitchUnits.{NoneAcross, SendAlike, Sent, all_below, entries_in, first_sent, none_below, samples_in, second_sent, send_each, units_of_sent, writings_of}
use Rattle.codec_payload_forward_runs.specs.declared.switch_run.Source.{Source}
use Rattle.codec_payload_forward_runs.specs.declared.switch_run.Source.TheVariants as sources
use Rattle.codec_payload_forward_runs.specs.declared.switch_run.SwitchStep.{SwitchStep}

-- Stretches

-- A stretch of the viewer's stream: the datagrams of a source from `first` on, up to `past`, which is not in it. Its first datagram has the
-- place `base` in the viewer's stream
pub record Stretch : Type 0 where
  pub source : Source
  pub base : ℕ
  pub first : ℕ
  pub past : ℕ

-- before anything is written
abbrev pub no_stretch : Stretch
no_stretch = record { source = sources.First; base = 0; first = 0; past = 0 }

-- The present stretch after a datagram was written. The forwarder begins a new stretch with it, behind the present one; or the datagram is of
-- the present one
abbrev pub stretch_after : (begins : Bool) → Source → (datagram : ℕ) → Stretch → Stretch
stretch_after true source k g = record { source = source; base = g.base + (g.past - g.first); first = k; past = k + 1 }
stretch_after false source k g = record g { past = max g.past (k + 1) }

-- the same after several
abbrev pub stretch_in : Stretch → List Writing → Stretch
stretch_in g [] = g
stretch_in g (w ∷ ws) = stretch_in (stretch_after w.begins w.source w.datagram g) ws

-- the place of a datagram of a stretch in the viewer's stream
abbrev pub place_of : Stretch → ℕ → ℕ
place_of g k = g.base + (k - g.first)

-- the places of the datagrams that were written, behind those of the present stretch
abbrev pub places_from : Stretch → List Writing → List ℕ
places_from g [] = []
places_from g (w ∷ ws) = place_of (stretch_after w.begins w.source w.datagram g) w.datagram ∷ places_from (stretch_after w.begins w.source w.datagram g) ws

-- The present stretch and those behind it. The last one has all later datagrams of its source
abbrev pub stretches_from : (first second : List (List ℕ)) → Stretch → List Writing → List Stretch
stretches_from first second g [] = record g { past = length (datagrams_of g.source first second) } ∷ []
stretches_from first second g (w ∷ ws) = (if w.begins then g ∷ [] else []) ++ stretches_from first second (stretch_after w.begins w.source w.datagram g) ws

-- all of them
abbrev pub stretches : (first second : List (List ℕ)) → List Writing → List Stretch
stretches first second [] = []
stretches first second (w ∷ ws) = stretches_from first second (stretch_after w.begins w.source w.datagram no_stretch) ws

-- Each datagram of a stretch that is written is less than 32,768 above the highest one of the stretch before it, and less than 32,768 below
abbrev pub IsNear : (begins : Bool) → (datagram : ℕ) → Stretch → Type 0
IsNear true k g = Unit {0}
IsNear false k g = (k + 1 < g.past + 32768) × (g.past < k + 1 + 32768)

abbrev pub AreNear : Stretch → List Writing → Type 0
AreNear g [] = Unit {0}
AreNear g (w ∷ ws) = IsNear w.begins w.datagram g × AreNear (stretch_after w.begins w.source w.datagram g) ws

-- how many datagrams these stretches have
abbrev pub count_in : List Stretch → ℕ
count_in [] = 0
count_in (g ∷ gs) = (g.past - g.first) + count_in gs

abbrev pub stretches_of : List Sample → List SwitchStep → Switched → List Stretch
stretches_of samples all_steps t = stretches t.hops.wire.datagrams t.datagrams (writings_of samples all_steps t)

abbrev pub places_of_all : List Sample → List SwitchStep → Switched → List ℕ
places_of_all samples all_steps t = places_from no_stretch (writings_of samples all_steps t)

-- What the sources sent in them

abbrev pub sender_of : Source → Switched → Sending
sender_of sources.First s = s.hops.wire.sending
sender_of sources.Second s = s.second

abbrev pub sent_by : Source → List Sample → List SwitchStep → Switched → List Sent
sent_by sources.First samples all_steps t = first_sent samples all_steps t
sent_by sources.Second samples all_steps t = second_sent samples all_steps t

-- the samples whose datagrams are all in a stretch
abbrev pub sent_in_stretch : List Sample → List SwitchStep → Switched → Stretch → List Sent
sent_in_stretch samples all_steps t g = all_below g.past g.first (none_below g.first 0 (sent_by g.source samples all_steps t))

abbrev pub sent_in_all : List Sample → List SwitchStep → Switched → List Stretch → List Sent
sent_in_all samples all_steps t [] = []
sent_in_all samples all_steps t (g ∷ gs) = sent_in_stretch samples all_steps t g ++ sent_in_all samples all_steps t gs

-- the canonical units of these samples
abbrev pub units_in_all : List Sample → List SwitchStep → (s t : Switched) → List Stretch → List (List (List ℕ))
units_in_all samples all_steps s t [] = []
units_in_all samples all_steps s t (g ∷ gs) =
    units_of_sent (sender_of g.source s).packetizer (sender_of g.source s).mtu (sent_in_stretch samples all_steps t g) ++ units_in_all samples all_steps s t gs

-- the datagrams of a stretch
abbrev pub datagrams_in : (first second : List (List ℕ)) → Stretch → List (List ℕ)
datagrams_in first second g = drop g.first (take g.past (datagrams_of g.source first second))

-- The viewer's stream

-- a stretch as the viewer gets it: with the offsets that the forwarder has in it
pub record ViewedStretch : Type 0 where
  pub stretch : Stretch
  pub forwarder : Forward

abbrev pub stretches_in : List ViewedStretch → List Stretch
stretches_in vs = map (λ (v : ViewedStretch). v.stretch) vs

-- the samples, at the viewer's times
abbrev pub samples_viewed : List Sample → List SwitchStep → (rate : ℕ) → Switched → List ViewedStretch → List Sample
samples_viewed samples all_steps rate t [] = []
samples_viewed samples all_steps rate t (v ∷ vs) = viewer_samples v.forwarder rate (samples_in (sent_in_stretch samples all_steps t v.stretch)) ++ samples_viewed samples all_steps rate t vs

-- the datagrams
abbrev pub datagrams_viewed : (first second : List (List ℕ)) → List ViewedStretch → List (List ℕ)
datagrams_viewed first second [] = []
datagrams_viewed first second (v ∷ vs) = map (viewer_datagram v.forwarder) (datagrams_in first second v.stretch) ++ datagrams_viewed first second vs

abbrev pub number_in : Source → (first second : ℕ) → ℕ
number_in sources.First first second = first
number_in sources.Second first second = second

-- A stretch of the viewer's stream, at this place: it has datagrams, which were all sent, and its first datagram has the number of its place.
-- `number` is the number of the first place; `first_number` and `second_number` are the numbers of the first datagrams of the sources
pub record IsViewed (first second : List (List ℕ)) (first_number second_number number : ℕ) (f : Forward) (place : ℕ) (v : ViewedStretch) : Type 0 where
  pub settings : v.forwarder.settings ≡ f.settings
  pub base : v.stretch.base ≡ place
  pub some : v.stretch.first < v.stretch.past
  pub sent : v.stretch.past ≤ length (datagrams_of v.stretch.source first second)
  pub number_is : (number_in v.stretch.source first_number second_number + v.stretch.first + v.forwarder.numbers.offset) % 65536 ≡ (number + place) % 65536

-- each stretch comes right behind the one in front of it; the first of these is at `place`
abbrev pub AreViewed : (first second : List (List ℕ)) → (first_number second_number number : ℕ) → Forward → (place : ℕ) → List ViewedStretch → Type 0
AreViewed first second first_number second_number number f place [] = Unit {0}
AreViewed first second first_number second_number number f place (v ∷ vs) =
    IsViewed first second first_number second_number number f place v
    × AreViewed first second first_number second_number number f (place + (v.stretch.past - v.stretch.first)) vs

-- what is written is this stream: each written datagram is the one at its place
pub record IsStreamOf (first second : List (List ℕ)) (first_number second_number : ℕ) (f : Forward) (ws : List Writing) (bytes : List (List ℕ)) : Type 0 where
  pub number : ℕ
  pub viewed : List ViewedStretch
  pub are : stretches_in viewed ≡ stretches first second ws
  pub all : AreViewed first second first_number second_number number f 0 viewed
  pub written : AreAt (datagrams_viewed first second viewed) bytes (places_from no_stretch ws)

-- the same for a whole run
abbrev pub StretchesOf : List Sample → List SwitchStep → Switched → Switched → Type 0
StretchesOf samples all_steps s t =
    IsStreamOf t.hops.wire.datagrams t.datagrams s.hops.wire.sending.stream.number s.second.stream.number s.hops.forwarder (writings_of samples all_steps t) t.hops.written

abbrev pub WritesStretches : List Sample → List SwitchStep → Switched → Switched → Type 0
WritesStretches samples all_steps s t = AreTwoSources s → AreNear no_stretch (writings_of samples all_steps t) → StretchesOf samples all_steps s t

-- for every run with two sources
abbrev pub WriteStretches : Type 0
WriteStretches =
    (samples : List Sample) (all_steps : List SwitchStep) (first second : Sending) (forwarder : Forward) (receiver : Session) (t : Switched)
    → SwitchRuns samples all_steps (begins_switching first second forwarder receiver) t → WritesStretches samples all_steps (begins_switching first second forwarder receiver) t

-- The run over one hop

-- What the viewer's receiver does: each delivery of a written datagram is the delivery of the datagram at its place. `places` has the
-- places of the datagrams that were written so far, and `g` is the present stretch
abbrev pub steps_viewed : Stretch → (places : List ℕ) → List Event → List DatagramStep
steps_viewed g places [] = []
steps_viewed g places (wants ssrc ∷ later) = steps_viewed g places later
steps_viewed g places (forwards source k answer ∷ later) = steps_viewed (stretch_in g (writing_of source k answer)) (places ++ places_from g (writing_of source k answer)) later
steps_viewed g places (delivers j now ∷ later) = delivery_of (slice_get places j) now ++ steps_viewed g places later
steps_viewed g places (pops now ∷ later) = seen.Pop now ∷ steps_viewed g places later
steps_viewed g places (ends ∷ later) = seen.Finish ∷ steps_viewed g places later

abbrev pub steps_viewed_of : List Sample → List SwitchStep → Switched → List DatagramStep
steps_viewed_of samples all_steps t = steps_viewed no_stretch [] (events_of samples all_steps t)

-- all samples are sent in front of the receiver's steps
abbrev pub all_sent : List Sample → List SwitchStep → Switched → List Sent
all_sent samples all_steps t = sent_in_all samples all_steps t (stretches_of samples all_steps t)

abbrev pub all_steps_of : List Sample → List SwitchStep → Switched → List DatagramStep
all_steps_of samples all_steps t = send_each 0 (all_sent samples all_steps t) ++ steps_viewed_of samples all_steps t

-- The sender whose datagrams the viewer gets: its first datagram has the number of the first place
abbrev pub numbered_from : ℕ → Sending → Sending
numbered_from number v = record v { stream = record v.stream { number = number % 65536 } }

abbrev pub sender_viewed : (number : ℕ) → Switched → Sending
sender_viewed number s = numbered_from number (viewer_sender s.hops.forwarder s.hops.wire.sending)

-- the run from that sender, before it and after it. What the sender is after it does not matter
abbrev pub wire_before : (number : ℕ) → Switched → Wire
wire_before number s = begins (sender_viewed number s) s.hops.wire.session

abbrev pub wire_after : List Sample → List SwitchStep → (number : ℕ) → List ViewedStretch → (s t : Switched) → Wire
wire_after samples all_steps number viewed s t = record t.hops.wire {
  sending = sender_viewed number s;
  datagrams = datagrams_viewed t.hops.wire.datagrams t.datagrams viewed;
  sends = entries_in (all_sent samples all_steps t);
}

-- Premises

-- no frame has datagrams in a stretch and outside of it
abbrev pub AreBetweenFrames : List Sample → List SwitchStep → Switched → List Stretch → Type 0
AreBetweenFrames samples all_steps t [] = Unit {0}
AreBetweenFrames samples all_steps t (g ∷ gs) =
    NoneAcross g.first 0 (sent_by g.source samples all_steps t) × NoneAcross g.past 0 (sent_by g.source samples all_steps t) × AreBetweenFrames samples all_steps t gs

-- The forwarder begins with each source, and goes over, between two frames, and the sources send alike. The receiver is new, for the viewer's
-- stream; the samples can be read again; and all datagrams that are delivered to the receiver are within its windows, and timely: by the
-- viewer's times, also across switches. The forwarder may get any datagrams, in any order
pub record AreStretchesWithinWindows (samples : List Sample) (all_steps : List SwitchStep) (s t : Switched) : Type 0 where
  pub two : AreTwoSources s
  pub near : AreNear no_stretch (writings_of samples all_steps t)
  pub between : AreBetweenFrames samples all_steps t (stretches_of samples all_steps t)
  pub alike : SendAlike s.hops.forwarder.settings.codec s.hops.wire.sending s.second
  pub widths : HaveWidths s.hops.wire.sending s.hops.forwarder
  -- the viewer's stream has fewer than 2^63 datagrams
  pub few : count_in (stretches_of samples all_steps t) < 2 ^ 63
  pub settings : Settings
  pub depacketizer : DepacketizerState
  pub new : session_by settings depacketizer ≡ Ok s.hops.wire.session
  pub one_stream : AreOfOneStream (viewer_sender s.hops.forwarder s.hops.wire.sending) settings depacketizer
  pub readable : AreReadable s.hops.wire.sending.packetizer samples
  pub within : ComeWithin settings.forward settings.backward (delivered (steps_viewed_of samples all_steps t))
  pub timely : (stream : StretchesOf samples all_steps s t)
      → ComeTimely s.hops.wire.sending.stream.clock_rate
      (times_sent s.hops.wire.sending.stream.clock_rate (samples_viewed samples all_steps s.hops.wire.sending.stream.clock_rate t stream.viewed) (all_steps_of samples all_steps t) (entries_in (all_sent samples all_steps t)))
      (delivered (steps_viewed_of samples all_steps t))

-- Guarantees

-- What a viewer's receiver releases: what it releases in a run over one hop from the sender whose datagrams the viewer gets. Each written
-- datagram is the one at its place in the viewer's stream, and the receiver's steps are those of the run. The units are those of the samples
-- of each stretch in turn
pub record ReleasesStretches (samples : List Sample) (all_steps : List SwitchStep) (s t : Switched) : Type 0 where
  pub stream : StretchesOf samples all_steps s t
  pub received : received_steps (samples_viewed samples all_steps s.hops.wire.sending.stream.clock_rate t stream.viewed) 0 (all_steps_of samples all_steps t) (entries_in (all_sent samples all_steps t))
      ≡ steps_viewed_of samples all_steps t
  pub promises : KeepsPromises (samples_viewed samples all_steps s.hops.wire.sending.stream.clock_rate t stream.viewed) (all_steps_of samples all_steps t) (wire_before stream.number s)
      (wire_after samples all_steps stream.number stream.viewed s t)
  pub canonical : map (λ (u : SentUnit). u.parts) promises.released.units ≡ units_in_all samples all_steps s t (stretches_of samples all_steps t)

abbrev pub ReleasesAllStretches : List Sample → List SwitchStep → Switched → Switched → Type 0
ReleasesAllStretches samples all_steps s t = AreStretchesWithinWindows samples all_steps s t → ReleasesStretches samples all_steps s t

-- for every run with two sources
abbrev pub ReleaseAllStretches : Type 0
ReleaseAllStretches =
    (samples : List Sample) (all_steps : List SwitchStep) (first second : Sending) (forwarder : Forward) (receiver : Session) (t : Switched)
    → SwitchRuns samples all_steps (begins_switching first second forwarder receiver) t → ReleasesAllStretches samples all_steps (begins_switching first second forwarder receiver) t
