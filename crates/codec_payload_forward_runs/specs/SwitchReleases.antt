-- What a forwarder writes that goes over from one source to another, with any loss, repetition and order of datagrams on both hops.
use Rattle.std.specs.Prelude.{◌≡◌, ℕ, ◌+◌, ◌-◌, ◌%◌, ◌<◌, ◌≤◌, ◌^◌, nat_lt, if◌then◌else◌, max, Bool, true, false, List, [], ◌∷◌, ◌++◌, Option, Some, None, Ok, drop, slice_get}
use Rattle.std.specs.Option.{is_some}
use Rattle.codec_payload_base.specs.declared.wire.Ticks.{Ticks}
use Rattle.codec_payload_payloader.specs.Sending.{Sample}
use Rattle.codec_payload_rtp.specs.RtpPackets.{Packet}
use Rattle.codec_payload_rtp.specs.RtpReading.{rtp_at}
use Rattle.codec_payload_sending.specs.Senders.{Sending}
use Rattle.codec_payload_receiver.specs.Sessions.{Session}
use Rattle.codec_payload_sending_forward.specs.Forwarding.{Forward, IsWritten, is_source}
use Rattle.codec_payload_sending_forward.specs.Numbers.{next_number}
use Rattle.codec_payload_sending_forward.specs.Times.{later}
use Rattle.codec_payload_sending_forward.specs.declared.forwarder.Forwarded.{Forwarded}
use Rattle.codec_payload_sending_forward.specs.declared.forwarder.Forwarded.TheVariants as answers
use Rattle.codec_payload_datagram_runs.specs.Releases.{sends_after, sent_after}
use Rattle.codec_payload_datagram_runs.specs.RestartReleases.{next_above}
use Rattle.codec_payload_datagram_runs.specs.declared.run.SentSample.{SentSample}
use Rattle.codec_payload_forward_runs.specs.ForwardReleases.{viewer_packet}
use Rattle.codec_payload_forward_runs.specs.LeaveReleases.{ComeNear}
use Rattle.codec_payload_forward_runs.specs.SwitchRuns.{SwitchRuns, Switched, begins_switching}
use Rattle.codec_payload_forward_runs.specs.declared.run.ForwardStep.TheVariants as plain
use Rattle.codec_payload_forward_runs.specs.declared.switch_run.Source.{Source}
use Rattle.codec_payload_forward_runs.specs.declared.switch_run.Source.TheVariants as sources
use Rattle.codec_payload_forward_runs.specs.declared.switch_run.SwitchStep.{SwitchStep}
use Rattle.codec_payload_forward_runs.specs.declared.switch_run.SwitchStep.TheVariants as steps

-- What happened in a run

-- What happened to forwarder and viewer: the forwarder wanted a source; a datagram of a source came to it, with the answer; a written
-- datagram was to be delivered; a pop; the end of the stream
pub data Event : Type 0 where
  wants : (ssrc : ℕ) → Event
  forwards : (source : Source) (datagram : ℕ) (answer : Forwarded) → Event
  delivers : (written : ℕ) (now : Ticks) → Event
  pops : (now : Ticks) → Event
  ends : Event

-- a source in front of some steps: how many datagrams it has sent, and the results of its later sends
pub record Ahead : Type 0 where
  pub sent : ℕ
  pub entries : List SentSample

abbrev pub sends_on : List Sample → ℕ → Ahead → Ahead
sends_on samples i a = record { sent = sent_after a.sent (slice_get samples i) a.entries; entries = sends_after (slice_get samples i) a.entries }

-- what happened to this datagram, by the first of these answers
abbrev pub by_first : Source → ℕ → List Forwarded → List Event
by_first source k [] = []
by_first source k (answer ∷ answers) = forwards source k answer ∷ []

-- What happened in these steps. `results` has the answers of the forwarder. A step that names no datagram is skipped
abbrev pub events : List Sample → (first second : Ahead) → List SwitchStep → (results : List Forwarded) → List Event
events samples a b [] results = []
events samples a b (steps.Want ssrc ∷ later) results = wants ssrc ∷ events samples a b later results
events samples a b (steps.Of sources.First (plain.Send i) ∷ later) results = events samples (sends_on samples i a) b later results
events samples a b (steps.Of sources.Second (plain.Send i) ∷ later) results = events samples a (sends_on samples i b) later results
events samples a b (steps.Of sources.First (plain.Forward k now) ∷ later) results =
    if nat_lt k a.sent then by_first sources.First k results ++ events samples a b later (drop 1 results) else events samples a b later results
events samples a b (steps.Of sources.Second (plain.Forward k now) ∷ later) results =
    if nat_lt k b.sent then by_first sources.Second k results ++ events samples a b later (drop 1 results) else events samples a b later results
events samples a b (steps.Of source (plain.Deliver j now) ∷ later) results = delivers j now ∷ events samples a b later results
events samples a b (steps.Of source (plain.Pop now) ∷ later) results = pops now ∷ events samples a b later results
events samples a b (steps.Of source plain.Finish ∷ later) results = ends ∷ events samples a b later results

-- the same for a whole run
abbrev pub events_of : List Sample → List SwitchStep → Switched → List Event
events_of samples all_steps t = events samples (record { sent = 0; entries = t.hops.wire.sends }) (record { sent = 0; entries = t.sends }) all_steps t.hops.answers

-- What was written

-- which datagram of which source was written, and whether the forwarder began with it
pub record Writing : Type 0 where
  pub source : Source
  pub datagram : ℕ
  pub begins : Bool

abbrev pub writing_of : Source → ℕ → Forwarded → List Writing
writing_of source k answers.Began = record { source = source; datagram = k; begins = true } ∷ []
writing_of source k answers.Written = record { source = source; datagram = k; begins = false } ∷ []
writing_of source k answers.NoKeyframe = []
writing_of source k answers.OtherSource = []
writing_of source k answers.TooOld = []
writing_of source k answers.LeftOut = []
writing_of source k answers.Filled = []

abbrev pub writings : List Event → List Writing
writings [] = []
writings (wants ssrc ∷ later) = writings later
writings (forwards source k answer ∷ later) = writing_of source k answer ++ writings later
writings (delivers j now ∷ later) = writings later
writings (pops now ∷ later) = writings later
writings (ends ∷ later) = writings later

-- Numbers and times

-- How far the viewer's stream is, in numbers that do not wrap: the source since the last switch, and the forwarder with the offsets since
-- then; the first number since then, and the highest number so far; the latest time; and whether anything was written
pub record Reached : Type 0 where
  pub source : Option Source
  pub forwarder : Forward
  pub lowest : ℕ
  pub top : ℕ
  pub latest : ℕ
  pub wrote : Bool

-- before a run of a forwarder that forwards neither source
abbrev pub reached_by : Forward → Reached
reached_by f = record { source = None; forwarder = f; lowest = next_number f.numbers + 65536; top = next_number f.numbers + 65535; latest = f.times.highest; wrote = is_some f.written_at }

-- The forwarder goes over to a source with this packet: the packet has the number after the highest one so far, and a time that is later by
-- some ticks, or equal if nothing was written before
pub record Switches (source : Source) (p : Packet) (r t : Reached) : Type 0 where
  pub source_is : t.source ≡ Some source
  pub settings : t.forwarder.settings ≡ r.forwarder.settings
  pub lowest : t.lowest ≡ r.top + 1
  pub top : t.top ≡ r.top + 1
  pub ticks : ℕ
  pub few : ticks < 2 ^ 31
  pub some : r.wrote ≡ true → 0 < ticks
  pub latest : t.latest ≡ (r.latest + ticks) % 2 ^ 32
  pub wrote : t.wrote ≡ true
  pub number : (viewer_packet t.forwarder p).header.sequence_number ≡ t.top % 65536
  pub time : (viewer_packet t.forwarder p).header.timestamp ≡ t.latest

-- A later packet is of the same source, and keeps the offsets. Its number is not below the first one since the switch, at most 32,768 above the highest one so far,
-- and less than 32,768 below
pub record Continues (source : Source) (p : Packet) (r t : Reached) : Type 0 where
  pub source_is : r.source ≡ Some source
  pub number : ℕ
  pub low : (viewer_packet r.forwarder p).header.sequence_number ≡ number % 65536
  pub after_switch : r.lowest ≤ number
  pub below : number ≤ r.top + 32768
  pub above : r.top < number + 32768
  pub goes_on : t ≡ record r { top = max r.top number; latest = later r.latest (viewer_packet r.forwarder p).header.timestamp }

abbrev pub Reaches : (begins : Bool) → Source → Packet → Reached → Reached → Type 0
Reaches true source p r t = Switches source p r t
Reaches false source p r t = Continues source p r t

-- the packet of a datagram of one of the sources
abbrev pub datagrams_of : Source → (first second : List (List ℕ)) → List (List ℕ)
datagrams_of sources.First first second = first
datagrams_of sources.Second first second = second

abbrev pub IsPacketAt : List (List ℕ) → ℕ → Packet → Type 0
IsPacketAt datagrams k p = (datagram : List ℕ) × (slice_get datagrams k ≡ Some datagram) × (rtp_at datagram ≡ Ok p)

-- Each written datagram is the viewer's packet of the datagram that was forwarded, byte for byte
abbrev pub AreWritten : (first second : List (List ℕ)) → Reached → List Writing → List (List ℕ) → Type 0
AreWritten first second r [] [] = Unit {0}
AreWritten first second r [] (bytes ∷ more) = ⊥
AreWritten first second r (w ∷ ws) [] = ⊥
AreWritten first second r (w ∷ ws) (bytes ∷ more) =
    (p : Packet) × (next : Reached) × IsPacketAt (datagrams_of w.source first second) w.datagram p × Reaches w.begins w.source p r next
    × IsWritten (viewer_packet next.forwarder p) bytes × AreWritten first second next ws more

-- The sources have different SSRCs, and the forwarder has begun with neither before the run
pub record AreTwoSources (s : Switched) : Type 0 where
  pub differ : s.hops.wire.sending.stream.ssrc ≡ s.second.stream.ssrc → ⊥
  pub not_first : is_source s.hops.forwarder.source s.hops.wire.sending.stream.ssrc ≡ false
  pub not_second : is_source s.hops.forwarder.source s.second.stream.ssrc ≡ false

abbrev pub ForwardsSwitching : List Sample → List SwitchStep → Switched → Switched → Type 0
ForwardsSwitching samples all_steps s t =
    AreTwoSources s → AreWritten t.hops.wire.datagrams t.datagrams (reached_by s.hops.forwarder) (writings (events_of samples all_steps t)) t.hops.written

-- for every run with two sources
abbrev pub ForwardSwitching : Type 0
ForwardSwitching =
    (samples : List Sample) (all_steps : List SwitchStep) (first second : Sending) (forwarder : Forward) (receiver : Session) (t : Switched)
    → SwitchRuns samples all_steps (begins_switching first second forwarder receiver) t → ForwardsSwitching samples all_steps (begins_switching first second forwarder receiver) t

-- One switch: the viewer's stream

-- the sources with which the forwarder begins, in order
abbrev pub begun_with : List Writing → List Source
begun_with [] = []
begun_with (w ∷ ws) = if w.begins then w.source ∷ begun_with ws else begun_with ws

-- the datagrams of a source that were written, in order
abbrev pub of_source : (wanted source : Source) → ℕ → List ℕ
of_source sources.First sources.First k = k ∷ []
of_source sources.First sources.Second k = []
of_source sources.Second sources.First k = []
of_source sources.Second sources.Second k = k ∷ []

abbrev pub written_of : Source → List Writing → List ℕ
written_of source [] = []
written_of source (w ∷ ws) = of_source source w.source w.datagram ++ written_of source ws

-- how many datagrams of the first source are in front of the switch: up to the highest one that was written
abbrev pub cut_of : List Writing → ℕ
cut_of ws = next_above 0 0 (written_of sources.First ws)

-- the datagram of the second source with which the forwarder goes over
abbrev pub first_in : List ℕ → ℕ
first_in [] = 0
first_in (k ∷ ks) = k

abbrev pub start_of : List Writing → ℕ
start_of ws = first_in (written_of sources.Second ws)

-- the place of a datagram in the viewer's stream: the datagrams of the first source up to the switch, and then those of the second
-- from `start` on
abbrev pub place_in : Source → (cut start : ℕ) → ℕ → ℕ
place_in sources.First cut start k = k
place_in sources.Second cut start k = cut + (k - start)

abbrev pub IsInStream : Source → (cut start : ℕ) → ℕ → Type 0
IsInStream sources.First cut start k = k < cut
IsInStream sources.Second cut start k = start ≤ k

-- the offsets for a source: before the switch, or after it
abbrev pub offsets_in : Source → (before after : Forward) → Forward
offsets_in sources.First before after = before
offsets_in sources.Second before after = after

-- each written datagram is in the viewer's stream, and has the number of its place: the first place has the number `number`
abbrev pub AreInPlace : (first second : List (List ℕ)) → (before after : Forward) → (number cut start : ℕ) → List Writing → List (List ℕ) → Type 0
AreInPlace first second before after number cut start [] [] = Unit {0}
AreInPlace first second before after number cut start [] (bytes ∷ more) = ⊥
AreInPlace first second before after number cut start (w ∷ ws) [] = ⊥
AreInPlace first second before after number cut start (w ∷ ws) (bytes ∷ more) =
    (p : Packet) × IsPacketAt (datagrams_of w.source first second) w.datagram p × IsWritten (viewer_packet (offsets_in w.source before after) p) bytes × IsInStream w.source cut start w.datagram
    × ((viewer_packet (offsets_in w.source before after) p).header.sequence_number ≡ (number + place_in w.source cut start w.datagram) % 65536)
    × AreInPlace first second before after number cut start ws more

-- The forwarder begins with the first source, and then with the second, and no more. Of each source the written datagrams are near the
-- highest one before
pub record SwitchesOnce (ws : List Writing) : Type 0 where
  pub begun : begun_with ws ≡ sources.First ∷ sources.Second ∷ []
  pub first_near : ComeNear (written_of sources.First ws)
  pub second_near : ComeNear (written_of sources.Second ws)

-- what is written is one stream
pub record IsOneStream (first second : List (List ℕ)) (f : Forward) (ws : List Writing) (written : List (List ℕ)) : Type 0 where
  pub before : Forward
  pub after : Forward
  pub before_settings : before.settings ≡ f.settings
  pub after_settings : after.settings ≡ f.settings
  pub number : ℕ
  pub in_place : AreInPlace first second before after number (cut_of ws) (start_of ws) ws written

-- this applies to a run with one switch
abbrev pub WritesOneStream : List Sample → List SwitchStep → Switched → Switched → Type 0
WritesOneStream samples all_steps s t =
    AreTwoSources s → SwitchesOnce (writings (events_of samples all_steps t))
    → IsOneStream t.hops.wire.datagrams t.datagrams s.hops.forwarder (writings (events_of samples all_steps t)) t.hops.written

-- for every run with two sources
abbrev pub WriteOneStream : Type 0
WriteOneStream =
    (samples : List Sample) (all_steps : List SwitchStep) (first second : Sending) (forwarder : Forward) (receiver : Session) (t : Switched)
    → SwitchRuns samples all_steps (begins_switching first second forwarder receiver) t → WritesOneStream samples all_steps (begins_switching first second forwarder receiver) t
