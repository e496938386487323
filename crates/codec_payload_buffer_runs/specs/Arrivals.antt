-- The units that a buffer releases for sent packets, in whatever way they arrive, and however long each pop waits.
use Rattle.std.specs.Prelude.{◌≡◌, ◌≢◌, ℕ, ◌<◌, ◌≤◌, ◌⊎◌, Bool, List, [], ◌∷◌, ◌++◌, Option, Some, None, Err, Contains, length, map, slice_get}
use Rattle.codec_payload_base.specs.declared.error.PacketError.TheVariants as faults
use Rattle.codec_payload_buffer.specs.Steps.{State, arrived, pushed, Pops}
use Rattle.codec_payload_metadata.specs.declared.meta.RtpMeta.{RtpMeta}
use Rattle.codec_payload_buffer_runs.specs.Exact.{AnswersAll}
use Rattle.codec_payload_buffer_runs.specs.Headline.{InOrder, IsUnused}
use Rattle.codec_payload_payloader.specs.Packets.{Packet}
use Rattle.codec_payload_buffer_runs.specs.Schedule.{Answer, RunState, Runs}
use Rattle.codec_payload_payloader.specs.Sending.{Sample}
use Rattle.codec_payload_buffer_runs.specs.SentStream.{AllEndWithTail, AreReadable, SentUnit, packets_of, units_of_run}
use Rattle.codec_payload_codec.specs.Packetizers.{payloads_by, may_split}
use Rattle.codec_payload_buffer_runs.specs.declared.run.Sent.{Sent}
use Rattle.codec_payload_buffer_runs.specs.declared.run.Step.{Step}

-- an event at a buffer: a push of the packet with this index, with these facts known; or a pop, with the number of complete frames
-- that may wait for missing packets before them, or a pop that is not made
pub data Event : Type 0 where
  Arrives : ℕ → RtpMeta → Event
  Asked : Option ℕ → Event

-- a pop with that `hold_back`, or none is made
abbrev pub PopsWaiting : Option ℕ → State → Answer → State → Type 0
PopsWaiting None s answer t = (answer ≡ None) × (t ≡ s)
PopsWaiting (Some hold_back) s answer t = (answer ≢ Some (Err faults.OutOfMemory)) × Pops (record s { hold_back = hold_back }) answer t

-- the facts about a push of a packet include its number, its time and its marker
pub record Tells (clock_rate : ℕ) (q : Packet) (meta : RtpMeta) : Type 0 where
  pub number : meta.seq_no.0 ≡ q.number
  pub time : meta.time ≡ record { numer = q.rtp_time; rate = clock_rate }
  pub marker : meta.header.marker ≡ q.marker

-- the events come to a buffer, one after another
abbrev pub Meets : ℕ → List Packet → List Event → State → List Answer → State → Type 0
Meets clock_rate packets [] s answers t = (answers ≡ []) × (t ≡ s)
Meets clock_rate packets (Arrives k meta ∷ events) s answers t =
    (q : Packet) × (slice_get packets k ≡ Some q) × Tells clock_rate q meta × Meets clock_rate packets events (pushed s (arrived s.depacketizer meta q.payload)) answers t
Meets clock_rate packets (Asked wait ∷ events) s answers t =
    (answer : Answer) × (more : List Answer) × (mid : State) × (answers ≡ answer ∷ more) × PopsWaiting wait s answer mid × Meets clock_rate packets events mid more t

-- these facts are known of a push of the packet with this index
abbrev pub IsMet : ℕ → List Event → ℕ → Packet → RtpMeta → Type 0
IsMet clock_rate events k q meta = Contains events (Arrives k meta) × Tells clock_rate q meta

-- none of them is a pop
abbrev pub OnlyArrive : List Event → Type 0
OnlyArrive [] = Unit {0}
OnlyArrive (Arrives k meta ∷ events) = OnlyArrive events
OnlyArrive (Asked wait ∷ events) = ⊥

-- one of them is a push of the packet with this index
abbrev pub HasArrival : ℕ → List Event → Type 0
HasArrival n [] = ⊥
HasArrival n (Arrives k meta ∷ events) = (k ≡ n) ⊎ HasArrival n events
HasArrival n (Asked wait ∷ events) = HasArrival n events

-- each pop is made
abbrev pub AllAreMade : List Event → Type 0
AllAreMade [] = Unit {0}
AllAreMade (Arrives k meta ∷ events) = AllAreMade events
AllAreMade (Asked None ∷ events) = ⊥
AllAreMade (Asked (Some hold_back) ∷ events) = AllAreMade events

-- the buffer has room for all packets, each of them is pushed before the first pop, and each pop is made
pub record AllArriveFirst (limit : ℕ) (packets : List Packet) (events : List Event) : Type 0 where
  pub few : length packets ≤ limit
  pub before : List Event
  pub after : List Event
  pub whole : events ≡ before ++ after
  pub no_pops : OnlyArrive before
  pub each : (k : ℕ) → k < length packets → HasArrival k before
  pub made : AllAreMade after

-- the units that the run sends are released in order, each at most once, from packets that arrived; and if all arrive first, all of
-- them
pub record ReleasesArrivals (samples : List Sample) (all_steps : List Step) (s t : RunState) (events : List Event) (answers : List Answer) : Type 0 where
  pub units : List SentUnit
  pub canonical : map (λ (u : SentUnit). u.parts) units ≡ units_of_run s.payloading.packetizer samples all_steps
  pub packets : packets_of units ≡ t.sink.packets
  pub ends : AllEndWithTail (payloads_by s.payloading.packetizer) units
  pub in_order : InOrder (IsMet s.payloading.clock_rate events) (may_split s.payloading.packetizer) units 0 answers
  pub exactly : AllArriveFirst s.buffer.limit t.sink.packets events → AnswersAll (IsMet s.payloading.clock_rate events) 0 units answers

-- the theorem applies to the packets that any run of unused parts sends, in whatever way they arrive at the buffer
abbrev pub ReleaseInOrder : Type 0
ReleaseInOrder =
    (samples : List Sample) (all_steps : List Step) (s t : RunState) (sends : List Sent) (pops : List Answer) → Runs samples 0 all_steps s sends pops t → IsUnused s
    → AreReadable s.payloading.packetizer samples
    → (events : List Event) (answers : List Answer) (left : State) → Meets s.payloading.clock_rate t.sink.packets events s.buffer answers left
    → ReleasesArrivals samples all_steps s t events answers
