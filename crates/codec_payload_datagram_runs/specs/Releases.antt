-- The units that a run over datagrams releases, with any loss, repetition and order of its datagrams.
use Rattle.std.specs.Prelude.{◌≡◌, ℕ, ◌+◌, ◌-◌, ◌*◌, ◌%◌, ◌^◌, ◌<◌, ◌≤◌, ◌⊎◌, ◌==◌, ◌&&◌, nat_lt, max, if◌then◌else◌, Bool, true}
use Rattle.std.specs.Prelude.{false, List, [], ◌∷◌, ◌++◌, Option, Some, None, Ok, Err, Contains, length, map, replicate, slice_get, slice_index_or, refl}
use Rattle.std.proofs.Common.{lit<, lit≤}
use Rattle.codec_payload_base.specs.declared.wire.Ticks.{Ticks}
use Rattle.codec_payload_base.specs.declared.wire.extension.ExtensionValues.{ExtensionValues}
use Rattle.codec_payload_codec.specs.Depacketizers.{DepacketizerState, kind_of_depacketizer}
use Rattle.codec_payload_codec.specs.Packetizers.{is_built_in, is_video, payloads_by, may_split}
use Rattle.codec_payload_metadata.specs.Release.{AreValues, Release}
use Rattle.codec_payload_metadata.specs.declared.meta.RtpMeta.{RtpMeta}
use Rattle.codec_payload_buffer_runs.specs.Arrivals.{Tells}
use Rattle.codec_payload_buffer_runs.specs.Exact.{AnswersAll}
use Rattle.codec_payload_buffer_runs.specs.Headline.{InOrder}
use Rattle.codec_payload_buffer_runs.specs.RunUnits.{IsWholeAt}
use Rattle.codec_payload_buffer_runs.specs.RunValues.{values_of_run}
use Rattle.codec_payload_buffer_runs.specs.Schedule.{Answer}
use Rattle.codec_payload_payloader.specs.Packets.{Packet}
use Rattle.codec_payload_payloader.specs.Sending.{Sample, rtp_time_at}
use Rattle.codec_payload_buffer_runs.specs.SentStream.{AllEndWithTail, AreReadable, SentUnit, packets_of, units_of_run}
use Rattle.codec_payload_buffer_runs.specs.ReportedIds.{read_by}
use Rattle.codec_payload_buffer_runs.specs.declared.run.Step.{Step}
use Rattle.codec_payload_buffer_runs.specs.declared.run.Step.TheVariants as run_steps
use Rattle.codec_payload_rtp.specs.ExtensionFormats.{elements_of, values_in}
use Rattle.codec_payload_rtp.specs.ExtensionWriting.{FitsValues, elements_for, extension_for, ids_fit, values_told}
use Rattle.codec_payload_rtp.specs.RtpReading.{rtp_at}
use Rattle.codec_payload_rtp.specs.declared.values.ExtensionIds.{ExtensionIds}
use Rattle.codec_payload_sending.specs.Datagrams.{header_with}
use Rattle.codec_payload_sending.specs.Senders.{Sending}
use Rattle.codec_payload_sending.specs.declared.sender.Outgoing.{Outgoing}
use Rattle.codec_payload_receiver.specs.UnitGates.{drops_units}
use Rattle.codec_payload_receiver.specs.Sessions.{Session, session_by}
use Rattle.codec_payload_datagrams.specs.declared.kinds.Retransmission.{Retransmission}
use Rattle.codec_payload_receiver.specs.declared.receiver.Settings.{Settings}
use Rattle.codec_payload_datagram_runs.specs.WireRuns.{Runs, Wire, begins}
use Rattle.codec_payload_datagram_runs.specs.declared.run.DatagramStep.{DatagramStep}
use Rattle.codec_payload_datagram_runs.specs.declared.run.DatagramStep.TheVariants as steps
use Rattle.codec_payload_datagram_runs.specs.declared.run.SentSample.{SentSample}

-- Sending

-- the steps that send, as steps of `run_schedule` at this MTU
abbrev pub sending_steps : ℕ → List DatagramStep → List Step
sending_steps mtu [] = []
sending_steps mtu (steps.Send i ∷ later) = run_steps.Send i mtu ∷ sending_steps mtu later
sending_steps mtu (steps.Deliver k now ∷ later) = sending_steps mtu later
sending_steps mtu (steps.Pop now ∷ later) = sending_steps mtu later
sending_steps mtu (steps.Finish ∷ later) = sending_steps mtu later

-- the datagram reads as this packet of the stream: its payload, marker, time and values, and the low bits of its number
abbrev pub ReadsAs : Outgoing → Packet → List ℕ → Type 0
ReadsAs stream q datagram =
    rtp_at datagram ≡ Ok (record { header = header_with stream (record { marker = q.marker; number = q.number % 2 ^ 16; time = q.rtp_time }) q.ext_vals; payload = q.payload; padding = 0 })

-- each datagram reads as its packet
abbrev pub AreDatagrams : Outgoing → List Packet → List (List ℕ) → Type 0
AreDatagrams stream [] [] = Unit {0}
AreDatagrams stream (q ∷ packets) (datagram ∷ datagrams) = ReadsAs stream q datagram × AreDatagrams stream packets datagrams
AreDatagrams stream [] (datagram ∷ datagrams) = ⊥
AreDatagrams stream (q ∷ packets) [] = ⊥

-- Receiving

-- how many datagrams were sent after a `Send` of this sample, if there is one, and the remaining entries
abbrev pub sent_after : ℕ → Option Sample → List SentSample → ℕ
sent_after sent None sends = sent
sent_after sent (Some sample) [] = sent
sent_after sent (Some sample) (entry ∷ sends) = sent + entry.count

abbrev pub sends_after : Option Sample → List SentSample → List SentSample
sends_after None sends = sends
sends_after (Some sample) [] = []
sends_after (Some sample) (entry ∷ sends) = sends

-- the steps of the receiver: pops, the end, and each delivery of a datagram that was already sent. `sent` datagrams were sent
-- before these steps, and `sends` has an entry for each of their samples
abbrev pub received_steps : List Sample → ℕ → List DatagramStep → List SentSample → List DatagramStep
received_steps samples sent [] sends = []
received_steps samples sent (steps.Send i ∷ later) sends = received_steps samples (sent_after sent (slice_get samples i) sends) later (sends_after (slice_get samples i) sends)
received_steps samples sent (steps.Deliver k now ∷ later) sends =
    if nat_lt k sent then steps.Deliver k now ∷ received_steps samples sent later sends else received_steps samples sent later sends
received_steps samples sent (steps.Pop now ∷ later) sends = steps.Pop now ∷ received_steps samples sent later sends
received_steps samples sent (steps.Finish ∷ later) sends = steps.Finish ∷ received_steps samples sent later sends

-- the RTP times of the datagrams of a `Send` of this sample, if there is one
abbrev pub times_of : ℕ → Option Sample → List SentSample → List ℕ
times_of clock_rate None sends = []
times_of clock_rate (Some sample) [] = []
times_of clock_rate (Some sample) (entry ∷ sends) = replicate entry.count (rtp_time_at clock_rate sample.rtp_time)

-- the RTP times of the datagrams that these steps send, in order; `sends` has an entry for each of their samples
abbrev pub times_sent : ℕ → List Sample → List DatagramStep → List SentSample → List ℕ
times_sent clock_rate samples [] sends = []
times_sent clock_rate samples (steps.Send i ∷ later) sends =
    times_of clock_rate (slice_get samples i) sends ++ times_sent clock_rate samples later (sends_after (slice_get samples i) sends)
times_sent clock_rate samples (steps.Deliver k now ∷ later) sends = times_sent clock_rate samples later sends
times_sent clock_rate samples (steps.Pop now ∷ later) sends = times_sent clock_rate samples later sends
times_sent clock_rate samples (steps.Finish ∷ later) sends = times_sent clock_rate samples later sends

-- the indices of the datagrams that are delivered, in order
abbrev pub delivered : List DatagramStep → List ℕ
delivered [] = []
delivered (steps.Send i ∷ later) = delivered later
delivered (steps.Deliver k now ∷ later) = k ∷ delivered later
delivered (steps.Pop now ∷ later) = delivered later
delivered (steps.Finish ∷ later) = delivered later

-- the extension values that a receiver with these ids reads in a packet of the stream that was sent with `values`
abbrev pub values_read : ExtensionIds → Outgoing → ExtensionValues → ExtensionValues
values_read ids stream values = values_in ids (elements_of (extension_for (elements_for stream.ids values)))

-- the metadata has the extension values of the packet with this index, as a receiver with these ids reads them
abbrev pub HasValuesOf : ExtensionIds → Outgoing → List Packet → ℕ → RtpMeta → Type 0
HasValuesOf ids stream packets k meta = (q : Packet) × (slice_get packets k ≡ Some q) × (meta.header.ext_vals ≡ values_read ids stream q.ext_vals)

-- the metadata of a packet: its datagram was delivered at its time of arrival, and has its number, time, marker and values
abbrev pub IsDelivery : ExtensionIds → Outgoing → List Packet → List DatagramStep → ℕ → Packet → RtpMeta → Type 0
IsDelivery ids stream packets all_steps k q meta =
    Contains all_steps (steps.Deliver k meta.received) × Tells stream.clock_rate q meta × HasValuesOf ids stream packets k meta

-- the step is in the list
abbrev pub IsAmong : DatagramStep → List DatagramStep → Type 0
IsAmong step [] = ⊥
IsAmong step (s ∷ ss) = (s ≡ step) ⊎ IsAmong step ss

-- a step in the list delivered the packet at its time of arrival
abbrev pub WasDelivered : List DatagramStep → RtpMeta → Type 0
WasDelivered before meta = (k : ℕ) × IsAmong (steps.Deliver k meta.received) before

abbrev pub AreOfDeliveries : List DatagramStep → List RtpMeta → Type 0
AreOfDeliveries before [] = Unit {0}
AreOfDeliveries before (m ∷ ms) = WasDelivered before m × AreOfDeliveries before ms

-- the steps delivered all packets of the unit, if one is released
abbrev pub IsOfDeliveries : List DatagramStep → Answer → Type 0
IsOfDeliveries before None = Unit {0}
IsOfDeliveries before (Some (Err fault)) = Unit {0}
IsOfDeliveries before (Some (Ok r)) = AreOfDeliveries before r.metas

-- each pop releases packets that were delivered before it: by the steps of `before`, or by a step in front of the pop
abbrev pub AreDeliveredBefore : List DatagramStep → List DatagramStep → List Answer → Type 0
AreDeliveredBefore before [] answers = Unit {0}
AreDeliveredBefore before (steps.Send i ∷ later) answers = AreDeliveredBefore before later answers
AreDeliveredBefore before (steps.Deliver k now ∷ later) answers = AreDeliveredBefore (steps.Deliver k now ∷ before) later answers
AreDeliveredBefore before (steps.Pop now ∷ later) [] = ⊥
AreDeliveredBefore before (steps.Pop now ∷ later) (answer ∷ answers) = IsOfDeliveries before answer × AreDeliveredBefore before later answers
AreDeliveredBefore before (steps.Finish ∷ later) answers = AreDeliveredBefore before later answers

-- Premises

-- packets of the sender are not retransmissions
abbrev pub is_sent_again_by : Option Retransmission → Outgoing → Bool
is_sent_again_by None stream = false
is_sent_again_by (Some r) stream = (r.ssrc == stream.ssrc) && (r.payload_type == stream.payload_type)

-- a sender of a codec, and the settings and the depacketizer of a receiver of its stream. The depacketizer reads the
-- packetizer's payloads. The sender's packets are not RTCP (RFC 5761, section 4) and not retransmissions. The settings name the
-- sender's SSRC, and drop no units
pub record AreOfOneStream (sender : Sending) (settings : Settings) (depacketizer : DepacketizerState) : Type 0 where
  pub built_in : is_built_in sender.packetizer ≡ true
  pub alike : kind_of_depacketizer depacketizer ≡ payloads_by sender.packetizer
  pub nothing_read : read_by depacketizer ≡ None
  pub clock_rate : settings.clock_rate ≡ sender.stream.clock_rate
  pub payload_type : settings.payload_type ≡ sender.stream.payload_type
  pub not_rtcp : (sender.stream.payload_type < 64) ⊎ (95 < sender.stream.payload_type)
  pub ssrc : settings.ssrc ≡ Some sender.stream.ssrc
  pub not_again : is_sent_again_by settings.retransmission sender.stream ≡ false
  pub drops_none : drops_units settings.from_keyframe ≡ false

-- each index is less than `forward` above the highest one before it, and at most `backward` below it; g is the highest so far
abbrev pub StayWithin : ℕ → ℕ → ℕ → List ℕ → Type 0
StayWithin forward backward g [] = Unit {0}
StayWithin forward backward g (k ∷ ks) = (k < g + forward) × (g ≤ k + backward) × StayWithin forward backward (max g k) ks

-- the datagrams with these indices arrive within the windows, and the first that arrives is one of the first 65,536 that were
-- sent
abbrev pub ComeWithin : ℕ → ℕ → List ℕ → Type 0
ComeWithin forward backward [] = Unit {0}
ComeWithin forward backward (k ∷ ks) = (k < 65536) × StayWithin forward backward k ks

-- an RTP time from 5 seconds before the first one's up to that time, modulo 2^32
abbrev pub IsTimely : ℕ → ℕ → ℕ → Type 0
IsTimely clock_rate first time = (first + 2 ^ 32 - time) % 2 ^ 32 ≤ 5 * clock_rate

-- each of these datagrams that was sent before the datagram with the index `first` has such an RTP time; `times` are the RTP times
-- of all datagrams
abbrev pub AreTimely : ℕ → List ℕ → ℕ → List ℕ → Type 0
AreTimely clock_rate times first [] = Unit {0}
AreTimely clock_rate times first (k ∷ ks) =
    (k < first → IsTimely clock_rate (slice_index_or times first 0) (slice_index_or times k 0)) × AreTimely clock_rate times first ks

-- the datagrams with these indices are timely: if one was sent before the first that arrives, its RTP time is from 5 seconds
-- before the RTP time of the first up to that time
abbrev pub ComeTimely : ℕ → List ℕ → List ℕ → Type 0
ComeTimely clock_rate times [] = Unit {0}
ComeTimely clock_rate times (k ∷ ks) = AreTimely clock_rate times k ks

-- the receiver is new, for the stream of the sender; the samples can be read again; and all delivered datagrams are within the
-- windows, and timely
pub record IsWithinWindows (samples : List Sample) (all_steps : List DatagramStep) (sender : Sending) (receiver : Session) (sends : List SentSample) : Type 0 where
  pub settings : Settings
  pub depacketizer : DepacketizerState
  pub new : session_by settings depacketizer ≡ Ok receiver
  pub one_stream : AreOfOneStream sender settings depacketizer
  pub readable : AreReadable sender.packetizer samples
  pub within : ComeWithin settings.forward settings.backward (delivered (received_steps samples 0 all_steps sends))
  pub timely : ComeTimely sender.stream.clock_rate (times_sent sender.stream.clock_rate samples all_steps sends) (delivered (received_steps samples 0 all_steps sends))

-- Guarantees

-- none of the steps is a pop
abbrev pub HaveNoPops : List DatagramStep → Type 0
HaveNoPops [] = Unit {0}
HaveNoPops (steps.Send i ∷ later) = HaveNoPops later
HaveNoPops (steps.Deliver k now ∷ later) = HaveNoPops later
HaveNoPops (steps.Pop now ∷ later) = ⊥
HaveNoPops (steps.Finish ∷ later) = HaveNoPops later

-- the buffer has room for `count` packets, each datagram is delivered before the stream ends, and no pop is made before that
pub record AllComeFirst (limit count : ℕ) (received : List DatagramStep) : Type 0 where
  pub few : count ≤ limit
  pub before : List DatagramStep
  pub after : List DatagramStep
  pub whole : received ≡ before ++ steps.Finish ∷ after
  pub no_pops : HaveNoPops before
  pub each : (k : ℕ) → k < count → Contains (delivered before) k

-- what is known of the metadata of a packet of these units, by its index
abbrev pub IsKnownOf : List Sample → List DatagramStep → Wire → Wire → List SentUnit → ℕ → Packet → RtpMeta → Type 0
IsKnownOf samples all_steps s t units = IsDelivery s.session.stream.ids s.sending.stream (packets_of units) (received_steps samples 0 all_steps t.sends)

-- sender and receiver have the same ids of header extensions, which can be written
pub record ShareIds (s : Wire) : Type 0 where
  pub same : s.session.stream.ids ≡ s.sending.stream.ids
  pub fit : ids_fit s.sending.stream.ids ≡ true

-- each release that is a whole unit of video has the extension values of that unit's sample: those that have an id. The numbers
-- of the values have their width
abbrev pub HaveValuesOfSamples : List Sample → List DatagramStep → Wire → Wire → List SentUnit → Type 0
HaveValuesOfSamples samples all_steps s t units =
    is_video s.sending.packetizer ≡ true → ShareIds s → (place : ℕ) (r : Release) → IsWholeAt (IsKnownOf samples all_steps s t units) (may_split s.sending.packetizer) units place r
    → (values : ExtensionValues) × (slice_get (values_of_run s.sending.packetizer samples (sending_steps s.sending.mtu all_steps)) place ≡ Some values)
    × (FitsValues values → AreValues r.metas (values_told s.sending.stream.ids values))

-- The sent datagrams read as the packets of canonical units. The units are popped in order, each at most once and complete,
-- from packets that were delivered before the pop. If all datagrams arrive before the stream ends, and all pops come after
-- that, all units are popped. A complete unit of video has the extension values of its sample.
pub record ReleasesUnits (samples : List Sample) (all_steps : List DatagramStep) (s t : Wire) : Type 0 where
  pub units : List SentUnit
  pub canonical : map (λ (u : SentUnit). u.parts) units ≡ units_of_run s.sending.packetizer samples (sending_steps s.sending.mtu all_steps)
  pub datagrams : AreDatagrams s.sending.stream (packets_of units) t.datagrams
  pub ends : AllEndWithTail (payloads_by s.sending.packetizer) units
  pub in_order : InOrder (IsKnownOf samples all_steps s t units) (may_split s.sending.packetizer) units 0 t.pops
  pub before_pops : AreDeliveredBefore [] (received_steps samples 0 all_steps t.sends) t.pops
  pub exactly : AllComeFirst s.session.packets.buffer.limit (length t.datagrams) (received_steps samples 0 all_steps t.sends)
      → AnswersAll (IsKnownOf samples all_steps s t units) 0 units t.pops
  pub extension_values : HaveValuesOfSamples samples all_steps s t units

-- this applies to a run whose samples can be read, and whose datagrams arrive within the windows
abbrev pub ReleasesWithinWindows : List Sample → List DatagramStep → Wire → Wire → Type 0
ReleasesWithinWindows samples all_steps s t = IsWithinWindows samples all_steps s.sending s.session t.sends → ReleasesUnits samples all_steps s t

-- for every run over datagrams
abbrev pub ReleaseOverDatagrams : Type 0
ReleaseOverDatagrams =
    (samples : List Sample) (all_steps : List DatagramStep) (sender : Sending) (receiver : Session) (t : Wire)
    → Runs samples all_steps (begins sender receiver) t → ReleasesWithinWindows samples all_steps (begins sender receiver) t

-- Examples

-- a sample has two datagrams; the first is delivered before it is sent, and a third is never sent: these deliveries are skipped
pub received_steps-not_sent : (sample : Sample) (now : Ticks)
    → received_steps (sample ∷ []) 0 (steps.Deliver 0 now ∷ steps.Send 0 ∷ steps.Deliver 1 now ∷ steps.Deliver 2 now ∷ steps.Pop now ∷ []) (record { count = 2; fault = None } ∷ [])
    ≡ steps.Deliver 1 now ∷ steps.Pop now ∷ []
received_steps-not_sent sample now = refl

-- the first two are swapped, one is repeated, and two are at the limits of the windows
pub come-within : ComeWithin 3000 1000 (1 ∷ 0 ∷ 1 ∷ 3000 ∷ 2000 ∷ [])
come-within = (lit< tt, (lit< tt, lit≤ tt, (lit< tt, lit≤ tt, (lit< tt, lit≤ tt, (lit< tt, lit≤ tt, tt)))))
