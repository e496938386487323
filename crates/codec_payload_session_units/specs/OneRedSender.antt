-- What a run gave to a stream of a session in RED (RFC 2198), if all of it is one sender's, and the units that events have of the stream.
-- A packet arrives with its own datagram, or as a block of a later one.
use Rattle.std.specs.Prelude.{◌≡◌, ◌≢◌, ◌⊎◌, ℕ, ◌%◌, ◌<◌, ◌^◌, Bool, true, false, List, [], ◌∷◌, Some, None, Err, length, map}
use Rattle.codec_payload_buffer_runs.specs.Headline.{InOrder}
use Rattle.codec_payload_buffer_runs.specs.Schedule.{Answer}
use Rattle.codec_payload_buffer_runs.specs.SentStream.{AllEndWithTail, AreReadable, SentUnit, packets_of, units_of_run}
use Rattle.codec_payload_codec.specs.Depacketizers.{DepacketizerState, configured_depacketizer, depacketizer_state_for, kind_of_depacketizer}
use Rattle.codec_payload_codec.specs.Packetizers.{is_built_in, is_video as sends_video, may_split, payloads_by}
use Rattle.codec_payload_datagram_runs.specs.RedReleases.{IsRedDelivery, entries_in}
use Rattle.codec_payload_datagram_runs.specs.RedRuns.{WritesAll}
use Rattle.codec_payload_datagram_runs.specs.Releases.{AreDatagrams, AreDeliveredBefore, ComeTimely, ComeWithin, sending_steps, times_sent}
use Rattle.codec_payload_datagram_runs.specs.declared.run.SentSample.{SentSample}
use Rattle.codec_payload_keyframes.specs.UnitGates.{drops_units}
use Rattle.codec_payload_metadata.specs.declared.meta.RtpMeta.{RtpMeta}
use Rattle.codec_payload_payloader.specs.Packets.{Packet}
use Rattle.codec_payload_payloader.specs.Sending.{Sample}
use Rattle.codec_payload_receiver.specs.Sessions.{Session as Receiver}
use Rattle.codec_payload_receiver.specs.declared.receiver.ReceiveError.TheVariants as errors
use Rattle.codec_payload_receiver.specs.declared.receiver.RedSettings.{RedSettings}
use Rattle.codec_payload_red.specs.RedRun.{IsRecoverable}
use Rattle.codec_payload_sending.specs.Senders.{Sending}
use Rattle.codec_payload_sending_red.specs.Writers.{Writer}
use Rattle.codec_payload_session.specs.Ports.{Session, new_session}
use Rattle.codec_payload_session_formats.specs.Formats.{backward_for, forward_for, is_video}
use Rattle.codec_payload_session_formats.specs.declared.formats.Format.{Format}
use Rattle.codec_payload_session_formats.specs.declared.formats.SessionSettings.{SessionSettings}
use Rattle.codec_payload_session_runs.specs.Lives.{IsAlone, ReceiverCall, events_of, finishes, follows, pairs, pops, receives, reports, shown_of, waits, notes}
use Rattle.codec_payload_session_runs.specs.SessionRuns.{Call, Runs}
use Rattle.codec_payload_session_units.specs.OneSender.{AreCopies, FoundMemory, SendsAll, answers_by, sends_of, steps_by, AreUndescribed}
use Rattle.codec_payload_session_units.specs.StreamUnits.{units_told}

-- The sender and the writer send for the streams of a session with this SSRC and format, as without RED (`IsSenderFor`). The format has
-- RED, with the payload types of the writer, and no retransmissions. The codec is not VP8, VP9 or AV1
pub record IsRedSenderFor (settings : SessionSettings) (ssrc : ℕ) (f : Format) (sender : Sending) (writer : Writer) (red : RedSettings) : Type 0 where
  pub built_in : is_built_in sender.packetizer ≡ true
  pub alike : (d : DepacketizerState) → depacketizer_state_for f.spec.codec ≡ Some d → kind_of_depacketizer (configured_depacketizer f.spec.octet_align f.spec.clock_rate d) ≡ payloads_by sender.packetizer
  pub clock_rate : f.spec.clock_rate ≡ sender.stream.clock_rate
  pub payload_type : f.payload_type ≡ sender.stream.payload_type
  pub not_rtcp : (sender.stream.payload_type < 64) ⊎ (95 < sender.stream.payload_type)
  pub ssrc_is : sender.stream.ssrc ≡ ssrc
  pub drops_none : drops_units settings.from_keyframe ≡ false
  pub used : f.red ≡ Some red
  pub red_type : red.payload_type ≡ writer.red_type
  pub media_type : writer.media_type ≡ sender.stream.payload_type
  pub red_not_rtcp : (writer.red_type < 64) ⊎ (95 < writer.red_type)
  pub no_retransmissions : f.retransmission ≡ None
  pub no_video : sends_video sender.packetizer ≡ false

-- memory ran out for no block of these datagrams
abbrev pub FoundBlocks : List ReceiverCall → Type 0
FoundBlocks [] = Unit {0}
FoundBlocks (receives now bytes answer ∷ calls) = (answer ≢ Err errors.BlocksOutOfMemory) × FoundBlocks calls
FoundBlocks (pops now answer ∷ calls) = FoundBlocks calls
FoundBlocks (finishes ∷ calls) = FoundBlocks calls
FoundBlocks (waits limits ∷ calls) = FoundBlocks calls
FoundBlocks (follows wait ∷ calls) = FoundBlocks calls
FoundBlocks (pairs own ∷ calls) = FoundBlocks calls
FoundBlocks (reports ∷ calls) = FoundBlocks calls
FoundBlocks (notes e ∷ calls) = FoundBlocks calls

-- what a stream was given is one sender's: the sender sends these samples, a new writer writes their datagrams in RED, and each datagram
-- that the stream took is one of these. The packets can be recovered from blocks: their times are as many ticks apart as the format's step
pub record IsOneRedSenders (settings : SessionSettings) (ssrc : ℕ) (f : Format) (gave : List ReceiverCall) : Type 0 where
  pub samples : List Sample
  pub sender : Sending
  pub writer : Writer
  pub red : RedSettings
  pub entries : List SentSample
  pub datagrams : List (List ℕ)
  pub written : List (List ℕ)
  pub after : Writer
  pub sends : SendsAll samples sender entries datagrams
  pub writes : WritesAll writer datagrams written after
  pub few : length datagrams < 2 ^ 63
  pub undescribed : AreUndescribed settings.dependency_descriptor datagrams
  pub sender_for : IsRedSenderFor settings ssrc f sender writer red
  pub readable : AreReadable sender.packetizer samples
  pub recoverable : IsRecoverable writer.red (record { primary_pt = f.payload_type % 128; step = red.step }) writer.budget (entries_in datagrams)
  -- the index of each datagram, in the order in which the stream took them
  pub indices : List ℕ
  pub copies : AreCopies None written gave indices
  pub blocks : FoundBlocks gave
  pub memory : FoundMemory (answers_by gave)
  pub within : ComeWithin (forward_for (is_video f.spec.codec)) (backward_for (is_video f.spec.codec)) indices
  pub timely : ComeTimely sender.stream.clock_rate (times_sent sender.stream.clock_rate samples (sends_of samples) entries) indices

-- what is known of the metadata of a packet, by its index: a datagram that carries the packet was given to the stream at the time of arrival
abbrev pub IsGivenInRed : {settings : SessionSettings} {ssrc : ℕ} {f : Format} {gave : List ReceiverCall} (o : IsOneRedSenders settings ssrc f gave) → ℕ → Packet → RtpMeta → Type 0
IsGivenInRed {settings = settings} {gave = gave} o = IsRedDelivery settings.extension_ids o.sender.stream o.writer o.datagrams (steps_by gave o.indices)

-- The datagrams of the sender read as the packets of the canonical units of the samples. The events have the units in order, each at most
-- once and complete, from packets that came with datagrams that were given to the stream before the event. No frame is refused
pub record ReleasesUnitsInRed {settings : SessionSettings} {ssrc : ℕ} {f : Format} {gave : List ReceiverCall} (o : IsOneRedSenders settings ssrc f gave) (told : List Answer) : Type 0 where
  pub units : List SentUnit
  pub canonical : map (λ (u : SentUnit). u.parts) units ≡ units_of_run o.sender.packetizer o.samples (sending_steps o.sender.mtu (sends_of o.samples))
  pub datagrams : AreDatagrams o.sender.stream (packets_of units) o.datagrams
  pub ends : AllEndWithTail (payloads_by o.sender.packetizer) units
  pub in_order : InOrder (IsGivenInRed o) (may_split o.sender.packetizer) units 0 told
  pub before_pops : AreDeliveredBefore [] (steps_by gave o.indices) told

-- at each moment of a run of a new session, for any account of a stream as a receiver alone
abbrev pub RedStreamsReleaseUnits : Type 0
RedStreamsReleaseUnits =
    (settings : SessionSettings) (calls : List Call) (s : Session) → Runs calls (new_session settings) s → (ssrc : ℕ) (f : Format) (announced : Bool) (r : Receiver)
    → (alone : IsAlone settings calls ssrc f announced r) (o : IsOneRedSenders settings ssrc f (shown_of ssrc f.payload_type alone.during))
    → ReleasesUnitsInRed o (units_told (events_of ssrc f.payload_type alone.during))
