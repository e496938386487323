-- What a run gave to a stream of a session, if all of it is one sender's.
use Rattle.std.specs.Prelude.{◌≡◌, ◌≢◌, ◌⊎◌, ℕ, suc, ◌<◌, ◌^◌, not, Bool, true, false, List, [], ◌∷◌, ◌++◌, Option, Some, None, Result, Ok, Err, length, slice_get}
use Rattle.codec_payload_base.specs.declared.error.PacketError.TheVariants as faults
use Rattle.codec_payload_buffer_runs.specs.Schedule.{Answer}
use Rattle.codec_payload_buffer_runs.specs.SentStream.{AreReadable}
use Rattle.codec_payload_codec.specs.Depacketizers.{DepacketizerState, configured_depacketizer, depacketizer_state_for, kind_of_depacketizer}
use Rattle.codec_payload_codec.specs.Packetizers.{is_built_in, payloads_by}
use Rattle.codec_payload_datagram_runs.specs.Releases.{ComeTimely, ComeWithin, times_sent}
use Rattle.codec_payload_datagram_runs.specs.WireRuns.{SendsOrRefuses, sent_sample}
use Rattle.codec_payload_datagram_runs.specs.declared.run.DatagramStep.{DatagramStep}
use Rattle.codec_payload_datagram_runs.specs.declared.run.DatagramStep.TheVariants as steps
use Rattle.codec_payload_datagram_runs.specs.declared.run.SentSample.{SentSample}
use Rattle.codec_payload_jitter.specs.declared.outcome.Outcome.{Outcome}
use Rattle.codec_payload_jitter.specs.declared.outcome.Outcome.TheVariants as outcomes
use Rattle.codec_payload_keyframes.specs.UnitGates.{drops_units}
use Rattle.codec_payload_payloader.specs.Sending.{Sample}
use Rattle.codec_payload_receiver.specs.Pops.{answer_of}
use Rattle.codec_payload_receiver.specs.declared.receiver.ReceiveError.{ReceiveError}
use Rattle.codec_payload_rtp.specs.ExtensionFormats.{bytes_for, elements_of}
use Rattle.codec_payload_rtp.specs.RtpPackets.{Packet}
use Rattle.codec_payload_rtp.specs.RtpReading.{rtp_at}
use Rattle.codec_payload_sending.specs.Senders.{Sending}
use Rattle.codec_payload_sending_history.specs.Histories.{Repeats}
use Rattle.codec_payload_sending_history.specs.declared.retransmission.RetransmissionStream.{RetransmissionStream}
use Rattle.codec_payload_session_formats.specs.Formats.{backward_for, forward_for, is_video}
use Rattle.codec_payload_session_formats.specs.declared.formats.Format.{Format}
use Rattle.codec_payload_session_formats.specs.declared.formats.SessionSettings.{SessionSettings}
use Rattle.codec_payload_session_stream.specs.Streams.{is_no_memory}
use Rattle.codec_payload_session_runs.specs.Lives.{ReceiverCall, finishes, follows, pairs, pops, receives, reports, waits, with_shown, notes}

-- ---- what the sender sends

-- the sender sends these samples, one after another: an entry for each, and all datagrams, in order. If the packetizer refuses a
-- sample, it has no datagrams
abbrev pub SendsAll : List Sample → Sending → List SentSample → List (List ℕ) → Type 0
SendsAll [] s [] datagrams = datagrams ≡ []
SendsAll [] s (entry ∷ entries) datagrams = ⊥
SendsAll (sample ∷ samples) s [] datagrams = ⊥
SendsAll (sample ∷ samples) s (entry ∷ entries) datagrams =
    (t : Sending) × (more : List (List ℕ)) × SendsOrRefuses (sent_sample sample) s entry.fault t × (entry.count ≡ length t.datagrams) × (datagrams ≡ t.datagrams ++ more) × SendsAll samples t entries more

-- the steps that send samples one after another, from this index on
abbrev pub sends_from : ℕ → List Sample → List DatagramStep
sends_from i [] = []
sends_from i (sample ∷ samples) = steps.Send i ∷ sends_from (suc i) samples

abbrev pub sends_of : List Sample → List DatagramStep
sends_of = sends_from 0

-- the stream of retransmissions has an SSRC of its own, and none of its packets looks like RTCP (RFC 5761, section 4). Without it a
-- packet is resent as it was
abbrev pub AreApartFrom : ℕ → Option RetransmissionStream → Type 0
AreApartFrom ssrc None = Unit {0}
AreApartFrom ssrc (Some again) = (again.ssrc ≢ ssrc) × ((again.payload_type < 64) ⊎ (95 < again.payload_type))

-- no packet that was sent has the header extension element that the session reads as the dependency descriptor
abbrev pub AreUndescribed : (descriptor : Option ℕ) → List (List ℕ) → Type 0
AreUndescribed descriptor datagrams =
    (index : ℕ) (datagram : List ℕ) (p : Packet) → slice_get datagrams index ≡ Some datagram → rtp_at datagram ≡ Ok p → bytes_for descriptor (elements_of p.header.extension) ≡ None

-- the sender sends for the streams of a session with this SSRC and format. It uses a codec of the library, whose payloads the format's
-- depacketizer reads, the format's clock rate and payload type, and the SSRC. Its packets do not look like RTCP. The format has no RED,
-- and another payload type for its retransmissions. The session drops no units that a decoder cannot show
pub record IsSenderFor (settings : SessionSettings) (ssrc : ℕ) (f : Format) (sender : Sending) : Type 0 where
  pub built_in : is_built_in sender.packetizer ≡ true
  pub alike : (d : DepacketizerState) → depacketizer_state_for f.spec.codec ≡ Some d → kind_of_depacketizer (configured_depacketizer f.spec.octet_align f.spec.clock_rate d) ≡ payloads_by sender.packetizer
  pub clock_rate : f.spec.clock_rate ≡ sender.stream.clock_rate
  pub payload_type : f.payload_type ≡ sender.stream.payload_type
  pub not_rtcp : (sender.stream.payload_type < 64) ⊎ (95 < sender.stream.payload_type)
  pub ssrc_is : sender.stream.ssrc ≡ ssrc
  pub no_red : f.red ≡ None
  pub other_type : f.retransmission ≢ Some f.payload_type
  pub drops_none : drops_units settings.from_keyframe ≡ false

-- ---- what the stream was given

-- the receiver says that the datagram is of another stream
abbrev pub is_of_others : Result Outcome ReceiveError → Bool
is_of_others (Ok outcomes.OtherStream) = true
is_of_others (Ok outcomes.Held) = false
is_of_others (Ok outcomes.HeldAndEvicted) = false
is_of_others (Ok (outcomes.Restarted with_kept)) = false
is_of_others (Ok outcomes.NoMedia) = false
is_of_others (Ok outcomes.Duplicate) = false
is_of_others (Ok outcomes.Late) = false
is_of_others (Ok outcomes.Suspect) = false
is_of_others (Ok outcomes.Undecided) = false
is_of_others (Ok outcomes.Rtcp) = false
is_of_others (Err e) = false

-- the bytes are the datagram, or a retransmission of it, under some number, that the receiver knows as its own
abbrev pub IsCopyOf : Option RetransmissionStream → List ℕ → List ℕ → Result Outcome ReceiveError → Type 0
IsCopyOf again datagram bytes answer = (bytes ≡ datagram) ⊎ ((next : ℕ) × Repeats again next datagram bytes × (is_of_others answer ≡ false))

-- each datagram of these calls is a copy of a sent datagram; the list has the index of each of these, from 0
abbrev pub AreCopies : Option RetransmissionStream → List (List ℕ) → List ReceiverCall → List ℕ → Type 0
AreCopies again datagrams [] ks = ks ≡ []
AreCopies again datagrams (receives now bytes answer ∷ calls) [] = ⊥
AreCopies again datagrams (receives now bytes answer ∷ calls) (k ∷ ks) =
    ((datagram : List ℕ) × (slice_get datagrams k ≡ Some datagram) × IsCopyOf again datagram bytes answer) × AreCopies again datagrams calls ks
AreCopies again datagrams (pops now answer ∷ calls) ks = AreCopies again datagrams calls ks
AreCopies again datagrams (finishes ∷ calls) ks = AreCopies again datagrams calls ks
AreCopies again datagrams (waits limits ∷ calls) ks = AreCopies again datagrams calls ks
AreCopies again datagrams (follows wait ∷ calls) ks = AreCopies again datagrams calls ks
AreCopies again datagrams (pairs own ∷ calls) ks = AreCopies again datagrams calls ks
AreCopies again datagrams (reports ∷ calls) ks = AreCopies again datagrams calls ks
AreCopies again datagrams (notes e ∷ calls) ks = AreCopies again datagrams calls ks

-- the answers of the pops among these calls
abbrev pub answers_by : List ReceiverCall → List Answer
answers_by [] = []
answers_by (receives now bytes answer ∷ calls) = answers_by calls
answers_by (pops now answer ∷ calls) = answer_of answer ∷ answers_by calls
answers_by (finishes ∷ calls) = answers_by calls
answers_by (waits limits ∷ calls) = answers_by calls
answers_by (follows wait ∷ calls) = answers_by calls
answers_by (pairs own ∷ calls) = answers_by calls
answers_by (reports ∷ calls) = answers_by calls
answers_by (notes e ∷ calls) = answers_by calls

-- memory ran out for none of these units
abbrev pub FoundMemory : List Answer → Type 0
FoundMemory [] = Unit {0}
FoundMemory (answer ∷ answers) = (answer ≢ Some (Err faults.OutOfMemory)) × FoundMemory answers

-- the deliveries, pops and ends of these calls, in order, each delivery with the index of its datagram
abbrev pub steps_by : List ReceiverCall → List ℕ → List DatagramStep
steps_by [] ks = []
steps_by (receives now bytes answer ∷ calls) [] = steps_by calls []
steps_by (receives now bytes answer ∷ calls) (k ∷ ks) = steps.Deliver k now ∷ steps_by calls ks
steps_by (pops now answer ∷ calls) ks = steps.Pop now ∷ steps_by calls ks
steps_by (finishes ∷ calls) ks = steps.Finish ∷ steps_by calls ks
steps_by (waits limits ∷ calls) ks = steps_by calls ks
steps_by (follows wait ∷ calls) ks = steps_by calls ks
steps_by (pairs own ∷ calls) ks = steps_by calls ks
steps_by (reports ∷ calls) ks = steps_by calls ks
steps_by (notes e ∷ calls) ks = steps_by calls ks

-- whether the call has an effect: memory did not run out for its datagram
abbrev pub has_effect : ReceiverCall → Bool
has_effect (receives now bytes answer) = not (is_no_memory answer)
has_effect (pops now answer) = true
has_effect finishes = true
has_effect (waits limits) = true
has_effect (follows wait) = true
has_effect (pairs own) = true
has_effect reports = true
has_effect (notes e) = true

abbrev pub effective : List ReceiverCall → List ReceiverCall
effective [] = []
effective (c ∷ cs) = with_shown (has_effect c) c (effective cs)

-- what a stream was given is one sender's: the sender sends these samples, and each datagram that the stream took is a copy of one that
-- was sent. None has a dependency descriptor. They came within the windows of the stream's receiver, and timely. Memory ran out for no unit. `gave` is what the answers of
-- the run show of the stream
pub record IsOneSenders (settings : SessionSettings) (ssrc : ℕ) (f : Format) (gave : List ReceiverCall) : Type 0 where
  pub samples : List Sample
  pub sender : Sending
  pub again : Option RetransmissionStream
  pub entries : List SentSample
  pub datagrams : List (List ℕ)
  pub sends : SendsAll samples sender entries datagrams
  pub few : length datagrams < 2 ^ 63
  pub undescribed : AreUndescribed settings.dependency_descriptor datagrams
  pub sender_for : IsSenderFor settings ssrc f sender
  pub apart : AreApartFrom ssrc again
  pub readable : AreReadable sender.packetizer samples
  -- the index of each datagram, in the order in which the stream took them
  pub indices : List ℕ
  pub copies : AreCopies again datagrams gave indices
  pub memory : FoundMemory (answers_by gave)
  pub within : ComeWithin (forward_for (is_video f.spec.codec)) (backward_for (is_video f.spec.codec)) indices
  pub timely : ComeTimely sender.stream.clock_rate (times_sent sender.stream.clock_rate samples (sends_of samples) entries) indices
