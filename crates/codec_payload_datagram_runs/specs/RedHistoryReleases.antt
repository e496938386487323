-- The units that a run in RED with retransmissions releases. The delivery of a retransmission counts as a delivery of the written
-- datagram that it repeats. Otherwise premises and guarantees are the same as in a run in RED without a history.
use Rattle.std.specs.Prelude.{◌≡◌, ◌≢◌, ℕ, ◌<◌, ◌⊎◌, List, [], Option, Some, None, Ok}
use Rattle.codec_payload_sending_history.specs.Histories.{history_by}
use Rattle.codec_payload_sending_history.specs.Packets.{Past}
use Rattle.codec_payload_sending_history.specs.declared.retransmission.HistorySettings.{HistorySettings}
use Rattle.codec_payload_sending_history.specs.declared.retransmission.RetransmissionStream.{RetransmissionStream}
use Rattle.codec_payload_sending_red.specs.Writers.{Writer}
use Rattle.codec_payload_payloader.specs.Sending.{Sample}
use Rattle.codec_payload_sending.specs.Senders.{Sending}
use Rattle.codec_payload_datagrams.specs.Kinds.{Kinds}
use Rattle.codec_payload_receiver.specs.Sessions.{Session}
use Rattle.codec_payload_datagrams.specs.declared.kinds.RedStream.{RedStream}
use Rattle.codec_payload_datagrams.specs.declared.kinds.Retransmission.{Retransmission}
use Rattle.codec_payload_datagram_runs.specs.HistoryReleases.{AreRepeats, plain_steps, repeated_in}
use Rattle.codec_payload_datagram_runs.specs.RedHistoryRuns.{RedHistoryRuns, RedResending, begins_in_red_with}
use Rattle.codec_payload_datagram_runs.specs.RedLogs.{KeepsPromisesInRed}
use Rattle.codec_payload_datagram_runs.specs.RedReleases.{ReleasesInRed}
use Rattle.codec_payload_datagram_runs.specs.declared.history_run.HistoryStep.{HistoryStep}
use Rattle.codec_payload_datagram_runs.specs.declared.run.DatagramStep.{DatagramStep}

-- the steps of the run in RED without a history that delivers the same packets: each delivered retransmission is a delivery of the
-- written datagram that it repeats
abbrev pub red_plain_steps_of : List Sample → List HistoryStep → RedResending → RedResending → List DatagramStep
red_plain_steps_of samples all_steps s t = plain_steps s.red.wire.sending.stream.number samples 0 [] all_steps t.red.wire.sends t.answers

-- the indices of the written datagrams that the retransmissions repeat
abbrev pub red_repeated_of : List Sample → List HistoryStep → RedResending → RedResending → List ℕ
red_repeated_of samples all_steps s t = repeated_in s.red.wire.sending.stream.number samples 0 [] all_steps t.red.wire.sends t.answers

-- each retransmission of a run with a new history repeats the written datagram with its index
abbrev pub RepeatsWritten : List Sample → List HistoryStep → RedResending → RedResending → Type 0
RepeatsWritten samples all_steps s t =
    (settings : HistorySettings) → history_by settings ≡ Ok s.history
    → AreRepeats s.history.stream s.history.next t.red.written t.retransmissions (red_repeated_of samples all_steps s t)

-- Premises

-- A receiver with these settings reads retransmissions in RED: the settings name their SSRC, and their payload type as that of
-- retransmitted RED, which is neither that of the media nor that of other retransmissions, and does not look like RTCP (RFC 5761,
-- section 4)
pub record HearsRedAgain (stream : RetransmissionStream) (kinds : Kinds) : Type 0 where
  pub again : Retransmission
  pub named : kinds.retransmission ≡ Some again
  pub ssrc : again.ssrc ≡ stream.ssrc
  pub no_other : again.payload_type ≢ stream.payload_type
  pub red : RedStream
  pub used : kinds.red ≡ Some red
  pub red_type : red.retransmission ≡ Some stream.payload_type
  pub no_media : stream.payload_type ≢ kinds.payload_type
  pub not_rtcp : (stream.payload_type < 64) ⊎ (95 < stream.payload_type)

-- without a stream of retransmissions a packet is resent as it was
abbrev pub AreHeardInRed : Option RetransmissionStream → Kinds → Type 0
AreHeardInRed None kinds = Unit {0}
AreHeardInRed (Some stream) kinds = HearsRedAgain stream kinds

-- the history is new, and the receiver reads its retransmissions
pub record AnswersInRed (history : Past) (receiver : Session) : Type 0 where
  pub settings : HistorySettings
  pub new : history_by settings ≡ Ok history
  pub heard : AreHeardInRed history.stream receiver.stream

-- Guarantees

-- this applies to a run whose history answers its receiver, and whose plain steps meet the premises of a run in RED
abbrev pub ReleasesInRedWithHistory : List Sample → List HistoryStep → RedResending → RedResending → Type 0
ReleasesInRedWithHistory samples all_steps s t =
    AnswersInRed s.history s.red.wire.session → ReleasesInRed samples (red_plain_steps_of samples all_steps s t) s.red t.red

abbrev pub KeepsPromisesInRedWithHistory : List Sample → List HistoryStep → RedResending → RedResending → Type 0
KeepsPromisesInRedWithHistory samples all_steps s t =
    AnswersInRed s.history s.red.wire.session → KeepsPromisesInRed samples (red_plain_steps_of samples all_steps s t) s.red t.red

-- for every run in RED with a history
abbrev pub ReleaseInRedWithHistory : Type 0
ReleaseInRedWithHistory =
    (samples : List Sample) (all_steps : List HistoryStep) (sender : Sending) (writer : Writer) (history : Past) (receiver : Session) (t : RedResending)
    → RedHistoryRuns samples all_steps (begins_in_red_with sender writer history receiver) t
    → ReleasesInRedWithHistory samples all_steps (begins_in_red_with sender writer history receiver) t

abbrev pub PromisesInRedWithHistory : Type 0
PromisesInRedWithHistory =
    (samples : List Sample) (all_steps : List HistoryStep) (sender : Sending) (writer : Writer) (history : Past) (receiver : Session) (t : RedResending)
    → RedHistoryRuns samples all_steps (begins_in_red_with sender writer history receiver) t
    → KeepsPromisesInRedWithHistory samples all_steps (begins_in_red_with sender writer history receiver) t

abbrev pub RepeatsInRedWithHistory : Type 0
RepeatsInRedWithHistory =
    (samples : List Sample) (all_steps : List HistoryStep) (sender : Sending) (writer : Writer) (history : Past) (receiver : Session) (t : RedResending)
    → RedHistoryRuns samples all_steps (begins_in_red_with sender writer history receiver) t
    → RepeatsWritten samples all_steps (begins_in_red_with sender writer history receiver) t
