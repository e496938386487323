-- A run of a session with two streams at once that meets the premises: two senders of three frames of Opus. The second datagram of each
-- is lost. The first stream gets a retransmission of it, the second one never.
use Rattle.std.specs.Global.{Vec}
use Rattle.std.specs.Prelude.{◌≡◌, ℕ, List, [], ◌∷◌, Some, None, Ok, length, false, true}
use Rattle.codec_payload_base.specs.declared.wire.Codec.TheVariants as codecs
use Rattle.codec_payload_datagram_runs.specs.WireRunExample.{at, frames_sent, one_each, opus_sender}
use Rattle.codec_payload_jitter.specs.declared.outcome.Outcome.TheVariants as outcomes
use Rattle.codec_payload_keyframes.specs.declared.unit_gate.FromKeyframe.TheVariants as modes
use Rattle.codec_payload_metadata.specs.Release.{Release}
use Rattle.codec_payload_sending.specs.Senders.{Sending}
use Rattle.codec_payload_sending_history.specs.Histories.{IsRetransmission}
use Rattle.codec_payload_sending_history.specs.declared.retransmission.RetransmissionStream.{RetransmissionStream}
use Rattle.codec_payload_session_formats.specs.Formats.{plain_format}
use Rattle.codec_payload_session_formats.specs.declared.formats.Format.{Format}
use Rattle.codec_payload_session_formats.specs.declared.formats.SessionSettings.{SessionSettings}
use Rattle.codec_payload_session_stream.specs.declared.arrival.Arrival.TheVariants as arrivals
use Rattle.codec_payload_session_stream.specs.declared.events.Event.TheVariants as events
use Rattle.codec_payload_session_runs.specs.Lives.{shown_of}
use Rattle.codec_payload_session_runs.specs.SessionRuns.{Call}
use Rattle.codec_payload_session_runs.specs.Tightness.{datagram_call, poll_call}
use Rattle.codec_payload_session_runs.specs.declared.run.SessionStep.TheVariants as steps
use Rattle.codec_payload_session_runs.specs.declared.run.StepAnswer.{StepAnswer}
use Rattle.codec_payload_session_runs.specs.declared.run.StepAnswer.TheVariants as answers
use Rattle.codec_payload_session_units.specs.OneSender.{IsOneSenders, SendsAll, answers_by}

-- Opus with retransmissions of payload type 112
abbrev pub opus_format : Format
opus_format = record (plain_format 111 (record { codec = codecs.Opus; clock_rate = 48000; octet_align = false })) { retransmission = Some 112 }

-- the second sender has the SSRC 9
abbrev pub other_sender : Sending
other_sender = record opus_sender { stream = record opus_sender.stream { ssrc = 9 } }

abbrev pub again_stream : RetransmissionStream
again_stream = record { ssrc = 8; payload_type = 112; first_number = 500 }

-- the datagrams of both senders, and the retransmission
pub record Sent : Type 0 where
  pub first : Vec ℕ
  pub second : Vec ℕ
  pub third : Vec ℕ
  pub again : Vec ℕ
  pub other_first : Vec ℕ
  pub other_second : Vec ℕ
  pub other_third : Vec ℕ

pub record AreSent (sent : Sent) : Type 0 where
  pub sends : SendsAll frames_sent opus_sender one_each (sent.first.items ∷ sent.second.items ∷ sent.third.items ∷ [])
  pub repeats : IsRetransmission again_stream 500 sent.second.items sent.again.items
  pub other_sends : SendsAll frames_sent other_sender one_each (sent.other_first.items ∷ sent.other_second.items ∷ sent.other_third.items ∷ [])

abbrev pub taken : ℕ → StepAnswer
taken ssrc = answers.Received (Ok (arrivals.Stream ssrc 111 outcomes.Held))

-- an event with a unit of the stream
abbrev pub unit_call : ℕ → ℕ → Release → Call
unit_call now ssrc r = poll_call (at now) (Some (events.Unit ssrc 111 (Some 0) true false (Ok r)))

-- The datagrams come in turn. Both streams are announced, and their first units are released. Then the retransmission comes, and the
-- other units of the first stream
abbrev pub calls_made : Sent → Release → Release → Release → Release → List Call
calls_made sent r1 r2 r3 q1 =
    datagram_call (at 20) None sent.first (taken 7) ∷ datagram_call (at 21) None sent.other_first (taken 9) ∷ datagram_call (at 60) None sent.third (taken 7)
    ∷ datagram_call (at 61) None sent.other_third (taken 9) ∷ poll_call (at 62) (Some (events.Begun 7 111)) ∷ unit_call 62 7 r1 ∷ poll_call (at 62) (Some (events.Begun 9 111)) ∷ unit_call 62 9 q1
    ∷ poll_call (at 62) None ∷ record { step = steps.AddPair 7 8; answer = answers.PairAdded (Ok tt) } ∷ datagram_call (at 80) None sent.again (taken 7) ∷ unit_call 80 7 r2 ∷ unit_call 80 7 r3
    ∷ poll_call (at 80) None ∷ []

-- what a stream was given is its sender's, under these indices
pub record IsSendersAt (settings : SessionSettings) (ssrc : ℕ) (calls : List Call) (sender : Sending) (indices : List ℕ) (units : ℕ) : Type 0 where
  pub one : IsOneSenders settings ssrc opus_format (shown_of ssrc 111 calls)
  pub sender_is : one.sender ≡ sender
  pub indices_are : one.indices ≡ indices
  -- this number of units
  pub units_are : length (answers_by (shown_of ssrc 111 calls)) ≡ units

-- the premises can be met by two streams of one run
pub record StreamsCanBeMet : Type 0 where
  pub first : (settings : SessionSettings) → settings.from_keyframe ≡ modes.Mark → (sent : Sent) → AreSent sent → (r1 r2 r3 q1 : Release)
      → IsSendersAt settings 7 (calls_made sent r1 r2 r3 q1) opus_sender (0 ∷ 2 ∷ 1 ∷ []) 3
  pub other : (settings : SessionSettings) → settings.from_keyframe ≡ modes.Mark → (sent : Sent) → AreSent sent → (r1 r2 r3 q1 : Release)
      → IsSendersAt settings 9 (calls_made sent r1 r2 r3 q1) other_sender (0 ∷ 2 ∷ []) 1
