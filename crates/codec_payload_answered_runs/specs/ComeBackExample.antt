-- A run that meets the premises: of three frames of Opus the second is lost, and the first request for it too. The second request is
-- answered, and the answer arrives.
use Rattle.std.specs.Global.{Vec}
use Rattle.std.specs.Prelude.{◌≡◌, ℕ, List, [], ◌∷◌, Option, Some, None, length}
use Rattle.codec_payload_feedback_requests.specs.declared.nack.NackSettings.{NackSettings}
use Rattle.codec_payload_sending_history.specs.Packets.{Past}
use Rattle.codec_payload_sending_history.specs.declared.retransmission.HistorySettings.{HistorySettings}
use Rattle.codec_payload_sending_history.specs.declared.retransmission.Resent.{Resent}
use Rattle.codec_payload_sending_history.specs.declared.retransmission.Resent.TheVariants as results
use Rattle.codec_payload_buffer_runs.specs.ReportedIds.{next_id}
use Rattle.codec_payload_buffer_runs.specs.Schedule.{Answer}
use Rattle.codec_payload_buffer_runs.specs.SentStream.{SentUnit}
use Rattle.codec_payload_datagram_runs.specs.HistoryReleases.{AnswersReceiver}
use Rattle.codec_payload_datagram_runs.specs.HistoryRunExample.{resent_receiver}
use Rattle.codec_payload_datagram_runs.specs.Releases.{IsWithinWindows, delivered, received_steps}
use Rattle.codec_payload_datagram_runs.specs.WireRunExample.{at, frames_sent, one_each, opus_sender}
use Rattle.codec_payload_datagram_runs.specs.declared.history_run.HistoryStep.TheVariants as history_steps
use Rattle.codec_payload_datagram_runs.specs.declared.run.DatagramStep.{DatagramStep}
use Rattle.codec_payload_datagram_runs.specs.declared.run.DatagramStep.TheVariants as steps
use Rattle.codec_payload_answered_runs.specs.AnsweredRuns.{AnsweredStep, AllowsAnswers, Links, Polls, asked_steps}
use Rattle.codec_payload_answered_runs.specs.AskedRuns.{AllowsTries, Asked, plain_of}
use Rattle.codec_payload_answered_runs.specs.FilledGaps.{KeepsUp, WaitsByTime}

-- the history answers at any time
abbrev pub patient_history : HistorySettings
patient_history = record { limit = 500; interval = 0; stream = Some (record { ssrc = 8; payload_type = 112; first_number = 7 }) }

abbrev pub answering_history : Past
answering_history = record { limit = 500; interval = 0; stream = patient_history.stream; next = 7; newest = 0; refused = None; packets = [] }

-- a number is requested at most twice, 30 ms apart
abbrev pub two_tries : NackSettings
two_tries = record { first_wait = 10; retry = 30; shortest_retry = 20; longest_retry = 30; tries = 2; capacity = 4096 }

abbrev pub does : DatagramStep → AnsweredStep
does step = Links (history_steps.Plain step)

-- The numbers are 65,535, 0 and 1. Number 0 is requested at 75 and at 105; the second request arrives at 110, and its answer at 118
abbrev pub come_back_steps : List AnsweredStep
come_back_steps =
    does (steps.Send 0) ∷ does (steps.Deliver 0 (at 25)) ∷ does (steps.Pop (at 25)) ∷ Polls 25 ∷ does (steps.Send 1) ∷ does (steps.Send 2) ∷ does (steps.Deliver 2 (at 65))
    ∷ does (steps.Pop (at 65)) ∷ does (steps.Pop (at 65)) ∷ Polls 65 ∷ Polls 75 ∷ Polls 105 ∷ Links (history_steps.Resend 0 (at 110)) ∷ Links (history_steps.DeliverAgain 0 (at 118))
    ∷ does (steps.Pop (at 118)) ∷ does (steps.Pop (at 118)) ∷ does (steps.Pop (at 118)) ∷ Polls 118 ∷ []

abbrev pub one_written : List Resent
one_written = results.Written ∷ []

-- what a poll requests, and its deadline
abbrev pub poll : List ℕ → Option ℕ → Asked
poll numbers deadline = record { numbers = numbers; deadline = deadline }

-- the receiver counts the second datagram as 131,072
abbrev pub asked_then : List Asked
asked_then = poll [] None ∷ poll [] (Some 75) ∷ poll (131072 ∷ []) (Some 105) ∷ poll (131072 ∷ []) None ∷ poll [] None ∷ []

-- the steps of the run without a history
abbrev pub plain_then : List DatagramStep
plain_then = plain_of (asked_steps 65535 frames_sent 0 [] come_back_steps one_each one_written)

-- the premises of `lost_packets_come_back` can be met: by a run with these results
pub record AnswersCanBeMet : Type 0 where
  pub answers : (no_media : Vec ℕ) → AnswersReceiver answering_history (resent_receiver no_media)
  pub any_time : answering_history.interval ≡ 0
  pub no_ids : next_id opus_sender.packetizer ≡ None
  pub within : (no_media : Vec ℕ) → IsWithinWindows frames_sent plain_then opus_sender (resent_receiver no_media) one_each
  pub waits : (no_media : Vec ℕ) → let receiver = resent_receiver no_media in WaitsByTime 100 receiver.packets
  -- whatever units the six pops return
  pub keeps_up : (units : List SentUnit) (answers : List Answer) → length answers ≡ 6 → KeepsUp 512 4096 units 0 (received_steps frames_sent 0 plain_then one_each) answers
  pub allows : AllowsTries two_tries 100 0 20 1 4096
  pub kind : AllowsAnswers 65535 500 131071 0 10 1 1 frames_sent come_back_steps one_each one_written asked_then
  -- the packets that it delivers
  pub are_delivered : delivered (received_steps frames_sent 0 plain_then one_each) ≡ 0 ∷ 2 ∷ 1 ∷ []
