-- A run with retransmissions that meets the premises: of three frames of Opus the second is lost, its retransmission too, and a
-- second retransmission arrives.
use Rattle.std.specs.Global.{Vec}
use Rattle.std.specs.Prelude.{◌≡◌, ℕ, List, [], ◌∷◌, Some, None, length}
use Rattle.codec_payload_codec.specs.Depacketizers.{OpusDepacketizing}
use Rattle.codec_payload_sending_history.specs.Packets.{Past}
use Rattle.codec_payload_sending_history.specs.declared.retransmission.HistorySettings.{HistorySettings}
use Rattle.codec_payload_sending_history.specs.declared.retransmission.Resent.{Resent}
use Rattle.codec_payload_sending_history.specs.declared.retransmission.Resent.TheVariants as results
use Rattle.codec_payload_numbers.specs.Numbers.{no_numbers}
use Rattle.codec_payload_buffer_runs.specs.Exact.{AnswersAll}
use Rattle.codec_payload_receiver.specs.Sessions.{Session, session_with}
use Rattle.codec_payload_receiver.specs.declared.receiver.Settings.{Settings}
use Rattle.codec_payload_datagram_runs.specs.HistoryReleases.{AnswersReceiver, plain_steps, plain_steps_of}
use Rattle.codec_payload_datagram_runs.specs.HistoryRuns.{HistoryRuns, Resending, begins_with}
use Rattle.codec_payload_datagram_runs.specs.Releases.{AllComeFirst, IsKnownOf, IsWithinWindows, ReleasesUnits, delivered, received_steps}
use Rattle.codec_payload_datagram_runs.specs.WireRunExample.{at, frames_sent, one_each, opus_sender, opus_settings}
use Rattle.codec_payload_datagram_runs.specs.declared.history_run.HistoryStep.{HistoryStep}
use Rattle.codec_payload_datagram_runs.specs.declared.history_run.HistoryStep.TheVariants as history_steps
use Rattle.codec_payload_datagram_runs.specs.declared.run.DatagramStep.{DatagramStep}
use Rattle.codec_payload_datagram_runs.specs.declared.run.DatagramStep.TheVariants as steps

-- retransmissions have SSRC 8 and payload type 112; the same packet is resent again after 20 ms
abbrev pub history_settings : HistorySettings
history_settings = record { limit = 500; interval = 20; stream = Some (record { ssrc = 8; payload_type = 112; first_number = 7 }) }

abbrev pub new_history : Past
new_history = record { limit = 500; interval = 20; stream = history_settings.stream; next = 7; newest = 0; refused = None; packets = [] }

abbrev pub resent_settings : Vec ℕ → Settings
resent_settings no_media = record (opus_settings no_media) { retransmission = Some (record { ssrc = 8; payload_type = 112 }) }

abbrev pub resent_receiver : Vec ℕ → Session
resent_receiver no_media = session_with (resent_settings no_media) OpusDepacketizing None (no_numbers 3000 1000)

-- the numbers are 65,535, 0 and 1: number 0 is requested three times, and the second request is too soon
abbrev pub resent_steps : List HistoryStep
resent_steps =
    history_steps.Plain (steps.Send 0) ∷ history_steps.Plain (steps.Send 1) ∷ history_steps.Plain (steps.Deliver 0 (at 25)) ∷ history_steps.Plain (steps.Send 2)
    ∷ history_steps.Plain (steps.Deliver 2 (at 65)) ∷ history_steps.Resend 0 (at 80) ∷ history_steps.Resend 0 (at 90) ∷ history_steps.Resend 0 (at 105)
    ∷ history_steps.DeliverAgain 1 (at 120) ∷ history_steps.Plain steps.Finish ∷ history_steps.Plain (steps.Pop (at 121)) ∷ history_steps.Plain (steps.Pop (at 121))
    ∷ history_steps.Plain (steps.Pop (at 121)) ∷ []

abbrev pub answered : List Resent
answered = results.Written ∷ results.TooSoon ∷ results.Written ∷ []

-- the steps of the run without a history
abbrev pub plain : List DatagramStep
plain = plain_steps 65535 frames_sent 0 [] resent_steps one_each answered

-- before any step
abbrev pub example_begins : Vec ℕ → Resending
example_begins no_media = begins_with opus_sender new_history (resent_receiver no_media)

-- the pops of the run return all units
abbrev pub PopsAllUnits : Resending → Resending → Type 0
PopsAllUnits s t =
    (r : ReleasesUnits frames_sent (plain_steps_of frames_sent resent_steps s t) s.wire t.wire)
    × AnswersAll (IsKnownOf frames_sent (plain_steps_of frames_sent resent_steps s t) s.wire t.wire r.units) 0 r.units t.wire.pops

-- the premises of a run with a history can be met, also the premise under which all units are popped
pub record HistoryCanBeMet : Type 0 where
  pub answers : (no_media : Vec ℕ) → AnswersReceiver new_history (resent_receiver no_media)
  pub within : (no_media : Vec ℕ) → IsWithinWindows frames_sent plain opus_sender (resent_receiver no_media) one_each
  pub all_come : AllComeFirst 4096 3 (received_steps frames_sent 0 plain one_each)
  -- the packets that it delivers
  pub are_delivered : delivered (received_steps frames_sent 0 plain one_each) ≡ 0 ∷ 2 ∷ 1 ∷ []
  -- a run with this schedule pops all units, if each sample is sent in one datagram, and the history gives these answers
  pub all_popped : (no_media : Vec ℕ) (t : Resending) → HistoryRuns frames_sent resent_steps (example_begins no_media) t
      → t.wire.sends ≡ one_each → length t.wire.datagrams ≡ 3 → t.answers ≡ answered → PopsAllUnits (example_begins no_media) t
