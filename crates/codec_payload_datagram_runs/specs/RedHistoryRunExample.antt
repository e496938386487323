-- A run in RED with retransmissions that meets the premises: of three frames of Opus the datagrams of the second and the third are
-- lost, and a retransmission of the third has both packets.
use Rattle.std.specs.Global.{Vec}
use Rattle.std.specs.Prelude.{◌≡◌, ℕ, List, [], ◌∷◌, Some, length}
use Rattle.codec_payload_codec.specs.Depacketizers.{OpusDepacketizing}
use Rattle.codec_payload_numbers.specs.Numbers.{no_numbers}
use Rattle.codec_payload_sending_history.specs.declared.retransmission.Resent.{Resent}
use Rattle.codec_payload_sending_history.specs.declared.retransmission.Resent.TheVariants as results
use Rattle.codec_payload_buffer_runs.specs.Exact.{AnswersAll}
use Rattle.codec_payload_receiver.specs.Sessions.{Session, session_with}
use Rattle.codec_payload_datagrams.specs.declared.kinds.RedStream.{RedStream}
use Rattle.codec_payload_receiver.specs.declared.receiver.RedSettings.{RedSettings}
use Rattle.codec_payload_receiver.specs.declared.receiver.Settings.{Settings}
use Rattle.codec_payload_datagram_runs.specs.HistoryReleases.{plain_steps}
use Rattle.codec_payload_datagram_runs.specs.HistoryRunExample.{new_history}
use Rattle.codec_payload_datagram_runs.specs.RedHistoryReleases.{AnswersInRed, red_plain_steps_of}
use Rattle.codec_payload_datagram_runs.specs.RedHistoryRuns.{RedHistoryRuns, RedResending, begins_in_red_with}
use Rattle.codec_payload_datagram_runs.specs.RedReleases.{IsInRedWithinWindows, IsKnownInRed, ReleasesUnitsInRed, entries_in}
use Rattle.codec_payload_datagram_runs.specs.RedRunExample.{frame_entries, lossy_steps, red_writer}
use Rattle.codec_payload_datagram_runs.specs.RedRuns.{RedWire, begins_in_red}
use Rattle.codec_payload_datagram_runs.specs.WireRunExample.{at, frames_sent, one_each, opus_sender, opus_settings}
use Rattle.codec_payload_datagram_runs.specs.declared.history_run.HistoryStep.{HistoryStep}
use Rattle.codec_payload_datagram_runs.specs.declared.history_run.HistoryStep.TheVariants as history_steps
use Rattle.codec_payload_datagram_runs.specs.declared.run.DatagramStep.TheVariants as steps

-- retransmissions in RED have the payload type 112, and plain ones would have 113
abbrev pub red_used_again : RedSettings
red_used_again = record { payload_type = 63; step = 960; retransmission = Some 112 }

abbrev pub red_resent_settings : Vec ℕ → Settings
red_resent_settings no_media = record (opus_settings no_media) { red = Some red_used_again; retransmission = Some (record { ssrc = 8; payload_type = 113 }) }

abbrev pub red_resent_stream : RedStream
red_resent_stream = record { payload_type = 63; receiver = record { primary_pt = 111; step = 960 }; retransmission = Some 112 }

abbrev pub red_resent_session : Vec ℕ → Session
red_resent_session no_media = session_with (red_resent_settings no_media) OpusDepacketizing (Some red_resent_stream) (no_numbers 3000 1000)

-- the numbers are 65,535, 0 and 1
abbrev pub red_resent_steps : List HistoryStep
red_resent_steps =
    history_steps.Plain (steps.Send 0) ∷ history_steps.Plain (steps.Deliver 0 (at 25)) ∷ history_steps.Plain (steps.Send 1) ∷ history_steps.Plain (steps.Send 2)
    ∷ history_steps.Resend 1 (at 60) ∷ history_steps.DeliverAgain 0 (at 65) ∷ history_steps.Plain steps.Finish ∷ history_steps.Plain (steps.Pop (at 66))
    ∷ history_steps.Plain (steps.Pop (at 66)) ∷ history_steps.Plain (steps.Pop (at 66)) ∷ []

abbrev pub answered_once : List Resent
answered_once = results.Written ∷ []

abbrev pub red_resent_begins : Vec ℕ → RedResending
red_resent_begins no_media = begins_in_red_with opus_sender red_writer new_history (red_resent_session no_media)

-- the pops of the run return all units
abbrev pub PopsAllAgain : RedResending → RedResending → Type 0
PopsAllAgain s t =
    (r : ReleasesUnitsInRed frames_sent (red_plain_steps_of frames_sent red_resent_steps s t) s.red t.red)
    × AnswersAll (IsKnownInRed frames_sent (red_plain_steps_of frames_sent red_resent_steps s t) s.red t.red) 0 r.units t.red.wire.pops

-- The premises of a run in RED with a history can be met by a run that sends each frame in one datagram. Its plain steps are those of
-- the run in RED without a history (`RedCanBeMet`), so all packets come, and the run stays in a turn of the clock.
pub record RedHistoryCanBeMet : Type 0 where
  pub plain_is : plain_steps 65535 frames_sent 0 [] red_resent_steps one_each answered_once ≡ lossy_steps
  pub answers : (no_media : Vec ℕ) → AnswersInRed new_history (red_resent_session no_media)
  pub within : (no_media : Vec ℕ) (t : RedWire) → t.wire.sends ≡ one_each → entries_in t.wire.datagrams ≡ frame_entries
      → IsInRedWithinWindows frames_sent lossy_steps (begins_in_red opus_sender red_writer (red_resent_session no_media)) t
  -- a run with this schedule pops all units, if the history gives this answer
  pub all_popped : (no_media : Vec ℕ) (t : RedResending) → RedHistoryRuns frames_sent red_resent_steps (red_resent_begins no_media) t
      → t.red.wire.sends ≡ one_each → length t.red.wire.datagrams ≡ 3 → entries_in t.red.wire.datagrams ≡ frame_entries → t.answers ≡ answered_once
      → PopsAllAgain (red_resent_begins no_media) t
