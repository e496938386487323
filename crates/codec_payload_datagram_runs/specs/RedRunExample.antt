-- A run in RED that meets the premises: of three frames of Opus the datagram of the second is lost, and the third repeats its payload.
use Rattle.std.specs.Global.{Vec}
use Rattle.std.specs.Prelude.{◌≡◌, ℕ, ◌<◌, ◌≤◌, List, [], ◌∷◌, Some, None, length}
use Rattle.codec_payload_codec.specs.Depacketizers.{OpusDepacketizing}
use Rattle.codec_payload_numbers.specs.Numbers.{no_numbers}
use Rattle.codec_payload_red.specs.RedLevels.{Entry}
use Rattle.codec_payload_sending_red.specs.Writers.{Writer, writer_by}
use Rattle.codec_payload_buffer_runs.specs.Exact.{AnswersAll}
use Rattle.codec_payload_receiver.specs.Sessions.{Session, session_with}
use Rattle.codec_payload_datagrams.specs.declared.kinds.RedStream.{RedStream}
use Rattle.codec_payload_receiver.specs.declared.receiver.RedSettings.{RedSettings}
use Rattle.codec_payload_receiver.specs.declared.receiver.Settings.{Settings}
use Rattle.codec_payload_datagram_runs.specs.RedLogs.{StaysInTurn}
use Rattle.codec_payload_datagram_runs.specs.RedReleases.{AllComeInRed, IsInRedWithinWindows, IsKnownInRed, ReleasesUnitsInRed, entries_in}
use Rattle.codec_payload_datagram_runs.specs.RedRuns.{RedRuns, RedWire, begins_in_red}
use Rattle.codec_payload_datagram_runs.specs.Releases.{ComeWithin, delivered, received_steps}
use Rattle.codec_payload_datagram_runs.specs.WireRunExample.{at, frames_sent, one_each, opus_sender, opus_settings}
use Rattle.codec_payload_datagram_runs.specs.declared.run.DatagramStep.{DatagramStep}
use Rattle.codec_payload_datagram_runs.specs.declared.run.DatagramStep.TheVariants as steps

-- each packet repeats the payload right before it, in at most 1,200 bytes
abbrev pub red_writer : Writer
red_writer = writer_by 63 111 (1 ∷ []) 1200

abbrev pub red_used : RedSettings
red_used = record { payload_type = 63; step = 960; retransmission = None }

abbrev pub red_settings : Vec ℕ → Settings
red_settings no_media = record (opus_settings no_media) { red = Some red_used }

abbrev pub red_stream : RedStream
red_stream = record { payload_type = 63; receiver = record { primary_pt = 111; step = 960 }; retransmission = None }

abbrev pub red_session : Vec ℕ → Session
red_session no_media = session_with (red_settings no_media) OpusDepacketizing (Some red_stream) (no_numbers 3000 1000)

abbrev pub lossy_steps : List DatagramStep
lossy_steps =
    steps.Send 0 ∷ steps.Deliver 0 (at 25) ∷ steps.Send 1 ∷ steps.Send 2 ∷ steps.Deliver 2 (at 65) ∷ steps.Finish ∷ steps.Pop (at 66) ∷ steps.Pop (at 66) ∷ steps.Pop (at 66) ∷ []

abbrev pub red_begins : Vec ℕ → RedWire
red_begins no_media = begins_in_red opus_sender red_writer (red_session no_media)

-- the payloads and times of the three datagrams
abbrev pub frame_entries : List Entry
frame_entries = record { bytes = 1 ∷ 2 ∷ []; time = 960 } ∷ record { bytes = 3 ∷ 4 ∷ []; time = 1920 } ∷ record { bytes = 5 ∷ []; time = 2880 } ∷ []

-- the pops of the run return all units
abbrev pub PopsAllInRed : RedWire → RedWire → Type 0
PopsAllInRed s t = (r : ReleasesUnitsInRed frames_sent lossy_steps s t) × AnswersAll (IsKnownInRed frames_sent lossy_steps s t) 0 r.units t.wire.pops

-- the premises of a run in RED can be met, also the premise under which all units are popped, by a run that sends each frame in one
-- datagram
pub record RedCanBeMet : Type 0 where
  pub within : (no_media : Vec ℕ) (t : RedWire) → t.wire.sends ≡ one_each → entries_in t.wire.datagrams ≡ frame_entries → IsInRedWithinWindows frames_sent lossy_steps (red_begins no_media) t
  pub all_come : (sent : List (List ℕ)) → entries_in sent ≡ frame_entries
      → AllComeInRed 4096 3 (no_numbers 3000 1000) red_writer sent (received_steps frames_sent 0 lossy_steps one_each)
  -- the premise of its promises pop by pop. Deliveries within the windows meet it, if packets are at most 2,016 ticks apart, or the
  -- forward window is at most 4,000
  pub in_turn : StaysInTurn 960 1000 (delivered (received_steps frames_sent 0 lossy_steps one_each))
  pub by_step : (forward backward step : ℕ) (ks : List ℕ) → forward ≤ 32768 → backward < forward → step ≤ 2016 → ComeWithin forward backward ks → StaysInTurn step backward ks
  pub by_window : (forward backward step : ℕ) (ks : List ℕ) → forward ≤ 4000 → backward < forward → step ≤ 16383 → ComeWithin forward backward ks → StaysInTurn step backward ks
  -- the written datagrams that it delivers
  pub are_delivered : delivered (received_steps frames_sent 0 lossy_steps one_each) ≡ 0 ∷ 2 ∷ []
  -- a run with this schedule pops all units
  pub all_popped : (no_media : Vec ℕ) (t : RedWire) → RedRuns frames_sent lossy_steps (red_begins no_media) t
      → t.wire.sends ≡ one_each → length t.wire.datagrams ≡ 3 → entries_in t.wire.datagrams ≡ frame_entries → PopsAllInRed (red_begins no_media) t
