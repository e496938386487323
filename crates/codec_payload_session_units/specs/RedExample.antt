-- A run of a session that meets the premises in RED: of three frames of Opus the datagram of the second is lost, and the third repeats its
-- payload.
use Rattle.std.specs.Global.{Vec}
use Rattle.std.specs.Prelude.{◌≡◌, ℕ, List, [], ◌∷◌, Some, None, length, false}
use Rattle.codec_payload_base.specs.declared.wire.Codec.TheVariants as codecs
use Rattle.codec_payload_datagram_runs.specs.RedLogs.{StaysInTurn}
use Rattle.codec_payload_datagram_runs.specs.RedReleases.{entries_in}
use Rattle.codec_payload_datagram_runs.specs.RedRunExample.{frame_entries, red_used, red_writer}
use Rattle.codec_payload_datagram_runs.specs.RedRuns.{WritesAll}
use Rattle.codec_payload_datagram_runs.specs.WireRunExample.{at, frames_sent, one_each, opus_sender}
use Rattle.codec_payload_keyframes.specs.declared.unit_gate.FromKeyframe.TheVariants as modes
use Rattle.codec_payload_metadata.specs.Release.{Release}
use Rattle.codec_payload_sending_red.specs.Writers.{Writer}
use Rattle.codec_payload_session_formats.specs.Formats.{plain_format}
use Rattle.codec_payload_session_formats.specs.declared.formats.Format.{Format}
use Rattle.codec_payload_session_formats.specs.declared.formats.SessionSettings.{SessionSettings}
use Rattle.codec_payload_session_stream.specs.declared.events.Event.TheVariants as events
use Rattle.codec_payload_session_runs.specs.Lives.{shown_of}
use Rattle.codec_payload_session_runs.specs.SessionRuns.{Call}
use Rattle.codec_payload_session_runs.specs.Tightness.{datagram_call, poll_call}
use Rattle.codec_payload_session_units.specs.Example.{taken, unit_call}
use Rattle.codec_payload_session_units.specs.OneRedSender.{IsOneRedSenders}
use Rattle.codec_payload_session_units.specs.OneSender.{SendsAll, answers_by}
use Rattle.codec_payload_session_units.specs.RedStreamLogs.{backward_of}

-- Opus in RED of payload type 63, with packets 960 ticks apart
abbrev pub red_format : Format
red_format = record (plain_format 111 (record { codec = codecs.Opus; clock_rate = 48000; octet_align = false })) { red = Some red_used }

-- the datagrams of the sender, and what the writer makes of them
pub record SentInRed : Type 0 where
  pub first : List ℕ
  pub second : List ℕ
  pub third : List ℕ
  pub written_first : Vec ℕ
  pub written_second : Vec ℕ
  pub written_third : Vec ℕ
  pub after : Writer

pub record AreSentInRed (sent : SentInRed) : Type 0 where
  pub sends : SendsAll frames_sent opus_sender one_each (sent.first ∷ sent.second ∷ sent.third ∷ [])
  pub entries : entries_in (sent.first ∷ sent.second ∷ sent.third ∷ []) ≡ frame_entries
  pub writes : WritesAll red_writer (sent.first ∷ sent.second ∷ sent.third ∷ []) (sent.written_first.items ∷ sent.written_second.items ∷ sent.written_third.items ∷ []) sent.after

-- the first and the third datagram come, and three units are released
abbrev pub calls_in_red : SentInRed → Release → Release → Release → List Call
calls_in_red sent r1 r2 r3 =
    datagram_call (at 20) None sent.written_first (taken 7) ∷ datagram_call (at 60) None sent.written_third (taken 7) ∷ poll_call (at 62) (Some (events.Begun 7 111)) ∷ unit_call 62 7 r1 ∷ unit_call 62 7 r2
    ∷ unit_call 62 7 r3 ∷ poll_call (at 62) None ∷ []

-- what the stream was given is its sender's, under these indices
pub record IsRedSendersAt (settings : SessionSettings) (calls : List Call) (indices : List ℕ) (units : ℕ) : Type 0 where
  pub one : IsOneRedSenders settings 7 red_format (shown_of 7 111 calls)
  pub indices_are : one.indices ≡ indices
  pub units_are : length (answers_by (shown_of 7 111 calls)) ≡ units
  pub in_turn : StaysInTurn one.red.step (backward_of red_format) one.indices

-- the premises in RED can be met, also the one of the guarantees pop by pop
abbrev pub RedStreamCanBeMet : Type 0
RedStreamCanBeMet =
    (settings : SessionSettings) → settings.from_keyframe ≡ modes.Mark → (sent : SentInRed) → AreSentInRed sent → (r1 r2 r3 : Release) → IsRedSendersAt settings (calls_in_red sent r1 r2 r3) (0 ∷ 2 ∷ []) 3
