-- A run of a media server whose results meet the premises: two frames of Opus. The datagram of the second one is lost on the first hop, and comes
-- as a retransmission. The viewer gets it first.
use Rattle.std.specs.Global.{Vec}
use Rattle.std.specs.Prelude.{◌≡◌, ℕ, List, [], ◌∷◌, Some, None, Ok}
use Rattle.codec_payload_base.specs.declared.wire.Codec.TheVariants as codecs
use Rattle.codec_payload_codec.specs.Depacketizers.{OpusDepacketizing}
use Rattle.codec_payload_jitter.specs.declared.outcome.Outcome.TheVariants as outcomes
use Rattle.codec_payload_payloader.specs.Sending.{Sample}
use Rattle.codec_payload_sending_forward.specs.declared.forwarder.Forwarded.{Forwarded}
use Rattle.codec_payload_sending_forward.specs.declared.forwarder.Forwarded.TheVariants as forwarded
use Rattle.codec_payload_sending_history.specs.declared.original.OriginalStream.{OriginalStream}
use Rattle.codec_payload_sending_history.specs.declared.retransmission.RetransmissionStream.{RetransmissionStream}
use Rattle.codec_payload_session.specs.Ports.{new_session}
use Rattle.codec_payload_session_formats.specs.declared.formats.SessionSettings.{SessionSettings}
use Rattle.codec_payload_session_stream.specs.declared.arrival.Arrival.TheVariants as arrivals
use Rattle.codec_payload_datagram_runs.specs.Releases.{AllComeFirst, received_steps}
use Rattle.codec_payload_datagram_runs.specs.WireRunExample.{at, frame_at, opus_sender}
use Rattle.codec_payload_datagram_runs.specs.declared.run.SentSample.{SentSample}
use Rattle.codec_payload_forward_runs.specs.ForwardReleases.{IsForwardedWithinWindows, viewer_steps_of}
use Rattle.codec_payload_forward_runs.specs.ForwardRunExample.{HasResults, before_run, viewer_receiver}
use Rattle.codec_payload_forward_runs.specs.ForwardRuns.{Hops}
use Rattle.codec_payload_forward_runs.specs.declared.run.ForwardStep.TheVariants as plain
use Rattle.codec_payload_session_runs.specs.declared.run.SessionStep.TheVariants as calls
use Rattle.codec_payload_session_runs.specs.declared.run.StepAnswer.{StepAnswer}
use Rattle.codec_payload_session_runs.specs.declared.run.StepAnswer.TheVariants as answers
use Rattle.codec_payload_server_runs.specs.ServeReleases.{UnwrapsSender, forwarded_steps_of}
use Rattle.codec_payload_server_runs.specs.ServeRuns.{ServeRuns, Served}
use Rattle.codec_payload_server_runs.specs.declared.run.Moment.{Moment}
use Rattle.codec_payload_server_runs.specs.declared.run.ServeStep.{ServeStep}
use Rattle.codec_payload_server_runs.specs.declared.run.ServeStep.TheVariants as steps

abbrev pub two_frames : List Sample
two_frames = frame_at 960 (1 ∷ 2 ∷ []) ∷ frame_at 1920 (3 ∷ 4 ∷ []) ∷ []

abbrev pub two_sent : List SentSample
two_sent = record { count = 1; fault = None } ∷ record { count = 1; fault = None } ∷ []

-- the stream of the sender, and that of its retransmissions
abbrev pub sent_stream : OriginalStream
sent_stream = record { ssrc = 7; payload_type = 111 }

abbrev pub again_stream : RetransmissionStream
again_stream = record { ssrc = 8; payload_type = 112; first_number = 500 }

-- a time of the session, in milliseconds, which is the same for the forwarder
abbrev pub moment : ℕ → Moment
moment time = record { now = at time; micros = None; time = time }

abbrev pub serve_steps : List ServeStep
serve_steps =
    steps.Send 0 ∷ steps.Arrive 0 (moment 20) ∷ steps.Send 1 ∷ steps.Call (calls.Poll (at 40)) ∷ steps.Repeat 1 again_stream (moment 60) ∷ steps.Deliver 1 (at 80) ∷ steps.Deliver 0 (at 81)
    ∷ steps.Finish ∷ steps.Pop (at 82) ∷ steps.Pop (at 82) ∷ []

-- the session takes both as datagrams of the stream, and has no event in between
abbrev pub session_answers : List StepAnswer
session_answers =
    answers.Received (Ok (arrivals.Stream 7 111 outcomes.Held)) ∷ answers.Polled None ∷ answers.Received (Ok (arrivals.Stream 7 111 outcomes.Held)) ∷ []

abbrev pub served_before : SessionSettings → Vec ℕ → Served
served_before settings no_media = record { hops = before_run opus_sender codecs.Opus (viewer_receiver OpusDepacketizing no_media); server = new_session settings; answers = [] }

-- a media server has these results: those of sends and of the forwarder, and the answers of the session
pub record HasServed (sends : List SentSample) (forwards : List Forwarded) (told : List StepAnswer) (hops : Hops) (server_told : List StepAnswer) : Type 0 where
  pub has : HasResults sends forwards hops
  pub answers : server_told ≡ told

abbrev pub two_forwarded : List Forwarded
two_forwarded = forwarded.Began ∷ forwarded.Written ∷ []

abbrev pub HasServedTwo : Served → Type 0
HasServedTwo t = HasServed two_sent two_forwarded session_answers t.hops t.answers

-- a run with these results meets the premises, also those of the promise that all units are popped
pub record ServingCanBeMet : Type 0 where
  pub unwraps : (settings : SessionSettings) (no_media : Vec ℕ) → UnwrapsSender sent_stream serve_steps (served_before settings no_media)
  pub within : (settings : SessionSettings) (no_media : Vec ℕ) (t : Served) → ServeRuns sent_stream two_frames serve_steps (served_before settings no_media) t → HasServedTwo t
      → IsForwardedWithinWindows two_frames (forwarded_steps_of sent_stream two_frames serve_steps t) (served_before settings no_media).hops t.hops
  pub all_come : (t : Served) → HasServedTwo t
      → AllComeFirst 4096 2 (received_steps two_frames 0 (viewer_steps_of two_frames (forwarded_steps_of sent_stream two_frames serve_steps t) t.hops) t.hops.wire.sends)
  -- what comes to the forwarder
  pub are_forwarded : (t : Served) → HasServedTwo t
      → forwarded_steps_of sent_stream two_frames serve_steps t
      ≡ plain.Send 0 ∷ plain.Forward 0 20 ∷ plain.Send 1 ∷ plain.Forward 1 60 ∷ plain.Deliver 1 (at 80) ∷ plain.Deliver 0 (at 81) ∷ plain.Finish ∷ plain.Pop (at 82) ∷ plain.Pop (at 82) ∷ []
