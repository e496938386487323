-- Runs whose results meet the premises: of three frames the forwarder leaves the second out, and the other two come to the viewer in another order.
-- The frames are of Opus, and of VP8 with picture ids.
use Rattle.std.specs.Global.{Vec}
use Rattle.std.specs.Prelude.{◌≡◌, ℕ, List, [], ◌∷◌}
use Rattle.codec_payload_base.specs.declared.wire.Codec.TheVariants as codecs
use Rattle.codec_payload_codec.specs.Depacketizers.{OpusDepacketizing, Vp8Depacketizing}
use Rattle.codec_payload_payloader.specs.Sending.{Sample}
use Rattle.codec_payload_sending_forward.specs.declared.forwarder.Forwarded.{Forwarded}
use Rattle.codec_payload_sending_forward.specs.declared.forwarder.Forwarded.TheVariants as answers
use Rattle.codec_payload_vp8.specs.declared.vp8.depacketizer.Vp8Depacketizer.{Vp8Depacketizer}
use Rattle.codec_payload_datagram_runs.specs.Releases.{AllComeFirst, received_steps}
use Rattle.codec_payload_datagram_runs.specs.WireRunExample.{at, frame_at, frames_sent, one_each, opus_sender}
use Rattle.codec_payload_datagram_runs.specs.declared.run.DatagramStep.TheVariants as seen
use Rattle.codec_payload_forward_runs.specs.ForwardRunExample.{HasResults, before_run, ids_sender, viewer_receiver}
use Rattle.codec_payload_forward_runs.specs.ForwardRuns.{Hops}
use Rattle.codec_payload_forward_runs.specs.LeaveReleases.{IsLeftOutWithinWindows, gone_of, kept_forwarded_of, kept_sends_of, kept_steps_of}
use Rattle.codec_payload_forward_runs.specs.LeaveRuns.{LeaveRuns}
use Rattle.codec_payload_forward_runs.specs.declared.leave_run.LeaveStep.{LeaveStep}
use Rattle.codec_payload_forward_runs.specs.declared.leave_run.LeaveStep.TheVariants as steps
use Rattle.codec_payload_forward_runs.specs.declared.run.ForwardStep.TheVariants as plain

-- the second frame is left out
abbrev pub leave_steps : List LeaveStep
leave_steps =
    steps.Plain (plain.Send 0) ∷ steps.Plain (plain.Forward 0 0) ∷ steps.Plain (plain.Send 1) ∷ steps.LeaveOut 1 ∷ steps.Plain (plain.Send 2) ∷ steps.Plain (plain.Forward 2 1920)
    ∷ steps.Plain (plain.Deliver 1 (at 40)) ∷ steps.Plain (plain.Deliver 0 (at 41)) ∷ steps.Plain plain.Finish ∷ steps.Plain (plain.Pop (at 44)) ∷ steps.Plain (plain.Pop (at 44)) ∷ []

abbrev pub leave_answers : List Forwarded
leave_answers = answers.Began ∷ answers.LeftOut ∷ answers.Written ∷ []

abbrev pub leave_before : Vec ℕ → Hops
leave_before no_media = before_run opus_sender codecs.Opus (viewer_receiver OpusDepacketizing no_media)

-- The same of VP8 with picture ids from 300 on. The viewer gets the ids 0 and 1

abbrev pub leave_frames : List Sample
leave_frames = frame_at 960 (0x00 ∷ 0x01 ∷ 0x00 ∷ []) ∷ frame_at 1920 (0x01 ∷ []) ∷ frame_at 2880 (0x01 ∷ 0x02 ∷ []) ∷ []

abbrev pub leave_ids_before : Vp8Depacketizer → Vec ℕ → Hops
leave_ids_before d no_media = before_run ids_sender codecs.Vp8 (viewer_receiver (Vp8Depacketizing d) no_media)

-- a run with these results meets the premises, and those of the promise that all units are popped too
pub record LeavingCanBeMet : Type 0 where
  pub within : (no_media : Vec ℕ) (t : Hops) → LeaveRuns frames_sent leave_steps (leave_before no_media) t → HasResults one_each leave_answers t
      → IsLeftOutWithinWindows frames_sent leave_steps (leave_before no_media) t
  pub all_come : (t : Hops) → HasResults one_each leave_answers t
      → AllComeFirst 4096 2 (received_steps frames_sent 0 (kept_steps_of frames_sent leave_steps t) (kept_sends_of frames_sent leave_steps t))
  pub ids_within : (d : Vp8Depacketizer) (no_media : Vec ℕ) (t : Hops) → LeaveRuns leave_frames leave_steps (leave_ids_before d no_media) t → HasResults one_each leave_answers t
      → IsLeftOutWithinWindows leave_frames leave_steps (leave_ids_before d no_media) t
  -- the second datagram was left out, and the third has its place
  pub are_gone : (t : Hops) → HasResults one_each leave_answers t → gone_of frames_sent leave_steps t ≡ 1 ∷ []
  pub are_forwarded : (t : Hops) → HasResults one_each leave_answers t → kept_forwarded_of frames_sent leave_steps t ≡ 0 ∷ 1 ∷ []
  pub are_kept : (t : Hops) → HasResults one_each leave_answers t
      → kept_steps_of frames_sent leave_steps t ≡ seen.Send 0 ∷ seen.Send 2 ∷ seen.Deliver 1 (at 40) ∷ seen.Deliver 0 (at 41) ∷ seen.Finish ∷ seen.Pop (at 44) ∷ seen.Pop (at 44) ∷ []
