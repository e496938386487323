-- Runs with two sources that meet all premises on their units: one datagram of the first source, then two of the second, which come to the
-- viewer in another order. The frames are of Opus, and of VP8 with picture ids.
use Rattle.std.specs.Global.{Vec}
use Rattle.std.specs.Prelude.{◌≡◌, ℕ, true, false, List, [], ◌∷◌}
use Rattle.codec_payload_base.specs.declared.wire.Codec.TheVariants as codecs
use Rattle.codec_payload_codec.specs.Depacketizers.{Vp8Depacketizing}
use Rattle.codec_payload_payloader.specs.Sending.{Sample}
use Rattle.codec_payload_sending.specs.Senders.{Sending}
use Rattle.codec_payload_sending_forward.specs.declared.forwarder.Forwarded.{Forwarded}
use Rattle.codec_payload_sending_forward.specs.declared.forwarder.Forwarded.TheVariants as answers
use Rattle.codec_payload_vp8.specs.declared.vp8.depacketizer.Vp8Depacketizer.{Vp8Depacketizer}
use Rattle.codec_payload_datagram_runs.specs.Releases.{AllComeFirst}
use Rattle.codec_payload_datagram_runs.specs.WireRunExample.{at, frame_at, frames_sent, one_each, one_sent}
use Rattle.codec_payload_datagram_runs.specs.declared.run.DatagramStep.TheVariants as seen
use Rattle.codec_payload_forward_runs.specs.ForwardRunExample.{forwarder_for, ids_sender, viewer_receiver}
use Rattle.codec_payload_forward_runs.specs.SwitchReleases.{Writing}
use Rattle.codec_payload_forward_runs.specs.SwitchRunExample.{switching_before}
use Rattle.codec_payload_forward_runs.specs.SwitchRuns.{SwitchRuns, Switched, begins_switching}
use Rattle.codec_payload_forward_runs.specs.SwitchUnits.{IsSwitchedWithinWindows, viewed_steps_of, writings_of}
use Rattle.codec_payload_forward_runs.specs.declared.run.ForwardStep.TheVariants as plain
use Rattle.codec_payload_forward_runs.specs.declared.switch_run.Source.TheVariants as sources
use Rattle.codec_payload_forward_runs.specs.declared.switch_run.SwitchStep.{SwitchStep}
use Rattle.codec_payload_forward_runs.specs.declared.switch_run.SwitchStep.TheVariants as steps

-- the first datagram of the second source comes before the forwarder wants that source
abbrev pub units_steps : List SwitchStep
units_steps =
    steps.Of sources.First (plain.Send 0) ∷ steps.Of sources.First (plain.Forward 0 0) ∷ steps.Of sources.Second (plain.Send 0) ∷ steps.Of sources.Second (plain.Forward 0 960) ∷ steps.Want 8
    ∷ steps.Of sources.Second (plain.Send 1) ∷ steps.Of sources.Second (plain.Forward 1 1920) ∷ steps.Of sources.Second (plain.Send 2) ∷ steps.Of sources.Second (plain.Forward 2 2880)
    ∷ steps.Of sources.First (plain.Deliver 0 (at 40)) ∷ steps.Of sources.First (plain.Deliver 2 (at 41)) ∷ steps.Of sources.First (plain.Deliver 1 (at 42)) ∷ steps.Of sources.First plain.Finish
    ∷ steps.Of sources.First (plain.Pop (at 43)) ∷ steps.Of sources.First (plain.Pop (at 43)) ∷ steps.Of sources.First (plain.Pop (at 43)) ∷ []

abbrev pub units_answers : List Forwarded
units_answers = answers.Began ∷ answers.OtherSource ∷ answers.Began ∷ answers.Written ∷ []

-- each sample is sent in one datagram, and the forwarder begins with each source
pub record GoesOn (t : Switched) : Type 0 where
  pub first : t.hops.wire.sends ≡ one_sent
  pub second : t.sends ≡ one_each
  pub answered : t.hops.answers ≡ units_answers

abbrev pub three_writings : List Writing
three_writings =
    record { source = sources.First; datagram = 0; begins = true } ∷ record { source = sources.Second; datagram = 1; begins = true } ∷ record { source = sources.Second; datagram = 2; begins = false } ∷ []

-- The same of VP8 with picture ids from 300 on. The first two frames are keyframes, so the forwarder may begin with each

abbrev pub keyframes : List Sample
keyframes = frame_at 960 (0x00 ∷ 0x01 ∷ 0x00 ∷ []) ∷ frame_at 1920 (0x00 ∷ 0x01 ∷ []) ∷ frame_at 2880 (0x01 ∷ 0x02 ∷ []) ∷ []

abbrev pub second_ids_sender : Sending
second_ids_sender = record ids_sender { stream = record ids_sender.stream { ssrc = 8; number = 500 } }

abbrev pub ids_switching_before : Vp8Depacketizer → Vec ℕ → Switched
ids_switching_before d no_media = begins_switching ids_sender second_ids_sender (forwarder_for codecs.Vp8) (viewer_receiver (Vp8Depacketizing d) no_media)

-- the premises on the units of a run with two sources can be met, also those of the promise that all units are popped
pub record SwitchedUnitsCanBeMet : Type 0 where
  pub writes : (t : Switched) → GoesOn t → writings_of frames_sent units_steps t ≡ three_writings
  pub within : (no_media : Vec ℕ) (t : Switched) → SwitchRuns frames_sent units_steps (switching_before no_media) t → GoesOn t → IsSwitchedWithinWindows frames_sent units_steps (switching_before no_media) t
  pub ids_within : (d : Vp8Depacketizer) (no_media : Vec ℕ) (t : Switched) → SwitchRuns keyframes units_steps (ids_switching_before d no_media) t → GoesOn t
      → IsSwitchedWithinWindows keyframes units_steps (ids_switching_before d no_media) t
  -- the viewer's stream has the first frame of the first source, and the second and third of the second source
  pub viewed : (t : Switched) → GoesOn t
      → viewed_steps_of frames_sent units_steps t
      ≡ seen.Deliver 0 (at 40) ∷ seen.Deliver 2 (at 41) ∷ seen.Deliver 1 (at 42) ∷ seen.Finish ∷ seen.Pop (at 43) ∷ seen.Pop (at 43) ∷ seen.Pop (at 43) ∷ []
  pub all_come : (t : Switched) → GoesOn t → AllComeFirst 4096 3 (viewed_steps_of frames_sent units_steps t)
