-- Runs with two switches that meet all premises on their units: a datagram of the first source, one of the second, and one of the first again,
-- which come to the viewer in another order. The frames are of Opus, and of VP8 with picture ids.
use Rattle.std.specs.Global.{Vec}
use Rattle.std.specs.Prelude.{◌≡◌, ℕ, true, List, [], ◌∷◌}
use Rattle.codec_payload_payloader.specs.Sending.{Sample}
use Rattle.codec_payload_sending_forward.specs.declared.forwarder.Forwarded.{Forwarded}
use Rattle.codec_payload_sending_forward.specs.declared.forwarder.Forwarded.TheVariants as answers
use Rattle.codec_payload_vp8.specs.declared.vp8.depacketizer.Vp8Depacketizer.{Vp8Depacketizer}
use Rattle.codec_payload_datagram_runs.specs.Releases.{AllComeFirst}
use Rattle.codec_payload_datagram_runs.specs.WireRunExample.{at, frame_at, frames_sent, one_each}
use Rattle.codec_payload_datagram_runs.specs.declared.run.DatagramStep.TheVariants as seen
use Rattle.codec_payload_forward_runs.specs.SwitchReleases.{Writing}
use Rattle.codec_payload_forward_runs.specs.SwitchRunExample.{switching_before, two_sent}
use Rattle.codec_payload_forward_runs.specs.SwitchRuns.{SwitchRuns, Switched}
use Rattle.codec_payload_forward_runs.specs.SwitchStretches.{AreStretchesWithinWindows, Stretch, steps_viewed_of, stretches_of}
use Rattle.codec_payload_forward_runs.specs.SwitchUnits.{writings_of}
use Rattle.codec_payload_forward_runs.specs.SwitchUnitsExample.{ids_switching_before}
use Rattle.codec_payload_forward_runs.specs.declared.run.ForwardStep.TheVariants as plain
use Rattle.codec_payload_forward_runs.specs.declared.switch_run.Source.TheVariants as sources
use Rattle.codec_payload_forward_runs.specs.declared.switch_run.SwitchStep.{SwitchStep}
use Rattle.codec_payload_forward_runs.specs.declared.switch_run.SwitchStep.TheVariants as steps

-- a datagram of each source comes while the forwarder wants the other one
abbrev pub back_steps : List SwitchStep
back_steps =
    steps.Of sources.First (plain.Send 0) ∷ steps.Of sources.First (plain.Forward 0 0) ∷ steps.Of sources.Second (plain.Send 0) ∷ steps.Of sources.Second (plain.Forward 0 960) ∷ steps.Want 8
    ∷ steps.Of sources.Second (plain.Send 1) ∷ steps.Of sources.Second (plain.Forward 1 1920) ∷ steps.Of sources.First (plain.Send 1) ∷ steps.Of sources.First (plain.Forward 1 2880) ∷ steps.Want 7
    ∷ steps.Of sources.First (plain.Send 2) ∷ steps.Of sources.First (plain.Forward 2 3840) ∷ steps.Of sources.First (plain.Deliver 0 (at 40)) ∷ steps.Of sources.First (plain.Deliver 2 (at 41))
    ∷ steps.Of sources.First (plain.Deliver 1 (at 42)) ∷ steps.Of sources.First plain.Finish ∷ steps.Of sources.First (plain.Pop (at 43)) ∷ steps.Of sources.First (plain.Pop (at 43))
    ∷ steps.Of sources.First (plain.Pop (at 43)) ∷ []

abbrev pub back_answers : List Forwarded
back_answers = answers.Began ∷ answers.OtherSource ∷ answers.Began ∷ answers.OtherSource ∷ answers.Began ∷ []

-- each sample is sent in one datagram, and the forwarder goes over to the second source and back
pub record GoesBack (t : Switched) : Type 0 where
  pub first : t.hops.wire.sends ≡ one_each
  pub second : t.sends ≡ two_sent
  pub answered : t.hops.answers ≡ back_answers

abbrev pub back_writings : List Writing
back_writings =
    record { source = sources.First; datagram = 0; begins = true } ∷ record { source = sources.Second; datagram = 1; begins = true } ∷ record { source = sources.First; datagram = 2; begins = true } ∷ []

-- the stretches have the first datagram of the first source, the second of the second source, and the third of the first source
abbrev pub back_stretches : List Stretch
back_stretches =
    record { source = sources.First; base = 0; first = 0; past = 1 } ∷ record { source = sources.Second; base = 1; first = 1; past = 2 } ∷ record { source = sources.First; base = 2; first = 2; past = 3 } ∷ []

-- all three frames of VP8 are keyframes
abbrev pub three_keyframes : List Sample
three_keyframes = frame_at 960 (0x00 ∷ 0x01 ∷ 0x00 ∷ []) ∷ frame_at 1920 (0x00 ∷ 0x01 ∷ []) ∷ frame_at 2880 (0x00 ∷ 0x02 ∷ []) ∷ []

-- the premises on the units of a run with two switches can be met, also those of the promise that all units are popped
pub record SwitchedBackCanBeMet : Type 0 where
  pub writes : (t : Switched) → GoesBack t → writings_of frames_sent back_steps t ≡ back_writings
  pub stretches : (no_media : Vec ℕ) (t : Switched) → SwitchRuns frames_sent back_steps (switching_before no_media) t → GoesBack t → stretches_of frames_sent back_steps t ≡ back_stretches
  pub within : (no_media : Vec ℕ) (t : Switched) → SwitchRuns frames_sent back_steps (switching_before no_media) t → GoesBack t → AreStretchesWithinWindows frames_sent back_steps (switching_before no_media) t
  pub ids_within : (d : Vp8Depacketizer) (no_media : Vec ℕ) (t : Switched) → SwitchRuns three_keyframes back_steps (ids_switching_before d no_media) t → GoesBack t
      → AreStretchesWithinWindows three_keyframes back_steps (ids_switching_before d no_media) t
  pub viewed : (t : Switched) → GoesBack t
      → steps_viewed_of frames_sent back_steps t
      ≡ seen.Deliver 0 (at 40) ∷ seen.Deliver 2 (at 41) ∷ seen.Deliver 1 (at 42) ∷ seen.Finish ∷ seen.Pop (at 43) ∷ seen.Pop (at 43) ∷ seen.Pop (at 43) ∷ []
  pub all_come : (t : Switched) → GoesBack t → AllComeFirst 4096 3 (steps_viewed_of frames_sent back_steps t)
