-- A run over datagrams that meets the premises: three frames of Opus, whose datagrams arrive in another order, one of them twice, and a
-- frame of AV1.
use Rattle.std.specs.Global.{Vec}
use Rattle.std.specs.Prelude.{◌≡◌, ℕ, List, [], ◌∷◌, Some, None, true, false}
use Rattle.codec_payload_base.specs.Extensions.{no_values}
use Rattle.codec_payload_base.specs.declared.wire.Ticks.{Ticks}
use Rattle.codec_payload_codec.specs.Depacketizers.{Av1Depacketizing, OpusDepacketizing}
use Rattle.codec_payload_codec.specs.Packetizers.{Av1Packetizing, OpusPacketizing, is_video}
use Rattle.codec_payload_numbers.specs.Numbers.{no_numbers}
use Rattle.codec_payload_jitter.specs.Waiting.{waits_for}
use Rattle.codec_payload_keyframes.specs.declared.unit_gate.FromKeyframe.TheVariants as modes
use Rattle.codec_payload_rtp.specs.ExtensionWriting.{FitsValues}
use Rattle.codec_payload_rtp.specs.declared.values.ExtensionIds.{ExtensionIds}
use Rattle.codec_payload_payloader.specs.Sending.{Sample}
use Rattle.codec_payload_sending.specs.Senders.{Sending, nothing_sent}
use Rattle.codec_payload_receiver.specs.Defaults.{no_ids}
use Rattle.codec_payload_receiver.specs.Sessions.{Session, session_with}
use Rattle.codec_payload_receiver.specs.declared.receiver.Settings.{Settings}
use Rattle.codec_payload_datagram_runs.specs.Releases.{AllComeFirst, IsWithinWindows, ShareIds, delivered, received_steps}
use Rattle.codec_payload_datagram_runs.specs.WireRuns.{begins}
use Rattle.codec_payload_datagram_runs.specs.declared.run.DatagramStep.{DatagramStep}
use Rattle.codec_payload_datagram_runs.specs.declared.run.DatagramStep.TheVariants as steps
use Rattle.codec_payload_datagram_runs.specs.declared.run.SentSample.{SentSample}

-- the frame at this number of ticks of 48 kHz
abbrev pub frame_at : ℕ → List ℕ → Sample
frame_at ticks bytes = record { pt = 111; wallclock = 0; rtp_time = record { numer = ticks; rate = 48000 }; bytes = bytes; start_of_talk_spurt = false; ext_vals = no_values }

abbrev pub frames_sent : List Sample
frames_sent = frame_at 960 (1 ∷ 2 ∷ []) ∷ frame_at 1920 (3 ∷ 4 ∷ []) ∷ frame_at 2880 (5 ∷ []) ∷ []

-- the numbers of its packets are 65,535, 0 and 1
abbrev pub opus_sender : Sending
opus_sender = record {
  packetizer = OpusPacketizing;
  mtu = 1200;
  stream = record { ssrc = 7; payload_type = 111; clock_rate = 48000; ids = no_ids; number = 65535 };
  tailroom = 0;
  counts = nothing_sent;
  datagrams = [];
}

abbrev pub opus_settings : Vec ℕ → Settings
opus_settings no_media = record {
  payload_type = 111;
  no_media = no_media;
  ssrc = Some 7;
  red = None;
  retransmission = None;
  extension_ids = no_ids;
  clock_rate = 48000;
  tick_rate = 1000;
  wait_limits = waits_for 1 100;
  limit = 4096;
  forward = 3000;
  backward = 1000;
  from_keyframe = modes.Mark;
  max_unit = None;
  dependency_descriptor = None;
}

abbrev pub opus_receiver : Vec ℕ → Session
opus_receiver no_media = session_with (opus_settings no_media) OpusDepacketizing None (no_numbers 3000 1000)

abbrev pub at : ℕ → Ticks
at ticks = record { 0 = ticks }

-- the second datagram comes first, and comes again in the end
abbrev pub swapped_steps : List DatagramStep
swapped_steps =
    steps.Send 0 ∷ steps.Send 1 ∷ steps.Deliver 1 (at 25) ∷ steps.Send 2 ∷ steps.Deliver 0 (at 27) ∷ steps.Deliver 2 (at 40) ∷ steps.Deliver 1 (at 41) ∷ steps.Finish
    ∷ steps.Pop (at 42) ∷ steps.Pop (at 42) ∷ steps.Pop (at 42) ∷ []

abbrev pub one_each : List SentSample
one_each = record { count = 1; fault = None } ∷ record { count = 1; fault = None } ∷ record { count = 1; fault = None } ∷ []

-- A frame of AV1 with an orientation, whose element has the id 3

abbrev pub oriented : Sample
oriented = record (frame_at 960 (0x32 ∷ 0x01 ∷ 0x00 ∷ [])) { ext_vals = record no_values { video_orientation = Some 1 } }

abbrev pub some_ids : ExtensionIds
some_ids = record no_ids { video_orientation = Some 3 }

abbrev pub video_sender : Sending
video_sender = record opus_sender { packetizer = Av1Packetizing; stream = record opus_sender.stream { ids = some_ids } }

abbrev pub video_settings : Vec ℕ → Settings
video_settings no_media = record (opus_settings no_media) { extension_ids = some_ids }

abbrev pub video_receiver : Vec ℕ → Session
video_receiver no_media = session_with (video_settings no_media) (Av1Depacketizing []) None (no_numbers 3000 1000)

abbrev pub video_steps : List DatagramStep
video_steps = steps.Send 0 ∷ steps.Deliver 0 (at 25) ∷ steps.Pop (at 26) ∷ []

abbrev pub one_sent : List SentSample
one_sent = record { count = 1; fault = None } ∷ []

-- the premises of a run can be met, those of the promise that all units are popped too, and those of the promise on extension
-- values
pub record CanBeMet : Type 0 where
  pub within : (no_media : Vec ℕ) → IsWithinWindows frames_sent swapped_steps opus_sender (opus_receiver no_media) one_each
  pub all_come : AllComeFirst 4096 3 (received_steps frames_sent 0 swapped_steps one_each)
  pub video : is_video video_sender.packetizer ≡ true
  pub video_within : (no_media : Vec ℕ) → IsWithinWindows (oriented ∷ []) video_steps video_sender (video_receiver no_media) one_sent
  pub ids : (no_media : Vec ℕ) → ShareIds (begins video_sender (video_receiver no_media))
  pub values : FitsValues oriented.ext_vals
  -- the datagrams that it delivers
  pub are_delivered : delivered (received_steps frames_sent 0 swapped_steps one_each) ≡ 1 ∷ 0 ∷ 2 ∷ 1 ∷ []
