-- Runs with a forwarder whose results meet the premises: three frames of Opus, whose datagrams come in other orders on both hops, and a keyframe of
-- VP8, without picture ids and with them.
use Rattle.std.specs.Global.{Vec}
use Rattle.std.specs.Prelude.{◌≡◌, ℕ, ◌+◌, true, List, [], ◌∷◌, ◌++◌, Some, None}
use Rattle.codec_payload_base.specs.declared.wire.Codec.{Codec}
use Rattle.codec_payload_base.specs.declared.wire.Codec.TheVariants as codecs
use Rattle.codec_payload_codec.specs.Depacketizers.{DepacketizerState, OpusDepacketizing, Vp8Depacketizing}
use Rattle.codec_payload_codec.specs.Packetizers.{Vp8Packetizing}
use Rattle.codec_payload_numbers.specs.Numbers.{no_numbers}
use Rattle.codec_payload_payloader.specs.Sending.{Sample}
use Rattle.codec_payload_receiver.specs.Sessions.{Session, session_with}
use Rattle.codec_payload_receiver.specs.declared.receiver.Settings.{Settings}
use Rattle.codec_payload_sending.specs.Senders.{Sending}
use Rattle.codec_payload_sending_forward.specs.Forwarding.{Forward, payload_for}
use Rattle.codec_payload_sending_forward.specs.Numbers.{begun}
use Rattle.codec_payload_sending_forward.specs.Times.{begun_times}
use Rattle.codec_payload_sending_forward.specs.Ids.{first_ids}
use Rattle.codec_payload_sending_forward.specs.declared.forwarder.Forwarded.{Forwarded}
use Rattle.codec_payload_sending_forward.specs.declared.forwarder.Forwarded.TheVariants as answers
use Rattle.codec_payload_sending_forward.specs.declared.forwarder.ForwardSettings.{ForwardSettings}
use Rattle.codec_payload_vp8.specs.Vp8Sent.{header}
use Rattle.codec_payload_vp8.specs.declared.vp8.depacketizer.Vp8Depacketizer.{Vp8Depacketizer}
use Rattle.codec_payload_datagram_runs.specs.Releases.{AllComeFirst, delivered, received_steps}
use Rattle.codec_payload_datagram_runs.specs.WireRunExample.{at, frame_at, frames_sent, one_each, one_sent, opus_sender, opus_settings}
use Rattle.codec_payload_datagram_runs.specs.declared.run.SentSample.{SentSample}
use Rattle.codec_payload_forward_runs.specs.ForwardReleases.{IsForwardedWithinWindows, viewer_steps_of}
use Rattle.codec_payload_forward_runs.specs.ForwardRuns.{ForwardRuns, Hops, begins_forwarding}
use Rattle.codec_payload_forward_runs.specs.declared.run.ForwardStep.{ForwardStep}
use Rattle.codec_payload_forward_runs.specs.declared.run.ForwardStep.TheVariants as steps

-- the viewer's stream has the SSRC 9, the payload type 109, and numbers from 100 on
abbrev pub forward_settings : Codec → ForwardSettings
forward_settings codec = record { codec = codec; ssrc = 9; payload_type = 109; first_number = 100; first_time = 5000; retransmissions = None }

-- a new forwarder that wants the stream of the sender
abbrev pub forwarder_for : Codec → Forward
forwarder_for codec = record {
  settings = forward_settings codec;
  source = None;
  wanted = Some 7;
  numbers = begun 0 99;
  times = begun_times 0 5000;
  ids = first_ids;
  next = 0;
  written_at = None;
  latest = 0;
}

-- After it forwarded datagrams of the sender: the first has the number 65,535 and the time 960. `last` is the number of the last one
-- after the first, `time` its time, and `now` the moment when it came
abbrev pub forwarder_after : Codec → (last time now : ℕ) → Forward
forwarder_after codec last time now = record (forwarder_for codec) {
  source = Some 7;
  numbers = record (begun 131071 100) { highest = 131071 + last };
  times = record (begun_times 960 5000) { highest = time + 4040 };
  written_at = Some now;
  latest = 131071 + last;
}

abbrev pub viewer_settings : Vec ℕ → Settings
viewer_settings no_media = record (opus_settings no_media) { payload_type = 109; ssrc = Some 9 }

abbrev pub viewer_receiver : DepacketizerState → Vec ℕ → Session
viewer_receiver depacketizer no_media = session_with (viewer_settings no_media) depacketizer None (no_numbers 3000 1000)

abbrev pub before_run : Sending → Codec → Session → Hops
before_run sender codec session = begins_forwarding sender (forwarder_for codec) session

-- a run has these results of sends, and these answers of the forwarder
pub record HasResults (sends : List SentSample) (answered : List Forwarded) (t : Hops) : Type 0 where
  pub sent : t.wire.sends ≡ sends
  pub answers : t.answers ≡ answered

-- the third datagram comes to the forwarder before the second. Of what the forwarder wrote, the second comes to the viewer first, and
-- comes again in the end
abbrev pub forward_steps : List ForwardStep
forward_steps =
    steps.Send 0 ∷ steps.Forward 0 0 ∷ steps.Send 1 ∷ steps.Send 2 ∷ steps.Forward 2 1920 ∷ steps.Forward 1 1920 ∷ steps.Deliver 1 (at 40) ∷ steps.Deliver 0 (at 41) ∷ steps.Deliver 2 (at 42)
    ∷ steps.Deliver 1 (at 43) ∷ steps.Finish ∷ steps.Pop (at 44) ∷ steps.Pop (at 44) ∷ steps.Pop (at 44) ∷ []

abbrev pub three_answers : List Forwarded
three_answers = answers.Began ∷ answers.Written ∷ answers.Written ∷ []

abbrev pub opus_before : Vec ℕ → Hops
opus_before no_media = before_run opus_sender codecs.Opus (viewer_receiver OpusDepacketizing no_media)

-- A keyframe of VP8, whose payload descriptor has no picture id

abbrev pub vp8_frames : List Sample
vp8_frames = frame_at 960 (0x00 ∷ 0x01 ∷ 0x00 ∷ []) ∷ []

abbrev pub vp8_sender : Sending
vp8_sender = record opus_sender { packetizer = Vp8Packetizing None }

abbrev pub vp8_steps : List ForwardStep
vp8_steps = steps.Send 0 ∷ steps.Forward 0 0 ∷ steps.Deliver 0 (at 40) ∷ steps.Pop (at 41) ∷ []

abbrev pub vp8_before : Vp8Depacketizer → Vec ℕ → Hops
vp8_before d no_media = before_run vp8_sender codecs.Vp8 (viewer_receiver (Vp8Depacketizing d) no_media)

abbrev pub one_answer : List Forwarded
one_answer = answers.Began ∷ []

-- The same keyframe from a packetizer whose picture ids begin at 300. The viewer gets the id 0, also in two bytes

abbrev pub ids_sender : Sending
ids_sender = record opus_sender { packetizer = Vp8Packetizing (Some 300) }

abbrev pub ids_before : Vp8Depacketizer → Vec ℕ → Hops
ids_before d no_media = before_run ids_sender codecs.Vp8 (viewer_receiver (Vp8Depacketizing d) no_media)

-- 300 and this offset are 0 modulo 2^15
abbrev pub ids_forwarder : Forward
ids_forwarder = record (forwarder_after codecs.Vp8 0 960 0) { ids = record first_ids { offsets = record { picture = 32468; tl0 = 0 }; picture = 0 } }

-- the payload of the keyframe's packet, and the payload that the viewer gets
abbrev pub ids_payload : List ℕ
ids_payload = header (Some 300) true true ++ (0x00 ∷ 0x01 ∷ 0x00 ∷ [])

abbrev pub viewer_payload : List ℕ
viewer_payload = 0x90 ∷ 0x80 ∷ 0x80 ∷ 0x00 ∷ 0x00 ∷ 0x01 ∷ 0x00 ∷ []

-- a run with these results meets the premises, and those of the promise that all units are popped too
pub record ForwardingCanBeMet : Type 0 where
  pub within : (no_media : Vec ℕ) (t : Hops) → ForwardRuns frames_sent forward_steps (opus_before no_media) t → HasResults one_each three_answers t
      → IsForwardedWithinWindows frames_sent forward_steps (opus_before no_media) t
  pub all_come : (t : Hops) → HasResults one_each three_answers t → AllComeFirst 4096 3 (received_steps frames_sent 0 (viewer_steps_of frames_sent forward_steps t) t.wire.sends)
  pub vp8_within : (d : Vp8Depacketizer) (no_media : Vec ℕ) (t : Hops) → ForwardRuns vp8_frames vp8_steps (vp8_before d no_media) t → HasResults one_sent one_answer t
      → IsForwardedWithinWindows vp8_frames vp8_steps (vp8_before d no_media) t
  pub ids_within : (d : Vp8Depacketizer) (no_media : Vec ℕ) (t : Hops) → ForwardRuns vp8_frames vp8_steps (ids_before d no_media) t → HasResults one_sent one_answer t
      → IsForwardedWithinWindows vp8_frames vp8_steps (ids_before d no_media) t
  pub ids_moved : payload_for codecs.Vp8 ids_forwarder.ids.offsets ids_payload ≡ viewer_payload
  -- the datagrams of the sender that come to the viewer
  pub are_delivered : (t : Hops) → HasResults one_each three_answers t
      → delivered (received_steps frames_sent 0 (viewer_steps_of frames_sent forward_steps t) t.wire.sends) ≡ 2 ∷ 0 ∷ 1 ∷ 2 ∷ []
