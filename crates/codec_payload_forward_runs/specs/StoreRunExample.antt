-- A run with a forwarder and a store whose results meet the premises: of three frames of Opus the second is lost on the second hop. The viewer
-- requests the frame's number, the forwarder writes the packet again, and the packet comes.
use Rattle.std.specs.Global.{Vec}
use Rattle.std.specs.Prelude.{◌≡◌, ℕ, true, List, [], ◌∷◌, Some, None, length}
use Rattle.codec_payload_base.specs.declared.wire.Codec.TheVariants as codecs
use Rattle.codec_payload_buffer_runs.specs.Exact.{AnswersAll}
use Rattle.codec_payload_codec.specs.Depacketizers.{OpusDepacketizing}
use Rattle.codec_payload_numbers.specs.Numbers.{no_numbers}
use Rattle.codec_payload_receiver.specs.Sessions.{Session, session_with}
use Rattle.codec_payload_receiver.specs.declared.receiver.Settings.{Settings}
use Rattle.codec_payload_sending_forward.specs.Forwarding.{Forward}
use Rattle.codec_payload_sending_forward.specs.declared.forwarder.ForwardSettings.{ForwardSettings}
use Rattle.codec_payload_sending_history.specs.Packets.{Past}
use Rattle.codec_payload_sending_history.specs.declared.retransmission.RetransmissionStream.{RetransmissionStream}
use Rattle.codec_payload_datagram_runs.specs.Releases.{AllComeFirst, IsKnownOf, ReleasesUnits, delivered, received_steps}
use Rattle.codec_payload_datagram_runs.specs.WireRunExample.{at, frames_sent, one_each, opus_sender}
use Rattle.codec_payload_datagram_runs.specs.declared.run.DatagramStep.{DatagramStep}
use Rattle.codec_payload_forward_runs.specs.ForwardReleases.{ForwardsStream, viewer_samples, viewer_wire}
use Rattle.codec_payload_forward_runs.specs.ForwardRunExample.{HasResults, forward_settings, forwarder_for, three_answers, viewer_settings}
use Rattle.codec_payload_forward_runs.specs.StoreReleases.{IsStoredWithinWindows, ReleasesFromStore, store_steps_of}
use Rattle.codec_payload_forward_runs.specs.StoreRuns.{StoreRuns, Stored, begins_with_store}
use Rattle.codec_payload_forward_runs.specs.declared.run.ForwardStep.TheVariants as plain
use Rattle.codec_payload_forward_runs.specs.declared.store_run.StoreStep.{StoreStep}
use Rattle.codec_payload_forward_runs.specs.declared.store_run.StoreStep.TheVariants as steps

-- retransmissions have the SSRC 8 and the payload type 112
abbrev pub again_stream : RetransmissionStream
again_stream = record { ssrc = 8; payload_type = 112; first_number = 7 }

abbrev pub again_settings : ForwardSettings
again_settings = record (forward_settings codecs.Opus) { retransmissions = Some again_stream }

abbrev pub again_forwarder : Forward
again_forwarder = record (forwarder_for codecs.Opus) { settings = again_settings; next = 7 }

abbrev pub empty_store : Past
empty_store = record { limit = 500; interval = 0; stream = None; next = 0; newest = 0; refused = None; packets = [] }

abbrev pub again_viewer : Vec ℕ → Settings
again_viewer no_media = record (viewer_settings no_media) { retransmission = Some (record { ssrc = 8; payload_type = 112 }) }

abbrev pub again_receiver : Vec ℕ → Session
again_receiver no_media = session_with (again_viewer no_media) OpusDepacketizing None (no_numbers 3000 1000)

-- the viewer's numbers are 100, 101 and 102
abbrev pub store_run_steps : List StoreStep
store_run_steps =
    steps.Plain (plain.Send 0) ∷ steps.Plain (plain.Forward 0 0) ∷ steps.Plain (plain.Send 1) ∷ steps.Plain (plain.Forward 1 960) ∷ steps.Plain (plain.Send 2) ∷ steps.Plain (plain.Forward 2 1920)
    ∷ steps.Plain (plain.Deliver 0 (at 40)) ∷ steps.Plain (plain.Deliver 2 (at 80)) ∷ steps.Request 101 ∷ steps.DeliverAgain 0 (at 120) ∷ steps.Plain plain.Finish
    ∷ steps.Plain (plain.Pop (at 121)) ∷ steps.Plain (plain.Pop (at 121)) ∷ steps.Plain (plain.Pop (at 121)) ∷ []

abbrev pub again_before : Vec ℕ → Stored
again_before no_media = begins_with_store opus_sender again_forwarder (again_receiver no_media) empty_store

-- the steps of the viewer, if the packet that was written again repeats the second datagram
abbrev pub again_steps : Stored → List DatagramStep
again_steps t = store_steps_of frames_sent store_run_steps t (1 ∷ [])

-- the pops of the run return all units
abbrev pub PopsAllAgain : Stored → Stored → Type 0
PopsAllAgain s t =
    (r : ReleasesUnits (viewer_samples t.hops.forwarder 48000 frames_sent) (again_steps t) (viewer_wire t.hops.forwarder s.hops.wire) (viewer_wire t.hops.forwarder t.hops.wire))
    × AnswersAll (IsKnownOf (viewer_samples t.hops.forwarder 48000 frames_sent) (again_steps t) (viewer_wire t.hops.forwarder s.hops.wire) (viewer_wire t.hops.forwarder t.hops.wire) r.units) 0 r.units t.hops.wire.pops

-- a run with these results meets the premises, also the premise under which all units are popped, if the packet that the forwarder writes
-- again repeats the second one
pub record StoreCanBeMet : Type 0 where
  pub empty : empty_store.packets ≡ []
  pub forwards : ForwardsStream opus_sender again_forwarder
  pub within : (no_media : Vec ℕ) (t : Stored) → StoreRuns frames_sent store_run_steps (again_before no_media) t → HasResults one_each three_answers t.hops → t.found ≡ true ∷ []
      → IsStoredWithinWindows frames_sent store_run_steps (again_before no_media) t (1 ∷ [])
  pub all_come : (t : Stored) → HasResults one_each three_answers t.hops → t.found ≡ true ∷ [] → AllComeFirst 4096 3 (received_steps frames_sent 0 (again_steps t) t.hops.wire.sends)
  -- the datagrams of the sender that come to the viewer
  pub are_delivered : (t : Stored) → HasResults one_each three_answers t.hops → t.found ≡ true ∷ []
      → delivered (received_steps frames_sent 0 (again_steps t) t.hops.wire.sends) ≡ 0 ∷ 2 ∷ 1 ∷ []
  -- A run with this schedule pops all units, if each sample is sent in one datagram, the forwarder writes each of these, and the packet
  -- that the forwarder writes again repeats the second one
  pub all_popped : (no_media : Vec ℕ) (t : Stored) → StoreRuns frames_sent store_run_steps (again_before no_media) t → t.hops.wire.sends ≡ one_each → length t.hops.wire.datagrams ≡ 3
      → t.hops.answers ≡ three_answers → t.found ≡ true ∷ []
      → (released : ReleasesFromStore frames_sent store_run_steps (again_before no_media) t) → released.repeats ≡ 1 ∷ [] → PopsAllAgain (again_before no_media) t
