-- A run with two sources of Opus that meets the premises: the forwarder begins with the first, and goes over to the second.
use Rattle.std.specs.Global.{Vec}
use Rattle.std.specs.Prelude.{◌≡◌, ℕ, true, List, [], ◌∷◌, None}
use Rattle.codec_payload_base.specs.declared.wire.Codec.TheVariants as codecs
use Rattle.codec_payload_codec.specs.Depacketizers.{OpusDepacketizing}
use Rattle.codec_payload_rtp.specs.RtpPackets.{Packet, packet_bytes}
use Rattle.codec_payload_sending.specs.Senders.{Sending}
use Rattle.codec_payload_sending_forward.specs.declared.forwarder.Forwarded.{Forwarded}
use Rattle.codec_payload_sending_forward.specs.declared.forwarder.Forwarded.TheVariants as answers
use Rattle.codec_payload_datagram_runs.specs.WireRunExample.{at, frames_sent, one_sent, opus_sender}
use Rattle.codec_payload_datagram_runs.specs.declared.run.SentSample.{SentSample}
use Rattle.codec_payload_forward_runs.specs.ForwardRunExample.{forwarder_for, viewer_receiver}
use Rattle.codec_payload_forward_runs.specs.SwitchReleases.{AreTwoSources, SwitchesOnce, Writing, events_of, writings}
use Rattle.codec_payload_forward_runs.specs.SwitchRuns.{SwitchRuns, Switched, begins_switching}
use Rattle.codec_payload_forward_runs.specs.declared.run.ForwardStep.TheVariants as plain
use Rattle.codec_payload_forward_runs.specs.declared.switch_run.Source.TheVariants as sources
use Rattle.codec_payload_forward_runs.specs.declared.switch_run.SwitchStep.{SwitchStep}
use Rattle.codec_payload_forward_runs.specs.declared.switch_run.SwitchStep.TheVariants as steps

-- the second source has the SSRC 8, and numbers from 500 on
abbrev pub second_sender : Sending
second_sender = record opus_sender { stream = record opus_sender.stream { ssrc = 8; number = 500 } }

-- the first datagram of the second source comes before the forwarder wants that source
abbrev pub switch_steps : List SwitchStep
switch_steps =
    steps.Of sources.First (plain.Send 0) ∷ steps.Of sources.First (plain.Forward 0 0) ∷ steps.Of sources.Second (plain.Send 1) ∷ steps.Of sources.Second (plain.Forward 0 960) ∷ steps.Want 8
    ∷ steps.Of sources.Second (plain.Send 2) ∷ steps.Of sources.Second (plain.Forward 1 1920) ∷ steps.Of sources.First (plain.Deliver 1 (at 40)) ∷ steps.Of sources.First (plain.Deliver 0 (at 41))
    ∷ steps.Of sources.First plain.Finish ∷ steps.Of sources.First (plain.Pop (at 42)) ∷ steps.Of sources.First (plain.Pop (at 42)) ∷ []

abbrev pub two_sent : List SentSample
two_sent = record { count = 1; fault = None } ∷ record { count = 1; fault = None } ∷ []

abbrev pub switch_answers : List Forwarded
switch_answers = answers.Began ∷ answers.OtherSource ∷ answers.Began ∷ []

abbrev pub switching_before : Vec ℕ → Switched
switching_before no_media = begins_switching opus_sender second_sender (forwarder_for codecs.Opus) (viewer_receiver OpusDepacketizing no_media)

-- each sample is sent in one datagram, and the forwarder begins with each source
pub record GoesOver (t : Switched) : Type 0 where
  pub first : t.hops.wire.sends ≡ one_sent
  pub second : t.sends ≡ two_sent
  pub answered : t.hops.answers ≡ switch_answers

abbrev pub two_writings : List Writing
two_writings = record { source = sources.First; datagram = 0; begins = true } ∷ record { source = sources.Second; datagram = 1; begins = true } ∷ []

-- two packets with these numbers were written
abbrev pub AreNumbered : ℕ → ℕ → List (List ℕ) → Type 0
AreNumbered n m written = (p q : Packet) × (written ≡ packet_bytes p ∷ packet_bytes q ∷ []) × (p.header.sequence_number ≡ n) × (q.header.sequence_number ≡ m)

-- the premises of a run with two sources can be met, also those of one switch; and a run that goes over to the second source writes what
-- they sent, under consecutive numbers
pub record SwitchingCanBeMet : Type 0 where
  pub are_two : (no_media : Vec ℕ) → AreTwoSources (switching_before no_media)
  pub writes : (t : Switched) → GoesOver t → writings (events_of frames_sent switch_steps t) ≡ two_writings
  pub once : SwitchesOnce two_writings
  pub numbered : (no_media : Vec ℕ) (t : Switched) → SwitchRuns frames_sent switch_steps (switching_before no_media) t → GoesOver t → AreNumbered 100 101 t.hops.written
