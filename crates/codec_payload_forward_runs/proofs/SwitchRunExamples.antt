-- The premises of a run with two sources can be met.
use Rattle.std.specs.Global.{Vec}
use Rattle.std.proofs.Common.{◌≡◌, ◌∙◌, refl, ap, subst, ℕ, ◌+◌, ◌%◌, List, [], ◌∷◌, arith}
use Rattle.codec_payload_base.specs.declared.wire.Codec.TheVariants as codecs
use Rattle.codec_payload_codec.specs.Depacketizers.{OpusDepacketizing}
use Rattle.codec_payload_rtp.specs.RtpPackets.{Packet, packet_bytes}
use Rattle.codec_payload_sending_forward.specs.declared.forwarder.Forwarded.{Forwarded}
use Rattle.codec_payload_datagram_runs.specs.WireRunExample.{frames_sent, opus_sender}
use Rattle.codec_payload_datagram_runs.specs.declared.run.SentSample.{SentSample}
use Rattle.codec_payload_forward_runs.proofs.SwitchLemmas.{forward_switching}
use Rattle.codec_payload_forward_runs.specs.ForwardRunExample.{forwarder_for, viewer_receiver}
use Rattle.codec_payload_forward_runs.specs.ForwardReleases.{viewer_packet}
use Rattle.codec_payload_forward_runs.specs.SwitchReleases.{AreWritten, AreTwoSources, Reached, Writing, events, events_of, reached_by, writings}
use Rattle.codec_payload_forward_runs.specs.SwitchRunExample.{AreNumbered, GoesOver, SwitchingCanBeMet, second_sender, switch_answers, switch_steps, switching_before, two_sent, two_writings}
use Rattle.codec_payload_forward_runs.specs.SwitchRuns.{SwitchRuns, Switched}

two_written : (first second : List (List ℕ)) (r : Reached) (written : List (List ℕ)) → AreWritten first second r two_writings written → AreNumbered ((r.top + 1) % 65536) ((r.top + 2) % 65536) written
two_written first second r [] are = absurd are
two_written first second r (x ∷ []) are = absurd are.5
two_written first second r (x ∷ y ∷ []) are =
    let one = are.3 in
    let two = are.5.3 in
    let p : Packet = viewer_packet are.1.forwarder are.0 in
    let q : Packet = viewer_packet are.5.1.forwarder are.5.0 in (
      p,
      q,
      ap (λ (b : List ℕ). b ∷ y ∷ []) are.4.0 ∙ ap (λ (b : List ℕ). packet_bytes p ∷ b ∷ []) are.5.4.0,
      one.number ∙ ap (λ (n : ℕ). n % 65536) one.top,
      two.number ∙ (ap (λ (n : ℕ). n % 65536) two.top ∙ omega (arith, one.top)),
    )
two_written first second r (x ∷ y ∷ z ∷ zs) are = absurd are.5.5

-- what was written
writes_two : (t : Switched) → GoesOver t → writings (events_of frames_sent switch_steps t) ≡ two_writings
writes_two t once =
    ap (λ (rs : List Forwarded). writings (events frames_sent (record { sent = 0; entries = t.hops.wire.sends }) (record { sent = 0; entries = t.sends }) switch_steps rs)) once.answered
    ∙ (ap (λ (es : List SentSample). writings (events frames_sent (record { sent = 0; entries = t.hops.wire.sends }) (record { sent = 0; entries = es }) switch_steps switch_answers)) once.second
    ∙ ap (λ (es : List SentSample). writings (events frames_sent (record { sent = 0; entries = es }) (record { sent = 0; entries = two_sent }) switch_steps switch_answers)) once.first)

are_two : (no_media : Vec ℕ) → AreTwoSources (switching_before no_media)
are_two no_media = record { differ = λ same. omega (arith, same); not_first = refl; not_second = refl }

are_numbered : (no_media : Vec ℕ) (t : Switched) → SwitchRuns frames_sent switch_steps (switching_before no_media) t → GoesOver t → AreNumbered 100 101 t.hops.written
are_numbered no_media t run once =
    two_written t.hops.wire.datagrams t.datagrams (reached_by (forwarder_for codecs.Opus)) t.hops.written
    (subst (λ (ws : List Writing). AreWritten t.hops.wire.datagrams t.datagrams (reached_by (forwarder_for codecs.Opus)) ws t.hops.written) (writes_two t once)
    (forward_switching frames_sent switch_steps opus_sender second_sender (forwarder_for codecs.Opus) (viewer_receiver OpusDepacketizing no_media) t run (are_two no_media)))

pub can_be_met : SwitchingCanBeMet
can_be_met = record { are_two = are_two; writes = writes_two; once = record { begun = refl; first_near = tt; second_near = tt }; numbered = are_numbered }
