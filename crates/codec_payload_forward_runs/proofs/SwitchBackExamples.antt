-- The premises on the units of a run with two switches can be met.
use Rattle.std.specs.Global.{Vec}
use Rattle.std.proofs.Common.{◌≡◌, ◌∙◌, refl, sym, ap, subst, ℕ, zero, suc, ◌^◌, ◌<◌, List, [], ◌∷◌, inl, inr, length, arith, lit<, lit≤}
use Rattle.std.specs.Prelude.{Contains}
use Rattle.codec_payload_base.specs.declared.wire.Codec.TheVariants as codecs
use Rattle.codec_payload_codec.specs.Depacketizers.{OpusDepacketizing, Vp8Depacketizing}
use Rattle.codec_payload_payloader.specs.Sending.{Sample}
use Rattle.codec_payload_receiver.specs.Sessions.{Session}
use Rattle.codec_payload_sending.specs.Senders.{Sending}
use Rattle.codec_payload_sending_forward.specs.Forwarding.{Forward}
use Rattle.codec_payload_sending_forward.specs.declared.forwarder.Forwarded.{Forwarded}
use Rattle.codec_payload_vp8.specs.declared.vp8.depacketizer.Vp8Depacketizer.{Vp8Depacketizer}
use Rattle.codec_payload_datagram_runs.specs.Releases.{AllComeFirst, ComeTimely, ComeWithin, delivered, times_sent}
use Rattle.codec_payload_datagram_runs.specs.WireRunExample.{at, frame_at, frames_sent, one_each, opus_sender}
use Rattle.codec_payload_datagram_runs.specs.declared.run.DatagramStep.{DatagramStep}
use Rattle.codec_payload_datagram_runs.specs.declared.run.DatagramStep.TheVariants as seen
use Rattle.codec_payload_datagram_runs.specs.declared.run.SentSample.{SentSample}
use Rattle.codec_payload_forward_runs.proofs.SwitchSent.{Made, SendsAll, all_count, made, state_of}
use Rattle.codec_payload_forward_runs.specs.ForwardRunExample.{forwarder_for, ids_sender, viewer_receiver, viewer_settings}
use Rattle.codec_payload_forward_runs.specs.SwitchBackExample.{GoesBack, SwitchedBackCanBeMet, back_answers, back_steps, back_stretches, back_writings, three_keyframes}
use Rattle.codec_payload_forward_runs.specs.SwitchReleases.{Event, events, writings}
use Rattle.codec_payload_forward_runs.specs.SwitchRunExample.{second_sender, switching_before, two_sent}
use Rattle.codec_payload_forward_runs.specs.SwitchRuns.{SwitchRuns, Switched, begins_switching}
use Rattle.codec_payload_forward_runs.specs.SwitchStretches.{AreBetweenFrames, AreNear, AreStretchesWithinWindows, Stretch, all_sent, all_steps_of, count_in, no_stretch, samples_viewed, steps_viewed, steps_viewed_of, stretches, stretches_of}
use Rattle.codec_payload_forward_runs.specs.SwitchUnits.{NoneAcross, entries_in, sent_in, writings_of}
use Rattle.codec_payload_forward_runs.specs.SwitchUnitsExample.{ids_switching_before, second_ids_sender}
use Rattle.codec_payload_forward_runs.specs.declared.switch_run.Source.TheVariants as sources

-- what is said of the results
by_results : (P : List SentSample → List SentSample → List Forwarded → Type 0) (t : Switched) → GoesBack t → P one_each two_sent back_answers → P t.hops.wire.sends t.sends t.hops.answers
by_results P t on here =
    subst (λ (es : List SentSample). P es t.sends t.hops.answers) (sym on.first)
    (subst (λ (es : List SentSample). P one_each es t.hops.answers) (sym on.second)
    (subst (P one_each two_sent) (sym on.answered) here))

abbrev back_viewed : List DatagramStep
back_viewed = seen.Deliver 0 (at 40) ∷ seen.Deliver 2 (at 41) ∷ seen.Deliver 1 (at 42) ∷ seen.Finish ∷ seen.Pop (at 43) ∷ seen.Pop (at 43) ∷ seen.Pop (at 43) ∷ []

-- for three samples
module _ (x y z : Sample) where
  abbrev three : List Sample
  three = x ∷ y ∷ z ∷ []

  abbrev events_by : List SentSample → List SentSample → List Forwarded → List Event
  events_by first second results = events three (record { sent = 0; entries = first }) (record { sent = 0; entries = second }) back_steps results

  writes_back : (t : Switched) → GoesBack t → writings_of (x ∷ y ∷ z ∷ []) back_steps t ≡ back_writings
  writes_back t on = by_results (λ a b rs. writings (events_by a b rs) ≡ back_writings) t on refl

  are_viewed : (t : Switched) → GoesBack t → steps_viewed_of (x ∷ y ∷ z ∷ []) back_steps t ≡ back_viewed
  are_viewed t on = by_results (λ a b rs. steps_viewed no_stretch [] (events_by a b rs) ≡ back_viewed) t on refl

  come_near : (t : Switched) → GoesBack t → AreNear no_stretch (writings_of (x ∷ y ∷ z ∷ []) back_steps t)
  come_near t on = subst (AreNear no_stretch) (sym (writes_back t on)) (tt, (tt, (tt, tt)))

  come_within : (t : Switched) → GoesBack t → ComeWithin 3000 1000 (delivered (steps_viewed_of (x ∷ y ∷ z ∷ []) back_steps t))
  come_within t on = subst (λ (ss : List DatagramStep). ComeWithin 3000 1000 (delivered ss)) (sym (are_viewed t on)) (lit< tt, (lit< tt, lit≤ tt, (lit< tt, lit≤ tt, tt)))

  -- the datagram that arrives first was sent first
  come_timely : (rate : ℕ) (times : List ℕ) (t : Switched) → GoesBack t → ComeTimely rate times (delivered (steps_viewed_of (x ∷ y ∷ z ∷ []) back_steps t))
  come_timely rate times t on =
      subst (λ (ss : List DatagramStep). ComeTimely rate times (delivered ss)) (sym (are_viewed t on)) (λ l. absurd (omega (arith, l)), (λ l. absurd (omega (arith, l)), tt))

  module _ (first second : Sending) (forwarder : Forward) (receiver : Session) (t : Switched) (run : SwitchRuns (x ∷ y ∷ z ∷ []) back_steps (begins_switching first second forwarder receiver) t) (on : GoesBack t) where
    -- the first source sent three datagrams
    three_sent : length t.hops.wire.datagrams ≡ 3
    three_sent =
        let s : Switched = begins_switching first second forwarder receiver in
        let m : Made three sources.First back_steps (state_of sources.First s) (state_of sources.First t) = made three sources.First back_steps s t run in
        let later : m.later ≡ one_each = sym m.sends ∙ on.first in
        all_count (sent_in sources.First three back_steps one_each) first t.hops.wire.sending [] t.hops.wire.datagrams
        (subst (λ (es : List SentSample). SendsAll (sent_in sources.First three back_steps es) first [] t.hops.wire.sending t.hops.wire.datagrams) later m.all)

    are_stretches : stretches_of (x ∷ y ∷ z ∷ []) back_steps t ≡ back_stretches
    are_stretches =
        ap (stretches t.hops.wire.datagrams t.datagrams) (writes_back t on)
        ∙ ap (λ (n : ℕ). record { source = sources.First; base = 0; first = 0; past = 1 } ∷ record { source = sources.Second; base = 1; first = 1; past = 2 } ∷ record { source = sources.First; base = 2; first = 2; past = n } ∷ [])
        three_sent

    are_few : count_in (stretches_of (x ∷ y ∷ z ∷ []) back_steps t) < 2 ^ 63
    are_few = subst (λ (gs : List Stretch). count_in gs < 2 ^ 63) (sym are_stretches) (lit< tt)

    -- no frame has datagrams in a stretch and outside of it
    first_across : (index : ℕ) → NoneAcross index 0 (sent_in sources.First three back_steps one_each) → NoneAcross index 0 (sent_in sources.First (x ∷ y ∷ z ∷ []) back_steps t.hops.wire.sends)
    first_across index none = by_results (λ a b rs. NoneAcross index 0 (sent_in sources.First three back_steps a)) t on none

    second_across : (index : ℕ) → NoneAcross index 0 (sent_in sources.Second three back_steps two_sent) → NoneAcross index 0 (sent_in sources.Second (x ∷ y ∷ z ∷ []) back_steps t.sends)
    second_across index none = by_results (λ a b rs. NoneAcross index 0 (sent_in sources.Second three back_steps b)) t on none

    are_between : AreBetweenFrames (x ∷ y ∷ z ∷ []) back_steps t (stretches_of (x ∷ y ∷ z ∷ []) back_steps t)
    are_between = subst (AreBetweenFrames three back_steps t) (sym are_stretches) (
      first_across 0 (inr (lit≤ tt), (inr (lit≤ tt), (inr (lit≤ tt), tt))),
      first_across 1 (inl (lit≤ tt), (inr (lit≤ tt), (inr (lit≤ tt), tt))),
      (
        second_across 1 (inl (lit≤ tt), (inr (lit≤ tt), tt)),
        second_across 2 (inl (lit≤ tt), (inl (lit≤ tt), tt)),
        (
          first_across 2 (inl (lit≤ tt), (inl (lit≤ tt), (inr (lit≤ tt), tt))),
          first_across 3 (inl (lit≤ tt), (inl (lit≤ tt), (inl (lit≤ tt), tt))),
          tt,
        ),
      ),
    )

is_within : (no_media : Vec ℕ) (t : Switched) → SwitchRuns frames_sent back_steps (switching_before no_media) t → GoesBack t → AreStretchesWithinWindows frames_sent back_steps (switching_before no_media) t
is_within no_media t run on =
    let x : Sample = frame_at 960 (1 ∷ 2 ∷ []) in
    let y : Sample = frame_at 1920 (3 ∷ 4 ∷ []) in
    let z : Sample = frame_at 2880 (5 ∷ []) in
    record {
      two = record { differ = λ same. omega (arith, same); not_first = refl; not_second = refl };
      near = come_near x y z t on;
      between = are_between x y z opus_sender second_sender (forwarder_for codecs.Opus) (viewer_receiver OpusDepacketizing no_media) t run on;
      alike = record { mtu = refl; clock_rate = refl; format = inl (record { no_ids = refl; packetizer = refl; of_codec = refl }) };
      widths = record { clock_rate = lit< tt; payload_type = lit< tt; ssrc = lit< tt };
      few = are_few x y z opus_sender second_sender (forwarder_for codecs.Opus) (viewer_receiver OpusDepacketizing no_media) t run on;
      settings = viewer_settings no_media;
      depacketizer = OpusDepacketizing;
      new = refl;
      one_stream = record {
        built_in = refl;
        alike = refl;
        nothing_read = refl;
        clock_rate = refl;
        payload_type = refl;
        not_rtcp = inr (lit< tt);
        ssrc = refl;
        not_again = refl;
        drops_none = refl;
      };
      readable = (refl, (refl, (refl, tt)));
      within = come_within x y z t on;
      timely = λ stream. come_timely x y z 48000 (times_sent 48000 (samples_viewed frames_sent back_steps 48000 t stream.viewed) (all_steps_of frames_sent back_steps t) (entries_in (all_sent frames_sent back_steps t))) t on;
    }

ids_are_within : (d : Vp8Depacketizer) (no_media : Vec ℕ) (t : Switched) → SwitchRuns three_keyframes back_steps (ids_switching_before d no_media) t → GoesBack t
    → AreStretchesWithinWindows three_keyframes back_steps (ids_switching_before d no_media) t
ids_are_within d no_media t run on =
    let x : Sample = frame_at 960 (0x00 ∷ 0x01 ∷ 0x00 ∷ []) in
    let y : Sample = frame_at 1920 (0x00 ∷ 0x01 ∷ []) in
    let z : Sample = frame_at 2880 (0x00 ∷ 0x02 ∷ []) in
    record {
      two = record { differ = λ same. omega (arith, same); not_first = refl; not_second = refl };
      near = come_near x y z t on;
      between = are_between x y z ids_sender second_ids_sender (forwarder_for codecs.Vp8) (viewer_receiver (Vp8Depacketizing d) no_media) t run on;
      alike = record { mtu = refl; clock_rate = refl; format = inr (record { codec_is = refl; first_id = 300; first_is = refl; second_id = 300; second_is = refl; room = lit< tt }) };
      widths = record { clock_rate = lit< tt; payload_type = lit< tt; ssrc = lit< tt };
      few = are_few x y z ids_sender second_ids_sender (forwarder_for codecs.Vp8) (viewer_receiver (Vp8Depacketizing d) no_media) t run on;
      settings = viewer_settings no_media;
      depacketizer = Vp8Depacketizing d;
      new = refl;
      one_stream = record {
        built_in = refl;
        alike = refl;
        nothing_read = refl;
        clock_rate = refl;
        payload_type = refl;
        not_rtcp = inr (lit< tt);
        ssrc = refl;
        not_again = refl;
        drops_none = refl;
      };
      readable = (refl, (refl, (refl, tt)));
      within = come_within x y z t on;
      timely = λ stream.
          come_timely x y z 48000 (times_sent 48000 (samples_viewed three_keyframes back_steps 48000 t stream.viewed) (all_steps_of three_keyframes back_steps t) (entries_in (all_sent three_keyframes back_steps t))) t on;
    }

abbrev before_end : List DatagramStep
before_end = seen.Deliver 0 (at 40) ∷ seen.Deliver 2 (at 41) ∷ seen.Deliver 1 (at 42) ∷ []

each_comes : (k : ℕ) → k < 3 → Contains (delivered before_end) k
each_comes zero l = (0, omega arith, refl)
each_comes (suc zero) l = (2, omega arith, refl)
each_comes (suc (suc zero)) l = (1, omega arith, refl)
each_comes (suc (suc (suc k))) l = absurd (omega (arith, l))

frames_written : (t : Switched) → GoesBack t → writings_of frames_sent back_steps t ≡ back_writings
frames_written t on = writes_back (frame_at 960 (1 ∷ 2 ∷ [])) (frame_at 1920 (3 ∷ 4 ∷ [])) (frame_at 2880 (5 ∷ [])) t on

frames_viewed : (t : Switched) → GoesBack t → steps_viewed_of frames_sent back_steps t ≡ back_viewed
frames_viewed t on = are_viewed (frame_at 960 (1 ∷ 2 ∷ [])) (frame_at 1920 (3 ∷ 4 ∷ [])) (frame_at 2880 (5 ∷ [])) t on

frames_stretch : (no_media : Vec ℕ) (t : Switched) → SwitchRuns frames_sent back_steps (switching_before no_media) t → GoesBack t → stretches_of frames_sent back_steps t ≡ back_stretches
frames_stretch no_media t run on =
    are_stretches (frame_at 960 (1 ∷ 2 ∷ [])) (frame_at 1920 (3 ∷ 4 ∷ [])) (frame_at 2880 (5 ∷ [])) opus_sender second_sender (forwarder_for codecs.Opus) (viewer_receiver OpusDepacketizing no_media) t run on

all_comes : (t : Switched) → GoesBack t → AllComeFirst 4096 3 (steps_viewed_of frames_sent back_steps t)
all_comes t on =
    subst (AllComeFirst 4096 3) (sym (frames_viewed t on))
    (record { few = lit≤ tt; before = before_end; after = seen.Pop (at 43) ∷ seen.Pop (at 43) ∷ seen.Pop (at 43) ∷ []; whole = refl; no_pops = tt; each = each_comes })

pub back_can_be_met : SwitchedBackCanBeMet
back_can_be_met = record { writes = frames_written; stretches = frames_stretch; within = is_within; ids_within = ids_are_within; viewed = frames_viewed; all_come = all_comes }
