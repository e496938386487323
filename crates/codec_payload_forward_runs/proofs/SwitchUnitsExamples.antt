-- The premises on the units of a run with two sources can be met.
use Rattle.std.specs.Global.{Vec}
use Rattle.std.proofs.Common.{◌≡◌, ◌∙◌, refl, sym, subst, ℕ, zero, suc, ◌+◌, ◌-◌, ◌^◌, ◌<◌, List, [], ◌∷◌, inl, inr, length, arith, lit<, lit≤}
use Rattle.std.specs.Prelude.{Contains}
use Rattle.codec_payload_base.specs.declared.wire.Codec.TheVariants as codecs
use Rattle.codec_payload_codec.specs.Depacketizers.{OpusDepacketizing, Vp8Depacketizing}
use Rattle.codec_payload_payloader.specs.Sending.{Sample}
use Rattle.codec_payload_receiver.specs.Sessions.{Session}
use Rattle.codec_payload_sending.specs.Senders.{Sending}
use Rattle.codec_payload_sending_forward.specs.Forwarding.{Forward}
use Rattle.codec_payload_sending_forward.specs.declared.forwarder.Forwarded.{Forwarded}
use Rattle.codec_payload_vp8.specs.declared.vp8.depacketizer.Vp8Depacketizer.{Vp8Depacketizer}
use Rattle.codec_payload_datagram_runs.specs.Releases.{AllComeFirst, ComeTimely, ComeWithin, delivered, times_sent}
use Rattle.codec_payload_datagram_runs.specs.WireRunExample.{at, frame_at, frames_sent, one_each, one_sent, opus_sender}
use Rattle.codec_payload_datagram_runs.specs.declared.run.DatagramStep.{DatagramStep}
use Rattle.codec_payload_datagram_runs.specs.declared.run.DatagramStep.TheVariants as seen
use Rattle.codec_payload_datagram_runs.specs.declared.run.SentSample.{SentSample}
use Rattle.codec_payload_forward_runs.proofs.SwitchSent.{Made, SendsAll, all_count, made, state_of}
use Rattle.codec_payload_forward_runs.specs.ForwardRunExample.{forwarder_for, ids_sender, viewer_receiver, viewer_settings}
use Rattle.codec_payload_forward_runs.specs.SwitchReleases.{Event, SwitchesOnce, Writing, cut_of, events, start_of, writings}
use Rattle.codec_payload_forward_runs.specs.SwitchRunExample.{second_sender, switching_before}
use Rattle.codec_payload_forward_runs.specs.SwitchRuns.{SwitchRuns, Switched, begins_switching}
use Rattle.codec_payload_forward_runs.specs.SwitchUnits.{IsBetweenFrames, IsSwitchedWithinWindows, NoneAcross, cut_in, sent_in, start_in, stream_samples, stream_sends, stream_steps, viewed_steps, viewed_steps_of, writings_of}
use Rattle.codec_payload_forward_runs.specs.SwitchUnitsExample.{GoesOn, SwitchedUnitsCanBeMet, ids_switching_before, keyframes, second_ids_sender, three_writings, units_answers, units_steps}
use Rattle.codec_payload_forward_runs.specs.declared.switch_run.Source.TheVariants as sources

-- what is said of the results
by_results : (P : List SentSample → List SentSample → List Forwarded → Type 0) (t : Switched) → GoesOn t → P one_sent one_each units_answers → P t.hops.wire.sends t.sends t.hops.answers
by_results P t on here =
    subst (λ (es : List SentSample). P es t.sends t.hops.answers) (sym on.first)
    (subst (λ (es : List SentSample). P one_sent es t.hops.answers) (sym on.second)
    (subst (P one_sent one_each) (sym on.answered) here))

abbrev steps_viewed : List DatagramStep
steps_viewed = seen.Deliver 0 (at 40) ∷ seen.Deliver 2 (at 41) ∷ seen.Deliver 1 (at 42) ∷ seen.Finish ∷ seen.Pop (at 43) ∷ seen.Pop (at 43) ∷ seen.Pop (at 43) ∷ []

-- for three samples
module _ (x y z : Sample) where
  abbrev three : List Sample
  three = x ∷ y ∷ z ∷ []

  abbrev events_by : List SentSample → List SentSample → List Forwarded → List Event
  events_by first second results = events three (record { sent = 0; entries = first }) (record { sent = 0; entries = second }) units_steps results

  abbrev writings_by : List SentSample → List SentSample → List Forwarded → List Writing
  writings_by first second results = writings (events_by first second results)

  abbrev viewed_by : List SentSample → List SentSample → List Forwarded → List DatagramStep
  viewed_by first second results = viewed_steps (cut_of (writings_by first second results)) (start_of (writings_by first second results)) [] (events_by first second results)

  writes_three : (t : Switched) → GoesOn t → writings_of (x ∷ y ∷ z ∷ []) units_steps t ≡ three_writings
  writes_three t on = by_results (λ a b rs. writings_by a b rs ≡ three_writings) t on refl

  are_viewed : (t : Switched) → GoesOn t → viewed_steps_of (x ∷ y ∷ z ∷ []) units_steps t ≡ steps_viewed
  are_viewed t on = by_results (λ a b rs. viewed_by a b rs ≡ steps_viewed) t on refl

  goes_once : (t : Switched) → GoesOn t → SwitchesOnce (writings_of (x ∷ y ∷ z ∷ []) units_steps t)
  goes_once t on = subst SwitchesOnce (sym (writes_three t on)) (record { begun = refl; first_near = tt; second_near = (lit< tt, lit≤ tt, tt) })

  are_between : (t : Switched) → GoesOn t → IsBetweenFrames (x ∷ y ∷ z ∷ []) units_steps t
  are_between t on = record {
    first = by_results (λ a b rs. NoneAcross (cut_of (writings_by a b rs)) 0 (sent_in sources.First three units_steps a)) t on (inl (lit≤ tt), tt);
    second = by_results (λ a b rs. NoneAcross (start_of (writings_by a b rs)) 0 (sent_in sources.Second three units_steps b)) t on (inl (lit≤ tt), (inr (lit≤ tt), (inr (lit≤ tt), tt)));
  }

  come_within : (t : Switched) → GoesOn t → ComeWithin 3000 1000 (delivered (viewed_steps_of (x ∷ y ∷ z ∷ []) units_steps t))
  come_within t on = subst (λ (ss : List DatagramStep). ComeWithin 3000 1000 (delivered ss)) (sym (are_viewed t on)) (lit< tt, (lit< tt, lit≤ tt, (lit< tt, lit≤ tt, tt)))

  -- the datagram that arrives first was sent first
  come_timely : (rate : ℕ) (times : List ℕ) (t : Switched) → GoesOn t → ComeTimely rate times (delivered (viewed_steps_of (x ∷ y ∷ z ∷ []) units_steps t))
  come_timely rate times t on =
      subst (λ (ss : List DatagramStep). ComeTimely rate times (delivered ss)) (sym (are_viewed t on)) (λ l. absurd (omega (arith, l)), (λ l. absurd (omega (arith, l)), tt))

  are_few : (first second : Sending) (forwarder : Forward) (receiver : Session) (t : Switched) → SwitchRuns (x ∷ y ∷ z ∷ []) units_steps (begins_switching first second forwarder receiver) t → GoesOn t
      → cut_in (x ∷ y ∷ z ∷ []) units_steps t + (length t.datagrams - start_in (x ∷ y ∷ z ∷ []) units_steps t) < 2 ^ 63
  are_few first second forwarder receiver t run on =
      let s : Switched = begins_switching first second forwarder receiver in
      let m : Made three sources.Second units_steps (state_of sources.Second s) (state_of sources.Second t) = made three sources.Second units_steps s t run in
      let later : m.later ≡ one_each = sym m.sends ∙ on.second in
      let count : length t.datagrams ≡ 3 = all_count (sent_in sources.Second three units_steps one_each) second t.second [] t.datagrams
      (subst (λ (es : List SentSample). SendsAll (sent_in sources.Second three units_steps es) second [] t.second t.datagrams) later m.all) in
      let cut_is : cut_of (writings_of (x ∷ y ∷ z ∷ []) units_steps t) ≡ 1 = by_results (λ a b rs. cut_of (writings_by a b rs) ≡ 1) t on refl in
      omega (arith, count, cut_is)

is_within : (no_media : Vec ℕ) (t : Switched) → SwitchRuns frames_sent units_steps (switching_before no_media) t → GoesOn t → IsSwitchedWithinWindows frames_sent units_steps (switching_before no_media) t
is_within no_media t run on =
    let x : Sample = frame_at 960 (1 ∷ 2 ∷ []) in
    let y : Sample = frame_at 1920 (3 ∷ 4 ∷ []) in
    let z : Sample = frame_at 2880 (5 ∷ []) in
    record {
      two = record { differ = λ same. omega (arith, same); not_first = refl; not_second = refl };
      once = goes_once x y z t on;
      between = are_between x y z t on;
      alike = record { mtu = refl; clock_rate = refl; format = inl (record { no_ids = refl; packetizer = refl; of_codec = refl }) };
      widths = record { clock_rate = lit< tt; payload_type = lit< tt; ssrc = lit< tt };
      few = are_few x y z opus_sender second_sender (forwarder_for codecs.Opus) (viewer_receiver OpusDepacketizing no_media) t run on;
      settings = viewer_settings no_media;
      depacketizer = OpusDepacketizing;
      new = refl;
      one_stream = record {
        built_in = refl;
        alike = refl;
        nothing_read = refl;
        clock_rate = refl;
        payload_type = refl;
        not_rtcp = inr (lit< tt);
        ssrc = refl;
        not_again = refl;
        drops_none = refl;
      };
      readable = (refl, (refl, (refl, tt)));
      within = come_within x y z t on;
      timely = λ stream. come_timely x y z 48000 (times_sent 48000 (stream_samples frames_sent units_steps 48000 stream.before stream.after t) (stream_steps frames_sent units_steps t) (stream_sends frames_sent units_steps t)) t on;
    }

ids_are_within : (d : Vp8Depacketizer) (no_media : Vec ℕ) (t : Switched) → SwitchRuns keyframes units_steps (ids_switching_before d no_media) t → GoesOn t
    → IsSwitchedWithinWindows keyframes units_steps (ids_switching_before d no_media) t
ids_are_within d no_media t run on =
    let x : Sample = frame_at 960 (0x00 ∷ 0x01 ∷ 0x00 ∷ []) in
    let y : Sample = frame_at 1920 (0x00 ∷ 0x01 ∷ []) in
    let z : Sample = frame_at 2880 (0x01 ∷ 0x02 ∷ []) in
    record {
      two = record { differ = λ same. omega (arith, same); not_first = refl; not_second = refl };
      once = goes_once x y z t on;
      between = are_between x y z t on;
      alike = record { mtu = refl; clock_rate = refl; format = inr (record { codec_is = refl; first_id = 300; first_is = refl; second_id = 300; second_is = refl; room = lit< tt }) };
      widths = record { clock_rate = lit< tt; payload_type = lit< tt; ssrc = lit< tt };
      few = are_few x y z ids_sender second_ids_sender (forwarder_for codecs.Vp8) (viewer_receiver (Vp8Depacketizing d) no_media) t run on;
      settings = viewer_settings no_media;
      depacketizer = Vp8Depacketizing d;
      new = refl;
      one_stream = record {
        built_in = refl;
        alike = refl;
        nothing_read = refl;
        clock_rate = refl;
        payload_type = refl;
        not_rtcp = inr (lit< tt);
        ssrc = refl;
        not_again = refl;
        drops_none = refl;
      };
      readable = (refl, (refl, (refl, tt)));
      within = come_within x y z t on;
      timely = λ stream. come_timely x y z 48000 (times_sent 48000 (stream_samples keyframes units_steps 48000 stream.before stream.after t) (stream_steps keyframes units_steps t) (stream_sends keyframes units_steps t)) t on;
    }

abbrev before_end : List DatagramStep
before_end = seen.Deliver 0 (at 40) ∷ seen.Deliver 2 (at 41) ∷ seen.Deliver 1 (at 42) ∷ []

each_comes : (k : ℕ) → k < 3 → Contains (delivered before_end) k
each_comes zero l = (0, omega arith, refl)
each_comes (suc zero) l = (2, omega arith, refl)
each_comes (suc (suc zero)) l = (1, omega arith, refl)
each_comes (suc (suc (suc k))) l = absurd (omega (arith, l))

frames_written : (t : Switched) → GoesOn t → writings_of frames_sent units_steps t ≡ three_writings
frames_written t on = writes_three (frame_at 960 (1 ∷ 2 ∷ [])) (frame_at 1920 (3 ∷ 4 ∷ [])) (frame_at 2880 (5 ∷ [])) t on

frames_viewed : (t : Switched) → GoesOn t → viewed_steps_of frames_sent units_steps t ≡ steps_viewed
frames_viewed t on = are_viewed (frame_at 960 (1 ∷ 2 ∷ [])) (frame_at 1920 (3 ∷ 4 ∷ [])) (frame_at 2880 (5 ∷ [])) t on

all_comes : (t : Switched) → GoesOn t → AllComeFirst 4096 3 (viewed_steps_of frames_sent units_steps t)
all_comes t on =
    subst (AllComeFirst 4096 3) (sym (frames_viewed t on))
    (record { few = lit≤ tt; before = before_end; after = seen.Pop (at 43) ∷ seen.Pop (at 43) ∷ seen.Pop (at 43) ∷ []; whole = refl; no_pops = tt; each = each_comes })

pub units_can_be_met : SwitchedUnitsCanBeMet
units_can_be_met = record { writes = frames_written; within = is_within; ids_within = ids_are_within; viewed = frames_viewed; all_come = all_comes }
