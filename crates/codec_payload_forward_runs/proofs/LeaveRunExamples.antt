-- A run whose forwarder leaves a frame out, with these results, meets the premises.
use Rattle.std.specs.Global.{Vec}
use Rattle.std.proofs.Common.{◌≡◌, refl, ap, ℕ, zero, suc, ◌<◌, List, [], ◌∷◌, inr, arith, lit<, lit≤}
use Rattle.std.specs.Prelude.{Contains}
use Rattle.codec_payload_base.specs.declared.wire.Codec.TheVariants as codecs
use Rattle.codec_payload_codec.specs.Depacketizers.{OpusDepacketizing, Vp8Depacketizing}
use Rattle.codec_payload_payloader.specs.Sending.{Sample}
use Rattle.codec_payload_sending_forward.specs.Forwarding.{Forward}
use Rattle.codec_payload_sending_forward.specs.Numbers.{is_in}
use Rattle.codec_payload_sending_forward.specs.declared.forwarder.Forwarded.{Forwarded}
use Rattle.codec_payload_vp8.specs.declared.vp8.depacketizer.Vp8Depacketizer.{Vp8Depacketizer}
use Rattle.codec_payload_datagram_runs.specs.Releases.{AllComeFirst, AreOfOneStream, ComeTimely, ComeWithin, delivered, received_steps, times_sent}
use Rattle.codec_payload_datagram_runs.specs.WireRunExample.{at, frames_sent, one_each, opus_sender}
use Rattle.codec_payload_datagram_runs.specs.declared.run.DatagramStep.{DatagramStep}
use Rattle.codec_payload_datagram_runs.specs.declared.run.DatagramStep.TheVariants as seen
use Rattle.codec_payload_datagram_runs.specs.declared.run.SentSample.{SentSample}
use Rattle.codec_payload_forward_runs.proofs.ForwardRunExamples.{by_results}
use Rattle.codec_payload_forward_runs.proofs.SettingsLemmas.{leave_run_keeps}
use Rattle.codec_payload_forward_runs.specs.ForwardRunExample.{HasResults, forward_settings, ids_sender, viewer_settings}
use Rattle.codec_payload_forward_runs.specs.ForwardRuns.{Hops}
use Rattle.codec_payload_forward_runs.specs.LeaveReleases.{AreWhole, ComeNear, Event, IsLeftOutWithinWindows, IsWhole, NoneFilled, came, closed_sender, events, gone_in, kept_forwarded, kept_sends, kept_sends_of, kept_steps, kept_steps_of}
use Rattle.codec_payload_forward_runs.specs.LeaveRunExample.{LeavingCanBeMet, leave_answers, leave_before, leave_frames, leave_ids_before, leave_steps}

-- a frame of one datagram is whole
one_whole : (gone : List ℕ) (first : ℕ) → IsWhole gone first 1
one_whole gone first place l = ap (λ (n : ℕ). is_in n gone) (omega (arith, l))

-- which datagrams are left out is known from the results; so what arrives is within the windows, and timely
abbrev Leaving : List Sample → List SentSample → List Forwarded → Type 0
Leaving samples sends results =
    let all : List Event = events samples 0 leave_steps sends results in
    let gone : List ℕ = gone_in [] all in
    let seen_steps : List DatagramStep = kept_steps gone 0 [] all in
    let entries : List SentSample = kept_sends gone 0 all in
    AreWhole gone 0 all × NoneFilled all × ComeNear (came all) × ComeWithin 3000 1000 (delivered (received_steps samples 0 seen_steps entries))
    × ComeTimely 48000 (times_sent 48000 samples seen_steps entries) (delivered (received_steps samples 0 seen_steps entries))

frames_leaving : Leaving frames_sent one_each leave_answers
frames_leaving = (
  (one_whole (1 ∷ []) 0, (one_whole (1 ∷ []) 1, (one_whole (1 ∷ []) 2, tt))),
  (refl, tt),
  (lit< tt, lit≤ tt, (lit< tt, lit≤ tt, tt)),
  (lit< tt, (lit< tt, lit≤ tt, tt)),
  (λ l. lit≤ tt, tt),
)

ids_leaving : Leaving leave_frames one_each leave_answers
ids_leaving = (
  (one_whole (1 ∷ []) 0, (one_whole (1 ∷ []) 1, (one_whole (1 ∷ []) 2, tt))),
  (refl, tt),
  (lit< tt, lit≤ tt, (lit< tt, lit≤ tt, tt)),
  (lit< tt, (lit< tt, lit≤ tt, tt)),
  (λ l. lit≤ tt, tt),
)

-- behind a forwarder with the settings of the example
opus_stream : (no_media : Vec ℕ) (e : Forward) → e.settings ≡ forward_settings codecs.Opus → AreOfOneStream (closed_sender e 0 opus_sender) (viewer_settings no_media) OpusDepacketizing
opus_stream no_media e is = rw is (record {
  built_in = refl;
  alike = refl;
  nothing_read = refl;
  clock_rate = refl;
  payload_type = refl;
  not_rtcp = inr (lit< tt);
  ssrc = refl;
  not_again = refl;
  drops_none = refl;
})

ids_stream : (d : Vp8Depacketizer) (no_media : Vec ℕ) (e : Forward) → e.settings ≡ forward_settings codecs.Vp8 → AreOfOneStream (closed_sender e 0 ids_sender) (viewer_settings no_media) (Vp8Depacketizing d)
ids_stream d no_media e is = rw is (record {
  built_in = refl;
  alike = refl;
  nothing_read = refl;
  clock_rate = refl;
  payload_type = refl;
  not_rtcp = inr (lit< tt);
  ssrc = refl;
  not_again = refl;
  drops_none = refl;
})

-- A run with these results, and with the forwarder's settings, meets the premises

pub opus_meets : (no_media : Vec ℕ) (t : Hops) → t.forwarder.settings ≡ forward_settings codecs.Opus → HasResults one_each leave_answers t
    → IsLeftOutWithinWindows frames_sent leave_steps (leave_before no_media) t
opus_meets no_media t settings has =
    let a : Leaving frames_sent t.wire.sends t.answers = by_results (Leaving frames_sent) one_each leave_answers t has frames_leaving in
    record {
      leaves = record {
        other = refl;
        ids = λ moves. absurd (cc);
        of_codec = refl;
        widths = record { clock_rate = lit< tt; payload_type = lit< tt; ssrc = lit< tt };
        whole = a.0;
        none_filled = a.1;
        near = a.2;
      };
      settings = viewer_settings no_media;
      depacketizer = OpusDepacketizing;
      new = refl;
      one_stream = opus_stream no_media t.forwarder settings;
      readable = (refl, (refl, (refl, tt)));
      within = a.3;
      timely = a.4;
    }

pub ids_meet : (d : Vp8Depacketizer) (no_media : Vec ℕ) (t : Hops) → t.forwarder.settings ≡ forward_settings codecs.Vp8 → HasResults one_each leave_answers t
    → IsLeftOutWithinWindows leave_frames leave_steps (leave_ids_before d no_media) t
ids_meet d no_media t settings has =
    let a : Leaving leave_frames t.wire.sends t.answers = by_results (Leaving leave_frames) one_each leave_answers t has ids_leaving in
    record {
      leaves = record {
        other = refl;
        ids = λ moves. (refl, lit< tt);
        of_codec = refl;
        widths = record { clock_rate = lit< tt; payload_type = lit< tt; ssrc = lit< tt };
        whole = a.0;
        none_filled = a.1;
        near = a.2;
      };
      settings = viewer_settings no_media;
      depacketizer = Vp8Depacketizing d;
      new = refl;
      one_stream = ids_stream d no_media t.forwarder settings;
      readable = (refl, (refl, (refl, tt)));
      within = a.3;
      timely = a.4;
    }

abbrev before_end : List DatagramStep
before_end = seen.Deliver 1 (at 40) ∷ seen.Deliver 0 (at 41) ∷ []

each_comes : (k : ℕ) → k < 2 → Contains (delivered before_end) k
each_comes zero l = (1, omega arith, refl)
each_comes (suc zero) l = (0, omega arith, refl)
each_comes (suc (suc k)) l = absurd (omega (arith, l))

abbrev Come : List SentSample → List Forwarded → Type 0
Come sends results =
    let all : List Event = events frames_sent 0 leave_steps sends results in
    AllComeFirst 4096 2 (received_steps frames_sent 0 (kept_steps (gone_in [] all) 0 [] all) (kept_sends (gone_in [] all) 0 all))

come : Come one_each leave_answers
come = record {
  few = lit≤ tt;
  before = before_end;
  after = seen.Pop (at 44) ∷ seen.Pop (at 44) ∷ [];
  whole = refl;
  no_pops = tt;
  each = each_comes;
}

pub all_come : (t : Hops) → HasResults one_each leave_answers t
    → AllComeFirst 4096 2 (received_steps frames_sent 0 (kept_steps_of frames_sent leave_steps t) (kept_sends_of frames_sent leave_steps t))
all_come t has = by_results Come one_each leave_answers t has come

abbrev are_kept : List DatagramStep
are_kept = seen.Send 0 ∷ seen.Send 2 ∷ seen.Deliver 1 (at 40) ∷ seen.Deliver 0 (at 41) ∷ seen.Finish ∷ seen.Pop (at 44) ∷ seen.Pop (at 44) ∷ []

pub leaving_can_be_met : LeavingCanBeMet
leaving_can_be_met = record {
  within = λ no_media t run has. opus_meets no_media t (leave_run_keeps frames_sent leave_steps (leave_before no_media) t run) has;
  all_come = all_come;
  ids_within = λ d no_media t run has. ids_meet d no_media t (leave_run_keeps leave_frames leave_steps (leave_ids_before d no_media) t run) has;
  are_gone = λ t has. by_results (λ es rs. gone_in [] (events frames_sent 0 leave_steps es rs) ≡ 1 ∷ []) one_each leave_answers t has refl;
  are_forwarded = λ t has.
      by_results (λ es rs. let all : List Event = events frames_sent 0 leave_steps es rs in kept_forwarded (gone_in [] all) [] all ≡ 0 ∷ 1 ∷ []) one_each leave_answers t has refl;
  are_kept = λ t has.
      by_results (λ es rs. let all : List Event = events frames_sent 0 leave_steps es rs in kept_steps (gone_in [] all) 0 [] all ≡ are_kept) one_each leave_answers t has refl;
}
