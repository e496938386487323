-- A run with a forwarder and these results meets the premises.
use Rattle.std.specs.Global.{Vec}
use Rattle.std.proofs.Common.{◌≡◌, refl, sym, subst, ℕ, zero, suc, ◌<◌, List, [], ◌∷◌, inr, arith, lit<, lit≤}
use Rattle.std.specs.Prelude.{Contains}
use Rattle.codec_payload_base.specs.declared.wire.Codec.TheVariants as codecs
use Rattle.codec_payload_codec.specs.Depacketizers.{OpusDepacketizing, Vp8Depacketizing}
use Rattle.codec_payload_payloader.specs.Sending.{Sample}
use Rattle.codec_payload_sending_forward.specs.Forwarding.{Forward}
use Rattle.codec_payload_sending_forward.specs.declared.forwarder.Forwarded.{Forwarded}
use Rattle.codec_payload_vp8.specs.declared.vp8.depacketizer.Vp8Depacketizer.{Vp8Depacketizer}
use Rattle.codec_payload_datagram_runs.specs.Releases.{AllComeFirst, AreOfOneStream, ComeTimely, ComeWithin, delivered, received_steps, times_sent}
use Rattle.codec_payload_datagram_runs.specs.WireRunExample.{at, frames_sent, one_each, one_sent, opus_sender}
use Rattle.codec_payload_datagram_runs.specs.declared.run.DatagramStep.{DatagramStep}
use Rattle.codec_payload_datagram_runs.specs.declared.run.DatagramStep.TheVariants as plain
use Rattle.codec_payload_datagram_runs.specs.declared.run.SentSample.{SentSample}
use Rattle.codec_payload_forward_runs.proofs.SettingsLemmas.{run_keeps}
use Rattle.codec_payload_forward_runs.specs.ForwardReleases.{IsForwardedWithinWindows, viewer_sender, viewer_steps, viewer_steps_of}
use Rattle.codec_payload_forward_runs.specs.ForwardRuns.{ForwardRuns, Hops}
use Rattle.codec_payload_forward_runs.specs.ForwardRunExample.{ForwardingCanBeMet, HasResults, forward_settings, forward_steps, ids_before, ids_sender, one_answer, opus_before, three_answers, viewer_settings, vp8_before, vp8_frames, vp8_sender, vp8_steps}
use Rattle.codec_payload_forward_runs.specs.declared.run.ForwardStep.{ForwardStep}

-- what is said of the results
pub by_results : (P : List SentSample → List Forwarded → Type 0) (sends : List SentSample) (results : List Forwarded) (t : Hops) → HasResults sends results t → P sends results → P t.wire.sends t.answers
by_results P sends results t has here = subst (λ (es : List SentSample). P es t.answers) (sym has.sent) (subst (P sends) (sym has.answers) here)

-- what arrives is within the windows, and timely
abbrev Arrives : List Sample → List ForwardStep → List SentSample → List Forwarded → Type 0
Arrives samples all_steps sends results =
    ComeWithin 3000 1000 (delivered (received_steps samples 0 (viewer_steps samples 0 [] all_steps sends results) sends))
    × ComeTimely 48000 (times_sent 48000 samples (viewer_steps samples 0 [] all_steps sends results) sends) (delivered (received_steps samples 0 (viewer_steps samples 0 [] all_steps sends results) sends))

opus_arrives : Arrives frames_sent forward_steps one_each three_answers
opus_arrives = ((lit< tt, (lit< tt, lit≤ tt, (lit< tt, lit≤ tt, (lit< tt, lit≤ tt, tt)))), (λ l. lit≤ tt, (λ l. lit≤ tt, (λ l. absurd (omega (arith, l)), tt))))

vp8_arrives : Arrives vp8_frames vp8_steps one_sent one_answer
vp8_arrives = ((lit< tt, tt), tt)

-- behind a forwarder with the settings of the example
opus_stream : (no_media : Vec ℕ) (e : Forward) → e.settings ≡ forward_settings codecs.Opus → AreOfOneStream (viewer_sender e opus_sender) (viewer_settings no_media) OpusDepacketizing
opus_stream no_media e is = rw is (record {
  built_in = refl;
  alike = refl;
  nothing_read = refl;
  clock_rate = refl;
  payload_type = refl;
  not_rtcp = inr (lit< tt);
  ssrc = refl;
  not_again = refl;
  drops_none = refl;
})

vp8_stream : (d : Vp8Depacketizer) (no_media : Vec ℕ) (e : Forward) → e.settings ≡ forward_settings codecs.Vp8 → AreOfOneStream (viewer_sender e vp8_sender) (viewer_settings no_media) (Vp8Depacketizing d)
vp8_stream d no_media e is = rw is (record {
  built_in = refl;
  alike = refl;
  nothing_read = refl;
  clock_rate = refl;
  payload_type = refl;
  not_rtcp = inr (lit< tt);
  ssrc = refl;
  not_again = refl;
  drops_none = refl;
})

ids_stream : (d : Vp8Depacketizer) (no_media : Vec ℕ) (e : Forward) → e.settings ≡ forward_settings codecs.Vp8 → AreOfOneStream (viewer_sender e ids_sender) (viewer_settings no_media) (Vp8Depacketizing d)
ids_stream d no_media e is = rw is (record {
  built_in = refl;
  alike = refl;
  nothing_read = refl;
  clock_rate = refl;
  payload_type = refl;
  not_rtcp = inr (lit< tt);
  ssrc = refl;
  not_again = refl;
  drops_none = refl;
})

-- A run with these results, and with the forwarder's settings, meets the premises

pub opus_meets : (no_media : Vec ℕ) (t : Hops) → t.forwarder.settings ≡ forward_settings codecs.Opus → HasResults one_each three_answers t
    → IsForwardedWithinWindows frames_sent forward_steps (opus_before no_media) t
opus_meets no_media t settings has =
    let a = by_results (Arrives frames_sent forward_steps) one_each three_answers t has opus_arrives in
    record {
      forwards = record { none_left_out = λ on. refl; none_closed = λ moves on. refl };
      of_codec = refl;
      widths = record { clock_rate = lit< tt; payload_type = lit< tt; ssrc = lit< tt };
      settings = viewer_settings no_media;
      depacketizer = OpusDepacketizing;
      new = refl;
      one_stream = opus_stream no_media t.forwarder settings;
      readable = (refl, (refl, (refl, tt)));
      within = a.0;
      timely = a.1;
    }

pub vp8_meets : (d : Vp8Depacketizer) (no_media : Vec ℕ) (t : Hops) → t.forwarder.settings ≡ forward_settings codecs.Vp8 → HasResults one_sent one_answer t
    → IsForwardedWithinWindows vp8_frames vp8_steps (vp8_before d no_media) t
vp8_meets d no_media t settings has =
    let a = by_results (Arrives vp8_frames vp8_steps) one_sent one_answer t has vp8_arrives in
    record {
      forwards = record { none_left_out = λ on. refl; none_closed = λ moves on. refl };
      of_codec = refl;
      widths = record { clock_rate = lit< tt; payload_type = lit< tt; ssrc = lit< tt };
      settings = viewer_settings no_media;
      depacketizer = Vp8Depacketizing d;
      new = refl;
      one_stream = vp8_stream d no_media t.forwarder settings;
      readable = (refl, tt);
      within = a.0;
      timely = a.1;
    }

pub ids_meet : (d : Vp8Depacketizer) (no_media : Vec ℕ) (t : Hops) → t.forwarder.settings ≡ forward_settings codecs.Vp8 → HasResults one_sent one_answer t
    → IsForwardedWithinWindows vp8_frames vp8_steps (ids_before d no_media) t
ids_meet d no_media t settings has =
    let a = by_results (Arrives vp8_frames vp8_steps) one_sent one_answer t has vp8_arrives in
    record {
      forwards = record { none_left_out = λ on. refl; none_closed = λ moves on. refl };
      of_codec = refl;
      widths = record { clock_rate = lit< tt; payload_type = lit< tt; ssrc = lit< tt };
      settings = viewer_settings no_media;
      depacketizer = Vp8Depacketizing d;
      new = refl;
      one_stream = ids_stream d no_media t.forwarder settings;
      readable = (refl, tt);
      within = a.0;
      timely = a.1;
    }

abbrev before_end : List DatagramStep
before_end = plain.Deliver 2 (at 40) ∷ plain.Deliver 0 (at 41) ∷ plain.Deliver 1 (at 42) ∷ plain.Deliver 2 (at 43) ∷ []

each_comes : (k : ℕ) → k < 3 → Contains (delivered before_end) k
each_comes zero l = (1, omega arith, refl)
each_comes (suc zero) l = (2, omega arith, refl)
each_comes (suc (suc zero)) l = (0, omega arith, refl)
each_comes (suc (suc (suc k))) l = absurd (omega (arith, l))

abbrev Comes : List SentSample → List Forwarded → Type 0
Comes sends results = AllComeFirst 4096 3 (received_steps frames_sent 0 (viewer_steps frames_sent 0 [] forward_steps sends results) sends)

comes : Comes one_each three_answers
comes = record {
  few = lit≤ tt;
  before = before_end;
  after = plain.Pop (at 44) ∷ plain.Pop (at 44) ∷ plain.Pop (at 44) ∷ [];
  whole = refl;
  no_pops = tt;
  each = each_comes;
}

all_comes : (t : Hops) → HasResults one_each three_answers t → AllComeFirst 4096 3 (received_steps frames_sent 0 (viewer_steps_of frames_sent forward_steps t) t.wire.sends)
all_comes t has = by_results Comes one_each three_answers t has comes

are_delivered : (t : Hops) → HasResults one_each three_answers t → delivered (received_steps frames_sent 0 (viewer_steps_of frames_sent forward_steps t) t.wire.sends) ≡ 2 ∷ 0 ∷ 1 ∷ 2 ∷ []
are_delivered t has =
    by_results (λ es rs. delivered (received_steps frames_sent 0 (viewer_steps frames_sent 0 [] forward_steps es rs) es) ≡ 2 ∷ 0 ∷ 1 ∷ 2 ∷ []) one_each three_answers t has refl

pub can_be_met : ForwardingCanBeMet
can_be_met = record {
  within = λ no_media t run has. opus_meets no_media t (run_keeps frames_sent forward_steps (opus_before no_media) t run) has;
  all_come = all_comes;
  vp8_within = λ d no_media t run has. vp8_meets d no_media t (run_keeps vp8_frames vp8_steps (vp8_before d no_media) t run) has;
  ids_within = λ d no_media t run has. ids_meet d no_media t (run_keeps vp8_frames vp8_steps (ids_before d no_media) t run) has;
  ids_moved = refl;
  are_delivered = are_delivered;
}
