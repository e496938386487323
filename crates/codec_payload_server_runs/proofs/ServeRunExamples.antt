-- A run of a media server with these results meets the premises.
use Rattle.std.specs.Global.{Vec}
use Rattle.std.proofs.Common.{◌≡◌, refl, sym, subst, ℕ, zero, suc, ◌<◌, List, [], ◌∷◌, inr, arith, lit<, lit≤}
use Rattle.std.specs.Prelude.{Contains}
use Rattle.codec_payload_base.specs.declared.wire.Codec.TheVariants as codecs
use Rattle.codec_payload_codec.specs.Depacketizers.{OpusDepacketizing}
use Rattle.codec_payload_sending_forward.specs.Forwarding.{Forward}
use Rattle.codec_payload_sending_forward.specs.declared.forwarder.Forwarded.{Forwarded}
use Rattle.codec_payload_session.specs.Ports.{new_session}
use Rattle.codec_payload_session_formats.specs.declared.formats.SessionSettings.{SessionSettings}
use Rattle.codec_payload_datagram_runs.specs.Releases.{AllComeFirst, AreOfOneStream, ComeTimely, ComeWithin, delivered, received_steps, times_sent}
use Rattle.codec_payload_datagram_runs.specs.WireRunExample.{at, opus_sender}
use Rattle.codec_payload_datagram_runs.specs.declared.run.DatagramStep.{DatagramStep}
use Rattle.codec_payload_datagram_runs.specs.declared.run.DatagramStep.TheVariants as seen
use Rattle.codec_payload_datagram_runs.specs.declared.run.SentSample.{SentSample}
use Rattle.codec_payload_forward_runs.proofs.ForwardRunExamples as viewer
use Rattle.codec_payload_forward_runs.proofs.SettingsLemmas.{run_keeps}
use Rattle.codec_payload_forward_runs.specs.ForwardReleases.{IsForwardedWithinWindows, viewer_sender, viewer_steps, viewer_steps_of}
use Rattle.codec_payload_forward_runs.specs.ForwardRunExample.{forward_settings, forwarder_for, viewer_receiver, viewer_settings}
use Rattle.codec_payload_forward_runs.specs.ForwardRuns.{Hops}
use Rattle.codec_payload_forward_runs.specs.declared.run.ForwardStep.{ForwardStep}
use Rattle.codec_payload_forward_runs.specs.declared.run.ForwardStep.TheVariants as plain
use Rattle.codec_payload_session_runs.specs.declared.run.StepAnswer.{StepAnswer}
use Rattle.codec_payload_server_runs.proofs.ServeLemmas.{forwarded_run}
use Rattle.codec_payload_server_runs.specs.ServeReleases.{forwarded_steps, forwarded_steps_of}
use Rattle.codec_payload_server_runs.specs.ServeRunExample.{HasServed, HasServedTwo, ServingCanBeMet, sent_stream, serve_steps, served_before, session_answers, two_forwarded, two_frames, two_sent}
use Rattle.codec_payload_server_runs.specs.ServeRuns.{ServeRuns, Served}

-- what is said of the results
pub by_results : (P : List SentSample → List Forwarded → List StepAnswer → Type 0) (sends : List SentSample) (forwards : List Forwarded) (told : List StepAnswer) (hops : Hops) (server_told : List StepAnswer)
    → HasServed sends forwards told hops server_told → P sends forwards told → P hops.wire.sends hops.answers server_told
by_results P sends forwards told hops server_told has here =
    viewer.by_results (λ es rs. P es rs server_told) sends forwards hops has.has (subst (P sends forwards) (sym has.answers) here)

abbrev steps_by : List SentSample → List StepAnswer → List ForwardStep
steps_by sends told = forwarded_steps sent_stream two_frames 0 serve_steps sends told

abbrev seen_by : List SentSample → List Forwarded → List StepAnswer → List DatagramStep
seen_by sends forwards told = viewer_steps two_frames 0 [] (steps_by sends told) sends forwards

abbrev received_by : List SentSample → List Forwarded → List StepAnswer → List DatagramStep
received_by sends forwards told = received_steps two_frames 0 (seen_by sends forwards told) sends

-- what arrives is within the windows, and timely
abbrev Arrives : List SentSample → List Forwarded → List StepAnswer → Type 0
Arrives sends forwards told =
    ComeWithin 3000 1000 (delivered (received_by sends forwards told))
    × ComeTimely 48000 (times_sent 48000 two_frames (seen_by sends forwards told) sends) (delivered (received_by sends forwards told))

arrives : Arrives two_sent two_forwarded session_answers
arrives = ((lit< tt, (lit< tt, lit≤ tt, tt)), (λ l. lit≤ tt, tt))

one_stream : (no_media : Vec ℕ) (e : Forward) → e.settings ≡ forward_settings codecs.Opus → AreOfOneStream (viewer_sender e opus_sender) (viewer_settings no_media) OpusDepacketizing
one_stream no_media e is = rw is (record {
  built_in = refl;
  alike = refl;
  nothing_read = refl;
  clock_rate = refl;
  payload_type = refl;
  not_rtcp = inr (lit< tt);
  ssrc = refl;
  not_again = refl;
  drops_none = refl;
})

is_within : (settings : SessionSettings) (no_media : Vec ℕ) (t : Served) → ServeRuns sent_stream two_frames serve_steps (served_before settings no_media) t → HasServedTwo t
    → IsForwardedWithinWindows two_frames (forwarded_steps_of sent_stream two_frames serve_steps t) (served_before settings no_media).hops t.hops
is_within settings no_media t run has =
    let a : Arrives t.hops.wire.sends t.hops.answers t.answers = by_results Arrives two_sent two_forwarded session_answers t.hops t.answers has arrives in
    let forwards = forwarded_run sent_stream two_frames serve_steps opus_sender (forwarder_for codecs.Opus) (viewer_receiver OpusDepacketizing no_media) (new_session settings) t run (λ again. refl) in
    let kept : t.hops.forwarder.settings ≡ forward_settings codecs.Opus = run_keeps two_frames (forwarded_steps_of sent_stream two_frames serve_steps t) (served_before settings no_media).hops t.hops forwards in
    record {
      forwards = record { none_left_out = λ on. refl; none_closed = λ moves on. refl };
      of_codec = refl;
      widths = record { clock_rate = lit< tt; payload_type = lit< tt; ssrc = lit< tt };
      settings = viewer_settings no_media;
      depacketizer = OpusDepacketizing;
      new = refl;
      one_stream = one_stream no_media t.hops.forwarder kept;
      readable = (refl, (refl, tt));
      within = a.0;
      timely = a.1;
    }

abbrev before_end : List DatagramStep
before_end = seen.Deliver 1 (at 80) ∷ seen.Deliver 0 (at 81) ∷ []

each_comes : (k : ℕ) → k < 2 → Contains (delivered before_end) k
each_comes zero l = (1, omega arith, refl)
each_comes (suc zero) l = (0, omega arith, refl)
each_comes (suc (suc k)) l = absurd (omega (arith, l))

comes : AllComeFirst 4096 2 (received_by two_sent two_forwarded session_answers)
comes = record { few = lit≤ tt; before = before_end; after = seen.Pop (at 82) ∷ seen.Pop (at 82) ∷ []; whole = refl; no_pops = tt; each = each_comes }

all_comes : (t : Served) → HasServedTwo t
    → AllComeFirst 4096 2 (received_steps two_frames 0 (viewer_steps_of two_frames (forwarded_steps_of sent_stream two_frames serve_steps t) t.hops) t.hops.wire.sends)
all_comes t has = by_results (λ es rs ss. AllComeFirst 4096 2 (received_by es rs ss)) two_sent two_forwarded session_answers t.hops t.answers has comes

abbrev steps_forwarded : List ForwardStep
steps_forwarded = plain.Send 0 ∷ plain.Forward 0 20 ∷ plain.Send 1 ∷ plain.Forward 1 60 ∷ plain.Deliver 1 (at 80) ∷ plain.Deliver 0 (at 81) ∷ plain.Finish ∷ plain.Pop (at 82) ∷ plain.Pop (at 82) ∷ []

pub can_be_met : ServingCanBeMet
can_be_met = record {
  unwraps = λ settings no_media has. refl;
  within = is_within;
  all_come = all_comes;
  are_forwarded = λ t has. by_results (λ es rs ss. steps_by es ss ≡ steps_forwarded) two_sent two_forwarded session_answers t.hops t.answers has refl;
}
