-- The premises of a run in RED with retransmissions can be met.
use Rattle.std.specs.Global.{Vec}
use Rattle.std.proofs.Common.{◌≡◌, refl, sym, subst, ℕ, ◌+◌, ◌<◌, ◌≤◌, List, [], ◌∷◌, inl, inr, length, arith, lit<, lit≤}
use Rattle.codec_payload_codec.specs.Depacketizers.{OpusDepacketizing}
use Rattle.codec_payload_numbers.specs.Numbers.{no_numbers}
use Rattle.codec_payload_red.specs.RedRun.{IsRecoverable}
use Rattle.codec_payload_sending_history.specs.declared.retransmission.Resent.{Resent}
use Rattle.codec_payload_receiver.specs.declared.receiver.Settings.{Settings}
use Rattle.codec_payload_datagram_runs.proofs.RedRepeatLemmas.{release_in_red_with_history}
use Rattle.codec_payload_datagram_runs.proofs.RedRunExamples.{all_come, recoverable}
use Rattle.codec_payload_datagram_runs.specs.HistoryReleases.{plain_steps}
use Rattle.codec_payload_datagram_runs.specs.HistoryRunExample.{history_settings, new_history}
use Rattle.codec_payload_datagram_runs.specs.RedHistoryReleases.{AnswersInRed}
use Rattle.codec_payload_datagram_runs.specs.RedHistoryRunExample.{PopsAllAgain, RedHistoryCanBeMet, answered_once, red_resent_begins, red_resent_session, red_resent_settings, red_resent_steps, red_resent_stream, red_used_again}
use Rattle.codec_payload_datagram_runs.specs.RedHistoryRuns.{RedHistoryRuns, RedResending}
use Rattle.codec_payload_datagram_runs.specs.RedReleases.{AllComeInRed, AreOfOneRed, IsInRedWithinWindows, entries_in, red_receiver}
use Rattle.codec_payload_datagram_runs.specs.RedRunExample.{frame_entries, lossy_steps, red_writer}
use Rattle.codec_payload_datagram_runs.specs.RedRuns.{RedWire, begins_in_red}
use Rattle.codec_payload_datagram_runs.specs.Releases.{IsWithinWindows, received_steps}
use Rattle.codec_payload_datagram_runs.specs.WireRunExample.{frames_sent, one_each, opus_sender}
use Rattle.codec_payload_datagram_runs.specs.declared.run.DatagramStep.{DatagramStep}
use Rattle.codec_payload_datagram_runs.specs.declared.run.SentSample.{SentSample}

within_again : (no_media : Vec ℕ) → IsWithinWindows frames_sent lossy_steps opus_sender (red_resent_session no_media) one_each
within_again no_media = record {
  settings = red_resent_settings no_media;
  depacketizer = OpusDepacketizing;
  new = refl;
  one_stream = record {
    built_in = refl;
    alike = refl;
    nothing_read = refl;
    clock_rate = refl;
    payload_type = refl;
    not_rtcp = inr (lit< tt);
    ssrc = refl;
    not_again = refl;
    drops_none = refl;
  };
  readable = (refl, (refl, (refl, tt)));
  within = (lit< tt, (lit< tt, lit≤ tt, tt));
  timely = (λ l. absurd (omega (arith, l)), tt);
}

one_red_again : (no_media : Vec ℕ) → AreOfOneRed opus_sender red_writer (red_resent_settings no_media) red_used_again
one_red_again no_media = record { used = refl; red_type = refl; media_type = refl; not_rtcp = inl (lit< tt); not_again = refl }

-- for results of the run with these sends and datagrams
within_red : (no_media : Vec ℕ) (t : RedWire) → t.wire.sends ≡ one_each → entries_in t.wire.datagrams ≡ frame_entries
    → IsInRedWithinWindows frames_sent lossy_steps (begins_in_red opus_sender red_writer (red_resent_session no_media)) t
unfolding within_again
within_red no_media t sends entries =
    let at : (es : List SentSample) → es ≡ one_each
    → (plain : IsWithinWindows frames_sent lossy_steps opus_sender (red_resent_session no_media) es) × (plain.settings ≡ red_resent_settings no_media) =
    λ es same. subst (λ (xs : List SentSample). (plain : IsWithinWindows frames_sent lossy_steps opus_sender (red_resent_session no_media) xs) × (plain.settings ≡ red_resent_settings no_media)) (sym same)
    (within_again no_media, refl) in
    let plain = at t.wire.sends sends in
    record {
      plain = plain.0;
      no_video = refl;
      red = red_used_again;
      one_red = subst (λ (x : Settings). AreOfOneRed opus_sender red_writer x red_used_again) (sym plain.1) (one_red_again no_media);
      apart = subst (λ (x : Settings). x.forward + x.backward + 8 ≤ 65536) (sym plain.1) (lit≤ tt);
      recoverable = subst (λ (x : Settings). IsRecoverable red_writer.red (red_receiver x red_used_again) red_writer.budget (entries_in t.wire.datagrams)) (sym plain.1)
          (subst (IsRecoverable red_writer.red (red_receiver (red_resent_settings no_media) red_used_again) red_writer.budget) (sym entries) (recoverable no_media));
    }

answers_in_red : (no_media : Vec ℕ) → AnswersInRed new_history (red_resent_session no_media)
answers_in_red no_media = record {
  settings = history_settings;
  new = refl;
  heard = record {
    again = record { ssrc = 8; payload_type = 113 };
    named = refl;
    ssrc = refl;
    no_other = λ same. omega (arith, same);
    red = red_resent_stream;
    used = refl;
    red_type = refl;
    no_media = λ same. omega (arith, same);
    not_rtcp = inr (lit< tt);
  };
}

-- the plain steps, with other results
abbrev plain_by : List SentSample → List Resent → List DatagramStep
plain_by sends answers = plain_steps 65535 frames_sent 0 [] red_resent_steps sends answers

pops_all_again : (no_media : Vec ℕ) (t : RedResending) → RedHistoryRuns frames_sent red_resent_steps (red_resent_begins no_media) t → t.red.wire.sends ≡ one_each
    → length t.red.wire.datagrams ≡ 3 → entries_in t.red.wire.datagrams ≡ frame_entries → t.answers ≡ answered_once → PopsAllAgain (red_resent_begins no_media) t
pops_all_again no_media t run sends count entries answers =
    let plain_is : plain_by t.red.wire.sends t.answers ≡ lossy_steps =
    subst (λ (es : List SentSample). plain_by es t.answers ≡ lossy_steps) (sym sends) (subst (λ (as' : List Resent). plain_by one_each as' ≡ lossy_steps) (sym answers) refl) in
    let within : IsInRedWithinWindows frames_sent (plain_by t.red.wire.sends t.answers) (begins_in_red opus_sender red_writer (red_resent_session no_media)) t.red =
    subst (λ (ss : List DatagramStep). IsInRedWithinWindows frames_sent ss (begins_in_red opus_sender red_writer (red_resent_session no_media)) t.red) (sym plain_is) (within_red no_media t.red sends entries) in
    let r = release_in_red_with_history frames_sent red_resent_steps opus_sender red_writer new_history (red_resent_session no_media) t run (answers_in_red no_media) within in
    let all : AllComeInRed 4096 (length t.red.wire.datagrams) (no_numbers 3000 1000) red_writer t.red.wire.datagrams (received_steps frames_sent 0 (plain_by t.red.wire.sends t.answers) t.red.wire.sends) =
    subst (λ (n : ℕ). AllComeInRed 4096 n (no_numbers 3000 1000) red_writer t.red.wire.datagrams (received_steps frames_sent 0 (plain_by t.red.wire.sends t.answers) t.red.wire.sends)) (sym count)
    (subst (λ (ss : List DatagramStep). AllComeInRed 4096 3 (no_numbers 3000 1000) red_writer t.red.wire.datagrams (received_steps frames_sent 0 ss t.red.wire.sends)) (sym plain_is)
    (subst (λ (es : List SentSample). AllComeInRed 4096 3 (no_numbers 3000 1000) red_writer t.red.wire.datagrams (received_steps frames_sent 0 lossy_steps es)) (sym sends)
    (all_come t.red.wire.datagrams entries))) in
    (r, r.exactly all)

pub red_history_can_be_met : RedHistoryCanBeMet
red_history_can_be_met = record { plain_is = refl; answers = answers_in_red; within = within_red; all_popped = pops_all_again }
