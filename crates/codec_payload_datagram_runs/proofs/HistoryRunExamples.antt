-- The premises of a run with retransmissions can be met.
use Rattle.std.specs.Global.{Vec}
use Rattle.std.proofs.Common.{◌≡◌, refl, sym, subst, ℕ, zero, suc, ◌<◌, List, [], ◌∷◌, inr, length, arith, lit<, lit≤}
use Rattle.std.specs.Prelude.{Contains}
use Rattle.codec_payload_codec.specs.Depacketizers.{OpusDepacketizing}
use Rattle.codec_payload_sending_history.specs.declared.retransmission.Resent.{Resent}
use Rattle.codec_payload_datagram_runs.proofs.RepeatLemmas.{release_with_history}
use Rattle.codec_payload_datagram_runs.specs.HistoryReleases.{AnswersReceiver, plain_steps}
use Rattle.codec_payload_datagram_runs.specs.HistoryRunExample.{HistoryCanBeMet, PopsAllUnits, answered, example_begins, history_settings, new_history, plain, resent_receiver, resent_settings, resent_steps}
use Rattle.codec_payload_datagram_runs.specs.HistoryRuns.{HistoryRuns, Resending}
use Rattle.codec_payload_datagram_runs.specs.Releases.{AllComeFirst, IsWithinWindows, delivered, received_steps}
use Rattle.codec_payload_datagram_runs.specs.WireRunExample.{at, frames_sent, one_each, opus_sender}
use Rattle.codec_payload_datagram_runs.specs.declared.run.DatagramStep.{DatagramStep}
use Rattle.codec_payload_datagram_runs.specs.declared.run.DatagramStep.TheVariants as steps
use Rattle.codec_payload_datagram_runs.specs.declared.run.SentSample.{SentSample}

is_within : (no_media : Vec ℕ) → IsWithinWindows frames_sent plain opus_sender (resent_receiver no_media) one_each
is_within no_media = record {
  settings = resent_settings no_media;
  depacketizer = OpusDepacketizing;
  new = refl;
  one_stream = record {
    built_in = refl;
    alike = refl;
    nothing_read = refl;
    clock_rate = refl;
    payload_type = refl;
    not_rtcp = inr (lit< tt);
    ssrc = refl;
    not_again = refl;
    drops_none = refl;
  };
  readable = (refl, (refl, (refl, tt)));
  within = (lit< tt, (lit< tt, lit≤ tt, (lit< tt, lit≤ tt, tt)));
  timely = (λ l. absurd (omega (arith, l)), (λ l. absurd (omega (arith, l)), tt));
}

abbrev before_end : List DatagramStep
before_end = steps.Deliver 0 (at 25) ∷ steps.Deliver 2 (at 65) ∷ steps.Deliver 1 (at 120) ∷ []

each_comes : (k : ℕ) → k < 3 → Contains (delivered before_end) k
each_comes zero l = (0, omega arith, refl)
each_comes (suc zero) l = (2, omega arith, refl)
each_comes (suc (suc zero)) l = (1, omega arith, refl)
each_comes (suc (suc (suc k))) l = absurd (omega (arith, l))

all_first : AllComeFirst 4096 3 (received_steps frames_sent 0 plain one_each)
all_first = record {
  few = lit≤ tt;
  before = before_end;
  after = steps.Pop (at 121) ∷ steps.Pop (at 121) ∷ steps.Pop (at 121) ∷ [];
  whole = refl;
  no_pops = tt;
  each = each_comes;
}

answers_receiver : (no_media : Vec ℕ) → AnswersReceiver new_history (resent_receiver no_media)
answers_receiver no_media = record { settings = history_settings; new = refl; heard = (refl, inr (lit< tt)) }

-- the steps of the run without a history, with other results
abbrev plain_by : List SentSample → List Resent → List DatagramStep
plain_by sends answers = plain_steps 65535 frames_sent 0 [] resent_steps sends answers

pops_all : (no_media : Vec ℕ) (t : Resending) → HistoryRuns frames_sent resent_steps (example_begins no_media) t
    → t.wire.sends ≡ one_each → length t.wire.datagrams ≡ 3 → t.answers ≡ answered → PopsAllUnits (example_begins no_media) t
pops_all no_media t run sends count answers =
    let within : IsWithinWindows frames_sent (plain_by t.wire.sends t.answers) opus_sender (resent_receiver no_media) t.wire.sends =
    subst (λ (es : List SentSample). IsWithinWindows frames_sent (plain_by es t.answers) opus_sender (resent_receiver no_media) es) (sym sends)
    (subst (λ (as' : List Resent). IsWithinWindows frames_sent (plain_by one_each as') opus_sender (resent_receiver no_media) one_each) (sym answers) (is_within no_media)) in
    let all : AllComeFirst 4096 (length t.wire.datagrams) (received_steps frames_sent 0 (plain_by t.wire.sends t.answers) t.wire.sends) =
    subst (λ (n : ℕ). AllComeFirst 4096 n (received_steps frames_sent 0 (plain_by t.wire.sends t.answers) t.wire.sends)) (sym count)
    (subst (λ (es : List SentSample). AllComeFirst 4096 3 (received_steps frames_sent 0 (plain_by es t.answers) es)) (sym sends)
    (subst (λ (as' : List Resent). AllComeFirst 4096 3 (received_steps frames_sent 0 (plain_by one_each as') one_each)) (sym answers) all_first)) in
    let r = release_with_history frames_sent resent_steps opus_sender new_history (resent_receiver no_media) t run (answers_receiver no_media) within in
    (r, r.exactly all)

pub history_can_be_met : HistoryCanBeMet
history_can_be_met = record {
  answers = answers_receiver;
  within = is_within;
  all_come = all_first;
  are_delivered = refl;
  all_popped = pops_all;
}
