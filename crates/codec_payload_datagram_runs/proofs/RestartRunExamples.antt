-- The premises of a run with an announced restart can be met.
use Rattle.std.specs.Global.{Vec}
use Rattle.std.proofs.Common.{◌≡◌, ◌∙◌, refl, sym, ap, subst, ℕ, zero, suc, ◌<◌, List, [], ◌∷◌, inr, Option, Some, false, true, arith, length, lit<, lit≤}
use Rattle.std.specs.Prelude.{Contains}
use Rattle.codec_payload_codec.specs.Depacketizers.{OpusDepacketizing}
use Rattle.codec_payload_datagram_runs.specs.Releases.{AllComeFirst, ComeTimely, ComeWithin, delivered, received_steps, times_sent}
use Rattle.codec_payload_datagram_runs.specs.RestartReleases.{AreWithinWindows, EndsAfterFirst, name_in, received_in}
use Rattle.codec_payload_datagram_runs.specs.RestartRunExample.{AreExampleParts, AreExampleRuns, RestartCanBeMet, first_steps, next_sender, next_steps, two_sent}
use Rattle.codec_payload_datagram_runs.specs.WireRunExample.{at, frames_sent, one_sent, opus_receiver, opus_sender, opus_settings}
use Rattle.codec_payload_datagram_runs.specs.declared.restart_run.Part.{Part}
use Rattle.codec_payload_datagram_runs.specs.declared.run.DatagramRun.{DatagramRun}
use Rattle.codec_payload_datagram_runs.specs.declared.run.DatagramStep.{DatagramStep}
use Rattle.codec_payload_datagram_runs.specs.declared.run.DatagramStep.TheVariants as steps
use Rattle.codec_payload_datagram_runs.specs.declared.run.SentSample.{SentSample}

-- the steps of the receiver in each part
abbrev first_received : List DatagramStep
first_received = steps.Deliver 1 (at 25) ∷ steps.Deliver 0 (at 27) ∷ steps.Finish ∷ steps.Pop (at 30) ∷ steps.Pop (at 30) ∷ []

abbrev next_received : List DatagramStep
next_received = steps.Deliver 0 (at 60) ∷ steps.Finish ∷ steps.Pop (at 61) ∷ []

first_is : (p q : Part) (one two : DatagramRun) → AreExampleParts p q → AreExampleRuns one two → received_in frames_sent p one ≡ first_received
first_is p q one two parts runs =
    ap (λ (all : List DatagramStep). received_steps frames_sent 0 all one.sends.items) parts.first ∙ ap (λ (sends : List SentSample). received_steps frames_sent 0 first_steps sends) runs.first

next_is : (p q : Part) (one two : DatagramRun) → AreExampleParts p q → AreExampleRuns one two → received_in frames_sent q two ≡ next_received
next_is p q one two parts runs =
    ap (λ (all : List DatagramStep). received_steps frames_sent 0 all two.sends.items) parts.second ∙ ap (λ (sends : List SentSample). received_steps frames_sent 0 next_steps sends) runs.second

first_times : (p q : Part) (one two : DatagramRun) → AreExampleParts p q → AreExampleRuns one two → times_sent 48000 frames_sent p.steps.items one.sends.items ≡ 960 ∷ 1920 ∷ []
first_times p q one two parts runs =
    ap (λ (all : List DatagramStep). times_sent 48000 frames_sent all one.sends.items) parts.first ∙ ap (λ (sends : List SentSample). times_sent 48000 frames_sent first_steps sends) runs.first

are_within : (no_media : Vec ℕ) (p q : Part) (one two : DatagramRun) → AreExampleParts p q → AreExampleRuns one two
    → AreWithinWindows frames_sent (p ∷ q ∷ []) (opus_sender ∷ next_sender ∷ []) (opus_receiver no_media) (one ∷ two ∷ [])
are_within no_media p q one two parts runs = record {
  settings = opus_settings no_media;
  depacketizer = OpusDepacketizing;
  new = refl;
  each = (
    record {
      one_stream = record {
        built_in = refl;
        alike = refl;
        nothing_read = refl;
        clock_rate = refl;
        payload_type = refl;
        not_rtcp = inr (lit< tt);
        ssrc = refl;
        not_again = refl;
        drops_none = refl;
      };
      readable = (refl, (refl, (refl, tt)));
      within = subst (λ (received : List DatagramStep). ComeWithin 3000 1000 (delivered received)) (sym (first_is p q one two parts runs)) (lit< tt, (lit< tt, lit≤ tt, tt));
      timely = subst (λ (received : List DatagramStep). ComeTimely 48000 (times_sent 48000 frames_sent p.steps.items one.sends.items) (delivered received)) (sym (first_is p q one two parts runs))
          (subst (λ (times : List ℕ). ComeTimely 48000 times (1 ∷ 0 ∷ [])) (sym (first_times p q one two parts runs)) (λ l. lit≤ tt, tt));
      in_time = λ later. absurd (cc);
    },
    (
      record {
        one_stream = record {
          built_in = refl;
          alike = refl;
          nothing_read = refl;
          clock_rate = refl;
          payload_type = refl;
          not_rtcp = inr (lit< tt);
          ssrc = ap (λ (ssrc : Option ℕ). name_in true ssrc (Some 7)) parts.ssrc;
          not_again = refl;
          drops_none = refl;
        };
        readable = (refl, (refl, (refl, tt)));
        within = subst (λ (received : List DatagramStep). ComeWithin 3000 1000 (delivered received)) (sym (next_is p q one two parts runs)) (lit< tt, tt);
        timely = subst (λ (received : List DatagramStep). ComeTimely 48000 (times_sent 48000 frames_sent q.steps.items two.sends.items) (delivered received)) (sym (next_is p q one two parts runs)) tt;
        in_time = λ later. subst EndsAfterFirst (sym (next_is p q one two parts runs)) tt;
      },
      tt,
    ),
  );
  few = omega (arith, runs.first_count, runs.second_count);
}

abbrev first_before : List DatagramStep
first_before = steps.Deliver 1 (at 25) ∷ steps.Deliver 0 (at 27) ∷ []

first_each : (k : ℕ) → k < 2 → Contains (delivered first_before) k
first_each zero l = (1, omega arith, refl)
first_each (suc zero) l = (0, omega arith, refl)
first_each (suc (suc k)) l = absurd (omega (arith, l))

first_come : AllComeFirst 4096 2 first_received
first_come = record { few = lit≤ tt; before = first_before; after = steps.Pop (at 30) ∷ steps.Pop (at 30) ∷ []; whole = refl; no_pops = tt; each = first_each }

abbrev next_before : List DatagramStep
next_before = steps.Deliver 0 (at 60) ∷ []

next_each : (k : ℕ) → k < 1 → Contains (delivered next_before) k
next_each zero l = (0, omega arith, refl)
next_each (suc k) l = absurd (omega (arith, l))

next_come : AllComeFirst 4096 1 next_received
next_come = record { few = lit≤ tt; before = next_before; after = steps.Pop (at 61) ∷ []; whole = refl; no_pops = tt; each = next_each }

pub restart_can_be_met : RestartCanBeMet
restart_can_be_met = record {
  within = are_within;
  first_comes = λ p q one two parts runs. subst (λ (n : ℕ). AllComeFirst 4096 n (received_in frames_sent p one)) (sym runs.first_count) (subst (AllComeFirst 4096 2) (sym (first_is p q one two parts runs)) first_come);
  second_comes = λ p q one two parts runs. subst (λ (n : ℕ). AllComeFirst 4096 n (received_in frames_sent q two)) (sym runs.second_count) (subst (AllComeFirst 4096 1) (sym (next_is p q one two parts runs)) next_come);
}
