-- The premises of `lost_packets_come_back` can be met.
use Rattle.std.specs.Global.{Vec}
use Rattle.std.proofs.Common.{◌≡◌, refl, sym, subst, ℕ, zero, suc, ◌+◌, inl, inr, Bool, true, false, List, [], ◌∷◌, None, arith, length, lit<, lit≤}
use Rattle.std.proofs.lemmas.Bool.Decides.{nat_tests}
use Rattle.codec_payload_codec.specs.Depacketizers.{OpusDepacketizing}
use Rattle.codec_payload_feedback_requests.specs.NackRuns.{is_in}
use Rattle.codec_payload_datagram_runs.specs.HistoryRunExample.{resent_receiver, resent_settings}
use Rattle.codec_payload_datagram_runs.specs.Releases.{IsWithinWindows, received_steps}
use Rattle.codec_payload_datagram_runs.specs.WireRunExample.{frames_sent, one_each, opus_sender}
use Rattle.codec_payload_answered_runs.specs.AnsweredRuns.{OneGetsThrough, heard_by}
use Rattle.codec_payload_answered_runs.specs.AskedRuns.{AsksInTime, FirstComesFirst, IfAsked, TimesRise}
use Rattle.codec_payload_answered_runs.specs.ComeBackExample.{AnswersCanBeMet, asked_then, come_back_steps, one_written, patient_history, plain_then}
use Rattle.codec_payload_answered_runs.specs.FilledGaps.{Came, KeepsUp, StartsWhole, has_come}
use Rattle.codec_payload_buffer_runs.specs.Schedule.{Answer}
use Rattle.codec_payload_buffer_runs.specs.SentStream.{SentUnit}

is_within : (no_media : Vec ℕ) → IsWithinWindows frames_sent plain_then opus_sender (resent_receiver no_media) one_each
is_within no_media = record {
  settings = resent_settings no_media;
  depacketizer = OpusDepacketizing;
  new = refl;
  one_stream = record {
    built_in = refl;
    alike = refl;
    nothing_read = refl;
    clock_rate = refl;
    payload_type = refl;
    not_rtcp = inr (lit< tt);
    ssrc = refl;
    not_again = refl;
    drops_none = refl;
  };
  readable = (refl, (refl, (refl, tt)));
  within = (lit< tt, (lit< tt, lit≤ tt, (lit< tt, lit≤ tt, tt)));
  timely = (λ l. absurd (omega (arith, l)), (λ l. absurd (omega (arith, l)), tt));
}

times_rise : TimesRise 0 (heard_by 65535 frames_sent come_back_steps one_each one_written)
times_rise = (
  lit≤ tt,
  lit< tt,
  (
    lit≤ tt,
    lit< tt,
    (
      lit≤ tt,
      lit< tt,
      (
        lit≤ tt,
        lit< tt,
        (
          lit≤ tt,
          lit< tt,
          (
            lit≤ tt,
            lit< tt,
            (
              lit≤ tt,
              lit< tt,
              (lit≤ tt, lit< tt, (lit≤ tt, lit< tt, (lit≤ tt, lit< tt, (lit≤ tt, lit< tt, (lit≤ tt, lit< tt, (lit≤ tt, lit< tt, (lit≤ tt, lit< tt, tt))))))),
            ),
          ),
        ),
      ),
    ),
  ),
)

in_time : AsksInTime 0 None (heard_by 65535 frames_sent come_back_steps one_each one_written) asked_then
in_time = (tt, (lit≤ tt, (lit≤ tt, (tt, (lit≤ tt, (lit≤ tt, (lit≤ tt, (lit≤ tt, (lit≤ tt, (tt, (lit≤ tt, (lit≤ tt, (lit≤ tt, (lit≤ tt, tt))))))))))))))

-- the first unit has one datagram, which came
starts : (xs : List Came) → has_come 0 xs ≡ true → StartsWhole 1 xs
starts xs came = inl (λ k less. let same : k ≡ 0 = omega (arith, less) in subst (λ (j : ℕ). has_come j xs ≡ true) (sym same) came)

abbrev by_25 : List Came
by_25 = record { datagram = 0; at = 25 } ∷ []

abbrev by_65 : List Came
by_65 = record { datagram = 2; at = 65 } ∷ by_25

abbrev by_118 : List Came
by_118 = record { datagram = 1; at = 118 } ∷ by_65

first_first : FirstComesFirst 1 [] (heard_by 65535 frames_sent come_back_steps one_each one_written)
first_first = (starts by_25 refl, (starts by_65 refl, (starts by_65 refl, (starts by_118 refl, (starts by_118 refl, (starts by_118 refl, tt))))))

if_not : (P Q : Type 0) (b : Bool) → b ≡ false → Q → IfAsked b P Q
if_not P Q true e q = absurd (cc)
if_not P Q false e q = q

not_named : (j : ℕ) → is_in (131071 + suc (suc j)) (131072 ∷ []) ≡ false
not_named j = let other : 131072 ≡ 131071 + suc (suc j) → ⊥ = λ e. absurd (omega (arith, e)) in grind (arith, nat_tests, other)

gets_through : (j : ℕ) → OneGetsThrough 65535 500 131071 frames_sent j 10 1 0 0 come_back_steps one_each one_written asked_then
gets_through zero = tt
gets_through (suc zero) = inr (inl (refl, lit< tt, lit≤ tt, lit≤ tt, inl (refl, lit≤ tt)))
gets_through (suc (suc j)) = if_not _ _ (is_in (131071 + suc (suc j)) (131072 ∷ [])) (not_named j) (if_not _ _ (is_in (131071 + suc (suc j)) (131072 ∷ [])) (not_named j) tt)

-- each index is below 3,584
keeps : (units : List SentUnit) (answers : List Answer) → length answers ≡ 6 → KeepsUp 512 4096 units 0 (received_steps frames_sent 0 plain_then one_each) answers
keeps units [] count = absurd (omega (arith, count))
keeps units (a ∷ []) count = absurd (omega (arith, count))
keeps units (a ∷ b ∷ []) count = absurd (omega (arith, count))
keeps units (a ∷ b ∷ d ∷ []) count = absurd (omega (arith, count))
keeps units (a ∷ b ∷ d ∷ e ∷ []) count = absurd (omega (arith, count))
keeps units (a ∷ b ∷ d ∷ e ∷ f ∷ []) count = absurd (omega (arith, count))
keeps units (a ∷ b ∷ d ∷ e ∷ f ∷ g ∷ []) count = (omega arith, (omega arith, (omega arith, tt)))
keeps units (a ∷ b ∷ d ∷ e ∷ f ∷ g ∷ h ∷ more) count = absurd (omega (arith, count))

pub answers_can_be_met : AnswersCanBeMet
answers_can_be_met = record {
  answers = λ no_media. record { settings = patient_history; new = refl; heard = (refl, inr (lit< tt)) };
  any_time = refl;
  no_ids = refl;
  within = is_within;
  waits = λ no_media. record { some = lit< tt; limit = refl; by_time = refl };
  keeps_up = keeps;
  allows = record { tries = lit< tt; small = lit< tt; capacity = lit≤ tt; soon = lit< tt; short = lit< tt };
  kind = record { times = times_rise; asks = in_time; begins = refl; first_unit = first_first; gets_through = gets_through };
  are_delivered = refl;
}
