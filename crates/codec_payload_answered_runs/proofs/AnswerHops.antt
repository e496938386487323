-- A request that arrives and is answered, and its answer: so the datagram comes within twice the delay.
use Rattle.std.proofs.Common.{◌≡◌, ◌∙◌, refl, sym, ap, subst, ℕ, zero, suc, ◌+◌, ◌<◌, ◌≤◌, ◌⊎◌, inl, inr, Bool, true, false, cond, List, [], ◌∷◌, ◌++◌, Option, Some, None, arith, length, ltb}
use Rattle.std.specs.Prelude.{slice_get}
use Rattle.std.proofs.lemmas.Bool.{lt-ltb}
use Rattle.std.proofs.lemmas.List.{length-append}
use Rattle.codec_payload_base.specs.declared.wire.Ticks.{Ticks}
use Rattle.codec_payload_feedback_requests.specs.NackRuns.{Exact, OnTime, is_in}
use Rattle.codec_payload_payloader.specs.Sending.{Sample}
use Rattle.codec_payload_sending_history.specs.declared.retransmission.Resent.{Resent}
use Rattle.codec_payload_sending_history.specs.declared.retransmission.Resent.TheVariants as results
use Rattle.codec_payload_datagram_runs.proofs.StepLemmas.{get_append}
use Rattle.codec_payload_datagram_runs.specs.HistoryReleases.{latest_with, repeated_by, sends_by, sent_by}
use Rattle.codec_payload_datagram_runs.specs.Releases.{sent_after}
use Rattle.codec_payload_datagram_runs.specs.declared.history_run.HistoryStep.TheVariants as history_steps
use Rattle.codec_payload_datagram_runs.specs.declared.run.DatagramStep.{DatagramStep}
use Rattle.codec_payload_datagram_runs.specs.declared.run.DatagramStep.TheVariants as steps
use Rattle.codec_payload_datagram_runs.specs.declared.run.SentSample.{SentSample}
use Rattle.codec_payload_answered_runs.specs.AnsweredRuns.{AnsweredRuns, AnsweredStep, Answering, AnswersRequests, AnswersServe, Arrives, GetsThrough, IsAnswered, Links, LostPacketsComeBack, Notes, OneGetsThrough, OneIsAnswered, Polls, asked_steps, asked_steps_of, asking_of, begins_answering, delivery_before, heard_by, links_of, written_by}
use Rattle.codec_payload_datagram_runs.specs.HistoryRuns.{DoesHistoryStep, HistoryRuns, Resending}
use Rattle.codec_payload_answered_runs.proofs.AnsweredCourses.{answers_fill_gaps}
use Rattle.codec_payload_answered_runs.proofs.AnsweredLemmas.{of_settings, requests_are_answered}
use Rattle.codec_payload_answered_runs.specs.AnsweredRequests.{AllAnswered}
use Rattle.codec_payload_answered_runs.specs.FilledGaps.{first_size}
use Rattle.codec_payload_answered_runs.specs.AskedRuns.{Asked, AskedStep, Asks, ComesBy, Does, FillsGaps, NotesAnswer, IfAsked, OneServes, ServesRequests, receiver_steps}

-- Steps

sent_more : (samples : List Sample) (sent : ℕ) (step : DatagramStep) (sends : List SentSample) → sent ≤ sent_by samples sent step sends
sent_more samples sent (steps.Send i) sends = by_sample (slice_get samples i) sends
  where
    by_sample : (o : Option Sample) (es : List SentSample) → sent ≤ sent_after sent o es
    by_sample None es = omega arith
    by_sample (Some sample) [] = omega arith
    by_sample (Some sample) (e ∷ es) = omega arith
sent_more samples sent (steps.Deliver k now) sends = omega arith
sent_more samples sent (steps.Pop now) sends = omega arith
sent_more samples sent steps.Finish sends = omega arith

-- a delivery in front changes nothing
comes_past : (j by k : ℕ) (now : Ticks) (b : Bool) (later : List AskedStep) → ComesBy j by later → ComesBy j by (cond b (Does (steps.Deliver k now) ∷ later) later)
comes_past j by k now true later comes = inr comes
comes_past j by k now false later comes = comes

-- nor does another step of the run
comes_step : (samples : List Sample) (j by sent : ℕ) (step : DatagramStep) (later : List AskedStep) (sends : List SentSample)
    → ComesBy j by (receiver_steps samples (sent_by samples sent step sends) later (sends_by samples step sends)) → ComesBy j by (receiver_steps samples sent (Does step ∷ later) sends)
comes_step samples j by sent (steps.Send i) later sends comes = comes
comes_step samples j by sent (steps.Deliver k now) later sends comes = comes_past j by k now (ltb k sent) (receiver_steps samples sent later sends) comes
comes_step samples j by sent (steps.Pop now) later sends comes = comes
comes_step samples j by sent steps.Finish later sends comes = comes

comes_again : (samples : List Sample) (j by sent : ℕ) (o : Option ℕ) (now : Ticks) (later : List AskedStep) (sends : List SentSample)
    → ComesBy j by (receiver_steps samples sent later sends) → ComesBy j by (receiver_steps samples sent (delivery_before o now later) sends)
comes_again samples j by sent None now later sends comes = comes
comes_again samples j by sent (Some k) now later sends comes = comes_past j by k now (ltb k sent) (receiver_steps samples sent later sends) comes

serves_step : (samples : List Sample) (first within j k sent : ℕ) (step : DatagramStep) (later : List AskedStep) (sends : List SentSample) (asked : List Asked)
    → OneServes first within j k (receiver_steps samples (sent_by samples sent step sends) later (sends_by samples step sends)) asked → OneServes first within j k (receiver_steps samples sent (Does step ∷ later) sends) asked
serves_step samples first within j k sent (steps.Send i) later sends asked serves = serves
serves_step samples first within j k sent (steps.Deliver n now) later sends asked serves = by_sent (ltb n sent)
  where
    by_sent : (b : Bool) → OneServes first within j k (cond b (Does (steps.Deliver n now) ∷ receiver_steps samples sent later sends) (receiver_steps samples sent later sends)) asked
    by_sent true = serves
    by_sent false = serves
serves_step samples first within j k sent (steps.Pop now) later sends asked serves = serves
serves_step samples first within j k sent steps.Finish later sends asked serves = serves

serves_again : (samples : List Sample) (first within j k sent : ℕ) (o : Option ℕ) (now : Ticks) (later : List AskedStep) (sends : List SentSample) (asked : List Asked)
    → OneServes first within j k (receiver_steps samples sent later sends) asked → OneServes first within j k (receiver_steps samples sent (delivery_before o now later) sends) asked
serves_again samples first within j k sent None now later sends asked serves = serves
serves_again samples first within j k sent (Some n) now later sends asked serves = by_sent (ltb n sent)
  where
    by_sent : (b : Bool) → OneServes first within j k (cond b (Does (steps.Deliver n now) ∷ receiver_steps samples sent later sends) (receiver_steps samples sent later sends)) asked
    by_sent true = serves
    by_sent false = serves

module _ (number : ℕ) (samples : List Sample) where
  -- a retransmission that arrives is a delivery of the datagram that it repeats
  arrives_comes : (m by j sent : ℕ) (repeated : List ℕ) (later : List AnsweredStep) (sends : List SentSample) (answers : List Resent) → slice_get repeated m ≡ Some j → j < sent → Arrives m by later
      → ComesBy j by (receiver_steps samples sent (asked_steps number samples sent repeated later sends answers) sends)
  arrives_comes m by j sent repeated [] sends answers at less arrives = absurd arrives
  arrives_comes m by j sent repeated (Links (history_steps.Plain step) ∷ later) sends answers at less arrives =
      let more = sent_more samples sent step sends in
      comes_step samples j by sent step (asked_steps number samples (sent_by samples sent step sends) repeated later (sends_by samples step sends) answers) sends
      (arrives_comes m by j (sent_by samples sent step sends) repeated later (sends_by samples step sends) answers at (omega (arith, less, more)) arrives)
  arrives_comes m by j sent repeated (Links (history_steps.Resend requested now) ∷ later) sends [] at less arrives = arrives_comes m by j sent repeated later sends [] at less arrives
  arrives_comes m by j sent repeated (Links (history_steps.Resend requested now) ∷ later) sends (answer ∷ answers) at less arrives =
      let more : List ℕ = repeated_by answer (latest_with number sent requested) in
      arrives_comes m by j sent (repeated ++ more) later sends answers (get_append repeated more m j at) less arrives
  arrives_comes m by j sent repeated (Links (history_steps.DeliverAgain i now) ∷ later) sends answers at less (inl here) =
      let same : slice_get repeated i ≡ Some j = ap (slice_get repeated) here.0 ∙ at in
      let rest : List AskedStep = asked_steps number samples sent repeated later sends answers in
      subst (λ (o : Option ℕ). ComesBy j by (receiver_steps samples sent (delivery_before o now rest) sends)) (sym same)
      (subst (λ (b : Bool). ComesBy j by (cond b (Does (steps.Deliver j now) ∷ receiver_steps samples sent rest sends) (receiver_steps samples sent rest sends))) (sym (lt-ltb j sent less))
      (inl (refl, here.1)))
  arrives_comes m by j sent repeated (Links (history_steps.DeliverAgain i now) ∷ later) sends answers at less (inr rest) =
      comes_again samples j by sent (slice_get repeated i) now (asked_steps number samples sent repeated later sends answers) sends (arrives_comes m by j sent repeated later sends answers at less rest)
  arrives_comes m by j sent repeated (Polls now ∷ later) sends answers at less arrives = arrives_comes m by j sent repeated later sends answers at less arrives
  arrives_comes m by j sent repeated (Notes now heard ∷ later) sends answers at less arrives = arrives_comes m by j sent repeated later sends answers at less arrives

  -- it comes sooner
  comes_sooner : (j by late : ℕ) (later : List AskedStep) → by ≤ late → ComesBy j by later → ComesBy j late later
  comes_sooner j by late [] le comes = comes
  comes_sooner j by late (Does (steps.Send i) ∷ later) le comes = comes_sooner j by late later le comes
  comes_sooner j by late (Does (steps.Deliver k now) ∷ later) le (inl here) = let soon = here.1 in inl (here.0, omega (arith, soon, le))
  comes_sooner j by late (Does (steps.Deliver k now) ∷ later) le (inr rest) = inr (comes_sooner j by late later le rest)
  comes_sooner j by late (Does (steps.Pop now) ∷ later) le comes = comes_sooner j by late later le comes
  comes_sooner j by late (Does steps.Finish ∷ later) le comes = comes_sooner j by late later le comes
  comes_sooner j by late (Asks now ∷ later) le comes = comes_sooner j by late later le comes
  comes_sooner j by late (NotesAnswer now heard ∷ later) le comes = comes_sooner j by late later le comes

  last_at : (xs : List ℕ) (j : ℕ) → slice_get (xs ++ j ∷ []) (length xs) ≡ Some j
  last_at [] j = refl
  last_at (x ∷ xs) j = last_at xs j

  written_is : (answer : Resent) (j : ℕ) → length (repeated_by answer j) ≡ written_by answer
  written_is results.Written j = refl
  written_is results.NotKept j = refl
  written_is results.TooSoon j = refl
  written_is results.TooLarge j = refl

  answered_comes : (j asked_at delay sent m : ℕ) (repeated : List ℕ) (later : List AnsweredStep) (sends : List SentSample) (answers : List Resent) → length repeated ≡ m
      → IsAnswered number samples j asked_at delay sent m later sends answers → ComesBy j (asked_at + (delay + delay)) (receiver_steps samples sent (asked_steps number samples sent repeated later sends answers) sends)
  answered_comes j asked_at delay sent m repeated [] sends answers count is = absurd is
  answered_comes j asked_at delay sent m repeated (Links (history_steps.Plain step) ∷ later) sends answers count is =
      comes_step samples j (asked_at + (delay + delay)) sent step (asked_steps number samples (sent_by samples sent step sends) repeated later (sends_by samples step sends) answers) sends
      (answered_comes j asked_at delay (sent_by samples sent step sends) m repeated later (sends_by samples step sends) answers count is)
  answered_comes j asked_at delay sent m repeated (Links (history_steps.Resend requested now) ∷ later) sends [] count is = absurd is
  answered_comes j asked_at delay sent m repeated (Links (history_steps.Resend requested now) ∷ later) sends (answer ∷ answers) count (inl here) =
      let more : List ℕ = repeated_by answer (latest_with number sent requested) in
      let one : more ≡ j ∷ [] = ap (λ (a : Resent). repeated_by a (latest_with number sent requested)) here.3 ∙ ap (λ (i : ℕ). i ∷ []) here.1 in
      let at : slice_get (repeated ++ more) m ≡ Some j =
      subst (λ (is' : List ℕ). slice_get (repeated ++ is') m ≡ Some j) (sym one) (subst (λ (i : ℕ). slice_get (repeated ++ j ∷ []) i ≡ Some j) count (last_at repeated j)) in
      let soon = here.2 in
      comes_sooner j (now.0 + delay) (asked_at + (delay + delay)) (receiver_steps samples sent (asked_steps number samples sent (repeated ++ more) later sends answers) sends) (omega (arith, soon))
      (arrives_comes m (now.0 + delay) j sent (repeated ++ more) later sends answers at here.0 here.4)
  answered_comes j asked_at delay sent m repeated (Links (history_steps.Resend requested now) ∷ later) sends (answer ∷ answers) count (inr rest) =
      let more : List ℕ = repeated_by answer (latest_with number sent requested) in
      answered_comes j asked_at delay sent (m + written_by answer) (repeated ++ more) later sends answers
      (omega (arith, count, length-append repeated more, written_is answer (latest_with number sent requested))) rest
  answered_comes j asked_at delay sent m repeated (Links (history_steps.DeliverAgain i now) ∷ later) sends answers count is =
      comes_again samples j (asked_at + (delay + delay)) sent (slice_get repeated i) now (asked_steps number samples sent repeated later sends answers) sends
      (answered_comes j asked_at delay sent m repeated later sends answers count is)
  answered_comes j asked_at delay sent m repeated (Polls now ∷ later) sends answers count is = answered_comes j asked_at delay sent m repeated later sends answers count is
  answered_comes j asked_at delay sent m repeated (Notes now heard ∷ later) sends answers count is = answered_comes j asked_at delay sent m repeated later sends answers count is

  one_serves : (first j delay k sent m : ℕ) (repeated : List ℕ) (later : List AnsweredStep) (sends : List SentSample) (answers : List Resent) (asked : List Asked) → length repeated ≡ m
      → OneIsAnswered number first samples j delay k sent m later sends answers asked
      → OneServes first (delay + delay) j k (receiver_steps samples sent (asked_steps number samples sent repeated later sends answers) sends) asked
  one_serves first j delay k sent m repeated [] sends answers asked count is = tt
  one_serves first j delay k sent m repeated (Links (history_steps.Plain step) ∷ later) sends answers asked count is =
      serves_step samples first (delay + delay) j k sent step (asked_steps number samples (sent_by samples sent step sends) repeated later (sends_by samples step sends) answers) sends asked
      (one_serves first j delay k (sent_by samples sent step sends) m repeated later (sends_by samples step sends) answers asked count is)
  one_serves first j delay k sent m repeated (Links (history_steps.Resend requested now) ∷ later) sends [] asked count is = absurd is
  one_serves first j delay k sent m repeated (Links (history_steps.Resend requested now) ∷ later) sends (answer ∷ answers) asked count is =
      let more : List ℕ = repeated_by answer (latest_with number sent requested) in
      one_serves first j delay k sent (m + written_by answer) (repeated ++ more) later sends answers asked
      (omega (arith, count, length-append repeated more, written_is answer (latest_with number sent requested))) is
  one_serves first j delay k sent m repeated (Links (history_steps.DeliverAgain i now) ∷ later) sends answers asked count is =
      serves_again samples first (delay + delay) j k sent (slice_get repeated i) now (asked_steps number samples sent repeated later sends answers) sends asked
      (one_serves first j delay k sent m repeated later sends answers asked count is)
  one_serves first j delay k sent m repeated (Notes now heard ∷ later) sends answers asked count is = one_serves first j delay k sent m repeated later sends answers asked count is
  one_serves first j delay k sent m repeated (Polls now ∷ later) sends answers [] count is = absurd is
  one_serves first j delay zero sent m repeated (Polls now ∷ later) sends answers (x ∷ asked) count is =
      by_named (is_in (first + j) x.numbers) is (one_serves first j delay zero sent m repeated later sends answers asked count)
    where
      by_named : (b : Bool) → IfAsked b (IsAnswered number samples j now delay sent m later sends answers) (OneIsAnswered number first samples j delay zero sent m later sends answers asked)
          → (OneIsAnswered number first samples j delay zero sent m later sends answers asked → OneServes first (delay + delay) j zero (receiver_steps samples sent (asked_steps number samples sent repeated later sends answers) sends) asked)
          → IfAsked b (ComesBy j (now + (delay + delay)) (receiver_steps samples sent (asked_steps number samples sent repeated later sends answers) sends))
          (OneServes first (delay + delay) j zero (receiver_steps samples sent (asked_steps number samples sent repeated later sends answers) sends) asked)
      by_named true answered rest = answered_comes j now delay sent m repeated later sends answers count answered
      by_named false other rest = rest other
  one_serves first j delay (suc k) sent m repeated (Polls now ∷ later) sends answers (x ∷ asked) count is =
      by_named (is_in (first + j) x.numbers) is (one_serves first j delay k sent m repeated later sends answers asked count) (one_serves first j delay (suc k) sent m repeated later sends answers asked count)
    where
      by_named : (b : Bool)
          → IfAsked b (IsAnswered number samples j now delay sent m later sends answers ⊎ OneIsAnswered number first samples j delay k sent m later sends answers asked)
          (OneIsAnswered number first samples j delay (suc k) sent m later sends answers asked)
          → (OneIsAnswered number first samples j delay k sent m later sends answers asked → OneServes first (delay + delay) j k (receiver_steps samples sent (asked_steps number samples sent repeated later sends answers) sends) asked)
          → (OneIsAnswered number first samples j delay (suc k) sent m later sends answers asked → OneServes first (delay + delay) j (suc k) (receiver_steps samples sent (asked_steps number samples sent repeated later sends answers) sends) asked)
          → IfAsked b (ComesBy j (now + (delay + delay)) (receiver_steps samples sent (asked_steps number samples sent repeated later sends answers) sends)
          ⊎ OneServes first (delay + delay) j k (receiver_steps samples sent (asked_steps number samples sent repeated later sends answers) sends) asked)
          (OneServes first (delay + delay) j (suc k) (receiver_steps samples sent (asked_steps number samples sent repeated later sends answers) sends) asked)
      by_named true (inl answered) fewer rest = inl (answered_comes j now delay sent m repeated later sends answers count answered)
      by_named true (inr other) fewer rest = inr (fewer other)
      by_named false other fewer rest = rest other

pub answers_serve : AnswersServe
answers_serve number first samples j delay k all_steps sends answers asked is = one_serves number samples first j delay k 0 0 [] all_steps sends answers asked refl is

-- The network alone

-- the history answers what gets through
module _ (number limit : ℕ) (samples : List Sample) where
  got_answered : (j asked_at delay sent m : ℕ) (later : List AnsweredStep) (sends : List SentSample) (answers : List Resent) → AllAnswered number limit samples sent (links_of later) sends answers
      → GetsThrough number limit samples j asked_at delay sent m later sends answers → IsAnswered number samples j asked_at delay sent m later sends answers
  got_answered j asked_at delay sent m [] sends answers all gets = absurd gets
  got_answered j asked_at delay sent m (Links (history_steps.Plain step) ∷ later) sends answers all gets =
      got_answered j asked_at delay (sent_by samples sent step sends) m later (sends_by samples step sends) answers all gets
  got_answered j asked_at delay sent m (Links (history_steps.Resend requested now) ∷ later) sends [] all gets = absurd gets
  got_answered j asked_at delay sent m (Links (history_steps.Resend requested now) ∷ later) sends (answer ∷ answers) all (inl here) =
      let is = all.0 j here.1 here.2 here.0 in
      inl (here.1, is.1, here.3, is.0, here.4)
  got_answered j asked_at delay sent m (Links (history_steps.Resend requested now) ∷ later) sends (answer ∷ answers) all (inr rest) =
      inr (got_answered j asked_at delay sent (m + written_by answer) later sends answers all.1 rest)
  got_answered j asked_at delay sent m (Links (history_steps.DeliverAgain i now) ∷ later) sends answers all gets = got_answered j asked_at delay sent m later sends answers all gets
  got_answered j asked_at delay sent m (Polls now ∷ later) sends answers all gets = got_answered j asked_at delay sent m later sends answers all gets
  got_answered j asked_at delay sent m (Notes now heard ∷ later) sends answers all gets = got_answered j asked_at delay sent m later sends answers all gets

  one_answered : (first j delay k sent m : ℕ) (later : List AnsweredStep) (sends : List SentSample) (answers : List Resent) (asked : List Asked) → AllAnswered number limit samples sent (links_of later) sends answers
      → OneGetsThrough number limit first samples j delay k sent m later sends answers asked → OneIsAnswered number first samples j delay k sent m later sends answers asked
  one_answered first j delay k sent m [] sends answers asked all gets = tt
  one_answered first j delay k sent m (Links (history_steps.Plain step) ∷ later) sends answers asked all gets =
      one_answered first j delay k (sent_by samples sent step sends) m later (sends_by samples step sends) answers asked all gets
  one_answered first j delay k sent m (Links (history_steps.Resend requested now) ∷ later) sends [] asked all gets = absurd gets
  one_answered first j delay k sent m (Links (history_steps.Resend requested now) ∷ later) sends (answer ∷ answers) asked all gets =
      one_answered first j delay k sent (m + written_by answer) later sends answers asked all.1 gets
  one_answered first j delay k sent m (Links (history_steps.DeliverAgain i now) ∷ later) sends answers asked all gets = one_answered first j delay k sent m later sends answers asked all gets
  one_answered first j delay k sent m (Notes now heard ∷ later) sends answers asked all gets = one_answered first j delay k sent m later sends answers asked all gets
  one_answered first j delay k sent m (Polls now ∷ later) sends answers [] all gets = absurd gets
  one_answered first j delay zero sent m (Polls now ∷ later) sends answers (x ∷ asked) all gets =
      by_named (is_in (first + j) x.numbers) gets (one_answered first j delay zero sent m later sends answers asked all)
    where
      by_named : (b : Bool) → IfAsked b (GetsThrough number limit samples j now delay sent m later sends answers) (OneGetsThrough number limit first samples j delay zero sent m later sends answers asked)
          → (OneGetsThrough number limit first samples j delay zero sent m later sends answers asked → OneIsAnswered number first samples j delay zero sent m later sends answers asked)
          → IfAsked b (IsAnswered number samples j now delay sent m later sends answers) (OneIsAnswered number first samples j delay zero sent m later sends answers asked)
      by_named true here rest = got_answered j now delay sent m later sends answers all here
      by_named false other rest = rest other
  one_answered first j delay (suc k) sent m (Polls now ∷ later) sends answers (x ∷ asked) all gets =
      by_named (is_in (first + j) x.numbers) gets (one_answered first j delay k sent m later sends answers asked all) (one_answered first j delay (suc k) sent m later sends answers asked all)
    where
      by_named : (b : Bool)
          → IfAsked b (GetsThrough number limit samples j now delay sent m later sends answers ⊎ OneGetsThrough number limit first samples j delay k sent m later sends answers asked)
          (OneGetsThrough number limit first samples j delay (suc k) sent m later sends answers asked)
          → (OneGetsThrough number limit first samples j delay k sent m later sends answers asked → OneIsAnswered number first samples j delay k sent m later sends answers asked)
          → (OneGetsThrough number limit first samples j delay (suc k) sent m later sends answers asked → OneIsAnswered number first samples j delay (suc k) sent m later sends answers asked)
          → IfAsked b (IsAnswered number samples j now delay sent m later sends answers ⊎ OneIsAnswered number first samples j delay k sent m later sends answers asked)
          (OneIsAnswered number first samples j delay (suc k) sent m later sends answers asked)
      by_named true (inl here) fewer rest = inl (got_answered j now delay sent m later sends answers all here)
      by_named true (inr other) fewer rest = inr (fewer other)
      by_named false other fewer rest = rest other

-- the steps of the schedule do nothing to sender, history and receiver
links_run : (samples : List Sample) (all_steps : List AnsweredStep) (s t : Answering) → AnsweredRuns samples all_steps s t → HistoryRuns samples (links_of all_steps) s.link t.link
links_run samples [] s t run = ap (λ (x : Answering). x.link) run
links_run samples (Links step ∷ later) s t run =
    let link : run.0.link ≡ run.1.0 = ap (λ (x : Answering). x.link) run.1.2 in
    (run.0.link, subst (DoesHistoryStep samples step s.link) (sym link) run.1.1, links_run samples later run.0 t run.2)
links_run samples (Polls now ∷ later) s t run =
    subst (λ (x : Resending). HistoryRuns samples (links_of later) x t.link) (ap (λ (x : Answering). x.link) run.1) (links_run samples later run.0 t run.2)
links_run samples (Notes now heard ∷ later) s t run =
    subst (λ (x : Resending). HistoryRuns samples (links_of later) x t.link) (ap (λ (x : Answering). x.link) run.1) (links_run samples later run.0 t run.2)

-- The theorem

serves_all : (first slack delay k size : ℕ) (samples : List Sample) (all_steps : List AnsweredStep) (s t : Answering)
    → AllAnswered s.link.wire.sending.stream.number s.link.history.limit samples 0 (links_of all_steps) t.link.wire.sends t.link.answers → AnswersRequests first slack delay k size samples all_steps s t
    → ServesRequests first slack (delay + delay) k size (heard_by s.link.wire.sending.stream.number samples all_steps t.link.wire.sends t.link.answers) t.asked
serves_all first slack delay k size samples all_steps s t all is = record {
  times = is.times;
  asks = is.asks;
  begins = is.begins;
  first_unit = is.first_unit;
  serves = λ j. answers_serve s.link.wire.sending.stream.number first samples j delay k all_steps t.link.wire.sends t.link.answers t.asked
      (one_answered s.link.wire.sending.stream.number s.link.history.limit samples first j delay k 0 0 all_steps t.link.wire.sends t.link.answers t.asked all (is.gets_through j));
}

pub lost_packets_come_back : Exact → OnTime → LostPacketsComeBack
lost_packets_come_back exact on_time samples all_steps sender history receiver settings t run plain answers any_time within =
    let s : Answering = begins_answering sender history receiver settings in
    let same = of_settings answers.settings history answers.new in
    let all : AllAnswered sender.stream.number history.limit samples 0 (links_of all_steps) t.link.wire.sends t.link.answers =
    subst (λ (n : ℕ). AllAnswered sender.stream.number n samples 0 (links_of all_steps) t.link.wire.sends t.link.answers) (sym same.0)
    (requests_are_answered samples (links_of all_steps) sender history receiver t.link (links_run samples all_steps s t run) answers.settings answers.new (sym same.1 ∙ any_time)) in
    let gaps : FillsGaps samples (asked_steps_of samples all_steps s t) settings (asking_of s) (asking_of t) =
    answers_fill_gaps exact on_time samples all_steps sender history receiver settings t run plain answers within in
    record {
      gaps = gaps;
      in_turn = λ max_wait slack delay k waiting keeps allows is. gaps.in_turn max_wait slack (delay + delay) k waiting keeps allows
          (serves_all gaps.run.times.promises.first slack delay k (first_size gaps.run.times.promises.released.units) samples all_steps s t all is);
      in_time = λ max_wait slack delay k waiting keeps allows is. gaps.in_time max_wait slack (delay + delay) k waiting keeps allows
          (serves_all gaps.run.times.promises.first slack delay k (first_size gaps.run.times.promises.released.units) samples all_steps s t all is);
    }
