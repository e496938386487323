-- A run whose receiver requests what is missing, step by step: what does not come is requested, and comes in time.
use Rattle.std.proofs.Common.{◌≡◌, ◌≢◌, ◌∙◌, refl, sym, ap, subst, ℕ, zero, suc, ◌+◌, ◌*◌, ◌%◌, ◌^◌, ◌<◌, ◌≤◌, ◌⊎◌, ◌||◌, inl, inr, Bool, true, false, cond, List, [], ◌∷◌, Option, Some, None, Err, arith, eqb, length, max}
use Rattle.std.specs.Prelude.{slice_get}
use Rattle.std.proofs.Math.Nat.{mul-le-mul_right}
use Rattle.std.proofs.lemmas.Bool.{cases_lt}
use Rattle.std.proofs.lemmas.Bool.Decides.{nat_tests}
use Rattle.std.proofs.lemmas.Option.{slice_get_within}
use Rattle.codec_payload_base.specs.declared.error.PacketError.TheVariants as faults
use Rattle.codec_payload_base.specs.declared.wire.Ticks.{Ticks}
use Rattle.codec_payload_codec.proofs.CaseLemmas.{by_test}
use Rattle.codec_payload_codec.specs.Depacketizers.{DepacketizerKind}
use Rattle.codec_payload_buffer.proofs.MemberLemmas.{IsIn}
use Rattle.codec_payload_buffer.specs.Held.{Held, has_number, number_of}
use Rattle.codec_payload_buffer.specs.Steps.{State, arrived, pushed}
use Rattle.codec_payload_metadata.specs.declared.meta.RtpMeta.{RtpMeta}
use Rattle.codec_payload_feedback_requests.specs.declared.nack.NackSettings.{NackSettings}
use Rattle.codec_payload_feedback_requests.specs.NackRuns.{Call, Exact, OnTime, answered, begun, followed_since, is_in, next_by, refresh, request_at, requested_at, requests_of, schedule_after, take_due}
use Rattle.codec_payload_feedback_requests.specs.NackSchedule.{earliest_of, followed}
use Rattle.codec_payload_feedback_requests.specs.Requests.{has_come as is_past}
use Rattle.codec_payload_jitter.specs.Missing.{floor_by, missing_numbers}
use Rattle.codec_payload_jitter.specs.Receiving.{Receiving}
use Rattle.codec_payload_numbers.specs.NotedTimes.{AreTimesOf, Noted}
use Rattle.codec_payload_numbers.specs.Numbers.{Numbering, answer_for, greater, lesser, numbering_after, numbering_with}
use Rattle.codec_payload_numbers.specs.declared.numbers.Extended.{Extended}
use Rattle.codec_payload_numbers.specs.declared.numbers.Extended.TheVariants as extended
use Rattle.codec_payload_numbers.specs.declared.noted_times.NotedTime.{NotedTime}
use Rattle.codec_payload_payloader.specs.Packets.{Packet}
use Rattle.codec_payload_rtp.specs.declared.values.ExtensionIds.{ExtensionIds}
use Rattle.codec_payload_sending.specs.declared.sender.Outgoing.{Outgoing}
use Rattle.codec_payload_sending_history.specs.declared.retransmission.RetransmissionStream.{RetransmissionStream}
use Rattle.codec_payload_datagrams.specs.Kinds.{Kinds}
use Rattle.codec_payload_receiver.specs.Sessions.{Session}
use Rattle.codec_payload_buffer_runs.proofs.order.SafetyLemmas.{number_of_sent}
use Rattle.codec_payload_buffer_runs.proofs.order.TakenLemmas.{IsPlain}
use Rattle.codec_payload_buffer_runs.proofs.order.TurnLemmas.{IsPush, Setting, count, or_cases}
use Rattle.codec_payload_buffer_runs.proofs.units.UnitRows.{held_as}
use Rattle.codec_payload_buffer_runs.specs.Headline.{packets_before}
use Rattle.codec_payload_buffer_runs.specs.Arrivals.{Tells}
use Rattle.codec_payload_buffer_runs.specs.RunUnits.{count_after}
use Rattle.codec_payload_buffer_runs.specs.Schedule.{Answer}
use Rattle.codec_payload_buffer_runs.specs.SentStream.{packets_of}
use Rattle.codec_payload_datagram_runs.proofs.EventLemmas.{AllTimed, packet_at_index, time_at, turn_at}
use Rattle.codec_payload_datagram_runs.proofs.HeldLemmas.{AllHeld}
use Rattle.codec_payload_datagram_runs.proofs.ReceivingLemmas.{AllNumbered, IsListening, KeepsLimits, keeps_then, pops_as, pushes_copy, wait_same}
use Rattle.codec_payload_datagram_runs.proofs.TimelyLemmas.{StayTimely, time_in, timely_next, timely_now, untimely_is}
use Rattle.codec_payload_datagram_runs.specs.Releases.{AreDatagrams, HasValuesOf, delivered, values_read}
use Rattle.codec_payload_datagram_runs.specs.WireLogs.{AnswersTurn, wait_of}
use Rattle.codec_payload_datagram_runs.proofs.Courses.{IsCopy}
use Rattle.codec_payload_datagram_runs.specs.WireRuns.{Delivers, PopsUnit, Receipt}
use Rattle.codec_payload_datagram_runs.specs.declared.run.DatagramStep.{DatagramStep}
use Rattle.codec_payload_datagram_runs.specs.declared.run.DatagramStep.TheVariants as steps
use Rattle.codec_payload_answered_runs.proofs.AskedCourses.{Listens}
use Rattle.codec_payload_answered_runs.proofs.MissingLemmas.{absent_is, lowest_copy, lowest_popped, misses, not_missing}
use Rattle.codec_payload_answered_runs.proofs.RepeatedRequests.{IsOpen, late, open_answered, open_asked, open_first, open_sooner, sent_after, settings_stay}
use Rattle.codec_payload_answered_runs.proofs.WholeTurns.{IsOf, Stands, StandsAt, came_has, not_passed, stands_popped, stands_pushed}
use Rattle.codec_payload_answered_runs.specs.AskedRuns.{AllowsTries, Asked, AskedStep, Asks, AsksInTime, BeginsAt0, ComesBy, Does, FirstComesFirst, NotesAnswer, IfAsked, OneServes, TimesRise, asked_by, plain_of, sooner}
use Rattle.codec_payload_answered_runs.specs.FilledGaps.{AreFilledAt, Came, CameAt, GapsAreFilled, KeepsUp, StartsWhole, WaitsByTime, first_size, has_come}
use Rattle.codec_payload_answered_runs.specs.Repeats.{AreInTime, IsBy, due_by, request_by, retry_most}

-- Times

-- what still comes by a time comes after the latest time so far
comes_after : (j by time : ℕ) (later : List AskedStep) → TimesRise time later → ComesBy j by later → time ≤ by
comes_after j by time [] rise comes = absurd comes
comes_after j by time (Does (steps.Send i) ∷ later) rise comes = comes_after j by time later rise comes
comes_after j by time (Does (steps.Deliver k now) ∷ later) rise (inl here) = let le = rise.0 in let soon = here.1 in omega (arith, le, soon)
comes_after j by time (Does (steps.Deliver k now) ∷ later) rise (inr rest) = let le = rise.0 in let after = comes_after j by now.0 later rise.2 rest in omega (arith, le, after)
comes_after j by time (Does (steps.Pop now) ∷ later) rise comes = let le = rise.0 in let after = comes_after j by now.0 later rise.2 comes in omega (arith, le, after)
comes_after j by time (Does steps.Finish ∷ later) rise comes = comes_after j by time later rise comes
comes_after j by time (Asks now ∷ later) rise comes = let le = rise.0 in let after = comes_after j by now later rise.2 comes in omega (arith, le, after)
comes_after j by time (NotesAnswer now number ∷ later) rise comes = comes_after j by time later rise comes

sooner_by : (until : Option ℕ) (by now : ℕ) → IsBy (sooner until by) now → IsBy until now
sooner_by None by now is = tt
sooner_by (Some u) by now is = omega (arith, is)

sooner_new : (until : Option ℕ) (by now : ℕ) → IsBy (sooner until by) now → now ≤ by
sooner_new None by now is = is
sooner_new (Some u) by now is = omega (arith, is)

times_up : (i j k : ℕ) → i ≤ j → i * k ≤ j * k
times_up i j k le = mul-le-mul_right k le

still_has : (x : Came) (k : ℕ) (xs : List Came) → has_come k xs ≡ true → has_come k (x ∷ xs) ≡ true
still_has x k xs is = by_test (eqb x.datagram k) (λ b. (b || has_come k xs) ≡ true) (λ t. refl) (λ f. is)

new_has : (x : Came) (k : ℕ) (xs : List Came) → x.datagram ≡ k → has_come k (x ∷ xs) ≡ true
new_has x k xs same = grind (arith, nat_tests, same)

-- a poll that requests the number, and one that does not
serves_skip : (first within j k now : ℕ) (later : List AskedStep) (x : Asked) (asked : List Asked) → is_in (first + j) x.numbers ≡ false → OneServes first within j k (Asks now ∷ later) (x ∷ asked)
    → OneServes first within j k later asked
serves_skip first within j zero now later x asked not serves =
    subst (λ (b : Bool). IfAsked b (ComesBy j (now + within) later) (OneServes first within j zero later asked)) not serves
serves_skip first within j (suc k) now later x asked not serves =
    subst (λ (b : Bool). IfAsked b (ComesBy j (now + within) later ⊎ OneServes first within j k later asked) (OneServes first within j (suc k) later asked)) not serves

pub serves_taken : (first within j k now : ℕ) (later : List AskedStep) (x : Asked) (asked : List Asked) → is_in (first + j) x.numbers ≡ true → OneServes first within j k (Asks now ∷ later) (x ∷ asked)
    → ComesBy j (now + within) later ⊎ ((i : ℕ) × (k ≡ suc i) × OneServes first within j i later asked)
serves_taken first within j zero now later x asked is serves =
    inl (subst (λ (b : Bool). IfAsked b (ComesBy j (now + within) later) (OneServes first within j zero later asked)) is serves)
serves_taken first within j (suc k) now later x asked is serves =
    elim (subst (λ (b : Bool). IfAsked b (ComesBy j (now + within) later ⊎ OneServes first within j k later asked) (OneServes first within j (suc k) later asked)) is serves) [
      | inl comes ↦ inl comes
      | inr rest ↦ inr (k, refl, rest)
    ]

module _ (exact : Exact) (on_time : OnTime) (settings : NackSettings) (c : Setting) (r : Receiving) (max_wait slack within k : ℕ) (plain : IsPlain c)
    (waiting : WaitsByTime max_wait r) (short : r.buffer.limit < 2 ^ 63) (allows : AllowsTries settings max_wait slack within k r.buffer.limit) where
  -- How far a datagram is: it came, nobody knows of it yet, it is requested, or it is final

  pub data Phase (time : ℕ) (until : Option ℕ) (xs : List Came) (calls : List Call) (later : List AskedStep) (asked : List Asked) (j : ℕ) : Type 0 where
    come : has_come j xs ≡ true → Phase time until xs calls later asked j
    unseen : ((m : ℕ) → has_come m xs ≡ true → m < j) → followed_since settings (c.first + j) calls ≡ None → requests_of settings (c.first + j) calls ≡ [] → OneServes c.first within j k later asked
        → Phase time until xs calls later asked j
    seen : (since i m : ℕ) → has_come m xs ≡ true → j < m → ((n at : ℕ) → CameAt n at xs → j < n → since ≤ at) → since ≤ time
        → IsOpen exact on_time settings allows.small (c.first + j) slack since calls until → length (requests_of settings (c.first + j) calls) + i ≡ k → OneServes c.first within j i later asked
        → Phase time until xs calls later asked j
    served : (since by : ℕ) → ((n at : ℕ) → CameAt n at xs → j < n → since ≤ at) → since ≤ time → by < since + max_wait → ComesBy j by later → Phase time until xs calls later asked j

  -- so each gap is filled in time
  filled : (time now : ℕ) (until : Option ℕ) (xs : List Came) (calls : List Call) (later : List AskedStep) (asked : List Asked) (j n at : ℕ) → Phase time until xs calls later asked j → IsBy until now
      → TimesRise now later → now < 2 ^ 63 → CameAt n at xs → at + max_wait ≤ now → j < n → has_come j xs ≡ true
  filled time now until xs calls later asked j n at (come is) by rise fits came past below = is
  filled time now until xs calls later asked j n at (unseen all none empty serves) by rise fits came past below =
      absurd (omega (arith, all n (came_has n at xs came), below))
  filled time now until xs calls later asked j n at (seen since i m has over holds before is_open sum serves) by rise fits came past below =
      let le = holds n at came below in
      let soon = allows.soon in
      let more = late exact on_time settings allows.small (c.first + j) slack since calls until k now allows.tries is_open by (omega (arith, le, past, soon)) (omega (arith, fits)) in
      absurd (omega (arith, more, sum))
  filled time now until xs calls later asked j n at (served since by' holds before soon comes) by rise fits came past below =
      let le = holds n at came below in
      let after = comes_after j by' now later rise comes in
      absurd (omega (arith, le, past, soon, after))

  -- After a delivery

  delivered_phase : (time : ℕ) (now : ℕ) (until : Option ℕ) (xs : List Came) (calls : List Call) (later : List AskedStep) (asked : List Asked) (n j : ℕ) (at : Ticks) → at.0 ≡ now → time ≤ now
      → Phase time until xs calls (Does (steps.Deliver n at) ∷ later) asked j → Phase now (sooner until (now + slack)) (record { datagram = n; at = now } ∷ xs) calls later asked j
  delivered_phase time now until xs calls later asked n j at same rise phase = elim (cases_lt n j) [
    | inl below ↦ by_phase (inl below) phase
    | inr ge ↦ elim (cases_lt j n) [
      | inl over ↦ by_phase (inr over) phase
      | inr le ↦ come (new_has (record { datagram = n; at = now }) j xs (omega (arith, ge, le)))
    ]
  ]
    where
      more : (since : ℕ) → since ≤ time → ((m t : ℕ) → CameAt m t xs → j < m → since ≤ t) → (m t : ℕ) → CameAt m t (record { datagram = n; at = now } ∷ xs) → j < m → since ≤ t
      more since before holds m t (inl here) below = let is = here.1 in omega (arith, before, rise, is)
      more since before holds m t (inr old) below = holds m t old below

      fresh : ((m : ℕ) → has_come m xs ≡ true → m < j) → (m t : ℕ) → CameAt m t (record { datagram = n; at = now } ∷ xs) → j < m → now ≤ t
      fresh all m t (inl here) below = let is = here.1 in omega (arith, is)
      fresh all m t (inr old) below = absurd (omega (arith, all m (came_has m t xs old), below))

      above : n < j → ((m : ℕ) → has_come m xs ≡ true → m < j) → (m : ℕ) → has_come m (record { datagram = n; at = now } ∷ xs) ≡ true → m < j
      above below all m has = elim (or_cases (eqb n m) (has_come m xs) has) [
        | inl new ↦ let is : n ≡ m = grind (arith, nat_tests, new) in omega (arith, below, is)
        | inr old ↦ all m old
      ]

      by_phase : (n < j) ⊎ (j < n) → Phase time until xs calls (Does (steps.Deliver n at) ∷ later) asked j → Phase now (sooner until (now + slack)) (record { datagram = n; at = now } ∷ xs) calls later asked j
      by_phase side (come is) = come (still_has (record { datagram = n; at = now }) j xs is)
      by_phase (inl below) (unseen all none empty serves) = unseen (above below all) none empty serves
      by_phase (inr over) (unseen all none empty serves) =
          let within_it = open_first exact on_time settings allows.small (c.first + j) slack now calls (sooner until (now + slack)) none empty (λ t is. inl (sooner_new until (now + slack) t is)) in
          seen now k n (new_has (record { datagram = n; at = now }) n xs refl) over (fresh all) (omega arith) within_it (omega (arith, ap length empty)) serves
      by_phase side (seen since i m has over holds before is_open sum serves) =
          let opened = open_sooner exact on_time settings allows.small (c.first + j) slack since calls until (sooner until (now + slack)) (λ t is. sooner_by until (now + slack) t is) is_open in
          seen since i m (still_has (record { datagram = n; at = now }) m xs has) over (more since before holds) (omega (arith, before, rise)) opened sum serves
      by_phase side (served since by holds before soon (inl here)) = come (new_has (record { datagram = n; at = now }) j xs here.0)
      by_phase side (served since by holds before soon (inr rest)) = served since by (more since before holds) (omega (arith, before, rise)) soon rest

  -- After an answer

  answered_phase : (time now number : ℕ) (until : Option ℕ) (xs : List Came) (calls : List Call) (later : List AskedStep) (asked : List Asked) (j : ℕ)
      → Phase time until xs calls (NotesAnswer now number ∷ later) asked j → Phase time until xs (answered now number ∷ calls) later asked j
  answered_phase time now number until xs calls later asked j (come is) = come is
  answered_phase time now number until xs calls later asked j (unseen all none empty serves) = unseen all none empty serves
  answered_phase time now number until xs calls later asked j (seen since i m has over holds before is_open sum serves) =
      seen since i m has over holds before (open_answered exact on_time settings allows.small (c.first + j) slack since now number calls until is_open) sum serves
  answered_phase time now number until xs calls later asked j (served since by holds before soon comes) = served since by holds before soon comes

  -- A pop and a send

  other_phase : (time now : ℕ) (until : Option ℕ) (xs : List Came) (calls : List Call) (step : DatagramStep) (later : List AskedStep) (asked : List Asked) (j : ℕ) → time ≤ now
      → ((by : ℕ) → ComesBy j by (Does step ∷ later) → ComesBy j by later) → Phase time until xs calls (Does step ∷ later) asked j → Phase now until xs calls later asked j
  other_phase time now until xs calls step later asked j rise less (come is) = come is
  other_phase time now until xs calls step later asked j rise less (unseen all none empty serves) = unseen all none empty serves
  other_phase time now until xs calls step later asked j rise less (seen since i m has over holds before is_open sum serves) =
      seen since i m has over holds (omega (arith, before, rise)) is_open sum serves
  other_phase time now until xs calls step later asked j rise less (served since by holds before soon comes) = served since by holds (omega (arith, before, rise)) soon (less by comes)

  -- After a poll

  abbrev polled : (now : ℕ) (ns : List ℕ) → List Call → List Call
  polled now ns calls = take_due now ∷ refresh now ns ∷ calls

  abbrev until_after : (now : ℕ) (ns : List ℕ) → List Call → Option ℕ
  until_after now ns calls = due_by slack now (earliest_of (schedule_after settings (polled now ns calls)).pending)

  asked_phase : (time now : ℕ) (until : Option ℕ) (xs : List Came) (calls : List Call) (later : List AskedStep) (asked : List Asked) (j : ℕ) (ns : List ℕ) (x : Asked)
      → x.numbers ≡ requested_at settings (refresh now ns ∷ calls) now → time ≤ now → now < 2 ^ 63 → IsBy until now
      → ((m : ℕ) → has_come m xs ≡ true → j < m → has_come j xs ≡ false → is_in (c.first + j) (followed settings ns) ≡ true)
      → (((m : ℕ) → has_come m xs ≡ true → m < j) → is_in (c.first + j) (followed settings ns) ≡ false)
      → Phase time until xs calls (Asks now ∷ later) (x ∷ asked) j → Phase now (until_after now ns calls) xs (polled now ns calls) later asked j
  asked_phase time now until xs calls later asked j ns x numbers rise fits by missing not_there phase =
      by_test (has_come j xs) (λ b. has_come j xs ≡ b → Phase now (until_after now ns calls) xs (polled now ns calls) later asked j) (λ t e. come e) (λ f e. by_phase e phase) refl
    where
      clash : {b : Bool} → b ≡ true → b ≡ false → ⊥
      clash t f = cc

      named_is : (b : Bool) → is_in (c.first + j) (requested_at settings (refresh now ns ∷ calls) now) ≡ b → is_in (c.first + j) x.numbers ≡ b
      named_is b e = ap (is_in (c.first + j)) numbers ∙ e

      -- a number that is not followed is not requested
      nothing : followed_since settings (c.first + j) calls ≡ None → is_in (c.first + j) (followed settings ns) ≡ false
          → (followed_since settings (c.first + j) (refresh now ns ∷ calls) ≡ None) × (requests_of settings (c.first + j) (refresh now ns ∷ calls) ≡ [])
          × (is_in (c.first + j) (requested_at settings (refresh now ns ∷ calls) now) ≡ false)
      nothing none absent =
          let since : followed_since settings (c.first + j) (refresh now ns ∷ calls) ≡ None = ap (λ (b : Bool). cond b (Some (begun now (followed_since settings (c.first + j) calls))) None) absent in
          let empty : requests_of settings (c.first + j) (refresh now ns ∷ calls) ≡ [] = ap (λ (b : Bool). cond b (requests_of settings (c.first + j) calls) []) absent in (
            since,
            empty,
            exact settings (refresh now ns ∷ calls) (c.first + j) now allows.small
                ∙ ap (λ (o : Option ℕ). is_past (next_by settings o (requests_of settings (c.first + j) (refresh now ns ∷ calls))) now) since,
          )

      by_phase : has_come j xs ≡ false → Phase time until xs calls (Asks now ∷ later) (x ∷ asked) j → Phase now (until_after now ns calls) xs (polled now ns calls) later asked j
      by_phase not (come is) = absurd (clash is not)
      by_phase not (unseen all none empty serves) =
          let none_now = nothing none (not_there all) in
          unseen all none_now.0 (ap (λ (b : Bool). cond b (request_at now (schedule_after settings (refresh now ns ∷ calls)) ∷ requests_of settings (c.first + j) (refresh now ns ∷ calls)) (requests_of settings (c.first + j) (refresh now ns ∷ calls))) none_now.2 ∙ none_now.1)
          (serves_skip c.first within j k now later x asked (named_is false none_now.2) serves)
      by_phase not (seen since i m has over holds before is_open sum serves) =
          let misses_it = missing m has over not in
          let opened = open_asked exact on_time settings allows.small (c.first + j) slack since calls now ns (omega (arith, fits)) misses_it until is_open by in
          let after = sent_after exact on_time settings allows.small (c.first + j) slack since calls now ns (omega (arith, fits)) misses_it in
          by_named opened (is_in (c.first + j) (requested_at settings (refresh now ns ∷ calls) now)) after refl
        where
          by_named : IsOpen exact on_time settings allows.small (c.first + j) slack since (polled now ns calls) (until_after now ns calls) → (b : Bool)
              → requests_of settings (c.first + j) (polled now ns calls)
              ≡ cond b (request_at now (schedule_after settings (refresh now ns ∷ calls)) ∷ requests_of settings (c.first + j) calls) (requests_of settings (c.first + j) calls)
              → is_in (c.first + j) (requested_at settings (refresh now ns ∷ calls) now) ≡ b → Phase now (until_after now ns calls) xs (polled now ns calls) later asked j
          by_named opened false same e =
              seen since i m has over holds (omega (arith, before, rise)) opened (omega (arith, sum, ap length same)) (serves_skip c.first within j i now later x asked (named_is false e) serves)
          by_named opened true same e =
              let made = (subst (AreInTime (request_by settings slack since)) same opened.in_time).0 in
              let up = times_up (length (requests_of settings (c.first + j) calls)) k (retry_most settings + slack) (omega (arith, sum)) in
              let soon = allows.soon in
              elim (serves_taken c.first within j i now later x asked (named_is true e) serves) [
                | inl comes ↦ served since (now + within) holds (omega (arith, before, rise)) (omega (arith, made, up, soon)) comes
                | inr rest ↦ seen since rest.0 m has over holds (omega (arith, before, rise)) opened (omega (arith, sum, ap length same, rest.1)) rest.2
              ]
      by_phase not (served since by' holds before soon comes) = served since by' holds (omega (arith, before, rise)) soon comes

  -- The receiver

  module _ (again : Option RetransmissionStream) (stream : Outgoing) (types : (stream.payload_type < 64) ⊎ (95 < stream.payload_type)) (datagrams : List (List ℕ))
      (are : AreDatagrams stream (packets_of c.units) datagrams) (ids : ExtensionIds) (time_of : ℕ → ℕ) (received : List DatagramStep)
      (known : (n : ℕ) (q : Packet) (meta : RtpMeta) → IsIn (steps.Deliver n meta.received) received → Tells stream.clock_rate q meta → HasValuesOf ids stream (packets_of c.units) n meta → c.known n q meta) where
    abbrev pub packets : List Packet
    packets = packets_of c.units

    -- the lowest number, and the highest one
    abbrev pub LowIs : List Came → Option ℕ → Type 0
    LowIs [] o = o ≡ None
    LowIs (x ∷ xs) o = (o ≡ Some c.first) × (has_come 0 (x ∷ xs) ≡ true)

    abbrev pub HighIs : List Came → Option ℕ → Type 0
    HighIs [] o = o ≡ None
    HighIs (x ∷ xs) o = (g : ℕ) × (o ≡ Some (c.first + g)) × (has_come g (x ∷ xs) ≡ true) × (g < count c) × ((m : ℕ) → has_come m (x ∷ xs) ≡ true → m ≤ g)

    -- the receiver, when these came, before the deliveries of these
    pub record Goes (p : ℕ) (xs : List Came) (s : Session) (ks : List ℕ) : Type 0 where
      pub listening : IsListening again stream s
      pub same_ids : s.stream.ids ≡ ids
      pub limits : KeepsLimits r s.packets
      pub not_ended : s.packets.ended ≡ false
      pub numbers : AllNumbered c.first s.packets.numbering ks
      pub timed : AllTimed time_of c.first packets ks
      pub timely : StayTimely stream.clock_rate c.first packets s.packets.first ks
      pub times : AreTimesOf time_of s.packets.noted
      pub stands : Stands c r max_wait plain waiting short p xs s.packets.buffer
      pub low : LowIs xs s.packets.lowest
      pub high : HighIs xs s.packets.numbering.greatest
      pub begins : xs ≡ [] → BeginsAt0 ks

    -- What is missing

    held_came : (xs : List Came) (hs : List Held) (n : ℕ) → AllHeld (IsOf c r max_wait plain waiting short xs) hs → has_number n hs ≡ true → (m : ℕ) × (has_come m xs ≡ true) × (n ≡ c.first + m)
    held_came xs [] n all is = absurd (cc)
    held_came xs (h ∷ hs) n all is = elim (or_cases (eqb (number_of h) n) (has_number n hs) is) [
      | inl here ↦
          let same : number_of h ≡ n = grind (arith, nat_tests, here) in
          (all.0.0, came_has all.0.0 h.meta.received.0 xs all.0.1, omega (arith, same, all.0.2))
      | inr later ↦ held_came xs hs n all.1 later
    ]

    not_both : {b : Bool} → b ≡ true → b ≡ false → ⊥
    not_both t f = cc

    missing_here : (p : ℕ) (xs : List Came) (s : Session) (ks : List ℕ) (m j : ℕ) → Goes p xs s ks → has_come m xs ≡ true → j < m → has_come j xs ≡ false
        → is_in (c.first + j) (followed settings (missing_numbers s.packets settings.capacity)) ≡ true
    missing_here p [] s ks m j goes has over not = absurd (cc)
    missing_here p (x ∷ xs) s ks m j goes has over not =
        let low = goes.low in
        let high = goes.high in
        let most = high.4 m has in
        misses settings s.packets (c.first + j) c.first (c.first + high.0) low.0 high.1 (above_first j not low.1)
        (not_passed c r max_wait plain waiting short p j (x ∷ xs) s.packets.buffer.cutoff goes.stands.cut not) (omega (arith, over, most))
        (absent_is s.packets (c.first + j) goes.listening.none_noted (not_held (has_number (c.first + j) s.packets.buffer.held) refl))
        (λ n is. wide s.packets.buffer.cutoff n goes.stands.cut is)
      where
        -- the schedule follows as many numbers as the buffer has places
        wide : (o : Option ℕ) (n : ℕ) → StandsAt c r max_wait plain waiting short p (x ∷ xs) o → floor_by (Some c.first) o ≡ Some n → c.first + goes.high.0 ≤ settings.capacity + n + 1
        wide None n at is =
            let none : packets_before p c.units ≡ 0 = ap (λ (m : ℕ). packets_before m c.units) at in
            let close = goes.stands.near goes.high.0 goes.high.2 in
            let room = allows.capacity in
            let same : c.first ≡ n = same_number is in
            omega (arith, none, close, room, same)
          where
            same_number : {a b : ℕ} → Some a ≡ Some b → a ≡ b
            same_number e = cc
        wide (Some cut) n at is =
            let close = goes.stands.near goes.high.0 goes.high.2 in
            let room = allows.capacity in
            let same : max c.first cut ≡ n = same_number is in
            omega (arith, at.0, close, room, same)
          where
            same_number : {a b : ℕ} → Some a ≡ Some b → a ≡ b
            same_number e = cc

        above_first : (j : ℕ) → has_come j (x ∷ xs) ≡ false → has_come 0 (x ∷ xs) ≡ true → c.first < c.first + j
        above_first zero not zero_came = absurd (not_both zero_came not)
        above_first (suc j) not zero_came = omega arith

        not_held : (b : Bool) → has_number (c.first + j) s.packets.buffer.held ≡ b → has_number (c.first + j) s.packets.buffer.held ≡ false
        not_held true e =
            let there = held_came (x ∷ xs) s.packets.buffer.held (c.first + j) goes.stands.held_in e in
            let same : there.0 ≡ j = omega (arith, there.2) in
            absurd (not_both (subst (λ (k : ℕ). has_come k (x ∷ xs) ≡ true) same there.1) not)
        not_held false e = e

    unseen_here : (p : ℕ) (xs : List Came) (s : Session) (ks : List ℕ) (j : ℕ) → Goes p xs s ks → ((m : ℕ) → has_come m xs ≡ true → m < j)
        → is_in (c.first + j) (followed settings (missing_numbers s.packets settings.capacity)) ≡ false
    unseen_here p [] s ks j goes all = not_missing settings s.packets (c.first + j) (λ g e. absurd (none_is g (sym e ∙ goes.high)))
      where
        none_is : (g : ℕ) → Some g ≡ None → ⊥
        none_is g e = absurd (cc)
    unseen_here p (x ∷ xs) s ks j goes all = not_missing settings s.packets (c.first + j) (λ g e.
        let high = goes.high in
        let same : g ≡ c.first + high.0 = same_number g (c.first + high.0) (sym e ∙ high.1) in
        omega (arith, same, all high.0 high.2))
      where
        same_number : (a b : ℕ) → Some a ≡ Some b → a ≡ b
        same_number a b e = cc

    -- After a delivery

    low_next : (n number : ℕ) (x : Came) (xs : List Came) (o : Option ℕ) → x.datagram ≡ n → number ≡ c.first + n → LowIs xs o → (xs ≡ [] → n ≡ 0) → LowIs (x ∷ xs) (Some (lesser o number))
    low_next n number x [] o index is low begins =
        let first_is : n ≡ 0 = begins refl in
        let at : lesser o number ≡ c.first = ap (λ (y : Option ℕ). lesser y number) low ∙ omega (arith, is, first_is) in
        (ap (λ (m : ℕ). Some m) at, new_has x 0 [] (omega (arith, index, first_is)))
    low_next n number x (y ∷ ys) o index is low begins =
        let at : lesser o number ≡ c.first = ap (λ (z : Option ℕ). lesser z number) low.0 ∙ omega (arith, is) in
        (ap (λ (m : ℕ). Some m) at, still_has x 0 (y ∷ ys) low.1)

    high_next : (n number : ℕ) (x : Came) (xs : List Came) (o : Option ℕ) → x.datagram ≡ n → number ≡ c.first + n → n < count c → HighIs xs o → HighIs (x ∷ xs) (Some (greater o number))
    high_next n number x [] o index is few high = (
      n,
      ap (λ (m : ℕ). Some m) (ap (λ (y : Option ℕ). greater y number) high ∙ is),
      new_has x n [] index,
      few,
      λ m has. elim (or_cases (eqb x.datagram m) false has) [ inl new ↦ let same : x.datagram ≡ m = grind (arith, nat_tests, new) in omega (arith, same, index) | inr old ↦ absurd (cc) ],
    )
    high_next n number x (y ∷ ys) o index is few high = (
      max high.0 n,
      ap (λ (m : ℕ). Some m) (ap (λ (z : Option ℕ). greater z number) high.1 ∙ omega (arith, is)),
      by_max (cases_lt high.0 n),
      omega (arith, high.3, few),
      λ m has. elim (or_cases (eqb x.datagram m) (has_come m (y ∷ ys)) has) [
        | inl new ↦ let same : x.datagram ≡ m = grind (arith, nat_tests, new) in omega (arith, same, index)
        | inr old ↦ omega (arith, high.4 m old)
      ],
    )
      where
        by_max : (high.0 < n) ⊎ (n ≤ high.0) → has_come (max high.0 n) (x ∷ y ∷ ys) ≡ true
        by_max (inl less) = new_has x (max high.0 n) (y ∷ ys) (omega (arith, index, less))
        by_max (inr ge) = let same : high.0 ≡ max high.0 n = omega (arith, ge) in still_has x (max high.0 n) (y ∷ ys) (subst (λ (k : ℕ). has_come k (y ∷ ys) ≡ true) same high.2)

    delivered_goes : (p : ℕ) (xs : List Came) (s : Session) (n : ℕ) (now : Ticks) (ks : List ℕ) → Goes p xs s (n ∷ ks) → (datagram : List ℕ) → slice_get datagrams n ≡ Some datagram → (bytes : List ℕ)
        → IsCopy again datagram bytes → (receipt : Receipt) (mid : Session) → Delivers now bytes s receipt mid → IsIn (steps.Deliver n now) received → n + r.room < packets_before p c.units + r.buffer.limit → Goes p (record { datagram = n; at = now.0 } ∷ xs) mid ks
    delivered_goes p xs s n now ks goes datagram at bytes copy receipt mid delivers among close =
        let pk = packet_at_index stream c.first packets datagrams n datagram are c.numbered at in
        let q : Packet = pk.0 in
        let number : answer_for s.packets.numbering (q.number % 2 ^ 16) ≡ extended.Number q.number =
        subst (λ (m : ℕ). answer_for s.packets.numbering (m % 2 ^ 16) ≡ extended.Number m) (sym pk.3) goes.numbers.0 in
        let time : q.rtp_time ≡ time_of q.number = time_at packets n q pk.1 ∙ (goes.timed.0 ∙ ap time_of (sym pk.3)) in
        let stamped : q.rtp_time ≡ time_in packets n = time_at packets n q pk.1 in
        let in_time = untimely_is stream.clock_rate s.packets.rate c.first packets s.packets.first q.number q.rtp_time n goes.listening.rate pk.3 stamped
        (timely_now stream.clock_rate c.first packets s.packets.first n ks goes.timely) in
        let one = pushes_copy again time_of stream now q datagram bytes s mid receipt types goes.listening pk.2 copy number goes.times time in_time delivers in
        let lowest = lowest_copy again time_of stream now q datagram bytes s mid receipt types goes.listening pk.2 copy number goes.times time in_time delivers in
        let greatest : mid.packets.numbering.greatest ≡ Some (greater s.packets.numbering.greatest q.number) =
        ap (λ (x : Numbering). x.greatest) one.numbering ∙ ap (λ (e : Extended). (numbering_with s.packets.numbering e (q.number % 2 ^ 16)).greatest) number in
        let numbering : mid.packets.numbering ≡ numbering_after s.packets.numbering ((c.first + n) % 2 ^ 16) = one.numbering ∙ ap (λ (m : ℕ). numbering_after s.packets.numbering (m % 2 ^ 16)) pk.3 in
        let h : Held = arrived s.packets.buffer.depacketizer one.meta q.payload in
        let here : IsIn (steps.Deliver n one.meta.received) received = subst (λ (t : Ticks). IsIn (steps.Deliver n t) received) (sym one.received) among in
        let values : HasValuesOf ids stream packets n one.meta = (q, pk.1, one.values ∙ ap (λ (i : ExtensionIds). values_read i stream q.ext_vals) goes.same_ids) in
        let push : IsPush c h = (n, q, pk.1, known n q one.meta here one.tells values, ap (λ (x : DepacketizerKind). held_as x one.meta q.payload) goes.stands.ready.beyond.reads) in
        let at_number : number_of h ≡ c.first + n = number_of_sent c.known c.clock_rate c.first c.kind c.faithful c.splits c.units c.lawful c.numbered h push in
        let pushed_on = stands_pushed c r max_wait plain waiting short p xs s.packets.buffer h n goes.stands push at_number close in
        record {
          listening = one.listening;
          same_ids = ap (λ (x : Kinds). x.ids) one.kinds ∙ goes.same_ids;
          limits = keeps_then r s.packets mid.packets goes.limits one.limits;
          not_ended = one.ended ∙ goes.not_ended;
          numbers = subst (λ (m : Numbering). AllNumbered c.first m ks) (sym numbering) goes.numbers.1;
          timed = goes.timed.1;
          timely = timely_next stream.clock_rate c.first packets s.packets.first mid.packets.first (answer_for s.packets.numbering (q.number % 2 ^ 16)) q.number q.rtp_time n ks
              goes.timely one.first number pk.3 stamped;
          times = one.times;
          stands = subst (λ (b : State). Stands c r max_wait plain waiting short p (record { datagram = n; at = now.0 } ∷ xs) b) (sym one.buffer)
              (subst (λ (t : Ticks). Stands c r max_wait plain waiting short p (record { datagram = n; at = t.0 } ∷ xs) (pushed s.packets.buffer h)) one.received pushed_on);
          low = subst (LowIs (record { datagram = n; at = now.0 } ∷ xs)) (sym lowest) (low_next n q.number (record { datagram = n; at = now.0 }) xs s.packets.lowest refl pk.3 goes.low goes.begins);
          high = subst (HighIs (record { datagram = n; at = now.0 } ∷ xs)) (sym greatest)
              (high_next n q.number (record { datagram = n; at = now.0 }) xs s.packets.numbering.greatest refl pk.3 (slice_get_within packets n q pk.1) goes.high);
          begins = λ e. absurd (not_empty e);
        }
      where
        not_empty : record { datagram = n; at = now.0 } ∷ xs ≡ [] → ⊥
        not_empty e = absurd (cc)

    -- After a pop

    popped_goes : (p : ℕ) (xs : List Came) (s : Session) (now : Ticks) (ks : List ℕ) → Goes p xs s ks → (answer : Answer) (mid : Session) → answer ≢ Some (Err faults.OutOfMemory) → PopsUnit now s answer mid
        → AreFilledAt max_wait now.0 xs → StartsWhole (first_size c.units) xs → Goes (count_after p answer) xs mid ks
    popped_goes p xs s now ks goes answer mid found gated filled_at starts =
        let one = pops_as again stream now answer s mid goes.listening found gated in
        let turn = turn_at one.wait s.packets.buffer mid.packets.buffer answer one.pops in
        let wait : one.wait ≡ wait_of r false s.packets.buffer now.0 =
        one.wait_is ∙ (wait_same r s.packets now.0 goes.limits ∙ ap (λ (b : Bool). wait_of r b s.packets.buffer now.0) goes.not_ended) in
        let next = stands_popped c r max_wait plain waiting short p now.0 xs s.packets.buffer mid.packets.buffer turn.0 answer goes.stands filled_at starts
        (subst (λ (w : Option ℕ). AnswersTurn w s.packets.buffer turn.0 answer mid.packets.buffer) wait turn.1) in
        record {
          listening = one.listening;
          same_ids = ap (λ (x : Kinds). x.ids) one.kinds ∙ goes.same_ids;
          limits = keeps_then r s.packets mid.packets goes.limits one.limits;
          not_ended = one.ended ∙ goes.not_ended;
          numbers = subst (λ (m : Numbering). AllNumbered c.first m ks) (sym one.numbering) goes.numbers;
          timed = goes.timed;
          timely = subst (λ (f : Option NotedTime). StayTimely stream.clock_rate c.first packets f ks) (sym one.first) goes.timely;
          times = subst (λ (m : Noted). AreTimesOf time_of m) (sym one.noted) goes.times;
          stands = next.1;
          low = subst (LowIs xs) (sym (lowest_popped again stream now answer s mid goes.listening gated)) goes.low;
          high = subst (HighIs xs) (sym (ap (λ (x : Numbering). x.greatest) one.numbering)) goes.high;
          begins = goes.begins;
        }

    -- The walk

    abbrev pub Phases : ℕ → Option ℕ → List Came → List Call → List AskedStep → List Asked → Type 0
    Phases time until xs calls later asked = (j : ℕ) → Phase time until xs calls later asked j

    pub walk : (later : List AskedStep) (answers : List Answer) (asked : List Asked) (time : ℕ) (until : Option ℕ) (p : ℕ) (xs : List Came) (calls : List Call) (s : Session)
        → Listens again later datagrams s (schedule_after settings calls) answers asked → KeepsUp r.room r.buffer.limit c.units p (plain_of later) answers → TimesRise time later → AsksInTime slack until later asked → FirstComesFirst (first_size c.units) xs later
        → ((step : DatagramStep) → IsIn step (plain_of later) → IsIn step received) → Goes p xs s (delivered (plain_of later)) → Phases time until xs calls later asked
        → GapsAreFilled max_wait (first_size c.units) xs (plain_of later)
    walk [] answers asked time until p xs calls s listens keeps rise in_time first among goes phases = tt
    walk (Does (steps.Send i) ∷ later) answers asked time until p xs calls s listens keeps rise in_time first among goes phases =
        walk later answers asked time until p xs calls s listens keeps rise in_time first (λ step is. among step (inr is)) goes
        (λ j. other_phase time time until xs calls (steps.Send i) later asked j (omega arith) (λ by is. is) (phases j))
    walk (Does (steps.Deliver n now) ∷ later) answers asked time until p xs calls s listens keeps rise in_time first among goes phases =
        let next = delivered_goes p xs s n now (delivered (plain_of later)) goes listens.0 listens.1 listens.2 listens.3 listens.4 listens.5 listens.6 (among (steps.Deliver n now) (inl refl)) keeps.0 in
        walk later answers asked now.0 (sooner until (now.0 + slack)) p (record { datagram = n; at = now.0 } ∷ xs) calls listens.5 listens.7 keeps.1 rise.2 in_time.1 first (λ step is. among step (inr is)) next
        (λ j. delivered_phase time now.0 until xs calls later asked n j now refl rise.0 (phases j))
    walk (Does (steps.Pop now) ∷ later) answers asked time until p xs calls s listens keeps rise in_time first among goes phases =
        let after : Phases now.0 until xs calls later asked = λ j. other_phase time now.0 until xs calls (steps.Pop now) later asked j rise.0 (λ by is. is) (phases j) in
        let filled_at : AreFilledAt max_wait now.0 xs = λ n at j came past below. filled now.0 now.0 until xs calls later asked j n at (after j) in_time.0 rise.2 rise.1 came past below in
        let kept : KeepsUp r.room r.buffer.limit c.units (count_after p listens.0) (plain_of later) listens.4 =
        subst (λ (as' : List Answer). KeepsUp r.room r.buffer.limit c.units p (steps.Pop now ∷ plain_of later) as') listens.5 keeps in
        let next = popped_goes p xs s now (delivered (plain_of later)) goes listens.0 listens.1 listens.2 listens.3 filled_at first.0 in
        (filled_at, first.0, walk later listens.4 asked now.0 until (count_after p listens.0) xs calls listens.1 listens.6 kept rise.2 in_time.1 first.1 (λ step is. among step (inr is)) next after)
    walk (Does steps.Finish ∷ later) answers asked time until p xs calls s listens keeps rise in_time first among goes phases = absurd first
    walk (Asks now ∷ later) answers asked time until p xs calls s listens keeps rise in_time first among goes phases =
        let ns : List ℕ = missing_numbers s.packets (schedule_after settings calls).settings.capacity in
        let same : ns ≡ missing_numbers s.packets settings.capacity = ap (λ (x : NackSettings). missing_numbers s.packets x.capacity) (settings_stay settings calls) in
        let x : Asked = asked_by now s (schedule_after settings calls) in
        let polls = subst (λ (as' : List Asked). AsksInTime slack until (Asks now ∷ later) as') listens.1 in_time in
        walk later answers listens.0 now (until_after now ns calls) p xs (polled now ns calls) s listens.2 keeps rise.2 polls.1 first among goes
        (λ j. asked_phase time now until xs calls later listens.0 j ns x refl rise.0 rise.1 polls.0
        (λ m has over not. subst (λ (ms : List ℕ). is_in (c.first + j) (followed settings ms) ≡ true) (sym same) (missing_here p xs s (delivered (plain_of later)) m j goes has over not))
        (λ all. subst (λ (ms : List ℕ). is_in (c.first + j) (followed settings ms) ≡ false) (sym same) (unseen_here p xs s (delivered (plain_of later)) j goes all))
        (subst (λ (as' : List Asked). Phase time until xs calls (Asks now ∷ later) as' j) listens.1 (phases j)))
    walk (NotesAnswer now number ∷ later) answers asked time until p xs calls s listens keeps rise in_time first among goes phases =
        walk later answers asked time until p xs (answered now number ∷ calls) s listens keeps rise in_time first among goes (λ j. answered_phase time now number until xs calls later asked j (phases j))
