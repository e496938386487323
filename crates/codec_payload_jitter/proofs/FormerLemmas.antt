-- A former sender is remembered only after a restart that is counted.
use Rattle.std.proofs.Common.{◌≡◌, ◌∙◌, refl, ap, sym, ℕ, [], ◌∷◌, Bool, true, false, Option, Some, None, arith, cond}
use Rattle.codec_payload_jitter.specs.NoMediaNumbers.{noted_no_media}
use Rattle.codec_payload_jitter.specs.Pressure.{Event, Packet, Retransmitted, Recovered, WithoutMedia, Comes}
use Rattle.codec_payload_jitter.specs.Receiving.{Receiving, Arrival, Confirms, GoesOn, NotesAs, PopsWith, ReceivesAs, ReceivesAgainAs, RecoversAs, RecoversIf, Restarts, settled, waiting_at}
use Rattle.codec_payload_jitter.specs.Receiving.{answer_in, answer_to, counted, counted_again, former_by, former_of, may_recover, next, number_again_for, outcome_at, restarted, with_former}
use Rattle.codec_payload_numbers.specs.Numbers.{kept_number}
use Rattle.codec_payload_jitter.specs.Restarts.{Arrives, PopsAt, HaveNoFormer}
use Rattle.codec_payload_jitter.specs.Runs.{Answer}
use Rattle.codec_payload_numbers.specs.declared.noted_times.FormerSender.{FormerSender}
use Rattle.codec_payload_numbers.specs.declared.noted_times.NotedTime.{NotedTime}
use Rattle.codec_payload_numbers.specs.declared.numbers.Extended.{Extended}
use Rattle.codec_payload_numbers.specs.declared.numbers.Extended.TheVariants as extended
use Rattle.codec_payload_jitter.specs.declared.outcome.Outcome.{Outcome}
use Rattle.codec_payload_jitter.specs.declared.outcome.Outcome.TheVariants as outcomes
use Rattle.codec_payload_jitter.specs.declared.outcome.PacketCounters.{PacketCounters}
use Rattle.codec_payload_jitter.proofs.RestartLemmas.{goes_on_restarts}
use Rattle.codec_payload_numbers.proofs.TimesLemmas.{noted_former, none_of_former}

-- the former sender of a jitter buffer
abbrev pub former_in : Receiving → Option FormerSender
former_in r = r.noted.former

-- an event leaves the former sender, or counts a restart
abbrev pub Leaves : Receiving → Receiving → Type 0
Leaves r t = t.counters.restarts ≡ r.counters.restarts → former_in t ≡ former_in r

-- a count never stays the same when it rises by one, modulo 2^64
never_same : (n : ℕ) → next n ≡ n → ⊥
never_same n same = omega (arith, same)

again_restarts : (c : PacketCounters) (o : Outcome) → (counted_again c o).restarts ≡ c.restarts
again_restarts c outcomes.Held = refl
again_restarts c outcomes.HeldAndEvicted = refl
again_restarts c outcomes.Duplicate = refl
again_restarts c outcomes.Late = refl
again_restarts c outcomes.Suspect = refl
again_restarts c (outcomes.Restarted with_kept) = refl
again_restarts c outcomes.NoMedia = refl
again_restarts c outcomes.OtherStream = refl
again_restarts c outcomes.Undecided = refl
again_restarts c outcomes.Rtcp = refl

confirms_counts : (n : ℕ) (kept : Option Arrival) (r : Receiving) (with_kept : Bool) (t : Receiving) → Confirms n kept (restarted r) with_kept t → t.counters.restarts ≡ next r.counters.restarts
confirms_counts n None r with_kept t got = ap (λ (x : Receiving). x.counters.restarts) got.1
confirms_counts n (Some a) r with_kept t got =
    ap (λ (x : Receiving). x.counters.restarts) got.1.2 ∙ again_restarts (restarted r).counters (outcome_at r.buffer (kept_number n a.header.sequence_number))

pub goes_on_former : (n : ℕ) (a : Arrival) (r : Receiving) (o : Outcome) (t : Receiving) → GoesOn n a r o t → former_in t ≡ former_in r
goes_on_former n a r o t goes =
    let x : NotedTime = record { number = n; time = a.header.timestamp } in
    ap former_in goes.2 ∙ (noted_former goes.0.noted x ∙ ap former_in goes.1.3)

restarts_count : (n : ℕ) (a : Arrival) (r : Receiving) (o : Outcome) (t : Receiving) → Restarts n a r o t → t.counters.restarts ≡ next r.counters.restarts
restarts_count n a r o t got = confirms_counts n got.1.kept got.1 got.2 t got.4 ∙ ap next (goes_on_restarts a n r got.1 got.0 got.3)

receives_as : (answer : Extended) (a : Arrival) (r : Receiving) (o : Outcome) (t : Receiving) → ReceivesAs answer a r o t → Leaves r t
receives_as (extended.Number n) a r o t got same = goes_on_former n a r o t got
receives_as (extended.Restarted n) a r o t got same =
    absurd (never_same r.counters.restarts (sym (restarts_count n a r o got.0 got.1) ∙ (sym (ap (λ (x : Receiving). x.counters.restarts) got.2) ∙ same)))
receives_as extended.Suspect a r o t got same = ap former_in got.1
receives_as extended.Spent a r o t got same = ap former_in got.1

receives_again : (number : Option ℕ) (a : Arrival) (r : Receiving) (o : Outcome) (t : Receiving) → ReceivesAgainAs number a r o t → former_in t ≡ former_in r
receives_again None a r o t got = ap former_in got.1
receives_again (Some n) a r o t got = ap former_in got.2 ∙ goes_on_former n a r o got.0 got.1

recovers_if : (missing : Bool) (n : ℕ) (a : Arrival) (r : Receiving) (went_in : Bool) (t : Receiving) → RecoversIf missing n a r went_in t → former_in t ≡ former_in r
recovers_if false n a r went_in t got = ap former_in got.1
recovers_if true n a r went_in t got = ap former_in got.4 ∙ ap former_in got.2.3

recovers_as : (number : Option ℕ) (a : Arrival) (r : Receiving) (went_in : Bool) (t : Receiving) → RecoversAs number a r went_in t → former_in t ≡ former_in r
recovers_as None a r went_in t got = ap former_in got.1
recovers_as (Some n) a r went_in t got = recovers_if (may_recover r n) n a r went_in t got

notes_as : (answer : Extended) (r t : Receiving) → NotesAs answer r t → Leaves r t
notes_as (extended.Number n) r t noted same = ap former_in noted
notes_as (extended.Restarted n) r t noted same =
    let s : Receiving = record r { no_media_numbers = noted_no_media n r.no_media_numbers; counters = counted r.counters outcomes.NoMedia } in
    absurd (never_same r.counters.restarts (sym (confirms_counts n r.kept s noted.1.0 noted.0 noted.1.1) ∙ (sym (ap (λ (x : Receiving). x.counters.restarts) noted.2) ∙ same)))
notes_as extended.Suspect r t noted same = ap former_in noted
notes_as extended.Spent r t noted same = ap former_in noted

comes : (event : Event) (r t : Receiving) → Comes event r t → Leaves r t
comes (Packet a) r t come same =
    let got = come.1 in
    ap former_in got.2 ∙ receives_as (answer_to r a.header) a r come.0 got.0 got.1 (sym (ap (λ (x : Receiving). x.counters.restarts) got.2) ∙ same)
comes (Retransmitted a) r t come same = receives_again (number_again_for r a.header.sequence_number a.header.timestamp) a r come.0 t come.1
comes (Recovered a) r t come same = recovers_as (number_again_for r a.header.sequence_number a.header.timestamp) a r come.0 t come.1
comes (WithoutMedia low) r t come same =
    ap former_in come.2 ∙ notes_as (answer_in r low) r come.0 come.1 (sym (ap (λ (x : Receiving). x.counters.restarts) come.2) ∙ same)

pops : (wait : Option ℕ) (r t : Receiving) (answer : Answer) → PopsWith wait (settled r) answer t → former_in t ≡ former_in r
pops None r t answer got = ap former_in got.1
pops (Some h) r t answer got = ap former_in got.2

pub have_no_former : HaveNoFormer
have_no_former [] r t none steps low time =
    none_of_former t.rate t.noted t.first low time (ap former_in steps ∙ none)
have_no_former (Arrives event ∷ more) r t none steps low time =
    have_no_former more steps.0 t (comes event r steps.0 steps.1 steps.2 ∙ none) steps.3 low time
have_no_former (PopsAt now ∷ more) r t none steps low time =
    have_no_former more steps.1 t (pops (waiting_at (settled r) now) r steps.1 steps.0 steps.2 ∙ none) steps.3 low time

-- Announced restarts

-- a restart that the caller announced leaves no former sender
pub announced_leaves_none : (r : Receiving) → r.is_restarting ≡ true → former_of r ≡ None
announced_leaves_none r waiting = ap (λ (b : Bool). cond b None (former_by r.noted r.numbering.greatest)) waiting

pub same_former : (r t : Receiving) → former_of r ≡ t.noted.former → with_former r t ≡ t
same_former r t same = ap (λ (f : Option FormerSender). record t { noted = record t.noted { former = f } }) same
