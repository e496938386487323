-- The noted times of a sender that gives each number one RTP time contradict none of its packets, so no restart is reported.
use Rattle.std.proofs.Common.{◌≡◌, ◌∙◌, refl, ap, sym, subst, ℕ, [], ◌∷◌, Bool, true, false, not, ◌||◌, ◌&&◌, Option, Some, None, cond}
use Rattle.codec_payload_base.specs.declared.wire.RtpHeader.{RtpHeader}
use Rattle.codec_payload_numbers.specs.NotedTimes.{AreTimesOf, contradicts, is_untimely, noted_with}
use Rattle.codec_payload_numbers.specs.Numbers.{answer_for, number_within, without_restart}
use Rattle.codec_payload_jitter.specs.Pressure.{Event, Packet, Retransmitted, Recovered, WithoutMedia, Comes}
use Rattle.codec_payload_jitter.specs.Receiving.{Receiving, Arrival, Accepts, GoesOn, NotesAs, PopsWith, ReceivesAs, ReceivesAgainAs, RecoversAs, RecoversIf, settled, waiting_at}
use Rattle.codec_payload_jitter.specs.Receiving.{answer_by_time, answer_in, answer_to, answer_to_contradiction, counted, counted_in_again, is_contradicted, is_stored, may_recover, next, number_again, number_again_for}
use Rattle.codec_payload_jitter.specs.Restarts.{IsHonest, Arrives, PopsAt, NeverRestarts}
use Rattle.codec_payload_jitter.specs.Runs.{Answer}
use Rattle.codec_payload_numbers.specs.declared.noted_times.NotedTime.{NotedTime}
use Rattle.codec_payload_numbers.specs.declared.numbers.Extended.{Extended}
use Rattle.codec_payload_numbers.specs.declared.numbers.Extended.TheVariants as extended
use Rattle.codec_payload_jitter.specs.declared.outcome.Outcome.{Outcome}
use Rattle.codec_payload_jitter.specs.declared.outcome.Outcome.TheVariants as outcomes
use Rattle.codec_payload_jitter.specs.declared.outcome.PacketCounters.{PacketCounters}
use Rattle.codec_payload_numbers.proofs.TimesLemmas.{never_contradicts, none_of_former, still_times}

-- Answers

-- a number within the windows is the packet's number, also after the end of the stream
pub answer_in_is : (r : Receiving) (low n : ℕ) → r.is_restarting ≡ false → answer_for r.numbering low ≡ extended.Number n → answer_in r low ≡ extended.Number n
answer_in_is r low n running is = rw running (by_ended r.ended)
  where
    by_ended : (b : Bool) → cond b (without_restart (answer_for r.numbering low)) (answer_for r.numbering low) ≡ extended.Number n
    by_ended true = ap without_restart is
    by_ended false = is

and_false : (a b : Bool) → b ≡ false → (a && b) ≡ false
and_false true b is = is
and_false false b is = refl

or_false : (a b : Bool) → a ≡ false → b ≡ false → (a || b) ≡ false
or_false true b is e = is
or_false false b is e = e

-- a sender that was never reported as restarted has no former one, so the answer is by the number and the noted times
pub answer_without_former : (r : Receiving) (header : RtpHeader) → r.noted.former ≡ None → answer_to r header ≡ answer_by_time r header (answer_in r header.sequence_number)
answer_without_former r header none =
    ap (λ (b : Bool). cond b extended.Spent (answer_by_time r header (answer_in r header.sequence_number)))
    (none_of_former r.rate r.noted r.first header.sequence_number header.timestamp none)

-- and the same for a retransmission
pub again_without_former : (r : Receiving) (low time : ℕ) → r.noted.former ≡ None → number_again_for r low time ≡ number_again r low
again_without_former r low time none = ap (λ (b : Bool). cond b None (number_again r low)) (none_of_former r.rate r.noted r.first low time none)

-- the same for a packet with its RTP time, which is timely if its number is below the first one
pub answer_to_is : (time_of : ℕ → ℕ) (r : Receiving) (header : RtpHeader) (n : ℕ) → r.is_restarting ≡ false → AreTimesOf time_of r.noted
    → answer_for r.numbering header.sequence_number ≡ extended.Number n → header.timestamp ≡ time_of n
    → is_untimely r.rate r.first (record { number = n; time = header.timestamp }) ≡ false → answer_to r header ≡ extended.Number n
answer_to_is time_of r header n running times within time timely =
    let x : NotedTime = record { number = n; time = header.timestamp } in
    let fits : (contradicts r.noted x || is_untimely r.rate r.first x) ≡ false =
    or_false (contradicts r.noted x) (is_untimely r.rate r.first x) (never_contradicts time_of r.noted x time times) timely in
    let same : is_contradicted r n header.timestamp ≡ false = and_false (not (r.ended || r.is_restarting)) (contradicts r.noted x || is_untimely r.rate r.first x) fits in
    answer_without_former r header times.1
    ∙ ap (answer_by_time r header) (answer_in_is r header.sequence_number n running within)
    ∙ ap (λ (b : Bool). cond b (answer_to_contradiction r header) (extended.Number n)) same

-- Events

counted_restarts : (c : PacketCounters) (o : Outcome) → (counted c o).restarts ≡ c.restarts
counted_restarts c outcomes.Held = refl
counted_restarts c outcomes.HeldAndEvicted = refl
counted_restarts c outcomes.Duplicate = refl
counted_restarts c outcomes.Late = refl
counted_restarts c outcomes.Suspect = refl
counted_restarts c (outcomes.Restarted with_kept) = refl
counted_restarts c outcomes.NoMedia = refl
counted_restarts c outcomes.OtherStream = refl
counted_restarts c outcomes.Undecided = refl
counted_restarts c outcomes.Rtcp = refl

again_restarts : (c : PacketCounters) (o : Outcome) → (counted_in_again c o).restarts ≡ c.restarts
again_restarts c o = by_test (is_stored o)
  where
    by_test : (b : Bool) → (cond b (record c { retransmitted = next c.retransmitted }) c).restarts ≡ c.restarts
    by_test true = refl
    by_test false = refl

-- no restart is reported or announced, and the noted times are the sender's
pub record GoesOnAs (time_of : ℕ → ℕ) (r t : Receiving) : Type 0 where
  pub restarts : t.counters.restarts ≡ r.counters.restarts
  pub running : t.is_restarting ≡ false
  pub times : AreTimesOf time_of t.noted

-- a step that leaves these as they are
same_as : (time_of : ℕ → ℕ) (r t : Receiving) → t.counters.restarts ≡ r.counters.restarts → t.is_restarting ≡ false → t.noted ≡ r.noted → AreTimesOf time_of r.noted → GoesOnAs time_of r t
same_as time_of r t restarts running noted times = record { restarts = restarts; running = running; times = subst (AreTimesOf time_of) (sym noted) times }

accepts_restarts : (a : Arrival) (n : ℕ) (r t : Receiving) (o : Outcome) → Accepts a n r o t → t.counters.restarts ≡ r.counters.restarts
accepts_restarts a n r t o got = ap (λ (x : Receiving). x.counters.restarts) got.3 ∙ counted_restarts r.counters o

-- a packet within the windows
pub goes_on_restarts : (a : Arrival) (n : ℕ) (r t : Receiving) (o : Outcome) → GoesOn n a r o t → t.counters.restarts ≡ r.counters.restarts
goes_on_restarts a n r t o got = ap (λ (x : Receiving). x.counters.restarts) got.2 ∙ accepts_restarts a n r got.0 o got.1

goes_on_noted : (a : Arrival) (n : ℕ) (r t : Receiving) (o : Outcome) → GoesOn n a r o t → t.noted ≡ noted_with r.noted (record { number = n; time = a.header.timestamp })
goes_on_noted a n r t o got =
    ap (λ (x : Receiving). x.noted) got.2
    ∙ ap (λ (x : Receiving). noted_with x.noted (record { number = n; time = a.header.timestamp })) got.1.3

packet_goes_on : (time_of : ℕ → ℕ) (a : Arrival) (n : ℕ) (r mid t : Receiving) (o : Outcome) → a.header.timestamp ≡ time_of n → AreTimesOf time_of r.noted → GoesOn n a r o mid
    → t.counters.restarts ≡ mid.counters.restarts → t.is_restarting ≡ false → t.noted ≡ mid.noted → GoesOnAs time_of r t
packet_goes_on time_of a n r mid t o time times goes restarts running noted = record {
  restarts = restarts ∙ goes_on_restarts a n r mid o goes;
  running = running;
  times = subst (AreTimesOf time_of) (sym (noted ∙ goes_on_noted a n r mid o goes)) (still_times time_of r.noted (record { number = n; time = a.header.timestamp }) time times);
}

again_goes_on : (time_of : ℕ → ℕ) (number : Option ℕ) (a : Arrival) (r t : Receiving) (o : Outcome) → r.is_restarting ≡ false → AreTimesOf time_of r.noted
    → ((n : ℕ) → number ≡ Some n → a.header.timestamp ≡ time_of n) → ReceivesAgainAs number a r o t → GoesOnAs time_of r t
again_goes_on time_of None a r t o running times time got =
    same_as time_of r t (ap (λ (x : Receiving). x.counters.restarts) got.1) (ap (λ (x : Receiving). x.is_restarting) got.1 ∙ running) (ap (λ (x : Receiving). x.noted) got.1) times
again_goes_on time_of (Some n) a r t o running times time got =
    packet_goes_on time_of a n r got.0 t o (time n refl) times got.1 (ap (λ (x : Receiving). x.counters.restarts) got.2 ∙ again_restarts got.0.counters o)
    (ap (λ (x : Receiving). x.is_restarting) got.2) (ap (λ (x : Receiving). x.noted) got.2)

recovered_if : (time_of : ℕ → ℕ) (missing : Bool) (n : ℕ) (a : Arrival) (r t : Receiving) (went_in : Bool) → r.is_restarting ≡ false → AreTimesOf time_of r.noted
    → RecoversIf missing n a r went_in t → GoesOnAs time_of r t
recovered_if time_of false n a r t went_in running times got =
    same_as time_of r t (ap (λ (x : Receiving). x.counters.restarts) got.1) (ap (λ (x : Receiving). x.is_restarting) got.1 ∙ running) (ap (λ (x : Receiving). x.noted) got.1) times
recovered_if time_of true n a r t went_in running times got =
    same_as time_of r t (ap (λ (x : Receiving). x.counters.restarts) got.4 ∙ accepts_restarts a n r got.1 got.0 got.2) (ap (λ (x : Receiving). x.is_restarting) got.4)
    (ap (λ (x : Receiving). x.noted) got.4 ∙ ap (λ (x : Receiving). x.noted) got.2.3) times

recovered_as : (time_of : ℕ → ℕ) (number : Option ℕ) (a : Arrival) (r t : Receiving) (went_in : Bool) → r.is_restarting ≡ false → AreTimesOf time_of r.noted
    → RecoversAs number a r went_in t → GoesOnAs time_of r t
recovered_as time_of None a r t went_in running times got =
    same_as time_of r t (ap (λ (x : Receiving). x.counters.restarts) got.1) (ap (λ (x : Receiving). x.is_restarting) got.1 ∙ running) (ap (λ (x : Receiving). x.noted) got.1) times
recovered_as time_of (Some n) a r t went_in running times got = recovered_if time_of (may_recover r n) n a r t went_in running times got

again_within : (r : Receiving) (low : ℕ) → r.is_restarting ≡ false → number_again r low ≡ number_within (answer_for r.numbering low)
again_within r low running = rw running refl

event_goes_on : (time_of : ℕ → ℕ) (event : Event) (r t : Receiving) → r.is_restarting ≡ false → AreTimesOf time_of r.noted → IsHonest time_of r event → Comes event r t → GoesOnAs time_of r t
event_goes_on time_of (Packet a) r t running times honest come =
    let receives = come.1 in
    let mid : Receiving = receives.0 in
    let is : answer_to r a.header ≡ extended.Number honest.number = answer_to_is time_of r a.header honest.number running times honest.within honest.time honest.timely in
    let goes : GoesOn honest.number a r come.0 mid = subst (λ (e : Extended). ReceivesAs e a r come.0 mid) is receives.1 in
    packet_goes_on time_of a honest.number r mid t come.0 honest.time times goes (ap (λ (x : Receiving). x.counters.restarts) receives.2) (ap (λ (x : Receiving). x.is_restarting) receives.2) (ap (λ (x : Receiving). x.noted) receives.2)
event_goes_on time_of (Retransmitted a) r t running times honest come =
    let low : ℕ = a.header.sequence_number in
    let within : number_again_for r low a.header.timestamp ≡ number_within (answer_for r.numbering low) =
    again_without_former r low a.header.timestamp times.1 ∙ again_within r low running in
    again_goes_on time_of (number_again_for r low a.header.timestamp) a r t come.0 running times (λ n is. honest n (sym within ∙ is)) come.1
event_goes_on time_of (Recovered a) r t running times honest come = recovered_as time_of (number_again_for r a.header.sequence_number a.header.timestamp) a r t come.0 running times come.1
event_goes_on time_of (WithoutMedia low) r t running times honest come =
    let mid : Receiving = come.0 in
    let noted = subst (λ (e : Extended). NotesAs e r mid) (answer_in_is r low honest.0 running honest.1) come.1 in
    same_as time_of r t (ap (λ (x : Receiving). x.counters.restarts) come.2 ∙ ap (λ (x : Receiving). x.counters.restarts) noted) (ap (λ (x : Receiving). x.is_restarting) come.2)
    (ap (λ (x : Receiving). x.noted) come.2 ∙ ap (λ (x : Receiving). x.noted) noted) times

-- Pops

pop_goes_on : (time_of : ℕ → ℕ) (wait : Option ℕ) (r t : Receiving) (answer : Answer) → r.is_restarting ≡ false → AreTimesOf time_of r.noted → PopsWith wait (settled r) answer t → GoesOnAs time_of r t
pop_goes_on time_of None r t answer running times pops =
    same_as time_of r t (ap (λ (x : Receiving). x.counters.restarts) pops.1) (ap (λ (x : Receiving). x.is_restarting) pops.1 ∙ running) (ap (λ (x : Receiving). x.noted) pops.1) times
pop_goes_on time_of (Some h) r t answer running times pops =
    same_as time_of r t (ap (λ (x : Receiving). x.counters.restarts) pops.2) (ap (λ (x : Receiving). x.is_restarting) pops.2 ∙ running) (ap (λ (x : Receiving). x.noted) pops.2) times

pub never_restarts : NeverRestarts
never_restarts time_of [] r t running times hears = (ap (λ (x : Receiving). x.counters.restarts) hears, subst (λ (x : Receiving). AreTimesOf time_of x.noted) (sym hears) times)
never_restarts time_of (Arrives event ∷ steps) r t running times hears =
    let one = event_goes_on time_of event r hears.0 running times hears.1 hears.2 in
    let rest = never_restarts time_of steps hears.0 t one.running one.times hears.3 in
    (rest.0 ∙ one.restarts, rest.1)
never_restarts time_of (PopsAt now ∷ steps) r t running times hears =
    let one = pop_goes_on time_of (waiting_at (settled r) now) r hears.1 hears.0 running times hears.2 in
    let rest = never_restarts time_of steps hears.1 t one.running one.times hears.3 in
    (rest.0 ∙ one.restarts, rest.1)
