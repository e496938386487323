-- While little room is left, a pop that answers None leaves no complete frame. While more room is left, few packets evict none.
use Rattle.std.proofs.Common.{◌≡◌, ◌∙◌, refl, ap, sym, subst, ℕ, ◌+◌, ◌-◌, ◌<◌, ◌≤◌, List, [], ◌∷◌, Bool, true, false, ◌||◌}
use Rattle.std.proofs.Common.{Option, Some, None, Result, Ok, Err, inl, inr, length, arith, cond, ltb}
use Rattle.std.specs.Prelude.{nat_lt}
use Rattle.std.proofs.lemmas.Bool.{ltb-true, ltb-false, lt-ltb}
use Rattle.codec_payload_base.specs.declared.error.PacketError.{PacketError}
use Rattle.codec_payload_buffer.specs.Frames.{frames}
use Rattle.codec_payload_buffer.specs.Held.{Held, number_of, has_number, placed}
use Rattle.codec_payload_buffer.specs.Leaving.{left_of}
use Rattle.codec_payload_metadata.specs.Release.{Release}
use Rattle.codec_payload_buffer.specs.Blanks.{released_packets}
use Rattle.codec_payload_buffer.specs.Steps.{State, HasTaken, Passes, Pops, TakesFrame, none, one_more, is_at_most, is_dropped, pushed, without_lowest}
use Rattle.codec_payload_buffer.specs.declared.buffer.frames.CompleteFrame.{CompleteFrame}
use Rattle.codec_payload_buffer.proofs.BlankLemmas.{leaves_few, takes_away}
use Rattle.codec_payload_jitter.specs.Pressure.{Event, Packet, Retransmitted, Recovered, WithoutMedia, Comes, ComeAll, Drains, Burst, DoesBursts, SparesCompleteFrames}
use Rattle.codec_payload_jitter.specs.Receiving.{Receiving, Arrival, Accepts, Confirms, GoesInAgain, GoesOn, NotesAs, PopsWith, ReceivesAgainAs, ReceivesAs, RecoversAs, RecoversIf, Restarts}
use Rattle.codec_payload_jitter.specs.Receiving.{answer_in, answer_to, with_noted, counted, counted_again, counted_in_again, counted_pop, counted_recovered, is_stored, has_little_room, is_pressed, may_recover, next, number_again_for, numbered, outcome_at, past_first, restarted, settled, units_in, waiting_at, with_first, with_former}
use Rattle.codec_payload_numbers.specs.Numbers.{kept_number}
use Rattle.codec_payload_jitter.specs.NoMediaNumbers.{noted_no_media}
use Rattle.codec_payload_jitter.specs.Runs.{Answer}
use Rattle.codec_payload_numbers.specs.declared.numbers.Extended.{Extended}
use Rattle.codec_payload_numbers.specs.declared.numbers.Extended.TheVariants as extended
use Rattle.codec_payload_jitter.specs.declared.outcome.Outcome.{Outcome}
use Rattle.codec_payload_jitter.specs.declared.outcome.Outcome.TheVariants as outcomes
use Rattle.codec_payload_jitter.specs.declared.outcome.PacketCounters.{PacketCounters}
use Rattle.codec_payload_jitter.proofs.NoMediaLemmas.{passes_in_place}
use Rattle.codec_payload_jitter.proofs.ReceivingLemmas.{length_placed, pressed_waits_for_none}

-- What one step stores

-- a packet that is kept can still be stored
abbrev pub kept_count : Option Arrival → ℕ
kept_count None = 0
kept_count (Some a) = 1

kept_one : (kept : Option Arrival) → kept_count kept ≤ 1
kept_one None = omega arith
kept_one (Some a) = omega arith

-- limit and room stay; at most `most` more packets are held and kept; if all of them have places, none is evicted
pub record Stores (most : ℕ) (r t : Receiving) : Type 0 where
  pub limit : t.buffer.limit ≡ r.buffer.limit
  pub room : t.room ≡ r.room
  pub held : length t.buffer.held + kept_count t.kept ≤ length r.buffer.held + kept_count r.kept + most
  pub evicted : length r.buffer.held + kept_count r.kept + most ≤ r.buffer.limit → t.counters.evicted ≡ r.counters.evicted

moved : (most : ℕ) (r s t : Receiving) → t ≡ s → Stores most r s → Stores most r t
moved most r s t is stores = subst (λ (x : Receiving). Stores most r x) (sym is) stores

nothing : (r : Receiving) → Stores 0 r r
nothing r = record { limit = refl; room = refl; held = omega arith; evicted = λ fits. refl }

weaker : (m n : ℕ) (r t : Receiving) → m ≤ n → Stores m r t → Stores n r t
weaker m n r t less stores =
    let few : length t.buffer.held + kept_count t.kept ≤ length r.buffer.held + kept_count r.kept + m = stores.held in
    record {
      limit = stores.limit;
      room = stores.room;
      held = omega (arith, few, less);
      evicted = λ fits. stores.evicted (omega (arith, fits, less));
    }

both : (m n : ℕ) (r s t : Receiving) → Stores m r s → Stores n s t → Stores (m + n) r t
both m n r s t one two =
    let limit : s.buffer.limit ≡ r.buffer.limit = one.limit in
    let few : length s.buffer.held + kept_count s.kept ≤ length r.buffer.held + kept_count r.kept + m = one.held in
    let more : length t.buffer.held + kept_count t.kept ≤ length s.buffer.held + kept_count s.kept + n = two.held in
    record {
      limit = two.limit ∙ one.limit;
      room = two.room ∙ one.room;
      held = omega (arith, few, more);
      evicted = λ fits. two.evicted (omega (arith, fits, few, limit)) ∙ one.evicted (omega (arith, fits));
    }

-- buffer, room and evictions stay as they are, and no more packets are kept
pub record IsLike (s t : Receiving) : Type 0 where
  pub buffer : t.buffer ≡ s.buffer
  pub room : t.room ≡ s.room
  pub kept : kept_count t.kept ≤ kept_count s.kept
  pub evicted : t.counters.evicted ≡ s.counters.evicted

like : (most : ℕ) (r s t : Receiving) → IsLike s t → Stores most r s → Stores most r t
like most r s t same stores =
    let held : length t.buffer.held ≡ length s.buffer.held = ap (λ (x : State). length x.held) same.buffer in
    let few : length s.buffer.held + kept_count s.kept ≤ length r.buffer.held + kept_count r.kept + most = stores.held in
    let kept : kept_count t.kept ≤ kept_count s.kept = same.kept in
    record {
      limit = ap (λ (x : State). x.limit) same.buffer ∙ stores.limit;
      room = same.room ∙ stores.room;
      held = omega (arith, held, few, kept);
      evicted = λ fits. same.evicted ∙ stores.evicted fits;
    }

-- from one record to the other
as_it_is : (r t : Receiving) → t.buffer ≡ r.buffer → t.room ≡ r.room → kept_count t.kept ≤ kept_count r.kept → t.counters.evicted ≡ r.counters.evicted → Stores 0 r t
as_it_is r t buffer room kept evicted = like 0 r r t (record { buffer = buffer; room = room; kept = kept; evicted = evicted }) (nothing r)

-- A push into the buffer

lowest_limit : (s : State) (ps : List Held) → (without_lowest s ps).limit ≡ s.limit
lowest_limit s [] = refl
lowest_limit s (p ∷ ps) = refl

pushed_limit : (s : State) (p : Held) → (pushed s p).limit ≡ s.limit
pushed_limit s p = by_tests (is_dropped s (number_of p)) (ltb s.limit (length (placed p s.held)))
  where
    by_tests : (a b : Bool) → (cond a s (cond b (without_lowest (record s { held = placed p s.held }) (placed p s.held)) (record s { held = placed p s.held }))).limit ≡ s.limit
    by_tests true b = refl
    by_tests false true = lowest_limit (record s { held = placed p s.held }) (placed p s.held)
    by_tests false false = refl

lowest_few : (s : State) (ps : List Held) → length (without_lowest (record s { held = ps }) ps).held ≤ length ps
lowest_few s [] = omega arith
lowest_few s (p ∷ ps) = omega arith

pushed_few : (s : State) (p : Held) → length (pushed s p).held ≤ length s.held + 1
pushed_few s p = by_tests (is_dropped s (number_of p)) (ltb s.limit (length (placed p s.held)))
  where
    by_tests : (a b : Bool) → length (cond a s (cond b (without_lowest (record s { held = placed p s.held }) (placed p s.held)) (record s { held = placed p s.held }))).held ≤ length s.held + 1
    by_tests true b = omega arith
    by_tests false true = let one = length_placed p s.held in let few = lowest_few s (placed p s.held) in omega (arith, one, few)
    by_tests false false = let one = length_placed p s.held in omega (arith, one)

-- with a place free, the packet evicts none
evicts_none : (s : State) (n : ℕ) (c : PacketCounters) (late there room : Bool) → is_at_most s.cutoff n ≡ late → has_number n s.held ≡ there
    → nat_lt (length s.held) s.limit ≡ room → length s.held + 1 ≤ s.limit → (counted c (outcome_at s n)).evicted ≡ c.evicted
evicts_none s n c true there room is_late is_there is_room fits = rw is_late refl
evicts_none s n c false true room is_late is_there is_room fits = rw (is_late, is_there) refl
evicts_none s n c false false true is_late is_there is_room fits = rw (is_late, is_there, is_room) refl
evicts_none s n c false false false is_late is_there is_room fits = let many = ltb-false (length s.held) s.limit is_room in absurd (omega (arith, many, fits))

again_evicts_none : (s : State) (n : ℕ) (c : PacketCounters) (late there room : Bool) → is_at_most s.cutoff n ≡ late → has_number n s.held ≡ there
    → nat_lt (length s.held) s.limit ≡ room → length s.held + 1 ≤ s.limit → (counted_again c (outcome_at s n)).evicted ≡ c.evicted
again_evicts_none s n c true there room is_late is_there is_room fits = rw is_late refl
again_evicts_none s n c false true room is_late is_there is_room fits = rw (is_late, is_there) refl
again_evicts_none s n c false false true is_late is_there is_room fits = rw (is_late, is_there, is_room) refl
again_evicts_none s n c false false false is_late is_there is_room fits = let many = ltb-false (length s.held) s.limit is_room in absurd (omega (arith, many, fits))

accepts : (a : Arrival) (n : ℕ) (r t : Receiving) (o : Outcome) → Accepts a n r o t → Stores 1 r t
accepts a n r t o accepted =
    let s : State = r.buffer in
    let pushes : accepted.0 ≡ pushed s accepted.1.0 = accepted.1.2 in
    let same : length accepted.0.held ≡ length (pushed s accepted.1.0).held = ap (λ (x : State). length x.held) pushes in
    let few : length (pushed s accepted.1.0).held ≤ length s.held + 1 = pushed_few s accepted.1.0 in
    moved 1 r (record r { buffer = accepted.0; counters = counted r.counters o }) t accepted.3 (record {
      limit = ap (λ (x : State). x.limit) pushes ∙ pushed_limit s accepted.1.0;
      room = refl;
      held = omega (arith, same, few);
      evicted = λ fits. ap (λ (x : Outcome). (counted r.counters x).evicted) accepted.2
          ∙ evicts_none s n r.counters (is_at_most s.cutoff n) (has_number n s.held) (nat_lt (length s.held) s.limit) refl refl refl (omega (arith, fits));
    })

-- the suspect packet is stored
goes_in_again : (a : Arrival) (n : ℕ) (r t : Receiving) → r.kept ≡ Some a → GoesInAgain a n (restarted r) t → Stores 0 r t
goes_in_again a n r t kept goes =
    let s : State = r.buffer in
    let one : kept_count r.kept ≡ 1 = ap kept_count kept in
    let pushes : goes.0 ≡ pushed s goes.1.0 = goes.1.2 in
    let same : length goes.0.held ≡ length (pushed s goes.1.0).held = ap (λ (x : State). length x.held) pushes in
    let few : length (pushed s goes.1.0).held ≤ length s.held + 1 = pushed_few s goes.1.0 in
    moved 0 r (record (restarted r) { buffer = goes.0; counters = counted_again (restarted r).counters (outcome_at s n) }) t goes.2 (record {
      limit = ap (λ (x : State). x.limit) pushes ∙ pushed_limit s goes.1.0;
      room = refl;
      held = omega (arith, same, few, one);
      evicted = λ fits. again_evicts_none s n (restarted r).counters (is_at_most s.cutoff n) (has_number n s.held) (nat_lt (length s.held) s.limit) refl refl refl (omega (arith, fits, one));
    })

confirms : (n : ℕ) (kept : Option Arrival) (r : Receiving) (with_kept : Bool) (t : Receiving) → r.kept ≡ kept → Confirms n kept (restarted r) with_kept t → Stores 0 r t
confirms n None r with_kept t is same = moved 0 r (restarted r) t same.1 (as_it_is r (restarted r) refl refl (omega arith) refl)
confirms n (Some a) r with_kept t is goes = goes_in_again a (kept_number n a.header.sequence_number) r t is goes.1

-- Events

goes_on : (n : ℕ) (a : Arrival) (r : Receiving) (o : Outcome) (t : Receiving) → GoesOn n a r o t → Stores 1 r t
goes_on n a r o t goes =
    moved 1 r (with_noted n a goes.0) t goes.2
    (like 1 r goes.0 (with_noted n a goes.0) (record { buffer = refl; room = refl; kept = omega arith; evicted = refl }) (accepts a n r goes.0 o goes.1))

restarts : (n : ℕ) (a : Arrival) (r : Receiving) (o : Outcome) (t : Receiving) → Restarts n a r o t → Stores 1 r t
restarts n a r o t goes = both 1 0 r goes.1 t (goes_on n a r goes.0 goes.1 goes.3) (confirms n goes.1.kept goes.1 goes.2 t refl goes.4)

is_kept : (a : Arrival) (r t : Receiving) → t ≡ record r { kept = Some a; counters = counted r.counters outcomes.Suspect } → Stores 1 r t
is_kept a r t is = moved 1 r (record r { kept = Some a; counters = counted r.counters outcomes.Suspect }) t is (record { limit = refl; room = refl; held = omega arith; evicted = λ fits. refl })

-- a step on a state that is given by its fields
like_by : (r s t : Receiving) (x : Receiving) → t ≡ x → x.buffer ≡ s.buffer → x.room ≡ s.room → x.kept ≡ s.kept → x.counters.evicted ≡ s.counters.evicted → Stores 1 r s → Stores 1 r t
like_by r s t x is buffer room kept evicted stores =
    let same : kept_count x.kept ≡ kept_count s.kept = ap kept_count kept in
    moved 1 r x t is (like 1 r s x (record { buffer = buffer; room = room; kept = omega (arith, same); evicted = evicted }) stores)

receives_as : (answer : Extended) (a : Arrival) (r : Receiving) (o : Outcome) (t : Receiving) → ReceivesAs answer a r o t → Stores 1 r t
receives_as (extended.Number n) a r o t got = goes_on n a r o t got
receives_as (extended.Restarted n) a r o t got = like_by r got.0 t (with_former r got.0) got.2 refl refl refl refl (restarts n a r o got.0 got.1)
receives_as extended.Suspect a r o t got = is_kept a r t got.1
receives_as extended.Spent a r o t got =
    weaker 0 1 r t (omega arith)
    (moved 0 r (record r { counters = counted r.counters outcomes.Suspect }) t got.1 (as_it_is r _ refl refl (omega arith) refl))

in_again : (c : PacketCounters) (o : Outcome) → (counted_in_again c o).evicted ≡ c.evicted
in_again c o = by_test (is_stored o)
  where
    by_test : (b : Bool) → (cond b (record c { retransmitted = next c.retransmitted }) c).evicted ≡ c.evicted
    by_test true = refl
    by_test false = refl

receives_again : (number : Option ℕ) (a : Arrival) (r : Receiving) (o : Outcome) (t : Receiving) → ReceivesAgainAs number a r o t → Stores 1 r t
receives_again None a r o t got =
    weaker 0 1 r t (omega arith)
    (moved 0 r (record r { counters = counted r.counters outcomes.Late }) t got.1 (as_it_is r _ refl refl (omega arith) refl))
receives_again (Some n) a r o t got =
    like_by r got.0 t (with_first (extended.Number n) a.header.timestamp (numbered r (extended.Number n) a.header.sequence_number (record got.0 { counters = counted_in_again got.0.counters o }))) got.2
    refl refl refl (in_again got.0.counters o) (goes_on n a r o got.0 got.1)

recovers_if : (missing : Bool) (n : ℕ) (a : Arrival) (r : Receiving) (went_in : Bool) (t : Receiving) → RecoversIf missing n a r went_in t → Stores 1 r t
recovers_if false n a r went_in t got = weaker 0 1 r t (omega arith) (moved 0 r r t got.1 (nothing r))
recovers_if true n a r went_in t got =
    like_by r got.1 t (numbered r (extended.Number n) a.header.sequence_number (record got.1 { counters = counted_recovered got.1.counters })) got.4
    refl refl refl refl (accepts a n r got.1 got.0 got.2)

recovers_as : (number : Option ℕ) (a : Arrival) (r : Receiving) (went_in : Bool) (t : Receiving) → RecoversAs number a r went_in t → Stores 1 r t
recovers_as None a r went_in t got = weaker 0 1 r t (omega arith) (moved 0 r r t got.1 (nothing r))
recovers_as (Some n) a r went_in t got = recovers_if (may_recover r n) n a r went_in t got

notes_as : (answer : Extended) (r t : Receiving) → NotesAs answer r t → Stores 0 r t
notes_as (extended.Number n) r t noted =
    moved 0 r (record r { no_media_numbers = noted_no_media n r.no_media_numbers; counters = counted r.counters outcomes.NoMedia }) t noted
    (as_it_is r _ refl refl (omega arith) refl)
notes_as (extended.Restarted n) r t noted =
    let s : Receiving = record r { no_media_numbers = noted_no_media n r.no_media_numbers; counters = counted r.counters outcomes.NoMedia } in
    let mid : Receiving = noted.0 in
    moved 0 r (with_former r mid) t noted.2
    (like 0 r mid (with_former r mid) (record { buffer = refl; room = refl; kept = omega arith; evicted = refl })
    (both 0 0 r s mid (as_it_is r s refl refl (omega arith) refl) (confirms n r.kept s noted.1.0 mid refl noted.1.1)))
notes_as extended.Suspect r t noted = moved 0 r (record r { kept = None; counters = counted r.counters outcomes.NoMedia }) t noted (as_it_is r _ refl refl (omega arith) refl)
notes_as extended.Spent r t noted = moved 0 r (record r { counters = counted r.counters outcomes.NoMedia }) t noted (as_it_is r _ refl refl (omega arith) refl)

comes : (event : Event) (r t : Receiving) → Comes event r t → Stores 1 r t
comes (Packet a) r t come =
    let low = a.header.sequence_number in
    let got = come.1 in
    like_by r got.0 t (with_first (answer_to r a.header) a.header.timestamp (numbered r (answer_to r a.header) low got.0)) got.2 refl refl refl refl (receives_as (answer_to r a.header) a r come.0 got.0 got.1)
comes (Retransmitted a) r t come = receives_again (number_again_for r a.header.sequence_number a.header.timestamp) a r come.0 t come.1
comes (Recovered a) r t come = recovers_as (number_again_for r a.header.sequence_number a.header.timestamp) a r come.0 t come.1
comes (WithoutMedia low) r t come =
    like_by r come.0 t (past_first (answer_in r low) (numbered r (answer_in r low) low come.0)) come.2 refl refl refl refl (weaker 0 1 r come.0 (omega arith) (notes_as (answer_in r low) r come.0 come.1))

come_all : (events : List Event) (r t : Receiving) → ComeAll events r t → Stores (length events) r t
come_all [] r t same = moved 0 r r t same (nothing r)
come_all (event ∷ events) r t come =
    weaker (1 + length events) (length (event ∷ events)) r t (omega arith) (both 1 (length events) r come.0 t (comes event r come.0 come.1) (come_all events come.0 t come.2))

-- Pops

passes_limit : {s t : State} {over : List CompleteFrame} → Passes s over t → t.limit ≡ s.limit
passes_limit none = refl
passes_limit (one_more before p) = ap (λ (s : State). s.limit) p.left ∙ passes_limit before

takes_limit : (s t : State) (answer : Result Release PacketError) → TakesFrame s answer t → t.limit ≡ s.limit
takes_limit s t (Ok r) releases = ap (λ (x : State). x.limit) releases.left
takes_limit s t (Err fault) (inl stalls) = ap (λ (x : State). x.limit) stalls.1.left
takes_limit s t (Err fault) (inr refuses) = ap (λ (x : State). x.limit) refuses.left

pops_limit : (s t : State) (answer : Answer) → Pops s answer t → t.limit ≡ s.limit
pops_limit s t None pops = passes_limit pops.1.0
pops_limit s t (Some answer) pops = takes_limit pops.1.0 t answer pops.1.2 ∙ passes_limit pops.1.1

-- after a pop: the same limit and room, and no more packets
pub record Leaves (r t : Receiving) : Type 0 where
  pub limit : t.buffer.limit ≡ r.buffer.limit
  pub room : t.room ≡ r.room
  pub few : length t.buffer.held ≤ length r.buffer.held

leaves_both : (r s t : Receiving) → Leaves r s → Leaves s t → Leaves r t
leaves_both r s t one two =
    let few : length s.buffer.held ≤ length r.buffer.held = one.few in
    let fewer : length t.buffer.held ≤ length s.buffer.held = two.few in
    record { limit = two.limit ∙ one.limit; room = two.room ∙ one.room; few = omega (arith, few, fewer) }

settles : (r : Receiving) → Leaves r (settled r)
settles r =
    let in_place = passes_in_place r.buffer r.no_media_numbers in
    let same : length (settled r).buffer.held ≡ length r.buffer.held = ap (λ (x : State). length x.held) in_place.0 in
    record { limit = ap (λ (x : State). x.limit) in_place.0; room = refl; few = omega (arith, same) }

leaves_moved : (r s t : Receiving) → t ≡ s → Leaves r s → Leaves r t
leaves_moved r s t is leaves = subst (λ (x : Receiving). Leaves r x) (sym is) leaves

pops_with : (wait : Option ℕ) (r : Receiving) (answer : Answer) (t : Receiving) → PopsWith wait r answer t → Leaves r t
pops_with None r answer t pops = leaves_moved r r t pops.1 (record { limit = refl; room = refl; few = omega arith })
pops_with (Some h) r answer t pops =
    let s : State = record r.buffer { hold_back = h } in
    let away : released_packets answer + length pops.0.held ≤ length s.held = takes_away s pops.0 answer pops.1 in
    leaves_moved r (record r { buffer = pops.0; counters = counted_pop r.counters (units_in answer) (released_packets answer) (left_of s answer pops.0 pops.1) }) t pops.2 (record {
      limit = pops_limit s pops.0 answer pops.1;
      room = refl;
      few = omega (arith, away);
    })

-- with more packets, less room is left
less_room : (r t : Receiving) → Leaves r t → has_little_room t ≡ true → has_little_room r ≡ true
less_room r t leaves little =
    let limit : t.buffer.limit ≡ r.buffer.limit = leaves.limit in
    let room : t.room ≡ r.room = leaves.room in
    let few : length t.buffer.held ≤ length r.buffer.held = leaves.few in
    let less : t.buffer.limit - length t.buffer.held < t.room = ltb-true (t.buffer.limit - length t.buffer.held) t.room little in
    lt-ltb (r.buffer.limit - length r.buffer.held) r.room (omega (arith, limit, room, few, less))

or_last : (a b c : Bool) → c ≡ true → a || (b || c) ≡ true
or_last true b c is = refl
or_last false true c is = refl
or_last false false c is = is

-- with little room pops wait for nothing
pub crowded_presses : (r : Receiving) (now : ℕ) → has_little_room r ≡ true → is_pressed (settled r) now ≡ true
crowded_presses r now crowded =
    let in_place = passes_in_place r.buffer r.no_media_numbers in
    or_last r.ended _ (has_little_room (settled r)) (ap (λ (x : State). nat_lt (x.limit - length x.held) r.room) in_place.0 ∙ crowded)

-- so a pop does not wait
pub crowded_waits : (r : Receiving) (now : ℕ) → has_little_room r ≡ true → waiting_at (settled r) now ≡ None → ⊥
crowded_waits r now crowded nothing_is = let waits = rw (crowded_presses r now crowded) at nothing_is in cc

pub none_left : (fs : List CompleteFrame) → length fs ≤ 0 → fs ≡ []
none_left [] few = refl
none_left (f ∷ fs) few = absurd (omega (arith, few))

-- so a pop that answers None leaves no complete frame
last_leaves : (wait : Option ℕ) (r t : Receiving) (now : ℕ) → waiting_at (settled r) now ≡ wait → PopsWith wait (settled r) None t → has_little_room r ≡ true → frames t.buffer.held ≡ []
last_leaves None r t now is pops crowded = let waits = rw (crowded_presses r now crowded) at is in cc
last_leaves (Some h) r t now is pops crowded =
    let zero_is : h ≡ 0 = pressed_waits_for_none (settled r) now h (crowded_presses r now crowded) is in
    let few : length (frames pops.0.held) ≤ h = leaves_few (record (settled r).buffer { hold_back = h }) pops.0 pops.1 in
    let same : frames t.buffer.held ≡ frames pops.0.held = ap (λ (x : Receiving). frames x.buffer.held) pops.2 in
    same ∙ none_left (frames pops.0.held) (omega (arith, few, zero_is))

-- Runs

pub record IsDrained (r t : Receiving) : Type 0 where
  pub leaves : Leaves r t
  pub empty : has_little_room t ≡ true → frames t.buffer.held ≡ []

drains : (moments : List ℕ) (last : ℕ) (r t : Receiving) → Drains moments last r t → IsDrained r t
drains [] last r t pops =
    let leaves : Leaves r t = leaves_both r (settled r) t (settles r) (pops_with (waiting_at (settled r) last) (settled r) None t pops) in
    record { leaves = leaves; empty = λ little. last_leaves (waiting_at (settled r) last) r t last refl pops (less_room r t leaves little) }
drains (now ∷ moments) last r t pops =
    let one : Leaves r pops.1 = leaves_both r (settled r) pops.1 (settles r) (pops_with (waiting_at (settled r) now) (settled r) pops.0 pops.1 pops.2) in
    let rest = drains moments last pops.1 t pops.3 in
    record { leaves = leaves_both r pops.1 t one rest.leaves; empty = rest.empty }

pub record IsAfter (start r : Receiving) : Type 0 where
  pub room : r.room ≡ start.room
  pub empty : has_little_room r ≡ true → frames r.buffer.held ≡ []

bursts_leave : (bursts : List Burst) (start r : Receiving) → (has_little_room start ≡ true → frames start.buffer.held ≡ []) → DoesBursts bursts start r → IsAfter start r
bursts_leave [] start r empty does = subst (λ (x : Receiving). IsAfter start x) (sym does) (record { room = refl; empty = empty })
bursts_leave (burst ∷ bursts) start r empty does =
    let come = come_all burst.events start does.0 does.2 in
    let drained = drains burst.pops_at burst.last does.0 does.1 does.3 in
    let rest = bursts_leave bursts does.1 r drained.empty does.4 in
    record { room = rest.room ∙ (drained.leaves.room ∙ come.room); empty = rest.empty }

pub spares_complete_frames : SparesCompleteFrames
spares_complete_frames start r t bursts events fresh does few come evicts =
    let after = bursts_leave bursts start r (λ little. ap frames fresh) does in
    let stores = come_all events r t come in
    by_room after.empty stores.evicted after.room (has_little_room r) refl
  where
    by_room : (has_little_room r ≡ true → frames r.buffer.held ≡ [])
        → (length r.buffer.held + kept_count r.kept + length events ≤ r.buffer.limit → t.counters.evicted ≡ r.counters.evicted)
        → r.room ≡ start.room → (b : Bool) → has_little_room r ≡ b → frames r.buffer.held ≡ []
    by_room empty same room true little = empty little
    by_room empty same room false little =
        let much : r.room ≤ r.buffer.limit - length r.buffer.held = ltb-false (r.buffer.limit - length r.buffer.held) r.room little in
        let one : kept_count r.kept ≤ 1 = kept_one r.kept in
        absurd (evicts (same (omega (arith, much, room, few, one))))

-- a pop that takes from a settled buffer takes from the buffer before
pub taken_from : (answer : Answer) (s from t : State) → length s.held ≡ length from.held → HasTaken answer s t → HasTaken answer from t
taken_from None s from t same taken = tt
taken_from (Some (Ok r)) s from t same taken = omega (arith, same, taken)
taken_from (Some (Err fault)) s from t same taken = λ other. let less : length t.held < length s.held = taken other in omega (arith, same, less)

-- a settled buffer holds the same number of packets
pub settled_holds : (r : Receiving) → length (settled r).buffer.held ≡ length r.buffer.held
settled_holds r = ap (λ (x : State). length x.held) (passes_in_place r.buffer r.no_media_numbers).0
