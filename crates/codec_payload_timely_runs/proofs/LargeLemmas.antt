-- What a receiver answers for units above its bound, and how it counts them.
use Rattle.std.specs.declared.alloc.AllocError.{AllocError}
use Rattle.std.proofs.Common.{◌≡◌, ◌∙◌, refl, sym, ap, subst, ℕ, zero, suc, ◌+◌, ◌%◌, ◌^◌, ◌<◌, ◌≤◌, ◌||◌, Bool, true, false, cond, List, [], ◌∷◌, ◌++◌, append-nil, append_assoc, inl, inr, Option, Some, None, Result, Ok, Err, MatchOption, length, map, arith}
use Rattle.std.proofs.lemmas.Bool.{le-ltb, ltb-false}
use Rattle.std.proofs.lemmas.List.{length-append}
use Rattle.std.specs.Prelude.{slice_get}
use Rattle.codec_payload_base.specs.Pieces.{joined}
use Rattle.codec_payload_base.specs.declared.wire.Ticks.{Ticks}
use Rattle.codec_payload_codec.specs.Packetizers.{may_split}
use Rattle.codec_payload_datagrams.specs.Kinds.{Datagram}
use Rattle.codec_payload_jitter.specs.declared.outcome.Outcome.{Outcome}
use Rattle.codec_payload_metadata.specs.Release.{Release}
use Rattle.codec_payload_metadata.specs.declared.meta.RtpMeta.{RtpMeta}
use Rattle.codec_payload_payloader.specs.Packets.{Packet}
use Rattle.codec_payload_payloader.specs.Sending.{Sample}
use Rattle.codec_payload_buffer_runs.specs.Exact.{AnswersAll}
use Rattle.codec_payload_buffer_runs.specs.Headline.{InOrder, IsUnitAt}
use Rattle.codec_payload_buffer_runs.specs.Schedule.{Answer}
use Rattle.codec_payload_buffer_runs.specs.SentStream.{IsReleaseOf, SentUnit}
use Rattle.codec_payload_receiver.specs.Bounds.{is_over, new_bound}
use Rattle.codec_payload_receiver.specs.Pops.{DropsUnits, PopsGated, bound_if, is_large, none_dropped, one_more}
use Rattle.codec_payload_receiver.specs.Sessions.{ChoosesIf, Ends, Heard, Hears, ReceivesBy, ReceivesBytes, Session, SettlesAnew, SettlesOn, first_waiting, is_none_of, opened, opened_if, verdict_in}
use Rattle.codec_payload_receiver.specs.declared.bound.UnitBound.{UnitBound}
use Rattle.codec_payload_datagrams.specs.declared.choice.Candidate.{Candidate}
use Rattle.codec_payload_datagrams.specs.declared.choice.Verdict.{Verdict}
use Rattle.codec_payload_datagrams.specs.declared.choice.Verdict.TheVariants as verdicts
use Rattle.codec_payload_receiver.specs.declared.pops.Popped.{Popped}
use Rattle.codec_payload_receiver.specs.declared.pops.Popped.TheVariants as popped
use Rattle.codec_payload_receiver.specs.declared.receiver.ReceiveError.{ReceiveError}
use Rattle.codec_payload_receiver.specs.declared.receiver.ReceiveError.TheVariants as errors
use Rattle.codec_payload_datagram_runs.proofs.NewReceivers.{new_is_begun}
use Rattle.codec_payload_datagram_runs.specs.RedReleases.{IsKnownInRed}
use Rattle.codec_payload_datagram_runs.specs.Releases.{IsKnownOf}
use Rattle.codec_payload_datagram_runs.specs.WireRuns.{Delivers, DoesStep, Receipt, Runs, SendsIt, Wire, begins}
use Rattle.codec_payload_datagram_runs.specs.declared.run.DatagramStep.{DatagramStep}
use Rattle.codec_payload_datagram_runs.specs.declared.run.DatagramStep.TheVariants as steps
use Rattle.codec_payload_datagram_runs.specs.declared.run.SentSample.{SentSample}
use Rattle.codec_payload_timely_runs.specs.LargeUnits.{AreUnits, CallsCountLarge, LogsTell, NoneAbove, RunsCountLarge, RunsTellInRed, RunsTellUnits, SamplesTellUnits, TellsAll, ShowsLarge, large_in, one_if, popped_by, told_by}

-- What a pop answered

by_over : (most : Option ℕ) (r : Release) (over : Bool) → is_over most r.bytes ≡ over → popped_by most r ≡ cond over (popped.TooLarge r) (popped.Unit r)
by_over most r over is = rw is refl

pub logs_tell : LogsTell
logs_tell most None pop = refl
logs_tell most (Some (Ok (popped.Unit r))) pop = ap (λ (p : Popped Release). Some (Ok p)) (sym (by_over most r false (sym pop.large)))
logs_tell most (Some (Ok (popped.TooLarge r))) pop = ap (λ (p : Popped Release). Some (Ok p)) (sym (by_over most r true (sym pop.large)))
logs_tell most (Some (Ok (popped.Refused fault))) pop = refl
logs_tell most (Some (Err e)) pop = absurd (pop.memory refl)

-- The bound of a receiver

abbrev Stays : Session → Session → Type 0
Stays s t = t.bound ≡ s.bound

same : (s t : Session) → t ≡ s → Stays s t
same s t is = ap (λ (x : Session). x.bound) is

hears_stays : (now : Ticks) (d : Datagram) (s t : Session) (answer : Result Outcome ReceiveError) → Hears now d s answer t → Stays s t
hears_stays now d s t answer hears = ap (λ (x : Session). x.bound) hears.left

heard_stays : (now : Ticks) (d : Datagram) (s t : Session) (answer : Result Outcome ReceiveError) → Heard now d s answer t → Stays s t
heard_stays now d s t (Err errors.OutOfMemory) heard = same s t heard.0
heard_stays now d s t (Err (errors.Rtp e)) heard = hears_stays now d s t (Err (errors.Rtp e)) heard
heard_stays now d s t (Err errors.Red) heard = hears_stays now d s t (Err errors.Red) heard
heard_stays now d s t (Err errors.Retransmission) heard = hears_stays now d s t (Err errors.Retransmission) heard
heard_stays now d s t (Err errors.BlocksOutOfMemory) heard = hears_stays now d s t (Err errors.BlocksOutOfMemory) heard
heard_stays now d s t (Ok outcome) heard = hears_stays now d s t (Ok outcome) heard

settles_stays : (c : Option Candidate) (whole : Bool) (s t : Session) → SettlesOn c whole s t → Stays s t
settles_stays None whole s t settles = same s t settles.1
settles_stays (Some c) true s t settles = ap (λ (x : Session). x.bound) settles.left ∙ heard_stays c.received _ _ settles.mid settles.answer settles.heard
settles_stays (Some c) false s t settles = same s t settles

opened_stays : (first : Bool) (s : Session) → Stays s (opened_if first s)
opened_stays true s = refl
opened_stays false s = refl

anew_stays : (c : Option Candidate) (whole : Bool) (s t : Session) → SettlesAnew c whole s t → Stays s t
anew_stays c true s t settles = settles_stays c true (opened s) t settles ∙ opened_stays (is_none_of s.ssrc) s
anew_stays c false s t settles = same s t settles

by_verdict : (verdict : Verdict) (now : Ticks) (bytes : List ℕ) (s t : Session) (receipt : Result Outcome ReceiveError) → ReceivesBy verdict now bytes s receipt t → Stays s t
by_verdict verdicts.Hear now bytes s t receipt does = heard_stays now _ s t receipt does
by_verdict (verdicts.Keep o) now bytes s t (Ok outcome) does = ap (λ (x : Session). x.bound) does.1.left
by_verdict (verdicts.Keep o) now bytes s t (Err fault) does = same s t does.1
by_verdict (verdicts.Choose place) now bytes s t receipt does = by does.whole does.chooses
  where
    by : (whole : Bool) → ChoosesIf whole place now bytes s receipt t → Stays s t
    by true chooses = heard_stays now _ chooses.0 t receipt chooses.2 ∙ anew_stays (slice_get s.choice.candidates place) true s chooses.0 chooses.1
    by false chooses = same s t chooses.1

receives_stays : (now : Ticks) (bytes : List ℕ) (s t : Session) (receipt : Result Outcome ReceiveError) → ReceivesBytes now bytes s receipt t → Stays s t
receives_stays now bytes s t receipt (inl does) = by_verdict (verdict_in s now.0 bytes) now bytes s t receipt does
receives_stays now bytes s t receipt (inr stops) = same s t stops.1

ends_stays : (s t : Session) → Ends s t → Stays s t
ends_stays s t ends = ap (λ (x : Session). x.bound) ends.2 ∙ settles_stays (first_waiting s) true s ends.0 ends.1

not_large : (a b : Bool) → false ≡ a || b → a ≡ false
not_large false b is = refl
not_large true b is = absurd (cc)

drops_stays : (now : ℕ) (s t : Session) → DropsUnits now s t → Stays s t
drops_stays now s t none_dropped = refl
drops_stays now s t (one_more {mid = mid} unit drops passes) =
    let small : is_large mid.bound.most (Some (Ok unit)) ≡ false = not_large (is_large mid.bound.most (Some (Ok unit))) _ passes.1 in
    ap (λ (x : Session). x.bound) passes.0.left ∙ (ap (λ (b : Bool). bound_if b mid.bound (Some (Ok unit))) small ∙ drops_stays now s mid drops)

pops_count : (now : ℕ) (s t : Session) (answer : Answer) → PopsGated now s answer t → t.bound ≡ bound_if (is_large s.bound.most answer) s.bound answer
pops_count now s t answer pops =
    let kept : pops.mid.bound ≡ s.bound = drops_stays now s pops.mid pops.dropped in
    ap (λ (x : Session). x.bound) pops.pops.left ∙ ap (λ (b : UnitBound). bound_if (is_large b.most answer) b answer) kept

pub calls_count : CallsCountLarge
calls_count = record { receives = receives_stays; ends = ends_stays; pops = pops_count }

-- A run

-- the receiver after some steps: its bound, and what it counted
record Counts (s t : Wire) : Type 0 where
  more : List Answer
  pops : t.pops ≡ s.pops ++ more
  most : t.session.bound.most ≡ s.session.bound.most
  units : t.session.bound.units % 2 ^ 64 ≡ (s.session.bound.units + large_in s.session.bound.most more) % 2 ^ 64
  fits : s.session.bound.units < 2 ^ 64 → t.session.bound.units < 2 ^ 64

plus_none : (n : ℕ) → n % 2 ^ 64 ≡ (n + 0) % 2 ^ 64
plus_none n = ap (λ (m : ℕ). m % 2 ^ 64) (omega arith)

counts_none : (s t : Wire) → t.pops ≡ s.pops → Stays s.session t.session → Counts s t
counts_none s t pops stays = record {
  more = [];
  pops = pops ∙ sym (append-nil s.pops);
  most = ap (λ (b : UnitBound). b.most) stays;
  units = ap (λ (b : UnitBound). b.units % 2 ^ 64) stays ∙ plus_none s.session.bound.units;
  fits = λ l. subst (λ (b : UnitBound). b.units < 2 ^ 64) (sym stays) l;
}

large_append : (most : Option ℕ) (xs ys : List Answer) → large_in most (xs ++ ys) ≡ large_in most xs + large_in most ys
large_append most [] ys = omega arith
large_append most (x ∷ xs) ys = let e : large_in most (xs ++ ys) ≡ large_in most xs + large_in most ys = large_append most xs ys in omega (arith, e)

added : (a m n b c : ℕ) → b % 2 ^ 64 ≡ (a + m) % 2 ^ 64 → c % 2 ^ 64 ≡ (b + n) % 2 ^ 64 → c % 2 ^ 64 ≡ (a + (m + n)) % 2 ^ 64
added a m n b c one two = omega (arith, one, two)

counts_then : (s mid t : Wire) → Counts s mid → Counts mid t → Counts s t
counts_then s mid t one two = record {
  more = one.more ++ two.more;
  pops = two.pops ∙ (ap (λ (ls : List Answer). ls ++ two.more) one.pops ∙ append_assoc s.pops one.more two.more);
  most = two.most ∙ one.most;
  units =
      let more : large_in s.session.bound.most (one.more ++ two.more) ≡ large_in s.session.bound.most one.more + large_in s.session.bound.most two.more = large_append s.session.bound.most one.more two.more in
      let later : large_in mid.session.bound.most two.more ≡ large_in s.session.bound.most two.more = ap (λ (m : Option ℕ). large_in m two.more) one.most in
      added s.session.bound.units (large_in s.session.bound.most one.more) (large_in s.session.bound.most two.more) mid.session.bound.units t.session.bound.units one.units
      (two.units ∙ ap (λ (n : ℕ). (mid.session.bound.units + n) % 2 ^ 64) later)
      ∙ ap (λ (n : ℕ). (s.session.bound.units + n) % 2 ^ 64) (sym more);
  fits = λ l. two.fits (one.fits l);
}

one_more_of : (n k : ℕ) → k ≡ 1 → ((n + 1) % 2 ^ 64) % 2 ^ 64 ≡ (n + (k + 0)) % 2 ^ 64
one_more_of n k one = omega (arith, one)

fits_64 : (n : ℕ) → n % 2 ^ 64 < 2 ^ 64
fits_64 n = omega arith

counted_by : (b : UnitBound) (answer : Answer) (large : Bool) → is_large b.most answer ≡ large
    → ((bound_if large b answer).most ≡ b.most) × ((bound_if large b answer).units % 2 ^ 64 ≡ (b.units + large_in b.most (answer ∷ [])) % 2 ^ 64)
    × (b.units < 2 ^ 64 → (bound_if large b answer).units < 2 ^ 64)
counted_by b answer true is =
    let one : one_if (is_large b.most answer) ≡ 1 = ap one_if is in
    (refl, one_more_of b.units (one_if (is_large b.most answer)) one, λ l. fits_64 (b.units + 1))
counted_by b answer false is =
    let none : one_if (is_large b.most answer) ≡ 0 = ap one_if is in
    (refl, ap (λ (n : ℕ). n % 2 ^ 64) (omega (arith, none)), λ l. l)

module _ (samples : List Sample) where
  step_counts : (step : DatagramStep) (s t : Wire) → DoesStep samples step s t → Counts s t
  step_counts (steps.Send i) s t does = by (slice_get samples i) does
    where
      by : (o : Option Sample) → MatchOption o (t ≡ s) (λ sample. (entry : SentSample) × SendsIt sample s.sending s.datagrams entry t.sending t.datagrams
          × (t ≡ record s { sending = t.sending; datagrams = t.datagrams; sends = s.sends ++ entry ∷ [] })) → Counts s t
      by None is = counts_none s t (ap (λ (x : Wire). x.pops) is) (ap (λ (x : Wire). x.session.bound) is)
      by (Some sample) sends = counts_none s t (ap (λ (x : Wire). x.pops) sends.2) (ap (λ (x : Wire). x.session.bound) sends.2)
  step_counts (steps.Deliver k now) s t does = by (slice_get s.datagrams k) does
    where
      by : (o : Option (List ℕ)) → MatchOption o (t ≡ s) (λ bytes. (receipt : Receipt) × (session : Session) × Delivers now bytes s.session receipt session
          × (t ≡ record s { session = session; receipts = s.receipts ++ receipt ∷ [] })) → Counts s t
      by None is = counts_none s t (ap (λ (x : Wire). x.pops) is) (ap (λ (x : Wire). x.session.bound) is)
      by (Some bytes) done =
          counts_none s t (ap (λ (x : Wire). x.pops) done.3) (ap (λ (x : Wire). x.session.bound) done.3 ∙ receives_stays now bytes s.session done.1 done.0 done.2.1)
  step_counts (steps.Pop now) s t does =
      let popped_so : does.1.bound ≡ bound_if (is_large s.session.bound.most does.0) s.session.bound does.0 = pops_count now.0 s.session does.1 does.0 does.3 in
      let bound : t.session.bound ≡ bound_if (is_large s.session.bound.most does.0) s.session.bound does.0 = ap (λ (x : Wire). x.session.bound) does.4 ∙ popped_so in
      let c = counted_by s.session.bound does.0 (is_large s.session.bound.most does.0) refl in
      record {
        more = does.0 ∷ [];
        pops = ap (λ (x : Wire). x.pops) does.4;
        most = ap (λ (b : UnitBound). b.most) bound ∙ c.0;
        units = ap (λ (b : UnitBound). b.units % 2 ^ 64) bound ∙ c.1;
        fits = λ l. subst (λ (b : UnitBound). b.units < 2 ^ 64) (sym bound) (c.2 l);
      }
  step_counts steps.Finish s t does = counts_none s t (ap (λ (x : Wire). x.pops) does.2) (ap (λ (x : Wire). x.session.bound) does.2 ∙ ends_stays s.session does.0 does.1)

  run_counts : (all_steps : List DatagramStep) (s t : Wire) → Runs samples all_steps s t → Counts s t
  run_counts [] s t run = counts_none s t (ap (λ (x : Wire). x.pops) run) (ap (λ (x : Wire). x.session.bound) run)
  run_counts (step ∷ later) s t run = counts_then s run.0 t (step_counts step s run.0 run.1) (run_counts later run.0 t run.2)

pub runs_count : RunsCountLarge
runs_count samples all_steps sender receiver t settings depacketizer new run =
    let begun = new_is_begun settings depacketizer receiver new in
    let bound : receiver.bound ≡ new_bound settings.max_unit = ap (λ (x : Session). x.bound) begun.is in
    let most : receiver.bound.most ≡ settings.max_unit = ap (λ (b : UnitBound). b.most) bound in
    let none : receiver.bound.units ≡ 0 = ap (λ (b : UnitBound). b.units) bound in
    let c : Counts (begins sender receiver) t = run_counts samples all_steps (begins sender receiver) t run in
    let fits : t.session.bound.units < 2 ^ 64 = c.fits (omega (arith, none)) in
    let logged : large_in receiver.bound.most c.more ≡ large_in settings.max_unit t.pops = ap (λ (m : Option ℕ). large_in m c.more) most ∙ ap (large_in settings.max_unit) (sym c.pops) in
    (c.most ∙ most, counted t.session.bound.units receiver.bound.units (large_in receiver.bound.most c.more) fits none c.units ∙ ap (λ (n : ℕ). n % 2 ^ 64) logged)
  where
    counted : (units before more : ℕ) → units < 2 ^ 64 → before ≡ 0 → units % 2 ^ 64 ≡ (before + more) % 2 ^ 64 → units ≡ more % 2 ^ 64
    counted units before more fits none is = omega (arith, fits, none, is)

-- Units

over_less : (most : Option ℕ) (bytes more : List ℕ) → length bytes ≤ length more → is_over most more ≡ false → is_over most bytes ≡ false
over_less None bytes more fewer is = refl
over_less (Some most) bytes more fewer is =
    let few : length more ≤ most = ltb-false most (length more) is in
    le-ltb most (length bytes) (omega (arith, few, fewer))

joined_append : (lost kept : List (List ℕ)) → length (joined kept) ≤ length (joined (lost ++ kept))
joined_append [] kept = omega arith
joined_append (part ∷ lost) kept =
    let less : length (joined kept) ≤ length (joined (lost ++ kept)) = joined_append lost kept in
    let all : length (part ++ joined (lost ++ kept)) ≡ length part + length (joined (lost ++ kept)) = length-append part (joined (lost ++ kept)) in
    omega (arith, less, all)

-- what is released of a unit has at most its bytes
release_fits : (splits : Bool) (u : SentUnit) (missing : List Packet) (bytes : List ℕ) → IsReleaseOf splits u missing bytes → length bytes ≤ length (joined u.parts)
release_fits splits u missing bytes (inl whole) = let e : length bytes ≡ length (joined u.parts) = ap (λ (b : List ℕ). length b) whole.1 in omega (arith, e)
release_fits splits u missing bytes (inr split) =
    let e : length bytes ≡ length (joined split.3) = ap (λ (b : List ℕ). length b) split.6 in
    let less : length (joined split.3) ≤ length (joined (split.2 ++ split.3)) = joined_append split.2 split.3 in
    let all : length (joined u.parts) ≡ length (joined (split.2 ++ split.3)) = ap (λ (ps : List (List ℕ)). length (joined ps)) split.4 in
    omega (arith, e, less, all)

-- a unit at a place is not above the bound, if none is
none_at : (most : Option ℕ) (units : List SentUnit) (place : ℕ) (u : SentUnit) → NoneAbove most (map (λ (u : SentUnit). u.parts) units) → slice_get units place ≡ Some u → is_over most (joined u.parts) ≡ false
none_at most [] place u none at = absurd (cc)
none_at most (first ∷ units) zero u none at = let same : first ≡ u = cc in subst (λ (x : SentUnit). is_over most (joined x.parts) ≡ false) same none.0
none_at most (first ∷ units) (suc place) u none at = none_at most units place u none.1 at

told_unit : (most : Option ℕ) (r : Release) (over : Bool) → is_over most r.bytes ≡ over → told_by most (Some (Ok r)) ≡ Some (Ok (cond over (popped.TooLarge r) (popped.Unit r)))
told_unit most r over is = ap (λ (p : Popped Release). Some (Ok p)) (by_over most r over is)

units_in_order : (known : ℕ → Packet → RtpMeta → Type 0) (splits : Bool) (units : List SentUnit) (most : Option ℕ) (from : ℕ) (answers : List Answer)
    → InOrder known splits units from answers → NoneAbove most (map (λ (u : SentUnit). u.parts) units) → AreUnits most answers
units_in_order known splits units most from [] order none = tt
units_in_order known splits units most from (None ∷ answers) order none = units_in_order known splits units most from answers order none
units_in_order known splits units most from (Some (Err fault) ∷ answers) order none = absurd order
units_in_order known splits units most from (Some (Ok r) ∷ answers) order none =
    let at : IsUnitAt known splits units order.0 r = order.2 in
    let small : is_over most r.bytes ≡ false = over_less most r.bytes (joined at.sent.parts) (release_fits splits at.sent at.missing r.bytes at.bytes) (none_at most units order.0 at.sent none at.at_place) in
    (told_unit most r false small, units_in_order known splits units most (order.0 + 1) answers order.3 none)

tells_all : (known : ℕ → Packet → RtpMeta → Type 0) (units : List SentUnit) (most : Option ℕ) (k : ℕ) (answers : List Answer) → AnswersAll known k units answers → TellsAll known most k units answers
tells_all known units most k [] all = tt
tells_all known [] most k (answer ∷ answers) all = (all.0, tells_all known [] most k answers all.1)
tells_all known (u ∷ us) most k (answer ∷ answers) all =
    let r : Release = all.0 in
    let told : told_by most answer ≡ Some (Ok (popped_by most r)) = ap (told_by most) all.1 in
    let by_bytes : popped_by most r ≡ cond (is_over most (joined u.parts)) (popped.TooLarge r) (popped.Unit r) =
    ap (λ (bytes : List ℕ). cond (is_over most bytes) (popped.TooLarge r) (popped.Unit r)) all.2.bytes in
    (r, told ∙ ap (λ (p : Popped Release). Some (Ok p)) by_bytes, all.2, tells_all known us most (k + length u.packets) answers all.3)

abbrev told : Popped Release → Option (Result (Popped Release) AllocError)
told p = Some (Ok p)

-- the answer is the one that the log has
same_release : (r : Release) (most : Option ℕ) (s : Release) (over other : Bool) → is_over most s.bytes ≡ other → told_by most (Some (Ok s)) ≡ told (cond over (popped.TooLarge r) (popped.Unit r)) → s ≡ r
same_release r most s true true e is = let same : told (popped.TooLarge s) ≡ told (popped.TooLarge r) = sym (told_unit most s true e) ∙ is in cc
same_release r most s true false e is = let differ : told (popped.Unit s) ≡ told (popped.TooLarge r) = sym (told_unit most s false e) ∙ is in absurd (cc)
same_release r most s false true e is = let differ : told (popped.TooLarge s) ≡ told (popped.Unit r) = sym (told_unit most s true e) ∙ is in absurd (cc)
same_release r most s false false e is = let same : told (popped.Unit s) ≡ told (popped.Unit r) = sym (told_unit most s false e) ∙ is in cc

same_unit : (r : Release) (most : Option ℕ) (over : Bool) (answer : Answer) → told_by most answer ≡ Some (Ok (cond over (popped.TooLarge r) (popped.Unit r))) → answer ≡ Some (Ok r)
same_unit r most true None is = absurd (cc)
same_unit r most false None is = absurd (cc)
same_unit r most true (Some (Err fault)) is = absurd (cc)
same_unit r most false (Some (Err fault)) is = absurd (cc)
same_unit r most over (Some (Ok s)) is = ap (λ (x : Release). Some (Ok x)) (same_release r most s over (is_over most s.bytes) refl is)

answers_all : (known : ℕ → Packet → RtpMeta → Type 0) (units : List SentUnit) (most : Option ℕ) (k : ℕ) (answers : List Answer) → TellsAll known most k units answers → AnswersAll known k units answers
answers_all known units most k [] all = tt
answers_all known [] most k (answer ∷ answers) all = (all.0, answers_all known [] most k answers all.1)
answers_all known (u ∷ us) most k (answer ∷ answers) all =
    (all.0, same_unit all.0 most (is_over most (joined u.parts)) answer all.1, all.2, answers_all known us most (k + length u.packets) answers all.3)

tells_large : (known : ℕ → Packet → RtpMeta → Type 0) (splits : Bool) (most : Option ℕ) (units : List SentUnit) (answers : List Answer) → InOrder known splits units 0 answers → ShowsLarge known most units answers
tells_large known splits most units answers order =
    record { none_above = units_in_order known splits units most 0 answers order; all = tells_all known units most 0 answers; same = answers_all known units most 0 answers }

pub runs_tell : RunsTellUnits
runs_tell samples all_steps s t most released = tells_large (IsKnownOf samples all_steps s t released.units) (may_split s.sending.packetizer) most released.units t.pops released.in_order

pub runs_tell_in_red : RunsTellInRed
runs_tell_in_red samples all_steps s t most released =
    tells_large (IsKnownInRed samples all_steps s t) (may_split s.wire.sending.packetizer) most released.units t.wire.pops released.in_order

pub samples_tell : SamplesTellUnits
samples_tell samples all_steps s t most released none = (runs_tell samples all_steps s t most released).none_above (subst (NoneAbove most) (sym released.canonical) none)
