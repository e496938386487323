-- Two datagrams begin a stream.
use Rattle.std.proofs.Common.{◌≡◌, ◌≤◌, ◌∙◌, ◌⊎◌, inl, inr, refl, sym, ap, ap₂, subst, subst₂, ℕ, zero, suc, ◌+◌, ◌-◌, ◌^◌, ◌==◌, ◌&&◌, cond, min, Bool, true, false, List, [], ◌∷◌, ◌++◌, map, length, Option, Some, None, Result, Ok, Err, slice_get, slice_set, arith, is_ok}
use Rattle.std.specs.Global.{Vec}
use Rattle.std.specs.List.{position}
use Rattle.std.specs.Prelude.{IsErr, is_ok, nat_le, nat_lt}
use Rattle.std.specs.declared.alloc.AllocError.{AllocError}
use Rattle.std.proofs.lemmas.Bool.{and_parts}
use Rattle.std.proofs.lemmas.Bool.Decides.{nat_tests}
use Rattle.std.proofs.lemmas.List.{length-map}
use Rattle.codec_payload_base.specs.declared.wire.Ticks.{Ticks}
use Rattle.codec_payload_jitter.specs.declared.outcome.Outcome.{Outcome}
use Rattle.codec_payload_receiver.specs.declared.receiver.ReceiveError.{ReceiveError}
use Rattle.codec_payload_rtcp.specs.RtcpPackets.{Packet}
use Rattle.codec_payload_rtcp.specs.RtcpReading.{compound_at}
use Rattle.codec_payload_rtcp.specs.declared.packet.RtcpError.{RtcpError}
use Rattle.codec_payload_rtp.specs.RtpReading.{rtp_at}
use Rattle.codec_payload_session.specs.Keyframes.{asked_among, asked_with}
use Rattle.codec_payload_session.specs.Accepting.{Accepts, noted_in, time_for}
use Rattle.codec_payload_session_stream.specs.Arrivals.{Arrives, arrival_of}
use Rattle.codec_payload_session.specs.Arrivals.{BeginsIf, BeginsOrFeeds, BeginsWith, Feeds, FeedsIf, Port, TakesInAs, TakesMedia, goodbye_at, has_place, left_if, left_where, on_probation, without, has_ssrc, begun_in}
use Rattle.codec_payload_session.specs.Associations.{AssociatesBy, pair_at}
use Rattle.codec_payload_session_stream.specs.Changes.{continued, continues, is_left_behind}
use Rattle.codec_payload_session.specs.Pairs.{Pairs}
use Rattle.codec_payload_session_stream.specs.Pairs.{paired_if, paired_where, with_pair}
use Rattle.codec_payload_session.specs.Polls.{GoesOn, PollsAfter, SendsAfter}
use Rattle.codec_payload_session.specs.Ports.{Receives, Session, everyone, ReportsIf as ReportsPlace}
use Rattle.codec_payload_session.specs.Reporting.{all_reported, is_chosen, room_after}
use Rattle.codec_payload_session_stream.specs.Reports.{reported_if, noted, noted_at, reported_by, noted_in as clocks_in}
use Rattle.codec_payload_session_formats.specs.Sorting.{Sorted, sorted_at}
use Rattle.codec_payload_session_formats.specs.Sorting as sorted
use Rattle.codec_payload_session_stream.specs.Streams.{Takes, accepted_after, heard_unless, is_accepted, is_no_memory, is_of, is_probation, late_followed, left_when, payload_size, received, stage_after, waiting_if, asked_for, asked_unless, is_ending, with_edges, probed}
use Rattle.codec_payload_session_stream.specs.Turns.{AreQuiet}
use Rattle.codec_payload_session.specs.Turns.{TakesTurn, kept_after}
use Rattle.codec_payload_session_stream.specs.Units.{Event}
use Rattle.codec_payload_session_formats.specs.declared.formats.Format.{Format}
use Rattle.codec_payload_session_formats.specs.declared.formats.SessionSettings.{SessionSettings}
use Rattle.codec_payload_session_formats.specs.declared.formats.SsrcPair.{SsrcPair}
use Rattle.codec_payload_session_stream.specs.declared.arrival.Arrival.{Arrival}
use Rattle.codec_payload_session_stream.specs.declared.arrival.Arrival.TheVariants as arrivals
use Rattle.codec_payload_session_stream.specs.declared.events.Event.TheVariants as events
use Rattle.codec_payload_session_stream.specs.declared.stream.Ending.{Ending}
use Rattle.codec_payload_session_stream.specs.declared.stream.Ending.TheVariants as endings
use Rattle.codec_payload_session_stream.specs.declared.stream.Stage.{Stage}
use Rattle.codec_payload_session_stream.specs.declared.stream.Stage.TheVariants as stages
use Rattle.codec_payload_session_stream.specs.declared.stream.StreamState.{StreamState}
use Rattle.codec_payload_session_runs.proofs.EndingCallLemmas.{apart_paired, both_same, paired_same, reported_same, waited_same, edged_same}
use Rattle.codec_payload_session_stream.specs.Trips.{with_round_trip}
use Rattle.codec_payload_session_runs.proofs.TripLemmas.{exchanged_streams, told_if}
use Rattle.codec_payload_session_runs.proofs.EndingLemmas.{Same, steps_asked}
use Rattle.codec_payload_session_runs.proofs.FateLemmas.{AreApart, found_none, of_is, of_same}
use Rattle.codec_payload_session_runs.proofs.ReachedLemmas.{Reached, by_streams, reached, reached_more, Same as SameOrReported}
use Rattle.codec_payload_session_runs.proofs.PollLemmas.{Kind, steps_stepped}
use Rattle.codec_payload_session_runs.proofs.StreamLemmas.{keeps_left}
use Rattle.codec_payload_session_runs.specs.Endings.{HasBegun, HasRoom, NoEnd, RunsWithRoom, TwoDatagramsBegin, accepted_as, ends_it, is_accepted_by, is_end_of}
use Rattle.codec_payload_session_runs.specs.Lives.{IsAbsent, events_by, is_same, one_event}
use Rattle.codec_payload_session_runs.specs.SessionRuns.{AddsPair, Call, Does}
use Rattle.codec_payload_session_runs.specs.declared.run.SessionStep.{SessionStep}
use Rattle.codec_payload_session_runs.specs.declared.run.SessionStep.TheVariants as calls
use Rattle.codec_payload_session_runs.specs.declared.run.StepAnswer.{StepAnswer}

-- ---- a stream that accepted a datagram

record Kept (s t : StreamState) : Type 0 where
  ssrc_is : t.ssrc ≡ s.ssrc
  format : t.format ≡ s.format
  some : 1 ≤ s.accepted → 1 ≤ t.accepted

abbrev Waits : (a b : ℕ) → StreamState → Type 0
Waits a b s = (is_of a b s ≡ true) × (1 ≤ s.accepted)

abbrev HasWaiting : (a b : ℕ) → List StreamState → Type 0
HasWaiting a b [] = ⊥
HasWaiting a b (s ∷ ss) = Waits a b s ⊎ HasWaiting a b ss

abbrev AllKept : List StreamState → List StreamState → Type 0
AllKept [] [] = Unit {0}
AllKept [] (t ∷ ts) = ⊥
AllKept (s ∷ ss) [] = ⊥
AllKept (s ∷ ss) (t ∷ ts) = Kept s t × AllKept ss ts

waits_kept : (a b : ℕ) (s t : StreamState) → Waits a b s → Kept s t → Waits a b t
waits_kept a b s t waits kept = (of_same a b s t kept.ssrc_is kept.format ∙ waits.0, kept.some waits.1)

has_kept : (a b : ℕ) (ss ts : List StreamState) → AllKept ss ts → HasWaiting a b ss → HasWaiting a b ts
has_kept a b [] [] kept has = has
has_kept a b [] (t ∷ ts) kept has = absurd kept
has_kept a b (s ∷ ss) [] kept has = absurd kept
has_kept a b (s ∷ ss) (t ∷ ts) kept (inl waits) = inl (waits_kept a b s t waits kept.0)
has_kept a b (s ∷ ss) (t ∷ ts) kept (inr has) = inr (has_kept a b ss ts kept.1 has)

same_kept : (s t : StreamState) → Same s t → Kept s t
same_kept s t same = record { ssrc_is = same.ssrc_is; format = same.format; some = λ one. omega (arith, one, same.accepted) }

itself_kept : (s : StreamState) → Kept s s
itself_kept s = record { ssrc_is = refl; format = refl; some = λ one. one }

left_kept : (b : Bool) (own : Ending) (at : ℕ) (s : StreamState) → Kept s (left_when b own at s)
left_kept true own at s = record { ssrc_is = refl; format = refl; some = λ one. one }
left_kept false own at s = itself_kept s

all_itself : (ss : List StreamState) → AllKept ss ss
all_itself [] = tt
all_itself (s ∷ ss) = (itself_kept s, all_itself ss)

all_maps : (g : StreamState → StreamState) (ss : List StreamState) → ((s : StreamState) → Kept s (g s)) → AllKept ss (map g ss)
all_maps g [] kept = tt
all_maps g (s ∷ ss) kept = (kept s, all_maps g ss kept)

set_kept : (ss : List StreamState) (place : ℕ) (x y : StreamState) → slice_get ss place ≡ Some x → Kept x y → AllKept ss (slice_set ss place y)
set_kept [] place x y there kept = absurd (cc)
set_kept (s ∷ ss) zero x y there kept = let e : s ≡ x = cc in (subst (λ (z : StreamState). Kept z y) (sym e) kept, all_itself ss)
set_kept (s ∷ ss) (suc i) x y there kept = (itself_kept s, set_kept ss i x y there kept)

has_set : (a b : ℕ) (ss : List StreamState) (place : ℕ) (x y : StreamState) → slice_get ss place ≡ Some x → Waits a b y → HasWaiting a b (slice_set ss place y)
has_set a b [] place x y there waits = absurd (cc)
has_set a b (s ∷ ss) zero x y there waits = inl waits
has_set a b (s ∷ ss) (suc i) x y there waits = inr (has_set a b ss i x y there waits)

begun_set : (a b : ℕ) (ss : List StreamState) (place : ℕ) (x y : StreamState) → slice_get ss place ≡ Some x → (is_of a b y ≡ true) × (is_probation y.stage ≡ false) → HasBegun a b (slice_set ss place y)
begun_set a b [] place x y there begun = absurd (cc)
begun_set a b (s ∷ ss) zero x y there begun = inl begun
begun_set a b (s ∷ ss) (suc i) x y there begun = inr (begun_set a b ss i x y there begun)

has_front : (a b : ℕ) (ss ts : List StreamState) → HasWaiting a b ss → HasWaiting a b (ss ++ ts)
has_front a b [] ts has = absurd has
has_front a b (s ∷ ss) ts (inl waits) = inl waits
has_front a b (s ∷ ss) ts (inr has) = inr (has_front a b ss ts has)

has_back : (a b : ℕ) (ss ts : List StreamState) → HasWaiting a b ts → HasWaiting a b (ss ++ ts)
has_back a b [] ts has = has
has_back a b (s ∷ ss) ts has = inr (has_back a b ss ts has)

has_parts : (a b : ℕ) (ss ts : List StreamState) → HasWaiting a b (ss ++ ts) → HasWaiting a b ss ⊎ HasWaiting a b ts
has_parts a b [] ts has = inr has
has_parts a b (s ∷ ss) ts (inl waits) = inl (inl waits)
has_parts a b (s ∷ ss) ts (inr has) = in_front (has_parts a b ss ts has)
  where
    in_front : HasWaiting a b ss ⊎ HasWaiting a b ts → HasWaiting a b (s ∷ ss) ⊎ HasWaiting a b ts
    in_front (inl front) = inl (inr front)
    in_front (inr back) = inr back

no_waiting : (a b : ℕ) (ss : List StreamState) → IsAbsent a b ss → HasWaiting a b ss → ⊥
no_waiting a b [] absent has = has
no_waiting a b (s ∷ ss) absent (inl waits) = let no : false ≡ true = sym absent.0 ∙ waits.0 in absurd (cc)
no_waiting a b (s ∷ ss) absent (inr has) = no_waiting a b ss absent.1 has

-- the stream at that place is the one
the_one : (a b : ℕ) (ss : List StreamState) (place : ℕ) (x : StreamState) → AreApart ss → slice_get ss place ≡ Some x → is_of a b x ≡ true → HasWaiting a b ss → 1 ≤ x.accepted
the_one a b [] place x apart there is has = absurd has
the_one a b (s ∷ ss) zero x apart there is (inl waits) = let e : s ≡ x = cc in subst (λ (z : StreamState). 1 ≤ z.accepted) e waits.1
the_one a b (s ∷ ss) zero x apart there is (inr has) =
    let e : s ≡ x = cc in
    let own = of_is a b x is in
    absurd (no_waiting a b ss (subst₂ (λ (n m : ℕ). IsAbsent n m ss) own.0 own.1 (subst (λ (z : StreamState). IsAbsent z.ssrc z.format.payload_type ss) e apart.0)) has)
the_one a b (s ∷ ss) (suc i) x apart there is (inl waits) =
    let own = of_is a b s waits.0 in
    absurd (not_there ss i (subst₂ (λ (n m : ℕ). IsAbsent n m ss) own.0 own.1 apart.0) there)
  where
    not_there : (zs : List StreamState) (j : ℕ) → IsAbsent a b zs → slice_get zs j ≡ Some x → ⊥
    not_there [] j absent at = absurd (cc)
    not_there (z ∷ zs) zero absent at =
        let e : z ≡ x = cc in
        let no : false ≡ true = sym absent.0 ∙ ap (λ (w : StreamState). is_of a b w) e ∙ is in
        absurd (cc)
    not_there (z ∷ zs) (suc j) absent at = not_there zs j absent.1 at
the_one a b (s ∷ ss) (suc i) x apart there is (inr has) = the_one a b ss i x apart.1 there is has

-- ---- a datagram

some_more : (accepted : Bool) (n : ℕ) → 1 ≤ n → 1 ≤ accepted_after accepted n
some_more true n one = omega (arith, one)
some_more false n one = one

-- what a datagram makes of its stream
record Took (probation : ℕ) (told : Result Outcome ReceiveError) (x y : StreamState) : Type 0 where
  kept : Kept x y
  one : is_accepted told ≡ true → 1 ≤ y.accepted
  past : is_accepted told ≡ true → probation ≤ 2 → 1 ≤ x.accepted → is_probation y.stage ≡ false

stage_past : (probation n : ℕ) (stage : Stage) → probation ≤ n → is_probation (stage_after probation n stage) ≡ false
stage_past probation n stages.Probation most = ap (λ (b : Bool). is_probation (cond b stages.Playing stages.Probation)) enough
  where
    enough : nat_le probation n ≡ true
    enough = grind (arith, nat_tests)
stage_past probation n stages.Playing most = refl
stage_past probation n (stages.Leaving why at) most = refl
stage_past probation n (stages.Draining why) most = refl

by_took : (b accepted : Bool) (now probation size : ℕ) (told : Result Outcome ReceiveError) (x z : StreamState) → is_no_memory told ≡ b → is_accepted told ≡ accepted → Same x z → Took probation told x (heard_unless b now probation accepted size z)
by_took true true now probation size told x z memory is same = absurd (no_both told memory is)
  where
    no_both : (o : Result Outcome ReceiveError) → is_no_memory o ≡ true → is_accepted o ≡ true → ⊥
    no_both (Ok outcome) memory is = absurd (cc)
    no_both (Err e) memory is = absurd (cc)
by_took true false now probation size told x z memory is same = record {
  kept = same_kept x z same;
  one = λ was. let no : false ≡ true = sym is ∙ was in absurd (cc);
  past = λ was small one. let no : false ≡ true = sym is ∙ was in absurd (cc);
}
by_took false true now probation size told x z memory is same = record {
  kept = record { ssrc_is = same.ssrc_is; format = same.format; some = λ one. omega (arith) };
  one = λ was. omega (arith);
  past = λ was small one. stage_past probation (accepted_after true z.accepted) z.stage (omega (arith, small, one, same.accepted));
}
by_took false false now probation size told x z memory is same = record {
  kept = record { ssrc_is = same.ssrc_is; format = same.format; some = λ one. omega (arith, one, same.accepted) };
  one = λ was. let no : false ≡ true = sym is ∙ was in absurd (cc);
  past = λ was small one. let no : false ≡ true = sym is ∙ was in absurd (cc);
}

took : (now : Ticks) (datagram : Vec ℕ) (probation : ℕ) (x : StreamState) (told : Result Outcome ReceiveError) (y : StreamState) → Takes now probation datagram.items x told y → Took probation told x y
took now datagram probation x told y got =
    let edged : StreamState = with_edges got.0 got.1 (probed datagram.items told x) in
    let after : StreamState = late_followed (is_ok told) now.0 datagram.items (received now.0 datagram.items (is_accepted told) got.0 edged) in
    subst (λ (z : StreamState). Took probation told x z) (sym got.3)
    (by_took (is_no_memory told) (is_accepted told) now.0 probation (payload_size (rtp_at datagram.items)) told x after refl refl
    (edged_same got.0 got.1 datagram.items told x after (both_same (is_ok told) (is_accepted told) now.0 datagram.items got.0 edged)))

-- an answer that says that the stream accepted the datagram
arrival_accepted : (a b s p : ℕ) (told : Result Outcome ReceiveError) → accepted_as a b (Ok (arrival_of s p told)) ≡ true → (is_same a b s p ≡ true) × (is_accepted told ≡ true)
arrival_accepted a b s p (Ok outcome) is = and_parts (is_same a b s p) (is_accepted (Ok outcome)) is
arrival_accepted a b s p (Err fault) is = absurd (cc)

arrives_accepted : (c : Bool) (a b s p : ℕ) (told : Result Outcome ReceiveError) (answer : Result Arrival AllocError) → Arrives c (arrival_of s p told) answer → accepted_as a b answer ≡ true
    → (is_same a b s p ≡ true) × (is_accepted told ≡ true)
arrives_accepted false a b s p told answer arrives is = arrival_accepted a b s p told (ap (λ (r : Result Arrival AllocError). accepted_as a b r) (sym arrives) ∙ is)
arrives_accepted true a b s p told (Ok arrival) arrives is = absurd (cc)
arrives_accepted true a b s p told (Err e) arrives is = absurd (cc)

err_accepted : {A : Type 0} (a b : ℕ) (answer : Result Arrival AllocError) → IsErr answer → accepted_as a b answer ≡ true → A
err_accepted a b (Ok arrival) fails is = absurd (cc)
err_accepted a b (Err e) fails is = absurd (cc)

-- what a datagram makes of the streams: a stream that accepted one stays; the stream that accepts this one has accepted one; and if it
-- had before, it has begun
record Given (a b probation : ℕ) (p : Port) (answer : Result Arrival AllocError) (q : Port) : Type 0 where
  keep : HasWaiting a b p.streams → HasWaiting a b q.streams
  first : accepted_as a b answer ≡ true → HasWaiting a b q.streams
  second : accepted_as a b answer ≡ true → probation ≤ 2 → AreApart p.streams → HasWaiting a b p.streams → HasBegun a b q.streams

given_none : (a b probation : ℕ) (p : Port) (answer : Result Arrival AllocError) (q : Port) → accepted_as a b answer ≡ false → AllKept p.streams q.streams → Given a b probation p answer q
given_none a b probation p answer q none kept = record {
  keep = λ has. has_kept a b p.streams q.streams kept has;
  first = λ is. let no : false ≡ true = sym none ∙ is in absurd (cc);
  second = λ is small apart has. let no : false ≡ true = sym none ∙ is in absurd (cc);
}

given_same : (a b probation : ℕ) (p : Port) (answer told : Result Arrival AllocError) (q : Port) → accepted_as a b told ≡ false → answer ≡ told → q ≡ p → Given a b probation p answer q
given_same a b probation p answer told q none is same =
    given_none a b probation p answer q (ap (λ (r : Result Arrival AllocError). accepted_as a b r) is ∙ none) (subst (λ (o : Port). AllKept p.streams o.streams) (sym same) (all_itself p.streams))

given_failed : (a b probation : ℕ) (p : Port) (answer : Result Arrival AllocError) (q : Port) → IsErr answer → q ≡ p → Given a b probation p answer q
given_failed a b probation p (Ok arrival) q fails same = absurd (cc)
given_failed a b probation p (Err e) q fails same = given_same a b probation p (Err e) (Err e) q refl refl same

feeds : (a b probation place : ℕ) (now : Ticks) (datagram : Vec ℕ) (p : Port) (answer : Result Arrival AllocError) (q : Port) → Feeds probation place now datagram.items p answer q → Given a b probation p answer q
feeds a b probation place now datagram p answer q got =
    let x : StreamState = got.stream in
    let t : Took probation got.told x got.after = took now datagram probation x got.told got.after got.takes in
    subst (λ (o : Port). Given a b probation p answer o) (sym got.left)
    (record {
      keep = λ has. has_kept a b p.streams (slice_set p.streams place got.after) (set_kept p.streams place x got.after got.there t.kept) has;
      first = λ is.
          let own = arrives_accepted (is_no_memory got.told) a b x.ssrc x.format.payload_type got.told answer got.arrives is in
          has_set a b p.streams place x got.after got.there (of_same a b x got.after t.kept.ssrc_is t.kept.format ∙ own.0, t.one own.1);
      second = λ is small apart has.
          let own = arrives_accepted (is_no_memory got.told) a b x.ssrc x.format.payload_type got.told answer got.arrives is in
          begun_set a b p.streams place x got.after got.there
          (of_same a b x got.after t.kept.ssrc_is t.kept.format ∙ own.0, t.past own.1 small (the_one a b p.streams place x apart got.there own.0 has));
    })

feeds_if : (o : Option ℕ) (a b probation : ℕ) (arrival : Arrival) (now : Ticks) (datagram : Vec ℕ) (p : Port) (answer : Result Arrival AllocError) (q : Port) → accepted_as a b (Ok arrival) ≡ false
    → FeedsIf o arrival probation now datagram.items p answer q → Given a b probation p answer q
feeds_if None a b probation arrival now datagram p answer q none got = given_same a b probation p answer (Ok arrival) q none got.0 got.1
feeds_if (Some place) a b probation arrival now datagram p answer q none got = feeds a b probation place now datagram p answer q got

with_room : (c : Bool) (o : Option ℕ) (p : Port) → c ≡ true → without (cond c None o) p ≡ p
with_room true o p room = refl
with_room false o p room = absurd (cc)

begins : (a b : ℕ) (settings : SessionSettings) (ssrc : ℕ) (f : Format) (now : Ticks) (datagram : Vec ℕ) (p : Port) (answer : Result Arrival AllocError) (q : Port) → nat_lt (length p.streams) settings.max_streams ≡ true
    → position (is_of ssrc f.payload_type) p.streams ≡ None → BeginsWith settings ssrc f now datagram.items p answer q → Given a b settings.probation p answer q
begins a b settings ssrc f now datagram p answer q room none got =
    let x : StreamState = got.stream in
    let y : StreamState = got.after in
    let fresh : StreamState = begun_in ssrc p x in
    let t : Took settings.probation got.told fresh y = took now datagram settings.probation fresh got.told y got.takes in
    let left : q ≡ record p { streams = p.streams ++ y ∷ [] } =
    got.left ∙ with_room (nat_lt (length p.streams) settings.max_streams) (position on_probation p.streams) (record p { streams = p.streams ++ y ∷ [] }) room in
    subst (λ (o : Port). Given a b settings.probation p answer o) (sym left)
    (record {
      keep = λ has. has_front a b p.streams (y ∷ []) has;
      first = λ is.
          let own = arrival_accepted a b ssrc f.payload_type got.told (ap (λ (r : Result Arrival AllocError). accepted_as a b r) (sym got.answers) ∙ is) in
          let named : is_of a b y ≡ true =
          ap₂ (λ (n : ℕ) (g : Format). (n == a) && (g.payload_type == b)) (t.kept.ssrc_is ∙ got.begins.ssrc_is) (t.kept.format ∙ got.begins.format) ∙ own.0 in
          has_back a b p.streams (y ∷ []) (inl (named, t.one own.1));
      second = λ is small apart has.
          let own = arrival_accepted a b ssrc f.payload_type got.told (ap (λ (r : Result Arrival AllocError). accepted_as a b r) (sym got.answers) ∙ is) in
          let absent : IsAbsent a b p.streams = same_absent own.0 (found_none ssrc f.payload_type p.streams none) in
          absurd (no_waiting a b p.streams absent has);
    })
  where
    same_absent : is_same a b ssrc f.payload_type ≡ true → IsAbsent ssrc f.payload_type p.streams → IsAbsent a b p.streams
    same_absent is absent =
        let both = and_parts (ssrc == a) (f.payload_type == b) is in
        let one : ssrc ≡ a = grind (arith, nat_tests, both.0) in
        let two : f.payload_type ≡ b = grind (arith, nat_tests, both.1) in
        subst₂ (λ (n m : ℕ). IsAbsent n m p.streams) one two absent

begins_if : (c : Bool) (a b : ℕ) (settings : SessionSettings) (ssrc : ℕ) (f : Format) (now : Ticks) (datagram : Vec ℕ) (p : Port) (answer : Result Arrival AllocError) (q : Port) → nat_lt (length p.streams) settings.max_streams ≡ true
    → position (is_of ssrc f.payload_type) p.streams ≡ None → BeginsIf c settings ssrc f now datagram.items p answer q → Given a b settings.probation p answer q
begins_if false a b settings ssrc f now datagram p answer q room none got = given_same a b settings.probation p answer (Ok arrivals.Refused) q refl got.0 got.1
begins_if true a b settings ssrc f now datagram p answer q room none (inl got) = begins a b settings ssrc f now datagram p answer q room none got
begins_if true a b settings ssrc f now datagram p answer q room none (inr got) = given_failed a b settings.probation p answer q got.0 got.1

begins_or_feeds : (o : Option ℕ) (a b : ℕ) (settings : SessionSettings) (ssrc : ℕ) (f : Format) (now : Ticks) (datagram : Vec ℕ) (p : Port) (answer : Result Arrival AllocError) (q : Port)
    → nat_lt (length p.streams) settings.max_streams ≡ true → position (is_of ssrc f.payload_type) p.streams ≡ o → BeginsOrFeeds o settings ssrc f now datagram.items p answer q → Given a b settings.probation p answer q
begins_or_feeds None a b settings ssrc f now datagram p answer q room none got = begins_if (has_place settings.max_streams p) a b settings ssrc f now datagram p answer q room none got
begins_or_feeds (Some place) a b settings ssrc f now datagram p answer q room there got = feeds a b settings.probation place now datagram p answer q got

-- streams that leave have begun if they had
begun_left : (who : StreamState → Bool) (own : Ending) (at a b : ℕ) (ss : List StreamState) → HasBegun a b ss → HasBegun a b (map (λ (s : StreamState). left_when (who s) own at s) ss)
begun_left who own at a b [] begun = absurd begun
begun_left who own at a b (s ∷ ss) (inl it) =
    let k = keeps_left (who s) own at s in
    inl (of_same a b s (left_when (who s) own at s) k.ssrc_is k.format ∙ it.0, k.stage it.1)
begun_left who own at a b (s ∷ ss) (inr begun) = inr (begun_left who own at a b ss begun)

has_left : (who : StreamState → Bool) (own : Ending) (at a b : ℕ) (ss : List StreamState) → HasWaiting a b ss → HasWaiting a b (map (λ (s : StreamState). left_when (who s) own at s) ss)
has_left who own at a b ss has =
    has_kept a b ss (map (λ (s : StreamState). left_when (who s) own at s) ss) (all_maps (λ (s : StreamState). left_when (who s) own at s) ss (λ s. left_kept (who s) own at s)) has

given_continued : (c : Bool) (a b probation now wait ssrc : ℕ) (f : Format) (p : Port) (answer : Result Arrival AllocError) (mid : Port) → Given a b probation p answer mid
    → Given a b probation p answer (record mid { streams = continued c now wait ssrc f mid.streams })
given_continued false a b probation now wait ssrc f p answer mid g = record { keep = g.keep; first = g.first; second = g.second }
given_continued true a b probation now wait ssrc f p answer mid g = record {
  keep = λ has. has_left (is_left_behind now wait ssrc f) endings.Changed now a b mid.streams (g.keep has);
  first = λ is. has_left (is_left_behind now wait ssrc f) endings.Changed now a b mid.streams (g.first is);
  second = λ is small apart has. begun_left (is_left_behind now wait ssrc f) endings.Changed now a b mid.streams (g.second is small apart has);
}

takes_media : (a b : ℕ) (settings : SessionSettings) (ssrc : ℕ) (f : Format) (now : Ticks) (datagram : Vec ℕ) (p : Port) (answer : Result Arrival AllocError) (q : Port) → nat_lt (length p.streams) settings.max_streams ≡ true
    → TakesMedia settings ssrc f now datagram.items p answer q → Given a b settings.probation p answer q
takes_media a b settings ssrc f now datagram p answer q room got =
    subst (λ (o : Port). Given a b settings.probation p answer o) (sym got.left)
    (given_continued (is_ok answer && continues ssrc f got.received.streams) a b settings.probation now.0 settings.bye_wait ssrc f p answer got.received
    (begins_or_feeds (position (is_of ssrc f.payload_type) p.streams) a b settings ssrc f now datagram p answer got.received room refl got.takes))

clocks_kept : (o : Result (List Packet) RtcpError) (now : Ticks) (ss : List StreamState) → AllKept ss (clocks_in now o ss)
clocks_kept (Ok packets) now ss = all_maps (noted now packets) ss (λ s. record { ssrc_is = refl; format = refl; some = λ one. one })
clocks_kept (Err e) now ss = all_itself ss

kept_chain : (ss ts us : List StreamState) → AllKept ss ts → AllKept ts us → AllKept ss us
kept_chain [] [] [] first second = tt
kept_chain [] [] (u ∷ us) first second = absurd second
kept_chain [] (t ∷ ts) us first second = absurd first
kept_chain (s ∷ ss) [] us first second = absurd first
kept_chain (s ∷ ss) (t ∷ ts) [] first second = absurd second
kept_chain (s ∷ ss) (t ∷ ts) (u ∷ us) first second =
    (record { ssrc_is = second.0.ssrc_is ∙ first.0.ssrc_is; format = second.0.format ∙ first.0.format; some = λ one. second.0.some (first.0.some one) }, kept_chain ss ts us first.1 second.1)

-- streams that follow another round trip
told_kept : (b : Bool) (round_trip : Option ℕ) (ss : List StreamState) → AllKept ss (told_if b round_trip ss)
told_kept true round_trip ss = all_maps (with_round_trip round_trip) ss (λ s. record { ssrc_is = refl; format = refl; some = λ one. one })
told_kept false round_trip ss = all_itself ss

all_left_kept : (who : ℕ → Bool) (own : Ending) (at : ℕ) (ss : List StreamState) → AllKept ss (left_where who own at ss)
all_left_kept who own at ss = all_maps (left_if who own at) ss (λ s. left_kept (who s.ssrc) own at s)

takes_as : (o : Sorted) (a b : ℕ) (settings : SessionSettings) (now : Ticks) (datagram : Vec ℕ) (p : Port) (answer : Result Arrival AllocError) (q : Port) → nat_lt (length p.streams) settings.max_streams ≡ true
    → TakesInAs o settings now datagram.items p answer q → Given a b settings.probation p answer q
takes_as sorted.Rtcp a b settings now datagram p answer q room got =
    let noted_streams : List StreamState = noted_at now datagram.items p.streams in
    let at : ℕ = min (now.0 + settings.bye_wait) (2 ^ 64 - 1) in
    let left_streams : List StreamState = left_where (goodbye_at datagram.items) endings.Bye at noted_streams in
    let tells = exchanged_streams settings.feedback settings.tick_rate now.0 datagram.items (record p { streams = left_streams }) in
    given_none a b settings.probation p answer q (ap (λ (r : Result Arrival AllocError). accepted_as a b r) got.0)
    (subst (λ (o : Port). AllKept p.streams o.streams) (sym got.1)
    (subst (λ (zs : List StreamState). AllKept p.streams zs) (sym tells.2)
    (kept_chain p.streams left_streams (told_if tells.0 tells.1 left_streams)
    (kept_chain p.streams noted_streams left_streams (clocks_kept (compound_at false datagram.items) now p.streams) (all_left_kept (goodbye_at datagram.items) endings.Bye at noted_streams))
    (told_kept tells.0 tells.1 left_streams))))
takes_as sorted.Malformed a b settings now datagram p answer q room got = given_same a b settings.probation p answer (Ok arrivals.Malformed) q refl got.0 got.1
takes_as sorted.Unknown a b settings now datagram p answer q room got = given_same a b settings.probation p answer (Ok arrivals.Unknown) q refl got.0 got.1
takes_as sorted.Unassociated a b settings now datagram p answer q room got = given_same a b settings.probation p answer (Ok arrivals.Unassociated) q refl got.0 got.1
takes_as (sorted.Media ssrc f) a b settings now datagram p answer q room got = takes_media a b settings ssrc f now datagram p answer q room got
takes_as (sorted.Retransmission ssrc payload_type) a b settings now datagram p answer q room got =
    feeds_if (position (is_of ssrc payload_type) p.streams) a b settings.probation arrivals.Unassociated now datagram p answer q refl got
takes_as (sorted.NoMedia ssrc) a b settings now datagram p answer q room got =
    feeds_if (position (λ (s : StreamState). s.ssrc == ssrc) p.streams) a b settings.probation arrivals.Unknown now datagram p answer q refl got

receives : (a b probation : ℕ) (now : Ticks) (datagram : Vec ℕ) (s : Session) (answer : Result Arrival AllocError) (t : Session) → s.settings.probation ≡ probation → HasRoom s → Receives now datagram.items s answer t
    → Given a b probation s.port answer t.port
receives a b probation now datagram s answer t is room (inl got) =
    subst (λ (z : Session). Given a b probation s.port answer z.port) (sym got.left)
    (subst (λ (n : ℕ). Given a b n s.port answer got.port) is (takes_as (sorted_at s.settings datagram.items) a b s.settings now datagram s.port answer got.port room got.takes))
receives a b probation now datagram s answer t is room (inr got) = given_failed a b probation s.port answer t.port got.fails (ap (λ (z : Session). z.port) got.left)

paired_kept : (ssrc : ℕ) (named : List SsrcPair) (ss : List StreamState) → AllKept ss (paired_where ssrc named ss)
paired_kept ssrc named ss = all_maps (paired_if ssrc named) ss (λ s. same_kept s (paired_if ssrc named s) (paired_same (s.ssrc == ssrc) named s))

-- the streams first got a pair
given_paired : (a b probation ssrc : ℕ) (named : List SsrcPair) (p mid : Port) (answer : Result Arrival AllocError) (q : Port) → mid.streams ≡ paired_where ssrc named p.streams → Given a b probation mid answer q → Given a b probation p answer q
given_paired a b probation ssrc named p mid answer q is g =
    let has_mid : HasWaiting a b p.streams → HasWaiting a b mid.streams =
    λ has. subst (λ (ss : List StreamState). HasWaiting a b ss) (sym is) (has_kept a b p.streams (paired_where ssrc named p.streams) (paired_kept ssrc named p.streams) has) in
    record {
      keep = λ has. g.keep (has_mid has);
      first = g.first;
      second = λ accepted small apart has. g.second accepted small (subst AreApart (sym is) (apart_paired ssrc named p.streams apart)) (has_mid has);
    }

associates : (o : Option SsrcPair) (a b probation : ℕ) (now : Ticks) (datagram : Vec ℕ) (s : Session) (answer : Result Arrival AllocError) (t : Session) → s.settings.probation ≡ probation → HasRoom s
    → AssociatesBy o now datagram.items s answer t → Given a b probation s.port answer t.port
associates None a b probation now datagram s answer t is room got = receives a b probation now datagram s answer t is room got
associates (Some pair) a b probation now datagram s answer t is room (inl got) =
    let named : List SsrcPair = with_pair pair s.settings.pairs.items in
    let streams : got.0.port.streams ≡ paired_where pair.ssrc named s.port.streams = ap (λ (z : Session). z.port.streams) got.1.left in
    let settings : got.0.settings ≡ record s.settings { pairs = got.1.named } = ap (λ (z : Session). z.settings) got.1.left in
    let many : length got.0.port.streams ≡ length s.port.streams = ap (λ (ss : List StreamState). length ss) streams ∙ length-map s.port.streams (paired_if pair.ssrc named) in
    let roomy : HasRoom got.0 = ap₂ (λ (n m : ℕ). nat_lt n m) many (ap (λ (x : SessionSettings). x.max_streams) settings) ∙ room in
    given_paired a b probation pair.ssrc named s.port got.0.port answer t.port streams
    (receives a b probation now datagram got.0 answer t (ap (λ (x : SessionSettings). x.probation) settings ∙ is) roomy got.2)
associates (Some pair) a b probation now datagram s answer t is room (inr got) = given_failed a b probation s.port answer t.port got.0 (ap (λ (z : Session). z.port) got.1)

accepts : (a b probation : ℕ) (now : Ticks) (micros : Option ℕ) (datagram : Vec ℕ) (s : Session) (answer : Result Arrival AllocError) (t : Session) → s.settings.probation ≡ probation → HasRoom s
    → Accepts (time_for micros now s) now datagram.items s answer t → Given a b probation s.port answer t.port
accepts a b probation now micros datagram s answer t is room (inl got) =
    associates (pair_at s.settings now.0 datagram.items s.port.streams) a b probation now datagram (noted_in (time_for micros now s) datagram.items s) answer t is room got
accepts a b probation now micros datagram s answer t is room (inr got) = given_failed a b probation s.port answer t.port got.fails (ap (λ (z : Session). z.port) got.left)

-- ---- poll

quiet_kept : (now : Ticks) (idle : ℕ) (ss ts : List StreamState) → AreQuiet now idle ss ts → AllKept ss ts
quiet_kept now idle [] [] quiet = tt
quiet_kept now idle [] (t ∷ ts) quiet = absurd quiet
quiet_kept now idle (s ∷ ss) [] quiet = absurd quiet
quiet_kept now idle (s ∷ ss) (t ∷ ts) quiet =
    let asked = steps_asked now idle s _ t quiet.0 in
    (record { ssrc_is = asked.ssrc_is; format = asked.format; some = λ one. omega (arith, one, asked.accepted) }, quiet_kept now idle ss ts quiet.1)

one_is : (c : Bool) (e f : Event) → one_event c e ≡ f ∷ [] → e ≡ f
one_is true e f is = cc
one_is false e f is = absurd (cc)

told_is : (e f : Event) (ssrc payload_type : ℕ) → events_by ssrc payload_type (Some e) ≡ f ∷ [] → e ≡ f
told_is (events.Begun s p) f ssrc payload_type is = one_is (is_same ssrc payload_type s p) _ f is
told_is (events.Unit s p time decodable keyframe unit) f ssrc payload_type is = one_is (is_same ssrc payload_type s p) _ f is
told_is (events.TooLarge s p unit) f ssrc payload_type is = one_is (is_same ssrc payload_type s p) _ f is
told_is (events.Refused s p fault) f ssrc payload_type is = one_is (is_same ssrc payload_type s p) _ f is
told_is (events.Feedback s p packet) f ssrc payload_type is = one_is (is_same ssrc payload_type s p) _ f is
told_is (events.Ended s p why) f ssrc payload_type is = one_is (is_same ssrc payload_type s p) _ f is
told_is (events.Telephone s p time marker payload) f ssrc payload_type is = absurd (cc)
told_is (events.Report packet) f ssrc payload_type is = absurd (cc)
told_is (events.TransportFeedback packet) f ssrc payload_type is = absurd (cc)

-- the stream with the event, and those after it
kept_waiting : (a b : ℕ) (announced after : Bool) (e : Event) (x y : StreamState) (kept : List StreamState → List StreamState) (rest : List StreamState) → Kind announced after x.ssrc x.format.payload_type (Some e) kept y
    → ends_it a b (Some e) ≡ false → Kept x y → HasWaiting a b (x ∷ rest) → HasWaiting a b (kept rest)
kept_waiting a b announced after e x y kept rest (inl stays) none goes has = subst (λ (ss : List StreamState). HasWaiting a b ss) (sym (stays.1 rest)) (has_kept a b (x ∷ rest) (y ∷ rest) (goes, all_itself rest) has)
kept_waiting a b announced after e x y kept rest (inr ends) none goes (inr has) = subst (λ (ss : List StreamState). HasWaiting a b ss) (sym (ends.3 rest)) has
kept_waiting a b announced after e x y kept rest (inr ends) none goes (inl waits) =
    let is : e ≡ events.Ended x.ssrc x.format.payload_type ends.0 = told_is e (events.Ended x.ssrc x.format.payload_type ends.0) x.ssrc x.format.payload_type ends.2 in
    let no : false ≡ true = sym none ∙ ap (λ (f : Event). ends_it a b (Some f)) is ∙ waits.0 in
    absurd (cc)

takes_turn : (o : Option Event) (a b : ℕ) (now : Ticks) (idle : ℕ) (p q : Port) → ends_it a b o ≡ false → TakesTurn now idle p o q → HasWaiting a b p.streams → HasWaiting a b q.streams
takes_turn None a b now idle p q none got has = subst (λ (o : Port). HasWaiting a b o.streams) (sym got.2) (has_kept a b p.streams got.0 (quiet_kept now idle p.streams got.0 got.1) has)
takes_turn (Some e) a b now idle p q none got has =
    let x : StreamState = got.stream in
    let y : StreamState = got.stepped in
    let s = steps_stepped now idle x got.step y got.steps in
    let asked = steps_asked now idle x got.step y got.steps in
    let goes : Kept x y = record { ssrc_is = asked.ssrc_is; format = asked.format; some = λ one. omega (arith, one, asked.accepted) } in
    let kind : Kind x.announced y.announced x.ssrc x.format.payload_type (Some e) (λ (zs : List StreamState). kept_after got.step y zs) y =
    subst (λ (o : Option Event). Kind x.announced y.announced x.ssrc x.format.payload_type o (λ (zs : List StreamState). kept_after got.step y zs) y) (sym got.tells) s.kind in
    subst (λ (o : Port). HasWaiting a b o.streams) (sym got.left) (by_part kind goes (has_parts a b got.front (x ∷ got.rest) (subst (λ (ss : List StreamState). HasWaiting a b ss) got.there has)))
  where
    by_part : Kind got.stream.announced got.stepped.announced got.stream.ssrc got.stream.format.payload_type (Some e) (λ (zs : List StreamState). kept_after got.step got.stepped zs) got.stepped → Kept got.stream got.stepped
        → HasWaiting a b got.front ⊎ HasWaiting a b (got.stream ∷ got.rest) → HasWaiting a b (got.quiet ++ kept_after got.step got.stepped got.rest)
    by_part kind goes (inl front) = has_front a b got.quiet (kept_after got.step got.stepped got.rest) (has_kept a b got.front got.quiet (quiet_kept now idle got.front got.quiet got.are_quiet) front)
    by_part kind goes (inr back) =
        has_back a b got.quiet (kept_after got.step got.stepped got.rest)
        (kept_waiting a b got.stream.announced got.stepped.announced e got.stream got.stepped (λ (zs : List StreamState). kept_after got.step got.stepped zs) got.rest kind none goes back)

reported_kept : (is_new : Bool) (room : ℕ) (ss : List StreamState) → AllKept ss (all_reported is_new room ss)
reported_kept is_new room [] = tt
reported_kept is_new room (s ∷ ss) = (
  same_kept s (reported_if (is_chosen is_new room s ss) is_new s) (reported_same (is_chosen is_new room s ss) is_new s),
  reported_kept is_new (room_after (is_chosen is_new room s ss) room) ss,
)

or_reported : (a b : ℕ) (packet : Option (Result (Vec ℕ) AllocError)) (ss ts : List StreamState) → SameOrReported packet ss ts → HasWaiting a b ss → HasWaiting a b ts
or_reported a b packet ss ts (inl same) has = subst (λ (zs : List StreamState). HasWaiting a b zs) (sym same) has
or_reported a b packet ss ts (inr (bytes, is_new, room, lost, trip, told, same)) has =
    let after : List StreamState = all_reported is_new room ss in
    subst (λ (zs : List StreamState). HasWaiting a b zs) (sym same)
    (has_kept a b after (told_if lost trip after) (told_kept lost trip after) (has_kept a b ss after (reported_kept is_new room ss) has))

goes_on : (o : Option Event) (a b now : ℕ) (s : Session) (event : Option Event) (t : Session) → GoesOn o now s event t → HasWaiting a b s.port.streams → HasWaiting a b t.port.streams
goes_on None a b now s event t got has =
    subst (λ (z : Session). HasWaiting a b z.port.streams) (sym got.left)
    (or_reported a b got.packet s.port.streams got.port.streams (by_streams s.settings.feedback s.settings.tick_rate now s.report_due s.port got.packet got.due got.port got.reports) has)
goes_on (Some e) a b now s event t got has = subst (λ (z : Session). HasWaiting a b z.port.streams) (sym got.1) has

sends_after : (o : Option Event) (a b now : ℕ) (s : Session) (event : Option Event) (t : Session) → SendsAfter o now s event t → HasWaiting a b s.port.streams → HasWaiting a b t.port.streams
sends_after None a b now s event t got has = subst (λ (z : Session). HasWaiting a b z.port.streams) (sym got.left) has
sends_after (Some e) a b now s event t got has = subst (λ (z : Session). HasWaiting a b z.port.streams) (sym got.1) has

-- the event of the streams is the answer
turn_none : (o : Option Event) (a b now : ℕ) (s : Session) (mid event : Option Event) (after t : Session) → GoesOn o now s mid after → SendsAfter mid now after event t → ends_it a b event ≡ false → ends_it a b o ≡ false
turn_none None a b now s mid event after t goes sends none = refl
turn_none (Some e) a b now s mid event after t goes sends none =
    let sent : SendsAfter (Some e) now after event t = subst (λ (o : Option Event). SendsAfter o now after event t) goes.0 sends in
    ap (λ (o : Option Event). ends_it a b o) (sym sent.0) ∙ none

polls : (ws : List _) (a b : ℕ) (now : Ticks) (s : Session) (event : Option Event) (t : Session) → ends_it a b event ≡ false → PollsAfter ws now s event t → HasWaiting a b s.port.streams → HasWaiting a b t.port.streams
polls [] a b now s event t none got has =
    let turn = got.turn in
    let quiet : ends_it a b turn.event ≡ false = turn_none turn.event a b now.0 (record s { port = turn.port }) got.event event got.after t turn.goes_on got.sends none in
    sends_after got.event a b now.0 got.after event t got.sends
    (goes_on turn.event a b now.0 (record s { port = turn.port }) got.event got.after turn.goes_on (takes_turn turn.event a b now s.settings.idle_timeout s.port turn.port quiet turn.turn has))
polls (w ∷ ws) a b now s event t none got has = subst (λ (z : Session). HasWaiting a b z.port.streams) (sym got.1) has

-- ---- any call

pairs_has : (a b ssrc : ℕ) (named : List SsrcPair) (s t : Session) → Pairs ssrc named s t → HasWaiting a b s.port.streams → HasWaiting a b t.port.streams
pairs_has a b ssrc named s t got has =
    subst (λ (z : Session). HasWaiting a b z.port.streams) (sym got.left) (has_kept a b s.port.streams (paired_where ssrc named s.port.streams) (paired_kept ssrc named s.port.streams) has)

added_has : (a b ssrc retransmission : ℕ) (s : Session) (added_as : Result Unit AllocError) (t : Session) → AddsPair ssrc retransmission s added_as t → HasWaiting a b s.port.streams → HasWaiting a b t.port.streams
added_has a b ssrc retransmission s (Ok u) t got has = pairs_has a b ssrc _ s t got.0 has
added_has a b ssrc retransmission s (Err e) t got has = subst (λ (z : Session). HasWaiting a b z.port.streams) (sym got.1) has

reports_has : (o : Option ℕ) (a b tick_rate now : ℕ) (p : Port) (block : Option _) (q : Port) → ReportsPlace o tick_rate now p block q → HasWaiting a b p.streams → HasWaiting a b q.streams
reports_has None a b tick_rate now p block q got has = subst (λ (o : Port). HasWaiting a b o.streams) (sym got.1) has
reports_has (Some place) a b tick_rate now p block q got has =
    subst (λ (o : Port). HasWaiting a b o.streams) (sym got.left)
    (has_kept a b p.streams (slice_set p.streams place (reported_by got.stream))
    (set_kept p.streams place got.stream (reported_by got.stream) got.there (record { ssrc_is = refl; format = refl; some = λ one. one })) has)

asked_kept : (ending : Bool) (s : StreamState) → Kept s (asked_unless ending s)
asked_kept true s = record { ssrc_is = refl; format = refl; some = λ one. one }
asked_kept false s = record { ssrc_is = refl; format = refl; some = λ one. one }

asked_has : (x : Option StreamState) (a b place : ℕ) (ss : List StreamState) → slice_get ss place ≡ x → HasWaiting a b ss → HasWaiting a b (asked_with x place ss)
asked_has None a b place ss there has = has
asked_has (Some s) a b place ss there has =
    has_kept a b ss (slice_set ss place (asked_for s)) (set_kept ss place s (asked_for s) there (asked_kept (is_ending s.stage) s)) has

keyframe_has : (o : Option ℕ) (a b : ℕ) (p : Port) → HasWaiting a b p.streams → HasWaiting a b (asked_among o p).streams
keyframe_has None a b p has = has
keyframe_has (Some place) a b p has = asked_has (slice_get p.streams place) a b place p.streams refl has

stays : (step : SessionStep) (answer : StepAnswer) (a b probation : ℕ) (s t : Session) → s.settings.probation ≡ probation → HasRoom s → is_end_of a b answer ≡ false → Does step s answer t → HasWaiting a b s.port.streams
    → HasWaiting a b t.port.streams
stays (calls.Receive now micros datagram) answer a b probation s t is room none got has = (accepts a b probation now micros datagram s got.0 t is room got.2).keep has
stays (calls.Poll now) answer a b probation s t is room none got has =
    polls s.telephone.waiting a b now s got.0 t (ap (λ (r : StepAnswer). is_end_of a b r) (sym got.1) ∙ none) got.2 has
stays (calls.End now ssrc) answer a b probation s t is room none got has =
    subst (λ (z : Session). HasWaiting a b z.port.streams) (sym got.1) (has_kept a b s.port.streams _ (all_left_kept (λ own. ssrc == own) endings.ByCall now.0 s.port.streams) has)
stays (calls.Finish now) answer a b probation s t is room none got has =
    subst (λ (z : Session). HasWaiting a b z.port.streams) (sym got.1) (has_kept a b s.port.streams _ (all_left_kept everyone endings.ByCall now.0 s.port.streams) has)
stays (calls.SetWaitLimits ssrc payload_type limits) answer a b probation s t is room none got has =
    subst (λ (z : Session). HasWaiting a b z.port.streams) (sym got.1)
    (has_kept a b s.port.streams _ (all_maps (waiting_if ssrc payload_type limits) s.port.streams (λ x. same_kept x (waiting_if ssrc payload_type limits x) (waited_same (is_of ssrc payload_type x) limits x))) has)
stays (calls.Report now ssrc payload_type) answer a b probation s t is room none got has =
    subst (λ (z : Session). HasWaiting a b z.port.streams) (sym got.2.left) (reports_has (position (is_of ssrc payload_type) s.port.streams) a b s.settings.tick_rate now.0 s.port got.0 got.2.port got.2.reports has)
stays (calls.AddPair ssrc retransmission) answer a b probation s t is room none got has = added_has a b ssrc retransmission s got.0 t got.2 has
stays calls.RestartTransport answer a b probation s t is room none got has = subst (λ (z : Session). HasWaiting a b z.port.streams) (sym got.1) has
stays (calls.RequestKeyframe ssrc) answer a b probation s t is room none got has =
    subst (λ (z : Session). HasWaiting a b z.port.streams) (sym got.1) (keyframe_has (position (has_ssrc ssrc) s.port.streams) a b s.port has)
stays (calls.RemovePair ssrc) answer a b probation s t is room none got has = pairs_has a b ssrc _ s t got.1 has

-- the call gave the stream a datagram that it accepted
accepting : (step : SessionStep) (answer : StepAnswer) (a b probation : ℕ) (s t : Session) → s.settings.probation ≡ probation → HasRoom s → is_accepted_by a b answer ≡ true → Does step s answer t
    → HasWaiting a b t.port.streams × (probation ≤ 2 → AreApart s.port.streams → HasWaiting a b s.port.streams → HasBegun a b t.port.streams)
accepting (calls.Receive now micros datagram) answer a b probation s t is room accepted got =
    let g : Given a b probation s.port got.0 t.port = accepts a b probation now micros datagram s got.0 t is room got.2 in
    let own : accepted_as a b got.0 ≡ true = ap (λ (r : StepAnswer). is_accepted_by a b r) (sym got.1) ∙ accepted in
    (g.first own, λ small apart has. g.second own small apart has)
accepting (calls.Poll now) answer a b probation s t is room accepted got = let no : false ≡ true = ap (λ (r : StepAnswer). is_accepted_by a b r) (sym got.1) ∙ accepted in absurd (cc)
accepting (calls.End now ssrc) answer a b probation s t is room accepted got = let no : false ≡ true = ap (λ (r : StepAnswer). is_accepted_by a b r) (sym got.0) ∙ accepted in absurd (cc)
accepting (calls.Finish now) answer a b probation s t is room accepted got = let no : false ≡ true = ap (λ (r : StepAnswer). is_accepted_by a b r) (sym got.0) ∙ accepted in absurd (cc)
accepting (calls.SetWaitLimits ssrc payload_type limits) answer a b probation s t is room accepted got = let no : false ≡ true = ap (λ (r : StepAnswer). is_accepted_by a b r) (sym got.0) ∙ accepted in absurd (cc)
accepting (calls.Report now ssrc payload_type) answer a b probation s t is room accepted got = let no : false ≡ true = ap (λ (r : StepAnswer). is_accepted_by a b r) (sym got.1) ∙ accepted in absurd (cc)
accepting (calls.AddPair ssrc retransmission) answer a b probation s t is room accepted got = let no : false ≡ true = ap (λ (r : StepAnswer). is_accepted_by a b r) (sym got.1) ∙ accepted in absurd (cc)
accepting calls.RestartTransport answer a b probation s t is room accepted got = let no : false ≡ true = ap (λ (r : StepAnswer). is_accepted_by a b r) (sym got.0) ∙ accepted in absurd (cc)
accepting (calls.RequestKeyframe ssrc) answer a b probation s t is room accepted got = let no : false ≡ true = ap (λ (r : StepAnswer). is_accepted_by a b r) (sym got.0) ∙ accepted in absurd (cc)
accepting (calls.RemovePair ssrc) answer a b probation s t is room accepted got = let no : false ≡ true = ap (λ (r : StepAnswer). is_accepted_by a b r) (sym got.0) ∙ accepted in absurd (cc)

-- ---- whole runs

same_probation : (settings : SessionSettings) (cs : List Call) (s : Session) → Reached settings cs s → s.settings.probation ≡ settings.probation
same_probation settings cs s got = ap (λ (x : SessionSettings). x.probation) got.others

waits_later : (settings : SessionSettings) (later cs : List Call) (a b : ℕ) (s t : Session) → Reached settings cs s → RunsWithRoom later s t → NoEnd a b later → HasWaiting a b s.port.streams
    → HasWaiting a b t.port.streams × ((ds : List Call) × Reached settings ds t)
waits_later settings [] cs a b s t got run none has = (
  subst (λ (z : Session). HasWaiting a b z.port.streams) (sym run) has,
  (cs, subst (λ (z : Session). Reached settings cs z) (sym run) got),
)
waits_later settings (c ∷ later) cs a b s t got run none has =
    waits_later settings later (cs ++ c ∷ []) a b run.1.0 t (reached_more settings cs c s run.1.0 got run.1.1) run.1.2 none.1
    (stays c.step c.answer a b settings.probation s run.1.0 (same_probation settings cs s got) run.0 none.0 run.1.1 has)

pub two_datagrams_begin : TwoDatagramsBegin
two_datagrams_begin settings before between first second ssrc payload_type s t u v small run room one accepted later none roomy two again =
    let start : Reached settings before s = reached settings before s run in
    let has : HasWaiting ssrc payload_type t.port.streams = (accepting first.step first.answer ssrc payload_type settings.probation s t (same_probation settings before s start) room accepted one).0 in
    let mid = waits_later settings between (before ++ first ∷ []) ssrc payload_type t u (reached_more settings before first s t start one) later none has in
    (accepting second.step second.answer ssrc payload_type settings.probation u v (same_probation settings mid.1.0 u mid.1.1) roomy again two).1 small mid.1.1.apart mid.0
