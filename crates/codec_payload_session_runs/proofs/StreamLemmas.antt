-- One call of a session, and one stream.
use Rattle.std.proofs.Common.{◌≡◌, ◌≤◌, ◌∙◌, ◌⊎◌, refl, sym, ap, ap₂, subst, subst₂, ℕ, ◌+◌, nat_le, ◌==◌, ◌&&◌, not, if◌then◌else◌, Bool, true, false, List, [], ◌∷◌, ◌++◌, Option, Some, None, Result, Ok, Err, arith, is_ok}
use Rattle.std.specs.Global.{Vec}
use Rattle.std.specs.declared.alloc.AllocError.{AllocError}
use Rattle.std.proofs.lemmas.Bool.Decides.{nat_tests}
use Rattle.codec_payload_base.specs.declared.wire.Ticks.{Ticks}
use Rattle.codec_payload_feedback_wait.specs.Waits.{Wait}
use Rattle.codec_payload_feedback_wait.specs.declared.adaptive_wait.AdaptiveWaitSettings.{AdaptiveWaitSettings}
use Rattle.codec_payload_jitter.specs.Missing.{missing_numbers}
use Rattle.codec_payload_jitter.specs.declared.outcome.Outcome.{Outcome}
use Rattle.codec_payload_receiver.specs.Sessions.{Session as Receiver}
use Rattle.codec_payload_receiver.specs.declared.receiver.ReceiveError.{ReceiveError}
use Rattle.codec_payload_rtp.specs.RtpReading.{rtp_at}
use Rattle.codec_payload_session_stream.specs.Arrivals.{Arrives, arrival_of}
use Rattle.codec_payload_session_formats.specs.Formats.{retransmission_for}
use Rattle.codec_payload_session_requests.specs.Late.{limit_by, number_at as late_number}
use Rattle.codec_payload_session_stream.specs.Pairs.{paired, paired_when}
use Rattle.codec_payload_session_formats.specs.Names.{names_after}
use Rattle.codec_payload_session_requests.specs.Requests.{Asking, heard_by, number_at, wait_by}
use Rattle.codec_payload_session_stream.specs.Trips.{with_round_trip}
use Rattle.codec_payload_session_requests.specs.declared.requests.WaitRange.{WaitRange}
use Rattle.codec_payload_session_stream.specs.Streams.{Takes, accepted_after, heard_unless, is_accepted, is_no_memory, is_probation, late_followed, late_noted, left_when, payload_size, received, stage_after, stage_left, waiting_for, Edges, edge_rules_of, with_edges, probed}
use Rattle.codec_payload_session_formats.specs.declared.formats.Format.{Format}
use Rattle.codec_payload_session_formats.specs.declared.formats.SsrcPair.{SsrcPair}
use Rattle.codec_payload_session_stream.specs.declared.arrival.Arrival.{Arrival}
use Rattle.codec_payload_session_stream.specs.Units.{Event}
use Rattle.codec_payload_session_stream.specs.declared.stream.Ending.{Ending}
use Rattle.codec_payload_session_stream.specs.declared.stream.Stage.{Stage}
use Rattle.codec_payload_session_stream.specs.declared.stream.Stage.TheVariants as stages
use Rattle.codec_payload_session_stream.specs.declared.stream.StreamState.{StreamState}
use Rattle.codec_payload_session_runs.proofs.AloneLemmas.{runs_append}
use Rattle.codec_payload_session_runs.proofs.WaitRangeLemmas.{IsInRangeIf, age_in, heard_range, late_range, trip_in, trip_range_told}
use Rattle.codec_payload_session_runs.specs.Lives.{AreMadeBy, AreOfOne, FollowedWaits, HasNoPair, IsGiven, IsInRange, IsPairOf, IsPart, NamesSsrc, ReceiverCall, RunsAlone, age_range, events_in, finishes, follows, given_by, is_same, many_finishes, many_pops, many_reports, one_call, pairs, pops, receives, reports, shown, shown_in, trip_range, waits, waits_of, with_shown, EdgesCall, EdgesRun, FollowEach, notes, to_follow, answered_unless}
use Rattle.codec_payload_session_runs.specs.SessionRuns.{Call}
use Rattle.codec_payload_session_requests.specs.Named.{FollowsEdges, rules_for}
use Rattle.codec_payload_stream_edges.specs.Brought.{can_say}
use Rattle.codec_payload_stream_edges.specs.Following.{FollowsIf, has_come, is_stored}
use Rattle.codec_payload_stream_edges.specs.declared.followed.Followed.{Followed as KnownEdges}
use Rattle.codec_payload_stream_edges.specs.declared.rules.EdgeRules.{EdgeRules}
use Rattle.codec_payload_session_runs.specs.declared.run.SessionStep.TheVariants as calls
use Rattle.codec_payload_session_runs.specs.declared.run.StepAnswer.TheVariants as answers

-- an announced stream is not in probation
abbrev pub IsKnown : StreamState → Type 0
IsKnown s = s.announced ≡ true → is_probation s.stage ≡ false

-- the ranges in which the waits of a stream follow
abbrev pub own_waits : StreamState → FollowedWaits
own_waits s = waits_of s.feedback s.late

-- a round trip that reports say changes no range
pub trip_ranges : (round_trip : Option ℕ) (s : StreamState) → own_waits (with_round_trip round_trip s) ≡ own_waits s
trip_ranges round_trip s = ap (λ (range : Option WaitRange). record { by_trip = range; by_age = age_range s.late }) (trip_range_told round_trip s.feedback)

-- how often the receiver of a stream in this stage was finished: never, or once if the stream is drained
abbrev pub FinishedBy : Stage → ℕ → Type 0
FinishedBy stages.Probation n = n ≡ 0
FinishedBy stages.Playing n = n ≡ 0
FinishedBy (stages.Leaving why at) n = n ≡ 0
FinishedBy (stages.Draining why) n = n ≤ 1

-- with this part it still holds
abbrev pub Finishes : Stage → Stage → List ReceiverCall → Type 0
Finishes before after part = (n : ℕ) → FinishedBy before n → FinishedBy after (n + many_finishes part)

finished_more : (stage : Stage) (n m : ℕ) → m ≡ 0 → FinishedBy stage n → FinishedBy stage (n + m)
finished_more stages.Probation n m none got = omega (arith, none, got)
finished_more stages.Playing n m none got = omega (arith, none, got)
finished_more (stages.Leaving why at) n m none got = omega (arith, none, got)
finished_more (stages.Draining why) n m none got = omega (arith, none, got)

-- a part without an end, and the same stage
pub none_finished : (before after : Stage) (part : List ReceiverCall) → after ≡ before → many_finishes part ≡ 0 → Finishes before after part
none_finished before after part same none = λ n got. subst (λ (stage : Stage). FinishedBy stage (n + many_finishes part)) (sym same) (finished_more before n (many_finishes part) none got)

-- the same stream before and after a call, and what the call made of its receiver
pub record HasPart (c : Call) (x y : StreamState) : Type 0 where
  pub ssrc_is : y.ssrc ≡ x.ssrc
  pub format : y.format ≡ x.format
  pub ranges : own_waits y ≡ own_waits x
  pub part : List ReceiverCall
  pub alone : RunsAlone part x.receiver y.receiver
  pub is_part : IsPart x.ssrc x.format (own_waits x) c part
  pub finishes_it : Finishes x.stage y.stage part
  pub descriptor : y.edges.descriptor ≡ x.edges.descriptor
  pub edged : EdgesRun (edge_rules_of x) x.edges.followed part y.edges.followed

-- the edges of a stream that stay as they are
pub edges_stay : (k : EdgeRules) (part : List ReceiverCall) (f : Option KnownEdges) (a b : Edges) → b ≡ a → EdgesRun k f part a.followed → EdgesRun k f part b.followed
edges_stay k part f a b same run = subst (λ (e : Edges). EdgesRun k f part e.followed) (sym same) run

-- and the stream stays
pub record Goes (c : Call) (x y : StreamState) : Type 0 where
  pub has : HasPart c x y
  pub tells : AreOfOne x.announced (events_in x.ssrc x.format.payload_type c.answer) y.announced
  pub known : IsKnown x → IsKnown y

-- ---- streams that a call does not ask

pub silent_goes : (c : Call) (x : StreamState) → shown_in x.ssrc x.format.payload_type c ≡ [] → events_in x.ssrc x.format.payload_type c.answer ≡ [] → Goes c x x
silent_goes c x shows tells = record {
  has = record { ssrc_is = refl; format = refl; ranges = refl; part = []; alone = refl; is_part = record { made = tt; one_pop = omega arith; one_end = omega arith; one_report = omega arith; pair_first = tt; follow_each = refl; shows = sym shows }; finishes_it = none_finished x.stage x.stage [] refl refl; descriptor = refl; edged = refl };
  tells = subst (λ (es : List Event). AreOfOne x.announced es x.announced) (sym tells) refl;
  known = λ known. known;
}

-- the receiver and the announcement stay, and the stream does not go back to probation
pub record Keeps (x y : StreamState) : Type 0 where
  pub ssrc_is : y.ssrc ≡ x.ssrc
  pub format : y.format ≡ x.format
  pub announced : y.announced ≡ x.announced
  pub receiver : y.receiver ≡ x.receiver
  pub edges : y.edges ≡ x.edges
  pub ranges : own_waits y ≡ own_waits x
  pub stage : is_probation x.stage ≡ false → is_probation y.stage ≡ false
  pub finished : (n : ℕ) → FinishedBy x.stage n → FinishedBy y.stage n

pub keeps_after : (c : Call) (x y z : StreamState) → Goes c x y → Keeps y z → Goes c x z
keeps_after c x y z goes keeps = record {
  has = record {
    ssrc_is = keeps.ssrc_is ∙ goes.has.ssrc_is;
    format = keeps.format ∙ goes.has.format;
    ranges = keeps.ranges ∙ goes.has.ranges;
    part = goes.has.part;
    alone = subst (λ (r : Receiver). RunsAlone goes.has.part x.receiver r) (sym keeps.receiver) goes.has.alone;
    is_part = goes.has.is_part;
    finishes_it = λ n got. keeps.finished (n + many_finishes goes.has.part) (goes.has.finishes_it n got);
    descriptor = ap (λ (e : Edges). e.descriptor) keeps.edges ∙ goes.has.descriptor;
    edged = edges_stay (edge_rules_of x) goes.has.part x.edges.followed y.edges z.edges keeps.edges goes.has.edged;
  };
  tells = subst (λ (b : Bool). AreOfOne x.announced (events_in x.ssrc x.format.payload_type c.answer) b) (sym keeps.announced) goes.tells;
  known = λ known announced. keeps.stage (goes.known known (sym keeps.announced ∙ announced));
}

stage_left_is : (why : Ending) (at : ℕ) (stage : Stage) → is_probation (stage_left why at stage) ≡ false
stage_left_is why at stages.Probation = refl
stage_left_is why at stages.Playing = refl
stage_left_is why at (stages.Leaving first before) = refl
stage_left_is why at (stages.Draining first) = refl

left_finished : (why : Ending) (at : ℕ) (stage : Stage) (n : ℕ) → FinishedBy stage n → FinishedBy (stage_left why at stage) n
left_finished why at stages.Probation n got = got
left_finished why at stages.Playing n got = got
left_finished why at (stages.Leaving first before) n got = got
left_finished why at (stages.Draining first) n got = got

pub keeps_left : (b : Bool) (why : Ending) (at : ℕ) (s : StreamState) → Keeps s (left_when b why at s)
keeps_left true why at s = record { ssrc_is = refl; format = refl; announced = refl; receiver = refl; edges = refl; ranges = refl; stage = λ is. stage_left_is why at s.stage; finished = left_finished why at s.stage }
keeps_left false why at s = record { ssrc_is = refl; format = refl; announced = refl; receiver = refl; edges = refl; ranges = refl; stage = λ is. is; finished = λ n got. got }

-- ---- a datagram

pub same_is : (ssrc payload_type : ℕ) → is_same ssrc payload_type ssrc payload_type ≡ true
same_is ssrc payload_type =
    let a : (ssrc == ssrc) ≡ true = grind (arith, nat_tests) in
    let b : (payload_type == payload_type) ≡ true = grind (arith, nat_tests) in
    ap (λ (x : Bool). x && (payload_type == payload_type)) a ∙ b

-- after a datagram that the stream was given, its waits may follow the round trip, or how late missing packets arrive
abbrev AllFollow : (given : Bool) → FollowedWaits → List ReceiverCall → Type 0
AllFollow given w [] = Unit {0}
AllFollow given w (receives now bytes answer ∷ cs) = ⊥
AllFollow given w (pops now answer ∷ cs) = ⊥
AllFollow given w (finishes ∷ cs) = ⊥
AllFollow given w (waits limits ∷ cs) = ⊥
AllFollow given w (follows wait ∷ cs) = (given ≡ true) × IsInRange w wait × AllFollow given w cs
AllFollow given w (pairs retransmission ∷ cs) = ⊥
AllFollow given w (reports ∷ cs) = ⊥
AllFollow given w (notes e ∷ cs) = ⊥

-- what such calls are not
record IsFollowing (more : List ReceiverCall) : Type 0 where
  no_pop : many_pops more ≡ 0
  no_end : many_finishes more ≡ 0
  no_report : many_reports more ≡ 0
  no_pair : HasNoPair more
  hidden : shown more ≡ []

following : (given : Bool) (w : FollowedWaits) (more : List ReceiverCall) → AllFollow given w more → IsFollowing more
following given w [] all = record { no_pop = refl; no_end = refl; no_report = refl; no_pair = tt; hidden = refl }
following given w (receives now bytes answer ∷ cs) all = absurd all
following given w (pops now answer ∷ cs) all = absurd all
following given w (finishes ∷ cs) all = absurd all
following given w (waits limits ∷ cs) all = absurd all
following given w (follows wait ∷ cs) all =
    let rest = following given w cs all.2 in
    record { no_pop = rest.no_pop; no_end = rest.no_end; no_report = rest.no_report; no_pair = (refl, rest.no_pair); hidden = rest.hidden }
following given w (pairs retransmission ∷ cs) all = absurd all
following given w (reports ∷ cs) all = absurd all
following given w (notes e ∷ cs) all = absurd all

one_follows : (given : Bool) (w : FollowedWaits) (more : List ReceiverCall) (wait : ℕ) → given ≡ true → IsInRange w wait → AllFollow given w more → AllFollow given w (more ++ follows wait ∷ [])
one_follows given w [] wait is within all = (is, within, tt)
one_follows given w (receives now bytes answer ∷ cs) wait is within all = absurd all
one_follows given w (pops now answer ∷ cs) wait is within all = absurd all
one_follows given w (finishes ∷ cs) wait is within all = absurd all
one_follows given w (waits limits ∷ cs) wait is within all = absurd all
one_follows given w (follows other ∷ cs) wait is within all = (all.0, all.1, one_follows given w cs wait is within all.2)
one_follows given w (pairs retransmission ∷ cs) wait is within all = absurd all
one_follows given w (reports ∷ cs) wait is within all = absurd all
one_follows given w (notes e ∷ cs) wait is within all = absurd all

-- such calls leave the edges as they are
waits_each : (given : Bool) (w : FollowedWaits) (more : List ReceiverCall) → AllFollow given w more → FollowEach None more
waits_each given w [] all = refl
waits_each given w (receives now bytes answer ∷ cs) all = absurd all
waits_each given w (pops now answer ∷ cs) all = absurd all
waits_each given w (finishes ∷ cs) all = absurd all
waits_each given w (waits limits ∷ cs) all = absurd all
waits_each given w (follows wait ∷ cs) all = (refl, waits_each given w cs all.2)
waits_each given w (pairs retransmission ∷ cs) all = absurd all
waits_each given w (reports ∷ cs) all = absurd all
waits_each given w (notes e ∷ cs) all = absurd all

waits_edges : (given : Bool) (w : FollowedWaits) (k : EdgeRules) (f : Option KnownEdges) (more : List ReceiverCall) → AllFollow given w more → EdgesRun k f more f
waits_edges given w k f [] all = refl
waits_edges given w k f (receives now bytes answer ∷ cs) all = absurd all
waits_edges given w k f (pops now answer ∷ cs) all = absurd all
waits_edges given w k f (finishes ∷ cs) all = absurd all
waits_edges given w k f (waits limits ∷ cs) all = absurd all
waits_edges given w k f (follows wait ∷ cs) all = (tt, waits_edges given w k f cs all.2)
waits_edges given w k f (pairs retransmission ∷ cs) all = absurd all
waits_edges given w k f (reports ∷ cs) all = absurd all
waits_edges given w k f (notes e ∷ cs) all = absurd all

-- ---- what a datagram makes of a stream, after its receiver received it
record Heard (given : Bool) (ssrc : ℕ) (f : Format) (w : FollowedWaits) (announced : Bool) (stage : Stage) (r : Receiver) (y : StreamState) : Type 0 where
  ssrc_is : y.ssrc ≡ ssrc
  format : y.format ≡ f
  trip_is : trip_range y.feedback ≡ w.by_trip
  age_is : age_range y.late ≡ w.by_age
  announced_is : y.announced ≡ announced
  stage_is : is_probation stage ≡ false → is_probation y.stage ≡ false
  finished : (n : ℕ) → FinishedBy stage n → FinishedBy y.stage n
  more : List ReceiverCall
  run : RunsAlone more r y.receiver
  all : AllFollow given w more

waiting_heard : (given : Bool) (w : FollowedWaits) (o : Option ℕ) (s : StreamState) → given ≡ true → trip_range s.feedback ≡ w.by_trip → age_range s.late ≡ w.by_age → IsInRangeIf w o
    → Heard given s.ssrc s.format w s.announced s.stage s.receiver (waiting_for o s)
waiting_heard given w None s is trip age within =
    record { ssrc_is = refl; format = refl; trip_is = trip; age_is = age; announced_is = refl; stage_is = λ is. is; finished = λ n got. got; more = []; run = refl; all = tt }
waiting_heard given w (Some wait) s is trip age within = record {
  ssrc_is = refl;
  format = refl;
  trip_is = trip;
  age_is = age;
  announced_is = refl;
  stage_is = λ is. is;
  finished = λ n got. got;
  more = follows wait ∷ [];
  run = ((waiting_for (Some wait) s).receiver, refl, refl);
  all = (is, within, tt);
}

received_heard : (given accepted : Bool) (now : Ticks) (datagram : Vec ℕ) (r : Receiver) (s : StreamState) → (accepted ≡ true → given ≡ true)
    → Heard given s.ssrc s.format (own_waits s) s.announced s.stage r (received now.0 datagram.items accepted r s)
received_heard given true now datagram r s is =
    let own : Option Asking = heard_by now.0 (number_at s.format datagram.items) s.feedback in
    let trip : trip_range own ≡ trip_range s.feedback = heard_range now.0 (number_at s.format datagram.items) s.feedback in
    waiting_heard given (own_waits s) (wait_by own) (record s { receiver = r; feedback = own; names = names_after s.name_ids datagram.items s.names }) (is refl) trip refl
    (trip_in (own_waits s) own (wait_by own) refl trip)
received_heard given false now datagram r s is =
    record { ssrc_is = refl; format = refl; trip_is = refl; age_is = refl; announced_is = refl; stage_is = λ is. is; finished = λ n got. got; more = []; run = refl; all = tt }

-- the wait may follow how late missing packets arrive
limit_heard : (given : Bool) (o : Option ℕ) (late : Option Wait) (ssrc : ℕ) (f : Format) (w : FollowedWaits) (announced : Bool) (stage : Stage) (r : Receiver) (y : StreamState) → given ≡ true
    → age_range late ≡ w.by_age → IsInRangeIf w o → Heard given ssrc f w announced stage r y → Heard given ssrc f w announced stage r (waiting_for o (record y { late = late }))
limit_heard given None late ssrc f w announced stage r y is age within got = record {
  ssrc_is = got.ssrc_is;
  format = got.format;
  trip_is = got.trip_is;
  age_is = age;
  announced_is = got.announced_is;
  stage_is = got.stage_is;
  finished = got.finished;
  more = got.more;
  run = got.run;
  all = got.all;
}
limit_heard given (Some wait) late ssrc f w announced stage r y is age within got = record {
  ssrc_is = got.ssrc_is;
  format = got.format;
  trip_is = got.trip_is;
  age_is = age;
  announced_is = got.announced_is;
  stage_is = got.stage_is;
  finished = got.finished;
  more = got.more ++ follows wait ∷ [];
  run = runs_append got.more (follows wait ∷ []) r y.receiver (waiting_for (Some wait) y).receiver got.run ((waiting_for (Some wait) y).receiver, refl, refl);
  all = one_follows given w got.more wait is within got.all;
}

late_heard : (b given : Bool) (now : Ticks) (datagram : Vec ℕ) (ssrc : ℕ) (f : Format) (w : FollowedWaits) (announced : Bool) (stage : Stage) (r : Receiver) (y : StreamState) → (b ≡ true → given ≡ true)
    → Heard given ssrc f w announced stage r y → Heard given ssrc f w announced stage r (late_followed b now.0 datagram.items y)
late_heard true given now datagram ssrc f w announced stage r y is got =
    let late : Option Wait = (late_noted now.0 datagram.items y).late in
    let age : age_range late ≡ w.by_age = late_range now.0 (late_number y.format datagram.items) (missing_numbers y.receiver.packets 64) y.late ∙ got.age_is in
    limit_heard given (limit_by late) late ssrc f w announced stage r y (is refl) age (age_in w late (limit_by late) refl age) got
late_heard false given now datagram ssrc f w announced stage r y is got = got

stage_after_is : (probation accepted : ℕ) (stage : Stage) → is_probation stage ≡ false → is_probation (stage_after probation accepted stage) ≡ false
stage_after_is probation accepted stages.Probation is = absurd (cc)
stage_after_is probation accepted stages.Playing is = refl
stage_after_is probation accepted (stages.Leaving why at) is = refl
stage_after_is probation accepted (stages.Draining why) is = refl

playing_finished : (b : Bool) (n : ℕ) → n ≡ 0 → FinishedBy (if b then stages.Playing else stages.Probation) n
playing_finished true n got = got
playing_finished false n got = got

after_finished : (probation accepted : ℕ) (stage : Stage) (n : ℕ) → FinishedBy stage n → FinishedBy (stage_after probation accepted stage) n
after_finished probation accepted stages.Probation n got = playing_finished (nat_le probation accepted) n got
after_finished probation accepted stages.Playing n got = got
after_finished probation accepted (stages.Leaving why at) n got = got
after_finished probation accepted (stages.Draining why) n got = got

unless_heard : (b given : Bool) (now : Ticks) (probation : ℕ) (accepted : Bool) (size ssrc : ℕ) (f : Format) (w : FollowedWaits) (announced : Bool) (stage : Stage) (r : Receiver) (s : StreamState)
    → Heard given ssrc f w announced stage r s → Heard given ssrc f w announced stage r (heard_unless b now.0 probation accepted size s)
unless_heard true given now probation accepted size ssrc f w announced stage r s got = got
unless_heard false given now probation accepted size ssrc f w announced stage r s got = record {
  ssrc_is = got.ssrc_is;
  format = got.format;
  trip_is = got.trip_is;
  age_is = got.age_is;
  announced_is = got.announced_is;
  stage_is = λ is. stage_after_is probation (accepted_after accepted s.accepted) s.stage (got.stage_is is);
  finished = λ n was. after_finished probation (accepted_after accepted s.accepted) s.stage n (got.finished n was);
  more = got.more;
  run = got.run;
  all = got.all;
}

accepted_given : (told : Result Outcome ReceiveError) → is_accepted told ≡ true → is_ok told ≡ true
accepted_given (Ok outcome) is = refl
accepted_given (Err e) is = absurd (cc)

takes_heard : (now : Ticks) (datagram : Vec ℕ) (probation : ℕ) (x : StreamState) (told : Result Outcome ReceiveError) (y : StreamState) → (got : Takes now probation datagram.items x told y)
    → Heard (is_ok told) x.ssrc x.format (own_waits x) x.announced x.stage got.0 y
takes_heard now datagram probation x told y got =
    let edged : StreamState = with_edges got.0 got.1 (probed datagram.items told x) in
    let r : StreamState = received now.0 datagram.items (is_accepted told) got.0 edged in
    subst (λ (z : StreamState). Heard (is_ok told) x.ssrc x.format (own_waits x) x.announced x.stage got.0 z) (sym got.3)
    (unless_heard (is_no_memory told) (is_ok told) now probation (is_accepted told) (payload_size (rtp_at datagram.items)) x.ssrc x.format (own_waits x) x.announced x.stage got.0
    (late_followed (is_ok told) now.0 datagram.items r)
    (late_heard (is_ok told) (is_ok told) now datagram x.ssrc x.format (own_waits x) x.announced x.stage got.0 r (λ is. is)
    (received_heard (is_ok told) (is_accepted told) now datagram got.0 edged (accepted_given told))))

-- ---- the edges after a datagram

waiting_edges : (o : Option ℕ) (s : StreamState) → (waiting_for o s).edges ≡ s.edges
waiting_edges None s = refl
waiting_edges (Some wait) s = refl

received_edges : (now : ℕ) (bytes : List ℕ) (b : Bool) (r : Receiver) (s : StreamState) → (received now bytes b r s).edges ≡ s.edges
received_edges now bytes true r s = waiting_edges _ _
received_edges now bytes false r s = refl

late_edges : (b : Bool) (now : ℕ) (bytes : List ℕ) (s : StreamState) → (late_followed b now bytes s).edges ≡ s.edges
late_edges true now bytes s = waiting_edges (limit_by (late_noted now bytes s).late) (late_noted now bytes s)
late_edges false now bytes s = refl

unless_edges : (b : Bool) (now probation : ℕ) (accepted : Bool) (size : ℕ) (s : StreamState) → (heard_unless b now probation accepted size s).edges ≡ s.edges
unless_edges true now probation accepted size s = refl
unless_edges false now probation accepted size s = refl

takes_edges : (now : Ticks) (probation : ℕ) (bytes : List ℕ) (s : StreamState) (answer : Result Outcome ReceiveError) (t : StreamState) → (got : Takes now probation bytes s answer t)
    → t.edges ≡ record s.edges { followed = got.1 }
takes_edges now probation bytes s answer t got =
    let edged : StreamState = with_edges got.0 got.1 (probed bytes answer s) in
    let r : StreamState = received now.0 bytes (is_accepted answer) got.0 edged in
    ap (λ (x : StreamState). x.edges) got.3 ∙ unless_edges (is_no_memory answer) now.0 probation (is_accepted answer) (payload_size (rtp_at bytes)) (late_followed (is_ok answer) now.0 bytes r)
    ∙ late_edges (is_ok answer) now.0 bytes r
    ∙ received_edges now.0 bytes (is_accepted answer) got.0 edged

-- without memory for the datagram the edges do not follow it
lost_is : (told : Result Outcome ReceiveError) → is_no_memory told ≡ true → has_come told ≡ false
lost_is (Ok outcome) is = absurd (cc)
lost_is (Err e) is = refl

with_false : (a b : Bool) → b ≡ false → (a && b) ≡ false
with_false true b is = is
with_false false b is = refl

lost_edges : (k : EdgeRules) (bytes : List ℕ) (told : Result Outcome ReceiveError) (f : Option KnownEdges) (mid : Receiver) (g : Option KnownEdges) (r : Receiver) → is_no_memory told ≡ true
    → FollowsEdges k bytes told f mid g r → (g ≡ f) × (r ≡ mid)
lost_edges k bytes told f mid g r lost got =
    let is = subst (λ (b : Bool). FollowsIf b k bytes (is_stored told) f mid got.told g r) (with_false (can_say k) (has_come told) (lost_is told lost)) got.follows in
    (is.1, is.2)

-- the ranges stay
heard_waits : (w : FollowedWaits) (y : StreamState) → trip_range y.feedback ≡ w.by_trip → age_range y.late ≡ w.by_age → own_waits y ≡ w
heard_waits w y trip age = ap₂ (λ (t : Option WaitRange) (a : Option AdaptiveWaitSettings). record { by_trip = t; by_age = a }) trip age

abbrev pub call_of : Ticks → Option ℕ → Vec ℕ → Result Arrival AllocError → Call
call_of now micros datagram answer = record { step = calls.Receive now micros datagram; answer = answers.Received answer }

-- the datagram that an arrival gives to its stream
pub given_arrival : (ssrc payload_type : ℕ) (now : Ticks) (bytes : List ℕ) (s p : ℕ) (told : Result Outcome ReceiveError)
    → given_by ssrc payload_type now bytes (Ok (arrival_of s p told)) ≡ one_call (is_same ssrc payload_type s p) (receives now bytes told)
given_arrival ssrc payload_type now bytes s p (Ok outcome) = refl
given_arrival ssrc payload_type now bytes s p (Err fault) = refl

-- the answer shows the datagram, unless memory ran out for it
pub given_is : (b : Bool) (now : Ticks) (bytes : List ℕ) (ssrc payload_type : ℕ) (told : Result Outcome ReceiveError) (answer : Result Arrival AllocError) → Arrives b (arrival_of ssrc payload_type told) answer
    → with_shown (not b) (receives now bytes told) [] ≡ given_by ssrc payload_type now bytes answer
given_is false now bytes ssrc payload_type told answer is =
    ap (λ (b : Bool). one_call b (receives now bytes told)) (sym (same_is ssrc payload_type)) ∙ sym (given_arrival ssrc payload_type now bytes ssrc payload_type told)
    ∙ ap (λ (a : Result Arrival AllocError). given_by ssrc payload_type now bytes a) (sym is)
given_is true now bytes ssrc payload_type told (Ok arrival) is = absurd (cc)
given_is true now bytes ssrc payload_type told (Err e) is = refl

-- the answer names a stream that was given the datagram
given_memory : (told : Result Outcome ReceiveError) → is_ok told ≡ true → is_no_memory told ≡ false
given_memory (Ok outcome) is = refl
given_memory (Err e) is = absurd (cc)

given_there : (b : Bool) (c : ReceiverCall) (given : List ReceiverCall) → b ≡ false → with_shown (not b) c [] ≡ given → IsGiven given
given_there true c given is same = absurd (cc)
given_there false c given is same = subst IsGiven same tt

more_made : (told_given : Bool) (ssrc : ℕ) (f : Format) (w : FollowedWaits) (now : Ticks) (micros : Option ℕ) (datagram : Vec ℕ) (answer : Result Arrival AllocError) (more : List ReceiverCall)
    → (told_given ≡ true → IsGiven (shown_in ssrc f.payload_type (call_of now micros datagram answer))) → AllFollow told_given w more → AreMadeBy ssrc f w (call_of now micros datagram answer) more
more_made told_given ssrc f w now micros datagram answer [] given all = tt
more_made told_given ssrc f w now micros datagram answer (receives at bytes own ∷ cs) given all = absurd all
more_made told_given ssrc f w now micros datagram answer (pops at own ∷ cs) given all = absurd all
more_made told_given ssrc f w now micros datagram answer (finishes ∷ cs) given all = absurd all
more_made told_given ssrc f w now micros datagram answer (waits limits ∷ cs) given all = absurd all
more_made told_given ssrc f w now micros datagram answer (follows wait ∷ cs) given all =
    ((given all.0, all.1), more_made told_given ssrc f w now micros datagram answer cs given all.2)
more_made told_given ssrc f w now micros datagram answer (pairs retransmission ∷ cs) given all = absurd all
more_made told_given ssrc f w now micros datagram answer (reports ∷ cs) given all = absurd all
more_made told_given ssrc f w now micros datagram answer (notes e ∷ cs) given all = absurd all

heard_made : (now : Ticks) (micros : Option ℕ) (datagram : Vec ℕ) (ssrc : ℕ) (f : Format) (w : FollowedWaits) (told : Result Outcome ReceiveError) (answer : Result Arrival AllocError) (more : List ReceiverCall)
    → AllFollow (is_ok told) w more → Arrives (is_no_memory told) (arrival_of ssrc f.payload_type told) answer → AreMadeBy ssrc f w (call_of now micros datagram answer) more
heard_made now micros datagram ssrc f w told answer more all arrives =
    more_made (is_ok told) ssrc f w now micros datagram answer more
    (λ is. given_there (is_no_memory told) (receives now datagram.items told) (given_by ssrc f.payload_type now datagram.items answer) (given_memory told is)
    (given_is (is_no_memory told) now datagram.items ssrc f.payload_type told answer arrives)) all

-- what comes behind the receipt of a datagram: the edges follow it, and waits may change
record Rest (now : Ticks) (datagram : Vec ℕ) (c : Call) (ssrc : ℕ) (f : Format) (w : FollowedWaits) (told : Result Outcome ReceiveError) (edges : Edges) (mid : Receiver) (y : StreamState) : Type 0 where
  rest : List ReceiverCall
  run : RunsAlone rest mid y.receiver
  made : AreMadeBy ssrc f w c rest
  is : IsFollowing rest
  each : FollowEach (to_follow (receives now datagram.items told)) rest
  edged : EdgesRun (rules_for f edges.descriptor) edges.followed rest y.edges.followed

rest_of : (lost : Bool) (now : Ticks) (micros : Option ℕ) (datagram : Vec ℕ) (probation : ℕ) (x : StreamState) (told : Result Outcome ReceiveError) (y : StreamState) (answer : Result Arrival AllocError)
    → is_no_memory told ≡ lost → (got : Takes now probation datagram.items x told y) → Arrives (is_no_memory told) (arrival_of x.ssrc x.format.payload_type told) answer
    → Rest now datagram (call_of now micros datagram answer) x.ssrc x.format (own_waits x) told x.edges got.2.mid y
rest_of true now micros datagram probation x told y answer lost got arrives =
    let h : Heard (is_ok told) x.ssrc x.format (own_waits x) x.announced x.stage got.0 y = takes_heard now datagram probation x told y got in
    let stays = lost_edges (edge_rules_of x) datagram.items told x.edges.followed got.2.mid got.1 got.0 lost got.2.follows in
    let after : y.edges.followed ≡ x.edges.followed = ap (λ (e : Edges). e.followed) (takes_edges now probation datagram.items x told y got) ∙ stays.0 in
    record {
      rest = h.more;
      run = subst (λ (r : Receiver). RunsAlone h.more r y.receiver) stays.1 h.run;
      made = heard_made now micros datagram x.ssrc x.format (own_waits x) told answer h.more h.all arrives;
      is = following (is_ok told) (own_waits x) h.more h.all;
      each = subst (λ (b : Bool). FollowEach (answered_unless b datagram.items told) h.more) (sym lost) (waits_each (is_ok told) (own_waits x) h.more h.all);
      edged = subst (λ (g : Option KnownEdges). EdgesRun (edge_rules_of x) x.edges.followed h.more g) (sym after)
          (waits_edges (is_ok told) (own_waits x) (edge_rules_of x) x.edges.followed h.more h.all);
    }
rest_of false now micros datagram probation x told y answer found got arrives =
    let h : Heard (is_ok told) x.ssrc x.format (own_waits x) x.announced x.stage got.0 y = takes_heard now datagram probation x told y got in
    let f : IsFollowing h.more = following (is_ok told) (own_waits x) h.more h.all in
    let e : EdgesCall = record { rules = edge_rules_of x; bytes = datagram.items; received = told; before = x.edges.followed; after = got.1 } in
    let after : y.edges.followed ≡ got.1 = ap (λ (e : Edges). e.followed) (takes_edges now probation datagram.items x told y got) in
    let given : with_shown (not (is_no_memory told)) (receives now datagram.items told) [] ≡ given_by x.ssrc x.format.payload_type now datagram.items answer =
    given_is (is_no_memory told) now datagram.items x.ssrc x.format.payload_type told answer arrives in
    record {
      rest = notes e ∷ h.more;
      run = (got.0, got.2.follows, h.run);
      made = (
        sym given ∙ ap (λ (b : Bool). with_shown (not b) (receives now datagram.items told) []) found,
        heard_made now micros datagram x.ssrc x.format (own_waits x) told answer h.more h.all arrives,
      );
      is = record { no_pop = f.no_pop; no_end = f.no_end; no_report = f.no_report; no_pair = (refl, f.no_pair); hidden = f.hidden };
      each = (ap (λ (b : Bool). answered_unless b datagram.items told) found, waits_each (is_ok told) (own_waits x) h.more h.all);
      edged = (
        (refl, refl),
        subst (λ (g : Option KnownEdges). EdgesRun (edge_rules_of x) got.1 h.more g) (sym after)
            (waits_edges (is_ok told) (own_waits x) (edge_rules_of x) got.1 h.more h.all),
      );
    }

pub fed_goes : (now : Ticks) (micros : Option ℕ) (datagram : Vec ℕ) (probation : ℕ) (x : StreamState) (told : Result Outcome ReceiveError) (y : StreamState) (answer : Result Arrival AllocError)
    → Takes now probation datagram.items x told y → Arrives (is_no_memory told) (arrival_of x.ssrc x.format.payload_type told) answer → Goes (call_of now micros datagram answer) x y
fed_goes now micros datagram probation x told y answer got arrives =
    let h : Heard (is_ok told) x.ssrc x.format (own_waits x) x.announced x.stage got.0 y = takes_heard now datagram probation x told y got in
    let r = rest_of (is_no_memory told) now micros datagram probation x told y answer refl got arrives in
    record {
      has = record {
        ssrc_is = h.ssrc_is;
        format = h.format;
        ranges = heard_waits (own_waits x) y h.trip_is h.age_is;
        part = receives now datagram.items told ∷ r.rest;
        alone = (got.2.mid, got.2.receives, r.run);
        is_part = record {
          made = ((refl, refl), r.made);
          one_pop = omega (arith, r.is.no_pop);
          one_end = omega (arith, r.is.no_end);
          one_report = omega (arith, r.is.no_report);
          pair_first = r.is.no_pair;
          follow_each = (refl, r.each);
          shows = ap (λ (cs : List ReceiverCall). with_shown (not (is_no_memory told)) (receives now datagram.items told) cs) r.is.hidden
              ∙ given_is (is_no_memory told) now datagram.items x.ssrc x.format.payload_type told answer arrives;
        };
        finishes_it = λ n was. finished_more y.stage n (many_finishes r.rest) r.is.no_end (h.finished n was);
        descriptor = ap (λ (e : Edges). e.descriptor) (takes_edges now probation datagram.items x told y got);
        edged = (tt, r.edged);
      };
      tells = h.announced_is;
      known = λ known is. h.stage_is (known (sym h.announced_is ∙ is));
    }

-- the same for a stream that first gets the SSRC of its retransmissions
pub paired_fed_goes : (now : Ticks) (micros : Option ℕ) (datagram : Vec ℕ) (probation : ℕ) (named : List SsrcPair) (b : Bool) (x : StreamState) (told : Result Outcome ReceiveError) (y : StreamState) (answer : Result Arrival AllocError)
    → (b ≡ true → NamesSsrc x.ssrc (answers.Received answer) × IsPairOf x.format.retransmission datagram.items (retransmission_for x.ssrc x.format.retransmission named))
    → Takes now probation datagram.items (paired_when b named x) told y
    → Arrives (is_no_memory told) (arrival_of (paired_when b named x).ssrc (paired_when b named x).format.payload_type told) answer → Goes (call_of now micros datagram answer) x y
paired_fed_goes now micros datagram probation named false x told y answer names got arrives = fed_goes now micros datagram probation x told y answer got arrives
paired_fed_goes now micros datagram probation named true x told y answer names got arrives =
    let z : StreamState = paired named x in
    let h : Heard (is_ok told) x.ssrc x.format (own_waits x) x.announced x.stage got.0 y = takes_heard now datagram probation z told y got in
    let r = rest_of (is_no_memory told) now micros datagram probation z told y answer refl got arrives in
    record {
      has = record {
        ssrc_is = h.ssrc_is;
        format = h.format;
        ranges = heard_waits (own_waits x) y h.trip_is h.age_is;
        part = pairs z.receiver.stream.retransmission ∷ receives now datagram.items told ∷ r.rest;
        alone = (z.receiver, refl, (got.2.mid, got.2.receives, r.run));
        is_part = record {
          made = (names refl, ((refl, refl), r.made));
          one_pop = omega (arith, r.is.no_pop);
          one_end = omega (arith, r.is.no_end);
          one_report = omega (arith, r.is.no_report);
          pair_first = (refl, r.is.no_pair);
          follow_each = (refl, (refl, r.each));
          shows = ap (λ (cs : List ReceiverCall). with_shown (not (is_no_memory told)) (receives now datagram.items told) cs) r.is.hidden
              ∙ given_is (is_no_memory told) now datagram.items x.ssrc x.format.payload_type told answer arrives;
        };
        finishes_it = λ n was. finished_more y.stage n (many_finishes r.rest) r.is.no_end (h.finished n was);
        descriptor = ap (λ (e : Edges). e.descriptor) (takes_edges now probation datagram.items z told y got);
        edged = (tt, (tt, r.edged));
      };
      tells = h.announced_is;
      known = λ known is. h.stage_is (known (sym h.announced_is ∙ is));
    }
