-- Keyframes that the caller asks for: when their requests leave.
use Rattle.std.proofs.Common.{◌≡◌, ◌∙◌, refl, ap, sym, subst, ℕ, zero, suc, ◌<◌, ◌==◌, ◌&&◌, ◌||◌, List, [], ◌∷◌, Bool, true, false, Option, Some, None, Result, Ok, length, get_or, slice_get, arith}
use Rattle.std.specs.Prelude.{if◌then◌else◌, is_some, slice_set}
use Rattle.std.specs.Global.{Vec}
use Rattle.std.specs.List.{position, position_or_len}
use Rattle.std.proofs.lemmas.List.Folds.{position_or_len-set}
use Rattle.std.proofs.lemmas.Option.{get_or_from_slice_get, slice_get-get_or}
use Rattle.std.specs.declared.alloc.AllocError.{AllocError}
use Rattle.codec_payload_base.specs.declared.wire.Ticks.{Ticks}
use Rattle.codec_payload_metadata.specs.Release.{Release}
use Rattle.codec_payload_feedback.specs.Feedback.{deadline_of as deadline_of_requests, has_any, keyframe_is_due, numbers_due}
use Rattle.codec_payload_feedback_requests.specs.KeyframeRequests.{deadline_of as keyframe_deadline}
use Rattle.codec_payload_feedback_requests.specs.NackSchedule.{earliest_of}
use Rattle.codec_payload_jitter.specs.Receiving.{deadline_of}
use Rattle.codec_payload_receiver.specs.Sessions.{Session as Receiver}
use Rattle.codec_payload_receiver.specs.declared.pops.Popped.{Popped}
use Rattle.codec_payload_session.specs.Arrivals.{Port, has_ssrc}
use Rattle.codec_payload_session.specs.Idle.{next_of}
use Rattle.codec_payload_session.specs.Keyframes.{KeyframeLeaves, LeavesFrom, answer_among, answer_of, asked_among, asked_with, asks_keyframe, may_ask}
use Rattle.codec_payload_session.specs.Polls.{Polls}
use Rattle.codec_payload_session.specs.Ports.{IsPort, Session}
use Rattle.codec_payload_session_stream.specs.Quiet.{IsBefore}
use Rattle.codec_payload_session.specs.Reporting.{report_deadline}
use Rattle.codec_payload_session_requests.specs.Requests.{Asking, Asks, answer_by, answer_when, asked_by, asked_when, is_heard, refreshed, wants_keyframe}
use Rattle.codec_payload_session_stream.specs.Streams.{Drains, Follows, Pops, RequestsBy, RestsBy, Steps, StepsBy, StreamState, answer_for, answer_unless, asked_for, asked_unless, due_by, due_in, due_of, earlier, end_of, is_ending, is_probation, later as time_after, request_deadline, work_deadline}
use Rattle.codec_payload_session_stream.specs.Telephone.{Queue, due_before}
use Rattle.codec_payload_session_requests.specs.Transports.{transport_deadline}
use Rattle.codec_payload_session_stream.specs.Turns.{AreQuiet}
use Rattle.codec_payload_session_stream.specs.Units.{Event}
use Rattle.codec_payload_session_formats.specs.declared.formats.SessionSettings.{SessionSettings}
use Rattle.codec_payload_session_requests.specs.declared.requests.KeyframeAnswer.TheVariants as answers
use Rattle.codec_payload_session.specs.declared.session.ArrivalCounts.{ArrivalCounts}
use Rattle.codec_payload_session_stream.specs.declared.stream.Ending.{Ending}
use Rattle.codec_payload_session_stream.specs.declared.stream.Stage.{Stage}
use Rattle.codec_payload_session_stream.specs.declared.stream.Stage.TheVariants as stages
use Rattle.codec_payload_session_stream.specs.declared.stream.Step.TheVariants as steps
use Rattle.codec_payload_session.proofs.AccountLemmas.{length_set, taken_set}
use Rattle.codec_payload_session_stream.proofs.DueLemmas.{earlier_both as requests_both}
use Rattle.codec_payload_session.proofs.IdleLemmas.{Polled, not_come, polled_after, some_step}
use Rattle.codec_payload_session_stream.proofs.SkipLemmas.{earlier_both, told_none}

-- ---- requests

-- a stream that was asked for a keyframe, and whose sender answers requests for keyframes
record IsAsked (a : Asking) : Type 0 where
  pli : a.pli ≡ true
  asked : a.asked ≡ true
  wanted : a.requests.keyframes.wanted ≡ true

or_true : (a b : Bool) → b ≡ true → (a || b) ≡ true
or_true true b is = refl
or_true false b is = is

wants : (a : Asking) (r : Receiver) → IsAsked a → wants_keyframe a r ≡ true
wants a r it = ap (λ (b : Bool). b && (r.gates.gate.wants || a.asked)) it.pli ∙ or_true r.gates.gate.wants a.asked it.asked

sends_by : (a : Asking) → IsAsked a → (now : ℕ) (r : Receiver) → keyframe_is_due now (refreshed now true r a).requests ≡ may_ask a now
sends_by a it now r = ap (λ (b : Bool). b && may_ask a now) (wants a r it)

-- ---- a poll without an event

any_with : (ns : List ℕ) (keyframe : Bool) → keyframe ≡ true → has_any ns keyframe ≡ false → ⊥
any_with [] keyframe is none = let no : true ≡ false = sym is ∙ none in absurd (cc)
any_with (n ∷ ns) keyframe is none = absurd (cc)

-- what was asked for is due
asks_some : (a b : Asking) → IsAsked a → (now : ℕ) (r : Receiver) (heard : Bool) → heard ≡ true → may_ask a now ≡ true → Asks now heard r a (Ok None) b → ⊥
asks_some a b it now r heard is may asks =
    let first : Asks now true r a (Ok None) b = subst (λ (h : Bool). Asks now h r a (Ok None) b) is asks in
    any_with (numbers_due now (refreshed now true r a).requests) (keyframe_is_due now (refreshed now true r a).requests) (sends_by a it now r ∙ may) first.packet_is

requests_some : (o : Option Asking) (a : Asking) (now : ℕ) (s t : StreamState) → IsAsked a → o ≡ Some a → is_heard now s.last a ≡ true → may_ask a now ≡ true
    → RequestsBy {U = Release} o now s steps.Nothing t → ⊥
requests_some None a now s t it is heard may got = absurd (cc)
requests_some (Some x) a now s t it is heard may got =
    let same : x ≡ a = cc in
    let asks : Asks now (is_heard now s.last x) s.receiver x (Ok None) got.asking =
    subst (λ (told : Result (Option (Vec ℕ)) AllocError). Asks now (is_heard now s.last x) s.receiver x told got.asking) (told_none got.told got.answers) got.asks in
    let first : Asks now (is_heard now s.last a) s.receiver a (Ok None) got.asking = subst (λ (y : Asking). Asks now (is_heard now s.last y) s.receiver y (Ok None) got.asking) same asks in
    asks_some a got.asking it now s.receiver (is_heard now s.last a) heard may first

rests_some : (g : Stage) (a : Asking) (now : ℕ) (s t : StreamState) → IsAsked a → g ≡ stages.Playing → s.feedback ≡ Some a → is_heard now s.last a ≡ true → may_ask a now ≡ true
    → RestsBy {U = Release} g now s steps.Nothing t → ⊥
rests_some stages.Probation a now s t it plays is heard may got = absurd (cc)
rests_some stages.Playing a now s t it plays is heard may got = requests_some s.feedback a now s t it is heard may got
rests_some (stages.Leaving why at) a now s t it plays is heard may got = absurd (cc)
rests_some (stages.Draining why) a now s t it plays is heard may got = absurd (cc)

drained_some : (g : Stage) (now : ℕ) (s t : StreamState) (why : Ending) → g ≡ stages.Draining why → RestsBy {U = Release} g now s steps.Nothing t → ⊥
drained_some stages.Probation now s t why is got = absurd (cc)
drained_some stages.Playing now s t why is got = absurd (cc)
drained_some (stages.Leaving other at) now s t why is got = absurd (cc)
drained_some (stages.Draining other) now s t why is got = let no : steps.Nothing ≡ steps.Ended other = got.0 in absurd (cc)

plays_some : (told : Option (Result (Popped Release) AllocError)) (a : Asking) (now : ℕ) (s t : StreamState) (r : Receiver) → IsAsked a → s.stage ≡ stages.Playing → s.feedback ≡ Some a
    → is_heard now s.last a ≡ true → may_ask a now ≡ true → Follows told now (record s { receiver = r }) steps.Nothing t → ⊥
plays_some None a now s t r it plays is heard may got = rests_some s.stage a now (record s { receiver = r }) t it plays is heard may got
plays_some (Some told) a now s t r it plays is heard may got = some_step told got.0

ends_some : (told : Option (Result (Popped Release) AllocError)) (now : ℕ) (m t : StreamState) (r : Receiver) (why : Ending) → m.stage ≡ stages.Draining why
    → Follows told now (record m { receiver = r }) steps.Nothing t → ⊥
ends_some None now m t r why is got = drained_some m.stage now (record m { receiver = r }) t why is got
ends_some (Some told) now m t r why is got = some_step told got.0

pops_some : (o : Option Ending) (a : Asking) (now : Ticks) (s m t : StreamState) → IsAsked a → s.stage ≡ stages.Playing → s.feedback ≡ Some a → is_heard now.0 s.last a ≡ true → may_ask a now.0 ≡ true
    → Drains o s m → Pops now m steps.Nothing t → ⊥
pops_some None a now s m t it plays is heard may drains pops =
    let first : Pops now s steps.Nothing t = subst (λ (x : StreamState). Pops now x steps.Nothing t) drains pops in
    plays_some first.told a now.0 s t first.receiver it plays is heard may first.follows
pops_some (Some why) a now s m t it plays is heard may drains pops = ends_some pops.told now.0 m t pops.receiver why (ap (λ (x : StreamState). x.stage) drains.2) pops.follows

steps_some : (announced : Bool) (a : Asking) (now : Ticks) (idle : ℕ) (s t : StreamState) → IsAsked a → s.stage ≡ stages.Playing → s.feedback ≡ Some a → is_heard now.0 s.last a ≡ true
    → may_ask a now.0 ≡ true → StepsBy false announced now idle s steps.Nothing t → ⊥
steps_some false a now idle s t it plays is heard may got = let no : steps.Nothing ≡ steps.Begun = got.0 in absurd (cc)
steps_some true a now idle s t it plays is heard may got = pops_some (end_of now.0 idle s) a now s got.0 t it plays is heard may got.1 got.2

step_some : (a : Asking) (now : Ticks) (idle : ℕ) (s t : StreamState) → IsAsked a → s.stage ≡ stages.Playing → s.feedback ≡ Some a → is_heard now.0 s.last a ≡ true → may_ask a now.0 ≡ true
    → Steps now idle s steps.Nothing t → ⊥
step_some a now idle s t it plays is heard may got =
    steps_some s.announced a now idle s t it plays is heard may (subst (λ (b : Bool). StepsBy b s.announced now idle s steps.Nothing t) (ap is_probation plays) got)

-- the step of the stream at a place, if all streams were quiet
record WasQuiet (now : Ticks) (idle : ℕ) (s : StreamState) : Type 0 where
  after : StreamState
  steps : Steps now idle s steps.Nothing after

quiet_at : (now : Ticks) (idle place : ℕ) (ss ts : List StreamState) (s : StreamState) → AreQuiet now idle ss ts → slice_get ss place ≡ Some s → WasQuiet now idle s
quiet_at now idle place [] ts s are there = absurd (cc)
quiet_at now idle place (x ∷ xs) [] s are there = absurd are
quiet_at now idle zero (x ∷ xs) (y ∷ ys) s are there =
    let same : x ≡ s = cc in
    subst (λ (z : StreamState). WasQuiet now idle z) same (record { after = y; steps = are.0 })
quiet_at now idle (suc place) (x ∷ xs) (y ∷ ys) s are there = quiet_at now idle place xs ys s are.1 there

poll_some : (place : ℕ) (a : Asking) (s : StreamState) (t : Session) → IsAsked a → slice_get t.port.streams place ≡ Some s → s.feedback ≡ Some a → (now : Ticks) (answer : Option Event) (u : Session)
    → s.stage ≡ stages.Playing → is_heard now.0 s.last a ≡ true → may_ask a now.0 ≡ true → Polls now t answer u → is_some answer ≡ true
poll_some place a s t it there is now None u plays heard may polls =
    let polled : Polled now t u = polled_after t.telephone.waiting now t u refl polls in
    let quiet = quiet_at now t.settings.idle_timeout place t.port.streams u.port.streams s polled.quiet there in
    absurd (step_some a now t.settings.idle_timeout s quiet.after it plays is heard may quiet.steps)
poll_some place a s t it there is now (Some event) u plays heard may polls = refl

-- ---- the deadline

waits_before : (q : Queue) (due : Option ℕ) (now : ℕ) → IsBefore (due_before q due) now → IsBefore due now
waits_before q due now before = by_test (length q.waiting == 0) before
  where
    by_test : (b : Bool) → IsBefore (if b then due else Some 0) now → IsBefore due now
    by_test true early = early
    by_test false early = absurd (omega (arith, early))

due_at : (idle place : ℕ) (ss : List StreamState) (s : StreamState) (now : ℕ) → slice_get ss place ≡ Some s → IsBefore (due_in idle ss) now → IsBefore (due_of idle s) now
due_at idle place [] s now there before = absurd (cc)
due_at idle zero (x ∷ xs) s now there before =
    let same : x ≡ s = cc in
    subst (λ (y : StreamState). IsBefore (due_of idle y) now) same (earlier_both (due_of idle x) (due_in idle xs) now before).0
due_at idle (suc place) (x ∷ xs) s now there before = due_at idle place xs s now there (earlier_both (due_of idle x) (due_in idle xs) now before).1

work_before : (announced : Bool) (end work : Option ℕ) (idle last now : ℕ) → IsBefore (due_by idle announced work last stages.Playing) now → IsBefore work now
work_before false end work idle last now before = absurd (omega (arith, before))
work_before true end work idle last now before = (earlier_both (time_after last idle) work now before).1

wanted_before : (a : Asking) (now : ℕ) → IsAsked a → IsBefore (deadline_of_requests a.requests) now → may_ask a now ≡ false
wanted_before a now it before =
    let keyframe : IsBefore (keyframe_deadline a.requests.keyframes) now = (requests_both (earliest_of a.requests.nack.pending) (keyframe_deadline a.requests.keyframes) now before).1 in
    not_come a.requests.keyframes.next now (subst (λ (b : Bool). IsBefore (if b then a.requests.keyframes.next else None) now) it.wanted keyframe)

stream_before : (a : Asking) (idle : ℕ) (s : StreamState) (now : ℕ) → IsAsked a → s.stage ≡ stages.Playing → s.feedback ≡ Some a → IsBefore (due_of idle s) now → may_ask a now ≡ false
stream_before a idle s now it plays is before =
    let by_stage : IsBefore (due_by idle s.announced (work_deadline s) s.last stages.Playing) now = subst (λ (g : Stage). IsBefore (due_by idle s.announced (work_deadline s) s.last g) now) plays before in
    let work : IsBefore (work_deadline s) now = work_before s.announced None (work_deadline s) idle s.last now by_stage in
    let request : IsBefore (request_deadline s.stage s.feedback) now = (earlier_both (deadline_of s.receiver.packets) (request_deadline s.stage s.feedback) now work).1 in
    wanted_before a now it
    (subst (λ (o : Option Asking). IsBefore (request_deadline stages.Playing o) now) is (subst (λ (g : Stage). IsBefore (request_deadline g s.feedback) now) plays request))

poll_before : (place : ℕ) (a : Asking) (s : StreamState) (t : Session) → IsAsked a → slice_get t.port.streams place ≡ Some s → s.feedback ≡ Some a → (now : ℕ) → s.stage ≡ stages.Playing
    → IsBefore (next_of t) now → may_ask a now ≡ false
poll_before place a s t it there is now plays before =
    let streams : Option ℕ = due_in t.settings.idle_timeout t.port.streams in
    let report : Option ℕ = report_deadline t.report_due t.port in
    let all : IsBefore (earlier (earlier streams report) (transport_deadline t.transport)) now = waits_before t.telephone (earlier (earlier streams report) (transport_deadline t.transport)) now before in
    let first : IsBefore (earlier streams report) now = (earlier_both (earlier streams report) (transport_deadline t.transport) now all).0 in
    stream_before a t.settings.idle_timeout s now it plays is (due_at t.settings.idle_timeout place t.port.streams s now there (earlier_both streams report now first).0)

-- ---- the call

leaves_from : (place : ℕ) (a : Asking) (s : StreamState) (t : Session) → IsAsked a → slice_get t.port.streams place ≡ Some s → s.feedback ≡ Some a → LeavesFrom place a s t
leaves_from place a s t it there is = record {
  there = there;
  asking = is;
  is_asked = it.asked;
  sends = sends_by a it;
  some = poll_some place a s t it there is;
  deadline = poll_before place a s t it there is;
}

-- the stream that was asked
record WasAsked (s : StreamState) : Type 0 where
  asking : Asking
  is_asked : IsAsked asking
  feedback : (asked_for s).feedback ≡ Some asking

asked_when_pli : (pli : Bool) (a : Asking) → a.pli ≡ pli → answer_when pli ≡ answers.Requested → IsAsked (asked_when pli a)
asked_when_pli true a is answered = record { pli = is; asked = refl; wanted = refl }
asked_when_pli false a is answered = absurd (cc)

asked_feedback : (o : Option Asking) (s : StreamState) → s.feedback ≡ o → answer_by o ≡ answers.Requested → (asked_unless false s).feedback ≡ (asked_for s).feedback → WasAsked s
asked_feedback None s is answered same = absurd (cc)
asked_feedback (Some a) s is answered same = record {
  asking = asked_when a.pli a;
  is_asked = asked_when_pli a.pli a refl answered;
  feedback = sym same ∙ ap asked_by is;
}

asked_stream : (ending : Bool) (s : StreamState) → is_ending s.stage ≡ ending → answer_unless ending s ≡ answers.Requested → WasAsked s
asked_stream true s is answered = absurd (cc)
asked_stream false s is answered = asked_feedback s.feedback s refl answered (ap (λ (b : Bool). (asked_unless b s).feedback) (sym is))

unless_ssrc : (ending : Bool) (s : StreamState) → (asked_unless ending s).ssrc ≡ s.ssrc
unless_ssrc true s = refl
unless_ssrc false s = refl

pub asked_ssrc : (s : StreamState) → (asked_for s).ssrc ≡ s.ssrc
asked_ssrc s = unless_ssrc (is_ending s.stage) s

unless_taken : (ending : Bool) (s : StreamState) → (asked_unless ending s).taken ≡ s.taken
unless_taken true s = refl
unless_taken false s = refl

pub asked_taken : (s : StreamState) → (asked_for s).taken ≡ s.taken
asked_taken s = unless_taken (is_ending s.stage) s

-- ---- the list of streams

get_set : (ss : List StreamState) (place : ℕ) (s t : StreamState) → slice_get ss place ≡ Some s → slice_get (slice_set ss place t) place ≡ Some t
get_set [] place s t is = absurd (cc)
get_set (x ∷ xs) zero s t is = refl
get_set (x ∷ xs) (suc place) s t is = get_set xs place s t is

found_within : (ss : List StreamState) (place : ℕ) (s d : StreamState) → slice_get ss place ≡ Some s → get_or ss place d ≡ s
found_within ss place s d is = get_or_from_slice_get ss place s d is

-- a stream that keeps its SSRC is found at the same place
first_set : (ssrc place : ℕ) (ss : List StreamState) (s t : StreamState) → slice_get ss place ≡ Some s → t.ssrc ≡ s.ssrc → position (has_ssrc ssrc) (slice_set ss place t) ≡ position (has_ssrc ssrc) ss
first_set ssrc place ss s t is same =
    let own : has_ssrc ssrc t ≡ has_ssrc ssrc (get_or ss place s) = ap (λ (n : ℕ). n == ssrc) (same ∙ ap (λ (x : StreamState). x.ssrc) (sym (found_within ss place s s is))) in
    let len : length (slice_set ss place t) ≡ length ss = length_set ss place t in
    let at : position_or_len (has_ssrc ssrc) (slice_set ss place t) ≡ position_or_len (has_ssrc ssrc) ss = position_or_len-set (has_ssrc ssrc) ss place t s own in
    rw (at, len) refl

leaves_at : (ssrc place : ℕ) (t : Session) (s : StreamState) → position (has_ssrc ssrc) t.port.streams ≡ Some place → slice_get t.port.streams place ≡ Some s → answer_for s ≡ answers.Requested
    → KeyframeLeaves ssrc (record t { port = record t.port { streams = slice_set t.port.streams place (asked_for s) } })
leaves_at ssrc place t s first there answered =
    let was = asked_stream (is_ending s.stage) s refl answered in
    let u : Session = record t { port = record t.port { streams = slice_set t.port.streams place (asked_for s) } } in
    record {
      place = place;
      asking = was.asking;
      stream = asked_for s;
      first = first_set ssrc place t.port.streams s (asked_for s) there (asked_ssrc s) ∙ first;
      leaves = leaves_from place was.asking (asked_for s) u was.is_asked (get_set t.port.streams place s (asked_for s) there) was.feedback;
    }

leaves_of : (x : Option StreamState) (ssrc place : ℕ) (t : Session) → position (has_ssrc ssrc) t.port.streams ≡ Some place → slice_get t.port.streams place ≡ x → answer_of x ≡ answers.Requested
    → KeyframeLeaves ssrc (record t { port = record t.port { streams = asked_with x place t.port.streams } })
leaves_of None ssrc place t first there answered = absurd (cc)
leaves_of (Some s) ssrc place t first there answered = leaves_at ssrc place t s first there answered

leaves_among : (o : Option ℕ) (ssrc : ℕ) (t : Session) → position (has_ssrc ssrc) t.port.streams ≡ o → answer_among o t.port.streams ≡ answers.Requested
    → KeyframeLeaves ssrc (record t { port = asked_among o t.port })
leaves_among None ssrc t first answered = absurd (cc)
leaves_among (Some place) ssrc t first answered = leaves_of (slice_get t.port.streams place) ssrc place t first refl answered

-- a session whose stream was asked for a keyframe
pub keyframe_leaves : (ssrc : ℕ) (t : Session) → answer_among (position (has_ssrc ssrc) t.port.streams) t.port.streams ≡ answers.Requested → KeyframeLeaves ssrc (asks_keyframe ssrc t)
keyframe_leaves ssrc t answered = leaves_among (position (has_ssrc ssrc) t.port.streams) ssrc t refl answered

-- ---- every datagram stays accounted for

asked_keeps_of : (x : Option StreamState) (settings : SessionSettings) (c : ArrivalCounts) (place : ℕ) (p : Port) → slice_get p.streams place ≡ x → IsPort settings p c
    → IsPort settings (record p { streams = asked_with x place p.streams }) c
asked_keeps_of None settings c place p there kept = kept
asked_keeps_of (Some s) settings c place p there kept = record {
  accounted = omega (arith, kept.accounted, taken_set p.streams place s (asked_for s) there, asked_taken s);
  bounded = omega (arith, kept.bounded, length_set p.streams place (asked_for s));
}

pub asked_keeps : (o : Option ℕ) (settings : SessionSettings) (c : ArrivalCounts) (p : Port) → IsPort settings p c → IsPort settings (asked_among o p) c
asked_keeps None settings c p kept = kept
asked_keeps (Some place) settings c p kept = asked_keeps_of (slice_get p.streams place) settings c place p refl kept

-- ---- the stream at a place, as a function reads it

pub answer_at : (place : ℕ) (ss : List StreamState) (x : StreamState) → place < length ss → x ≡ get_or ss place x → answer_of (slice_get ss place) ≡ answer_for x
answer_at place ss x within is = ap answer_of (slice_get-get_or ss place x within) ∙ ap answer_for (sym is)

pub asked_at : (place : ℕ) (ss : List StreamState) (x : StreamState) → place < length ss → x ≡ get_or ss place x → asked_with (slice_get ss place) place ss ≡ slice_set ss place (asked_for x)
asked_at place ss x within is = ap (λ (o : Option StreamState). asked_with o place ss) (slice_get-get_or ss place x within) ∙ ap (λ (s : StreamState). slice_set ss place (asked_for s)) (sym is)
