-- Runs of a receiver alone, and projections of runs to it.
use Rattle.std.proofs.Common.{◌≡◌, ◌∙◌, refl, sym, ap, subst, ℕ, ◌+◌, Bool, true, false, List, [], ◌∷◌, ◌++◌, append_assoc, append-nil, Option, None, arith}
use Rattle.codec_payload_base.specs.declared.wire.Ticks.{Ticks}
use Rattle.codec_payload_receiver.specs.Sessions.{Session as Receiver}
use Rattle.codec_payload_session_formats.specs.declared.formats.Format.{Format}
use Rattle.codec_payload_session_stream.specs.Units.{Event}
use Rattle.codec_payload_session_stream.specs.declared.events.Event.TheVariants as events
use Rattle.codec_payload_session_runs.specs.Lives.{AreInOrder, AreMadeBy, AreOfOne, FollowedWaits, HasNoPair, IsMadeBy, IsPairFirst, IsPart, Projects, ReceiverCall, RunsAlone, events_in, events_of, finishes, follows, is_finish, is_pair, is_pop, is_report, is_shown, many_finishes, many_pops, many_reports, one_more, pairs, pops, receives, reports, shown, shown_in, shown_of, waits, with_shown, Answered, EdgesRun, FollowEach, GoesOnFrom, edges_after, followed_by, notes, to_follow}
use Rattle.codec_payload_session_runs.specs.SessionRuns.{Call}
use Rattle.codec_payload_stream_edges.specs.declared.followed.Followed.{Followed}
use Rattle.codec_payload_stream_edges.specs.declared.rules.EdgeRules.{EdgeRules}
use Rattle.codec_payload_session_runs.specs.declared.run.SessionStep.TheVariants as steps
use Rattle.codec_payload_session_runs.specs.declared.run.StepAnswer.TheVariants as answers

-- ---- calls of a receiver

pub runs_append : (cs ds : List ReceiverCall) (r q w : Receiver) → RunsAlone cs r q → RunsAlone ds q w → RunsAlone (cs ++ ds) r w
runs_append [] ds r q w run later = subst (λ (x : Receiver). RunsAlone ds x w) run later
runs_append (c ∷ cs) ds r q w run later = (run.0, run.1, runs_append cs ds run.0 q w run.2 later)

with_shown_append : (b : Bool) (c : ReceiverCall) (xs ys : List ReceiverCall) → with_shown b c (xs ++ ys) ≡ with_shown b c xs ++ ys
with_shown_append true c xs ys = refl
with_shown_append false c xs ys = refl

pub shown_append : (cs ds : List ReceiverCall) → shown (cs ++ ds) ≡ shown cs ++ shown ds
shown_append [] ds = refl
shown_append (c ∷ cs) ds = ap (λ (xs : List ReceiverCall). with_shown (is_shown c) c xs) (shown_append cs ds) ∙ with_shown_append (is_shown c) c (shown cs) (shown ds)

one_more_plus : (b : Bool) (m n : ℕ) → one_more b (m + n) ≡ one_more b m + n
one_more_plus true m n = omega arith
one_more_plus false m n = refl

pub pops_append : (cs ds : List ReceiverCall) → many_pops (cs ++ ds) ≡ many_pops cs + many_pops ds
pops_append [] ds = omega arith
pops_append (c ∷ cs) ds = ap (λ (n : ℕ). one_more (is_pop c) n) (pops_append cs ds) ∙ one_more_plus (is_pop c) (many_pops cs) (many_pops ds)

pub finishes_append : (cs ds : List ReceiverCall) → many_finishes (cs ++ ds) ≡ many_finishes cs + many_finishes ds
finishes_append [] ds = omega arith
finishes_append (c ∷ cs) ds = ap (λ (n : ℕ). one_more (is_finish c) n) (finishes_append cs ds) ∙ one_more_plus (is_finish c) (many_finishes cs) (many_finishes ds)

pub reports_append : (cs ds : List ReceiverCall) → many_reports (cs ++ ds) ≡ many_reports cs + many_reports ds
reports_append [] ds = omega arith
reports_append (c ∷ cs) ds = ap (λ (n : ℕ). one_more (is_report c) n) (reports_append cs ds) ∙ one_more_plus (is_report c) (many_reports cs) (many_reports ds)

pub made_append : (ssrc : ℕ) (f : Format) (w : FollowedWaits) (call : Call) (cs ds : List ReceiverCall) → AreMadeBy ssrc f w call cs → AreMadeBy ssrc f w call ds → AreMadeBy ssrc f w call (cs ++ ds)
made_append ssrc f w call [] ds a b = b
made_append ssrc f w call (c ∷ cs) ds a b = (a.0, made_append ssrc f w call cs ds a.1 b)

-- the call of a poll
abbrev pub poll_of : Ticks → Option Event → Call
poll_of now event = record { step = steps.Poll now; answer = answers.Polled event }

-- a poll makes no pair known
polled_is : (ssrc : ℕ) (f : Format) (w : FollowedWaits) (now : Ticks) (event : Option Event) (c : ReceiverCall) → IsMadeBy ssrc f w (poll_of now event) c → is_pair c ≡ false
polled_is ssrc f w now event (receives at bytes answer) made = refl
polled_is ssrc f w now event (pops at answer) made = refl
polled_is ssrc f w now event finishes made = refl
polled_is ssrc f w now event (waits limits) made = refl
polled_is ssrc f w now event (follows wait) made = refl
polled_is ssrc f w now event (pairs retransmission) made = absurd made
polled_is ssrc f w now event reports made = refl
polled_is ssrc f w now event (notes e) made = absurd made

polled_none : (ssrc : ℕ) (f : Format) (w : FollowedWaits) (now : Ticks) (event : Option Event) (cs : List ReceiverCall) → AreMadeBy ssrc f w (poll_of now event) cs → HasNoPair cs
polled_none ssrc f w now event [] made = tt
polled_none ssrc f w now event (c ∷ cs) made = (polled_is ssrc f w now event c made.0, polled_none ssrc f w now event cs made.1)

pub polled_first : (ssrc : ℕ) (f : Format) (w : FollowedWaits) (now : Ticks) (event : Option Event) (cs : List ReceiverCall) → AreMadeBy ssrc f w (poll_of now event) cs → IsPairFirst cs
polled_first ssrc f w now event [] made = tt
polled_first ssrc f w now event (c ∷ cs) made = polled_none ssrc f w now event cs made.1

-- ---- the edges of its pictures

pub edges_append : (k : EdgeRules) (f : Option Followed) (cs ds : List ReceiverCall) (g h : Option Followed) → EdgesRun k f cs g → EdgesRun k g ds h → EdgesRun k f (cs ++ ds) h
edges_append k f [] ds g h run later = subst (λ (x : Option Followed). EdgesRun k x ds h) run later
edges_append k f (c ∷ cs) ds g h run later = (run.0, edges_append k (edges_after f c) cs ds g h run.1 later)

pub each_append : (last : Option Answered) (cs ds : List ReceiverCall) → FollowEach last cs → FollowEach None ds → FollowEach last (cs ++ ds)
each_append last [] ds each later = subst (λ (x : Option Answered). FollowEach x ds) (sym each) later
each_append last (c ∷ cs) ds each later = (each.0, each_append (to_follow c) cs ds each.1 later)

-- a call of which the edges know nothing
record IsBeside (c : ReceiverCall) : Type 0 where
  follows_none : followed_by c ≡ None
  leaves_none : to_follow c ≡ None
  goes_on : (k : EdgeRules) (f : Option Followed) → GoesOnFrom k f c
  same : (f : Option Followed) → edges_after f c ≡ f

polled_beside : (ssrc : ℕ) (f : Format) (w : FollowedWaits) (now : Ticks) (event : Option Event) (c : ReceiverCall) → IsMadeBy ssrc f w (poll_of now event) c → IsBeside c
polled_beside ssrc f w now event (receives at bytes answer) made = absurd made
polled_beside ssrc f w now event (pops at answer) made = record { follows_none = refl; leaves_none = refl; goes_on = λ k g. tt; same = λ g. refl }
polled_beside ssrc f w now event finishes made = record { follows_none = refl; leaves_none = refl; goes_on = λ k g. tt; same = λ g. refl }
polled_beside ssrc f w now event (waits limits) made = absurd made
polled_beside ssrc f w now event (follows wait) made = absurd made
polled_beside ssrc f w now event (pairs retransmission) made = absurd made
polled_beside ssrc f w now event reports made = record { follows_none = refl; leaves_none = refl; goes_on = λ k g. tt; same = λ g. refl }
polled_beside ssrc f w now event (notes e) made = absurd made

pub polled_each : (ssrc : ℕ) (f : Format) (w : FollowedWaits) (now : Ticks) (event : Option Event) (cs : List ReceiverCall) → AreMadeBy ssrc f w (poll_of now event) cs → FollowEach None cs
polled_each ssrc f w now event [] made = refl
polled_each ssrc f w now event (c ∷ cs) made =
    let is = polled_beside ssrc f w now event c made.0 in
    (sym is.follows_none, subst (λ (x : Option Answered). FollowEach x cs) (sym is.leaves_none) (polled_each ssrc f w now event cs made.1))

-- a poll leaves the edges as they are
pub polled_edges : (ssrc : ℕ) (f : Format) (w : FollowedWaits) (now : Ticks) (event : Option Event) (k : EdgeRules) (g : Option Followed) (cs : List ReceiverCall) → AreMadeBy ssrc f w (poll_of now event) cs → EdgesRun k g cs g
polled_edges ssrc f w now event k g [] made = refl
polled_edges ssrc f w now event k g (c ∷ cs) made =
    let is = polled_beside ssrc f w now event c made.0 in
    (is.goes_on k g, subst (λ (x : Option Followed). EdgesRun k x cs g) (sym (is.same g)) (polled_edges ssrc f w now event k g cs made.1))

-- ---- projections

-- one more call of the session
pub projects_more : (ssrc : ℕ) (f : Format) (w : FollowedWaits) (cs : List Call) (c : Call) (own part : List ReceiverCall) → Projects ssrc f w cs own → IsPart ssrc f w c part
    → Projects ssrc f w (cs ++ c ∷ []) (own ++ part)
projects_more ssrc f w [] c own part got is = (part, [], ap (λ (xs : List ReceiverCall). xs ++ part) got ∙ sym (append-nil part), is, refl)
projects_more ssrc f w (d ∷ cs) c own part got is = (
  got.0,
  got.1 ++ part,
  ap (λ (xs : List ReceiverCall). xs ++ part) got.2 ∙ append_assoc got.0 got.1 part,
  got.3,
  projects_more ssrc f w cs c got.1 part got.4 is,
)

-- what the calls of the receiver show is what the answers show
pub projects_shown : (ssrc : ℕ) (f : Format) (w : FollowedWaits) (cs : List Call) (own : List ReceiverCall) → Projects ssrc f w cs own → shown own ≡ shown_of ssrc f.payload_type cs
projects_shown ssrc f w [] own got = ap shown got
projects_shown ssrc f w (c ∷ cs) own got =
    ap shown got.2
    ∙ (shown_append got.0 got.1
    ∙ (ap (λ (xs : List ReceiverCall). xs ++ shown got.1) got.3.shows ∙ ap (λ (xs : List ReceiverCall). shown_in ssrc f.payload_type c ++ xs) (projects_shown ssrc f w cs got.1 got.4)))

-- ---- events

pub events_more : (ssrc payload_type : ℕ) (cs : List Call) (c : Call) → events_of ssrc payload_type (cs ++ c ∷ []) ≡ events_of ssrc payload_type cs ++ events_in ssrc payload_type c.answer
events_more ssrc payload_type [] c = append-nil (events_in ssrc payload_type c.answer)
events_more ssrc payload_type (d ∷ cs) c =
    ap (λ (es : List Event). events_in ssrc payload_type d.answer ++ es) (events_more ssrc payload_type cs c)
    ∙ sym (append_assoc (events_in ssrc payload_type d.answer) (events_of ssrc payload_type cs) (events_in ssrc payload_type c.answer))

pub one_append : (es fs : List Event) (a b c : Bool) → AreOfOne a es b → AreOfOne b fs c → AreOfOne a (es ++ fs) c
one_append [] fs a b c got more = subst (λ (x : Bool). AreOfOne x fs c) got more
one_append (events.Begun s p ∷ es) fs a b c got more = (got.0, one_append es fs true b c got.1 more)
one_append (events.Unit s p time decodable keyframe unit ∷ es) fs a b c got more = (got.0, one_append es fs true b c got.1 more)
one_append (events.TooLarge s p unit ∷ es) fs a b c got more = (got.0, one_append es fs true b c got.1 more)
one_append (events.Refused s p fault ∷ es) fs a b c got more = (got.0, one_append es fs true b c got.1 more)
one_append (events.Feedback s p packet ∷ es) fs a b c got more = (got.0, one_append es fs true b c got.1 more)
one_append (events.Ended s p why ∷ es) fs a b c got more = absurd got
one_append (events.Telephone s p time marker payload ∷ es) fs a b c got more = absurd got
one_append (events.Report packet ∷ es) fs a b c got more = absurd got
one_append (events.TransportFeedback packet ∷ es) fs a b c got more = absurd got

pub order_append : (es fs : List Event) (a b c : Bool) → AreInOrder a es b → AreInOrder b fs c → AreInOrder a (es ++ fs) c
order_append [] fs a b c got more = subst (λ (x : Bool). AreInOrder x fs c) got more
order_append (events.Begun s p ∷ es) fs a b c got more = (got.0, order_append es fs true b c got.1 more)
order_append (events.Unit s p time decodable keyframe unit ∷ es) fs a b c got more = (got.0, order_append es fs true b c got.1 more)
order_append (events.TooLarge s p unit ∷ es) fs a b c got more = (got.0, order_append es fs true b c got.1 more)
order_append (events.Refused s p fault ∷ es) fs a b c got more = (got.0, order_append es fs true b c got.1 more)
order_append (events.Feedback s p packet ∷ es) fs a b c got more = (got.0, order_append es fs true b c got.1 more)
order_append (events.Ended s p why ∷ es) fs a b c got more = (got.0, order_append es fs false b c got.1 more)
order_append (events.Telephone s p time marker payload ∷ es) fs a b c got more = absurd got
order_append (events.Report packet ∷ es) fs a b c got more = absurd got
order_append (events.TransportFeedback packet ∷ es) fs a b c got more = absurd got

pub one_in_order : (es : List Event) (a b : Bool) → AreOfOne a es b → AreInOrder a es b
one_in_order [] a b got = got
one_in_order (events.Begun s p ∷ es) a b got = (got.0, one_in_order es true b got.1)
one_in_order (events.Unit s p time decodable keyframe unit ∷ es) a b got = (got.0, one_in_order es true b got.1)
one_in_order (events.TooLarge s p unit ∷ es) a b got = (got.0, one_in_order es true b got.1)
one_in_order (events.Refused s p fault ∷ es) a b got = (got.0, one_in_order es true b got.1)
one_in_order (events.Feedback s p packet ∷ es) a b got = (got.0, one_in_order es true b got.1)
one_in_order (events.Ended s p why ∷ es) a b got = absurd got
one_in_order (events.Telephone s p time marker payload ∷ es) a b got = absurd got
one_in_order (events.Report packet ∷ es) a b got = absurd got
one_in_order (events.TransportFeedback packet ∷ es) a b got = absurd got
