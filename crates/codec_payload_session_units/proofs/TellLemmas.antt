-- Events of a session tell what the answers show of a stream, and calls of a receiver have the pairs of its format.
use Rattle.std.proofs.Common.{◌≡◌, ◌∙◌, refl, sym, ap, ap₂, subst, ℕ, List, [], ◌∷◌, ◌++◌, Bool, true, false, Option, Some, None, Result, Ok, Err}
use Rattle.std.specs.declared.alloc.AllocError.{AllocError}
use Rattle.codec_payload_base.specs.declared.wire.Ticks.{Ticks}
use Rattle.codec_payload_buffer_runs.specs.Schedule.{Answer}
use Rattle.codec_payload_datagrams.specs.declared.kinds.Retransmission.{Retransmission}
use Rattle.codec_payload_jitter.specs.declared.outcome.Outcome.{Outcome}
use Rattle.codec_payload_metadata.specs.Release.{Release}
use Rattle.codec_payload_receiver.specs.declared.pops.Popped.{Popped}
use Rattle.codec_payload_receiver.specs.declared.pops.Popped.TheVariants as popped
use Rattle.codec_payload_receiver.specs.declared.receiver.ReceiveError.{ReceiveError}
use Rattle.codec_payload_session.specs.Ports.{Session}
use Rattle.codec_payload_session_formats.specs.declared.formats.Format.{Format}
use Rattle.codec_payload_session_stream.specs.Units.{Event}
use Rattle.codec_payload_session_stream.specs.declared.arrival.Arrival.{Arrival}
use Rattle.codec_payload_session_stream.specs.declared.arrival.Arrival.TheVariants as arrivals
use Rattle.codec_payload_session_stream.specs.declared.events.Event.TheVariants as events
use Rattle.codec_payload_session_runs.specs.Lives.{AreMadeBy, FollowedWaits, IsMadeAs, Projects, ReceiverCall, events_by, events_in, events_of, finishes, follows, given_by, is_same, one_call, one_event, pairs, pops, receives, released_by, reports, shown_by, shown_in, shown_of, unit_or_memory, waits, notes, FollowEach}
use Rattle.codec_payload_session_runs.specs.SessionRuns.{Call, Does, Runs}
use Rattle.codec_payload_session_runs.specs.declared.run.SessionStep.{SessionStep}
use Rattle.codec_payload_session_runs.specs.declared.run.SessionStep.TheVariants as calls
use Rattle.codec_payload_session_runs.specs.declared.run.StepAnswer.{StepAnswer}
use Rattle.codec_payload_session_units.specs.OneSender.{answers_by}
use Rattle.codec_payload_session_units.specs.StreamUnits.{units_told}
use Rattle.codec_payload_session_runs.proofs.AloneLemmas.{each_append}
use Rattle.codec_payload_session_units.proofs.CallEvents.{AllTyped}
use Rattle.codec_payload_session_units.proofs.CopyLemmas.{HasType}

-- ---- events

pub answers_append : (xs ys : List ReceiverCall) → answers_by (xs ++ ys) ≡ answers_by xs ++ answers_by ys
answers_append [] ys = refl
answers_append (receives now bytes answer ∷ xs) ys = answers_append xs ys
answers_append (pops now answer ∷ xs) ys = ap (λ (as' : List Answer). answers_by (pops now answer ∷ []) ++ as') (answers_append xs ys)
answers_append (finishes ∷ xs) ys = answers_append xs ys
answers_append (waits limits ∷ xs) ys = answers_append xs ys
answers_append (follows wait ∷ xs) ys = answers_append xs ys
answers_append (pairs r ∷ xs) ys = answers_append xs ys
answers_append (reports ∷ xs) ys = answers_append xs ys
answers_append (notes e ∷ xs) ys = answers_append xs ys

told_append : (es fs : List Event) → units_told (es ++ fs) ≡ units_told es ++ units_told fs
told_append [] fs = refl
told_append (events.Begun s p ∷ es) fs = told_append es fs
told_append (events.Unit s p time decodable keyframe unit ∷ es) fs = ap (λ (as' : List Answer). units_told (events.Unit s p time decodable keyframe unit ∷ []) ++ as') (told_append es fs)
told_append (events.TooLarge s p unit ∷ es) fs = ap (λ (as' : List Answer). units_told (events.TooLarge s p unit ∷ []) ++ as') (told_append es fs)
told_append (events.Refused s p fault ∷ es) fs = ap (λ (as' : List Answer). units_told (events.Refused s p fault ∷ []) ++ as') (told_append es fs)
told_append (events.Feedback s p packet ∷ es) fs = told_append es fs
told_append (events.Telephone s p time marker payload ∷ es) fs = told_append es fs
told_append (events.Report packet ∷ es) fs = told_append es fs
told_append (events.TransportFeedback packet ∷ es) fs = told_append es fs
told_append (events.Ended s p why ∷ es) fs = told_append es fs

-- an answer to a datagram shows no unit
given_none : (b : Bool) (now : Ticks) (bytes : List ℕ) (answer : Result Outcome ReceiveError) → answers_by (one_call b (receives now bytes answer)) ≡ []
given_none true now bytes answer = refl
given_none false now bytes answer = refl

arrived_none : (ssrc payload_type : ℕ) (now : Ticks) (bytes : List ℕ) (arrival : Result Arrival AllocError) → answers_by (given_by ssrc payload_type now bytes arrival) ≡ []
arrived_none ssrc payload_type now bytes (Ok (arrivals.Stream s p outcome)) = given_none (is_same ssrc payload_type s p) now bytes (Ok outcome)
arrived_none ssrc payload_type now bytes (Ok (arrivals.Faulty s p fault)) = given_none (is_same ssrc payload_type s p) now bytes (Err fault)
arrived_none ssrc payload_type now bytes (Ok arrivals.Rtcp) = refl
arrived_none ssrc payload_type now bytes (Ok arrivals.Malformed) = refl
arrived_none ssrc payload_type now bytes (Ok arrivals.Unknown) = refl
arrived_none ssrc payload_type now bytes (Ok arrivals.Refused) = refl
arrived_none ssrc payload_type now bytes (Ok arrivals.Unassociated) = refl
arrived_none ssrc payload_type now bytes (Err e) = refl

-- the event of a poll
if_none : (b : Bool) (e : Event) → units_told (e ∷ []) ≡ [] → [] ≡ units_told (one_event b e)
if_none true e none = sym none
if_none false e none = refl

if_unit : (b : Bool) (now : Ticks) (answer : Option (Result (Popped Release) AllocError)) (e : Event) → answers_by (pops now answer ∷ []) ≡ units_told (e ∷ [])
    → answers_by (one_call b (pops now answer)) ≡ units_told (one_event b e)
if_unit true now answer e same = same
if_unit false now answer e same = refl

unit_is : (now : Ticks) (s p : ℕ) (time : Option ℕ) (decodable keyframe : Bool) (unit : Result Release AllocError)
    → answers_by (pops now (Some (unit_or_memory unit)) ∷ []) ≡ units_told (events.Unit s p time decodable keyframe unit ∷ [])
unit_is now s p time decodable keyframe (Ok unit) = refl
unit_is now s p time decodable keyframe (Err e) = refl

polled_told : (ssrc payload_type : ℕ) (now : Ticks) (event : Option Event) → answers_by (released_by ssrc payload_type now event) ≡ units_told (events_by ssrc payload_type event)
polled_told ssrc payload_type now None = refl
polled_told ssrc payload_type now (Some (events.Begun s p)) = if_none (is_same ssrc payload_type s p) (events.Begun s p) refl
polled_told ssrc payload_type now (Some (events.Unit s p time decodable keyframe unit)) =
    if_unit (is_same ssrc payload_type s p) now (Some (unit_or_memory unit)) (events.Unit s p time decodable keyframe unit) (unit_is now s p time decodable keyframe unit)
polled_told ssrc payload_type now (Some (events.TooLarge s p unit)) = if_unit (is_same ssrc payload_type s p) now (Some (Ok (popped.TooLarge unit))) (events.TooLarge s p unit) refl
polled_told ssrc payload_type now (Some (events.Refused s p fault)) = if_unit (is_same ssrc payload_type s p) now (Some (Ok (popped.Refused fault))) (events.Refused s p fault) refl
polled_told ssrc payload_type now (Some (events.Feedback s p packet)) = if_none (is_same ssrc payload_type s p) (events.Feedback s p packet) refl
polled_told ssrc payload_type now (Some (events.Telephone s p time marker payload)) = refl
polled_told ssrc payload_type now (Some (events.Report packet)) = refl
polled_told ssrc payload_type now (Some (events.TransportFeedback packet)) = refl
polled_told ssrc payload_type now (Some (events.Ended s p why)) = if_none (is_same ssrc payload_type s p) (events.Ended s p why) refl

abbrev Tells : ℕ → ℕ → SessionStep → StepAnswer → Type 0
Tells ssrc payload_type step answer = answers_by (shown_by ssrc payload_type step answer) ≡ units_told (events_in ssrc payload_type answer)

step_told : (ssrc payload_type : ℕ) (step : SessionStep) (s t : Session) (answer : StepAnswer) → Does step s answer t → Tells ssrc payload_type step answer
step_told ssrc payload_type (calls.Receive now micros datagram) s t answer does =
    subst (Tells ssrc payload_type (calls.Receive now micros datagram)) (sym does.1) (arrived_none ssrc payload_type now datagram.items does.0)
step_told ssrc payload_type (calls.Poll now) s t answer does = subst (Tells ssrc payload_type (calls.Poll now)) (sym does.1) (polled_told ssrc payload_type now does.0)
step_told ssrc payload_type (calls.End now other) s t answer does = subst (Tells ssrc payload_type (calls.End now other)) (sym does.0) refl
step_told ssrc payload_type (calls.Finish now) s t answer does = subst (Tells ssrc payload_type (calls.Finish now)) (sym does.0) refl
step_told ssrc payload_type (calls.SetWaitLimits other type limits) s t answer does = subst (Tells ssrc payload_type (calls.SetWaitLimits other type limits)) (sym does.0) refl
step_told ssrc payload_type (calls.Report now other type) s t answer does = subst (Tells ssrc payload_type (calls.Report now other type)) (sym does.1) refl
step_told ssrc payload_type (calls.AddPair other again) s t answer does = subst (Tells ssrc payload_type (calls.AddPair other again)) (sym does.1) refl
step_told ssrc payload_type calls.RestartTransport s t answer does = subst (Tells ssrc payload_type calls.RestartTransport) (sym does.0) refl
step_told ssrc payload_type (calls.RequestKeyframe other) s t answer does = subst (Tells ssrc payload_type (calls.RequestKeyframe other)) (sym does.0) refl
step_told ssrc payload_type (calls.RemovePair other) s t answer does = subst (Tells ssrc payload_type (calls.RemovePair other)) (sym does.0) refl

-- the events have exactly the units that are shown
pub run_told : (ssrc payload_type : ℕ) (cs : List Call) (s t : Session) → Runs cs s t → answers_by (shown_of ssrc payload_type cs) ≡ units_told (events_of ssrc payload_type cs)
run_told ssrc payload_type [] s t run = refl
run_told ssrc payload_type (c ∷ cs) s t run =
    answers_append (shown_in ssrc payload_type c) (shown_of ssrc payload_type cs)
    ∙ (ap₂ (λ (xs ys : List Answer). xs ++ ys) (step_told ssrc payload_type c.step s run.0 c.answer run.1) (run_told ssrc payload_type cs run.0 t run.2)
    ∙ sym (told_append (events_in ssrc payload_type c.answer) (events_of ssrc payload_type cs)))

-- ---- pairs

pub typed_append : (own : Option ℕ) (xs ys : List ReceiverCall) → AllTyped own xs → AllTyped own ys → AllTyped own (xs ++ ys)
typed_append own [] ys a b = b
typed_append own (receives now bytes answer ∷ xs) ys a b = typed_append own xs ys a b
typed_append own (pops now answer ∷ xs) ys a b = typed_append own xs ys a b
typed_append own (finishes ∷ xs) ys a b = typed_append own xs ys a b
typed_append own (waits limits ∷ xs) ys a b = typed_append own xs ys a b
typed_append own (follows wait ∷ xs) ys a b = typed_append own xs ys a b
typed_append own (pairs r ∷ xs) ys a b = (a.0, typed_append own xs ys a.1 b)
typed_append own (reports ∷ xs) ys a b = typed_append own xs ys a b
typed_append own (notes e ∷ xs) ys a b = typed_append own xs ys a b

pair_typed : (ssrc : ℕ) (f : Format) (w : FollowedWaits) (step : SessionStep) (answer : StepAnswer) (given : List ReceiverCall) (r : Option Retransmission)
    → IsMadeAs ssrc f w step answer given (pairs r) → HasType f.retransmission r
pair_typed ssrc f w step answer given None made = tt
pair_typed ssrc f w (calls.Receive now micros datagram) answer given (Some r) made = made.1.1
pair_typed ssrc f w (calls.AddPair other again) answer given (Some r) made = made.1.1
pair_typed ssrc f w (calls.RemovePair other) answer given (Some r) made =
    let none : Some r ≡ None = made.1 in
    absurd (cc)
pair_typed ssrc f w (calls.Poll now) answer given (Some r) made = absurd made
pair_typed ssrc f w (calls.End now other) answer given (Some r) made = absurd made
pair_typed ssrc f w (calls.Finish now) answer given (Some r) made = absurd made
pair_typed ssrc f w (calls.SetWaitLimits other type limits) answer given (Some r) made = absurd made
pair_typed ssrc f w (calls.Report now other type) answer given (Some r) made = absurd made
pair_typed ssrc f w (calls.RequestKeyframe other) answer given (Some r) made = absurd made
pair_typed ssrc f w calls.RestartTransport answer given (Some r) made = absurd made

part_typed : (ssrc : ℕ) (f : Format) (w : FollowedWaits) (c : Call) (part : List ReceiverCall) → AreMadeBy ssrc f w c part → AllTyped f.retransmission part
part_typed ssrc f w c [] made = tt
part_typed ssrc f w c (receives now bytes answer ∷ part) made = part_typed ssrc f w c part made.1
part_typed ssrc f w c (pops now answer ∷ part) made = part_typed ssrc f w c part made.1
part_typed ssrc f w c (finishes ∷ part) made = part_typed ssrc f w c part made.1
part_typed ssrc f w c (waits limits ∷ part) made = part_typed ssrc f w c part made.1
part_typed ssrc f w c (follows wait ∷ part) made = part_typed ssrc f w c part made.1
part_typed ssrc f w c (pairs r ∷ part) made = (pair_typed ssrc f w c.step c.answer (shown_in ssrc f.payload_type c) r made.0, part_typed ssrc f w c part made.1)
part_typed ssrc f w c (reports ∷ part) made = part_typed ssrc f w c part made.1
part_typed ssrc f w c (notes e ∷ part) made = part_typed ssrc f w c part made.1

pub projects_typed : (ssrc : ℕ) (f : Format) (w : FollowedWaits) (cs : List Call) (own : List ReceiverCall) → Projects ssrc f w cs own → AllTyped f.retransmission own
projects_typed ssrc f w [] own got = subst (AllTyped f.retransmission) (sym got) tt
projects_typed ssrc f w (c ∷ cs) own got =
    subst (AllTyped f.retransmission) (sym got.2)
    (typed_append f.retransmission got.0 got.1 (part_typed ssrc f w c got.0 got.3.made) (projects_typed ssrc f w cs got.1 got.4))

-- each datagram that the receiver got is followed by its edges, right behind its receipt
pub projects_follow : (ssrc : ℕ) (f : Format) (w : FollowedWaits) (cs : List Call) (own : List ReceiverCall) → Projects ssrc f w cs own → FollowEach None own
projects_follow ssrc f w [] own got = subst (FollowEach None) (sym got) refl
projects_follow ssrc f w (c ∷ cs) own got =
    subst (FollowEach None) (sym got.2) (each_append None got.0 got.1 got.3.follow_each (projects_follow ssrc f w cs got.1 got.4))
