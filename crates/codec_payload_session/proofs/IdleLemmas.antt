-- After a poll without an event, in which no packet left, no poll before the next deadline has one.
use Rattle.std.proofs.Common.{◌≡◌, ◌∙◌, refl, ap, sym, subst, ℕ, ◌+◌, ◌-◌, ◌^◌, ◌<◌, ◌≤◌, ◌==◌, ◌&&◌, ◌||◌, not, List, [], ◌∷◌, ◌++◌, Bool, true, false, cond, Option, Some, None, Result, Ok, Err, inl, inr, length, arith}
use Rattle.std.specs.Prelude.{◌⊎◌, nat_lt, nat_le, if◌then◌else◌}
use Rattle.std.specs.Global.{Vec}
use Rattle.std.specs.Option.{is_some}
use Rattle.codec_payload_feedback_xr.specs.declared.exchange.TimeExchange.{TimeExchange}
use Rattle.std.specs.declared.alloc.AllocError.{AllocError}
use Rattle.std.proofs.lemmas.Bool.Decides.{nat_tests}
use Rattle.codec_payload_base.specs.declared.error.PacketError.{PacketError}
use Rattle.codec_payload_base.specs.declared.wire.Ticks.{Ticks}
use Rattle.codec_payload_metadata.specs.Release.{Release}
use Rattle.codec_payload_feedback.specs.Feedback.{Requests, deadline_of as deadline_of_requests, has_any, keyframe_is_due, numbers_due}
use Rattle.codec_payload_feedback.specs.Transport.{Reporter, due_at}
use Rattle.codec_payload_jitter.specs.Receiving.{Receiving, deadline_of}
use Rattle.codec_payload_feedback_requests.specs.Requests.{has_come}
use Rattle.codec_payload_keyframes.specs.declared.references.UnitReferences.{UnitReferences}
use Rattle.codec_payload_receiver.specs.Noting.{Noting, TakesNotes}
use Rattle.codec_payload_receiver.specs.Pops.{DropsUnits, PopsGated, PopsOnce, answer_of, bound_if, gates_if, has_left, is_large, none_dropped, one_more, time_if, without_unit}
use Rattle.codec_payload_receiver.specs.Sessions.{Session as Receiver}
use Rattle.codec_payload_receiver.specs.declared.pops.Popped.{Popped}
use Rattle.codec_payload_receiver.specs.declared.pops.Popped.TheVariants as popped
use Rattle.codec_payload_session.specs.Arrivals.{Port}
use Rattle.codec_payload_session.specs.Idle.{IsIdle, IsNoEvent, held_in, next_of}
use Rattle.codec_payload_session.specs.Polls.{GoesOn, Polls, PollsAfter, SendsAfter, SendsReport, SendsTransport, TurnsOrReports, TurnsOrSends}
use Rattle.codec_payload_session_stream.specs.Events.{report_event, transport_event}
use Rattle.codec_payload_session.specs.Ports.{Session}
use Rattle.codec_payload_session_stream.specs.Quiet.{IsBefore, PopsNothing}
use Rattle.codec_payload_session.specs.Reporting.{ReportsBy, ReportsEach, ReportsIf, any_announced, deadline_if, is_report_due, is_reporting, is_time, report_deadline}
use Rattle.codec_payload_session_requests.specs.Requests.{Asking, Asks, is_heard, refreshed, requests_due}
use Rattle.codec_payload_session_stream.specs.Streams.{Drains, Follows, Plays, Pops, RequestsBy, RestsBy, Steps, StepsBy, StreamState, due_by, due_in, due_of, earlier, end_by, end_of, is_probation, later as time_after, request_deadline, step_of, step_with, work_deadline}
use Rattle.codec_payload_session_stream.specs.Telephone.{Queue, due_before}
use Rattle.codec_payload_session_requests.specs.Transports.{Sends, SendsBy, SendsFrom, transport_deadline}
use Rattle.codec_payload_session_stream.specs.Turns.{AreQuiet, event_of}
use Rattle.codec_payload_session.specs.Turns.{TakesTurn}
use Rattle.codec_payload_session_formats.specs.declared.formats.FeedbackSettings.{FeedbackSettings}
use Rattle.codec_payload_session_formats.specs.declared.formats.SessionSettings.{SessionSettings}
use Rattle.codec_payload_session_stream.specs.Units.{Event, Step}
use Rattle.codec_payload_session_stream.specs.declared.stream.Ending.{Ending}
use Rattle.codec_payload_session_stream.specs.declared.stream.Ending.TheVariants as endings
use Rattle.codec_payload_session_stream.specs.declared.stream.Stage.{Stage}
use Rattle.codec_payload_session_stream.specs.declared.stream.Stage.TheVariants as stages
use Rattle.codec_payload_session_stream.specs.declared.stream.Step.TheVariants as steps
use Rattle.codec_payload_session_stream.specs.declared.telephone.TelephonePacket.{TelephonePacket}
use Rattle.codec_payload_session_stream.proofs.CalmLemmas.{due_later}
use Rattle.codec_payload_session_requests.proofs.IdleLemmas.{updated_none}
use Rattle.codec_payload_session_stream.proofs.PopAgainLemmas.{pops_same}
use Rattle.codec_payload_session_stream.proofs.SkipLemmas.{drops_few, earlier_both, once_few, receiver_rests, same_number, told_none}

-- ---- the receiver

-- an answer without a unit leaves the notes
takes_none : (answer : Option (Result Release PacketError)) (n : Option Noting) (references : UnitReferences) (t : Option Noting) → answer ≡ None → TakesNotes answer n references t → t ≡ n
takes_none None n references t is takes = takes.1
takes_none (Some a) n references t is takes = absurd (cc)

once_same : (now : ℕ) (r t : Receiver) (answer : Option (Result Release PacketError)) → PopsNothing now r.packets → PopsOnce now r answer t → (answer ≡ None) × (t ≡ r)
once_same now r t answer nothing pops =
    let same = pops_same now r.packets pops.packets answer nothing pops.pops in
    let taken = takes_none answer r.notes pops.references pops.notes same.0 pops.takes in (
      same.0,
      pops.left
          ∙ (ap (λ (a : Option (Result Release PacketError)). record r { packets = pops.packets; time = time_if (is_large r.bound.most a) r.time a; gates = gates_if (is_large r.bound.most a) r.gates (has_left r.packets pops.packets) a pops.references; bound = bound_if (is_large r.bound.most a) r.bound a; notes = pops.notes }) same.0
          ∙ (ap (λ (n : Option Noting). record r { packets = pops.packets; gates = without_unit r.gates (has_left r.packets pops.packets); notes = n }) taken
          ∙ (ap (λ (x : Receiving). record r { packets = x; gates = without_unit r.gates (has_left r.packets x) }) same.1
          ∙ ap (λ (b : Bool). record r { gates = without_unit r.gates (not b) }) (same_number r.packets.counters.left)))),
    )

some_none : (answer : Result Release PacketError) → Some answer ≡ None → ⊥
some_none answer is = absurd (cc)

dropped_none : (now : ℕ) (r t : Receiver) → PopsNothing now r.packets → DropsUnits now r t → t ≡ r
dropped_none now r t nothing none_dropped = refl
dropped_none now r t nothing (one_more {mid = mid} unit before passes) =
    let is : mid ≡ r = dropped_none now r mid nothing before in
    let first : PopsOnce now r (Some (Ok unit)) t = subst (λ (x : Receiver). PopsOnce now x (Some (Ok unit)) t) is passes.0 in
    absurd (some_none (Ok unit) (once_same now r t (Some (Ok unit)) nothing first).0)

-- whatever a pop may answer, it has no unit
gated_same : (now : ℕ) (r t : Receiver) (answer : Option (Result Release PacketError)) → PopsNothing now r.packets → PopsGated now r answer t → (answer ≡ None) × (t ≡ r)
gated_same now r t answer nothing gated =
    once_same now r t answer nothing (subst (λ (x : Receiver). PopsOnce now x answer t) (dropped_none now r gated.mid nothing gated.dropped) gated.pops)

gated_few : (now : ℕ) (r t : Receiver) (answer : Option (Result Release PacketError)) → PopsGated now r answer t → length t.packets.buffer.held ≤ length r.packets.buffer.held
gated_few now r t answer gated =
    let first : length gated.mid.packets.buffer.held ≤ length r.packets.buffer.held = drops_few now r gated.mid gated.dropped in
    let second : length t.packets.buffer.held ≤ length gated.mid.packets.buffer.held = once_few now gated.mid t answer gated.pops in
    omega (arith, first, second)

-- ---- requests

-- whatever may be requested at this time, there is no packet
abbrev AsksNone : Option Asking → ℕ → ℕ → Receiver → Type 0
AsksNone None now last r = Unit {0}
AsksNone (Some a) now last r = (packet : Vec ℕ) (b : Asking) → Asks now (is_heard now last a) r a (Ok (Some packet)) b → ⊥

-- nothing is due
abbrev IsNoneDue : ℕ → Bool → Receiver → Asking → Type 0
IsNoneDue now heard r a = has_any (numbers_due now (refreshed now heard r a).requests) (keyframe_is_due now (refreshed now heard r a).requests) ≡ false

none_asked : (now : ℕ) (heard : Bool) (r : Receiver) (a b : Asking) (packet : Vec ℕ) → IsNoneDue now heard r a → Asks now heard r a (Ok (Some packet)) b → ⊥
none_asked now heard r a b packet none asks = let no : true ≡ false = sym asks.packet_is.0 ∙ none in absurd (cc)

unheard_due : (now : ℕ) (r : Receiver) (a : Asking) → IsNoneDue now false r a
unheard_due now r a = ap (λ (q : Requests). has_any (numbers_due now q) (keyframe_is_due now q)) (updated_none now a.requests)

no_request : (now later last : ℕ) (r : Receiver) (a b : Asking) → Asks now (is_heard now last a) r a (Ok None) b → now ≤ later → IsBefore (deadline_of_requests b.requests) later → AsksNone (Some b) later last r
no_request now later last r a b asks after before = λ packet c again. by_heard (is_heard later last b) refl packet c again
  where
    by_heard : (h : Bool) → is_heard later last b ≡ h → (packet : Vec ℕ) (c : Asking) → Asks later h r b (Ok (Some packet)) c → ⊥
    by_heard false is packet c again = none_asked later false r b c packet (unheard_due later r b) again
    by_heard true is packet c again =
        let same : is_heard now last a ≡ is_heard now last b = sym (ap (λ (x : Asking). is_heard now last x) asks.after) in
        let heard : is_heard now last b ≡ true = grind (arith, nat_tests) in
        let first : Asks now true r a (Ok None) b = subst (λ (h : Bool). Asks now h r a (Ok None) b) (same ∙ heard) asks in
        none_asked later true r b c packet (due_later now later r a b first before).packet_is again

-- ---- a step without an event

-- a step has no event, or memory ran out for a request
abbrev IsQuietStep : Step → Type 0
IsQuietStep steps.Begun = ⊥
IsQuietStep (steps.Unit unit) = ⊥
IsQuietStep (steps.TooLarge unit) = ⊥
IsQuietStep (steps.Refused fault) = ⊥
IsQuietStep (steps.Feedback (Ok packet)) = ⊥
IsQuietStep (steps.Feedback (Err e)) = Unit {0}
IsQuietStep (steps.Ended why) = ⊥
IsQuietStep steps.Nothing = Unit {0}

nothing_quiet : (step : Step) → step ≡ steps.Nothing → IsQuietStep step
nothing_quiet step is = subst (λ (x : Step). IsQuietStep x) (sym is) tt

told_quiet : (told : Result (Option (Vec ℕ)) AllocError) (now last : ℕ) (r : Receiver) (a b : Asking) → AsksNone (Some a) now last r → Asks now (is_heard now last a) r a told b → IsQuietStep (step_of told)
told_quiet (Ok None) now last r a b none asks = tt
told_quiet (Ok (Some packet)) now last r a b none asks = absurd (none packet b asks)
told_quiet (Err e) now last r a b none asks = tt

requests_quiet : (o : Option Asking) (now : ℕ) (t u : StreamState) (step : Step) → AsksNone o now t.last t.receiver → RequestsBy o now t step u → IsQuietStep step
requests_quiet None now t u step none got = nothing_quiet step got.0
requests_quiet (Some a) now t u step none got = subst (λ (x : Step). IsQuietStep x) (sym got.answers) (told_quiet got.told now t.last t.receiver a got.asking none got.asks)

abbrev is_draining : Stage → Bool
is_draining stages.Probation = false
is_draining stages.Playing = false
is_draining (stages.Leaving why at) = false
is_draining (stages.Draining why) = true

rests_quiet : (g : Stage) (now : ℕ) (t u : StreamState) (step : Step) → is_draining g ≡ false → (g ≡ stages.Playing → AsksNone t.feedback now t.last t.receiver) → RestsBy g now t step u → IsQuietStep step
rests_quiet stages.Probation now t u step drains none got = nothing_quiet step got.0
rests_quiet stages.Playing now t u step drains none got = requests_quiet t.feedback now t u step (none refl) got
rests_quiet (stages.Leaving why at) now t u step drains none got = nothing_quiet step got.0
rests_quiet (stages.Draining why) now t u step drains none got = absurd (cc)

-- what the step leaves
record Rested (now : ℕ) (s t : StreamState) : Type 0 where
  receiver : t.receiver ≡ s.receiver
  announced_is : t.announced ≡ s.announced
  stage_is : t.stage ≡ s.stage
  last_is : t.last ≡ s.last
  drains : is_draining t.stage ≡ false
  asks : (later : ℕ) → now ≤ later → t.stage ≡ stages.Playing → IsBefore (requests_due t.feedback) later → AsksNone t.feedback later t.last t.receiver

other_stage : (s t : StreamState) (g : Stage) → t ≡ s → s.stage ≡ g → t.stage ≡ g
other_stage s t g same is = ap (λ (x : StreamState). x.stage) same ∙ is

stayed : (now : ℕ) (s t : StreamState) → t ≡ s → is_draining s.stage ≡ false → (s.stage ≡ stages.Playing → ⊥) → Rested now s t
stayed now s t same drains other = record {
  receiver = ap (λ (x : StreamState). x.receiver) same;
  announced_is = ap (λ (x : StreamState). x.announced) same;
  stage_is = ap (λ (x : StreamState). x.stage) same;
  last_is = ap (λ (x : StreamState). x.last) same;
  drains = ap (λ (x : StreamState). is_draining x.stage) same ∙ drains;
  asks = λ later after plays before. absurd (other (sym (ap (λ (x : StreamState). x.stage) same) ∙ plays));
}

asked : (o : Option Asking) (now : ℕ) (s t : StreamState) → s.feedback ≡ o → s.stage ≡ stages.Playing → RequestsBy {U = Release} o now s steps.Nothing t → Rested now s t
asked None now s t is plays got = record {
  receiver = ap (λ (x : StreamState). x.receiver) got.1;
  announced_is = ap (λ (x : StreamState). x.announced) got.1;
  stage_is = ap (λ (x : StreamState). x.stage) got.1;
  last_is = ap (λ (x : StreamState). x.last) got.1;
  drains = ap (λ (x : StreamState). is_draining x.stage) got.1 ∙ ap is_draining plays;
  asks = λ later after playing before. subst (λ (o : Option Asking). AsksNone o later t.last t.receiver) (sym (ap (λ (x : StreamState). x.feedback) got.1 ∙ is)) tt;
}
asked (Some a) now s t is plays got = subst (λ (x : StreamState). Rested now s x) (sym got.after) (record {
  receiver = refl;
  announced_is = refl;
  stage_is = refl;
  last_is = refl;
  drains = ap is_draining plays;
  asks = λ later after playing before.
      no_request now later s.last s.receiver a got.asking
      (subst (λ (told : Result (Option (Vec ℕ)) AllocError). Asks now (is_heard now s.last a) s.receiver a told got.asking) (told_none got.told got.answers) got.asks) after before;
})

rested : (g : Stage) (now : ℕ) (s t : StreamState) → s.stage ≡ g → RestsBy {U = Release} g now s steps.Nothing t → Rested now s t
rested stages.Probation now s t is got = stayed now s t got.1 (ap is_draining is) (λ plays. let other : stages.Probation ≡ stages.Playing = sym is ∙ plays in absurd (cc))
rested stages.Playing now s t is got = asked s.feedback now s t refl is got
rested (stages.Leaving why at) now s t is got =
    stayed now s t got.1 (ap is_draining is) (λ plays. let other : stages.Leaving why at ≡ stages.Playing = sym is ∙ plays in absurd (cc))
rested (stages.Draining why) now s t is got = let other : steps.Nothing ≡ steps.Ended why = got.0 in absurd (cc)

-- a stream that was asked: a pop without a unit, and then nothing
record Asked (now : ℕ) (idle : ℕ) (s t : StreamState) : Type 0 where
  gated : PopsGated now s.receiver None t.receiver
  announced_is : t.announced ≡ s.announced
  stage_is : t.stage ≡ s.stage
  last_is : t.last ≡ s.last
  drains : is_draining t.stage ≡ false
  goes_on : end_of now idle s ≡ None
  asks : (later : ℕ) → now ≤ later → t.stage ≡ stages.Playing → IsBefore (requests_due t.feedback) later → AsksNone t.feedback later t.last t.receiver

pub some_step : (told : Result (Popped Release) AllocError) → steps.Nothing ≡ step_with told → ⊥
some_step (Ok (popped.Unit unit)) is = absurd (cc)
some_step (Ok (popped.TooLarge unit)) is = absurd (cc)
some_step (Ok (popped.Refused fault)) is = absurd (cc)
some_step (Err e) is = absurd (cc)

followed : (told : Option (Result (Popped Release) AllocError)) (now : ℕ) (s t : StreamState) (r : Receiver) → PopsGated now s.receiver (answer_of told) r → Follows told now (record s { receiver = r }) steps.Nothing t
    → PopsGated now s.receiver None r × Rested now (record s { receiver = r }) t
followed None now s t r pops got = (pops, rested s.stage now (record s { receiver = r }) t refl got)
followed (Some told) now s t r pops got = absurd (some_step told got.0)

drained : (o : Option Ending) (now : Ticks) (idle : ℕ) (s m t : StreamState) → end_of now.0 idle s ≡ o → Drains o s m → Pops now m steps.Nothing t → Asked now.0 idle s t
drained None now idle s m t is drains pops =
    let first : Pops now s steps.Nothing t = subst (λ (x : StreamState). Pops now x steps.Nothing t) drains pops in
    let it = followed first.told now.0 s t first.receiver first.pops first.follows in
    record {
      gated = subst (λ (x : Receiver). PopsGated now.0 s.receiver None x) (sym it.1.receiver) it.0;
      announced_is = it.1.announced_is;
      stage_is = it.1.stage_is;
      last_is = it.1.last_is;
      drains = it.1.drains;
      goes_on = is;
      asks = it.1.asks;
    }
drained (Some why) now idle s m t is drains pops =
    let it = followed pops.told now.0 m t pops.receiver pops.pops pops.follows in
    let stage_is : t.stage ≡ stages.Draining why = it.1.stage_is ∙ ap (λ (x : StreamState). x.stage) drains.2 in
    let no : true ≡ false = sym (ap is_draining stage_is) ∙ it.1.drains in
    absurd (cc)

-- a stream in probation, or one that was asked
abbrev Went : ℕ → ℕ → StreamState → StreamState → Type 0
Went now idle s t = ((t ≡ s) × (is_probation s.stage ≡ true)) ⊎ (Asked now idle s t × (s.announced ≡ true) × (is_probation s.stage ≡ false))

went_by : (b announced : Bool) (now : Ticks) (idle : ℕ) (s t : StreamState) → is_probation s.stage ≡ b → s.announced ≡ announced → StepsBy b announced now idle s steps.Nothing t → Went now.0 idle s t
went_by true announced now idle s t is announced_is got = inl (got.1, is)
went_by false false now idle s t is announced_is got = let other : steps.Nothing ≡ steps.Begun = got.0 in absurd (cc)
went_by false true now idle s t is announced_is got = inr (drained (end_of now.0 idle s) now idle s got.0 t refl got.1 got.2, announced_is, is)

went : (now : Ticks) (idle : ℕ) (s t : StreamState) → Steps now idle s steps.Nothing t → Went now.0 idle s t
went now idle s t got = went_by (is_probation s.stage) s.announced now idle s t refl refl got

-- ---- the step after it

-- the end of the stream has not come
not_ended : (g : Stage) (now later idle last : ℕ) (deadline : Option ℕ) → now ≤ later → later < 2 ^ 64 → is_draining g ≡ false → end_by now idle last g ≡ None
    → IsBefore (due_by idle true deadline last g) later → end_by later idle last g ≡ None
not_ended stages.Probation now later idle last deadline after few drains goes before = refl
not_ended stages.Playing now later idle last deadline after few drains goes before = by_first (nat_le idle (now - last)) refl goes
  where
    by_time : (b : Bool) → nat_lt (last + idle) (2 ^ 64) ≡ b → nat_le idle (now - last) ≡ false → IsBefore (cond b (Some (last + idle)) None) later → nat_le idle (later - last) ≡ false
    by_time true is some early = grind (arith, nat_tests)
    by_time false is some early = grind (arith, nat_tests)

    by_first : (b : Bool) → nat_le idle (now - last) ≡ b → (if b then Some endings.Timeout else None) ≡ None → end_by later idle last stages.Playing ≡ None
    by_first true is goes = absurd (cc)
    by_first false is goes =
        let both = earlier_both (time_after last idle) deadline later before in
        ap (λ (b : Bool). if b then Some endings.Timeout else None) (by_time (nat_lt (last + idle) (2 ^ 64)) refl is both.0)
not_ended (stages.Leaving why at) now later idle last deadline after few drains goes before =
    let both = earlier_both (Some at) deadline later before in
    let not_yet : nat_le at later ≡ false = grind (arith, nat_tests, both.0) in
    ap (λ (b : Bool). if b then Some why else None) not_yet
not_ended (stages.Draining why) now later idle last deadline after few drains goes before = refl

-- nor has another deadline
not_due : (g : Stage) (later idle last : ℕ) (deadline : Option ℕ) → is_probation g ≡ false → is_draining g ≡ false → IsBefore (due_by idle true deadline last g) later → IsBefore deadline later
not_due stages.Probation later idle last deadline known drains before = absurd (cc)
not_due stages.Playing later idle last deadline known drains before = (earlier_both (time_after last idle) deadline later before).1
not_due (stages.Leaving why at) later idle last deadline known drains before = (earlier_both (Some at) deadline later before).1
not_due (stages.Draining why) later idle last deadline known drains before = absurd (cc)

-- a stream that was asked, and is asked again
record AskedAgain (later : ℕ) (idle : ℕ) (t : StreamState) : Type 0 where
  announced_is : t.announced ≡ true
  known : is_probation t.stage ≡ false
  drains : is_draining t.stage ≡ false
  goes_on : end_of later idle t ≡ None
  pops : PopsNothing later t.receiver.packets
  asks : t.stage ≡ stages.Playing → AsksNone t.feedback later t.last t.receiver

asked_again : (now later idle : ℕ) (s t : StreamState) → Asked now idle s t → s.announced ≡ true → is_probation s.stage ≡ false → length t.receiver.packets.buffer.held ≡ length s.receiver.packets.buffer.held
    → now ≤ later → later < 2 ^ 64 → IsBefore (due_of idle t) later → AskedAgain later idle t
asked_again now later idle s t it announced known same after few before =
    let announced_is : t.announced ≡ true = it.announced_is ∙ announced in
    let known_after : is_probation t.stage ≡ false = ap is_probation it.stage_is ∙ known in
    let due : IsBefore (due_by idle true (work_deadline t) t.last t.stage) later = subst (λ (b : Bool). IsBefore (due_by idle b (work_deadline t) t.last t.stage) later) announced_is before in
    let work : IsBefore (work_deadline t) later = not_due t.stage later idle t.last (work_deadline t) known_after it.drains due in
    let both = earlier_both (deadline_of t.receiver.packets) (request_deadline t.stage t.feedback) later work in
    let end_is : end_by now idle t.last t.stage ≡ None = subst (λ (g : Stage). end_by now idle t.last g ≡ None) (sym it.stage_is) (subst (λ (n : ℕ). end_by now idle n s.stage ≡ None) (sym it.last_is) it.goes_on) in
    record {
      announced_is = announced_is;
      known = known_after;
      drains = it.drains;
      goes_on = not_ended t.stage now later idle t.last (work_deadline t) after few it.drains end_is due;
      pops = receiver_rests now later s.receiver t.receiver it.gated same few both.0;
      asks = λ plays. it.asks later after plays (subst (λ (g : Stage). IsBefore (request_deadline g t.feedback) later) plays both.1);
    }

some_answer : (told : Result (Popped Release) AllocError) → answer_of (Some told) ≡ None → ⊥
some_answer (Ok (popped.Unit unit)) is = absurd (cc)
some_answer (Ok (popped.TooLarge unit)) is = absurd (cc)
some_answer (Ok (popped.Refused fault)) is = absurd (cc)
some_answer (Err e) is = absurd (cc)

followed_quiet : (told : Option (Result (Popped Release) AllocError)) (now : ℕ) (t u : StreamState) (r : Receiver) (step : Step) → answer_of told ≡ None → r ≡ t.receiver → is_draining t.stage ≡ false
    → (t.stage ≡ stages.Playing → AsksNone t.feedback now t.last t.receiver) → Follows told now (record t { receiver = r }) step u → IsQuietStep step
followed_quiet None now t u r step none same drains asks got =
    rests_quiet t.stage now (record t { receiver = r }) u step drains
    (λ plays. subst (λ (x : Receiver). AsksNone t.feedback now t.last x) (sym same) (asks plays)) got
followed_quiet (Some told) now t u r step none same drains asks got = absurd (some_answer told none)

popped_quiet : (later : Ticks) (idle : ℕ) (t u : StreamState) (step : Step) → AskedAgain later.0 idle t → Pops later t step u → IsQuietStep step
popped_quiet later idle t u step it pops =
    let same = gated_same later.0 t.receiver pops.receiver (answer_of pops.told) it.pops pops.pops in
    followed_quiet pops.told later.0 t u pops.receiver step same.0 same.1 it.drains it.asks pops.follows

asked_quiet : (later : Ticks) (idle : ℕ) (t u : StreamState) (step : Step) → AskedAgain later.0 idle t → Steps later idle t step u → IsQuietStep step
asked_quiet later idle t u step it got =
    let plays : Plays later idle t step u =
    subst (λ (announced : Bool). StepsBy false announced later idle t step u) it.announced_is (subst (λ (b : Bool). StepsBy b t.announced later idle t step u) it.known got) in
    let stays : plays.0 ≡ t = subst (λ (o : Option Ending). Drains o t plays.0) it.goes_on plays.1 in
    popped_quiet later idle t u step it (subst (λ (x : StreamState). Pops later x step u) stays plays.2)

stays_quiet : (now later : Ticks) (idle : ℕ) (s t u : StreamState) (step : Step) → Went now.0 idle s t → length t.receiver.packets.buffer.held ≡ length s.receiver.packets.buffer.held
    → now.0 ≤ later.0 → later.0 < 2 ^ 64 → IsBefore (due_of idle t) later.0 → Steps later idle t step u → IsQuietStep step
stays_quiet now later idle s t u step (inl still) same after few before got =
    let probation : is_probation t.stage ≡ true = ap (λ (x : StreamState). is_probation x.stage) still.0 ∙ still.1 in
    let nothing : StepsBy true t.announced later idle t step u = subst (λ (b : Bool). StepsBy b t.announced later idle t step u) probation got in
    nothing_quiet step nothing.0
stays_quiet now later idle s t u step (inr it) same after few before got =
    asked_quiet later idle t u step (asked_again now.0 later.0 idle s t it.0 it.1 it.2 same after few before) got

-- ---- the streams

went_few : (now idle : ℕ) (s t : StreamState) → Went now idle s t → length t.receiver.packets.buffer.held ≤ length s.receiver.packets.buffer.held
went_few now idle s t (inl still) = let same : length t.receiver.packets.buffer.held ≡ length s.receiver.packets.buffer.held = ap (λ (x : StreamState). length x.receiver.packets.buffer.held) still.0 in omega (arith, same)
went_few now idle s t (inr it) = gated_few now s.receiver t.receiver None it.0.gated

went_announced : (now idle : ℕ) (s t : StreamState) → Went now idle s t → t.announced ≡ s.announced
went_announced now idle s t (inl still) = ap (λ (x : StreamState). x.announced) still.0
went_announced now idle s t (inr it) = it.0.announced_is

quiet_few : (now : Ticks) (idle : ℕ) (ss ts : List StreamState) → AreQuiet now idle ss ts → held_in ts ≤ held_in ss
quiet_few now idle [] [] got = omega arith
quiet_few now idle [] (t ∷ ts) got = absurd got
quiet_few now idle (s ∷ ss) [] got = absurd got
quiet_few now idle (s ∷ ss) (t ∷ ts) got = omega (arith, went_few now.0 idle s t (went now idle s t got.0), quiet_few now idle ss ts got.1)

quiet_announced : (now : Ticks) (idle : ℕ) (ss ts : List StreamState) → AreQuiet now idle ss ts → any_announced ts ≡ any_announced ss
quiet_announced now idle [] [] got = refl
quiet_announced now idle [] (t ∷ ts) got = absurd got
quiet_announced now idle (s ∷ ss) [] got = absurd got
quiet_announced now idle (s ∷ ss) (t ∷ ts) got =
    ap (λ (b : Bool). b || any_announced ts) (went_announced now.0 idle s t (went now idle s t got.0)) ∙ ap (λ (b : Bool). s.announced || b) (quiet_announced now idle ss ts got.1)

-- each of the streams that were asked is quiet at a later time
one_quiet : (now later : Ticks) (idle : ℕ) (ss front rest : List StreamState) (t u : StreamState) (step : Step) → AreQuiet now idle ss (front ++ t ∷ rest) → held_in (front ++ t ∷ rest) ≡ held_in ss
    → now.0 ≤ later.0 → later.0 < 2 ^ 64 → IsBefore (due_in idle (front ++ t ∷ rest)) later.0 → Steps later idle t step u → IsQuietStep step
one_quiet now later idle [] [] rest t u step are same after few before got = absurd are
one_quiet now later idle [] (f ∷ fs) rest t u step are same after few before got = absurd are
one_quiet now later idle (s ∷ ss) [] rest t u step are same after few before got =
    let first = went now idle s t are.0 in
    let held : length t.receiver.packets.buffer.held ≡ length s.receiver.packets.buffer.held = omega (arith, same, went_few now.0 idle s t first, quiet_few now idle ss rest are.1) in
    stays_quiet now later idle s t u step first held after few (earlier_both (due_of idle t) (due_in idle rest) later.0 before).0 got
one_quiet now later idle (s ∷ ss) (f ∷ fs) rest t u step are same after few before got =
    let held : held_in (fs ++ t ∷ rest) ≡ held_in ss = omega (arith, same, went_few now.0 idle s f (went now idle s f are.0), quiet_few now idle ss (fs ++ t ∷ rest) are.1) in
    one_quiet now later idle ss fs rest t u step are.1 held after few (earlier_both (due_of idle f) (due_in idle (fs ++ t ∷ rest)) later.0 before).1 got

no_event : (s : StreamState) (step : Step) → IsQuietStep step → IsNoEvent (event_of s step)
no_event s steps.Begun quiet = absurd quiet
no_event s (steps.Unit unit) quiet = absurd quiet
no_event s (steps.TooLarge unit) quiet = absurd quiet
no_event s (steps.Refused fault) quiet = absurd quiet
no_event s (steps.Feedback (Ok packet)) quiet = absurd quiet
no_event s (steps.Feedback (Err e)) quiet = tt
no_event s (steps.Ended why) quiet = absurd quiet
no_event s steps.Nothing quiet = tt

-- ---- the reports

packet_none : (packet : Option (Result (Vec ℕ) AllocError)) → None ≡ report_event {U = Release} packet → packet ≡ None
packet_none None is = refl
packet_none (Some packet) is = absurd (cc)

some_packet : (packet : Result (Vec ℕ) AllocError) → None ≡ Some packet → ⊥
some_packet packet is = absurd (cc)

-- without a report no stream changes
unreported_if : (b : Bool) (f : FeedbackSettings) (interval tick_rate now : ℕ) (due : Option ℕ) (p : Port) (next : Option ℕ) (q : Port) → ReportsIf b f interval tick_rate now due p None next q → q ≡ p
unreported_if false f interval tick_rate now due p next q got = got.2
unreported_if true f interval tick_rate now due p next q got = absurd (some_packet got.0 got.1)

unreported_each : (o : Option ℕ) (f : FeedbackSettings) (tick_rate now : ℕ) (due : Option ℕ) (p : Port) (next : Option ℕ) (q : Port) → ReportsEach o f tick_rate now due p None next q → q ≡ p
unreported_each None f tick_rate now due p next q got = got.2
unreported_each (Some interval) f tick_rate now due p next q got = unreported_if (is_report_due now due p) f interval tick_rate now due p next q got

unreported : (o : Option FeedbackSettings) (tick_rate now : ℕ) (due : Option ℕ) (p : Port) (next : Option ℕ) (q : Port) → ReportsBy o tick_rate now due p None next q → q ≡ p
unreported None tick_rate now due p next q got = got.2
unreported (Some f) tick_rate now due p next q got = unreported_each f.report_interval f tick_rate now due p next q got

-- before its time there is no report
early_each : (o : Option ℕ) (f : FeedbackSettings) (tick_rate now : ℕ) (due : Option ℕ) (p : Port) (packet : Option (Result (Vec ℕ) AllocError)) (next : Option ℕ) (q : Port)
    → is_report_due now due p ≡ false → ReportsEach o f tick_rate now due p packet next q → packet ≡ None
early_each None f tick_rate now due p packet next q early got = got.0
early_each (Some interval) f tick_rate now due p packet next q early got =
    let none : ReportsIf false f interval tick_rate now due p packet next q = subst (λ (b : Bool). ReportsIf b f interval tick_rate now due p packet next q) early got in
    none.0

early : (o : Option FeedbackSettings) (tick_rate now : ℕ) (due : Option ℕ) (p : Port) (packet : Option (Result (Vec ℕ) AllocError)) (next : Option ℕ) (q : Port)
    → is_report_due now due p ≡ false → ReportsBy o tick_rate now due p packet next q → packet ≡ None
early None tick_rate now due p packet next q early_is got = got.0
early (Some f) tick_rate now due p packet next q early_is got = early_each f.report_interval f tick_rate now due p packet next q early_is got

not_time : (b : Bool) (now : ℕ) (due : Option ℕ) → IsBefore (deadline_if b due) now → (b && is_time now due) ≡ false
not_time false now due before = refl
not_time true now None before = refl
not_time true now (Some at) before = grind (arith, nat_tests, before)

-- ---- polls

pub record Polled (now : Ticks) (s t : Session) : Type 0 where
  pub quiet : AreQuiet now s.settings.idle_timeout s.port.streams t.port.streams
  settings : t.settings ≡ s.settings
  waiting : t.telephone.waiting ≡ []

polled_report : (now : Ticks) (s t : Session) (port : Port) → s.telephone.waiting ≡ [] → TakesTurn now s.settings.idle_timeout s.port None port → SendsReport {U = Release} now.0 (record s { port = port }) None t
    → Polled now s t
polled_report now s t port empty turn got =
    let none : got.packet ≡ None = packet_none got.packet got.answers in
    let same : got.port ≡ port =
    unreported s.settings.feedback s.settings.tick_rate now.0 s.report_due port got.due got.port
    (subst (λ (packet : Option (Result (Vec ℕ) AllocError)). ReportsBy s.settings.feedback s.settings.tick_rate now.0 s.report_due port packet got.due got.port) none got.reports) in
    let streams : t.port.streams ≡ turn.0 = ap (λ (x : Session). x.port.streams) got.left ∙ (ap (λ (p : Port). p.streams) same ∙ ap (λ (p : Port). p.streams) turn.2) in
    record {
      quiet = subst (λ (ts : List StreamState). AreQuiet now s.settings.idle_timeout s.port.streams ts) (sym streams) turn.1;
      settings = ap (λ (x : Session). x.settings) got.left;
      waiting = ap (λ (x : Session). x.telephone.waiting) got.left ∙ empty;
    }

some_event : (event : Event) → None ≡ Some event → ⊥
some_event event is = absurd (cc)

polled_turn : (event : Option Event) (now : Ticks) (s t : Session) (port : Port) → s.telephone.waiting ≡ [] → TakesTurn now s.settings.idle_timeout s.port event port
    → GoesOn event now.0 (record s { port = port }) None t → Polled now s t
polled_turn None now s t port empty turn got = polled_report now s t port empty turn got
polled_turn (Some event) now s t port empty turn got = absurd (some_event event got.0)

-- the feedback about the transport changes nothing else
sent_after : (now : Ticks) (s after t : Session) → Polled now s after → SendsTransport {U = Release} now.0 after None t → Polled now s t
sent_after now s after t it got = record {
  quiet = subst (λ (x : Session). AreQuiet now s.settings.idle_timeout s.port.streams x.port.streams) (sym got.left) it.quiet;
  settings = ap (λ (x : Session). x.settings) got.left ∙ it.settings;
  waiting = ap (λ (x : Session). x.telephone.waiting) got.left ∙ it.waiting;
}

polled_sent : (event : Option Event) (now : Ticks) (s after t : Session) → s.telephone.waiting ≡ [] → TurnsOrReports now s event after → SendsAfter event now.0 after None t
    → Polled now s t
polled_sent None now s after t empty turn got = sent_after now s after t (polled_turn turn.event now s after turn.port empty turn.turn turn.goes_on) got
polled_sent (Some event) now s after t empty turn got = absurd (some_event event got.0)

pub polled_after : (ws : List TelephonePacket) (now : Ticks) (s t : Session) → s.telephone.waiting ≡ ws → PollsAfter ws now s None t → Polled now s t
polled_after [] now s t is got = polled_sent got.event now s got.after t is got.turn got.sends
polled_after (w ∷ ws) now s t is got = absurd (some_event _ got.0)

none_waits : (q : Queue) (due : Option ℕ) → q.waiting ≡ [] → due_before q due ≡ due
none_waits q due is = ap (λ (ws : List TelephonePacket). if length ws == 0 then due else Some 0) is

reports_none : (later : Ticks) (t u : Session) (port : Port) (answer : Option Event) → AreQuiet later t.settings.idle_timeout t.port.streams port.streams → port.exchange ≡ t.port.exchange
    → IsBefore (report_deadline t.report_due t.port) later.0 → SendsReport later.0 (record t { port = port }) answer u → IsNoEvent answer
reports_none later t u port answer are exchange before got =
    let same : is_reporting port ≡ is_reporting t.port =
    ap (λ (b : Bool). b || is_some port.exchange.peer) (quiet_announced later t.settings.idle_timeout t.port.streams port.streams are)
    ∙ ap (λ (x : TimeExchange). any_announced t.port.streams || is_some x.peer) exchange in
    let early_is : is_report_due later.0 t.report_due port ≡ false = ap (λ (b : Bool). b && is_time later.0 t.report_due) same ∙ not_time (is_reporting t.port) later.0 t.report_due before in
    let none : got.packet ≡ None = early t.settings.feedback t.settings.tick_rate later.0 t.report_due port got.packet got.due got.port early_is got.reports in
    subst (λ (e : Option Event). IsNoEvent e) (sym (got.answers ∙ ap report_event none)) tt

turns_none : (event : Option Event) (now later : Ticks) (s t u : Session) (port : Port) (answer : Option Event) → Polled now s t → held_in t.port.streams ≡ held_in s.port.streams
    → now.0 ≤ later.0 → later.0 < 2 ^ 64 → IsBefore (due_in t.settings.idle_timeout t.port.streams) later.0 → IsBefore (report_deadline t.report_due t.port) later.0
    → TakesTurn later t.settings.idle_timeout t.port event port → GoesOn event later.0 (record t { port = port }) answer u → IsNoEvent answer
turns_none None now later s t u port answer it same after few due report turn got =
    let streams : port.streams ≡ turn.0 = ap (λ (p : Port). p.streams) turn.2 in
    reports_none later t u port answer (subst (λ (ts : List StreamState). AreQuiet later t.settings.idle_timeout t.port.streams ts) (sym streams) turn.1) (ap (λ (p : Port). p.exchange) turn.2) report got
turns_none (Some event) now later s t u port answer it same after few due report turn got =
    let quiet : AreQuiet now t.settings.idle_timeout s.port.streams (turn.front ++ turn.stream ∷ turn.rest) =
    subst (λ (ts : List StreamState). AreQuiet now t.settings.idle_timeout s.port.streams ts) turn.there
    (subst (λ (x : SessionSettings). AreQuiet now x.idle_timeout s.port.streams t.port.streams) (sym it.settings) it.quiet) in
    let step_quiet : IsQuietStep turn.step =
    one_quiet now later t.settings.idle_timeout s.port.streams turn.front turn.rest turn.stream turn.stepped turn.step quiet
    (subst (λ (ts : List StreamState). held_in ts ≡ held_in s.port.streams) turn.there same) after few
    (subst (λ (ts : List StreamState). IsBefore (due_in t.settings.idle_timeout ts) later.0) turn.there due) turn.steps in
    subst (λ (e : Option Event). IsNoEvent e) (sym got.0) (subst (λ (e : Option Event). IsNoEvent e) (sym turn.tells) (no_event turn.stepped turn.step step_quiet))

-- ---- the feedback about the transport

pub not_come : (due : Option ℕ) (now : ℕ) → IsBefore due now → has_come due now ≡ false
not_come None now before = refl
not_come (Some at) now before = grind (arith, nat_tests, before)

none_sent : (f : FeedbackSettings) (now : ℕ) (r q : Reporter) (packet : Option (Result (Vec ℕ) AllocError)) → IsBefore (due_at r) now → Sends f now r packet q → packet ≡ None
none_sent f now r q None before got = refl
none_sent f now r q (Some (Ok packet)) before got = let no : true ≡ false = sym got.0 ∙ not_come (due_at r) now before in absurd (cc)
none_sent f now r q (Some (Err e)) before got = let no : true ≡ false = sym got.0 ∙ not_come (due_at r) now before in absurd (cc)

none_from : (r : Option Reporter) (f : FeedbackSettings) (now : ℕ) (packet : Option (Result (Vec ℕ) AllocError)) (q : Option Reporter) → IsBefore (transport_deadline r) now
    → SendsFrom r f now packet q → packet ≡ None
none_from None f now packet q before got = got.0
none_from (Some r) f now packet q before got = none_sent f now r got.0 packet before got.1

none_by : (o : Option FeedbackSettings) (now : ℕ) (r : Option Reporter) (packet : Option (Result (Vec ℕ) AllocError)) (q : Option Reporter) → IsBefore (transport_deadline r) now
    → SendsBy o now r packet q → packet ≡ None
none_by None now r packet q before got = got.0
none_by (Some f) now r packet q before got = none_from r f now packet q before got

transport_stays : (event : Option Event) (now : ℕ) (s : Session) (answer : Option Event) (t : Session) → GoesOn event now s answer t → t.transport ≡ s.transport
transport_stays None now s answer t got = ap (λ (x : Session). x.transport) got.left
transport_stays (Some event) now s answer t got = ap (λ (x : Session). x.transport) got.1

no_feedback : (later : ℕ) (t after u : Session) (answer : Option Event) → after.transport ≡ t.transport → IsBefore (transport_deadline t.transport) later → SendsTransport later after answer u
    → IsNoEvent answer
no_feedback later t after u answer same before got =
    let early_is : IsBefore (transport_deadline after.transport) later = subst (λ (r : Option Reporter). IsBefore (transport_deadline r) later) (sym same) before in
    let none : got.packet ≡ None = none_by after.settings.feedback later after.transport got.packet got.transport early_is got.sends in
    subst (λ (e : Option Event). IsNoEvent e) (sym (got.answers ∙ ap transport_event none)) tt

sends_none : (event : Option Event) (later : ℕ) (t after u : Session) (answer : Option Event) → after.transport ≡ t.transport → IsBefore (transport_deadline t.transport) later → IsNoEvent event
    → SendsAfter event later after answer u → IsNoEvent answer
sends_none None later t after u answer same before quiet got = no_feedback later t after u answer same before got
sends_none (Some event) later t after u answer same before quiet got = subst (λ (e : Option Event). IsNoEvent e) (sym got.0) quiet

again_none : (now later : Ticks) (s t u : Session) (answer : Option Event) → Polled now s t → held_in t.port.streams ≡ held_in s.port.streams → now.0 ≤ later.0 → later.0 < 2 ^ 64
    → IsBefore (next_of t) later.0 → Polls later t answer u → IsNoEvent answer
again_none now later s t u answer it same after few before got =
    let due : Option ℕ = earlier (due_in t.settings.idle_timeout t.port.streams) (report_deadline t.report_due t.port) in
    let all = earlier_both due (transport_deadline t.transport) later.0
    (subst (λ (o : Option ℕ). IsBefore o later.0) (none_waits t.telephone (earlier due (transport_deadline t.transport)) it.waiting) before) in
    let both = earlier_both (due_in t.settings.idle_timeout t.port.streams) (report_deadline t.report_due t.port) later.0 all.0 in
    let sends : TurnsOrSends later t answer u = subst (λ (ws : List TelephonePacket). PollsAfter ws later t answer u) it.waiting got in
    let turns : TurnsOrReports later t sends.event sends.after = sends.turn in
    sends_none sends.event later.0 t sends.after u answer
    (transport_stays turns.event later.0 (record t { port = turns.port }) sends.event sends.after turns.goes_on) all.1
    (turns_none turns.event now later s t sends.after turns.port sends.event it same after few both.0 both.1 turns.turn turns.goes_on) sends.sends

-- a poll without an event in which no packet left
pub idle_after : (now : Ticks) (s t : Session) (answer : Option Event) → Polls now s answer t → answer ≡ None → held_in t.port.streams ≡ held_in s.port.streams → IsIdle now.0 t
idle_after now s t answer got none same = λ later again u after few before polled.
    again_none now later s t u again
    (polled_after s.telephone.waiting now s t refl (subst (λ (e : Option Event). PollsAfter s.telephone.waiting now s e t) none got))
    same after few before polled
