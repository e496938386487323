-- One poll of a session, and one stream.
use Rattle.std.proofs.Common.{◌≡◌, ◌≤◌, ◌∙◌, ◌⊎◌, inl, inr, refl, sym, ap, ap₂, subst, subst₂, ℕ, ◌+◌, ◌==◌, ◌&&◌, not, if◌then◌else◌, Bool, true, false, List, [], ◌∷◌, ◌++◌, Option, Some, None, Result, Ok, Err, arith}
use Rattle.std.specs.Global.{Vec}
use Rattle.std.specs.declared.alloc.AllocError.{AllocError}
use Rattle.codec_payload_base.specs.declared.wire.Ticks.{Ticks}
use Rattle.codec_payload_metadata.specs.Release.{Release}
use Rattle.codec_payload_receiver.specs.declared.pops.Popped.{Popped}
use Rattle.codec_payload_receiver.specs.declared.pops.Popped.TheVariants as popped
use Rattle.codec_payload_session_requests.specs.Requests.{Asking, answered_if, is_heard}
use Rattle.codec_payload_session_requests.specs.declared.requests.WaitRange.{WaitRange}
use Rattle.codec_payload_session_stream.specs.Streams.{Drains, Follows, Plays, RequestsBy, RestsBy, Steps, StepsBy, end_by, end_of, is_keyframe, is_probation, stage_after, step_of, step_with}
use Rattle.codec_payload_session_stream.specs.Turns.{event_of}
use Rattle.codec_payload_session.specs.Turns.{kept_after}
use Rattle.codec_payload_session_formats.specs.declared.formats.Format.{Format}
use Rattle.codec_payload_session_stream.specs.Units.{Event}
use Rattle.codec_payload_session_stream.specs.declared.events.Event.TheVariants as events
use Rattle.codec_payload_session_stream.specs.declared.stream.Ending.{Ending}
use Rattle.codec_payload_session_stream.specs.declared.stream.Stage.{Stage}
use Rattle.codec_payload_session_stream.specs.declared.stream.Stage.TheVariants as stages
use Rattle.codec_payload_session_stream.specs.declared.stream.StreamState.{StreamState}
use Rattle.codec_payload_session_runs.proofs.AloneLemmas.{finishes_append, made_append, poll_of, pops_append, reports_append, runs_append, shown_append}
use Rattle.codec_payload_session_runs.proofs.WaitRangeLemmas.{answered_range, asks_range}
use Rattle.codec_payload_session_runs.specs.Lives.{AreMadeBy, AreOfOne, FollowedWaits, ReceiverCall, RunsAlone, age_range, events_by, finishes, follows, is_same, many_finishes, many_pops, many_reports, one_call, one_event, pops, released_by, shown, trip_range}
use Rattle.codec_payload_session_runs.specs.declared.run.StepAnswer.TheVariants as answers
use Rattle.codec_payload_session_runs.proofs.StreamLemmas.{IsKnown, own_waits, FinishedBy, Finishes, none_finished, same_is}

-- what the event of a stream says of it: the stream stays, or it is removed. `kept` puts the stream back in front of the others
abbrev pub Kind : (announced after : Bool) (ssrc payload_type : ℕ) → Option Event → (List StreamState → List StreamState) → StreamState → Type 0
Kind announced after ssrc payload_type event kept y =
    AreOfOne announced (events_by ssrc payload_type event) after × ((rest : List StreamState) → kept rest ≡ y ∷ rest)
    ⊎ ((why : Ending) × (announced ≡ true) × (events_by ssrc payload_type event ≡ events.Ended ssrc payload_type why ∷ []) × ((rest : List StreamState) → kept rest ≡ rest))

-- the event is of no other stream
abbrev pub IsOwn : Ticks → ℕ → ℕ → Option Event → Type 0
IsOwn now ssrc payload_type event =
    (s p : ℕ) → is_same s p ssrc payload_type ≡ false → (events_by s p event ≡ []) × (released_by s p now event ≡ [])

-- what a poll makes of a stream that it asks
pub record Stepped (now : Ticks) (x : StreamState) (event : Option Event) (kept : List StreamState → List StreamState) (y : StreamState) : Type 0 where
  pub ssrc_is : y.ssrc ≡ x.ssrc
  pub format : y.format ≡ x.format
  pub ranges : own_waits y ≡ own_waits x
  pub part : List ReceiverCall
  pub alone : RunsAlone part x.receiver y.receiver
  pub made : (ssrc : ℕ) (f : Format) (w : FollowedWaits) (told : Option Event) → AreMadeBy ssrc f w (poll_of now told) part
  pub one_pop : many_pops part ≤ 1
  pub one_end : many_finishes part ≤ 1
  pub no_report : many_reports part ≡ 0
  pub shows : shown part ≡ released_by x.ssrc x.format.payload_type now event
  pub own : IsOwn now x.ssrc x.format.payload_type event
  pub kind : Kind x.announced y.announced x.ssrc x.format.payload_type event kept y
  pub known : IsKnown x → IsKnown y
  pub finishes_it : Finishes x.stage y.stage part
  pub edges : y.edges ≡ x.edges

record Drained (now : Ticks) (x y : StreamState) : Type 0 where
  ssrc_is : y.ssrc ≡ x.ssrc
  format : y.format ≡ x.format
  ranges : own_waits y ≡ own_waits x
  announced_is : y.announced ≡ x.announced
  stage_is : is_probation x.stage ≡ false → is_probation y.stage ≡ false
  part : List ReceiverCall
  alone : RunsAlone part x.receiver y.receiver
  made : (ssrc : ℕ) (f : Format) (w : FollowedWaits) (told : Option Event) → AreMadeBy ssrc f w (poll_of now told) part
  no_pop : many_pops part ≡ 0
  one_end : many_finishes part ≤ 1
  no_report : many_reports part ≡ 0
  hidden : shown part ≡ []
  finishes_it : Finishes x.stage y.stage part
  edges : y.edges ≡ x.edges

-- a stream that is drained does not end again
ending_finished : (now idle last : ℕ) (stage : Stage) (why : Ending) (n : ℕ) → end_by now idle last stage ≡ Some why → FinishedBy stage n → n + 1 ≤ 1
ending_finished now idle last stages.Probation why n is got = absurd (cc)
ending_finished now idle last stages.Playing why n is got = omega (arith, got)
ending_finished now idle last (stages.Leaving own at) why n is got = omega (arith, got)
ending_finished now idle last (stages.Draining own) why n is got = absurd (cc)

drained : (now : Ticks) (idle : ℕ) (o : Option Ending) (x y : StreamState) → end_of now.0 idle x ≡ o → Drains o x y → Drained now x y
drained now idle None x y is got = subst (λ (z : StreamState). Drained now x z) (sym got)
    (record {
      ssrc_is = refl;
      format = refl;
      ranges = refl;
      announced_is = refl;
      stage_is = λ is. is;
      part = [];
      alone = refl;
      made = λ s f w told. tt;
      no_pop = refl;
      one_end = omega arith;
      no_report = refl;
      hidden = refl;
      finishes_it = none_finished x.stage x.stage [] refl refl;
      edges = refl;
    })
drained now idle (Some why) x y is got = subst (λ (z : StreamState). Drained now x z) (sym got.2)
    (record {
      ssrc_is = refl;
      format = refl;
      ranges = refl;
      announced_is = refl;
      stage_is = λ is. refl;
      part = finishes ∷ [];
      alone = (got.0, got.1, refl);
      made = λ s f w told. (tt, tt);
      no_pop = refl;
      one_end = omega arith;
      no_report = refl;
      hidden = refl;
      finishes_it = λ n was. ending_finished now.0 idle x.last x.stage why n is was;
      edges = refl;
    })

-- what follows a pop of an announced stream
record Told (now : Ticks) (ssrc payload_type : ℕ) (popping : Option (Result (Popped Release) AllocError)) (event : Option Event) (kept : List StreamState → List StreamState) (y : StreamState) : Type 0 where
  shows : shown (pops now popping ∷ []) ≡ released_by ssrc payload_type now event
  own : IsOwn now ssrc payload_type event
  kind : Kind true true ssrc payload_type event kept y

record Followed (now : Ticks) (popping : Option (Result (Popped Release) AllocError)) (m : StreamState) (event : Option Event) (kept : List StreamState → List StreamState) (y : StreamState) : Type 0 where
  ssrc_is : y.ssrc ≡ m.ssrc
  format : y.format ≡ m.format
  ranges : own_waits y ≡ own_waits m
  announced_is : y.announced ≡ m.announced
  stage_is : y.stage ≡ m.stage
  receiver : y.receiver ≡ m.receiver
  edges : y.edges ≡ m.edges
  tells : Told now y.ssrc y.format.payload_type popping event kept y

abbrev stays_with : StreamState → List StreamState → List StreamState
stays_with y rest = y ∷ rest

abbrev is_removed : List StreamState → List StreamState
is_removed rest = rest

nothing_told : (now : Ticks) (y : StreamState) → Told now y.ssrc y.format.payload_type None None (stays_with y) y
nothing_told now y = record { shows = refl; own = λ s p other. (refl, refl); kind = inl (refl, λ rest. refl) }

feedback_told : (now : Ticks) (packet : Result (Vec ℕ) AllocError) (y : StreamState)
    → Told now y.ssrc y.format.payload_type None (Some (events.Feedback y.ssrc y.format.payload_type packet)) (stays_with y) y
feedback_told now packet y =
    let same : is_same y.ssrc y.format.payload_type y.ssrc y.format.payload_type ≡ true = same_is y.ssrc y.format.payload_type in
    let event : Event = events.Feedback y.ssrc y.format.payload_type packet in
    record {
      shows = refl;
      own = λ s p other. (ap (λ (b : Bool). one_event b event) other, refl);
      kind = inl (subst (λ (b : Bool). AreOfOne true (one_event b event) true) (sym same) (refl, refl), λ rest. refl);
    }

ended_told : (now : Ticks) (why : Ending) (y : StreamState) → Told now y.ssrc y.format.payload_type None (Some (events.Ended y.ssrc y.format.payload_type why)) is_removed y
ended_told now why y =
    let same : is_same y.ssrc y.format.payload_type y.ssrc y.format.payload_type ≡ true = same_is y.ssrc y.format.payload_type in
    let event : Event = events.Ended y.ssrc y.format.payload_type why in
    record {
      shows = refl;
      own = λ s p other. (ap (λ (b : Bool). one_event b event) other, refl);
      kind = inr (why, refl, ap (λ (b : Bool). one_event b event) same, λ rest. refl);
    }

answer_told : (now : Ticks) (told : Result (Popped Release) AllocError) (y : StreamState)
    → Told now y.ssrc y.format.payload_type (Some told) (event_of y (step_with told)) (λ (rest : List StreamState). kept_after (step_with told) y rest) y
answer_told now (Ok (popped.Unit unit)) y =
    let same : is_same y.ssrc y.format.payload_type y.ssrc y.format.payload_type ≡ true = same_is y.ssrc y.format.payload_type in
    let event : Event = events.Unit y.ssrc y.format.payload_type y.receiver.time y.receiver.gates.gate.shows y.receiver.gates.is_keyframe (Ok unit) in
    record {
      shows = ap (λ (b : Bool). one_call b (pops now (Some (Ok (popped.Unit unit))))) (sym same);
      own = λ s p other. (ap (λ (b : Bool). one_event b event) other, ap (λ (b : Bool). one_call b (pops now (Some (Ok (popped.Unit unit))))) other);
      kind = inl (subst (λ (b : Bool). AreOfOne true (one_event b event) true) (sym same) (refl, refl), λ rest. refl);
    }
answer_told now (Ok (popped.TooLarge unit)) y =
    let same : is_same y.ssrc y.format.payload_type y.ssrc y.format.payload_type ≡ true = same_is y.ssrc y.format.payload_type in
    let event : Event = events.TooLarge y.ssrc y.format.payload_type unit in
    record {
      shows = ap (λ (b : Bool). one_call b (pops now (Some (Ok (popped.TooLarge unit))))) (sym same);
      own = λ s p other. (ap (λ (b : Bool). one_event b event) other, ap (λ (b : Bool). one_call b (pops now (Some (Ok (popped.TooLarge unit))))) other);
      kind = inl (subst (λ (b : Bool). AreOfOne true (one_event b event) true) (sym same) (refl, refl), λ rest. refl);
    }
answer_told now (Ok (popped.Refused fault)) y =
    let same : is_same y.ssrc y.format.payload_type y.ssrc y.format.payload_type ≡ true = same_is y.ssrc y.format.payload_type in
    let event : Event = events.Refused y.ssrc y.format.payload_type fault in
    record {
      shows = ap (λ (b : Bool). one_call b (pops now (Some (Ok (popped.Refused fault))))) (sym same);
      own = λ s p other. (ap (λ (b : Bool). one_event b event) other, ap (λ (b : Bool). one_call b (pops now (Some (Ok (popped.Refused fault))))) other);
      kind = inl (subst (λ (b : Bool). AreOfOne true (one_event b event) true) (sym same) (refl, refl), λ rest. refl);
    }
answer_told now (Err e) y =
    let same : is_same y.ssrc y.format.payload_type y.ssrc y.format.payload_type ≡ true = same_is y.ssrc y.format.payload_type in
    let event : Event = events.Unit y.ssrc y.format.payload_type y.receiver.time y.receiver.gates.gate.shows y.receiver.gates.is_keyframe (Err e) in
    record {
      shows = ap (λ (b : Bool). one_call b (pops now (Some (Err e)))) (sym same);
      own = λ s p other. (ap (λ (b : Bool). one_event b event) other, ap (λ (b : Bool). one_call b (pops now (Some (Err e)))) other);
      kind = inl (subst (λ (b : Bool). AreOfOne true (one_event b event) true) (sym same) (refl, refl), λ rest. refl);
    }

same_followed : (now : Ticks) (popping : Option (Result (Popped Release) AllocError)) (m : StreamState) (event : Option Event) (kept : List StreamState → List StreamState)
    → Told now m.ssrc m.format.payload_type popping event kept m → Followed now popping m event kept m
same_followed now popping m event kept tells = record { ssrc_is = refl; format = refl; ranges = refl; announced_is = refl; stage_is = refl; receiver = refl; edges = refl; tells = tells }

-- by the packet of the requests, if there is one
asked_told : (told : Result (Option (Vec ℕ)) AllocError) (now : Ticks) (y : StreamState) → Told now y.ssrc y.format.payload_type None (event_of y (step_of told)) (λ (rest : List StreamState). kept_after (step_of told) y rest) y
asked_told (Ok None) now y = nothing_told now y
asked_told (Ok (Some packet)) now y = feedback_told now (Ok packet) y
asked_told (Err e) now y = feedback_told now (Err e) y

requests_followed : (o : Option Asking) (now : Ticks) (m : StreamState) (step : _) (y : StreamState) → m.feedback ≡ o → RequestsBy o now.0 m step y → Followed now None m (event_of y step) (λ (rest : List StreamState). kept_after step y rest) y
requests_followed None now m step y is got =
    subst₂ (λ (st : _) (z : StreamState). Followed now None m (event_of z st) (λ (rest : List StreamState). kept_after st z rest) z) (sym got.0) (sym got.1)
    (same_followed now None m None (stays_with m) (nothing_told now m))
requests_followed (Some a) now m step y is got =
    subst₂ (λ (st : _) (z : StreamState). Followed now None m (event_of z st) (λ (rest : List StreamState). kept_after st z rest) z) (sym got.answers) (sym got.after)
    (record {
      ssrc_is = refl;
      format = refl;
      ranges = ap (λ (range : Option WaitRange). record { by_trip = range; by_age = age_range m.late })
          (asks_range got.told now.0 (is_heard now.0 m.last a) m.receiver a got.asking got.asks ∙ sym (ap trip_range is));
      announced_is = refl;
      stage_is = refl;
      receiver = refl;
      edges = refl;
      tells = asked_told got.told now (record m { feedback = Some got.asking });
    })

rests_followed : (stage : Stage) (now : Ticks) (m : StreamState) (step : _) (y : StreamState) → RestsBy stage now.0 m step y → Followed now None m (event_of y step) (λ (rest : List StreamState). kept_after step y rest) y
rests_followed stages.Probation now m step y got =
    subst₂ (λ (st : _) (z : StreamState). Followed now None m (event_of z st) (λ (rest : List StreamState). kept_after st z rest) z) (sym got.0) (sym got.1)
    (same_followed now None m None (stays_with m) (nothing_told now m))
rests_followed stages.Playing now m step y got = requests_followed m.feedback now m step y refl got
rests_followed (stages.Leaving why at) now m step y got =
    subst₂ (λ (st : _) (z : StreamState). Followed now None m (event_of z st) (λ (rest : List StreamState). kept_after st z rest) z) (sym got.0) (sym got.1)
    (same_followed now None m None (stays_with m) (nothing_told now m))
rests_followed (stages.Draining why) now m step y got =
    subst₂ (λ (st : _) (z : StreamState). Followed now None m (event_of z st) (λ (rest : List StreamState). kept_after st z rest) z) (sym got.0) (sym got.1)
    (same_followed now None m (Some (events.Ended m.ssrc m.format.payload_type why)) is_removed (ended_told now why m))

followed : (popping : Option (Result (Popped Release) AllocError)) (now : Ticks) (m : StreamState) (step : _) (y : StreamState) → Follows popping now.0 m step y
    → Followed now popping m (event_of y step) (λ (rest : List StreamState). kept_after step y rest) y
followed None now m step y got = rests_followed m.stage now m step y got
followed (Some told) now m step y got =
    subst₂ (λ (st : _) (z : StreamState). Followed now (Some told) m (event_of z st) (λ (rest : List StreamState). kept_after st z rest) z) (sym got.0) (sym got.1)
    (record {
      ssrc_is = refl;
      format = refl;
      ranges = ap (λ (range : Option WaitRange). record { by_trip = range; by_age = age_range m.late }) (answered_range (is_keyframe told m.receiver) m.feedback);
      announced_is = refl;
      stage_is = refl;
      receiver = refl;
      edges = refl;
      tells = answer_told now told (record m { feedback = answered_if (is_keyframe told m.receiver) m.feedback });
    })

plays_stepped : (now : Ticks) (idle : ℕ) (x : StreamState) (step : _) (y : StreamState) → is_probation x.stage ≡ false → x.announced ≡ true → Plays now idle x step y
    → Stepped now x (event_of y step) (λ (rest : List StreamState). kept_after step y rest) y
plays_stepped now idle x step y plays announced got =
    let d : Drained now x got.0 = drained now idle (end_of now.0 idle x) x got.0 refl got.1 in
    let f : Followed now got.2.told (record got.0 { receiver = got.2.receiver }) (event_of y step) (λ (rest : List StreamState). kept_after step y rest) y =
    followed got.2.told now (record got.0 { receiver = got.2.receiver }) step y got.2.follows in
    let own : List ReceiverCall = pops now got.2.told ∷ [] in
    let announced_after : y.announced ≡ true = f.announced_is ∙ (d.announced_is ∙ announced) in
    let stage_after : is_probation y.stage ≡ false = ap (λ (s : Stage). is_probation s) f.stage_is ∙ d.stage_is plays in
    let finishes_part : many_finishes (d.part ++ own) ≡ many_finishes d.part = omega (arith, finishes_append d.part own) in
    let ssrc_is : y.ssrc ≡ x.ssrc = f.ssrc_is ∙ d.ssrc_is in
    let format : y.format ≡ x.format = f.format ∙ d.format in
    let tells : Told now x.ssrc x.format.payload_type got.2.told (event_of y step) (λ (rest : List StreamState). kept_after step y rest) y =
    subst₂ (λ (s : ℕ) (g : Format). Told now s g.payload_type got.2.told (event_of y step) (λ (rest : List StreamState). kept_after step y rest) y) ssrc_is format f.tells in
    record {
      ssrc_is = ssrc_is;
      format = format;
      ranges = f.ranges ∙ d.ranges;
      part = d.part ++ own;
      alone = runs_append d.part own x.receiver got.0.receiver y.receiver d.alone (got.2.receiver, (got.2.pops, got.2.refused, got.2.large), f.receiver);
      made = λ s g w told. made_append s g w (poll_of now told) d.part own (d.made s g w told) (refl, tt);
      one_pop = omega (arith, pops_append d.part own, d.no_pop);
      one_end = omega (arith, finishes_append d.part own, d.one_end);
      no_report = omega (arith, reports_append d.part own, d.no_report);
      shows = shown_append d.part own ∙ (ap (λ (cs : List ReceiverCall). cs ++ shown own) d.hidden ∙ tells.shows);
      own = tells.own;
      kind = subst₂ (λ (a b : Bool). Kind a b x.ssrc x.format.payload_type (event_of y step) (λ (rest : List StreamState). kept_after step y rest) y) (sym announced) (sym announced_after) tells.kind;
      known = λ known is. stage_after;
      finishes_it = λ n was. subst₂ (λ (stage : Stage) (m : ℕ). FinishedBy stage (n + m)) (sym f.stage_is) (sym finishes_part) (d.finishes_it n was);
      edges = f.edges ∙ d.edges;
    }

-- an event with the beginning of a stream
begun_stepped : (now : Ticks) (x : StreamState) → x.announced ≡ false → is_probation x.stage ≡ false
    → Stepped now x (Some (events.Begun x.ssrc x.format.payload_type)) (stays_with (record x { announced = true })) (record x { announced = true })
begun_stepped now x announced stage_is =
    let same : is_same x.ssrc x.format.payload_type x.ssrc x.format.payload_type ≡ true = same_is x.ssrc x.format.payload_type in
    let event : Event = events.Begun x.ssrc x.format.payload_type in
    record {
      ssrc_is = refl;
      format = refl;
      ranges = refl;
      part = [];
      alone = refl;
      made = λ s f w told. tt;
      one_pop = omega arith;
      one_end = omega arith;
      no_report = refl;
      shows = refl;
      own = λ s p other. (ap (λ (b : Bool). one_event b event) other, refl);
      kind = inl (subst (λ (b : Bool). AreOfOne x.announced (one_event b event) true) (sym same) (announced, refl), λ rest. refl);
      known = λ known is. stage_is;
      finishes_it = none_finished x.stage x.stage [] refl refl;
      edges = refl;
    }

still_stepped : (now : Ticks) (x : StreamState) → Stepped now x None (stays_with x) x
still_stepped now x = record {
  ssrc_is = refl;
  format = refl;
  ranges = refl;
  part = [];
  alone = refl;
  made = λ s f w told. tt;
  one_pop = omega arith;
  one_end = omega arith;
  no_report = refl;
  shows = refl;
  own = λ s p other. (refl, refl);
  kind = inl (refl, λ rest. refl);
  known = λ known. known;
  finishes_it = none_finished x.stage x.stage [] refl refl;
  edges = refl;
}

by_stepped : (b announced : Bool) (now : Ticks) (idle : ℕ) (x : StreamState) (step : _) (y : StreamState) → is_probation x.stage ≡ b → x.announced ≡ announced → StepsBy b announced now idle x step y
    → Stepped now x (event_of y step) (λ (rest : List StreamState). kept_after step y rest) y
by_stepped true announced now idle x step y stage_is announced_is got =
    subst₂ (λ (st : _) (z : StreamState). Stepped now x (event_of z st) (λ (rest : List StreamState). kept_after st z rest) z) (sym got.0) (sym got.1) (still_stepped now x)
by_stepped false false now idle x step y stage_is announced_is got =
    subst₂ (λ (st : _) (z : StreamState). Stepped now x (event_of z st) (λ (rest : List StreamState). kept_after st z rest) z) (sym got.0) (sym got.1) (begun_stepped now x announced_is stage_is)
by_stepped false true now idle x step y stage_is announced_is got = plays_stepped now idle x step y stage_is announced_is got

pub steps_stepped : (now : Ticks) (idle : ℕ) (x : StreamState) (step : _) (y : StreamState) → Steps now idle x step y → Stepped now x (event_of y step) (λ (rest : List StreamState). kept_after step y rest) y
steps_stepped now idle x step y got = by_stepped (is_probation x.stage) x.announced now idle x step y refl refl got
