-- Streams of a session end for a cause.
use Rattle.std.proofs.Common.{◌≡◌, ◌∙◌, ◌⊎◌, inl, inr, refl, sym, ap, ap₂, subst, subst₂, ℕ, zero, suc, ◌-◌, cond, Bool, true, false, List, [], ◌∷◌, ◌++◌, map, Option, Some, None, Result, Ok, Err, append_assoc, slice_get, slice_set, remove}
use Rattle.std.specs.Global.{Vec}
use Rattle.std.specs.Prelude.{nat_le}
use Rattle.std.specs.declared.alloc.AllocError.{AllocError}
use Rattle.codec_payload_base.specs.declared.wire.Ticks.{Ticks}
use Rattle.codec_payload_metadata.specs.Release.{Release}
use Rattle.codec_payload_receiver.specs.declared.pops.Popped.{Popped}
use Rattle.codec_payload_receiver.specs.declared.pops.Popped.TheVariants as popped
use Rattle.codec_payload_session_requests.specs.Requests.{Asking, answered_if}
use Rattle.codec_payload_session_stream.specs.Streams.{Drains, Follows, Plays, RequestsBy, RestsBy, Steps, StepsBy, end_by, end_of, is_keyframe, is_probation, left_when, stage_left, step_of, step_with}
use Rattle.codec_payload_session_formats.specs.declared.formats.Format.{Format}
use Rattle.codec_payload_session_formats.specs.declared.formats.SessionSettings.{SessionSettings}
use Rattle.codec_payload_session_stream.specs.declared.stream.Ending.{Ending}
use Rattle.codec_payload_session_stream.specs.declared.stream.Ending.TheVariants as endings
use Rattle.codec_payload_session_stream.specs.declared.stream.Stage.{Stage}
use Rattle.codec_payload_session_stream.specs.declared.stream.Stage.TheVariants as stages
use Rattle.codec_payload_session_stream.specs.declared.stream.StreamState.{StreamState}
use Rattle.codec_payload_session_stream.specs.Turns.{event_of}
use Rattle.codec_payload_session_stream.specs.Units.{Event, Step}
use Rattle.codec_payload_session_stream.specs.declared.events.Event.TheVariants as events
use Rattle.codec_payload_session_runs.proofs.FateLemmas.{AreApart, absent_at, same_sym}
use Rattle.codec_payload_session_runs.proofs.ReachedLemmas.{starts_more}
use Rattle.codec_payload_session_runs.specs.Endings.{BeganWith, HasCause, IsCause, last_given, or_before, time_given}
use Rattle.codec_payload_session_runs.specs.Lives.{IsAbsent, StartsWithDatagram, is_same}
use Rattle.codec_payload_session_runs.specs.SessionRuns.{Call}

-- how a stream that leaves or drains ends
abbrev pub ending_of : Stage → Option Ending
ending_of stages.Probation = None
ending_of stages.Playing = None
ending_of (stages.Leaving why at) = Some why
ending_of (stages.Draining why) = Some why

-- ---- why a poll ends a stream

abbrev pub Reason : (now idle : ℕ) → StreamState → Ending → Type 0
Reason now idle s why = (ending_of s.stage ≡ Some why) ⊎ ((why ≡ endings.Timeout) × (nat_le idle (now - s.last) ≡ true))

by_idle : (b : Bool) (now idle : ℕ) (s : StreamState) (why : Ending) → nat_le idle (now - s.last) ≡ b → cond b (Some endings.Timeout) None ≡ Some why → Reason now idle s why
by_idle true now idle s why long is = inr (cc, long)
by_idle false now idle s why long is = absurd (cc)

by_time : (b : Bool) (own why : Ending) → cond b (Some own) None ≡ Some why → Some own ≡ Some why
by_time true own why is = is
by_time false own why is = absurd (cc)

end_reason : (stage : Stage) (now idle : ℕ) (s : StreamState) (why : Ending) → s.stage ≡ stage → end_by now idle s.last stage ≡ Some why → Reason now idle s why
end_reason stages.Probation now idle s why at is = absurd (cc)
end_reason stages.Playing now idle s why at is = by_idle (nat_le idle (now - s.last)) now idle s why refl is
end_reason (stages.Leaving own until) now idle s why at is = inl (ap (λ (st : Stage). ending_of st) at ∙ by_time (nat_le until now) own why is)
end_reason (stages.Draining own) now idle s why at is = absurd (cc)

-- the answer has the event of an end
abbrev pub Says : Step → Ending → Type 0
Says answer why = (u : StreamState) × (n : ℕ) × (p : ℕ) × (event_of u answer ≡ Some (events.Ended n p why))

abbrev is_end : Option Event → Bool
is_end None = false
is_end (Some (events.Begun s p)) = false
is_end (Some (events.Unit s p time decodable keyframe unit)) = false
is_end (Some (events.TooLarge s p unit)) = false
is_end (Some (events.Refused s p fault)) = false
is_end (Some (events.Feedback s p packet)) = false
is_end (Some (events.Telephone s p time marker payload)) = false
is_end (Some (events.Report packet)) = false
is_end (Some (events.TransportFeedback packet)) = false
is_end (Some (events.Ended s p why)) = true

not_end : {A : Type 0} (o : Option Event) (n p : ℕ) (why : Ending) → is_end o ≡ false → o ≡ Some (events.Ended n p why) → A
not_end o n p why none is = let no : false ≡ true = sym none ∙ ap (λ (e : Option Event). is_end e) is in absurd (cc)

-- the same stream, which took no datagram
record Stays (s t : StreamState) : Type 0 where
  ssrc_is : t.ssrc ≡ s.ssrc
  format : t.format ≡ s.format
  last : t.last ≡ s.last
  accepted : t.accepted ≡ s.accepted

record Drained (now idle : ℕ) (s t : StreamState) : Type 0 where
  stays : Stays s t
  ends : (why : Ending) → ending_of t.stage ≡ Some why → Reason now idle s why
  started : is_probation s.stage ≡ false → is_probation t.stage ≡ false

drained : (o : Option Ending) (now idle : ℕ) (s t : StreamState) → end_of now idle s ≡ o → Drains o s t → Drained now idle s t
drained None now idle s t is got = subst (λ (z : StreamState). Drained now idle s z) (sym got) (record { stays = record { ssrc_is = refl; format = refl; last = refl; accepted = refl }; ends = λ why same. inl same; started = λ is. is })
drained (Some own) now idle s t is got = subst (λ (z : StreamState). Drained now idle s z) (sym got.2)
    (record { stays = record { ssrc_is = refl; format = refl; last = refl; accepted = refl }; ends = λ why same. end_reason s.stage now idle s why refl (is ∙ same); started = λ was. refl })

record Followed (m : StreamState) (answer : Step) (t : StreamState) : Type 0 where
  stays : Stays m t
  stage : t.stage ≡ m.stage
  ended : (why : Ending) → Says answer why → ending_of m.stage ≡ Some why

-- an answer without an end
followed : (m : StreamState) (answer own : Step) (t u : StreamState) → answer ≡ own → t ≡ u → Stays m u → u.stage ≡ m.stage → ((why : Ending) → Says own why → ending_of m.stage ≡ Some why) → Followed m answer t
followed m answer own t u is same stays stage ended =
    subst₂ (λ (a : Step) (z : StreamState). Followed m a z) (sym is) (sym same) (record { stays = stays; stage = stage; ended = ended })

here : (m : StreamState) → Stays m m
here m = record { ssrc_is = refl; format = refl; last = refl; accepted = refl }

asked_ends : (told : Result (Option (Vec ℕ)) AllocError) (m : StreamState) (why : Ending) → Says (step_of told) why → ending_of m.stage ≡ Some why
asked_ends (Ok None) m why is = not_end _ is.1 is.2 why refl is.3
asked_ends (Ok (Some packet)) m why is = not_end _ is.1 is.2 why refl is.3
asked_ends (Err e) m why is = not_end _ is.1 is.2 why refl is.3

popped_ends : (told : Result (Popped Release) AllocError) (m : StreamState) (why : Ending) → Says (step_with told) why → ending_of m.stage ≡ Some why
popped_ends (Ok (popped.Unit unit)) m why is = not_end _ is.1 is.2 why refl is.3
popped_ends (Ok (popped.TooLarge unit)) m why is = not_end _ is.1 is.2 why refl is.3
popped_ends (Ok (popped.Refused fault)) m why is = not_end _ is.1 is.2 why refl is.3
popped_ends (Err e) m why is = not_end _ is.1 is.2 why refl is.3

same_why : (a b : ℕ) (own : Ending) (n p : ℕ) (why : Ending) → ◌≡◌ {A = Option Event} (Some (events.Ended a b own)) (Some (events.Ended n p why)) → Some own ≡ Some why
same_why a b own n p why is = cc

requests_follow : (o : Option Asking) (now : ℕ) (m : StreamState) (answer : Step) (t : StreamState) → RequestsBy o now m answer t → Followed m answer t
requests_follow None now m answer t got = followed m answer _ t m got.0 got.1 (here m) refl (λ why is. not_end _ is.1 is.2 why refl is.3)
requests_follow (Some a) now m answer t got =
    followed m answer (step_of got.told) t (record m { feedback = Some got.asking }) got.answers got.after (record { ssrc_is = refl; format = refl; last = refl; accepted = refl }) refl (λ why is. asked_ends got.told m why is)

rests_follow : (stage : Stage) (now : ℕ) (m : StreamState) (answer : Step) (t : StreamState) → m.stage ≡ stage → RestsBy stage now m answer t → Followed m answer t
rests_follow stages.Probation now m answer t at got = followed m answer _ t m got.0 got.1 (here m) refl (λ why is. not_end _ is.1 is.2 why refl is.3)
rests_follow stages.Playing now m answer t at got = requests_follow m.feedback now m answer t got
rests_follow (stages.Leaving own until) now m answer t at got = followed m answer _ t m got.0 got.1 (here m) refl (λ why is. not_end _ is.1 is.2 why refl is.3)
rests_follow (stages.Draining own) now m answer t at got =
    followed m answer _ t m got.0 got.1 (here m) refl (λ why is. ap (λ (st : Stage). ending_of st) at ∙ same_why is.0.ssrc is.0.format.payload_type own is.1 is.2 why is.3)

follows_follow : (o : Option (Result (Popped Release) AllocError)) (now : ℕ) (m : StreamState) (answer : Step) (t : StreamState) → Follows o now m answer t → Followed m answer t
follows_follow None now m answer t got = rests_follow m.stage now m answer t refl got
follows_follow (Some told) now m answer t got =
    followed m answer (step_with told) t (record m { feedback = answered_if (is_keyframe told m.receiver) m.feedback }) got.0 got.1 (record { ssrc_is = refl; format = refl; last = refl; accepted = refl }) refl (λ why is. popped_ends told m why is)

-- what a poll makes of a stream that it asks
pub record Asked (now idle : ℕ) (s : StreamState) (answer : Step) (t : StreamState) : Type 0 where
  pub ssrc_is : t.ssrc ≡ s.ssrc
  pub format : t.format ≡ s.format
  pub last : t.last ≡ s.last
  pub ends : (why : Ending) → ending_of t.stage ≡ Some why → Reason now idle s why
  pub ended : (why : Ending) → Says answer why → Reason now idle s why
  pub accepted : t.accepted ≡ s.accepted
  pub started : is_probation s.stage ≡ false → is_probation t.stage ≡ false

plays_asked : (now : Ticks) (idle : ℕ) (s : StreamState) (answer : Step) (t : StreamState) → Plays now idle s answer t → Asked now.0 idle s answer t
plays_asked now idle s answer t got =
    let d : Drained now.0 idle s got.0 = drained (end_of now.0 idle s) now.0 idle s got.0 refl got.1 in
    let m : StreamState = record got.0 { receiver = got.2.receiver } in
    let f : Followed m answer t = follows_follow got.2.told now.0 m answer t got.2.follows in
    record {
      ssrc_is = f.stays.ssrc_is ∙ d.stays.ssrc_is;
      format = f.stays.format ∙ d.stays.format;
      last = f.stays.last ∙ d.stays.last;
      ends = λ why is. d.ends why (ap (λ (st : Stage). ending_of st) (sym f.stage) ∙ is);
      ended = λ why is. d.ends why (f.ended why is);
      accepted = f.stays.accepted ∙ d.stays.accepted;
      started = λ is. ap (λ (st : Stage). is_probation st) f.stage ∙ d.started is;
    }

still_asked : (now idle : ℕ) (s : StreamState) (answer own : Step) (t u : StreamState) → answer ≡ own → t ≡ u → Stays s u → u.stage ≡ s.stage → ((why : Ending) → Says own why → Reason now idle s why)
    → Asked now idle s answer t
still_asked now idle s answer own t u is same stays stage ended =
    subst₂ (λ (a : Step) (z : StreamState). Asked now idle s a z) (sym is) (sym same)
    (record {
      ssrc_is = stays.ssrc_is;
      format = stays.format;
      last = stays.last;
      ends = λ why ending. inl (ap (λ (st : Stage). ending_of st) (sym stage) ∙ ending);
      ended = ended;
      accepted = stays.accepted;
      started = λ was. ap (λ (st : Stage). is_probation st) stage ∙ was;
    })

by_asked : (b announced : Bool) (now : Ticks) (idle : ℕ) (s : StreamState) (answer : Step) (t : StreamState) → StepsBy b announced now idle s answer t → Asked now.0 idle s answer t
by_asked true announced now idle s answer t got = still_asked now.0 idle s answer _ t s got.0 got.1 (here s) refl (λ why is. not_end _ is.1 is.2 why refl is.3)
by_asked false false now idle s answer t got =
    still_asked now.0 idle s answer _ t (record s { announced = true }) got.0 got.1 (record { ssrc_is = refl; format = refl; last = refl; accepted = refl }) refl (λ why is. not_end _ is.1 is.2 why refl is.3)
by_asked false true now idle s answer t got = plays_asked now idle s answer t got

pub steps_asked : (now : Ticks) (idle : ℕ) (s : StreamState) (answer : Step) (t : StreamState) → Steps now idle s answer t → Asked now.0 idle s answer t
steps_asked now idle s answer t got = by_asked (is_probation s.stage) s.announced now idle s answer t got

-- ---- streams whose end has a cause

pub record Justified (g : SessionSettings) (cs : List Call) (s : StreamState) : Type 0 where
  pub since : List Call
  pub began : BeganWith g cs s.ssrc s.format.payload_type since
  pub last : last_given s.ssrc s.format.payload_type None since ≡ Some s.last
  pub cause : (why : Ending) → ending_of s.stage ≡ Some why → HasCause g.idle_timeout why s.ssrc s.format.payload_type since

abbrev pub AllJustified : SessionSettings → List Call → List StreamState → Type 0
AllJustified g cs [] = Unit {0}
AllJustified g cs (s ∷ ss) = Justified g cs s × AllJustified g cs ss

-- the same stream, with nothing changed that matters here
pub record Same (s t : StreamState) : Type 0 where
  pub ssrc_is : t.ssrc ≡ s.ssrc
  pub format : t.format ≡ s.format
  pub last : t.last ≡ s.last
  pub stage : t.stage ≡ s.stage
  pub accepted : t.accepted ≡ s.accepted

pub last_append : (ssrc payload_type : ℕ) (cs : List Call) (c : Call) (before : Option ℕ)
    → last_given ssrc payload_type before (cs ++ c ∷ []) ≡ or_before (time_given ssrc payload_type c) (last_given ssrc payload_type before cs)
last_append ssrc payload_type [] c before = refl
last_append ssrc payload_type (d ∷ cs) c before = last_append ssrc payload_type cs c (or_before (time_given ssrc payload_type d) before)

pub cause_more : (idle : ℕ) (why : Ending) (ssrc payload_type : ℕ) (cs : List Call) (c : Call) → HasCause idle why ssrc payload_type cs → HasCause idle why ssrc payload_type (cs ++ c ∷ [])
cause_more idle why ssrc payload_type cs c got =
    (got.0, got.1, got.2 ++ c ∷ [], ap (λ (zs : List Call). zs ++ c ∷ []) got.3 ∙ append_assoc got.0 (got.1 ∷ got.2) (c ∷ []), got.4)

pub began_more : (g : SessionSettings) (cs : List Call) (c : Call) (ssrc payload_type : ℕ) (since : List Call) → BeganWith g cs ssrc payload_type since → BeganWith g (cs ++ c ∷ []) ssrc payload_type (since ++ c ∷ [])
began_more g cs c ssrc payload_type since got = record {
  earlier = got.earlier;
  whole = ap (λ (zs : List Call). zs ++ c ∷ []) got.whole ∙ append_assoc got.earlier since (c ∷ []);
  starts = starts_more ssrc payload_type since (c ∷ []) got.starts;
  reached = got.reached;
  reaches = got.reaches;
  absent = got.absent;
}

-- what one call makes of a stream
pub record Moved (g : SessionSettings) (c : Call) (s t : StreamState) : Type 0 where
  pub ssrc_is : t.ssrc ≡ s.ssrc
  pub format : t.format ≡ s.format
  pub last : or_before (time_given s.ssrc s.format.payload_type c) (Some s.last) ≡ Some t.last
  pub ends : (since : List Call) → last_given s.ssrc s.format.payload_type None since ≡ Some s.last → (why : Ending) → ending_of t.stage ≡ Some why
      → (ending_of s.stage ≡ Some why) ⊎ IsCause g.idle_timeout why s.ssrc s.format.payload_type since c

pub justified_more : (g : SessionSettings) (cs : List Call) (c : Call) (s t : StreamState) → Justified g cs s → Moved g c s t → Justified g (cs ++ c ∷ []) t
justified_more g cs c s t j m = record {
  since = j.since ++ c ∷ [];
  began = subst₂ (λ (n : ℕ) (f : Format). BeganWith g (cs ++ c ∷ []) n f.payload_type (j.since ++ c ∷ [])) (sym m.ssrc_is) (sym m.format) (began_more g cs c s.ssrc s.format.payload_type j.since j.began);
  last = ap₂ (λ (n : ℕ) (f : Format). last_given n f.payload_type None (j.since ++ c ∷ [])) m.ssrc_is m.format ∙ last_append s.ssrc s.format.payload_type j.since c None
      ∙ ap (λ (o : Option ℕ). or_before (time_given s.ssrc s.format.payload_type c) o) j.last ∙ m.last;
  cause = λ why is. subst₂ (λ (n : ℕ) (f : Format). HasCause g.idle_timeout why n f.payload_type (j.since ++ c ∷ [])) (sym m.ssrc_is) (sym m.format) (by_either why (m.ends j.since j.last why is));
}
  where
    by_either : (why : Ending) → (ending_of s.stage ≡ Some why) ⊎ IsCause g.idle_timeout why s.ssrc s.format.payload_type j.since c → HasCause g.idle_timeout why s.ssrc s.format.payload_type (j.since ++ c ∷ [])
    by_either why (inl before) = cause_more g.idle_timeout why s.ssrc s.format.payload_type j.since c (j.cause why before)
    by_either why (inr now) = (j.since, c, [], refl, now)

pub justified_same : (g : SessionSettings) (cs : List Call) (s t : StreamState) → Justified g cs s → Same s t → Justified g cs t
justified_same g cs s t j m = record {
  since = j.since;
  began = subst₂ (λ (n : ℕ) (f : Format). BeganWith g cs n f.payload_type j.since) (sym m.ssrc_is) (sym m.format) j.began;
  last = ap₂ (λ (n : ℕ) (f : Format). last_given n f.payload_type None j.since) m.ssrc_is m.format ∙ j.last ∙ ap (λ (n : ℕ). Some n) (sym m.last);
  cause = λ why is. subst₂ (λ (n : ℕ) (f : Format). HasCause g.idle_timeout why n f.payload_type j.since) (sym m.ssrc_is) (sym m.format) (j.cause why (ap (λ (st : Stage). ending_of st) (sym m.stage) ∙ is));
}

pub moved_same : (g : SessionSettings) (c : Call) (s t : StreamState) → time_given s.ssrc s.format.payload_type c ≡ None → Same s t → Moved g c s t
moved_same g c s t none same = record {
  ssrc_is = same.ssrc_is;
  format = same.format;
  last = ap (λ (o : Option ℕ). or_before o (Some s.last)) none ∙ ap (λ (n : ℕ). Some n) (sym same.last);
  ends = λ since given why is. inl (ap (λ (st : Stage). ending_of st) (sym same.stage) ∙ is);
}

pub itself : (s : StreamState) → Same s s
itself s = record { ssrc_is = refl; format = refl; last = refl; stage = refl; accepted = refl }

left_ending : (own : Ending) (at : ℕ) (stage : Stage) (why : Ending) → ending_of (stage_left own at stage) ≡ Some why → (ending_of stage ≡ Some why) ⊎ (why ≡ own)
left_ending own at stages.Probation why is = inr (cc)
left_ending own at stages.Playing why is = inr (cc)
left_ending own at (stages.Leaving first before) why is = inl is
left_ending own at (stages.Draining first) why is = inl is

-- what begins in front of the last call ends with it
ends_with : (earlier since cs : List Call) (c : Call) → cs ++ c ∷ [] ≡ earlier ++ since → (d : Call) (ds : List Call) → since ≡ d ∷ ds → (front : List Call) × (since ≡ front ++ c ∷ [])
ends_with [] since cs c whole d ds some = (cs, sym whole)
ends_with (x ∷ xs) since [] c whole d ds some = absurd (too_long xs (subst (λ (zs : List Call). [] ≡ xs ++ zs) some rest))
  where
    rest : [] ≡ xs ++ since
    rest = cc

    too_long : (zs : List Call) → [] ≡ zs ++ d ∷ ds → ⊥
    too_long [] is = absurd (cc)
    too_long (z ∷ zs) is = absurd (cc)
ends_with (x ∷ xs) since (y ∷ ys) c whole d ds some = let rest : ys ++ c ∷ [] ≡ xs ++ since = cc in ends_with xs since ys c rest d ds some

begins_some : (ssrc payload_type : ℕ) (earlier since cs : List Call) (c : Call) → StartsWithDatagram ssrc payload_type since → cs ++ c ∷ [] ≡ earlier ++ since → (front : List Call) × (since ≡ front ++ c ∷ [])
begins_some ssrc payload_type earlier [] cs c starts whole = absurd starts
begins_some ssrc payload_type earlier (d ∷ ds) cs c starts whole = ends_with earlier (d ∷ ds) cs c whole d ds refl

-- the latest call is a cause for which a stream leaves
pub justified_left : (b : Bool) (own : Ending) (at : ℕ) (g : SessionSettings) (cs : List Call) (c : Call) (s : StreamState) → Justified g (cs ++ c ∷ []) s
    → (b ≡ true → (front : List Call) → IsCause g.idle_timeout own s.ssrc s.format.payload_type front c) → Justified g (cs ++ c ∷ []) (left_when b own at s)
justified_left false own at g cs c s j cause = j
justified_left true own at g cs c s j cause = record { since = j.since; began = j.began; last = j.last; cause = λ why is. by_either why (left_ending own at s.stage why is) }
  where
    by_either : (why : Ending) → (ending_of s.stage ≡ Some why) ⊎ (why ≡ own) → HasCause g.idle_timeout why s.ssrc s.format.payload_type j.since
    by_either why (inl before) = j.cause why before
    by_either why (inr new) =
        let parts = begins_some s.ssrc s.format.payload_type j.began.earlier j.since cs c j.began.starts j.began.whole in
        subst (λ (w : Ending). HasCause g.idle_timeout w s.ssrc s.format.payload_type j.since) (sym new) (parts.0, c, [], parts.1, cause refl parts.0)

-- ---- lists of streams

abbrev pub AllMoved : SessionSettings → Call → List StreamState → List StreamState → Type 0
AllMoved g c [] [] = Unit {0}
AllMoved g c [] (t ∷ ts) = ⊥
AllMoved g c (s ∷ ss) [] = ⊥
AllMoved g c (s ∷ ss) (t ∷ ts) = Moved g c s t × AllMoved g c ss ts

pub all_more : (g : SessionSettings) (cs : List Call) (c : Call) (ss ts : List StreamState) → AllJustified g cs ss → AllMoved g c ss ts → AllJustified g (cs ++ c ∷ []) ts
all_more g cs c [] [] js ms = tt
all_more g cs c [] (t ∷ ts) js ms = absurd ms
all_more g cs c (s ∷ ss) [] js ms = absurd ms
all_more g cs c (s ∷ ss) (t ∷ ts) js ms = (justified_more g cs c s t js.0 ms.0, all_more g cs c ss ts js.1 ms.1)

pub all_mapped : (g : SessionSettings) (c : Call) (f : StreamState → StreamState) (ss : List StreamState) → ((s : StreamState) → Moved g c s (f s)) → AllMoved g c ss (map f ss)
all_mapped g c f [] moves = tt
all_mapped g c f (s ∷ ss) moves = (moves s, all_mapped g c f ss moves)

pub all_silent : (g : SessionSettings) (c : Call) (ss : List StreamState) → ((ssrc payload_type : ℕ) → time_given ssrc payload_type c ≡ None) → AllMoved g c ss ss
all_silent g c [] none = tt
all_silent g c (s ∷ ss) none = (moved_same g c s s (none s.ssrc s.format.payload_type) (itself s), all_silent g c ss none)

-- a change of streams without a call between
pub same_justified : (g : SessionSettings) (cs : List Call) (f : StreamState → StreamState) (ss : List StreamState) → ((s : StreamState) → Same s (f s)) → AllJustified g cs ss → AllJustified g cs (map f ss)
same_justified g cs f [] same js = tt
same_justified g cs f (s ∷ ss) same js = (justified_same g cs s (f s) js.0 (same s), same_justified g cs f ss same js.1)

pub all_left : (who : StreamState → Bool) (own : Ending) (at : ℕ) (g : SessionSettings) (cs : List Call) (c : Call) (ss : List StreamState)
    → ((s : StreamState) → who s ≡ true → (front : List Call) → IsCause g.idle_timeout own s.ssrc s.format.payload_type front c) → AllJustified g (cs ++ c ∷ []) ss
    → AllJustified g (cs ++ c ∷ []) (map (λ (s : StreamState). left_when (who s) own at s) ss)
all_left who own at g cs c [] cause js = tt
all_left who own at g cs c (s ∷ ss) cause js = (justified_left (who s) own at g cs c s js.0 (cause s), all_left who own at g cs c ss cause js.1)

pub justified_append : (g : SessionSettings) (cs : List Call) (ss ts : List StreamState) → AllJustified g cs ss → AllJustified g cs ts → AllJustified g cs (ss ++ ts)
justified_append g cs [] ts a b = b
justified_append g cs (s ∷ ss) ts a b = (a.0, justified_append g cs ss ts a.1 b)

pub justified_parts : (g : SessionSettings) (cs : List Call) (ss ts : List StreamState) → AllJustified g cs (ss ++ ts) → AllJustified g cs ss × AllJustified g cs ts
justified_parts g cs [] ts js = (tt, js)
justified_parts g cs (s ∷ ss) ts js = let parts = justified_parts g cs ss ts js.1 in ((js.0, parts.0), parts.1)

pub justified_remove : (g : SessionSettings) (cs : List Call) (ss : List StreamState) (i : ℕ) → AllJustified g cs ss → AllJustified g cs (remove ss i)
justified_remove g cs [] zero js = tt
justified_remove g cs [] (suc i) js = tt
justified_remove g cs (s ∷ ss) zero js = js.1
justified_remove g cs (s ∷ ss) (suc i) js = (js.0, justified_remove g cs ss i js.1)

pub others_moved : (g : SessionSettings) (c : Call) (a b : ℕ) (ss : List StreamState) → IsAbsent a b ss → ((z : StreamState) → is_same z.ssrc z.format.payload_type a b ≡ false → Moved g c z z)
    → AllMoved g c ss ss
others_moved g c a b [] absent others = tt
others_moved g c a b (s ∷ ss) absent others = (others s (same_sym s.ssrc s.format.payload_type a b ∙ absent.0), others_moved g c a b ss absent.1 others)

pub one_moved : (g : SessionSettings) (c : Call) (ss : List StreamState) (place : ℕ) (x y : StreamState) → slice_get ss place ≡ Some x → AreApart ss → Moved g c x y
    → ((z : StreamState) → is_same z.ssrc z.format.payload_type x.ssrc x.format.payload_type ≡ false → Moved g c z z) → AllMoved g c ss (slice_set ss place y)
one_moved g c [] place x y there apart moved others = absurd (cc)
one_moved g c (z ∷ zs) zero x y there apart moved others =
    let e : z ≡ x = cc in (
      subst (λ (w : StreamState). Moved g c w y) (sym e) moved,
      others_moved g c x.ssrc x.format.payload_type zs (subst (λ (w : StreamState). IsAbsent w.ssrc w.format.payload_type zs) e apart.0) others,
    )
one_moved g c (z ∷ zs) (suc i) x y there apart moved others =
    (others z (absent_at z.ssrc z.format.payload_type zs i x apart.0 there), one_moved g c zs i x y there apart.1 moved others)
