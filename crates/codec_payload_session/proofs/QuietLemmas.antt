-- The event of a stream, and the streams after it.
use Rattle.std.proofs.Common.{◌≡◌, ℕ, ◌+◌, List, ◌∷◌, ◌++◌, length, Option, Some, ap, refl, subst, sym, ◌∙◌, false, slice_get}
use Rattle.codec_payload_base.specs.declared.wire.Ticks.{Ticks}
use Rattle.codec_payload_session_stream.specs.Streams.{Steps, info_of}
use Rattle.codec_payload_session.specs.Arrivals.{Port, removed, sum_wrapped}
use Rattle.codec_payload_session_stream.specs.Turns.{AreQuiet, FirstSteps, event_of, is_nothing}
use Rattle.codec_payload_session.specs.Turns.{TakesTurn, after_step, ended_after, kept_after, last_after, told_by}
use Rattle.codec_payload_session_stream.specs.Units.{Event, Step, Turn}
use Rattle.codec_payload_session_stream.specs.declared.stream.Step.TheVariants as steps
use Rattle.codec_payload_session_stream.specs.declared.stream.StreamState.{StreamState}
use Rattle.codec_payload_session_stream.proofs.QuietLemmas.{slice_at, remove_at}

-- ---- the event of the stream

removed_at : (p : Port) (quiet rest : List StreamState) (s : StreamState) (place : ℕ) → place ≡ length quiet
    → removed place (record p { streams = quiet ++ s ∷ rest }) ≡ record p { streams = quiet ++ rest; ended = sum_wrapped p.ended s.taken; last = Some (info_of s) }
removed_at p quiet rest s place is = rw (is, slice_at quiet s rest, remove_at quiet s rest) refl

-- the event of a step, and the stream after it
tells_by : (now : Ticks) (idle : ℕ) (p : Port) (front quiet rest : List StreamState) (s t : StreamState) (step : Step) → p.streams ≡ front ++ s ∷ rest → AreQuiet now idle front quiet
    → Steps now idle s step t → is_nothing step ≡ false
    → TakesTurn now idle p (event_of t step) (record p { streams = quiet ++ kept_after step t rest; ended = ended_after step t p.ended; last = last_after step t p.last })
tells_by now idle p front quiet rest s t steps.Begun there are went tells = record {
  front = front;
  quiet = quiet;
  stream = s;
  stepped = t;
  rest = rest;
  step = steps.Begun;
  there = there;
  are_quiet = are;
  steps = went;
  tells = refl;
  left = refl;
}
tells_by now idle p front quiet rest s t (steps.Unit unit) there are went tells = record {
  front = front;
  quiet = quiet;
  stream = s;
  stepped = t;
  rest = rest;
  step = steps.Unit unit;
  there = there;
  are_quiet = are;
  steps = went;
  tells = refl;
  left = refl;
}
tells_by now idle p front quiet rest s t (steps.TooLarge unit) there are went tells = record {
  front = front;
  quiet = quiet;
  stream = s;
  stepped = t;
  rest = rest;
  step = steps.TooLarge unit;
  there = there;
  are_quiet = are;
  steps = went;
  tells = refl;
  left = refl;
}
tells_by now idle p front quiet rest s t (steps.Refused fault) there are went tells = record {
  front = front;
  quiet = quiet;
  stream = s;
  stepped = t;
  rest = rest;
  step = steps.Refused fault;
  there = there;
  are_quiet = are;
  steps = went;
  tells = refl;
  left = refl;
}
tells_by now idle p front quiet rest s t (steps.Feedback packet) there are went tells = record {
  front = front;
  quiet = quiet;
  stream = s;
  stepped = t;
  rest = rest;
  step = steps.Feedback packet;
  there = there;
  are_quiet = are;
  steps = went;
  tells = refl;
  left = refl;
}
tells_by now idle p front quiet rest s t (steps.Ended why) there are went tells = record {
  front = front;
  quiet = quiet;
  stream = s;
  stepped = t;
  rest = rest;
  step = steps.Ended why;
  there = there;
  are_quiet = are;
  steps = went;
  tells = refl;
  left = refl;
}
tells_by now idle p front quiet rest s t steps.Nothing there are went tells = absurd (cc)

-- the same by the place
left_by : (p : Port) (quiet rest : List StreamState) (t : StreamState) (step : Step) (place : ℕ) → place ≡ length quiet
    → after_step step place (record p { streams = quiet ++ t ∷ rest }) ≡ record p { streams = quiet ++ kept_after step t rest; ended = ended_after step t p.ended; last = last_after step t p.last }
left_by p quiet rest t steps.Begun place is = refl
left_by p quiet rest t (steps.Unit unit) place is = refl
left_by p quiet rest t (steps.TooLarge unit) place is = refl
left_by p quiet rest t (steps.Refused fault) place is = refl
left_by p quiet rest t (steps.Feedback packet) place is = refl
left_by p quiet rest t (steps.Ended why) place is = removed_at p quiet rest t place is
left_by p quiet rest t steps.Nothing place is = refl

pub turn_tells : (now : Ticks) (idle : ℕ) (p q : Port) (turn : Turn) (ts : List StreamState) (event : Option Event) → FirstSteps now idle p.streams turn ts
    → event ≡ told_by (slice_get ts turn.place) turn.step → q ≡ after_step turn.step turn.place (record p { streams = ts }) → TakesTurn now idle p event q
turn_tells now idle p q turn ts event it told after =
    let there : slice_get ts turn.place ≡ Some it.stepped = ap (λ (l : List StreamState). slice_get l turn.place) it.after ∙ ap (λ (n : ℕ). slice_get (it.quiet ++ it.stepped ∷ it.rest) n) it.place ∙ slice_at it.quiet it.stepped it.rest in
    let told_is : event ≡ event_of it.stepped turn.step = told ∙ ap (λ (o : Option StreamState). told_by o turn.step) there in
    let after_is : q ≡ record p { streams = it.quiet ++ kept_after turn.step it.stepped it.rest; ended = ended_after turn.step it.stepped p.ended; last = last_after turn.step it.stepped p.last } =
    after ∙ ap (λ (l : List StreamState). after_step turn.step turn.place (record p { streams = l })) it.after ∙ left_by p it.quiet it.rest it.stepped turn.step turn.place it.place in
    subst (λ (e : Option Event). TakesTurn now idle p e q) (sym told_is)
    (subst (λ (x : Port). TakesTurn now idle p (event_of it.stepped turn.step) x) (sym after_is)
    (tells_by now idle p it.front it.quiet it.rest it.stream it.stepped turn.step it.before it.are_quiet it.steps it.tells))
