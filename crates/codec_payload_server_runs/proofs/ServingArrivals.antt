-- What a step of a media server does, from the calls that it makes.
use Rattle.std.specs.Global.{Vec}
use Rattle.std.proofs.Common.{◌≡◌, ◌∙◌, refl, sym, ap, subst, ℕ, List, [], ◌∷◌, ◌++◌, inl, inr, Bool, true, false, Option, Some, None, MatchOption, Result, Ok, Err}
use Rattle.std.specs.Prelude.{IfOk}
use Rattle.std.specs.declared.alloc.AllocError.{AllocError}
use Rattle.std.proofs.lemmas.Bool.{false≢true}
use Rattle.std.proofs.lemmas.Option.{same_Some}
use Rattle.codec_payload_payloader.specs.Sending.{Sample}
use Rattle.codec_payload_sending_history.specs.declared.original.OriginalStream.{OriginalStream}
use Rattle.codec_payload_session.specs.Ports.{Session}
use Rattle.codec_payload_forward_runs.specs.ForwardRuns.{Hops}
use Rattle.codec_payload_forward_runs.specs.declared.run.ForwardStep.{ForwardStep}
use Rattle.codec_payload_forward_runs.specs.declared.run.ForwardStep.TheVariants as plain
use Rattle.codec_payload_session_runs.specs.declared.run.StepAnswer.{StepAnswer}
use Rattle.codec_payload_server_runs.specs.Serving.{ComesTo, DoesBehind, DoesServing, HasTaken, PassesIf, Serving, ServingStopsAt, StopsComing, Takes, hop_of, serves}
use Rattle.codec_payload_server_runs.specs.declared.run.Moment.{Moment}
use Rattle.codec_payload_server_runs.specs.declared.run.ServeStep.{ServeStep}
use Rattle.codec_payload_server_runs.specs.declared.run.ServeStep.TheVariants as steps

abbrev serving : {X : Type 0} → X → Session → List StepAnswer → Serving X
serving x server told = record { behind = x; server = server; answers = told }

pub same_serving : {X : Type 0} (s t : Serving X) → t.behind ≡ s.behind → t.server ≡ s.server → t.answers ≡ s.answers → t ≡ s
same_serving {X = X} s t one two three =
    ap (λ (x : X). serving x t.server t.answers) one ∙ (ap (λ (x : Session). serving s.behind x t.answers) two ∙ ap (λ (rs : List StepAnswer). serving s.behind s.server rs) three)

pub has_taken : (stream : OriginalStream) (at : Moment) (datagram : List ℕ) (taken : Bool) (s t : Session) (before after : List StepAnswer) → Takes stream at datagram taken s t before after → taken ≡ true
    → HasTaken stream at datagram s t
has_taken stream at datagram taken s t before after takes is = (takes.0, takes.1, sym takes.2 ∙ is)

module _ {X : Type 0} (stream : OriginalStream) (at : Moment) where
  pub comes_if : (datagram : List ℕ) (P : X → X → Type 0) (s t : Serving X) (taken b : Bool) → Takes stream at datagram taken s.server t.server s.answers t.answers → taken ≡ b → PassesIf b P s.behind t.behind
      → ComesTo stream at datagram P s t
  comes_if datagram P s t taken b takes is passes = (taken, takes, subst (λ (x : Bool). PassesIf x P s.behind t.behind) (sym is) passes)

  -- a sent datagram
  module _ (s t : Serving X) (taken : Bool) where
    abbrev pub Took : Option (List ℕ) → Type 0
    Took o =
        MatchOption o ((taken ≡ false) × (t.server ≡ s.server) × (t.answers ≡ s.answers)) (λ bytes.
        (datagram : Vec ℕ) × (datagram.items ≡ bytes) × Takes stream at datagram.items taken s.server t.server s.answers t.answers)

    abbrev pub Arrived : ((bytes : List ℕ) → X → X → Type 0) → Option (List ℕ) → Type 0
    Arrived P o = MatchOption o (t ≡ s) (λ bytes. (datagram : Vec ℕ) × (datagram.items ≡ bytes) × ComesTo stream at datagram.items (P bytes) s t)

    -- which the session did not take
    pub arrived_alone : (P : (bytes : List ℕ) → X → X → Type 0) (o : Option (List ℕ)) → Took o → taken ≡ false → t.behind ≡ s.behind → Arrived P o
    arrived_alone P None took is same = same_serving s t same took.1 took.2
    arrived_alone P (Some bytes) took is same = (took.0, took.1, comes_if took.0.items (P bytes) s t taken false took.2 is same)

    -- which the session took
    pub arrived_on : (P : (bytes : List ℕ) → X → X → Type 0) (o : Option (List ℕ)) → Took o → taken ≡ true → ((bytes : List ℕ) → o ≡ Some bytes → P bytes s.behind t.behind) → Arrived P o
    arrived_on P None took is passes = absurd (false≢true (sym took.0 ∙ is))
    arrived_on P (Some bytes) took is passes = (took.0, took.1, comes_if took.0.items (P bytes) s t taken true took.2 is (passes bytes refl))

    -- memory ran out after that
    pub stops_on : (Stays : X → Type 0) (Stops : (bytes : List ℕ) → X → Type 0) (o : Option (List ℕ)) → Took o → taken ≡ true → ((bytes : List ℕ) → o ≡ Some bytes → Stops bytes s.behind)
        → (bytes : List ℕ) × (o ≡ Some bytes) × StopsComing stream at bytes Stays (Stops bytes) s t.server
    stops_on Stays Stops None took is stops = absurd (false≢true (sym took.0 ∙ is))
    stops_on Stays Stops (Some bytes) took is stops = (
      bytes,
      refl,
      inr (subst (λ (d : List ℕ). HasTaken stream at d s.server t.server) took.1 (has_taken stream at took.0.items taken s.server t.server s.answers t.answers took.2 is), stops bytes refl),
    )

-- no datagram comes to the forwarder in such a step
pub no_forward : (step : ServeStep) (k now : ℕ) → hop_of step ≡ Some (plain.Forward k now) → ⊥
no_forward (steps.Send i) k now is = absurd (cc)
no_forward (steps.Arrive j at) k now is = absurd (cc)
no_forward (steps.Repeat j again at) k now is = absurd (cc)
no_forward (steps.Call call) k now is = absurd (cc)
no_forward (steps.Deliver j time) k now is = absurd (cc)
no_forward (steps.Pop time) k now is = absurd (cc)
no_forward steps.Finish k now is = absurd (cc)

same_hop : {a b : ForwardStep} → Some a ≡ Some b → a ≡ b
same_hop {a = a} {b = b} is = same_Some a b is

-- a step that the session does not see
module _ {X F : Type 0} (hops_in : X → Hops) (seen_as : ForwardStep → Bool → F) (stream : OriginalStream) where
  pub hop_does : (Passes : Bool → ℕ → List ℕ → X → X → Type 0) (DoesIt : F → X → X → Type 0) (m : Bool) (step : ServeStep) (hop : ForwardStep) (s t : Serving X) → hop_of step ≡ Some hop
      → DoesBehind (DoesIt (seen_as hop m)) s t → DoesServing hops_in Passes seen_as DoesIt stream (serves m step) s t
  hop_does Passes DoesIt m (steps.Send i) hop s t is does = subst (λ (f : ForwardStep). DoesBehind (DoesIt (seen_as f m)) s t) (sym (same_hop is)) does
  hop_does Passes DoesIt m (steps.Arrive k at) hop s t is does = absurd (cc)
  hop_does Passes DoesIt m (steps.Repeat k again at) hop s t is does = absurd (cc)
  hop_does Passes DoesIt m (steps.Call call) hop s t is does = absurd (cc)
  hop_does Passes DoesIt m (steps.Deliver j now) hop s t is does = subst (λ (f : ForwardStep). DoesBehind (DoesIt (seen_as f m)) s t) (sym (same_hop is)) does
  hop_does Passes DoesIt m (steps.Pop now) hop s t is does = subst (λ (f : ForwardStep). DoesBehind (DoesIt (seen_as f m)) s t) (sym (same_hop is)) does
  hop_does Passes DoesIt m steps.Finish hop s t is does = subst (λ (f : ForwardStep). DoesBehind (DoesIt (seen_as f m)) s t) (sym (same_hop is)) does

  pub hop_stops : (Stays : X → Type 0) (StopsPassing : Bool → List ℕ → X → Type 0) (StopsIt : F → X → Type 0) (m : Bool) (step : ServeStep) (hop : ForwardStep) (s : Serving X) (server : Session)
      → hop_of step ≡ Some hop → StopsIt (seen_as hop m) s.behind → server ≡ s.server → ServingStopsAt hops_in Stays StopsPassing seen_as StopsIt stream (serves m step) s server
  hop_stops Stays StopsPassing StopsIt m (steps.Send i) hop s server is stops same = (subst (λ (f : ForwardStep). StopsIt (seen_as f m) s.behind) (sym (same_hop is)) stops, same)
  hop_stops Stays StopsPassing StopsIt m (steps.Arrive k at) hop s server is stops same = absurd (cc)
  hop_stops Stays StopsPassing StopsIt m (steps.Repeat k again at) hop s server is stops same = absurd (cc)
  hop_stops Stays StopsPassing StopsIt m (steps.Call call) hop s server is stops same = absurd (cc)
  hop_stops Stays StopsPassing StopsIt m (steps.Deliver j now) hop s server is stops same = (subst (λ (f : ForwardStep). StopsIt (seen_as f m) s.behind) (sym (same_hop is)) stops, same)
  hop_stops Stays StopsPassing StopsIt m (steps.Pop now) hop s server is stops same = (subst (λ (f : ForwardStep). StopsIt (seen_as f m) s.behind) (sym (same_hop is)) stops, same)
  hop_stops Stays StopsPassing StopsIt m steps.Finish hop s server is stops same = (subst (λ (f : ForwardStep). StopsIt (seen_as f m) s.behind) (sym (same_hop is)) stops, same)

-- the session received the datagram with that index
pub took_in : (o : Option (List ℕ)) (v : Vec ℕ) → o ≡ Some v.items → (stream : OriginalStream) (at : Moment) (d : List ℕ) → d ≡ v.items → (s t : Session) (before after : List StepAnswer)
    (r : Result Bool AllocError) → IfOk r (λ taken. Takes stream at d taken s t before after)
    → IfOk r
    (λ taken.
    MatchOption o ((taken ≡ false) × (t ≡ s) × (after ≡ before)) (λ bytes. (datagram : Vec ℕ) × (datagram.items ≡ bytes) × Takes stream at datagram.items taken s t before after))
took_in o v is stream at d same s t before after (Ok taken) takes =
    subst
    (λ (x : Option (List ℕ)).
    MatchOption x ((taken ≡ false) × (t ≡ s) × (after ≡ before)) (λ bytes. (datagram : Vec ℕ) × (datagram.items ≡ bytes) × Takes stream at datagram.items taken s t before after))
    (sym is) (v, refl, subst (λ (x : List ℕ). Takes stream at x taken s t before after) same takes)
took_in o v is stream at d same s t before after (Err fault) takes = tt
