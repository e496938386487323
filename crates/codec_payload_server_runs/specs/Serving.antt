-- The steps of a media server, whatever stands behind its session, such as a forwarder and a store. A
-- run behind the session has steps `F` and states `X`, in each of which a run with a forwarder is.
use Rattle.std.specs.Global.{Vec}
use Rattle.std.specs.Prelude.{◌≡◌, ℕ, Bool, true, false, List, [], ◌∷◌, ◌++◌, ◌⊎◌, Option, Some, None, Result, IfSome, MatchOption, slice_get}
use Rattle.std.specs.declared.alloc.AllocError.{AllocError}
use Rattle.codec_payload_rtp.specs.RtpPackets.{IsRtp, Packet}
use Rattle.codec_payload_sending_history.specs.Originals.{WritesOriginal}
use Rattle.codec_payload_sending_history.specs.declared.original.OriginalStream.{OriginalStream}
use Rattle.codec_payload_session.specs.Accepting.{Accepts, time_for}
use Rattle.codec_payload_session.specs.Ports.{Session}
use Rattle.codec_payload_session_stream.specs.declared.arrival.Arrival.{Arrival}
use Rattle.codec_payload_forward_runs.specs.ForwardRuns.{Hops}
use Rattle.codec_payload_forward_runs.specs.declared.run.ForwardStep.{ForwardStep}
use Rattle.codec_payload_forward_runs.specs.declared.run.ForwardStep.TheVariants as plain
use Rattle.codec_payload_session_runs.specs.SessionRuns.{Does}
use Rattle.codec_payload_session_runs.specs.declared.run.StepAnswer.{StepAnswer}
use Rattle.codec_payload_session_runs.specs.declared.run.StepAnswer.TheVariants as answers
use Rattle.codec_payload_server_runs.specs.ServeRuns.{IsAgain, Served, is_taken_as, repeated_in}
use Rattle.codec_payload_server_runs.specs.declared.run.Moment.{Moment}
use Rattle.codec_payload_server_runs.specs.declared.run.ServeStep.{ServeStep}
use Rattle.codec_payload_server_runs.specs.declared.run.ServeStep.TheVariants as steps

-- The run behind the session so far; the session; and its answers
pub record Serving (X : Type 0) : Type 0 where
  pub behind : X
  pub server : Session
  pub answers : List StepAnswer

-- A step of a media server: what the session takes as one of the stream is forwarded, if the step is plain; or a step of the run behind
-- the session alone
pub data ServingStep (F : Type 0) : Type 0 where
  serves : (is_plain : Bool) (step : ServeStep) → ServingStep F
  unseen : (step : F) → ServingStep F

-- the step of a run with the forwarder alone that this is, if the session gets no call
abbrev pub hop_of : ServeStep → Option ForwardStep
hop_of (steps.Send i) = Some (plain.Send i)
hop_of (steps.Arrive k at) = None
hop_of (steps.Repeat k again at) = None
hop_of (steps.Call call) = None
hop_of (steps.Deliver j now) = Some (plain.Deliver j now)
hop_of (steps.Pop now) = Some (plain.Pop now)
hop_of steps.Finish = Some plain.Finish

-- The session receives a datagram: whether it took the datagram as one of the stream, the session before and after, and the answers
abbrev pub Takes : OriginalStream → Moment → (datagram : List ℕ) → (taken : Bool) → Session → Session → List StepAnswer → List StepAnswer → Type 0
Takes stream at datagram taken s t before after =
    (arrival : Result Arrival AllocError) × Accepts (time_for at.micros at.now s) at.now datagram s arrival t × (taken ≡ is_taken_as stream arrival)
    × (after ≡ before ++ answers.Received arrival ∷ [])

-- this is done for a datagram that the session took as one of the stream, and nothing for any other one
abbrev pub PassesIf : {X : Type 0} → (taken : Bool) → (X → X → Type 0) → X → X → Type 0
PassesIf true Passes s t = Passes s t
PassesIf false Passes s t = t ≡ s

-- a datagram comes to the session, and then it may pass on
abbrev pub ComesTo : {X : Type 0} → OriginalStream → Moment → (datagram : List ℕ) → (X → X → Type 0) → Serving X → Serving X → Type 0
ComesTo stream at datagram Passes s t = (taken : Bool) × Takes stream at datagram taken s.server t.server s.answers t.answers × PassesIf taken Passes s.behind t.behind

-- a retransmission is unwrapped first
abbrev pub PassesUnwrapped : {X : Type 0} → OriginalStream → (retransmission : List ℕ) → ((datagram : List ℕ) → X → X → Type 0) → X → X → Type 0
PassesUnwrapped stream retransmission Passes s t = (original : List ℕ) × WritesOriginal stream retransmission original × Passes original s t

-- the datagram is the packet, byte for byte
abbrev pub IsSpelled : Option (List ℕ) → Packet → Type 0
IsSpelled datagram packet = IfSome datagram (λ bytes. IsRtp bytes packet)

-- a step of the run behind the session, which the session does not see
abbrev pub DoesBehind : {X : Type 0} → (X → X → Type 0) → Serving X → Serving X → Type 0
DoesBehind Step s t = Step s.behind t.behind × (t.server ≡ s.server) × (t.answers ≡ s.answers)

-- One step. `hops_in` is the run with a forwarder in a state; `Passes` says how a datagram passes on, in a plain step or in another one, at
-- a time of the forwarder; `seen_as` has the steps of the run behind the session, and `DoesStep` says what these do
abbrev pub DoesServing : {X F : Type 0} → (hops_in : X → Hops) → (Passes : Bool → ℕ → List ℕ → X → X → Type 0) → (seen_as : ForwardStep → Bool → F) → (DoesStep : F → X → X → Type 0)
    → OriginalStream → ServingStep F → Serving X → Serving X → Type 0
DoesServing hops_in Passes seen_as DoesStep stream (unseen step) s t = DoesBehind (DoesStep step) s t
DoesServing hops_in Passes seen_as DoesStep stream (serves is_plain (steps.Send i)) s t = DoesBehind (DoesStep (seen_as (plain.Send i) is_plain)) s t
DoesServing hops_in Passes seen_as DoesStep stream (serves is_plain (steps.Arrive k at)) s t =
    MatchOption (slice_get (hops_in s.behind).wire.datagrams k) (t ≡ s) (λ bytes.
    (datagram : Vec ℕ) × (datagram.items ≡ bytes) × ComesTo stream at datagram.items (Passes is_plain at.time bytes) s t)
DoesServing hops_in Passes seen_as DoesStep stream (serves is_plain (steps.Repeat k again at)) s t =
    MatchOption (repeated_in stream again (slice_get (hops_in s.behind).wire.datagrams k)) (t ≡ s) (λ packet.
    (datagram : Vec ℕ) × IsAgain again packet datagram.items × IsSpelled (slice_get (hops_in s.behind).wire.datagrams k) packet
    × ComesTo stream at datagram.items (PassesUnwrapped stream datagram.items (Passes is_plain at.time)) s t)
DoesServing hops_in Passes seen_as DoesStep stream (serves is_plain (steps.Call call)) s t =
    (answer : StepAnswer) × Does call s.server answer t.server × (t.answers ≡ s.answers ++ answer ∷ []) × (t.behind ≡ s.behind)
DoesServing hops_in Passes seen_as DoesStep stream (serves is_plain (steps.Deliver j now)) s t = DoesBehind (DoesStep (seen_as (plain.Deliver j now) is_plain)) s t
DoesServing hops_in Passes seen_as DoesStep stream (serves is_plain (steps.Pop now)) s t = DoesBehind (DoesStep (seen_as (plain.Pop now) is_plain)) s t
DoesServing hops_in Passes seen_as DoesStep stream (serves is_plain steps.Finish) s t = DoesBehind (DoesStep (seen_as plain.Finish is_plain)) s t

-- steps of any kind, in order
abbrev pub Follow : {S X : Type 0} → (DoesStep : S → X → X → Type 0) → List S → X → X → Type 0
Follow DoesStep [] s t = t ≡ s
Follow {X = X} DoesStep (step ∷ later) s t = (mid : X) × DoesStep step s mid × Follow DoesStep later mid t

-- Memory ran out

-- The session has taken in a datagram as one of the stream
abbrev pub HasTaken : OriginalStream → Moment → (datagram : List ℕ) → Session → Session → Type 0
HasTaken stream at datagram s t = (arrival : Result Arrival AllocError) × Accepts (time_for at.micros at.now s) at.now datagram s arrival t × (is_taken_as stream arrival ≡ true)

-- For the answer of the session, which is then as before, as is what stands behind it (`Stays`); or after the session took the datagram,
-- while it passed on
abbrev pub StopsComing : {X : Type 0} → OriginalStream → Moment → (datagram : List ℕ) → (Stays StopsPassing : X → Type 0) → Serving X → Session → Type 0
StopsComing stream at datagram Stays StopsPassing s server =
    (Stays s.behind × (server ≡ s.server)) ⊎ (HasTaken stream at datagram s.server server × StopsPassing s.behind)

-- for the packet that a retransmission repeats, or while that passed on
abbrev pub StopsUnwrapping : {X : Type 0} → OriginalStream → (retransmission : List ℕ) → (Stays : X → Type 0) → (StopsPassing : List ℕ → X → Type 0) → X → Type 0
StopsUnwrapping stream retransmission Stays StopsPassing s =
    Stays s ⊎ ((original : List ℕ) × WritesOriginal stream retransmission original × StopsPassing original s)

-- For a step. `StopsStep` says so of a step of the run behind the session
abbrev pub ServingStopsAt : {X F : Type 0} → (hops_in : X → Hops) → (Stays : X → Type 0) → (StopsPassing : Bool → List ℕ → X → Type 0) → (seen_as : ForwardStep → Bool → F)
    → (StopsStep : F → X → Type 0) → OriginalStream → ServingStep F → Serving X → Session → Type 0
ServingStopsAt hops_in Stays StopsPassing seen_as StopsStep stream (unseen step) s server = StopsStep step s.behind × (server ≡ s.server)
ServingStopsAt hops_in Stays StopsPassing seen_as StopsStep stream (serves is_plain (steps.Send i)) s server = StopsStep (seen_as (plain.Send i) is_plain) s.behind × (server ≡ s.server)
ServingStopsAt hops_in Stays StopsPassing seen_as StopsStep stream (serves is_plain (steps.Arrive k at)) s server =
    (datagram : List ℕ) × (slice_get (hops_in s.behind).wire.datagrams k ≡ Some datagram) × StopsComing stream at datagram Stays (StopsPassing is_plain datagram) s server
ServingStopsAt hops_in Stays StopsPassing seen_as StopsStep stream (serves is_plain (steps.Repeat k again at)) s server =
    (Stays s.behind × (server ≡ s.server))
    ⊎ ((packet : Packet) × (datagram : List ℕ) × (repeated_in stream again (slice_get (hops_in s.behind).wire.datagrams k) ≡ Some packet) × IsAgain again packet datagram
    × StopsComing stream at datagram Stays (StopsUnwrapping stream datagram Stays (StopsPassing is_plain)) s server)
ServingStopsAt hops_in Stays StopsPassing seen_as StopsStep stream (serves is_plain (steps.Call call)) s server = Stays s.behind × (server ≡ s.server)
ServingStopsAt hops_in Stays StopsPassing seen_as StopsStep stream (serves is_plain (steps.Deliver j now)) s server =
    StopsStep (seen_as (plain.Deliver j now) is_plain) s.behind × (server ≡ s.server)
ServingStopsAt hops_in Stays StopsPassing seen_as StopsStep stream (serves is_plain (steps.Pop now)) s server = StopsStep (seen_as (plain.Pop now) is_plain) s.behind × (server ≡ s.server)
ServingStopsAt hops_in Stays StopsPassing seen_as StopsStep stream (serves is_plain steps.Finish) s server = StopsStep (seen_as plain.Finish is_plain) s.behind × (server ≡ s.server)

-- steps, in order, up to one for which memory ran out
abbrev pub FollowUntil : {S X : Type 0} → (DoesStep : S → X → X → Type 0) → (StopsAt : S → X → Type 0) → List S → X → Type 0
FollowUntil DoesStep StopsAt [] s = ⊥
FollowUntil {X = X} DoesStep StopsAt (step ∷ later) s = StopsAt step s ⊎ ((mid : X) × DoesStep step s mid × FollowUntil DoesStep StopsAt later mid)

-- a run of a media server without what else stands behind its session
abbrev pub served_in : {X : Type 0} → (X → Hops) → Serving X → Served
served_in hops_in s = record { hops = hops_in s.behind; server = s.server; answers = s.answers }
