-- What a run of a media server is for its session, and what it is as a run with a forwarder. The session's calls are a run of a
-- session. Each datagram that the session took as one of the stream is a `Forward` step. So the theorems on both kinds of runs apply.
use Rattle.std.specs.Global.{Vec}
use Rattle.std.specs.Prelude.{◌≡◌, ℕ, nat_lt, ◌&&◌, if◌then◌else◌, Bool, true, false, List, [], ◌∷◌, ◌++◌, Option, MatchOption, drop, map, slice_get, take}
use Rattle.codec_payload_payloader.specs.Sending.{Sample}
use Rattle.codec_payload_rtp.specs.RtpPackets.{Packet}
use Rattle.codec_payload_sending_history.specs.declared.original.OriginalStream.{OriginalStream}
use Rattle.codec_payload_sending_history.specs.declared.retransmission.RetransmissionStream.{RetransmissionStream}
use Rattle.codec_payload_session.specs.Ports.{new_session}
use Rattle.codec_payload_session_formats.specs.declared.formats.SessionSettings.{SessionSettings}
use Rattle.codec_payload_datagram_runs.specs.Releases.{sends_after, sent_after}
use Rattle.codec_payload_datagram_runs.specs.declared.run.SentSample.{SentSample}
use Rattle.codec_payload_forward_runs.specs.FirstHop.{original_stream}
use Rattle.codec_payload_forward_runs.specs.ForwardReleases.{ForwardsPackets, KeepsPromisesForwarded, ReleasesForwarded}
use Rattle.codec_payload_forward_runs.specs.declared.run.ForwardStep.{ForwardStep}
use Rattle.codec_payload_forward_runs.specs.declared.run.ForwardStep.TheVariants as plain
use Rattle.codec_payload_session_runs.specs.Lives.{EachEndedAlone, EachIsAlone, TellsInOrder}
use Rattle.codec_payload_session_runs.specs.SessionRuns.{Call, Runs}
use Rattle.codec_payload_session_runs.specs.declared.run.SessionStep.{SessionStep}
use Rattle.codec_payload_session_runs.specs.declared.run.SessionStep.TheVariants as calls
use Rattle.codec_payload_session_runs.specs.declared.run.StepAnswer.{StepAnswer}
use Rattle.codec_payload_session_runs.specs.declared.run.StepAnswer.TheVariants as answers
use Rattle.codec_payload_server_runs.specs.ServeRuns.{IsAgain, Served, fits_in, is_taken_as, repeated_in}
use Rattle.codec_payload_server_runs.specs.declared.run.Moment.{Moment}
use Rattle.codec_payload_server_runs.specs.declared.run.ServeStep.{ServeStep}
use Rattle.codec_payload_server_runs.specs.declared.run.ServeStep.TheVariants as steps

-- The run with the forwarder

-- the answer of the session says that it took a datagram as one of the stream
abbrev pub says_taken : OriginalStream → StepAnswer → Bool
says_taken stream (answers.Received arrival) = is_taken_as stream arrival
says_taken stream (answers.Polled event) = false
says_taken stream (answers.Reported block) = false
says_taken stream (answers.PairAdded added) = false
says_taken stream (answers.KeyframeAsked asked) = false
says_taken stream answers.Done = false

-- the step of the forwarder for a datagram, if the session took the datagram as one of the stream
abbrev pub passed_by : (taken : Bool) → (k time : ℕ) → List ForwardStep
passed_by true k time = plain.Forward k time ∷ []
passed_by false k time = []

-- the same for the first of these answers of the session
abbrev pub passed_first : OriginalStream → List StepAnswer → (k time : ℕ) → List ForwardStep
passed_first stream [] k time = []
passed_first stream (answer ∷ rest) k time = passed_by (says_taken stream answer) k time

-- The steps of a run with a forwarder: each datagram that the session took as one of the stream comes to the forwarder, and the
-- retransmission of a datagram counts as the datagram. Before these steps `sent` datagrams were sent. `sends` and `told` have the
-- entries of sends and the answers of the session
abbrev pub forwarded_steps : OriginalStream → List Sample → (sent : ℕ) → List ServeStep → List SentSample → (told : List StepAnswer) → List ForwardStep
forwarded_steps stream samples sent [] sends told = []
forwarded_steps stream samples sent (steps.Send i ∷ later) sends told =
    plain.Send i ∷ forwarded_steps stream samples (sent_after sent (slice_get samples i) sends) later (sends_after (slice_get samples i) sends) told
forwarded_steps stream samples sent (steps.Arrive k at ∷ later) sends told =
    if nat_lt k sent then passed_first stream told k at.time ++ forwarded_steps stream samples sent later sends (drop 1 told)
    else forwarded_steps stream samples sent later sends told
forwarded_steps stream samples sent (steps.Repeat k again at ∷ later) sends told =
    if nat_lt k sent && fits_in stream again then passed_first stream told k at.time ++ forwarded_steps stream samples sent later sends (drop 1 told)
    else forwarded_steps stream samples sent later sends told
forwarded_steps stream samples sent (steps.Call call ∷ later) sends told = forwarded_steps stream samples sent later sends (drop 1 told)
forwarded_steps stream samples sent (steps.Deliver j now ∷ later) sends told = plain.Deliver j now ∷ forwarded_steps stream samples sent later sends told
forwarded_steps stream samples sent (steps.Pop now ∷ later) sends told = plain.Pop now ∷ forwarded_steps stream samples sent later sends told
forwarded_steps stream samples sent (steps.Finish ∷ later) sends told = plain.Finish ∷ forwarded_steps stream samples sent later sends told

-- the same for a whole run
abbrev pub forwarded_steps_of : OriginalStream → List Sample → List ServeStep → Served → List ForwardStep
forwarded_steps_of stream samples all_steps t = forwarded_steps stream samples 0 all_steps t.hops.wire.sends t.answers

-- a retransmission comes in these steps
abbrev pub has_repeats : List ServeStep → Bool
has_repeats [] = false
has_repeats (steps.Send i ∷ later) = has_repeats later
has_repeats (steps.Arrive k at ∷ later) = has_repeats later
has_repeats (steps.Repeat k again at ∷ later) = true
has_repeats (steps.Call call ∷ later) = has_repeats later
has_repeats (steps.Deliver j now ∷ later) = has_repeats later
has_repeats (steps.Pop now ∷ later) = has_repeats later
has_repeats (steps.Finish ∷ later) = has_repeats later

-- If retransmissions come, the stream that the media server forwards is the sender's: they are unwrapped as its packets
abbrev pub UnwrapsSender : OriginalStream → List ServeStep → Served → Type 0
UnwrapsSender stream all_steps s = has_repeats all_steps ≡ true → original_stream s.hops.wire.sending.stream ≡ stream

-- Each written datagram is one that the session took and the forwarder forwarded, as the viewer gets it
abbrev pub ServesPackets : OriginalStream → List Sample → List ServeStep → Served → Served → Type 0
ServesPackets stream samples all_steps s t = UnwrapsSender stream all_steps s → ForwardsPackets samples (forwarded_steps_of stream samples all_steps t) s.hops t.hops

-- what the viewer's receiver releases
abbrev pub ReleasesServed : OriginalStream → List Sample → List ServeStep → Served → Served → Type 0
ReleasesServed stream samples all_steps s t = UnwrapsSender stream all_steps s → ReleasesForwarded samples (forwarded_steps_of stream samples all_steps t) s.hops t.hops

-- the same pop by pop
abbrev pub KeepsPromisesServed : OriginalStream → List Sample → List ServeStep → Served → Served → Type 0
KeepsPromisesServed stream samples all_steps s t = UnwrapsSender stream all_steps s → KeepsPromisesForwarded samples (forwarded_steps_of stream samples all_steps t) s.hops t.hops

-- The session

-- the first of these calls, and those after it
abbrev pub FirstIs : (SessionStep → Type 0) → (List Call → Type 0) → List Call → Type 0
FirstIs First Rest [] = ⊥
FirstIs First Rest (c ∷ cs) = First c.step × Rest cs

-- the session receives the datagram, or the retransmission of a packet
abbrev pub Receives : Moment → (List ℕ → Type 0) → SessionStep → Type 0
Receives at Are step = (datagram : Vec ℕ) × Are datagram.items × (step ≡ calls.Receive at.now at.micros datagram)

-- These are the calls that the steps make of the session. Before these steps `sent` of the datagrams were sent
abbrev pub AreCalls : OriginalStream → List Sample → (datagrams : List (List ℕ)) → (sent : ℕ) → List ServeStep → List SentSample → List Call → Type 0
AreCalls stream samples datagrams sent [] sends cs = cs ≡ []
AreCalls stream samples datagrams sent (steps.Send i ∷ later) sends cs =
    AreCalls stream samples datagrams (sent_after sent (slice_get samples i) sends) later (sends_after (slice_get samples i) sends) cs
AreCalls stream samples datagrams sent (steps.Arrive k at ∷ later) sends cs =
    MatchOption (slice_get (take sent datagrams) k) (AreCalls stream samples datagrams sent later sends cs)
    (λ bytes. FirstIs (Receives at (λ (datagram : List ℕ). datagram ≡ bytes)) (AreCalls stream samples datagrams sent later sends) cs)
AreCalls stream samples datagrams sent (steps.Repeat k again at ∷ later) sends cs =
    MatchOption (repeated_in stream again (slice_get (take sent datagrams) k)) (AreCalls stream samples datagrams sent later sends cs)
    (λ packet. FirstIs (Receives at (IsAgain again packet)) (AreCalls stream samples datagrams sent later sends) cs)
AreCalls stream samples datagrams sent (steps.Call call ∷ later) sends cs =
    FirstIs (λ (step : SessionStep). step ≡ call) (AreCalls stream samples datagrams sent later sends) cs
AreCalls stream samples datagrams sent (steps.Deliver j now ∷ later) sends cs = AreCalls stream samples datagrams sent later sends cs
AreCalls stream samples datagrams sent (steps.Pop now ∷ later) sends cs = AreCalls stream samples datagrams sent later sends cs
AreCalls stream samples datagrams sent (steps.Finish ∷ later) sends cs = AreCalls stream samples datagrams sent later sends cs

-- The session makes a run of these calls, with these answers. If the session was new, what is proved of such runs applies: each stream
-- is a receiver alone, also one that ended, and the events are in order
pub record ServesAsSession (stream : OriginalStream) (samples : List Sample) (all_steps : List ServeStep) (s t : Served) : Type 0 where
  pub made : List Call
  pub are : AreCalls stream samples t.hops.wire.datagrams 0 all_steps t.hops.wire.sends made
  pub answered : map (λ (c : Call). c.answer) made ≡ t.answers
  pub runs : Runs made s.server t.server
  pub alone : (settings : SessionSettings) → s.server ≡ new_session settings → EachIsAlone settings made t.server.port.streams
  pub ended : (settings : SessionSettings) → s.server ≡ new_session settings → EachEndedAlone settings made
  pub order : (settings : SessionSettings) → s.server ≡ new_session settings → TellsInOrder made t.server.port.streams
