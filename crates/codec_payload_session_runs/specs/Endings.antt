-- Why the streams of a session end.
use Rattle.std.specs.Prelude.{◌≡◌, ◌≤◌, ◌⊎◌, ℕ, ◌-◌, ◌==◌, ◌&&◌, not, nat_le, nat_lt, length, if◌then◌else◌, Bool, true, false, List, [], ◌∷◌, ◌++◌, Option, Some, None, Result, Ok, Err}
use Rattle.std.specs.Global.{Vec}
use Rattle.std.specs.declared.alloc.AllocError.{AllocError}
use Rattle.codec_payload_base.specs.declared.wire.Ticks.{Ticks}
use Rattle.codec_payload_session.specs.Arrivals.{goodbye_at}
use Rattle.codec_payload_session.specs.Ports.{new_session, Session}
use Rattle.codec_payload_session_formats.specs.declared.formats.SessionSettings.{SessionSettings}
use Rattle.codec_payload_session_stream.specs.Streams.{is_accepted, is_of, is_probation}
use Rattle.codec_payload_session_stream.specs.Units.{Event}
use Rattle.codec_payload_session_stream.specs.declared.arrival.Arrival.{Arrival}
use Rattle.codec_payload_session_stream.specs.declared.arrival.Arrival.TheVariants as arrivals
use Rattle.codec_payload_session_stream.specs.declared.events.Event.TheVariants as events
use Rattle.codec_payload_session_stream.specs.declared.stream.Ending.{Ending}
use Rattle.codec_payload_session_stream.specs.declared.stream.Ending.TheVariants as endings
use Rattle.codec_payload_session_runs.specs.Lives.{EachIsAlone, IsAbsent, IsAlone, StartsWithDatagram, ending_poll, is_same, many_finishes}
use Rattle.codec_payload_session_stream.specs.declared.stream.StreamState.{StreamState}
use Rattle.codec_payload_session_runs.specs.SessionRuns.{Call, Does, Runs}
use Rattle.codec_payload_session_runs.specs.declared.run.SessionStep.{SessionStep}
use Rattle.codec_payload_session_runs.specs.declared.run.SessionStep.TheVariants as steps
use Rattle.codec_payload_session_runs.specs.declared.run.StepAnswer.{StepAnswer}
use Rattle.codec_payload_session_runs.specs.declared.run.StepAnswer.TheVariants as answers

-- ---- the latest datagram of a stream

abbrev pub time_named : (ssrc payload_type now : ℕ) → Result Arrival AllocError → Option ℕ
time_named ssrc payload_type now (Ok (arrivals.Stream s p outcome)) = if is_same ssrc payload_type s p then Some now else None
time_named ssrc payload_type now (Ok (arrivals.Faulty s p fault)) = if is_same ssrc payload_type s p then Some now else None
time_named ssrc payload_type now (Ok arrivals.Rtcp) = None
time_named ssrc payload_type now (Ok arrivals.Malformed) = None
time_named ssrc payload_type now (Ok arrivals.Unknown) = None
time_named ssrc payload_type now (Ok arrivals.Refused) = None
time_named ssrc payload_type now (Ok arrivals.Unassociated) = None
time_named ssrc payload_type now (Err e) = None

abbrev pub time_answered : (ssrc payload_type now : ℕ) → StepAnswer → Option ℕ
time_answered ssrc payload_type now (answers.Received arrival) = time_named ssrc payload_type now arrival
time_answered ssrc payload_type now (answers.Polled event) = None
time_answered ssrc payload_type now (answers.Reported block) = None
time_answered ssrc payload_type now (answers.PairAdded added) = None
time_answered ssrc payload_type now (answers.KeyframeAsked asked) = None
time_answered ssrc payload_type now answers.Done = None

abbrev pub time_by : (ssrc payload_type : ℕ) → SessionStep → StepAnswer → Option ℕ
time_by ssrc payload_type (steps.Receive now micros datagram) answer = time_answered ssrc payload_type now.0 answer
time_by ssrc payload_type (steps.Poll now) answer = None
time_by ssrc payload_type (steps.End now s) answer = None
time_by ssrc payload_type (steps.Finish now) answer = None
time_by ssrc payload_type (steps.SetWaitLimits s p limits) answer = None
time_by ssrc payload_type (steps.Report now s p) answer = None
time_by ssrc payload_type (steps.AddPair s retransmission) answer = None
time_by ssrc payload_type (steps.RemovePair s) answer = None
time_by ssrc payload_type (steps.RequestKeyframe s) answer = None
time_by ssrc payload_type steps.RestartTransport answer = None

-- the time of the call, if it gave the stream with this SSRC and payload type a datagram
abbrev pub time_given : ℕ → ℕ → Call → Option ℕ
time_given ssrc payload_type c = time_by ssrc payload_type c.step c.answer

abbrev pub or_before : Option ℕ → Option ℕ → Option ℕ
or_before None before = before
or_before (Some at) before = Some at

-- the time of the last of the calls that gave the stream a datagram; without one, what was before
abbrev pub last_given : ℕ → ℕ → Option ℕ → List Call → Option ℕ
last_given ssrc payload_type before [] = before
last_given ssrc payload_type before (c ∷ cs) = last_given ssrc payload_type (or_before (time_given ssrc payload_type c) before) cs

-- ---- causes

-- a datagram with a BYE that names the SSRC (RFC 3550, section 6.6)
abbrev pub IsBye : ℕ → Call → Type 0
IsBye ssrc c = (now : Ticks) × (micros : Option ℕ) × (datagram : Vec ℕ) × (c.step ≡ steps.Receive now micros datagram) × (goodbye_at datagram.items ssrc ≡ true)

-- the caller ended the streams of the SSRC, or all streams
abbrev pub IsEndCall : ℕ → Call → Type 0
IsEndCall ssrc c = ((now : Ticks) × (c.step ≡ steps.End now ssrc)) ⊎ ((now : Ticks) × (c.step ≡ steps.Finish now))

abbrev pub names_other : (ssrc payload_type : ℕ) → Arrival → Bool
names_other ssrc payload_type (arrivals.Stream s p outcome) = (s == ssrc) && not (p == payload_type)
names_other ssrc payload_type (arrivals.Faulty s p fault) = (s == ssrc) && not (p == payload_type)
names_other ssrc payload_type arrivals.Rtcp = false
names_other ssrc payload_type arrivals.Malformed = false
names_other ssrc payload_type arrivals.Unknown = false
names_other ssrc payload_type arrivals.Refused = false
names_other ssrc payload_type arrivals.Unassociated = false

-- a datagram went to the stream of the same SSRC and another payload type
abbrev pub IsChange : ℕ → ℕ → Call → Type 0
IsChange ssrc payload_type c = (arrival : Arrival) × (c.answer ≡ answers.Received (Ok arrival)) × (names_other ssrc payload_type arrival ≡ true)

-- a poll, as long after the latest datagram of the stream as the idle timeout
abbrev pub IsSilence : (idle ssrc payload_type : ℕ) → List Call → Call → Type 0
IsSilence idle ssrc payload_type before c =
    (now : Ticks) × (at : ℕ) × (c.step ≡ steps.Poll now) × (last_given ssrc payload_type None before ≡ Some at) × (nat_le idle (now.0 - at) ≡ true)

-- the call after these calls lets the stream end
abbrev pub IsCause : (idle : ℕ) → Ending → (ssrc payload_type : ℕ) → List Call → Call → Type 0
IsCause idle endings.Bye ssrc payload_type before c = IsBye ssrc c
IsCause idle endings.Timeout ssrc payload_type before c = IsSilence idle ssrc payload_type before c
IsCause idle endings.ByCall ssrc payload_type before c = IsEndCall ssrc c
IsCause idle endings.Changed ssrc payload_type before c = IsChange ssrc payload_type c

-- one of the calls let the stream end
abbrev pub HasCause : (idle : ℕ) → Ending → (ssrc payload_type : ℕ) → List Call → Type 0
HasCause idle why ssrc payload_type calls =
    (before : List Call) × (c : Call) × (after : List Call) × (calls ≡ before ++ c ∷ after) × IsCause idle why ssrc payload_type before c

-- ---- whole runs

-- the calls since the stream began: the first one gave it a datagram, and in front of it the session had no stream with this SSRC and
-- payload type
pub record BeganWith (settings : SessionSettings) (calls : List Call) (ssrc payload_type : ℕ) (since : List Call) : Type 0 where
  pub earlier : List Call
  pub whole : calls ≡ earlier ++ since
  pub starts : StartsWithDatagram ssrc payload_type since
  pub reached : Session
  pub reaches : Runs earlier (new_session settings) reached
  pub absent : IsAbsent ssrc payload_type reached.port.streams

-- each event that says why a stream ended has its cause in the stream's own time: a BYE of its SSRC, its idle timeout, a call of the
-- caller, or another format of its SSRC
abbrev pub EndsHaveCauses : Type 0
EndsHaveCauses =
    (settings : SessionSettings) (before after : List Call) (now : Ticks) (ssrc payload_type : ℕ) (why : Ending) (s : Session)
    → Runs (before ++ ending_poll now ssrc payload_type why ∷ after) (new_session settings) s
    → (since : List Call) × BeganWith settings (before ++ ending_poll now ssrc payload_type why ∷ []) ssrc payload_type since
    × HasCause settings.idle_timeout why ssrc payload_type since

-- the receiver of the stream was finished at most once, and only after a call that let the stream end
pub record FinishHasCause (settings : SessionSettings) (calls : List Call) (s : StreamState) : Type 0 where
  pub alone : IsAlone settings calls s.ssrc s.format s.announced s.receiver
  pub once : many_finishes alone.own ≤ 1
  pub caused : (many_finishes alone.own ≡ 0) ⊎ ((why : Ending) × (since : List Call) × BeganWith settings calls s.ssrc s.format.payload_type since × HasCause settings.idle_timeout why s.ssrc s.format.payload_type since)

abbrev pub EachFinishHasCause : SessionSettings → List Call → List StreamState → Type 0
EachFinishHasCause settings calls [] = Unit {0}
EachFinishHasCause settings calls (s ∷ ss) = FinishHasCause settings calls s × EachFinishHasCause settings calls ss

-- at each moment of a run: no poll finishes the receiver of a stream that did not have to end
abbrev pub FinishesHaveCauses : Type 0
FinishesHaveCauses = (settings : SessionSettings) (calls : List Call) (s : Session) → Runs calls (new_session settings) s → EachFinishHasCause settings calls s.port.streams

-- at each moment of a run each stream is a receiver alone. So was a stream in probation until a new SSRC took its place, without an
-- event
abbrev pub StreamsAreAlone : Type 0
StreamsAreAlone = (settings : SessionSettings) (calls : List Call) (s : Session) → Runs calls (new_session settings) s → EachIsAlone settings calls s.port.streams

-- ---- two datagrams

abbrev pub accepted_as : (ssrc payload_type : ℕ) → Result Arrival AllocError → Bool
accepted_as ssrc payload_type (Ok (arrivals.Stream s p outcome)) = is_same ssrc payload_type s p && is_accepted (Ok outcome)
accepted_as ssrc payload_type (Ok (arrivals.Faulty s p fault)) = false
accepted_as ssrc payload_type (Ok arrivals.Rtcp) = false
accepted_as ssrc payload_type (Ok arrivals.Malformed) = false
accepted_as ssrc payload_type (Ok arrivals.Unknown) = false
accepted_as ssrc payload_type (Ok arrivals.Refused) = false
accepted_as ssrc payload_type (Ok arrivals.Unassociated) = false
accepted_as ssrc payload_type (Err e) = false

-- the stream accepted the datagram of the call
abbrev pub is_accepted_by : (ssrc payload_type : ℕ) → StepAnswer → Bool
is_accepted_by ssrc payload_type (answers.Received arrival) = accepted_as ssrc payload_type arrival
is_accepted_by ssrc payload_type (answers.Polled event) = false
is_accepted_by ssrc payload_type (answers.Reported block) = false
is_accepted_by ssrc payload_type (answers.PairAdded added) = false
is_accepted_by ssrc payload_type (answers.KeyframeAsked asked) = false
is_accepted_by ssrc payload_type answers.Done = false

-- a place is free
abbrev pub HasRoom : Session → Type 0
HasRoom s = nat_lt (length s.port.streams) s.settings.max_streams ≡ true

-- the calls in order, each of a session with a free place
abbrev pub RunsWithRoom : List Call → Session → Session → Type 0
RunsWithRoom [] s t = t ≡ s
RunsWithRoom (c ∷ cs) s t = HasRoom s × ((mid : Session) × Does c.step s c.answer mid × RunsWithRoom cs mid t)

abbrev pub ends_it : (ssrc payload_type : ℕ) → Option Event → Bool
ends_it ssrc payload_type None = false
ends_it ssrc payload_type (Some (events.Ended s p why)) = is_same ssrc payload_type s p
ends_it ssrc payload_type (Some (events.Begun s p)) = false
ends_it ssrc payload_type (Some (events.Unit s p time decodable keyframe unit)) = false
ends_it ssrc payload_type (Some (events.TooLarge s p unit)) = false
ends_it ssrc payload_type (Some (events.Refused s p fault)) = false
ends_it ssrc payload_type (Some (events.Feedback s p packet)) = false
ends_it ssrc payload_type (Some (events.Telephone s p time marker payload)) = false
ends_it ssrc payload_type (Some (events.Report packet)) = false
ends_it ssrc payload_type (Some (events.TransportFeedback packet)) = false

abbrev pub is_end_of : (ssrc payload_type : ℕ) → StepAnswer → Bool
is_end_of ssrc payload_type (answers.Polled event) = ends_it ssrc payload_type event
is_end_of ssrc payload_type (answers.Received arrival) = false
is_end_of ssrc payload_type (answers.Reported block) = false
is_end_of ssrc payload_type (answers.PairAdded added) = false
is_end_of ssrc payload_type (answers.KeyframeAsked asked) = false
is_end_of ssrc payload_type answers.Done = false

-- no event says that the stream ended
abbrev pub NoEnd : (ssrc payload_type : ℕ) → List Call → Type 0
NoEnd ssrc payload_type [] = Unit {0}
NoEnd ssrc payload_type (c ∷ cs) = (is_end_of ssrc payload_type c.answer ≡ false) × NoEnd ssrc payload_type cs

-- one of the streams has this SSRC and payload type, and left probation: it is announced, or a poll that asks it announces it
abbrev pub HasBegun : (ssrc payload_type : ℕ) → List StreamState → Type 0
HasBegun ssrc payload_type [] = ⊥
HasBegun ssrc payload_type (s ∷ ss) = ((is_of ssrc payload_type s ≡ true) × (is_probation s.stage ≡ false)) ⊎ HasBegun ssrc payload_type ss

-- A stream accepts two datagrams. Between them come any calls, so datagrams of any other SSRCs; a place is free before each of these
-- calls, and no event ends the stream. Then it has left probation
abbrev pub TwoDatagramsBegin : Type 0
TwoDatagramsBegin =
    (settings : SessionSettings) (before between : List Call) (first second : Call) (ssrc payload_type : ℕ) (s t u v : Session)
    → settings.probation ≤ 2 → Runs before (new_session settings) s → HasRoom s → Does first.step s first.answer t → is_accepted_by ssrc payload_type first.answer ≡ true
    → RunsWithRoom between t u → NoEnd ssrc payload_type between → HasRoom u → Does second.step u second.answer v → is_accepted_by ssrc payload_type second.answer ≡ true
    → HasBegun ssrc payload_type v.port.streams
