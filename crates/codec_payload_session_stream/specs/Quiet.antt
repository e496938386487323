-- Streams that are not asked: until a moment they have no event, and nothing changes.
use Rattle.std.specs.Prelude.{◌≡◌, ◌<◌, ℕ, zero, suc, ◌^◌, ◌==◌, ◌&&◌, not, if◌then◌else◌, Bool, true, Option, Some, None, Ok}
use Rattle.codec_payload_jitter.specs.Receiving.{PopsWith, Receiving, deadline_of, is_idle, settled, waiting_at}
use Rattle.codec_payload_receiver.specs.Sessions.{Session as Receiver}
use Rattle.codec_payload_session_requests.specs.Requests.{Asking, Asks, are_idle, is_heard, MayRest}
use Rattle.codec_payload_session_stream.specs.Changes.{is_playing}
use Rattle.codec_payload_session_stream.specs.Streams.{StreamState, earlier, request_deadline, work_deadline}
use Rattle.codec_payload_session_stream.specs.declared.stream.Stage.{Stage}
use Rattle.codec_payload_session_stream.specs.declared.stream.Stage.TheVariants as stages

-- a pop of the jitter buffer at this time has no unit, and changes nothing
abbrev pub PopsNothing : ℕ → Receiving → Type 0
PopsNothing now r = PopsWith (waiting_at (settled r) now) (settled r) None r

-- nothing is due at this time, and what is requested stays
abbrev pub AsksNothing : Option Asking → ℕ → ℕ → Receiver → Type 0
AsksNothing None now last r = Unit {0}
AsksNothing (Some a) now last r = Asks now (is_heard now last a) r a (Ok None) a

-- an announced stream that plays has neither a unit nor a request at this time
pub record IsQuiet (now : ℕ) (announced : Bool) (stage : Stage) (last : ℕ) (feedback : Option Asking) (r : Receiver) : Type 0 where
  pub is_announced : announced ≡ true
  pub plays : stage ≡ stages.Playing
  pub pops : PopsNothing now r.packets
  pub asks : AsksNothing feedback now last r

-- a time; 0 is none
abbrev pub time_of : ℕ → Option ℕ
time_of at = if at == 0 then None else Some at

abbrev pub or_none : Option ℕ → ℕ
or_none None = 0
or_none (Some at) = at

-- the same for each time before `until`; `work` is the time at which the stream may have a unit, or a request is due
pub record IsKnown (until : ℕ) (work : Option ℕ) (announced : Bool) (stage : Stage) (last : ℕ) (feedback : Option Asking) (r : Receiver) : Type 0 where
  pub work_is : work ≡ earlier (deadline_of r.packets) (request_deadline stage feedback)
  pub quiet : (now : ℕ) → now < until → IsQuiet now announced stage last feedback r

-- with 0 nothing is known
abbrev pub IsQuietUntil : ℕ → Option ℕ → Bool → Stage → ℕ → Option Asking → Receiver → Type 0
IsQuietUntil zero work announced stage last feedback r = Unit {0}
IsQuietUntil (suc until) work announced stage last feedback r = IsKnown (suc until) work announced stage last feedback r

-- ---- when it is known

-- after a unit of an announced stream: nothing is left to pop or to request until a datagram arrives
abbrev pub is_done : StreamState → Bool
is_done s = is_playing s.stage && is_idle s.receiver.packets && are_idle s.feedback s.receiver

-- the time comes before the deadline, if there is one
abbrev pub IsBefore : Option ℕ → ℕ → Type 0
IsBefore None now = Unit {0}
IsBefore (Some at) now = now < at

-- if the stream had nothing at `now`, it has nothing later
pub record Rests (now later : ℕ) (s : StreamState) : Type 0 where
  pub is_announced : s.announced ≡ true
  pub plays : s.stage ≡ stages.Playing
  pub few : later < 2 ^ 64
  pub before : IsBefore (work_deadline s) later
  pub asks : MayRest s.feedback now later s.last s.receiver

-- the same for each time before `until`
abbrev pub RestsUntil : ℕ → ℕ → StreamState → Type 0
RestsUntil until now s = (later : ℕ) → later < until → Rests now later s
