-- Units above `max_unit` in a run over datagrams. The log of the pops has such a unit like any other one; here is what the receiver
-- answered for it.
use Rattle.std.specs.Prelude.{◌≡◌, ◌≢◌, ℕ, ◌+◌, ◌%◌, ◌^◌, if◌then◌else◌, Bool, true, false, List, [], ◌∷◌, Option, Some, None, Result, Ok, Err, length, map}
use Rattle.std.specs.declared.alloc.AllocError.{AllocError}
use Rattle.codec_payload_base.specs.Pieces.{joined}
use Rattle.codec_payload_base.specs.declared.error.PacketError.TheVariants as faults
use Rattle.codec_payload_base.specs.declared.wire.Ticks.{Ticks}
use Rattle.codec_payload_codec.specs.Depacketizers.{DepacketizerState}
use Rattle.codec_payload_jitter.specs.declared.outcome.Outcome.{Outcome}
use Rattle.codec_payload_metadata.specs.Release.{Release}
use Rattle.codec_payload_metadata.specs.declared.meta.RtpMeta.{RtpMeta}
use Rattle.codec_payload_payloader.specs.Packets.{Packet}
use Rattle.codec_payload_payloader.specs.Sending.{Sample}
use Rattle.codec_payload_buffer_runs.specs.Exact.{AnswersAll, IsWhole}
use Rattle.codec_payload_buffer_runs.specs.Schedule.{Answer}
use Rattle.codec_payload_buffer_runs.specs.SentStream.{SentUnit, units_of_run}
use Rattle.codec_payload_receiver.specs.Bounds.{is_over}
use Rattle.codec_payload_receiver.specs.Pops.{NamesFault, PopsGated, answer_of, bound_if, is_large, is_too_large}
use Rattle.codec_payload_receiver.specs.Sessions.{Ends, ReceivesBytes, Session, session_by}
use Rattle.codec_payload_receiver.specs.declared.pops.Popped.{Popped}
use Rattle.codec_payload_receiver.specs.declared.pops.Popped.TheVariants as popped
use Rattle.codec_payload_receiver.specs.declared.receiver.ReceiveError.{ReceiveError}
use Rattle.codec_payload_receiver.specs.declared.receiver.Settings.{Settings}
use Rattle.codec_payload_sending.specs.Senders.{Sending}
use Rattle.codec_payload_datagram_runs.specs.RedReleases.{IsKnownInRed, ReleasesUnitsInRed}
use Rattle.codec_payload_datagram_runs.specs.RedRuns.{RedWire}
use Rattle.codec_payload_datagram_runs.specs.Releases.{IsKnownOf, ReleasesUnits, sending_steps}
use Rattle.codec_payload_datagram_runs.specs.WireRuns.{Runs, Wire, begins}
use Rattle.codec_payload_datagram_runs.specs.declared.run.DatagramStep.{DatagramStep}

-- What a pop answers

-- a unit with these bytes, by the bound of the receiver
abbrev pub popped_by : (most : Option ℕ) → Release → Popped Release
popped_by most r = if is_over most r.bytes then popped.TooLarge r else popped.Unit r

-- what a pop of a receiver with this bound answered, if the log has this answer
abbrev pub told_by : (most : Option ℕ) → Answer → Option (Result (Popped Release) AllocError)
told_by most None = None
told_by most (Some (Err fault)) = Some (Ok (popped.Refused fault))
told_by most (Some (Ok r)) = Some (Ok (popped_by most r))

-- what `Receiver::pop` states of its answer, if memory did not run out
pub record IsPopOf (most : Option ℕ) (told : Option (Result (Popped Release) AllocError)) : Type 0 where
  pub large : is_too_large told ≡ is_large most (answer_of told)
  pub names : NamesFault told
  pub memory : answer_of told ≢ Some (Err faults.OutOfMemory)

-- the log of a run says what the receiver answered
abbrev pub LogsTell : Type 0
LogsTell = (most : Option ℕ) (told : Option (Result (Popped Release) AllocError)) → IsPopOf most told → told ≡ told_by most (answer_of told)

-- The receiver counts them

abbrev pub one_if : Bool → ℕ
one_if true = 1
one_if false = 0

-- how many of these answers are units above the bound
abbrev pub large_in : Option ℕ → List Answer → ℕ
large_in most [] = 0
large_in most (answer ∷ answers) = one_if (is_large most answer) + large_in most answers

-- the bound stays in each call, and a pop counts a unit above it
pub record CallsCountLarge : Type 0 where
  pub receives : (now : Ticks) (bytes : List ℕ) (s t : Session) (receipt : Result Outcome ReceiveError) → ReceivesBytes now bytes s receipt t → t.bound ≡ s.bound
  pub ends : (s t : Session) → Ends s t → t.bound ≡ s.bound
  pub pops : (now : ℕ) (s t : Session) (answer : Answer) → PopsGated now s answer t → t.bound ≡ bound_if (is_large s.bound.most answer) s.bound answer

-- The bound of a new receiver is that of its settings, also after a run. The receiver has counted as many units above it as the log has
abbrev pub RunsCountLarge : Type 0
RunsCountLarge =
    (samples : List Sample) (all_steps : List DatagramStep) (sender : Sending) (receiver : Session) (t : Wire) (settings : Settings) (depacketizer : DepacketizerState)
    → session_by settings depacketizer ≡ Ok receiver → Runs samples all_steps (begins sender receiver) t
    → (t.session.bound.most ≡ settings.max_unit) × (t.session.bound.units ≡ large_in settings.max_unit t.pops % 2 ^ 64)

-- Units that were sent

-- none of these units, given by their parts, is above the bound
abbrev pub NoneAbove : Option ℕ → List (List (List ℕ)) → Type 0
NoneAbove most [] = Unit {0}
NoneAbove most (parts ∷ units) = (is_over most (joined parts) ≡ false) × NoneAbove most units

-- each of these pops answers None, or a unit that is not too large
abbrev pub AreUnits : Option ℕ → List Answer → Type 0
AreUnits most [] = Unit {0}
AreUnits most (None ∷ answers) = AreUnits most answers
AreUnits most (Some (Err fault) ∷ answers) = ⊥
AreUnits most (Some (Ok r) ∷ answers) = (told_by most (Some (Ok r)) ≡ Some (Ok (popped.Unit r))) × AreUnits most answers

-- The pops return each of these units in order, whole: a unit above the bound as too large, any other one as a unit. Then they always
-- return None
abbrev pub TellsAll : (ℕ → Packet → RtpMeta → Type 0) → (most : Option ℕ) → ℕ → List SentUnit → List Answer → Type 0
TellsAll known most k units [] = Unit {0}
TellsAll known most k [] (answer ∷ answers) = (answer ≡ None) × TellsAll known most k [] answers
TellsAll known most k (u ∷ us) (answer ∷ answers) =
    (r : Release) × (told_by most answer ≡ Some (Ok (if is_over most (joined u.parts) then popped.TooLarge r else popped.Unit r))) × IsWhole known k u r
    × TellsAll known most (k + length u.packets) us answers

-- Of a run whose pops release these units: if none of them is above the bound, each unit that is popped is answered as a unit. If all are
-- popped, exactly those above the bound are answered as too large
pub record ShowsLarge (known : ℕ → Packet → RtpMeta → Type 0) (most : Option ℕ) (units : List SentUnit) (answers : List Answer) : Type 0 where
  pub none_above : NoneAbove most (map (λ (u : SentUnit). u.parts) units) → AreUnits most answers
  pub all : AnswersAll known 0 units answers → TellsAll known most 0 units answers
  pub same : TellsAll known most 0 units answers → AnswersAll known 0 units answers

-- for what runs over datagrams release, also those with retransmissions, each part of one with restarts, and those of a viewer
abbrev pub RunsTellUnits : Type 0
RunsTellUnits =
    (samples : List Sample) (all_steps : List DatagramStep) (s t : Wire) (most : Option ℕ) (released : ReleasesUnits samples all_steps s t)
    → ShowsLarge (IsKnownOf samples all_steps s t released.units) most released.units t.pops

-- for what runs in RED release
abbrev pub RunsTellInRed : Type 0
RunsTellInRed =
    (samples : List Sample) (all_steps : List DatagramStep) (s t : RedWire) (most : Option ℕ) (released : ReleasesUnitsInRed samples all_steps s t)
    → ShowsLarge (IsKnownInRed samples all_steps s t) most released.units t.wire.pops

-- the units of a run over datagrams are those of the samples that it sends
abbrev pub SamplesTellUnits : Type 0
SamplesTellUnits =
    (samples : List Sample) (all_steps : List DatagramStep) (s t : Wire) (most : Option ℕ) → ReleasesUnits samples all_steps s t
    → NoneAbove most (units_of_run s.sending.packetizer samples (sending_steps s.sending.mtu all_steps)) → AreUnits most t.pops
