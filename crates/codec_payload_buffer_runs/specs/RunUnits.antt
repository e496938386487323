-- The fate of units that are held whole, and when the released units are a beginning of the sent ones.
use Rattle.std.specs.Prelude.{◌≡◌, ℕ, ◌+◌, ◌<◌, ◌≤◌, ◌⊎◌, Bool, true, List, [], ◌∷◌, Some, None, Ok, Err, Contains, length, slice_get}
use Rattle.codec_payload_buffer.specs.Frames.{frames}
use Rattle.codec_payload_buffer_runs.specs.Headline.{IsPushOf, packets_before, IsUnitAt}
use Rattle.codec_payload_buffer.specs.Held.{has_number}
use Rattle.codec_payload_buffer_runs.specs.Log.{Stretch, Turn, RunLog}
use Rattle.codec_payload_metadata.specs.Release.{Release}
use Rattle.codec_payload_payloader.specs.Packets.{Packet}
use Rattle.codec_payload_buffer_runs.specs.RunOrder.{evicted_in, last_number}
use Rattle.codec_payload_buffer_runs.specs.Schedule.{Answer, RunState}
use Rattle.codec_payload_payloader.specs.Sending.{Sample}
use Rattle.codec_payload_buffer_runs.specs.SentStream.{SentUnit, packets_of}
use Rattle.codec_payload_buffer.specs.Steps.{State}
use Rattle.codec_payload_buffer_runs.specs.ReportedIds.{next_id}
use Rattle.codec_payload_codec.specs.Packetizers.{may_split}
use Rattle.codec_payload_buffer.specs.declared.buffer.frames.CompleteFrame.{CompleteFrame}
use Rattle.codec_payload_metadata.specs.declared.meta.RtpMeta.{RtpMeta}
use Rattle.codec_payload_buffer_runs.specs.declared.run.Sent.{Sent}
use Rattle.codec_payload_buffer_runs.specs.declared.run.Step.{Step}

-- n is the number of a packet of the unit at that place, if the numbers of all packets start at `first`
pub record IsNumberIn (first : ℕ) (units : List SentUnit) (place n : ℕ) : Type 0 where
  pub from : first + packets_before place units ≤ n
  pub to : n < first + packets_before (place + 1) units

-- every packet of the unit at that place is held
abbrev pub IsHeldWhole : ℕ → List SentUnit → ℕ → State → Type 0
IsHeldWhole first units place s = (n : ℕ) → IsNumberIn first units place n → has_number n s.held ≡ true

-- the release is the unit at that place, with nothing missing
abbrev pub IsWholeAt : (ℕ → Packet → RtpMeta → Type 0) → Bool → List SentUnit → ℕ → Release → Type 0
IsWholeAt known splits units place r = (is : IsUnitAt known splits units place r) × (is.missing ≡ [])

-- the result is that release
abbrev pub ReleasesWhole : (ℕ → Packet → RtpMeta → Type 0) → Bool → List SentUnit → ℕ → Answer → Type 0
ReleasesWhole known splits units place None = ⊥
ReleasesWhole known splits units place (Some (Err fault)) = ⊥
ReleasesWhole known splits units place (Some (Ok r)) = IsWholeAt known splits units place r

-- one of these pops releases the unit
abbrev pub IsReleasedIn : (ℕ → Packet → RtpMeta → Type 0) → Bool → List SentUnit → ℕ → List Turn → Type 0
IsReleasedIn known splits units place [] = ⊥
IsReleasedIn known splits units place (turn ∷ turns) =
    ReleasesWhole known splits units place turn.answer ⊎ IsReleasedIn known splits units place turns

-- one of these frames is the frame of the whole unit
abbrev pub IsAmong : ℕ → List SentUnit → ℕ → List CompleteFrame → Type 0
IsAmong first units place passed =
    (f : CompleteFrame) × Contains passed f × (f.first ≡ first + packets_before place units) × (f.last + 1 ≡ first + packets_before (place + 1) units)

-- one of these pops skips the unit
abbrev pub IsPassedOverIn : ℕ → List SentUnit → ℕ → List Turn → Type 0
IsPassedOverIn first units place [] = ⊥
IsPassedOverIn first units place (turn ∷ turns) = IsAmong first units place turn.passed ⊎ IsPassedOverIn first units place turns

-- a push of one of these stretches evicts the packet with that number
abbrev pub IsEvictedIn : ℕ → ℕ → ℕ → List Turn → Stretch → Type 0
IsEvictedIn first count n [] end = Contains (evicted_in first count end) n
IsEvictedIn first count n (turn ∷ turns) end = Contains (evicted_in first count turn.stretch) n ⊎ IsEvictedIn first count n turns end

-- or one of the unit's packets
abbrev pub LosesPacketIn : ℕ → List SentUnit → ℕ → List Turn → Stretch → Type 0
LosesPacketIn first units place turns end = (n : ℕ) × IsNumberIn first units place n × IsEvictedIn first (length (packets_of units)) n turns end

-- the possible fates of a unit that is held whole before the first of these pops; `later` has the pops after the first
pub data Fate (known : ℕ → Packet → RtpMeta → Type 0) (first : ℕ) (splits : Bool) (units : List SentUnit) (place : ℕ) (turns later : List Turn) (end : Stretch) : Type 0 where
  released : IsReleasedIn known splits units place turns → Fate known first splits units place turns later end
  skipped_over : IsPassedOverIn first units place turns → Fate known first splits units place turns later end
  held : IsHeldWhole first units place end.now → Fate known first splits units place turns later end
  evicted : LosesPacketIn first units place later end → Fate known first splits units place turns later end

-- no unit that is held whole before one of these pops is lost silently
abbrev pub NoneIsLost : (ℕ → Packet → RtpMeta → Type 0) → ℕ → Bool → List SentUnit → List Turn → Stretch → Type 0
NoneIsLost known first splits units [] end = Unit {0}
NoneIsLost known first splits units (turn ∷ turns) end =
    ((place : ℕ) (u : SentUnit) → slice_get units place ≡ Some u → IsHeldWhole first units place turn.stretch.now → Fate known first splits units place (turn ∷ turns) turns end)
    × NoneIsLost known first splits units turns end

-- No silent loss
abbrev pub LosesNoneSilently : {samples : List Sample} {all_steps : List Step} {s : RunState} {sends : List Sent} {pops : List Answer} {t : RunState} → RunLog samples all_steps s sends pops t → Type 0
LosesNoneSilently {all_steps = all_steps} {s = s} {sends = sends} log =
    NoneIsLost (IsPushOf all_steps sends s.payloading.clock_rate) s.sink.first (may_split s.payloading.packetizer) log.released.units log.turns log.end

-- no pop passes a frame over
abbrev pub NonePassedOver : List Turn → Type 0
NonePassedOver [] = Unit {0}
NonePassedOver (turn ∷ turns) = (turn.passed ≡ []) × NonePassedOver turns

-- nor any of a run of a codec that does not send both picture id and TL0PICIDX
abbrev pub PassesNoneOver : {samples : List Sample} {all_steps : List Step} {s : RunState} {sends : List Sent} {pops : List Answer} {t : RunState} → RunLog samples all_steps s sends pops t → Type 0
PassesNoneOver {s = s} log = next_id s.payloading.packetizer ≡ None → NonePassedOver log.turns

-- these frames all end at such numbers
abbrev pub AllEnd : (ℕ → Type 0) → List CompleteFrame → Type 0
AllEnd P [] = Unit {0}
AllEnd P (f ∷ fs) = P f.last × AllEnd P fs

-- and the unit, if one is released
abbrev pub AnswerEnds : (ℕ → Type 0) → Answer → Type 0
AnswerEnds P None = Unit {0}
AnswerEnds P (Some (Err fault)) = Unit {0}
AnswerEnds P (Some (Ok r)) = P (last_number 0 r.metas)

-- all units that these pops release or skip end at such numbers
abbrev pub AllTakenEnd : (ℕ → Type 0) → List Turn → Type 0
AllTakenEnd P [] = Unit {0}
AllTakenEnd P (turn ∷ turns) = AllEnd P turn.passed × AnswerEnds P turn.answer × AllTakenEnd P turns

-- a unit that ends at e is outside of the 16,384 from place n on
abbrev pub EndsOutside : ℕ → List SentUnit → ℕ → ℕ → Type 0
EndsOutside first units n e = (e < first + packets_before n units) ⊎ (first + packets_before (n + 16384) units ≤ e)

-- these frames all start at n or above
abbrev pub AllStartFrom : ℕ → List CompleteFrame → Type 0
AllStartFrom n [] = Unit {0}
AllStartFrom n (f ∷ fs) = (n ≤ f.first) × AllStartFrom n fs

-- and so do all units that these pops skip
abbrev pub AllPassedFrom : ℕ → List Turn → Type 0
AllPassedFrom n [] = Unit {0}
AllPassedFrom n (turn ∷ turns) = AllStartFrom n turn.passed × AllPassedFrom n turns

-- there are 16,384 units in a row that these pops do not return, and the units that they skip come after them
pub record IsGap (first : ℕ) (units : List SentUnit) (turns : List Turn) : Type 0 where
  pub place : ℕ
  pub none_taken : AllTakenEnd (EndsOutside first units place) turns
  pub later : AllPassedFrom (first + packets_before (place + 16384) units) turns

-- No silent loss, for skipped units: there are none, or 16,384 units in a row were not returned before
abbrev pub PassesOnlyPastGap : {samples : List Sample} {all_steps : List Step} {s : RunState} {sends : List Sent} {pops : List Answer} {t : RunState} → RunLog samples all_steps s sends pops t → Type 0
PassesOnlyPastGap {s = s} log = NonePassedOver log.turns ⊎ IsGap s.sink.first log.released.units log.turns

-- how many units are released
abbrev pub count_after : ℕ → Answer → ℕ
count_after n None = n
count_after n (Some (Err fault)) = n
count_after n (Some (Ok r)) = n + 1

-- if this is a release, it is the unit at place n, whole
abbrev pub IsNext : (ℕ → Packet → RtpMeta → Type 0) → Bool → List SentUnit → ℕ → Answer → Type 0
IsNext known splits units n None = Unit {0}
IsNext known splits units n (Some (Err fault)) = Unit {0}
IsNext known splits units n (Some (Ok r)) = IsWholeAt known splits units n r

-- the releases are the units from place n on, each whole
abbrev pub AreNext : (ℕ → Packet → RtpMeta → Type 0) → Bool → List SentUnit → ℕ → List Answer → Type 0
AreNext known splits units n [] = Unit {0}
AreNext known splits units n (answer ∷ answers) =
    IsNext known splits units n answer × AreNext known splits units (count_after n answer) answers

-- the first release is the first unit, whole
abbrev pub FirstIsWhole : (ℕ → Packet → RtpMeta → Type 0) → Bool → List SentUnit → List Answer → Type 0
FirstIsWhole known splits units [] = Unit {0}
FirstIsWhole known splits units (None ∷ answers) = FirstIsWhole known splits units answers
FirstIsWhole known splits units (Some (Err fault) ∷ answers) = FirstIsWhole known splits units answers
FirstIsWhole known splits units (Some (Ok r) ∷ answers) = IsWholeAt known splits units 0 r

-- no push before the last pop evicts a packet
abbrev pub NoneEvicted : ℕ → ℕ → List Turn → Type 0
NoneEvicted first count [] = Unit {0}
NoneEvicted first count (turn ∷ turns) = (evicted_in first count turn.stretch ≡ []) × NoneEvicted first count turns

-- each pop finds the next unit fully held, or no more complete frames than are held back; n are released so far
abbrev pub IsPatient : ℕ → List SentUnit → ℕ → List Turn → Type 0
IsPatient first units n [] = Unit {0}
IsPatient first units n (turn ∷ turns) =
    (IsHeldWhole first units n turn.stretch.now ⊎ (length (frames turn.stretch.now.held) ≤ turn.stretch.now.hold_back))
    × IsPatient first units (count_after n turn.answer) turns

-- Beginning
abbrev pub BeginsAsSent : {samples : List Sample} {all_steps : List Step} {s : RunState} {sends : List Sent} {pops : List Answer} {t : RunState} → RunLog samples all_steps s sends pops t → Type 0
BeginsAsSent {all_steps = all_steps} {s = s} {sends = sends} {pops = pops} {t = t} log =
    FirstIsWhole (IsPushOf all_steps sends s.payloading.clock_rate) (may_split s.payloading.packetizer) log.released.units pops
    → NoneEvicted s.sink.first (length t.sink.packets) log.turns
    → IsPatient s.sink.first log.released.units 0 log.turns
    → AreNext (IsPushOf all_steps sends s.payloading.clock_rate) (may_split s.payloading.packetizer) log.released.units 0 pops
