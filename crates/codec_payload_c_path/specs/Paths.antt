-- The calls on a path to a viewer.
use Rattle.std.specs.Prelude.{◌≡◌, ◌⊎◌, ◌<◌, ℕ, ◌+◌, ◌==◌, if◌then◌else◌, List, map, Option, Some, None, Result, Ok, Err}
use Rattle.codec_payload_bandwidth_layers.specs.declared.chooser.LayerChoice.{LayerChoice}
use Rattle.codec_payload_bandwidth_pacer.specs.Pacing.{bytes_in, pushed, removed, removed_of}
use Rattle.codec_payload_bandwidth_pacer.specs.Resending.{after_resend, answer_to}
use Rattle.codec_payload_bandwidth_pacer.specs.declared.pacer.PacedKind.{PacedKind}
use Rattle.codec_payload_bandwidth_pacer.specs.declared.pacer.PacedKind.TheVariants as kinds
use Rattle.codec_payload_bandwidth_pacer.specs.declared.pacer.PacedPacket.{PacedPacket}
use Rattle.codec_payload_bandwidth_path.specs.Paths.{Path, after_choice, after_feedback, after_pop, leaving_of, new_path, order_by}
use Rattle.codec_payload_bandwidth_path.specs.declared.path.Leaving.{Leaving}
use Rattle.codec_payload_bandwidth_path.specs.declared.path.PathOrder.{PathOrder}
use Rattle.codec_payload_feedback_congestion.specs.Feedback.{Reported, feedback_at}
use Rattle.codec_payload_feedback_congestion.specs.declared.transport.TransportFault.{TransportFault}
use Rattle.codec_payload_feedback_congestion.specs.declared.transport.TransportFault.TheVariants as faults
use Rattle.codec_payload_c_path.specs.Limits.{answer_number}
use Rattle.codec_payload_c_path.specs.Settings.{path_set}
use Rattle.codec_payload_c_path.specs.declared.object.PathObject.{PathObject}
use Rattle.codec_payload_c_path.specs.declared.object.PathObject.TheVariants as objects
use Rattle.codec_payload_c_path.specs.declared.path.PathChoice.{PathChoice}
use Rattle.codec_payload_c_path.specs.declared.path.PathLeaving.{PathLeaving}
use Rattle.codec_payload_c_path.specs.declared.path.PathOrderInfo.{PathOrderInfo}
use Rattle.codec_payload_c_path.specs.declared.path.PathPacket.{PathPacket}
use Rattle.codec_payload_c_path.specs.declared.path.PathStateInfo.{PathStateInfo}
use Rattle.codec_payload_c_path.specs.declared.path_settings.PathSettings.{PathSettings}

-- a path on which nothing left
abbrev pub IsPathOf : (now : ℕ) → PathSettings → PathObject → Type 0
IsPathOf now settings (objects.Path r) = r.value.path ≡ new_path now (path_set settings)
IsPathOf now settings _ = ⊥

-- ---- packets

-- what a packet is for, by its number
abbrev pub kind_numbered : ℕ → Option PacedKind
kind_numbered n =
    if n == 0 then Some kinds.Audio
    else if n == 1 then Some kinds.Resent
    else if n == 2 then Some kinds.Media
    else if n == 3 then Some kinds.Padding
    else None

abbrev pub kind_number : PacedKind → ℕ
kind_number kinds.Audio = 0
kind_number kinds.Resent = 1
kind_number kinds.Media = 2
kind_number kinds.Padding = 3

abbrev pub packet_given : PacedKind → PathPacket → PacedPacket
packet_given kind packet = record { kind = kind; size = packet.size; id = packet.id }

abbrev pub packet_told : PacedPacket → PathPacket
packet_told packet = record { id = packet.id; size = packet.size; kind = kind_number packet.kind }

abbrev pub leaving_told : Leaving → PathLeaving
leaving_told l = record { packet = packet_told l.packet; number = l.number }

-- with this packet more bytes than the bound would wait
abbrev pub IsOver : PathPacket → Path → Type 0
IsOver packet p = p.pacer.settings.bound < bytes_in p.pacer.waits + packet.size

-- Status 0: the packet waits after those of its kind. Otherwise nothing changes. Status 37: there is no such kind. Status 77: with the packet
-- more bytes than the bound would wait. Status 17: memory ran out, and they would not
abbrev pub PushesKind : Option PacedKind → PathPacket → Path → ℕ → Path → Type 0
PushesKind None packet r status s = (status ≡ 37) × (s ≡ r)
PushesKind (Some kind) packet r status s =
    ((status ≡ 0) × (s ≡ record r { pacer = pushed (packet_given kind packet) r.pacer }))
    ⊎ ((status ≡ 77) × IsOver packet r × (s ≡ r))
    ⊎ ((status ≡ 17) × (IsOver packet r → ⊥) × (s ≡ r))

abbrev pub PushesPacket : PathPacket → Path → ℕ → Path → Type 0
PushesPacket packet r status s = PushesKind (kind_numbered packet.kind) packet r status s

-- Status 0: the packet that leaves. Status 32: none leaves now
abbrev pub TellsLeaving : Option Leaving → ℕ → PathLeaving → PathLeaving → Type 0
TellsLeaving (Some l) status before after = (status ≡ 0) × (after ≡ leaving_told l)
TellsLeaving None status before after = (status ≡ 32) × (after ≡ before)

abbrev pub PopsPacket : (now : ℕ) → Path → ℕ → PathLeaving → PathLeaving → Path → Type 0
PopsPacket now r status before after s = TellsLeaving (leaving_of now r) status before after × (s ≡ after_pop now r)

-- Status 0: the packet that was removed. Status 32: none of this kind waits
abbrev pub TellsPacket : Option PacedPacket → ℕ → PathPacket → PathPacket → Type 0
TellsPacket (Some packet) status before after = (status ≡ 0) × (after ≡ packet_told packet)
TellsPacket None status before after = (status ≡ 32) × (after ≡ before)

-- Status 37: there is no such kind, and nothing changes
abbrev pub RemovesKind : Option PacedKind → Path → ℕ → PathPacket → PathPacket → Path → Type 0
RemovesKind None r status before after s = (status ≡ 37) × (after ≡ before) × (s ≡ r)
RemovesKind (Some kind) r status before after s = TellsPacket (removed_of kind r.pacer) status before after × (s ≡ record r { pacer = removed kind r.pacer })

abbrev pub RemovesPacket : (kind : ℕ) → Path → ℕ → PathPacket → PathPacket → Path → Type 0
RemovesPacket kind r status before after s = RemovesKind (kind_numbered kind) r status before after s

-- a packet is requested: whether it may be retransmitted
abbrev pub AsksResend : (now number size round_trip : ℕ) → Path → (status answer : ℕ) → Path → Type 0
AsksResend now number size round_trip r status answer s =
    (status ≡ 0) × (answer ≡ answer_number (answer_to now number size r.limit)) × (s ≡ record r { limit = after_resend now number size round_trip r.limit })

-- ---- feedback

-- the statuses for control information that is not transport-wide feedback
abbrev pub fault_status : TransportFault → ℕ
fault_status faults.HeaderTooShort = 70
fault_status faults.ChunksTooShort = 71
fault_status faults.ReservedStatus = 72
fault_status faults.DeltasTooShort = 73

-- Status 0: the feedback counts. Otherwise the status of its first fault, and nothing changes
abbrev pub HearsReported : Result Reported TransportFault → (now round_trip : ℕ) → Path → ℕ → Path → Type 0
HearsReported (Ok f) now round_trip r status s = (status ≡ 0) × (s ≡ after_feedback now round_trip f.base f.statuses r)
HearsReported (Err fault) now round_trip r status s = (status ≡ fault_status fault) × (s ≡ r)

-- Status 17: memory ran out, and nothing changes
abbrev pub HearsControl : List ℕ → (now round_trip : ℕ) → Path → ℕ → Path → Type 0
HearsControl control now round_trip r status s = HearsReported (feedback_at control) now round_trip r status s ⊎ ((status ≡ 17) × (s ≡ r))

-- ---- a choice

abbrev pub choice_given : PathChoice → LayerChoice
choice_given c = record { rate = c.rate; begin = c.begin }

abbrev pub order_told : PathOrder → PathOrderInfo
order_told o = record { choice = o.choice; padding = o.padding; fell = o.fell; rose = o.rose }

-- Status 0: what the choice says. Status 17: memory ran out, and nothing changes
abbrev pub ChoosesLayers : (now : ℕ) → List PathChoice → Path → ℕ → PathOrderInfo → PathOrderInfo → Path → Type 0
ChoosesLayers now choices r status before after s =
    ((status ≡ 0) × (after ≡ order_told (order_by now (map choice_given choices) r)) × (s ≡ after_choice now (map choice_given choices) r))
    ⊎ ((status ≡ 17) × (after ≡ before) × (s ≡ r))

-- ---- the state

abbrev pub state_told : Path → PathStateInfo
state_told p = record { estimate = p.estimator.rate.estimate; waiting = bytes_in p.pacer.waits; choice = p.chooser.current }

-- nothing changes
abbrev pub TellsState : Path → ℕ → PathStateInfo → Path → Type 0
TellsState r status state s = (status ≡ 0) × (state ≡ state_told r) × (s ≡ r)
