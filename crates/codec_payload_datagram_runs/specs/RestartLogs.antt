-- A run with announced restarts, pop by pop over all parts: the buffer of the receiver before each pop, and the units that it held.
use Rattle.std.specs.Prelude.{◌≡◌, ℕ, ◌+◌, ◌<◌, ◌≤◌, Bool, false, List, [], ◌∷◌, ◌++◌, Some, None, Contains, drop, length, map, slice_get}
use Rattle.codec_payload_buffer.specs.Held.{Held}
use Rattle.codec_payload_buffer.specs.Stretches.{IsInRange, IsLeft}
use Rattle.codec_payload_metadata.specs.declared.meta.RtpMeta.{RtpMeta}
use Rattle.codec_payload_codec.specs.Depacketizers.{DepacketizerKind, kind_of_depacketizer}
use Rattle.codec_payload_jitter.specs.Receiving.{Receiving}
use Rattle.codec_payload_buffer_runs.specs.Headline.{packets_before}
use Rattle.codec_payload_buffer_runs.specs.Log.{Stretch, Turn, begun}
use Rattle.codec_payload_buffer_runs.specs.ReportedIds.{next_id}
use Rattle.codec_payload_buffer_runs.specs.RunOrder.{AllFollowAsSaid, IsSentPacket, numbers_in, up_to}
use Rattle.codec_payload_buffer_runs.specs.RunUnits.{IsEvictedIn, IsHeldWhole, IsNumberIn, IsPassedOverIn, IsReleasedIn, NonePassedOver}
use Rattle.codec_payload_buffer_runs.specs.SentStream.{SentUnit, packets_of}
use Rattle.codec_payload_payloader.specs.Packets.{Packet}
use Rattle.codec_payload_payloader.specs.Sending.{Sample}
use Rattle.codec_payload_rtp.specs.declared.values.ExtensionIds.{ExtensionIds}
use Rattle.codec_payload_sending.specs.Senders.{Sending}
use Rattle.codec_payload_receiver.specs.Sessions.{Session}
use Rattle.codec_payload_datagram_runs.specs.Deliveries.{ComesInTime}
use Rattle.codec_payload_datagram_runs.specs.Releases.{delivered}
use Rattle.codec_payload_datagram_runs.specs.RestartReleases.{AreWithinWindows, IsKnownInPart, IsKnownInParts, ReleasesParts, received_in, splits_in, units_in}
use Rattle.codec_payload_datagram_runs.specs.RestartRuns.{RunsParts}
use Rattle.codec_payload_datagram_runs.specs.WireLogs.{IsLogOf}
use Rattle.codec_payload_datagram_runs.specs.declared.restart_run.Part.{Part}
use Rattle.codec_payload_datagram_runs.specs.declared.run.DatagramRun.{DatagramRun}
use Rattle.codec_payload_datagram_runs.specs.declared.run.DatagramStep.{DatagramStep}

-- The log

-- the steps of the parts at a receiver with these limits, with the stretch so far. Each part has its own turns. A restart leaves the
-- buffer as it is: the stretch continues, and only pops that come after the end of a stream wait again
abbrev pub IsLogOfParts : ExtensionIds → List Sample → Receiving → List Part → List Sending → List DatagramRun → List (List SentUnit) → Stretch → List Turn → Stretch → Type 0
IsLogOfParts ids samples r (part ∷ parts) (sender ∷ senders) (run ∷ runs) (us ∷ units) w turns end =
    (here : List Turn) × (mid : Stretch) × (rest : List Turn) × (turns ≡ here ++ rest)
    × IsLogOf (IsKnownInPart ids samples part sender run us) (packets_of us) r false (received_in samples part run) w here mid
    × (map (λ (turn : Turn). turn.answer) here ≡ run.pops.items)
    × IsLogOfParts ids samples r parts senders runs units mid rest end
IsLogOfParts ids samples r (part ∷ parts) (sender ∷ senders) (run ∷ runs) [] w turns end = (turns ≡ []) × (end ≡ w)
IsLogOfParts ids samples r (part ∷ parts) (sender ∷ senders) [] units w turns end = (turns ≡ []) × (end ≡ w)
IsLogOfParts ids samples r (part ∷ parts) [] runs units w turns end = (turns ≡ []) × (end ≡ w)
IsLogOfParts ids samples r [] senders runs units w turns end = (turns ≡ []) × (end ≡ w)

-- the whole run, pop by pop, from the buffer before it to the buffer after it; `end` is the stretch after the last pop
pub record RestartLog (samples : List Sample) (parts : List Part) (senders : List Sending) (receiver : Session) (runs : List DatagramRun) (units : List (List SentUnit)) (t : Session) : Type 0 where
  pub turns : List Turn
  pub end : Stretch
  pub is_log : IsLogOfParts receiver.stream.ids samples receiver.packets parts senders runs units (begun receiver.packets.buffer) turns end
  pub left : end.now ≡ t.packets.buffer

-- Order

-- all numbers are below `top`; at the end of a stretch the highest numbers that count are held, each with its packet
pub record IsStretchBelow (known : ℕ → Packet → RtpMeta → Type 0) (top : ℕ) (packets : List Packet) (w : Stretch) : Type 0 where
  pub below : IsInRange w.left w.pushes 0 top
  pub numbers : IsLeft w.left (numbers_in 0 top w) w.now
  pub each : (p : Held) → Contains w.now.held p → IsSentPacket known packets p

-- so it is at each moment of a stretch, and at its end
pub record IsOrderedBelow (known : ℕ → Packet → RtpMeta → Type 0) (top : ℕ) (packets : List Packet) (w : Stretch) : Type 0 where
  pub at_each : (pushes more : List Held) → w.pushes ≡ pushes ++ more → IsStretchBelow known top packets (up_to w pushes)
  pub at_end : IsStretchBelow known top packets w

-- of each stretch of a run, also of the one after the last pop
abbrev pub AreStretchesBelow : (ℕ → Packet → RtpMeta → Type 0) → (top : ℕ) → List Packet → List Turn → Stretch → Type 0
AreStretchesBelow known top packets [] end = IsOrderedBelow known top packets end
AreStretchesBelow known top packets (turn ∷ turns) end = IsOrderedBelow known top packets turn.stretch × AreStretchesBelow known top packets turns end

-- Units

-- each packet of the unit at that place was delivered in its part
abbrev pub IsDeliveredWhole : List DatagramStep → List SentUnit → ℕ → Type 0
IsDeliveredWhole received units place = (k : ℕ) → packets_before place units ≤ k → k < packets_before (place + 1) units → Contains (delivered received) k

-- the possible fates of a unit of a part whose first packet has the number `first`: as `Fate`, but in a buffer with packets of other
-- parts, which all have numbers below `top`. A packet of it is evicted by a push of `later`, or of the stretch at the end
pub data FateBelow (known : ℕ → Packet → RtpMeta → Type 0) (top first : ℕ) (splits : Bool) (units : List SentUnit) (place : ℕ) (turns later : List Turn) (end : Stretch) : Type 0 where
  released : IsReleasedIn known splits units place turns → FateBelow known top first splits units place turns later end
  skipped_over : IsPassedOverIn first units place turns → FateBelow known top first splits units place turns later end
  held : IsHeldWhole first units place end.now → FateBelow known top first splits units place turns later end
  evicted : (n : ℕ) → IsNumberIn first units place n → IsEvictedIn 0 top n later end → FateBelow known top first splits units place turns later end

-- no unit that was delivered, and is held whole before one of these pops, is lost silently
abbrev pub NoneIsLostBelow : (ℕ → Packet → RtpMeta → Type 0) → List DatagramStep → (top first : ℕ) → Bool → List SentUnit → List Turn → Stretch → Type 0
NoneIsLostBelow known received top first splits units [] end = Unit {0}
NoneIsLostBelow known received top first splits units (turn ∷ turns) end =
    ((place : ℕ) (u : SentUnit) → slice_get units place ≡ Some u → IsDeliveredWhole received units place → IsHeldWhole first units place turn.stretch.now
    → FateBelow known top first splits units place (turn ∷ turns) turns end)
    × NoneIsLostBelow known received top first splits units turns end

-- nor is a unit whose packets come in time
abbrev pub AllInTimeBelow : (ℕ → Packet → RtpMeta → Type 0) → List DatagramStep → (top first : ℕ) → Bool → List SentUnit → List Turn → Stretch → Type 0
AllInTimeBelow known received top first splits units turns end =
    (place : ℕ) (u : SentUnit) → slice_get units place ≡ Some u → IsDeliveredWhole received units place
    → ComesInTime (first + packets_before place units) (first + packets_before (place + 1) units) [] turns
    → FateBelow known top first splits units place turns turns end

-- the turns after the pops of a part
abbrev pub turns_after : DatagramRun → List Turn → List Turn
turns_after run turns = drop (length run.pops.items) turns

-- for each part: this applies to its units, and to the turns from the part on to the end of the run
abbrev pub InEachPart : ((ℕ → Packet → RtpMeta → Type 0) → List DatagramStep → ℕ → List SentUnit → List Turn → Type 0) → ExtensionIds → List Sample
    → List Part → List Sending → List DatagramRun → (firsts : List ℕ) → List (List SentUnit) → List Turn → Type 0
InEachPart Holds ids samples (part ∷ parts) (sender ∷ senders) (run ∷ runs) (first ∷ firsts) (us ∷ units) turns =
    Holds (IsKnownInPart ids samples part sender run us) (received_in samples part run) first us turns
    × InEachPart Holds ids samples parts senders runs firsts units (turns_after run turns)
InEachPart Holds ids samples (part ∷ parts) (sender ∷ senders) (run ∷ runs) (first ∷ firsts) [] turns = Unit {0}
InEachPart Holds ids samples (part ∷ parts) (sender ∷ senders) (run ∷ runs) [] units turns = Unit {0}
InEachPart Holds ids samples (part ∷ parts) (sender ∷ senders) [] firsts units turns = Unit {0}
InEachPart Holds ids samples (part ∷ parts) [] runs firsts units turns = Unit {0}
InEachPart Holds ids samples [] senders runs firsts units turns = Unit {0}

-- no part's packetizer sends both picture id and TL0PICIDX
abbrev pub NoneSendIds : List Part → List Sending → List DatagramRun → Type 0
NoneSendIds (part ∷ parts) (sender ∷ senders) (run ∷ runs) = (next_id sender.packetizer ≡ None) × NoneSendIds parts senders runs
NoneSendIds (part ∷ parts) (sender ∷ senders) [] = Unit {0}
NoneSendIds (part ∷ parts) [] runs = Unit {0}
NoneSendIds [] senders runs = Unit {0}

-- Guarantees

-- this applies to each log of the run
abbrev pub OfEachRestartLog : (samples : List Sample) (parts : List Part) (senders : List Sending) (receiver : Session) (runs : List DatagramRun) (units : List (List SentUnit)) (t : Session)
    → (List Turn → Stretch → Type 0) → Type 0
OfEachRestartLog samples parts senders receiver runs units t Holds = (log : RestartLog samples parts senders receiver runs units t) → Holds log.turns log.end

-- the guarantees of a run with restarts, pop by pop
pub record KeepsPromisesOfParts (samples : List Sample) (parts : List Part) (senders : List Sending) (receiver : Session) (runs : List DatagramRun) (t : Session) (kind : DepacketizerKind) : Type 0 where
  -- The units of the parts, their numbers, and which of them the pops return.
  pub released : ReleasesParts samples parts senders receiver runs kind
  -- The run has a log.
  pub logged : RestartLog samples parts senders receiver runs released.units t
  -- All numbers are below this one.
  pub top : ℕ
  -- Of the packets delivered between two pops, of whatever part, only the set counts: the buffer holds those with the highest numbers,
  -- up to its limit, among the packets that it held and those delivered above the cutoff since.
  pub order : OfEachRestartLog samples parts senders receiver runs released.units t
      (AreStretchesBelow (IsKnownInParts receiver.stream.ids samples parts senders runs released.units) top (packets_of (units_in released.units)))
  -- If no part sends both picture id and TL0PICIDX, a unit is reported as contiguous exactly if its first number follows the last
  -- number of the previous release, or it is the first and no packet was evicted before it.
  pub contiguous : NoneSendIds parts senders runs
      → OfEachRestartLog samples parts senders receiver runs released.units t (λ turns end. AllFollowAsSaid 0 top None false turns)
  -- A unit that was delivered in its part, and is held whole before a pop of this or a later part, is released whole by that or a
  -- later one, or held whole in the end, unless a packet of it was evicted, or a pop skipped it.
  pub no_silent_loss : OfEachRestartLog samples parts senders receiver runs released.units t
      (λ turns end. InEachPart (λ known received first us later. NoneIsLostBelow known received top first (splits_in kind) us later end)
      receiver.stream.ids samples parts senders runs released.firsts released.units turns)
  -- The same for a unit that was delivered in its part before a pop, while the cutoff was below it.
  pub in_time : OfEachRestartLog samples parts senders receiver runs released.units t
      (λ turns end. InEachPart (λ known received first us later. AllInTimeBelow known received top first (splits_in kind) us later end)
      receiver.stream.ids samples parts senders runs released.firsts released.units turns)
  -- If no part sends both picture id and TL0PICIDX, no pop skips a unit.
  pub none_skipped : NoneSendIds parts senders runs → OfEachRestartLog samples parts senders receiver runs released.units t (λ turns end. NonePassedOver turns)

-- this applies to a run whose samples can be read, and whose datagrams arrive within the windows, each in its part
abbrev pub KeepsPromisesWithRestarts : List Sample → List Part → List Sending → Session → List DatagramRun → Session → Type 0
KeepsPromisesWithRestarts samples parts senders receiver runs t =
    AreWithinWindows samples parts senders receiver runs
    → KeepsPromisesOfParts samples parts senders receiver runs t (kind_of_depacketizer receiver.packets.buffer.depacketizer)

-- for every run with announced restarts
abbrev pub PromisesWithRestarts : Type 0
PromisesWithRestarts =
    (samples : List Sample) (parts : List Part) (senders : List Sending) (receiver : Session) (runs : List DatagramRun) (after : List Sending) (t : Session)
    → RunsParts samples false parts senders receiver runs after t → KeepsPromisesWithRestarts samples parts senders receiver runs t
