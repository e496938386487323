-- The units that a run with announced restarts releases.
use Rattle.std.specs.Prelude.{◌≡◌, ℕ, ◌+◌, ◌^◌, ◌<◌, ◌≤◌, ◌⊎◌, max, Bool, true, false, List, [], ◌∷◌, ◌++◌, Option, Some, None, Ok, Err, length, map}
use Rattle.codec_payload_metadata.specs.declared.meta.RtpMeta.{RtpMeta}
use Rattle.codec_payload_codec.specs.Depacketizers.{DepacketizerKind, DepacketizerState, kind_of_depacketizer}
use Rattle.codec_payload_codec.specs.Packetizers.{facts_of, payloads_by}
use Rattle.codec_payload_buffer_runs.specs.Exact.{AnswersAll}
use Rattle.codec_payload_buffer_runs.specs.Headline.{InOrder, IsUnitAt}
use Rattle.codec_payload_buffer_runs.specs.ReportedIds.{next_id}
use Rattle.codec_payload_buffer_runs.specs.Schedule.{Answer}
use Rattle.codec_payload_buffer_runs.specs.SentStream.{AllEndWithTail, AreReadable, SentUnit, packets_of, units_of_run}
use Rattle.codec_payload_payloader.specs.Packets.{AreNumbered, Packet}
use Rattle.codec_payload_payloader.specs.Sending.{Sample}
use Rattle.codec_payload_sending.specs.Senders.{Sending}
use Rattle.codec_payload_rtp.specs.declared.values.ExtensionIds.{ExtensionIds}
use Rattle.codec_payload_receiver.specs.Sessions.{Session, session_by}
use Rattle.codec_payload_receiver.specs.declared.receiver.Settings.{Settings}
use Rattle.codec_payload_datagram_runs.specs.Deliveries.{Delivery, PopsAreBrought, brought_by}
use Rattle.codec_payload_datagram_runs.specs.Releases.{AllComeFirst, AreDatagrams, AreOfOneStream, ComeTimely, ComeWithin, HaveValuesOfSamples, IsDelivery, delivered, received_steps, sending_steps, times_sent}
use Rattle.codec_payload_datagram_runs.specs.RestartRuns.{RunsParts}
use Rattle.codec_payload_datagram_runs.specs.WireRuns.{begins, bytes_in, wire_of}
use Rattle.codec_payload_datagram_runs.specs.declared.restart_run.Part.{Part}
use Rattle.codec_payload_datagram_runs.specs.declared.run.DatagramRun.{DatagramRun}
use Rattle.codec_payload_datagram_runs.specs.declared.run.DatagramStep.{DatagramStep}
use Rattle.codec_payload_datagram_runs.specs.declared.run.DatagramStep.TheVariants as steps

-- Premises

-- the SSRC that the receiver names in a part: after an announced restart the new one, if one was named
abbrev pub name_in : Bool → Option ℕ → Option ℕ → Option ℕ
name_in false announced before = before
name_in true None before = before
name_in true (Some ssrc) before = Some ssrc

-- the settings with the SSRC of a part
abbrev pub settings_in : Bool → Part → Settings → Settings
settings_in later part s = record s { ssrc = name_in later part.ssrc s.ssrc }

-- the steps of the receiver in a part
abbrev pub received_in : List Sample → Part → DatagramRun → List DatagramStep
received_in samples part run = received_steps samples 0 part.steps.items run.sends.items

-- the stream ends after the first delivery, or nothing is delivered after its end
abbrev pub EndsAfterFirst : List DatagramStep → Type 0
EndsAfterFirst [] = Unit {0}
EndsAfterFirst (steps.Send i ∷ later) = EndsAfterFirst later
EndsAfterFirst (steps.Deliver k now ∷ later) = Unit {0}
EndsAfterFirst (steps.Pop now ∷ later) = EndsAfterFirst later
EndsAfterFirst (steps.Finish ∷ later) = delivered later ≡ []

-- the sender and the receiver are of one stream; the samples can be read again; and all delivered datagrams of the part are within
-- the windows, and timely. After an announced restart the stream does not end before the first of them
pub record IsPartWithin (samples : List Sample) (later : Bool) (settings : Settings) (depacketizer : DepacketizerState) (part : Part) (sender : Sending) (run : DatagramRun) : Type 0 where
  pub one_stream : AreOfOneStream sender settings depacketizer
  pub readable : AreReadable sender.packetizer samples
  pub within : ComeWithin settings.forward settings.backward (delivered (received_in samples part run))
  pub timely : ComeTimely sender.stream.clock_rate (times_sent sender.stream.clock_rate samples part.steps.items run.sends.items) (delivered (received_in samples part run))
  pub in_time : later ≡ true → EndsAfterFirst (received_in samples part run)

-- each part is
abbrev pub ArePartsWithin : List Sample → Bool → Settings → DepacketizerState → List Part → List Sending → List DatagramRun → Type 0
ArePartsWithin samples later settings depacketizer (part ∷ parts) (sender ∷ senders) (run ∷ runs) =
    IsPartWithin samples later (settings_in later part settings) depacketizer part sender run
    × ArePartsWithin samples true (settings_in later part settings) depacketizer parts senders runs
ArePartsWithin samples later settings depacketizer [] senders runs = Unit {0}
ArePartsWithin samples later settings depacketizer (part ∷ parts) [] runs = Unit {0}
ArePartsWithin samples later settings depacketizer (part ∷ parts) (sender ∷ senders) [] = Unit {0}

-- the most numbers that the parts take: a restart skips at most 196,608
abbrev pub numbers_taken : List DatagramRun → ℕ
numbers_taken [] = 0
numbers_taken (run ∷ runs) = 196608 + length run.datagrams.items + numbers_taken runs

-- the receiver is new, each part is within the windows, and 62 bits hold all numbers
pub record AreWithinWindows (samples : List Sample) (parts : List Part) (senders : List Sending) (receiver : Session) (runs : List DatagramRun) : Type 0 where
  pub settings : Settings
  pub depacketizer : DepacketizerState
  pub new : session_by settings depacketizer ≡ Ok receiver
  pub each : ArePartsWithin samples false settings depacketizer parts senders runs
  pub few : numbers_taken runs < 2 ^ 62

-- Guarantees

-- whether units of this format may lose their first parts, as those of AV1 may
abbrev pub splits_in : DepacketizerKind → Bool
splits_in kind = (facts_of kind).splits

-- the units of the samples that a part sends; its datagrams read as their packets; and a complete unit of video has the extension
-- values of its sample
pub record ArePartUnits (samples : List Sample) (receiver : Session) (part : Part) (sender : Sending) (run : DatagramRun) (units : List SentUnit) : Type 0 where
  pub canonical : map (λ (u : SentUnit). u.parts) units ≡ units_of_run sender.packetizer samples (sending_steps sender.mtu part.steps.items)
  pub datagrams : AreDatagrams sender.stream (packets_of units) (bytes_in run.datagrams.items)
  pub ends : AllEndWithTail (payloads_by sender.packetizer) units
  pub extension_values : HaveValuesOfSamples samples part.steps.items (begins sender receiver) (wire_of sender receiver run) units

-- the same for each part
abbrev pub AreUnitsOfParts : List Sample → Session → List Part → List Sending → List DatagramRun → List (List SentUnit) → Type 0
AreUnitsOfParts samples receiver (part ∷ parts) (sender ∷ senders) (run ∷ runs) (us ∷ units) =
    ArePartUnits samples receiver part sender run us × AreUnitsOfParts samples receiver parts senders runs units
AreUnitsOfParts samples receiver (part ∷ parts) (sender ∷ senders) (run ∷ runs) [] = ⊥
AreUnitsOfParts samples receiver [] senders runs units = units ≡ []
AreUnitsOfParts samples receiver (part ∷ parts) [] runs units = units ≡ []
AreUnitsOfParts samples receiver (part ∷ parts) (sender ∷ senders) [] units = units ≡ []

-- the packets of each part have consecutive numbers, from its first number on, as the receiver reports them
abbrev pub AreNumberedInParts : List ℕ → List (List SentUnit) → Type 0
AreNumberedInParts [] [] = Unit {0}
AreNumberedInParts (first ∷ firsts) (us ∷ units) = AreNumbered first (packets_of us) × AreNumberedInParts firsts units
AreNumberedInParts [] (us ∷ units) = ⊥
AreNumberedInParts (first ∷ firsts) [] = ⊥

-- the lowest number that is at least `reached`, and above those of the datagrams with these indices
abbrev pub next_above : (reached first : ℕ) → List ℕ → ℕ
next_above reached first [] = reached
next_above reached first (k ∷ ks) = next_above (max reached (first + k + 1)) first ks

-- the first number of each part is above the numbers of all datagrams that were delivered in earlier parts, and at least `reached`
abbrev pub AreApart : (reached : ℕ) (firsts : List ℕ) → List Sample → List Part → List DatagramRun → Type 0
AreApart reached (first ∷ firsts) samples (part ∷ parts) (run ∷ runs) =
    (reached ≤ first) × AreApart (next_above reached first (delivered (received_in samples part run))) firsts samples parts runs
AreApart reached (first ∷ firsts) samples (part ∷ parts) [] = Unit {0}
AreApart reached (first ∷ firsts) samples [] runs = Unit {0}
AreApart reached [] samples parts runs = Unit {0}

-- each pop returns packets that were delivered before it: in `before`, or in these parts in front of the pop
abbrev pub AreBroughtInParts : List Delivery → (firsts : List ℕ) → List Sample → List Part → List DatagramRun → Type 0
AreBroughtInParts before (first ∷ firsts) samples (part ∷ parts) (run ∷ runs) =
    PopsAreBrought first before (received_in samples part run) run.pops.items
    × AreBroughtInParts (brought_by first before (received_in samples part run)) firsts samples parts runs
AreBroughtInParts before (first ∷ firsts) samples (part ∷ parts) [] = Unit {0}
AreBroughtInParts before (first ∷ firsts) samples [] runs = Unit {0}
AreBroughtInParts before [] samples parts runs = Unit {0}

-- what is known of the metadata of a packet of a part, by its index in the part
abbrev pub IsKnownInPart : ExtensionIds → List Sample → Part → Sending → DatagramRun → List SentUnit → ℕ → Packet → RtpMeta → Type 0
IsKnownInPart ids samples part sender run us = IsDelivery ids sender.stream (packets_of us) (received_in samples part run)

-- the same for all parts: the packets of all parts are counted in the order in which they were sent
abbrev pub IsKnownInParts : ExtensionIds → List Sample → List Part → List Sending → List DatagramRun → List (List SentUnit) → ℕ → Packet → RtpMeta → Type 0
IsKnownInParts ids samples (part ∷ parts) (sender ∷ senders) (run ∷ runs) (us ∷ units) k q meta =
    IsKnownInPart ids samples part sender run us k q meta
    ⊎ ((j : ℕ) × (k ≡ length (packets_of us) + j) × IsKnownInParts ids samples parts senders runs units j q meta)
IsKnownInParts ids samples (part ∷ parts) (sender ∷ senders) (run ∷ runs) [] k q meta = ⊥
IsKnownInParts ids samples (part ∷ parts) (sender ∷ senders) [] units k q meta = ⊥
IsKnownInParts ids samples (part ∷ parts) [] runs units k q meta = ⊥
IsKnownInParts ids samples [] senders runs units k q meta = ⊥

-- all units, in the order in which they were sent
abbrev pub units_in : List (List SentUnit) → List SentUnit
units_in [] = []
units_in (us ∷ units) = us ++ units_in units

-- the answers of all pops, in order
abbrev pub pops_in : List DatagramRun → List Answer
pops_in [] = []
pops_in (run ∷ runs) = run.pops.items ++ pops_in runs

-- each answer is one of the first `count` units
abbrev pub AreEarlier : (ℕ → Packet → RtpMeta → Type 0) → Bool → List SentUnit → ℕ → List Answer → Type 0
AreEarlier known splits units count [] = Unit {0}
AreEarlier known splits units count (None ∷ answers) = ⊥
AreEarlier known splits units count (Some (Err fault) ∷ answers) = ⊥
AreEarlier known splits units count (Some (Ok r) ∷ answers) = ((place : ℕ) × (place < count) × IsUnitAt known splits units place r) × AreEarlier known splits units count answers

-- first come units of earlier parts, then all units of this part, complete, one after another, and then nothing more
pub record EndsWithAll (known : ℕ → Packet → RtpMeta → Type 0) (splits : Bool) (units : List SentUnit) (count : ℕ) (here : ℕ → Packet → RtpMeta → Type 0) (us : List SentUnit)
    (answers : List Answer) : Type 0 where
  pub older : List Answer
  pub rest : List Answer
  pub whole : answers ≡ older ++ rest
  pub earlier : AreEarlier known splits units count older
  pub all : AnswersAll here 0 us rest

-- this applies to a part that sends something, if all its datagrams arrive before its stream ends, and all its pops come after that.
-- Its packetizer does not send both picture id and TL0PICIDX
abbrev pub IsReleasedWhole : (ℕ → Packet → RtpMeta → Type 0) → Bool → List SentUnit → ℕ → (ℕ → Packet → RtpMeta → Type 0) → List SentUnit
    → (limit : ℕ) → List Sample → Part → Sending → DatagramRun → Type 0
IsReleasedWhole known splits units count here us limit samples part sender run =
    next_id sender.packetizer ≡ None → 0 < length us → AllComeFirst limit (length run.datagrams.items) (received_in samples part run)
    → EndsWithAll known splits units count here us run.pops.items

-- the same for each part; `all` are the units of all parts, `count` of them of earlier parts
abbrev pub AreReleasedWhole : (ℕ → Packet → RtpMeta → Type 0) → Bool → List SentUnit → (limit : ℕ) → ExtensionIds → List Sample
    → (count : ℕ) → List Part → List Sending → List DatagramRun → List (List SentUnit) → Type 0
AreReleasedWhole known splits all limit ids samples count (part ∷ parts) (sender ∷ senders) (run ∷ runs) (us ∷ units) =
    IsReleasedWhole known splits all count (IsKnownInPart ids samples part sender run us) us limit samples part sender run
    × AreReleasedWhole known splits all limit ids samples (count + length us) parts senders runs units
AreReleasedWhole known splits all limit ids samples count (part ∷ parts) (sender ∷ senders) (run ∷ runs) [] = Unit {0}
AreReleasedWhole known splits all limit ids samples count (part ∷ parts) (sender ∷ senders) [] units = Unit {0}
AreReleasedWhole known splits all limit ids samples count (part ∷ parts) [] runs units = Unit {0}
AreReleasedWhole known splits all limit ids samples count [] senders runs units = Unit {0}

-- the units of the parts, and the number of the first packet of each part. The pops return the units in order, each at most once and
-- complete: all units of a part before those of the next one; and from packets that were delivered before the pop. If all
-- datagrams of a part arrive before its stream ends, and all its pops come after that, they return all its units
pub record ReleasesParts (samples : List Sample) (parts : List Part) (senders : List Sending) (receiver : Session) (runs : List DatagramRun) (kind : DepacketizerKind) : Type 0 where
  pub units : List (List SentUnit)
  pub each : AreUnitsOfParts samples receiver parts senders runs units
  pub firsts : List ℕ
  pub numbered : AreNumberedInParts firsts units
  pub apart : AreApart 0 firsts samples parts runs
  pub in_order : InOrder (IsKnownInParts receiver.stream.ids samples parts senders runs units) (splits_in kind) (units_in units) 0 (pops_in runs)
  pub before_pops : AreBroughtInParts [] firsts samples parts runs
  pub exactly : AreReleasedWhole (IsKnownInParts receiver.stream.ids samples parts senders runs units) (splits_in kind) (units_in units) receiver.packets.buffer.limit receiver.stream.ids samples
      0 parts senders runs units

-- this applies to a run whose samples can be read, and whose datagrams arrive within the windows, each in its part
abbrev pub ReleasesWithRestarts : List Sample → List Part → List Sending → Session → List DatagramRun → Type 0
ReleasesWithRestarts samples parts senders receiver runs =
    AreWithinWindows samples parts senders receiver runs
    → ReleasesParts samples parts senders receiver runs (kind_of_depacketizer receiver.packets.buffer.depacketizer)

-- for every run with announced restarts
abbrev pub ReleaseWithRestarts : Type 0
ReleaseWithRestarts =
    (samples : List Sample) (parts : List Part) (senders : List Sending) (receiver : Session) (runs : List DatagramRun) (after : List Sending) (t : Session)
    → RunsParts samples false parts senders receiver runs after t → ReleasesWithRestarts samples parts senders receiver runs
