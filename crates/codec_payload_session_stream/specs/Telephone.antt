-- Packets of telephone events beside audio (RFC 4733), which wait until polls return them.
use Rattle.std.specs.Prelude.{◌≡◌, ℕ, ◌-◌, ◌==◌, nat_lt, if◌then◌else◌, Bool, true, false, List, [], ◌∷◌, ◌++◌, take, length, Option, Some, None, Result, Ok, Err}
use Rattle.std.specs.declared.alloc.AllocError.{AllocError}
use Rattle.codec_payload_jitter.specs.Receiving.{next}
use Rattle.codec_payload_jitter.specs.declared.outcome.Outcome.TheVariants as outcomes
use Rattle.codec_payload_rtp.specs.RtpPackets.{Packet, is_rtcp}
use Rattle.codec_payload_rtp.specs.RtpReading.{rtp_at}
use Rattle.codec_payload_rtp.specs.declared.rtp.RtpError.{RtpError}
use Rattle.codec_payload_session_formats.specs.Formats.{is_telephone}
use Rattle.codec_payload_session_formats.specs.declared.formats.SessionSettings.{SessionSettings}
use Rattle.codec_payload_session_stream.specs.declared.arrival.Arrival.{Arrival}
use Rattle.codec_payload_session_stream.specs.declared.arrival.Arrival.TheVariants as arrivals
use Rattle.codec_payload_session_stream.specs.declared.events.Event.{Event as EventWith}
use Rattle.codec_payload_session_stream.specs.declared.events.Event.TheVariants as events
use Rattle.codec_payload_session_stream.specs.declared.telephone.Noted.{Noted}
use Rattle.codec_payload_session_stream.specs.declared.telephone.Noted.TheVariants as noteds
use Rattle.codec_payload_session_stream.specs.declared.telephone.TelephonePacket.{TelephonePacket}

-- the packets that wait, the one that arrived first in front, and how many arrived while 32 others waited, modulo 2^64
pub record Queue : Type 0 where
  pub waiting : List TelephonePacket
  pub dropped : ℕ

abbrev pub empty_queue : Queue
empty_queue = record { waiting = []; dropped = 0 }

-- ---- which datagrams are packets of telephone events

abbrev pub telephone_if : SessionSettings → Packet → Option Packet
telephone_if s p = if is_telephone s p.header.payload_type then Some p else None

abbrev pub telephone_of : SessionSettings → Result Packet RtpError → Option Packet
telephone_of s (Ok p) = telephone_if s p
telephone_of s (Err e) = None

-- the packet of telephone events that the bytes are
abbrev pub telephone_at : SessionSettings → List ℕ → Option Packet
telephone_at s bytes = if is_rtcp bytes then None else telephone_of s (rtp_at bytes)

-- a stream took the datagram as one without media
abbrev pub is_without_media : Result Arrival AllocError → Bool
is_without_media (Ok (arrivals.Stream ssrc payload_type outcomes.NoMedia)) = true
is_without_media (Ok (arrivals.Stream ssrc payload_type outcomes.Held)) = false
is_without_media (Ok (arrivals.Stream ssrc payload_type outcomes.HeldAndEvicted)) = false
is_without_media (Ok (arrivals.Stream ssrc payload_type (outcomes.Restarted with_kept))) = false
is_without_media (Ok (arrivals.Stream ssrc payload_type outcomes.Duplicate)) = false
is_without_media (Ok (arrivals.Stream ssrc payload_type outcomes.Late)) = false
is_without_media (Ok (arrivals.Stream ssrc payload_type outcomes.Suspect)) = false
is_without_media (Ok (arrivals.Stream ssrc payload_type outcomes.OtherStream)) = false
is_without_media (Ok (arrivals.Stream ssrc payload_type outcomes.Undecided)) = false
is_without_media (Ok (arrivals.Stream ssrc payload_type outcomes.Rtcp)) = false
is_without_media (Ok (arrivals.Faulty ssrc payload_type fault)) = false
is_without_media (Ok arrivals.Rtcp) = false
is_without_media (Ok arrivals.Malformed) = false
is_without_media (Ok arrivals.Unknown) = false
is_without_media (Ok arrivals.Refused) = false
is_without_media (Ok arrivals.Unassociated) = false
is_without_media (Err e) = false

-- ---- which packets wait

-- the packet, as it waits
pub record IsCopy (p : Packet) (w : TelephonePacket) : Type 0 where
  pub ssrc_is : w.ssrc ≡ p.header.ssrc
  pub payload_type : w.payload_type ≡ p.header.payload_type
  pub rtp_time : w.rtp_time ≡ p.header.timestamp
  pub marker : w.marker ≡ p.header.marker
  pub payload : w.payload.items ≡ p.payload

-- the packet waits behind all others
pub record WaitsLast (p : Packet) (q r : Queue) : Type 0 where
  pub packet : TelephonePacket
  pub copy : IsCopy p packet
  pub left : r ≡ record q { waiting = q.waiting ++ packet ∷ [] }

-- at most 32 packets wait; one more is dropped and counted
abbrev pub has_room : Queue → Bool
has_room q = nat_lt (length q.waiting) 32

abbrev pub WaitsOrDrops : Bool → Packet → Queue → Queue → Type 0
WaitsOrDrops true p q r = WaitsLast p q r
WaitsOrDrops false p q r = r ≡ record q { dropped = next q.dropped }

-- a packet of telephone events that a stream took without media waits; any other datagram changes nothing
abbrev pub QueuesIf : Bool → Option Packet → Queue → Queue → Type 0
QueuesIf taken None q r = r ≡ q
QueuesIf false (Some p) q r = r ≡ q
QueuesIf true (Some p) q r = WaitsOrDrops (has_room q) p q r

-- memory is needed for a packet of telephone events alone
abbrev pub MayLackMemory : Option Packet → Type 0
MayLackMemory None = ⊥
MayLackMemory (Some p) = Unit {0}

-- ---- the two steps of a datagram: it is noted, and then settled by the answer of the streams

abbrev pub NotesBy : Bool → Packet → Queue → Noted → Queue → Type 0
NotesBy true p q noted r = (noted ≡ noteds.Waits) × WaitsLast p q r
NotesBy false p q noted r = (noted ≡ noteds.NoPlace) × (r ≡ q)

abbrev pub Notes : Option Packet → Queue → Noted → Queue → Type 0
Notes None q noted r = (noted ≡ noteds.Nothing) × (r ≡ q)
Notes (Some p) q noted r = NotesBy (has_room q) p q noted r

abbrev pub without_last : Queue → Queue
without_last q = record q { waiting = take (length q.waiting - 1) q.waiting }

abbrev pub settled : Noted → Bool → Queue → Queue
settled noteds.Nothing taken q = q
settled noteds.Waits true q = q
settled noteds.Waits false q = without_last q
settled noteds.NoPlace true q = record q { dropped = next q.dropped }
settled noteds.NoPlace false q = q

-- ---- events

abbrev pub event_of : {U : Type 0} → TelephonePacket → EventWith U
event_of w = events.Telephone w.ssrc w.payload_type w.rtp_time w.marker w.payload

-- the first packet leaves as an event
abbrev pub GivesFrom : {U : Type 0} → List TelephonePacket → Queue → Option (EventWith U) → Queue → Type 0
GivesFrom [] q event r = (event ≡ None) × (r ≡ q)
GivesFrom (w ∷ ws) q event r = (event ≡ Some (event_of w)) × (r ≡ record q { waiting = ws })

abbrev pub Gives : {U : Type 0} → Queue → Option (EventWith U) → Queue → Type 0
Gives q event r = GivesFrom q.waiting q event r

abbrev pub is_quiet : Queue → Bool
is_quiet q = length q.waiting == 0

-- the time at which a poll may have an event: at once while a packet waits, else the time of the streams
abbrev pub due_before : Queue → Option ℕ → Option ℕ
due_before q due = if is_quiet q then due else Some 0
