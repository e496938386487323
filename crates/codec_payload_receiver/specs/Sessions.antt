-- A receiver: what it does with each datagram, and the counter for each outcome.
use Rattle.std.specs.Prelude.{◌≡◌, ◌≢◌, ◌⊎◌, ℕ, max, ◌+◌, ◌-◌, ◌*◌, ◌%◌, ◌^◌, ◌==◌, ◌&&◌, ◌||◌, not, length, slice_get, nat_le, nat_lt, if◌then◌else◌, Bool, true, false, List, [], ◌∷◌, Option, Some, None, Result, Ok, Err}
use Rattle.std.specs.List.{filter_map}
use Rattle.std.specs.Option.{is_some, option_map}
use Rattle.std.specs.declared.alloc.AllocError.{AllocError}
use Rattle.codec_payload_base.specs.declared.error.PacketError.{PacketError}
use Rattle.codec_payload_base.specs.declared.wire.Ticks.{Ticks}
use Rattle.codec_payload_red.specs.RedBlocks.{Block}
use Rattle.codec_payload_red.specs.RedRecovery.{RecoveredPacket, recovered_from}
use Rattle.codec_payload_rtp.specs.ExtendedTimes.{extended_time}
use Rattle.codec_payload_base.specs.declared.wire.Codec.{Codec}
use Rattle.codec_payload_base.specs.declared.wire.Codec.TheVariants as codecs
use Rattle.codec_payload_codec.specs.Depacketizers.{DepacketizerKind, DepacketizerState, kind_of_depacketizer, G711Payloads, OpusPayloads, ComfortNoisePayloads, TelePayloads, Vp8Payloads, Vp9Payloads, Av1Payloads, AmrWbPayloads, NullPayloads, BoxedPayloads}
use Rattle.codec_payload_metadata.specs.Release.{Release}
use Rattle.codec_payload_buffer.specs.Steps.{empty_buffer}
use Rattle.codec_payload_numbers.specs.Numbers.{Numbering, numbering_within}
use Rattle.codec_payload_jitter.specs.Receiving.{Receiving, Arrival, Notes, Receives, ReceivesAgain, Recovers, begun_anew, counted, next, no_packets, would_store}
use Rattle.codec_payload_jitter.specs.Suspects.{taken_back}
use Rattle.codec_payload_jitter.specs.Waiting.{most_held_back, room_for}
use Rattle.codec_payload_numbers.specs.declared.numbers.WindowError.{WindowError}
use Rattle.codec_payload_numbers.specs.declared.numbers.WindowError.TheVariants as windows
use Rattle.codec_payload_jitter.specs.declared.outcome.Outcome.{Outcome}
use Rattle.codec_payload_jitter.specs.declared.outcome.Outcome.TheVariants as outcomes
use Rattle.codec_payload_jitter.specs.declared.outcome.PacketCounters.{PacketCounters}
use Rattle.codec_payload_keyframes.specs.UnitGates.{Gating, new_gating, with_skip}
use Rattle.codec_payload_datagrams.specs.Choice.{Choosing, IsCandidate, is_silent, latest_after, leaving, no_choice, origin_of, verdict_of, waiting_with}
use Rattle.codec_payload_datagrams.specs.Kinds.{Kinds, Carrier, Datagram, RtcpPacket, Malformed, OfOthers, WithoutMedia, WithMedia, InRed, Again, AgainInRed, AgainEmpty, block_header, datagram_at, header_for, original_header, takes_memory}
use Rattle.codec_payload_numbers.specs.SeenTimes.{Seen, has_block, is_seen, none_seen, seen_with, seen_past}
use Rattle.codec_payload_numbers.specs.Reports.{Reception, no_reception, observed, reception_anew, reception_since}
use Rattle.codec_payload_receiver.specs.Bounds.{new_bound}
use Rattle.codec_payload_receiver.specs.Noting.{Noting, forgotten, new_noting, notes_after, with_suspect_note}
use Rattle.codec_payload_receiver.specs.declared.blocks.BlockCopy.{BlockCopy}
use Rattle.codec_payload_receiver.specs.declared.bound.UnitBound.{UnitBound}
use Rattle.codec_payload_datagrams.specs.declared.choice.Candidate.{Candidate}
use Rattle.codec_payload_datagrams.specs.declared.choice.Origin.{Origin}
use Rattle.codec_payload_datagrams.specs.declared.choice.Verdict.{Verdict}
use Rattle.codec_payload_datagrams.specs.declared.choice.Verdict.TheVariants as verdicts
use Rattle.codec_payload_datagrams.specs.declared.kinds.Malformation.{Malformation}
use Rattle.codec_payload_datagrams.specs.declared.kinds.Malformation.TheVariants as malformations
use Rattle.codec_payload_datagrams.specs.declared.kinds.RedStream.{RedStream}
use Rattle.codec_payload_receiver.specs.declared.receiver.Arrived.{Arrived}
use Rattle.codec_payload_receiver.specs.declared.receiver.Counters.{Counters}
use Rattle.codec_payload_receiver.specs.declared.receiver.leaving.LeftStream.{LeftStream}
use Rattle.codec_payload_receiver.specs.declared.receiver.ReceiveError.{ReceiveError}
use Rattle.codec_payload_receiver.specs.declared.receiver.ReceiveError.TheVariants as errors
use Rattle.codec_payload_receiver.specs.declared.receiver.RedSettings.{RedSettings}
use Rattle.codec_payload_datagrams.specs.declared.kinds.Retransmission.{Retransmission}
use Rattle.codec_payload_receiver.specs.declared.receiver.Settings.{Settings}
use Rattle.codec_payload_receiver.specs.declared.receiver.SettingsError.{SettingsError}
use Rattle.codec_payload_receiver.specs.declared.receiver.SettingsError.TheVariants as settings

-- a receiver, as contracts see it: the settings of the stream; the SSRC that the settings name; the SSRC of the stream, if it
-- is known; the jitter buffer; the counters of datagrams before it; the RTP time of the latest unit; the statistics of the
-- sender; the state of the choice; the RTP times of the latest packets and blocks; which units a decoder can show; how many bytes
-- a unit may have; what packets say of the frames that they begin, if the stream needs it
pub record Session : Type 0 where
  pub stream : Kinds
  pub named : Option ℕ
  pub ssrc : Option ℕ
  pub packets : Receiving
  pub arrived : Arrived
  pub time : Option ℕ
  pub reception : Reception
  pub choice : Choosing
  pub seen : Seen
  pub gates : Gating
  pub bound : UnitBound
  pub notes : Option Noting

-- Every datagram is accounted for

-- one more datagram
abbrev pub arrived_with : Arrived → Datagram → Arrived
arrived_with a RtcpPacket = record a { received = next a.received; rtcp = next a.rtcp }
arrived_with a (Malformed e) = record a { received = next a.received; malformed = next a.malformed }
arrived_with a OfOthers = record a { received = next a.received; other_streams = next a.other_streams }
arrived_with a (WithoutMedia h) = record a { received = next a.received }
arrived_with a (WithMedia p) = record a { received = next a.received }
arrived_with a (InRed c) = record a { received = next a.received }
arrived_with a (Again o) = record a { received = next a.received }
arrived_with a (AgainInRed c) = record a { received = next a.received }
arrived_with a AgainEmpty = record a { received = next a.received }

-- each datagram is RTCP, malformed, of another stream, waiting for the choice, or was pushed; recovered packets were pushed too
abbrev pub IsSorted : Arrived → PacketCounters → Type 0
IsSorted a c = (a.received + c.recovered) % 2 ^ 64 ≡ (c.pushed + a.rtcp + a.malformed + a.other_streams) % 2 ^ 64

-- No silent loss: each received datagram and each recovered packet was RTCP, malformed, of another stream, without media, a
-- duplicate, late, suspect, evicted, released in a unit or discarded with a frame, or it is held, or waits for the choice of
-- the stream; counted modulo 2^64
abbrev pub IsAccountedFor : Counters → ℕ → Type 0
IsAccountedFor c held =
    (c.received + c.packets.recovered) % 2 ^ 64
    ≡ (c.rtcp + c.malformed + c.other_streams + c.packets.no_media + c.packets.duplicates + c.packets.late + c.packets.suspect + c.packets.evicted
    + held + c.packets.released + c.packets.left + c.undecided) % 2 ^ 64

-- Receiving

-- the SSRC of the first packet becomes the SSRC of the stream
abbrev pub ssrc_after : Option ℕ → Datagram → Option ℕ
ssrc_after ssrc (WithoutMedia h) = Some h.ssrc
ssrc_after ssrc (WithMedia p) = Some p.header.ssrc
ssrc_after ssrc (InRed c) = Some c.header.ssrc
ssrc_after ssrc RtcpPacket = ssrc
ssrc_after ssrc (Malformed e) = ssrc
ssrc_after ssrc OfOthers = ssrc
ssrc_after ssrc (Again o) = ssrc
ssrc_after ssrc (AgainInRed c) = ssrc
ssrc_after ssrc AgainEmpty = ssrc

-- the numbers of blocks are counted from the number of the packet; 65,536 is added, so that earlier numbers are above 0
abbrev pub packet_in : Carrier → Block → Option RecoveredPacket
packet_in c b = recovered_from c.receiver (65536 + c.header.sequence_number) c.header.timestamp b

-- the packet of a redundant block, on arrival
abbrev pub block_arrival : Kinds → Ticks → ℕ → RecoveredPacket → Arrival
block_arrival s now ssrc x = record { now = now; header = block_header s ssrc x; bytes = x.bytes }

abbrev pub carried : Kinds → Ticks → Carrier → Block → Option Arrival
carried s now c b = option_map (block_arrival s now c.header.ssrc) (packet_in c b)

-- the packets of the redundant blocks, in the order of their headers
abbrev pub all_carried : Kinds → Ticks → Carrier → List Arrival
all_carried s now c = filter_map (carried s now c) c.older

-- the same for a copy
abbrev pub copied : Ticks → BlockCopy → Arrival
copied now c = record { now = now; header = c.header; bytes = c.payload.items }

-- the jitter buffer, and the RTP times of the latest packets and blocks
pub record Holding : Type 0 where
  pub packets : Receiving
  pub seen : Seen

-- the time of a stored block is noted
abbrev pub block_seen : Bool → ℕ → Seen → Seen
block_seen true time seen = seen_with (record { time = time; is_block = true }) seen
block_seen false time seen = seen

-- a block is stored if its packet is missing, unless a packet or a block with its time was received
abbrev pub RecoversUnseen : Bool → Arrival → Holding → Holding → Type 0
RecoversUnseen true a r t = t ≡ r
RecoversUnseen false a r t = (went_in : Bool) × Recovers a r.packets went_in t.packets × (t.seen ≡ block_seen went_in a.header.timestamp r.seen)

abbrev pub RecoversOne : Arrival → Holding → Holding → Type 0
RecoversOne a r t = RecoversUnseen (is_seen a.header.timestamp r.seen.places) a r t

-- each packet that is missing is stored, in order; if memory runs out for a packet, neither it nor a later one is stored
abbrev pub RecoversAll : Bool → List Arrival → Holding → Holding → Type 0
RecoversAll true [] r t = t ≡ r
RecoversAll true (a ∷ more) r t = (mid : Holding) × RecoversOne a r mid × RecoversAll true more mid t
RecoversAll false [] r t = ⊥
RecoversAll false (a ∷ more) r t = (t ≡ r) ⊎ ((mid : Holding) × RecoversOne a r mid × RecoversAll false more mid t)

-- a packet repeats a block: a block with its time was stored, and the packet would be stored too, under another number
abbrev pub is_repeat : Kinds → Seen → Receiving → (time low : ℕ) → Bool
is_repeat s seen r time low = (is_some s.red && has_block time seen.places) && would_store r low

-- in a stream with RED the time of each packet with media is noted; a restart forgets all earlier times
abbrev pub is_restart : Outcome → Bool
is_restart (outcomes.Restarted _) = true
is_restart outcomes.Suspect = false
is_restart outcomes.Held = false
is_restart outcomes.HeldAndEvicted = false
is_restart outcomes.Duplicate = false
is_restart outcomes.Late = false
is_restart outcomes.NoMedia = false
is_restart outcomes.OtherStream = false
is_restart outcomes.Undecided = false
is_restart outcomes.Rtcp = false

abbrev pub packet_seen : Bool → Outcome → ℕ → Seen → Seen
packet_seen false outcome time seen = seen
packet_seen true outcome time seen = seen_with (record { time = time; is_block = false }) (if is_restart outcome then none_seen else seen)

-- between these two states of the jitter buffer a restart was confirmed: the restarts are counted
abbrev pub has_restarted : (before after : Receiving) → Bool
has_restarted before after = not (after.counters.restarts == before.counters.restarts)

-- the primary block of a RED packet, which may have no media of the stream
abbrev pub primary_seen : (is_media : Bool) → Outcome → ℕ → (has_restarted : Bool) → Seen → Seen
primary_seen true outcome time restarted seen = packet_seen true outcome time seen
primary_seen false outcome time restarted seen = seen_past restarted seen

-- the primary block of a packet is stored, if it is media of the stream and repeats no block
abbrev pub TakesPrimaryIf : Bool → Kinds → Ticks → Carrier → Receiving → Outcome → Receiving → Type 0
TakesPrimaryIf true s now c r outcome t = Receives (record { now = now; header = header_for s c.header; bytes = c.primary.payload }) r outcome t
TakesPrimaryIf false s now c r outcome t = (outcome ≡ outcomes.NoMedia) × Notes c.header.sequence_number r t

abbrev pub is_own_media : Kinds → Carrier → Bool
is_own_media s c = c.primary.pt == s.payload_type

abbrev pub TakesPrimary : Kinds → Ticks → Carrier → Seen → Receiving → Outcome → Receiving → Type 0
TakesPrimary s now c seen r outcome t = TakesPrimaryIf (is_own_media s c && not (is_repeat s seen r c.header.timestamp c.header.sequence_number)) s now c r outcome t

-- a packet with media is stored; if it repeats a block, it counts as one without media
abbrev pub TakesMedia : Bool → Arrival → Receiving → Outcome → Receiving → Type 0
TakesMedia false a r outcome t = Receives a r outcome t
TakesMedia true a r outcome t = (outcome ≡ outcomes.NoMedia) × Notes a.header.sequence_number r t

abbrev pub TakesAgain : Bool → Arrival → Receiving → Outcome → Receiving → Type 0
TakesAgain false a r outcome t = ReceivesAgain a r outcome t
TakesAgain true a r outcome t = (outcome ≡ outcomes.NoMedia) × Notes a.header.sequence_number r t

abbrev pub is_suspect : Outcome → Bool
is_suspect outcomes.Suspect = true
is_suspect outcomes.Held = false
is_suspect outcomes.HeldAndEvicted = false
is_suspect outcomes.Duplicate = false
is_suspect outcomes.Late = false
is_suspect outcomes.NoMedia = false
is_suspect (outcomes.Restarted _) = false
is_suspect outcomes.OtherStream = false
is_suspect outcomes.Undecided = false
is_suspect outcomes.Rtcp = false

-- no block of a suspect packet is stored
abbrev pub RecoversUnless : Bool → Bool → List Arrival → Holding → Holding → Type 0
RecoversUnless true whole all r t = (whole ≡ true) × (t ≡ r)
RecoversUnless false whole all r t = RecoversAll whole all r t

-- a RED packet: first its primary block, then its redundant blocks
abbrev pub TakesRed : Kinds → Ticks → Carrier → Holding → Outcome → Bool → Holding → Type 0
TakesRed s now c r outcome whole t =
    (mid : Receiving) × TakesPrimary s now c r.seen r.packets outcome mid
    × RecoversUnless (is_suspect outcome) whole (all_carried s now c) (record { packets = mid; seen = primary_seen (is_own_media s c) outcome c.header.timestamp (has_restarted r.packets mid) r.seen }) t

-- the number of a retransmission without media is noted, unless a packet with it would not be stored: it is late, held, or
-- outside of the windows
abbrev pub NotesAgain : Bool → ℕ → Receiving → Outcome → Receiving → Type 0
NotesAgain true low r outcome t = (outcome ≡ outcomes.NoMedia) × Notes low r t
NotesAgain false low r outcome t = (outcome ≡ outcomes.NoMedia) × (t ≡ record r { counters = counted r.counters outcomes.NoMedia })

-- the primary block of a retransmitted RED packet is stored as a retransmission, if it is media of the stream and repeats no
-- block
abbrev pub TakesPrimaryAgain : Bool → Kinds → Ticks → Carrier → Seen → Receiving → Outcome → Receiving → Type 0
TakesPrimaryAgain true s now c seen r outcome t =
    TakesAgain (is_repeat s seen r c.header.timestamp c.header.sequence_number) (record { now = now; header = header_for s c.header; bytes = c.primary.payload }) r outcome t
TakesPrimaryAgain false s now c seen r outcome t = NotesAgain (would_store r c.header.sequence_number) c.header.sequence_number r outcome t

-- a retransmitted RED packet: its redundant blocks are those of the original packet
abbrev pub TakesRedAgain : Kinds → Ticks → Carrier → Holding → Outcome → Bool → Holding → Type 0
TakesRedAgain s now c r outcome whole t =
    (mid : Receiving) × TakesPrimaryAgain (is_own_media s c) s now c r.seen r.packets outcome mid
    × RecoversAll whole (all_carried s now c) (record { packets = mid; seen = primary_seen (is_own_media s c) outcome c.header.timestamp (has_restarted r.packets mid) r.seen }) t

-- the jitter buffer stores a datagram of its stream; whole: memory did not run out for a redundant block
abbrev pub TakesDatagram : Kinds → Ticks → Datagram → Holding → Outcome → Bool → Holding → Type 0
TakesDatagram s now RtcpPacket r outcome whole t = (outcome ≡ outcomes.Rtcp) × (t ≡ r)
TakesDatagram s now (Malformed e) r outcome whole t = t ≡ r
TakesDatagram s now OfOthers r outcome whole t = (outcome ≡ outcomes.OtherStream) × (t ≡ r)
TakesDatagram s now (WithoutMedia h) r outcome whole t = (outcome ≡ outcomes.NoMedia) × Notes h.sequence_number r.packets t.packets × (t.seen ≡ seen_past (has_restarted r.packets t.packets) r.seen)
TakesDatagram s now (WithMedia p) r outcome whole t =
    TakesMedia (is_repeat s r.seen r.packets p.header.timestamp p.header.sequence_number) (record { now = now; header = header_for s p.header; bytes = p.payload }) r.packets outcome t.packets
    × (t.seen ≡ packet_seen (is_some s.red) outcome p.header.timestamp r.seen)
TakesDatagram s now (InRed c) r outcome whole t = TakesRed s now c r outcome whole t
TakesDatagram s now (Again o) r outcome whole t =
    TakesAgain (is_repeat s r.seen r.packets o.header.timestamp o.number) (record { now = now; header = original_header s o; bytes = o.bytes }) r.packets outcome t.packets
    × (t.seen ≡ packet_seen (is_some s.red) outcome o.header.timestamp r.seen)
TakesDatagram s now (AgainInRed c) r outcome whole t = TakesRedAgain s now c r outcome whole t
TakesDatagram s now AgainEmpty r outcome whole t =
    (outcome ≡ outcomes.NoMedia) × (t ≡ record r { packets = record r.packets { counters = counted r.packets.counters outcomes.NoMedia } })

-- the error for a malformed datagram
abbrev pub error_of : Malformation → ReceiveError
error_of (malformations.Rtp e) = errors.Rtp e
error_of malformations.Red = errors.Red
error_of malformations.Retransmission = errors.Retransmission

-- the answer for a RED packet, after all blocks, or if memory ran out for one of them
abbrev pub told_of_red : Bool → Outcome → Result Outcome ReceiveError
told_of_red true outcome = Ok outcome
told_of_red false outcome = Err errors.BlocksOutOfMemory

abbrev pub AnswersFor : Datagram → Outcome → Bool → Result Outcome ReceiveError → Type 0
AnswersFor (Malformed e) outcome whole answer = answer ≡ Err (error_of e)
AnswersFor RtcpPacket outcome whole answer = answer ≡ Ok outcome
AnswersFor OfOthers outcome whole answer = answer ≡ Ok outcome
AnswersFor (WithoutMedia h) outcome whole answer = answer ≡ Ok outcome
AnswersFor (WithMedia p) outcome whole answer = answer ≡ Ok outcome
AnswersFor (InRed c) outcome whole answer = answer ≡ told_of_red whole outcome
AnswersFor (Again o) outcome whole answer = answer ≡ Ok outcome
AnswersFor (AgainInRed c) outcome whole answer = answer ≡ told_of_red whole outcome
AnswersFor AgainEmpty outcome whole answer = answer ≡ Ok outcome

-- packets of the stream's sender are counted for reports as they arrive; retransmissions in their own stream are not
abbrev pub observed_in : Reception → ℕ → Datagram → Reception
observed_in r now (WithoutMedia h) = observed r now h.sequence_number h.timestamp
observed_in r now (WithMedia p) = observed r now p.header.sequence_number p.header.timestamp
observed_in r now (InRed c) = observed r now c.header.sequence_number c.header.timestamp
observed_in r now RtcpPacket = r
observed_in r now (Malformed e) = r
observed_in r now OfOthers = r
observed_in r now (Again o) = r
observed_in r now (AgainInRed c) = r
observed_in r now AgainEmpty = r

-- a suspect packet is not counted (RFC 3550, appendix A.1), nor a packet that is stored later with the one that confirms a restart
abbrev pub observed_unless : (is_suspect : Bool) → Reception → ℕ → Datagram → Reception
observed_unless true r now d = r
observed_unless false r now d = observed_in r now d

-- the statistics after a datagram with this outcome: they begin again with the packet that confirms a restart
abbrev pub reception_after : Outcome → (before after : Receiving) → Reception → ℕ → Datagram → Reception
reception_after outcome before after r now d = observed_unless (is_suspect outcome) (reception_since (has_restarted before after) r) now d

-- a datagram is received, and its outcome reported
pub record Hears (now : Ticks) (d : Datagram) (s : Session) (answer : Result Outcome ReceiveError) (t : Session) : Type 0 where
  pub outcome : Outcome
  pub whole : Bool
  pub packets : Receiving
  pub seen : Seen
  pub takes : TakesDatagram s.stream now d (record { packets = s.packets; seen = s.seen }) outcome whole (record { packets = packets; seen = seen })
  pub answers : AnswersFor d outcome whole answer
  pub left : t ≡ record s {
    ssrc = ssrc_after s.ssrc d;
    packets = packets;
    arrived = arrived_with s.arrived d;
    reception = reception_after outcome s.packets packets s.reception now.0 d;
    choice = record s.choice { latest = latest_after s.choice.latest now.0 (origin_of d) };
    seen = seen;
    notes = notes_after s.notes s.stream d outcome s.packets packets;
  }

-- if memory ran out, nothing has changed, and the datagram is of a kind that takes memory
abbrev pub Heard : Ticks → Datagram → Session → Result Outcome ReceiveError → Session → Type 0
Heard now d s (Err errors.OutOfMemory) t = (t ≡ s) × (takes_memory d ≡ true)
Heard now d s (Err (errors.Rtp e)) t = Hears now d s (Err (errors.Rtp e)) t
Heard now d s (Err errors.Red) t = Hears now d s (Err errors.Red) t
Heard now d s (Err errors.Retransmission) t = Hears now d s (Err errors.Retransmission) t
Heard now d s (Err errors.BlocksOutOfMemory) t = Hears now d s (Err errors.BlocksOutOfMemory) t
Heard now d s (Ok outcome) t = Hears now d s (Ok outcome) t

-- The choice of the stream

-- no SSRC is named, the stream has not ended, and no SSRC was chosen, or the chosen stream was silent for 2 s
abbrev pub is_none_of : Option ℕ → Bool
is_none_of None = true
is_none_of (Some n) = false

abbrev pub is_open : Session → ℕ → Bool
is_open s now = is_none_of s.named && not s.packets.ended && (is_none_of s.ssrc || is_silent s.choice now)

-- what to do with a datagram
abbrev pub verdict_in : Session → ℕ → List ℕ → Verdict
verdict_in s now bytes = if is_open s now then verdict_of s.choice.candidates s.ssrc (origin_of (datagram_at s.stream None bytes)) else verdicts.Hear

-- `count` waiting packets are of other streams
abbrev pub turned_away : ℕ → Arrived → Arrived
turned_away n a = record a { received = (a.received + n) % 2 ^ 64; other_streams = (a.other_streams + n) % 2 ^ 64 }

abbrev pub turned_away_if : Bool → Arrived → Arrived
turned_away_if true a = turned_away 1 a
turned_away_if false a = a

-- a datagram waits, and may replace another one; if memory runs out, nothing has changed
pub record Waits (now : Ticks) (o : Origin) (bytes : List ℕ) (s t : Session) : Type 0 where
  pub candidate : Candidate
  pub is : IsCandidate now o bytes candidate
  pub left : t ≡ record s {
    arrived = turned_away_if (is_some (leaving o.ssrc s.choice.candidates)) s.arrived;
    choice = record s.choice { candidates = waiting_with candidate s.choice.candidates };
  }

abbrev pub Keeps : Ticks → Origin → List ℕ → Session → Result Outcome ReceiveError → Session → Type 0
Keeps now o bytes s (Ok outcome) t = (outcome ≡ outcomes.Undecided) × Waits now o bytes s t
Keeps now o bytes s (Err fault) t = (fault ≡ errors.OutOfMemory) × (t ≡ s)

-- no packet waits any more; the stream has this SSRC
abbrev pub settled_on : ℕ → Session → Session
settled_on ssrc s = record s { ssrc = Some ssrc; choice = record s.choice { candidates = [] } }

-- the waiting packet chooses the stream: it is received first, with its time of arrival. The other waiting packets are of other
-- streams. If memory runs out for it, nothing has changed
pub record Settles (c : Candidate) (s t : Session) : Type 0 where
  pub answer : Result Outcome ReceiveError
  pub mid : Session
  pub heard : Heard c.received (datagram_at s.stream (Some c.ssrc) c.bytes.items) (settled_on c.ssrc s) answer mid
  pub went : answer ≢ Err errors.OutOfMemory
  pub left : t ≡ record mid { arrived = turned_away (length s.choice.candidates - 1) mid.arrived }

abbrev pub SettlesOn : Option Candidate → Bool → Session → Session → Type 0
SettlesOn None whole s t = (whole ≡ true) × (t ≡ s)
SettlesOn (Some c) true s t = Settles c s t
SettlesOn (Some c) false s t = t ≡ s

-- the next packet is the first of another sender, with this SSRC if it is known
abbrev pub gone_over_to : Option ℕ → Session → Session
gone_over_to ssrc s = record s { ssrc = ssrc; packets = begun_anew s.packets; reception = reception_anew s.reception; seen = none_seen; notes = forgotten s.notes }

-- the stream that was left is back
abbrev pub come_back : LeftStream → Session → Session
come_back l s = record s {
  ssrc = l.ssrc;
  packets = taken_back l.before s.packets;
  reception = l.statistics;
  seen = l.seen;
  notes = option_map (with_suspect_note l.suspect) s.notes;
}

-- a stream that was silent is left, as if the caller had announced a restart
abbrev pub opened_if : Bool → Session → Session
opened_if true s = s
opened_if false s = gone_over_to None s

abbrev pub opened : Session → Session
opened s = opened_if (is_none_of s.ssrc) s

-- the waiting packet chooses the stream, in place of a stream that was silent. If memory runs out for that packet, nothing has changed
abbrev pub SettlesAnew : Option Candidate → Bool → Session → Session → Type 0
SettlesAnew c true s t = SettlesOn c true (opened s) t
SettlesAnew c false s t = t ≡ s

-- then the datagram itself is received; if memory ran out for the waiting packet, nothing has changed
abbrev pub ChoosesIf : Bool → ℕ → Ticks → List ℕ → Session → Result Outcome ReceiveError → Session → Type 0
ChoosesIf true place now bytes s answer t =
    (mid : Session) × SettlesAnew (slice_get s.choice.candidates place) true s mid × Heard now (datagram_at mid.stream mid.ssrc bytes) mid answer t
ChoosesIf false place now bytes s answer t = (answer ≡ Err errors.OutOfMemory) × (t ≡ s)

pub record Chooses (place : ℕ) (now : Ticks) (bytes : List ℕ) (s : Session) (answer : Result Outcome ReceiveError) (t : Session) : Type 0 where
  pub whole : Bool
  pub chooses : ChoosesIf whole place now bytes s answer t

abbrev pub ReceivesBy : Verdict → Ticks → List ℕ → Session → Result Outcome ReceiveError → Session → Type 0
ReceivesBy verdicts.Hear now bytes s answer t = Heard now (datagram_at s.stream s.ssrc bytes) s answer t
ReceivesBy (verdicts.Keep o) now bytes s answer t = Keeps now o bytes s answer t
ReceivesBy (verdicts.Choose place) now bytes s answer t = Chooses place now bytes s answer t

-- any bytes are received; if memory runs out before the datagram is sorted, nothing has changed, and the datagram is of a kind that
-- takes memory
abbrev pub ReceivesBytes : Ticks → List ℕ → Session → Result Outcome ReceiveError → Session → Type 0
ReceivesBytes now bytes s answer t =
    ReceivesBy (verdict_in s now.0 bytes) now bytes s answer t
    ⊎ ((answer ≡ Err errors.OutOfMemory) × (t ≡ s) × (takes_memory (datagram_at s.stream None bytes) ≡ true))

-- the stream has ended
abbrev pub ended : Session → Session
ended s = record s { packets = record s.packets { ended = true; is_restarting = false } }

abbrev pub first_waiting : Session → Option Candidate
first_waiting s = if is_none_of s.ssrc then slice_get s.choice.candidates 0 else None

-- the end of the stream: the first waiting packet is received
abbrev pub Ends : Session → Session → Type 0
Ends s t = (mid : Session) × SettlesOn (first_waiting s) true s mid × (t ≡ ended mid)

-- if memory runs out for that packet, nothing has changed
abbrev pub Finishes : Session → Result Unit AllocError → Session → Type 0
Finishes s (Ok done) t = Ends s t
Finishes s (Err e) t = (is_some (first_waiting s) ≡ true) × (t ≡ s)

-- the sender has restarted: waiting packets are of other streams, and a keyframe is needed
abbrev pub restarted : Option ℕ → Session → Session
restarted ssrc s = gone_over_to ssrc (record s { arrived = turned_away (length s.choice.candidates) s.arrived; choice = record s.choice { candidates = []; latest = None }; gates = with_skip s.gates })

-- Pops

-- the RTP time of the latest unit, without wrapping: the time nearest to the previous unit's
abbrev pub time_with : Option ℕ → Option (Result Release PacketError) → Option ℕ
time_with time None = time
time_with time (Some (Err fault)) = time
time_with time (Some (Ok unit)) = Some (extended_time time (unit.time.numer % 2 ^ 32))

-- New receivers

abbrev pub nothing_arrived : Arrived
nothing_arrived = record { received = 0; rtcp = 0; malformed = 0; other_streams = 0 }

-- RED has a payload type that differs from the stream's, and a step of 1 to 16,383 ticks
abbrev pub red_by : ℕ → RedSettings → Result (Option RedStream) SettingsError
red_by payload_type red =
    if nat_le red.payload_type 127 && not (red.payload_type == payload_type)
    then (if nat_lt 0 red.step && nat_le red.step 16383 then Ok
    (Some (record { payload_type = red.payload_type; receiver = record { primary_pt = payload_type % 128; step = red.step }; retransmission = red.retransmission })) else Err settings.RedStep)
    else Err settings.RedPayloadType

abbrev pub red_within : ℕ → Option RedSettings → Result (Option RedStream) SettingsError
red_within payload_type None = Ok None
red_within payload_type (Some red) = red_by payload_type red

abbrev pub retransmission_fits : Option Retransmission → Bool
retransmission_fits None = true
retransmission_fits (Some r) = nat_le r.payload_type 127

-- how many places are kept free for the packets of one datagram: a RED packet has its blocks
abbrev pub packets_at_once : Option RedStream → ℕ
packets_at_once None = 2
packets_at_once (Some red) = 10

-- the codec of units that are inspected
abbrev pub video_codec : DepacketizerKind → Codec
video_codec Vp8Payloads = codecs.Vp8
video_codec Vp9Payloads = codecs.Vp9
video_codec Av1Payloads = codecs.Av1
video_codec G711Payloads = codecs.Null
video_codec OpusPayloads = codecs.Null
video_codec ComfortNoisePayloads = codecs.Null
video_codec TelePayloads = codecs.Null
video_codec (AmrWbPayloads octet) = codecs.Null
video_codec NullPayloads = codecs.Null
video_codec BoxedPayloads = codecs.Null

abbrev pub session_with : Settings → DepacketizerState → Option RedStream → Numbering → Session
session_with s depacketizer red numbering = record {
  stream = record { payload_type = s.payload_type; no_media = s.no_media.items; red = red; retransmission = s.retransmission; ids = s.extension_ids };
  named = s.ssrc;
  ssrc = s.ssrc;
  packets = record (no_packets numbering (empty_buffer (most_held_back s.wait_limits.hold_back) s.limit depacketizer) s.clock_rate s.wait_limits) {
    room = room_for s.limit (max (packets_at_once red) 2);
  };
  arrived = nothing_arrived;
  time = None;
  reception = no_reception numbering s.tick_rate s.clock_rate;
  choice = no_choice (2 * s.tick_rate);
  seen = none_seen;
  gates = new_gating (video_codec (kind_of_depacketizer depacketizer)) s.from_keyframe;
  bound = new_bound s.max_unit;
  notes = new_noting s.from_keyframe (video_codec (kind_of_depacketizer depacketizer)) s.dependency_descriptor s.limit;
}

abbrev pub session_within : Settings → DepacketizerState → Option RedStream → Result Numbering WindowError → Result Session SettingsError
session_within s depacketizer red (Ok numbering) = Ok (session_with s depacketizer red numbering)
session_within s depacketizer red (Err windows.Forward) = Err settings.Forward
session_within s depacketizer red (Err windows.Backward) = Err settings.Backward

abbrev pub session_in : Settings → DepacketizerState → Result (Option RedStream) SettingsError → Result Session SettingsError
session_in s depacketizer (Err fault) = Err fault
session_in s depacketizer (Ok red) = session_within s depacketizer red (numbering_within s.forward s.backward)

-- a receiver for settings in range; otherwise the first setting out of range is reported
abbrev pub session_by : Settings → DepacketizerState → Result Session SettingsError
session_by s depacketizer =
    if nat_le s.payload_type 127 then (if nat_le 1 s.limit && nat_le s.limit 65536
    then (if retransmission_fits s.retransmission then session_in s depacketizer (red_within s.payload_type s.red) else Err settings.RetransmissionPayloadType)
    else Err settings.Limit)
    else Err settings.PayloadType
