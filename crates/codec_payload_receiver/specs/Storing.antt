-- What a packet and the blocks beside it do to the jitter buffer and to the noted times, whichever way they came.
use Rattle.std.specs.Prelude.{◌≡◌, ℕ, ◌||◌, ◌&&◌, not, Bool, true, false, List}
use Rattle.std.specs.Option.{is_some}
use Rattle.codec_payload_base.specs.declared.wire.Ticks.{Ticks}
use Rattle.codec_payload_rtp.specs.RtpPackets.{Header, Packet}
use Rattle.codec_payload_rtp.specs.RtpValues.{header_of}
use Rattle.codec_payload_jitter.specs.Receiving.{Arrival, Receives, ReceivesAgain, Receiving, would_store}
use Rattle.codec_payload_jitter.specs.declared.outcome.Outcome.{Outcome}
use Rattle.codec_payload_datagrams.specs.Kinds.{Carrier, Kinds, Original, header_for}
use Rattle.codec_payload_numbers.specs.SeenTimes.{Seen, seen_past}
use Rattle.codec_payload_receiver.specs.Sessions.{Holding, NotesAgain, RecoversUnless, has_restarted, is_own_media, is_repeat, is_suspect, packet_seen, primary_seen}
use Rattle.codec_payload_receiver.specs.declared.brought.Brought.{Brought as LentBrought}

-- a packet: its header, in which a retransmission has the original number and SSRC, its payload, whether it is media of the stream,
-- and whether it was sent again
pub record Brought : Type 0 where
  pub header : Header
  pub bytes : List ℕ
  pub is_media : Bool
  pub is_again : Bool

abbrev pub brought_of : LentBrought → Brought
brought_of b = record { header = header_of b.header; bytes = b.payload.now; is_media = b.is_media; is_again = b.is_again }

-- a packet without RED that was sent for the first time
abbrev pub first_brought : (is_media : Bool) → Packet → Brought
first_brought is_media p = record { header = p.header; bytes = p.payload; is_media = is_media; is_again = false }

-- the original packet of a retransmission without RED
abbrev pub repeated_by : Original → Brought
repeated_by o = record { header = record o.header { sequence_number = o.number; ssrc = o.ssrc }; bytes = o.bytes; is_media = true; is_again = true }

-- the primary block of a RED packet
abbrev pub in_carrier : Kinds → Carrier → Bool → Brought
in_carrier s c is_again = record { header = c.header; bytes = c.primary.payload; is_media = is_own_media s c; is_again = is_again }

-- it arrives for the first time, or again
abbrev pub ReceivesEither : Bool → Arrival → Receiving → Outcome → Receiving → Type 0
ReceivesEither false a r outcome t = Receives a r outcome t
ReceivesEither true a r outcome t = ReceivesAgain a r outcome t

-- media is stored, unless it repeats a block: then its number has no media. The number of another packet has none; that of a
-- retransmission only if a packet with it would be stored
abbrev pub StoresAs : (is_media is_repeat is_again : Bool) → Arrival → Receiving → Outcome → Receiving → Type 0
StoresAs true false is_again a r outcome t = ReceivesEither is_again a r outcome t
StoresAs true true is_again a r outcome t = NotesAgain true a.header.sequence_number r outcome t
StoresAs false is_repeat is_again a r outcome t = NotesAgain (not is_again || would_store r a.header.sequence_number) a.header.sequence_number r outcome t

abbrev pub Stores : Kinds → Ticks → Brought → Seen → Receiving → Outcome → Receiving → Type 0
Stores s now b seen r outcome t =
    StoresAs b.is_media (is_repeat s seen r b.header.timestamp b.header.sequence_number) b.is_again
    (record { now = now; header = header_for s b.header; bytes = b.bytes }) r outcome t

-- and then the packets of the blocks beside it are, unless it is suspect; a retransmission never is
abbrev pub TakesBrought : Kinds → Ticks → Brought → List Arrival → Holding → Outcome → Bool → Holding → Type 0
TakesBrought s now b all r outcome whole t =
    (mid : Receiving) × Stores s now b r.seen r.packets outcome mid
    × RecoversUnless (not b.is_again && is_suspect outcome) whole all (record { packets = mid; seen = primary_seen b.is_media outcome b.header.timestamp (has_restarted r.packets mid) r.seen }) t

-- a packet with media notes its time in a stream with RED; one without media notes none, and a restart that it confirms forgets all
-- earlier times
abbrev pub alone_seen : (is_media notes : Bool) → Outcome → ℕ → (has_restarted : Bool) → Seen → Seen
alone_seen true notes outcome time restarted seen = packet_seen notes outcome time seen
alone_seen false notes outcome time restarted seen = seen_past restarted seen

-- a packet without blocks beside it
abbrev pub TakesAlone : Kinds → Ticks → Brought → Holding → Outcome → Holding → Type 0
TakesAlone s now b r outcome t =
    Stores s now b r.seen r.packets outcome t.packets
    × (t.seen ≡ alone_seen b.is_media (is_some s.red) outcome b.header.timestamp (has_restarted r.packets t.packets) r.seen)
