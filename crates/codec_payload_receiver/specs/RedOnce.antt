-- In a stream with RED (RFC 2198) no RTP time is stored twice, if all packets have different RTP times.
use Rattle.std.specs.Prelude.{◌≡◌, ℕ, ◌+◌, ◌%◌, ◌^◌, ◌<◌, ◌≤◌, if◌then◌else◌, ◌||◌, Bool, true, false, List, [], ◌∷◌, length, map, slice_get, Some, ⊤}
use Rattle.std.specs.Option.{is_some}
use Rattle.codec_payload_base.specs.declared.wire.Ticks.{Ticks}
use Rattle.codec_payload_jitter.specs.Receiving.{is_stored}
use Rattle.codec_payload_jitter.specs.declared.outcome.Outcome.{Outcome}
use Rattle.codec_payload_datagrams.specs.Kinds.{Kinds, Datagram, RtcpPacket, Malformed, OfOthers, WithoutMedia, WithMedia, InRed, Again, AgainInRed, AgainEmpty}
use Rattle.codec_payload_numbers.specs.SeenTimes.{Seen, has_block, is_seen, none_seen, seen_with, seen_past}
use Rattle.codec_payload_receiver.specs.Sessions.{Holding, TakesDatagram, has_restarted, is_own_media, is_restart}
use Rattle.codec_payload_numbers.specs.declared.seen_times.SeenTime.{SeenTime}

-- a packet or a block that was received after the latest restart: its RTP time, and whether it was stored
pub record Received : Type 0 where
  pub seen : SeenTime
  pub is_stored : Bool

-- whether it repeats a received packet or block: a block repeats each packet and each block with its time, a packet repeats
-- each block with its time
abbrev pub repeats : Seen → SeenTime → Bool
repeats s x = if x.is_block then is_seen x.time s.places else has_block x.time s.places

-- a receiver stores only what repeats nothing, in this order
abbrev pub AreStoredByRule : Seen → List Received → Type 0
AreStoredByRule s [] = ⊤
AreStoredByRule s (x ∷ more) = (x.is_stored ≡ true → repeats s x.seen ≡ false) × AreStoredByRule (seen_with x.seen s) more

-- If two of them are stored with one RTP time, at most 64 places apart, both are packets. So if all packets have different RTP
-- times, no time is stored twice.
abbrev pub StoresEachTimeOnce : Type 0
StoresEachTimeOnce =
    (all : List Received) (i j : ℕ) (x y : Received) → AreStoredByRule none_seen all → i < j → j ≤ i + 64
    → slice_get all i ≡ Some x → slice_get all j ≡ Some y → x.is_stored ≡ true → y.is_stored ≡ true → x.seen.time ≡ y.seen.time
    → (x.seen.is_block ≡ false) × (y.seen.is_block ≡ false)

-- A receiver follows this rule

-- the remembered times after these packets and blocks, in order
abbrev pub seen_after : Seen → List Received → Seen
seen_after s [] = s
seen_after s (x ∷ more) = seen_after (seen_with x.seen s) more

-- a restart forgets all earlier times
abbrev pub seen_since : Outcome → Seen → Seen
seen_since o s = if is_restart o then none_seen else s

-- the same for a packet that may have no media: then a restart that it confirms is counted
abbrev pub times_since : (has_media : Bool) → Outcome → Holding → Holding → Seen
times_since true o r t = seen_since o r.seen
times_since false o r t = seen_past (has_restarted r.packets t.packets) r.seen

-- a packet with media, and whether it was stored
abbrev pub packet_with : Outcome → ℕ → Received
packet_with o time = record { seen = record { time = time; is_block = false }; is_stored = is_stored o || is_restart o }

-- a stored block
abbrev pub block_at : ℕ → Received
block_at time = record { seen = record { time = time; is_block = true }; is_stored = true }

-- a packet, if it has media, and the stored blocks with these times
abbrev pub listed : Bool → Outcome → ℕ → List ℕ → List Received
listed true o time blocks = packet_with o time ∷ map block_at blocks
listed false o time blocks = map block_at blocks

-- the times of the stored blocks of a packet; packet and blocks are stored by the rule, and each block counts as recovered
pub record AreListed (has_media : Bool) (o : Outcome) (time : ℕ) (r t : Holding) : Type 0 where
  pub blocks : List ℕ
  pub by_rule : AreStoredByRule (times_since has_media o r t) (listed has_media o time blocks)
  pub seen : t.seen ≡ seen_after (times_since has_media o r t) (listed has_media o time blocks)
  pub recovered : t.packets.counters.recovered % 2 ^ 64 ≡ (r.packets.counters.recovered + length blocks) % 2 ^ 64

abbrev pub FollowsRule : Kinds → Datagram → Outcome → Holding → Holding → Type 0
FollowsRule s (WithMedia p) o r t = AreListed true o p.header.timestamp r t
FollowsRule s (Again it) o r t = AreListed true o it.header.timestamp r t
FollowsRule s (InRed c) o r t = AreListed (is_own_media s c) o c.header.timestamp r t
FollowsRule s (AgainInRed c) o r t = AreListed (is_own_media s c) o c.header.timestamp r t
FollowsRule s RtcpPacket o r t = t.seen ≡ r.seen
FollowsRule s (Malformed e) o r t = t.seen ≡ r.seen
FollowsRule s OfOthers o r t = t.seen ≡ r.seen
FollowsRule s (WithoutMedia h) o r t = t.seen ≡ seen_past (has_restarted r.packets t.packets) r.seen
FollowsRule s AgainEmpty o r t = t.seen ≡ r.seen

-- no block is remembered
abbrev pub HasNoBlock : Seen → Type 0
HasNoBlock seen = (time : ℕ) → has_block time seen.places ≡ false

-- after an announced restart no block is remembered, until the next packet
abbrev pub IsForgotten : Holding → Type 0
IsForgotten r = r.packets.is_restarting ≡ true → HasNoBlock r.seen

-- A receiver of RED stores the packet and blocks of each datagram by the rule, and remembers their times.
abbrev pub ReceivesByRule : Type 0
ReceivesByRule =
    (s : Kinds) (now : Ticks) (d : Datagram) (r t : Holding) (o : Outcome) (whole : Bool) → is_some s.red ≡ true → IsForgotten r → TakesDatagram s now d r o whole t
    → IsForgotten t × FollowsRule s d o r t
