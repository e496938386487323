-- The RTP times of the latest packets and blocks of a stream with RED (RFC 2198).
use Rattle.std.specs.Prelude.{ℕ, ◌+◌, ◌%◌, ◌==◌, ◌&&◌, ◌||◌, Bool, true, false, List, [], ◌∷◌, Option, Some, None, replicate, slice_set}
use Rattle.codec_payload_numbers.specs.declared.seen_times.Kind.{Kind}
use Rattle.codec_payload_numbers.specs.declared.seen_times.Kind.TheVariants.{Nothing, Packet, Block}
use Rattle.codec_payload_numbers.specs.declared.seen_times.SeenTime.{SeenTime}

-- the latest 64 times, and the index of the next one
pub record Seen : Type 0 where
  pub places : List (Option SeenTime)
  pub next : ℕ

-- a place, from its time and from what arrived with it
abbrev pub seen_at : ℕ × Kind → Option SeenTime
seen_at (time, Nothing) = None
seen_at (time, Packet) = Some (record { time = time; is_block = false })
seen_at (time, Block) = Some (record { time = time; is_block = true })

abbrev pub none_seen : Seen
none_seen = record { places = replicate 64 None; next = 0 }

-- the times in memory; without memory none was received
abbrev pub seen_in : Option Seen → Seen
seen_in None = none_seen
seen_in (Some s) = s

-- whether a packet with this time arrived, or a block with this time was stored
abbrev pub is_seen : ℕ → List (Option SeenTime) → Bool
is_seen time [] = false
is_seen time (None ∷ more) = is_seen time more
is_seen time (Some x ∷ more) = (x.time == time) || is_seen time more

-- whether a block with this time was stored
abbrev pub has_block : ℕ → List (Option SeenTime) → Bool
has_block time [] = false
has_block time (None ∷ more) = has_block time more
has_block time (Some x ∷ more) = (x.is_block && (x.time == time)) || has_block time more

abbrev pub seen_with : SeenTime → Seen → Seen
seen_with x s = record { places = slice_set s.places s.next (Some x); next = (s.next + 1) % 64 }

-- a number without media is not noted, and a restart that it confirms forgets all earlier times
abbrev pub seen_past : (has_restarted : Bool) → Seen → Seen
seen_past true seen = none_seen
seen_past false seen = seen
