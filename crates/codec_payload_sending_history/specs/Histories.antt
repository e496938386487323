-- What each call of a history does (RFC 4588, section 4).
use Rattle.std.specs.Prelude.{◌≡◌, ◌≢◌, ◌<◌, ◌≤◌, ℕ, zero, suc, ◌+◌, ◌-◌, ◌%◌, ◌==◌, nat_lt, nat_le, ◌||◌, not, if◌then◌else◌, Bool, true, false, List, [], ◌∷◌, ◌++◌, length, take, slice_get, slice_index_or, slice_set, Option, Some, None, Result, Ok, Err}
use Rattle.std.specs.Int.{w16, to_be_bytes}
use Rattle.codec_payload_base.specs.declared.wire.Ticks.{Ticks}
use Rattle.codec_payload_rtp.specs.RtpPackets.{Packet}
use Rattle.codec_payload_rtp.specs.RtpReading.{rtp_at}
use Rattle.codec_payload_sending_history.specs.Packets.{Past, Sent, no_packet, number_in, stream_fits}
use Rattle.codec_payload_sending_history.specs.declared.retransmission.HistoryError.{HistoryError}
use Rattle.codec_payload_sending_history.specs.declared.retransmission.HistoryError.TheVariants as errors
use Rattle.codec_payload_sending_history.specs.declared.retransmission.HistorySettings.{HistorySettings}
use Rattle.codec_payload_sending_history.specs.declared.retransmission.KeepError.{KeepError}
use Rattle.codec_payload_sending_history.specs.declared.retransmission.KeepError.TheVariants as faults
use Rattle.codec_payload_sending_history.specs.declared.retransmission.Kept.{Kept}
use Rattle.codec_payload_sending_history.specs.declared.retransmission.Kept.TheVariants as answers
use Rattle.codec_payload_sending_history.specs.declared.retransmission.KeptOnce.{KeptOnce}
use Rattle.codec_payload_sending_history.specs.declared.retransmission.KeptOnce.TheVariants as once
use Rattle.codec_payload_sending_history.specs.declared.retransmission.Place.{Place}
use Rattle.codec_payload_sending_history.specs.declared.retransmission.Place.TheVariants as places
use Rattle.codec_payload_sending_history.specs.declared.retransmission.Resent.{Resent}
use Rattle.codec_payload_sending_history.specs.declared.retransmission.Resent.TheVariants as results
use Rattle.codec_payload_sending_history.specs.declared.retransmission.RetransmissionStream.{RetransmissionStream}

-- ---- settings

abbrev pub first_of : Option RetransmissionStream → ℕ
first_of None = 0
first_of (Some stream) = stream.first_number

-- an empty history, or the first setting that is out of range
abbrev pub history_by : HistorySettings → Result Past HistoryError
history_by s =
    if (s.limit == 0) || nat_lt 32768 s.limit then Err errors.Limit
    else if not (stream_fits s.stream) then Err errors.PayloadType
    else Ok (record { limit = s.limit; interval = s.interval; stream = s.stream; next = first_of s.stream; newest = 0; refused = None; packets = [] })

-- ---- keeping

-- how many numbers that one is above the highest number, and below it
abbrev pub above : Past → ℕ → ℕ
above h number = (number + 65536 - h.newest) % 65536

abbrev pub below : Past → ℕ → ℕ
below h number = (h.newest + 65536 - number) % 65536

-- a number comes right after the one that was refused last
abbrev pub follows : Option ℕ → ℕ → Bool
follows None number = false
follows (Some refused) number = number == (refused + 1) % 65536

abbrev pub is_empty : List Sent → Bool
is_empty [] = true
is_empty (p ∷ packets) = false

-- Where a packet with that number is kept: less than `limit` below the highest number at its place; above the highest number as
-- the new one, and if it is `limit` or more above, all others leave. Any other number is too old, except the second of two that
-- follow each other: it begins the history anew
abbrev pub place_for : Past → ℕ → Place
place_for h number =
    if is_empty h.packets then places.Anew
    else (if nat_lt (below h number) h.limit then places.Below (below h number)
    else (if nat_lt (above h number) 32768 then (if nat_lt (above h number) h.limit then places.Above (above h number) else places.Anew)
    else (if follows h.refused number then places.Anew else places.TooOld)))

-- the places of so many higher numbers are put in front, and the last of more than `limit` leave
abbrev pub raised : (limit count : ℕ) → List Sent → List Sent
raised limit zero packets = packets
raised limit (suc count) packets = take limit (no_packet ∷ raised limit count packets)

-- so many more places of lower numbers
abbrev pub lowered : (count : ℕ) → List Sent → List Sent
lowered zero packets = packets
lowered (suc count) packets = lowered count packets ++ no_packet ∷ []

-- the packet at a place has these bytes. When the packet of this number was resent last stays
abbrev pub with_bytes : ℕ → List ℕ → List Sent → List Sent
with_bytes place bytes packets = slice_set packets place (record (slice_index_or packets place no_packet) { bytes = bytes })

-- a packet with that number and these bytes is kept at its place, or refused
abbrev pub kept_at : Place → ℕ → List ℕ → Past → Past
kept_at places.Anew number bytes h = record h { newest = number; refused = None; packets = with_bytes 0 bytes (raised h.limit 1 []) }
kept_at (places.Above count) number bytes h = record h { newest = number; refused = None; packets = with_bytes 0 bytes (raised h.limit count h.packets) }
kept_at (places.Below place) number bytes h = record h { refused = None; packets = with_bytes place bytes (lowered (suc place - length h.packets) h.packets) }
kept_at places.TooOld number bytes h = record h { refused = Some number }

-- what is answered
abbrev pub kept_by : Place → Kept
kept_by places.Anew = answers.Stored
kept_by (places.Above count) = answers.Stored
kept_by (places.Below place) = answers.Stored
kept_by places.TooOld = answers.TooOld

-- the datagram is a packet, and is kept at the place of its number, or is too old
pub record Keeps (h : Past) (datagram : List ℕ) (kept : Kept) (t : Past) : Type 0 where
  pub packet : Packet
  pub reads : rtp_at datagram ≡ Ok packet
  pub answer : kept ≡ kept_by (place_for h packet.header.sequence_number)
  pub left : t ≡ kept_at (place_for h packet.header.sequence_number) packet.header.sequence_number datagram h

-- why a datagram is not kept
abbrev pub IsFault : List ℕ → KeepError → Type 0
IsFault datagram (faults.Rtp fault) = rtp_at datagram ≡ Err fault
IsFault datagram faults.OutOfMemory = (packet : Packet) × (rtp_at datagram ≡ Ok packet)

-- ---- resending

-- that packet of the history has the number
pub record IsAt (h : Past) (number place : ℕ) (p : Sent) : Type 0 where
  pub found : slice_get h.packets place ≡ Some p
  pub numbered : number_in p.bytes ≡ Some number

-- no packet of the history has the number
abbrev pub HasNot : Past → ℕ → Type 0
HasNot h number = (place : ℕ) (p : Sent) → slice_get h.packets place ≡ Some p → number_in p.bytes ≢ Some number

-- the history has that datagram, and it has that number
abbrev pub IsKept : Past → ℕ → List ℕ → Type 0
IsKept h number datagram = (place : ℕ) × (p : Sent) × IsAt h number place p × (datagram ≡ p.bytes)

-- A datagram is kept, unless the history has one with its number
abbrev pub KeepsOnce : Past → List ℕ → KeptOnce → Past → Type 0
KeepsOnce h datagram once.New t = (number : ℕ) × (number_in datagram ≡ Some number) × HasNot h number × Keeps h datagram answers.Stored t
KeepsOnce h datagram once.Known t = (number : ℕ) × (number_in datagram ≡ Some number) × ((held : List ℕ) × IsKept h number held) × (t ≡ record h { refused = None })
KeepsOnce h datagram once.TooOld t = Keeps h datagram answers.TooOld t

-- it was resent less than the interval ago
abbrev pub is_too_soon : ℕ → Ticks → Option Ticks → Bool
is_too_soon interval now None = false
is_too_soon interval now (Some last) = nat_lt (now.0 - last.0) interval

-- the bytes are the retransmission of a packet, with that number of the stream of retransmissions: the same header under the SSRC,
-- the payload type and that number, and in front of the payload the number that the packet had first; padding is left out
pub record IsRetransmission (stream : RetransmissionStream) (next : ℕ) (packet bytes : List ℕ) : Type 0 where
  pub original : Packet
  pub was : rtp_at packet ≡ Ok original
  pub reads : rtp_at bytes ≡ Ok (record {
    header = record original.header { payload_type = stream.payload_type; sequence_number = next; ssrc = stream.ssrc };
    payload = to_be_bytes w16 original.header.sequence_number ++ original.payload;
    padding = 0;
  })

-- a packet is resent as a retransmission, or as it was
abbrev pub Repeats : Option RetransmissionStream → ℕ → List ℕ → List ℕ → Type 0
Repeats None next packet bytes = bytes ≡ packet
Repeats (Some stream) next packet bytes = IsRetransmission stream next packet bytes

abbrev pub next_after : Option RetransmissionStream → ℕ → ℕ
next_after None next = next
next_after (Some stream) next = (next + 1) % 65536

-- after the packet at a place was resent
abbrev pub resent_at : Ticks → ℕ → Sent → Past → Past
resent_at now place p h = record h { next = next_after h.stream h.next; packets = slice_set h.packets place (record p { resent = Some now }) }

-- what a request for a number writes in the place of what was there, and what it leaves
abbrev pub Resends : Ticks → ℕ → Past → List ℕ → Resent → List ℕ → Past → Type 0
Resends now number h before results.Written bytes t =
    (place : ℕ) × (p : Sent) × IsAt h number place p × (is_too_soon h.interval now p.resent ≡ false) × Repeats h.stream h.next p.bytes bytes × (t ≡ resent_at now place p h)
Resends now number h before results.NotKept bytes t = HasNot h number × (bytes ≡ before) × (t ≡ h)
Resends now number h before results.TooSoon bytes t =
    (place : ℕ) × (p : Sent) × IsAt h number place p × (is_too_soon h.interval now p.resent ≡ true) × (bytes ≡ before) × (t ≡ h)
Resends now number h before results.TooLarge bytes t = ⊥

-- the same, if the datagram has at most that many bytes; if it has more, it is written, and the history stays as it is
abbrev pub ResendsWithin : (most : ℕ) → Ticks → ℕ → Past → List ℕ → Resent → List ℕ → Past → Type 0
ResendsWithin most now number h before results.Written bytes t = (length bytes ≤ most) × Resends now number h before results.Written bytes t
ResendsWithin most now number h before results.TooLarge bytes t =
    (most < length bytes) × ((place : ℕ) × (p : Sent) × IsAt h number place p × (is_too_soon h.interval now p.resent ≡ false) × Repeats h.stream h.next p.bytes bytes) × (t ≡ h)
ResendsWithin most now number h before results.NotKept bytes t = Resends now number h before results.NotKept bytes t
ResendsWithin most now number h before results.TooSoon bytes t = Resends now number h before results.TooSoon bytes t
