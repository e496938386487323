-- What a forwarder does with a packet.
use Rattle.std.specs.Prelude.{◌≡◌, ◌<◌, ◌⊎◌, ℕ, ◌+◌, ◌-◌, ◌%◌, ◌≤◌, ◌==◌, max, min, nat_lt, not, if◌then◌else◌, Bool, true, false, List, [], ◌∷◌, ◌++◌, length, Option, Some, None, is_some, option_map, Result, Ok, Err}
use Rattle.std.specs.Int.{w16, to_be_bytes}
use Rattle.codec_payload_base.specs.Extended.{nearest}
use Rattle.codec_payload_base.specs.PictureIds.{id_value}
use Rattle.codec_payload_base.specs.declared.wire.Codec.{Codec}
use Rattle.codec_payload_base.specs.declared.wire.Codec.TheVariants as codecs
use Rattle.codec_payload_sending_history.specs.Histories.{HasNot, IsKept, first_of}
use Rattle.codec_payload_sending_history.specs.Packets.{Past, stream_fits}
use Rattle.codec_payload_sending_history.specs.declared.retransmission.RetransmissionStream.{RetransmissionStream}
use Rattle.codec_payload_rtp.specs.RtpPackets.{Packet, packet_bytes}
use Rattle.codec_payload_rtp.specs.RtpReading.{rtp_at}
use Rattle.codec_payload_layers.specs.Layers.{begins_keyframe}
use Rattle.codec_payload_sending_forward.specs.declared.forwarder.ForwardError.{ForwardError}
use Rattle.codec_payload_sending_forward.specs.declared.forwarder.ForwardError.TheVariants as errors
use Rattle.codec_payload_sending_forward.specs.declared.forwarder.ForwardSettings.{ForwardSettings}
use Rattle.codec_payload_sending_forward.specs.declared.forwarder.Forwarded.{Forwarded}
use Rattle.codec_payload_sending_forward.specs.declared.forwarder.Forwarded.TheVariants as answers
use Rattle.codec_payload_sending_forward.specs.declared.renumbering.Placed.TheVariants as places
use Rattle.codec_payload_sending_forward.specs.declared.times.Retiming.{Retiming}
use Rattle.codec_payload_sending_forward.specs.Numbers.{HasNumber, Numbers, after_packet, begun, next_number, placed, sent_as}
use Rattle.codec_payload_sending_forward.specs.declared.ids.IdOffsets.{IdOffsets}
use Rattle.codec_payload_sending_forward.specs.declared.ids.PayloadIds.{PayloadIds}
use Rattle.codec_payload_sending_forward.specs.Ids.{Ids, after_picture, after_sent, first_ids, left_picture, offsets_at, offsets_switched, switched_ids}
use Rattle.codec_payload_sending_forward.specs.Vp8Numbers.{payload_as, vp8_ids}
use Rattle.codec_payload_sending_forward.specs.Vp9Numbers.{vp9_ids, vp9_payload_as}
use Rattle.codec_payload_sending_forward.specs.Times.{after_time, begun_times, switched_times, time_as}

-- a forwarder: its settings; the source that is forwarded, and the one to go over to; the maps of numbers, times and ids; the
-- number of the next retransmission; when the packet with the highest number was written; and the highest number of the source that was
-- sent, above which packets may have been left out
pub record Forward : Type 0 where
  pub settings : ForwardSettings
  pub source : Option ℕ
  pub wanted : Option ℕ
  pub numbers : Numbers
  pub times : Retiming
  pub ids : Ids
  pub next : ℕ
  pub written_at : Option ℕ
  pub latest : ℕ

abbrev pub codec_fits : Codec → Bool
codec_fits codecs.H264 = false
codec_fits codecs.H265 = false
codec_fits codecs.H266 = false
codec_fits codec = true

-- a forwarder that wants no source, or the first setting that is out of range
abbrev pub forward_by : ForwardSettings → Result Forward ForwardError
forward_by s =
    if nat_lt 127 s.payload_type then Err errors.PayloadType
    else if not (stream_fits s.retransmissions) then Err errors.RetransmissionType
    else if not (codec_fits s.codec) then Err errors.Codec
    else Ok (record { settings = s; source = None; wanted = None; numbers = begun 0 ((s.first_number + 65535) % 65536); times = begun_times 0 s.first_time; ids = first_ids; next = first_of s.retransmissions; written_at = None; latest = 0 })

abbrev pub is_source : Option ℕ → ℕ → Bool
is_source None ssrc = false
is_source (Some source) ssrc = source == ssrc

-- ---- what is written

-- the payload of VP8 or VP9 with the ids of the viewer's stream; other payloads as they are
abbrev pub payload_for : Codec → IdOffsets → List ℕ → List ℕ
payload_for codecs.Vp8 offsets payload = payload_as offsets payload
payload_for codecs.Vp9 offsets payload = vp9_payload_as offsets payload
payload_for codec offsets payload = payload

-- the ids in a payload
abbrev pub ids_in : Codec → List ℕ → Option PayloadIds
ids_in codecs.Vp8 payload = vp8_ids payload
ids_in codecs.Vp9 payload = vp9_ids payload
ids_in codec payload = None

-- the id of a picture behind which picture ids close up if it is left out: those of VP8. The ids of VP9 keep their gaps, since a
-- difference of the flexible mode counts ids, and a group of pictures names a picture by its id (RFC 9628, section 4.2)
abbrev pub picture_of : Option PayloadIds → Option ℕ
picture_of None = None
picture_of (Some ids) = option_map id_value ids.picture_id

abbrev pub closing_id : Codec → List ℕ → Option ℕ
closing_id codecs.Vp8 payload = picture_of (vp8_ids payload)
closing_id codec payload = None

-- the packet received, with the viewer's SSRC and payload type, this number and this time, without CSRCs and extension
abbrev pub packet_under : ForwardSettings → (number time : ℕ) → Packet → Packet
packet_under s number time p = record {
  header = record { marker = p.header.marker; payload_type = s.payload_type; sequence_number = number; timestamp = time; ssrc = s.ssrc; csrcs = []; extension = None };
  payload = p.payload;
  padding = p.padding;
}

-- the same, with the payload for the viewer
abbrev pub sent_packet : ForwardSettings → IdOffsets → (number time : ℕ) → Packet → Packet
sent_packet s offsets number time p = packet_under s number time (record p { payload = payload_for s.codec offsets p.payload })

-- the number of a packet of the source, extended
abbrev pub number_in : Forward → Packet → ℕ
number_in f p = nearest 65536 f.numbers.highest p.header.sequence_number

-- by how many ticks the time goes on at a switch
abbrev pub ticks_between : Option ℕ → ℕ → ℕ
ticks_between None now = 0
ticks_between (Some last) now = min (max (now - last) 1) 2147483647

-- what is added to the ids of the packet with that number: those of VP8 close up behind pictures that are left out, and those of VP9
-- keep the offsets of the last switch
abbrev pub offsets_for : Codec → Ids → ℕ → IdOffsets
offsets_for codecs.Vp8 ids n = offsets_at ids n
offsets_for codec ids n = ids.offsets

-- the packet with the number `n` of the source that is forwarded, as it is sent
abbrev pub packet_for : Forward → (n sent : ℕ) → Packet → Packet
packet_for f n sent p = sent_packet f.settings (offsets_for f.settings.codec f.ids n) sent (time_as f.times p.header.timestamp) p

abbrev pub next_packet : Forward → ℕ → Packet → Packet
next_packet f sent p = packet_for f (number_in f p) sent p

-- the map of ids after a packet, after one that is left out, and after a switch
abbrev pub ids_after : Codec → ℕ → List ℕ → Ids → Ids
ids_after codec n payload ids = after_picture (offsets_for codec ids n) (ids_in codec payload) ids

abbrev pub ids_left : Codec → ℕ → List ℕ → Ids → Ids
ids_left codec n payload ids = left_picture n (closing_id codec payload) ids

abbrev pub ids_switched : Codec → List ℕ → Ids → Ids
ids_switched codec payload ids = switched_ids (ids_in codec payload) ids

-- the first packet of another source: the number and the ids go on by one, the time by the ticks that passed
abbrev pub first_packet : ℕ → Forward → Packet → Packet
first_packet now f p = sent_packet f.settings (offsets_switched f.ids (ids_in f.settings.codec p.payload)) (next_number f.numbers) ((f.times.highest + ticks_between f.written_at now) % 4294967296) p

-- ---- the forwarder after it

abbrev pub written_when : Bool → ℕ → Option ℕ → Option ℕ
written_when ahead now last = if ahead then Some now else last

-- Below a packet that was left out a packet may still be the latest one that is sent: its ids are the last ones, and the picture that
-- was left out stays so
abbrev pub ids_late : (latest : Bool) → Codec → ℕ → List ℕ → Ids → Ids
ids_late latest codec n payload ids = if latest then after_sent (offsets_for codec ids n) (ids_in codec payload) ids else ids

abbrev pub ids_when : (ahead latest : Bool) → Codec → ℕ → List ℕ → Ids → Ids
ids_when ahead latest codec n payload ids = if ahead then ids_after codec n payload ids else ids_late latest codec n payload ids

-- a packet was written under its number
abbrev pub after_written : (now number : ℕ) → Packet → Forward → Forward
after_written now number p f = record f {
  numbers = after_packet number true f.numbers;
  times = after_time p.header.timestamp f.times;
  ids = ids_when (nat_lt f.numbers.highest number) (nat_lt f.latest number) f.settings.codec number p.payload f.ids;
  written_at = written_when (nat_lt f.numbers.highest number) now f.written_at;
  latest = max f.latest number;
}

abbrev pub after_next : ℕ → Packet → Forward → Forward
after_next now p f = after_written now (number_in f p) p f

abbrev pub after_begin : ℕ → Packet → Forward → Forward
after_begin now p f = record f {
  source = Some p.header.ssrc;
  numbers = begun (65536 + p.header.sequence_number) (next_number f.numbers);
  times = switched_times p.header.timestamp (ticks_between f.written_at now) f.times;
  ids = ids_switched f.settings.codec p.payload f.ids;
  written_at = Some now;
  latest = 65536 + p.header.sequence_number;
}

-- nothing is written
abbrev pub IsLeft : Forward → List ℕ → Forward → Type 0
IsLeft f bytes t = (bytes ≡ []) × (t ≡ f)

-- the bytes are that packet, and are read as it
abbrev pub IsWritten : Packet → List ℕ → Type 0
IsWritten p bytes = (bytes ≡ packet_bytes p) × (rtp_at bytes ≡ Ok p)

-- What is done with a packet: the answer, the bytes written, and the forwarder after it
abbrev pub Forwards : ℕ → Packet → Forward → Forwarded → List ℕ → Forward → Type 0
Forwards now p f answers.Began bytes t =
    (is_source f.source p.header.ssrc ≡ false) × (is_source f.wanted p.header.ssrc ≡ true) × (begins_keyframe f.settings.codec p.payload ≡ true)
    × IsWritten (first_packet now f p) bytes × (t ≡ after_begin now p f)
Forwards now p f answers.Written bytes t =
    (is_source f.source p.header.ssrc ≡ true)
    × ((sent : ℕ) × (placed f.numbers (number_in f p) true ≡ places.Sent sent) × IsWritten (next_packet f sent p) bytes)
    × (t ≡ after_next now p f)
Forwards now p f answers.NoKeyframe bytes t =
    (is_source f.source p.header.ssrc ≡ false) × (is_source f.wanted p.header.ssrc ≡ true) × (begins_keyframe f.settings.codec p.payload ≡ false) × IsLeft f bytes t
Forwards now p f answers.OtherSource bytes t = (is_source f.source p.header.ssrc ≡ false) × (is_source f.wanted p.header.ssrc ≡ false) × IsLeft f bytes t
Forwards now p f answers.TooOld bytes t = (is_source f.source p.header.ssrc ≡ true) × (placed f.numbers (number_in f p) true ≡ places.TooOld) × IsLeft f bytes t
Forwards now p f answers.LeftOut bytes t = (is_source f.source p.header.ssrc ≡ true) × (placed f.numbers (number_in f p) true ≡ places.LeftOut) × IsLeft f bytes t
Forwards now p f answers.Filled bytes t = ⊥

-- a packet of padding alone, under the number and the time of a packet
abbrev pub padding_packet : Forward → ℕ → Packet → Packet
padding_packet f sent p = packet_under f.settings sent (time_as f.times p.header.timestamp) (record p { payload = []; padding = 1 })

-- What is done with a packet that is left out: above all others it takes no number, and VP8's picture ids close up too; if it comes
-- late, its number is filled
abbrev pub Leaves : Packet → Forward → Forwarded → List ℕ → Forward → Type 0
Leaves p f answers.LeftOut bytes t =
    (is_source f.source p.header.ssrc ≡ true) × (bytes ≡ [])
    × (((placed f.numbers (number_in f p) true ≡ places.LeftOut) × (t ≡ f))
    ⊎ ((f.numbers.highest < number_in f p) × (t ≡ record f { numbers = after_packet (number_in f p) false f.numbers; ids = ids_left f.settings.codec (number_in f p) p.payload f.ids })))
Leaves p f answers.Filled bytes t =
    (is_source f.source p.header.ssrc ≡ true) × (number_in f p ≤ f.numbers.highest)
    × ((sent : ℕ) × (placed f.numbers (number_in f p) true ≡ places.Sent sent) × IsWritten (padding_packet f sent p) bytes) × (t ≡ f)
Leaves p f answers.OtherSource bytes t = (is_source f.source p.header.ssrc ≡ false) × IsLeft f bytes t
Leaves p f answers.TooOld bytes t = (is_source f.source p.header.ssrc ≡ true) × (placed f.numbers (number_in f p) true ≡ places.TooOld) × IsLeft f bytes t
Leaves p f answers.Began bytes t = ⊥
Leaves p f answers.Written bytes t = ⊥
Leaves p f answers.NoKeyframe bytes t = ⊥

-- ---- what was sent

-- the source's packet with that number is sent under that number of the viewer's stream
abbrev pub IsNumberOf : Forward → (number n low : ℕ) → Type 0
IsNumberOf f number n low = (is_some f.source ≡ true) × HasNumber f.numbers number n × (low ≡ n % 65536)

-- a packet as a retransmission (RFC 4588, section 4): under the SSRC, the payload type and the next number of the stream, with its own
-- number in front of the payload, without padding
abbrev pub wrapped : RetransmissionStream → ℕ → Packet → Packet
wrapped stream next p = record {
  header = record p.header { payload_type = stream.payload_type; sequence_number = next; ssrc = stream.ssrc };
  payload = to_be_bytes w16 p.header.sequence_number ++ p.payload;
  padding = 0;
}

-- a packet that was sent is written again: as it was, or as a retransmission
abbrev pub IsResentBy : Option RetransmissionStream → Packet → Forward → List ℕ → Forward → Type 0
IsResentBy None p f bytes t = IsWritten p bytes × (t ≡ f)
IsResentBy (Some stream) p f bytes t = (rtp_at bytes ≡ Ok (wrapped stream f.next p)) × (t ≡ record f { next = (f.next + 1) % 65536 })

abbrev pub IsResent : Packet → Forward → List ℕ → Forward → Type 0
IsResent p f bytes t = IsResentBy f.settings.retransmissions p f bytes t

-- a packet of the source that has a number, not above the highest one, is written again; nothing is done with any other packet
abbrev pub Repeats : Packet → Forward → Bool → List ℕ → Forward → Type 0
Repeats p f true bytes t =
    (is_source f.source p.header.ssrc ≡ true) × (number_in f p ≤ f.numbers.highest)
    × ((sent : ℕ) × (placed f.numbers (number_in f p) true ≡ places.Sent sent) × IsResent (next_packet f sent p) f bytes t)
Repeats p f false bytes t =
    (bytes ≡ []) × (t ≡ f)
    × ((sent : ℕ) → is_source f.source p.header.ssrc ≡ true → number_in f p ≤ f.numbers.highest → placed f.numbers (number_in f p) true ≡ places.Sent sent → ⊥)

-- the packet of the source in the store that was sent, or is to be sent, under that number
abbrev pub IsRequested : Forward → Past → ℕ → Packet → Type 0
IsRequested f store number p =
    (is_source f.source p.header.ssrc ≡ true)
    × ((n low : ℕ) × IsNumberOf f number n low × ((datagram : List ℕ) × IsKept store low datagram × (rtp_at datagram ≡ Ok p)))

-- The store has no packet for that number: no packet was sent under it, or the store does not have the packet, or has one of another
-- source
abbrev pub IsNotRequested : Forward → Past → ℕ → Type 0
IsNotRequested f store number =
    ((n low : ℕ) → IsNumberOf f number n low → ⊥)
    ⊎ ((n low : ℕ) × IsNumberOf f number n low × HasNot store low)
    ⊎ ((n low : ℕ) × IsNumberOf f number n low
    × ((datagram : List ℕ) × (p : Packet) × IsKept store low datagram × (rtp_at datagram ≡ Ok p) × (is_source f.source p.header.ssrc ≡ false)))

-- how many bytes a packet has without CSRCs and extension, and how many it has when it is written again
abbrev pub forwarded_size : Packet → ℕ
forwarded_size p = 12 + length p.payload + p.padding

abbrev pub size_again_by : Option RetransmissionStream → Packet → ℕ
size_again_by None p = forwarded_size p
size_again_by (Some stream) p = 14 + length p.payload

abbrev pub size_again : Forward → Packet → ℕ
size_again f p = size_again_by f.settings.retransmissions p

-- the time of the viewer's stream for a time of the source
abbrev pub time_for : Forward → (ssrc time : ℕ) → Option ℕ
time_for f ssrc time = if is_source f.source ssrc then Some (time_as f.times time) else None

-- ---- over several calls

-- what is written for a packet under its number stays the same while other packets are written
abbrev pub RepeatsWhatWasSent : Type 0
RepeatsWhatWasSent =
    (f : Forward) (now m n sent : ℕ) (p q : Packet)
    → (sent_as (after_written now m q f).numbers n ≡ sent_as f.numbers n) × (packet_for (after_written now m q f) n sent p ≡ packet_for f n sent p)
