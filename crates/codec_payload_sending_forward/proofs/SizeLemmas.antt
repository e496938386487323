-- How many bytes a packet has that is written for a viewer.
use Rattle.std.proofs.Common.{◌≡◌, ◌∙◌, ap, refl, ℕ, zero, suc, ◌+◌, ◌%◌, ◌≤◌, List, [], ◌∷◌, ◌++◌, length, replicate, Bool, Option, Some, None, Result, Ok, Err, arith}
use Rattle.std.specs.Prelude.{IfOk, OnOk}
use Rattle.std.proofs.lemmas.List.{length-append, length-replicate, length-set}
use Rattle.std.specs.declared.alloc.AllocError.{AllocError}
use Rattle.codec_payload_base.specs.declared.wire.Codec.{Codec}
use Rattle.codec_payload_base.specs.declared.wire.Codec.TheVariants as codecs
use Rattle.codec_payload_rtp.specs.RtpPackets.{Header, Packet, header_bytes, is_padded, packet_bytes, padding_bytes}
use Rattle.codec_payload_vp8.specs.Vp8Patch.{Patch, patched, written}
use Rattle.codec_payload_sending_forward.specs.declared.forwarder.ForwardSettings.{ForwardSettings}
use Rattle.codec_payload_sending_forward.specs.declared.ids.IdOffsets.{IdOffsets}
use Rattle.codec_payload_sending_forward.specs.declared.forwarder.Forwarded.{Forwarded}
use Rattle.codec_payload_sending_forward.specs.declared.forwarder.Forwarded.TheVariants as answers
use Rattle.codec_payload_sending_forward.specs.Forwarding.{Forward, Forwards, IsWritten, forwarded_size, ids_in, number_in, offsets_for, packet_under, payload_for, sent_packet, ticks_between}
use Rattle.codec_payload_sending_forward.specs.Ids.{offsets_switched}
use Rattle.codec_payload_sending_forward.specs.Numbers.{next_number}
use Rattle.codec_payload_sending_forward.specs.Times.{time_as}
use Rattle.codec_payload_sending_forward.specs.Vp8Numbers.{patch_in, patched_by, payload_as}
use Rattle.codec_payload_sending_forward.proofs.Vp9Lemmas.{length_vp9_payload}

-- A patch keeps the number of bytes

length_written : (place : Option (ℕ × ℕ)) (bytes : List ℕ) → length (written place bytes) ≡ length bytes
length_written None bytes = refl
length_written (Some place) bytes = length-set bytes place.0 place.1

length_patched : (p : Patch) (bytes : List ℕ) → length (patched p bytes) ≡ length bytes
length_patched p bytes =
    length_written p.key_idx (written p.tl0_pic_idx (written p.picture_id_low (written p.picture_id bytes)))
    ∙ length_written p.tl0_pic_idx (written p.picture_id_low (written p.picture_id bytes))
    ∙ length_written p.picture_id_low (written p.picture_id bytes)
    ∙ length_written p.picture_id bytes

length_patched_by : (patch : Option Patch) (payload : List ℕ) → length (patched_by patch payload) ≡ length payload
length_patched_by None payload = refl
length_patched_by (Some p) payload = length_patched p payload

pub length_payload : (offsets : IdOffsets) (payload : List ℕ) → length (payload_as offsets payload) ≡ length payload
length_payload offsets payload = length_patched_by (patch_in offsets payload) payload

pub length_payload_for : (codec : Codec) (offsets : IdOffsets) (payload : List ℕ) → length (payload_for codec offsets payload) ≡ length payload
length_payload_for codecs.Vp8 offsets payload = length_payload offsets payload
length_payload_for codecs.Opus offsets payload = refl
length_payload_for codecs.PCMU offsets payload = refl
length_payload_for codecs.PCMA offsets payload = refl
length_payload_for codecs.G722 offsets payload = refl
length_payload_for codecs.CN offsets payload = refl
length_payload_for codecs.AmrWb offsets payload = refl
length_payload_for codecs.H264 offsets payload = refl
length_payload_for codecs.H265 offsets payload = refl
length_payload_for codecs.H266 offsets payload = refl
length_payload_for codecs.Vp9 offsets payload = length_vp9_payload offsets payload
length_payload_for codecs.Av1 offsets payload = refl
length_payload_for codecs.Null offsets payload = refl
length_payload_for codecs.Tele offsets payload = refl
length_payload_for codecs.Rtx offsets payload = refl
length_payload_for codecs.Red offsets payload = refl
length_payload_for codecs.Unknown offsets payload = refl

-- A header without CSRCs and extension has 12 bytes

length_padding : (n : ℕ) → length (padding_bytes n) ≡ n
length_padding zero = refl
length_padding (suc n) = length-append (replicate n 0) (suc n ∷ []) ∙ omega (arith, length-replicate {A = ℕ} n 0)

pub length_header : (padded marker : Bool) (payload_type number time ssrc : ℕ)
    → length (header_bytes padded (record { marker = marker; payload_type = payload_type; sequence_number = number; timestamp = time; ssrc = ssrc; csrcs = []; extension = None })) ≡ 12
length_header padded marker payload_type number time ssrc = refl

pub length_under : (s : ForwardSettings) (number time : ℕ) (p : Packet) → length (packet_bytes (packet_under s number time p)) ≡ forwarded_size p
length_under s number time p =
    let header : Header = (packet_under s number time p).header in
    let whole : length (packet_bytes (packet_under s number time p)) ≡ length (header_bytes (is_padded p) header) + length (p.payload ++ padding_bytes p.padding) =
    length-append (header_bytes (is_padded p) header) (p.payload ++ padding_bytes p.padding) in
    let head : length (header_bytes (is_padded p) header) ≡ 12 = length_header (is_padded p) p.header.marker s.payload_type number time s.ssrc in
    let rest : length (p.payload ++ padding_bytes p.padding) ≡ length p.payload + length (padding_bytes p.padding) = length-append p.payload (padding_bytes p.padding) in
    let padding : length (padding_bytes p.padding) ≡ p.padding = length_padding p.padding in
    omega (arith, whole, head, rest, padding)

pub length_sent : (s : ForwardSettings) (offsets : IdOffsets) (number time : ℕ) (p : Packet) → length (packet_bytes (sent_packet s offsets number time p)) ≡ forwarded_size p
length_sent s offsets number time p =
    let under : length (packet_bytes (sent_packet s offsets number time p)) ≡ 12 + length (payload_for s.codec offsets p.payload) + p.padding =
    length_under s number time (record p { payload = payload_for s.codec offsets p.payload }) in
    let same : length (payload_for s.codec offsets p.payload) ≡ length p.payload = length_payload_for s.codec offsets p.payload in
    omega (arith, under, same)

-- ---- written again

pub on_written : {T : Type 0} (r : Result T AllocError) (s : ForwardSettings) (offsets : IdOffsets) (number time : ℕ) (p : Packet) (bytes : List ℕ)
    → OnOk r (IsWritten (sent_packet s offsets number time p) bytes) → OnOk r (length bytes ≡ forwarded_size p)
on_written (Ok x) s offsets number time p bytes h = ap length h.0 ∙ length_sent s offsets number time p
on_written (Err e) s offsets number time p bytes h = tt

-- ---- a packet that is forwarded

written_length : (s : ForwardSettings) (offsets : IdOffsets) (number time : ℕ) (p : Packet) (bytes : List ℕ) → IsWritten (sent_packet s offsets number time p) bytes
    → length bytes ≤ forwarded_size p
written_length s offsets number time p bytes is = omega (arith, ap length is.0 ∙ length_sent s offsets number time p)

forwarded_length : (now : ℕ) (p : Packet) (f : Forward) (answer : Forwarded) (bytes : List ℕ) (t : Forward) → Forwards now p f answer bytes t → length bytes ≤ forwarded_size p
forwarded_length now p f answers.Began bytes t does =
    written_length f.settings (offsets_switched f.ids (ids_in f.settings.codec p.payload)) (next_number f.numbers) ((f.times.highest + ticks_between f.written_at now) % 4294967296) p bytes does.3
forwarded_length now p f answers.Written bytes t does =
    written_length f.settings (offsets_for f.settings.codec f.ids (number_in f p)) does.1.0 (time_as f.times p.header.timestamp) p bytes does.1.2
forwarded_length now p f answers.NoKeyframe bytes t does = omega (arith, ap length does.3.0)
forwarded_length now p f answers.OtherSource bytes t does = omega (arith, ap length does.2.0)
forwarded_length now p f answers.TooOld bytes t does = omega (arith, ap length does.2.0)
forwarded_length now p f answers.LeftOut bytes t does = omega (arith, ap length does.2.0)
forwarded_length now p f answers.Filled bytes t does = absurd does

pub on_forwarded : (now : ℕ) (p : Packet) (f : Forward) (r : Result Forwarded AllocError) (bytes : List ℕ) (t : Forward)
    → IfOk r (λ answer. Forwards now p f answer bytes t) → OnOk r (length bytes ≤ forwarded_size p)
on_forwarded now p f (Ok answer) bytes t does = forwarded_length now p f answer bytes t does
on_forwarded now p f (Err error) bytes t does = tt
