-- A packet that is written again is the packet that was sent.
use Rattle.std.proofs.Common.{◌≡◌, ◌∙◌, refl, ap, ℕ, ◌+◌, ◌-◌, ◌%◌, List, length, Bool, true, false, ltb, Option, Some, None}
use Rattle.codec_payload_base.specs.declared.wire.Codec.{Codec}
use Rattle.codec_payload_base.specs.declared.wire.Codec.TheVariants as codecs
use Rattle.codec_payload_sending_forward.specs.declared.ids.IdOffsets.{IdOffsets}
use Rattle.codec_payload_sending_forward.specs.declared.ids.PayloadIds.{PayloadIds}
use Rattle.codec_payload_sending_forward.specs.Forwarding.{RepeatsWhatWasSent, ids_in, ids_when, offsets_for, sent_packet}
use Rattle.codec_payload_sending_forward.specs.Numbers.{Numbers, above, after_packet, is_too_old, sent_as}
use Rattle.codec_payload_sending_forward.specs.Ids.{Ids, after_picture, after_sent}

-- Numbers

same_sent : (m : Numbers) (number n : ℕ) → sent_as (after_packet number true m) n ≡ sent_as m n
same_sent m number n = by (is_too_old m number) refl (ltb m.highest number) refl
  where
    by : (old : Bool) → is_too_old m number ≡ old → (up : Bool) → ltb m.highest number ≡ up → sent_as (after_packet number true m) n ≡ sent_as m n
    by true e up g = rw e refl
    by false e true g = rw (e, g) refl
    by false e false g = rw (e, g) refl

-- Ids: the offsets of what was sent do not depend on what is sent later

-- the offsets depend on what is added to the ids, and on the pictures that are left out
by_offsets : (codec : Codec) (m t : Ids) (n : ℕ) → t.offsets ≡ m.offsets → t.left_out ≡ m.left_out → offsets_for codec t n ≡ offsets_for codec m n
by_offsets codecs.Vp8 m t n offsets left =
    ap (λ (o : IdOffsets). record o { picture = (o.picture + (65536 - (length t.left_out - above n t.left_out))) % 65536 }) offsets
    ∙ ap (λ (numbers : List ℕ). record m.offsets { picture = (m.offsets.picture + (65536 - (length numbers - above n numbers))) % 65536 }) left
by_offsets codecs.Opus m t n offsets left = offsets
by_offsets codecs.PCMU m t n offsets left = offsets
by_offsets codecs.PCMA m t n offsets left = offsets
by_offsets codecs.G722 m t n offsets left = offsets
by_offsets codecs.CN m t n offsets left = offsets
by_offsets codecs.AmrWb m t n offsets left = offsets
by_offsets codecs.H264 m t n offsets left = offsets
by_offsets codecs.H265 m t n offsets left = offsets
by_offsets codecs.H266 m t n offsets left = offsets
by_offsets codecs.Vp9 m t n offsets left = offsets
by_offsets codecs.Av1 m t n offsets left = offsets
by_offsets codecs.Null m t n offsets left = offsets
by_offsets codecs.Tele m t n offsets left = offsets
by_offsets codecs.Rtx m t n offsets left = offsets
by_offsets codecs.Red m t n offsets left = offsets
by_offsets codecs.Unknown m t n offsets left = offsets

same_sent_offsets : (o : IdOffsets) (sent : Option PayloadIds) (m : Ids) → ((after_sent o sent m).offsets ≡ m.offsets) × ((after_sent o sent m).left_out ≡ m.left_out)
same_sent_offsets o None m = (refl, refl)
same_sent_offsets o (Some ids) m = (refl, refl)

same_late : (codec : Codec) (o : IdOffsets) (sent : Option PayloadIds) (m : Ids) (n : ℕ) → offsets_for codec (after_sent o sent m) n ≡ offsets_for codec m n
same_late codec o sent m n = by_offsets codec m (after_sent o sent m) n (same_sent_offsets o sent m).0 (same_sent_offsets o sent m).1

same_offsets : (codec : Codec) (o : IdOffsets) (sent : Option PayloadIds) (m : Ids) (n : ℕ) → offsets_for codec (after_picture o sent m) n ≡ offsets_for codec m n
same_offsets codec o sent m n =
    let same = same_sent_offsets o sent (record m { leaving = None }) in by_offsets codec m (after_picture o sent m) n same.0 same.1

same_when : (ahead latest : Bool) (codec : Codec) (m : ℕ) (ids : Ids) (other : List ℕ) (n : ℕ) → offsets_for codec (ids_when ahead latest codec m other ids) n ≡ offsets_for codec ids n
same_when true latest codec m ids other n = same_offsets codec (offsets_for codec ids m) (ids_in codec other) ids n
same_when false true codec m ids other n = same_late codec (offsets_for codec ids m) (ids_in codec other) ids n
same_when false false codec m ids other n = refl

pub repeats_what_was_sent : RepeatsWhatWasSent
repeats_what_was_sent f now m n sent p q = (
  same_sent f.numbers m n,
  ap (λ (o : IdOffsets). sent_packet f.settings o sent ((p.header.timestamp + f.times.offset) % 4294967296) p)
      (same_when (ltb f.numbers.highest m) (ltb f.latest m) f.settings.codec m f.ids q.payload n),
)
