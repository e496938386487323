-- PictureID and TL0PICIDX in the payloads of a viewer's stream (VP8: RFC 7741, section 4.2; VP9: RFC 9628, section 4.2).
use Rattle.std.specs.Prelude.{◌≡◌, ℕ, ◌+◌, ◌-◌, ◌%◌, ◌==◌, ◌||◌, nat_lt, not, if◌then◌else◌, Bool, false, true, List, [], ◌∷◌, length, take, Option, Some, None, option_map}
use Rattle.codec_payload_base.specs.PictureIds.{id_value}
use Rattle.codec_payload_base.specs.declared.picture_id.PictureId.{PictureId}
use Rattle.codec_payload_base.specs.declared.picture_id.PictureId.TheVariants.{Long, Short}
use Rattle.codec_payload_sending_forward.specs.Numbers.{above}
use Rattle.codec_payload_sending_forward.specs.declared.ids.IdOffsets.{IdOffsets}
use Rattle.codec_payload_sending_forward.specs.declared.ids.PayloadIds.{PayloadIds}

-- ---- the ids of a payload

-- a picture id moved by an offset, in its width: modulo 2^7 or 2^15
abbrev pub moved_picture : ℕ → PictureId → PictureId
moved_picture offset (Short n) = Short ((n + offset) % 128)
moved_picture offset (Long n) = Long ((n + offset) % 32768)

abbrev pub moved_tl0 : ℕ → ℕ → ℕ
moved_tl0 offset tl0 = (tl0 + offset) % 256

abbrev pub moved_ids : IdOffsets → PayloadIds → PayloadIds
moved_ids o ids = record { picture_id = option_map (moved_picture o.picture) ids.picture_id; tl0_pic_idx = option_map (moved_tl0 o.tl0) ids.tl0_pic_idx }

-- ---- the map

-- The map: what is added to the ids before all pictures that are left out; the ids of the last picture that was sent; the number of
-- the first packet of each picture that was left out, the highest first; and the id of the source's last picture, if it was left out
pub record Ids : Type 0 where
  pub offsets : IdOffsets
  pub picture : ℕ
  pub tl0 : ℕ
  pub left_out : List ℕ
  pub leaving : Option ℕ

-- no picture was sent
abbrev pub first_ids : Ids
first_ids = record { offsets = record { picture = 0; tl0 = 0 }; picture = 32767; tl0 = 255; left_out = []; leaving = None }

-- what is added to the ids of the packet with that number: a picture id is less by the pictures that were left out before it
abbrev pub offsets_at : Ids → ℕ → IdOffsets
offsets_at m n = record m.offsets { picture = (m.offsets.picture + (65536 - (length m.left_out - above n m.left_out))) % 65536 }

-- the ids of the last picture
abbrev pub or_else : ℕ → Option ℕ → ℕ
or_else old None = old
or_else old (Some new) = new

abbrev pub after_ids : PayloadIds → Ids → Ids
after_ids sent m = record m { picture = or_else m.picture (option_map id_value sent.picture_id); tl0 = or_else m.tl0 sent.tl0_pic_idx }

abbrev pub after_sent : IdOffsets → Option PayloadIds → Ids → Ids
after_sent o None m = m
after_sent o (Some ids) m = after_ids (moved_ids o ids) m

-- a payload with these ids was sent with these offsets
abbrev pub after_picture : IdOffsets → Option PayloadIds → Ids → Ids
after_picture o ids m = after_sent o ids (record m { leaving = None })

-- ---- another source

-- the offsets with which the ids of another source follow the last ones
abbrev pub id_offset : ℕ → Option PictureId → ℕ
id_offset last None = 0
id_offset last (Some id) = ((last + 1) % 65536 + (65536 - id_value id)) % 65536

abbrev pub tl0_offset : ℕ → Option ℕ → ℕ
tl0_offset last None = 0
tl0_offset last (Some tl0) = ((last + 1) % 256 + (256 - tl0)) % 256

abbrev pub offsets_switched : Ids → Option PayloadIds → IdOffsets
offsets_switched m None = m.offsets
offsets_switched m (Some ids) = record { picture = id_offset m.picture ids.picture_id; tl0 = tl0_offset m.tl0 ids.tl0_pic_idx }

abbrev pub switched_ids : Option PayloadIds → Ids → Ids
switched_ids ids m = after_picture (offsets_switched m ids) ids (record m { offsets = offsets_switched m ids; left_out = [] })

-- ---- a picture that is left out

abbrev pub is_that : ℕ → Option ℕ → Bool
is_that id None = false
is_that id (Some other) = other == id

-- above all of these numbers, of which the first is the highest
abbrev pub is_ahead : ℕ → List ℕ → Bool
is_ahead n [] = true
is_ahead n (x ∷ xs) = nat_lt x n

-- the id of the picture, if this is the first of its packets that is left out
abbrev pub id_to_leave : Ids → ℕ → Option ℕ → Option ℕ
id_to_leave m n None = None
id_to_leave m n (Some id) = if is_that id m.leaving || not (is_ahead n m.left_out) then None else Some id

-- of 4,096 pictures the lowest is forgotten
abbrev pub picture_replaced : (n id : ℕ) → Ids → Ids
picture_replaced n id m =
    record m { offsets = record m.offsets { picture = (m.offsets.picture + 65535) % 65536 }; left_out = n ∷ take 4095 m.left_out; leaving = Some id }

-- the picture ids close up from that number on
abbrev pub picture_closed : ℕ → Option ℕ → Ids → Ids
picture_closed n None m = m
picture_closed n (Some id) m =
    if nat_lt (length m.left_out) 4096 then record m { left_out = n ∷ m.left_out; leaving = Some id } else picture_replaced n id m

-- a packet of the picture with this id is left out; the ids stay if none is given
abbrev pub left_picture : ℕ → Option ℕ → Ids → Ids
left_picture n picture m = picture_closed n (id_to_leave m n picture) m
