-- Picture ids of 15 bits, which packets carry and a depacketizer extends.
use Rattle.std.specs.Prelude.{◌≡◌, ℕ, ◌+◌, ◌-◌, ◌<◌, ◌≤◌, ◌%◌, ◌^◌, Bool, true, false, Option, Some, None, refl}
use Rattle.codec_payload_base.specs.declared.interface.CodecExtra.{CodecExtra}
use Rattle.codec_payload_base.specs.declared.interface.CodecExtra.TheVariants as extras
use Rattle.codec_payload_base.specs.declared.interface.Vp9CodecExtra.{Vp9CodecExtra}
use Rattle.codec_payload_base.specs.declared.interface.Vp9PacketizerMode.{Vp9PacketizerMode}
use Rattle.codec_payload_base.specs.declared.interface.Vp9PacketizerMode.TheVariants.{Flexible, NonFlexible}
use Rattle.codec_payload_codec.specs.BaseLayers.{lacks_base}
use Rattle.codec_payload_codec.specs.Depacketizers.{DepacketizerState, Vp9Depacketizing}
use Rattle.codec_payload_codec.specs.Packetizers.{PacketizerState, Vp9Packetizing}

-- the picture id that was read last, as it was carried, and extended
pub record ReadId : Type 0 where
  pub raw : ℕ
  pub extended : ℕ

-- how far an id lies ahead of another, round the circle of 15 bits
abbrev pub ahead : ℕ → ℕ → ℕ
ahead raw id = (id + 32768 - raw % 32768) % 32768

-- the extension of an id that is read: the id itself, if none was read before; if it is at most half the circle ahead of one of 15
-- bits, the previous one plus the distance
abbrev pub IsNextId : Option ReadId → ℕ → ℕ → Type 0
IsNextId None id next = next ≡ id
IsNextId (Some r) id next = r.raw < 32768 → ahead r.raw id ≤ 16384 → next ≡ (r.extended + ahead r.raw id) % 2 ^ 64

-- the id that was read last, by the state of a depacketizer: the extended one, if one was read, and the bits of the last
abbrev pub read_last : Option ℕ → ℕ → Option ReadId
read_last None raw = None
read_last (Some extended) raw = Some (record { raw = raw; extended = extended })

-- a VP9 frame of the base layer, whose packets carry that picture id, was reassembled: both ids were reported. The ids read before,
-- the codec-specific data, and the ids read last then
pub record TellsPicture (id : ℕ) (before : Option ReadId) (extra : CodecExtra) (after : Option ReadId) : Type 0 where
  pub told : Vp9CodecExtra
  pub is : extra ≡ extras.Vp9 told
  pub picture : ℕ
  pub base : ℕ
  pub has_picture : told.picture_id ≡ Some picture
  pub has_base : told.tl0_picture_id ≡ Some base
  pub base_layer : told.tid ≡ Some 0
  pub next : IsNextId before id picture
  pub read : after ≡ Some (record { raw = id; extended = picture })

-- the same for any unit: a unit whose packets do not carry both ids reports none of the base layer
abbrev pub Tells : Option ℕ → Option ReadId → CodecExtra → Option ReadId → Type 0
Tells None before extra after = lacks_base extra ≡ true
Tells (Some id) before extra after = TellsPicture id before extra after

-- the id that a depacketizer read last, if it extends the ids of frames with both
abbrev pub read_by : DepacketizerState → Option ReadId
read_by (Vp9Depacketizing d) = read_last d.extended_pid d.picture_id
read_by depacketizer = None

-- frames of the non-flexible mode of VP9 carry both ids
abbrev pub id_in : Vp9PacketizerMode → ℕ → Option ℕ
id_in NonFlexible id = Some id
id_in Flexible id = None

-- the id of the next unit, if units carry both ids
abbrev pub next_id : PacketizerState → Option ℕ
next_id (Vp9Packetizing sender) = id_in sender.mode sender.picture_id
next_id packetizer = None

-- the id of the unit that comes m units later
abbrev pub id_later : Option ℕ → ℕ → Option ℕ
id_later None m = None
id_later (Some id) m = Some ((id + m) % 32768)

-- the circle continues from its end
pub ahead-round : ahead 32767 3 ≡ 4
ahead-round = refl

pub id_later-round : id_later (Some 32766) 3 ≡ Some 1
id_later-round = refl
