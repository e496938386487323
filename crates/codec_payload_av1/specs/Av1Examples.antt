-- AV1 frames and payloads, worked.
use Rattle.std.specs.Prelude.{◌≡◌, [], ◌∷◌, Some, None, true, false, refl}
use Rattle.codec_payload_base.specs.Leb.{leb, leb_at}
use Rattle.codec_payload_av1.specs.Av1Obu.{canonical, obu_at, obus_within, obus_of}
use Rattle.codec_payload_av1.specs.Av1Payload.{written, payload_at, element_at, each_at, counted_at}
use Rattle.codec_payload_av1.specs.Av1Receiving.{taken, received, all_received, unit_of, units_of}

-- a size past the end
pub obus_of-past_end : obus_of (0x0a ∷ 0x05 ∷ 0xaa ∷ []) ≡ None
unfolding leb_at obu_at obus_within obus_of
obus_of-past_end = refl

-- four elements with W = 0; the last continues
pub written-four : written (record { continues = false; goes_on = true; starts = false; elements = (0x28 ∷ 0x11 ∷ []) ∷ (0x28 ∷ 0x22 ∷ []) ∷ (0x28 ∷ 0x33 ∷ []) ∷ (0x28 ∷ []) ∷ [] })
    ≡ (0x40 ∷ 0x02 ∷ 0x28 ∷ 0x11 ∷ 0x02 ∷ 0x28 ∷ 0x22 ∷ 0x02 ∷ 0x28 ∷ 0x33 ∷ 0x01 ∷ 0x28 ∷ [])
unfolding written leb
written-four = refl

-- two OBUs in one packet, whatever was pending
pub all_received-one : all_received (0xff ∷ 0xff ∷ []) ((0x28 ∷ 0x02 ∷ 0x08 ∷ 0xaa ∷ 0x30 ∷ 0xbb ∷ 0xcc ∷ []) ∷ []) ≡ Some ((0x0a ∷ 0x01 ∷ 0xaa ∷ 0x32 ∷ 0x02 ∷ 0xbb ∷ 0xcc ∷ []), [])
unfolding all_received received taken unit_of units_of payload_at element_at each_at counted_at obu_at canonical leb leb_at
all_received-one = refl

-- the same in three packets
pub all_received-three : all_received (0xff ∷ 0xff ∷ []) ((0x18 ∷ 0x08 ∷ 0xaa ∷ []) ∷ (0x50 ∷ 0x30 ∷ 0xbb ∷ []) ∷ (0x90 ∷ 0xcc ∷ []) ∷ []) ≡ Some
    ((0x0a ∷ 0x01 ∷ 0xaa ∷ 0x32 ∷ 0x02 ∷ 0xbb ∷ 0xcc ∷ []), [])
unfolding all_received received taken unit_of units_of payload_at element_at each_at counted_at obu_at canonical leb leb_at
all_received-three = refl

-- the first packet was lost, and with it the beginning of an OBU
pub all_received-orphan : all_received [] ((0x90 ∷ 0xaa ∷ []) ∷ (0x50 ∷ 0x30 ∷ []) ∷ (0xd0 ∷ 0xbb ∷ []) ∷ (0x90 ∷ 0xcc ∷ []) ∷ []) ≡ Some ((0x32 ∷ 0x02 ∷ 0xbb ∷ 0xcc ∷ []), [])
unfolding all_received received taken unit_of units_of payload_at element_at each_at counted_at obu_at canonical leb leb_at
all_received-orphan = refl

-- a length of 0, a length past the end, two OBUs in one element
pub received-zero_length : received [] (0x00 ∷ 0x00 ∷ []) ≡ None
unfolding received taken unit_of units_of payload_at element_at each_at counted_at obu_at canonical leb leb_at
received-zero_length = refl

pub received-past_end : received [] (0x00 ∷ 0x05 ∷ 0x30 ∷ []) ≡ None
unfolding received taken unit_of units_of payload_at element_at each_at counted_at obu_at canonical leb leb_at
received-past_end = refl

pub received-two_obus : received [] (0x10 ∷ 0x0a ∷ 0x00 ∷ 0x0a ∷ 0x00 ∷ []) ≡ None
unfolding received taken unit_of units_of payload_at element_at each_at counted_at obu_at canonical leb leb_at
received-two_obus = refl
