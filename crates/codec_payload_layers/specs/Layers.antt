-- What a payload says to a server that passes it on.
use Rattle.std.specs.Prelude.{ℕ, ◌/◌, ◌%◌, ◌==◌, ◌&&◌, not, drop, if◌then◌else◌, Bool, true, false, List, [], ◌∷◌, Option, Some, None}
use Rattle.codec_payload_base.specs.Flags.{has_bit}
use Rattle.codec_payload_base.specs.declared.wire.Codec.{Codec}
use Rattle.codec_payload_base.specs.declared.wire.Codec.TheVariants as codecs
use Rattle.codec_payload_vp8.specs.Vp8Keyframe.{is_keyframe}
use Rattle.codec_payload_vp9.specs.Vp9Keyframe.{is_key_payload}
use Rattle.codec_payload_layers.specs.declared.layers.TemporalLayer.{TemporalLayer}

-- ---- a PictureID, and what is behind it

-- VP8 (RFC 7741, section 4.2) and VP9 (RFC 9628, section 4.2): a PictureID, if I is set, has a second byte if its highest bit is set
abbrev pub behind_id : Bool → List ℕ → List ℕ
behind_id false bytes = bytes
behind_id true [] = []
behind_id true (id ∷ bytes) = if has_bit id 7 then drop 1 bytes else bytes

abbrev pub front_of : List ℕ → Option ℕ
front_of [] = None
front_of (byte ∷ bytes) = Some byte

-- ---- whether a keyframe begins

-- VP9: if L is set, an octet of layers is behind the PictureID, with SID in bits 1 to 3
abbrev pub is_lowest_layer : Bool → List ℕ → Bool
is_lowest_layer false bytes = true
is_lowest_layer true [] = false
is_lowest_layer true (layers ∷ bytes) = layers / 2 % 8 == 0

-- P is clear, B is set, and L is clear or SID is 0: an upper spatial layer needs the one below
abbrev pub begins_vp9 : List ℕ → Bool
begins_vp9 [] = false
begins_vp9 (flags ∷ bytes) = is_key_payload (flags ∷ bytes) && (has_bit flags 3 && is_lowest_layer (has_bit flags 5) (behind_id (has_bit flags 7) bytes))

-- AV1: N is set, and Z is clear (RTP payload format for AV1, section 4.4)
abbrev pub begins_av1 : List ℕ → Bool
begins_av1 [] = false
begins_av1 (header ∷ bytes) = has_bit header 3 && not (has_bit header 7)

-- VP8: S is set, PID is 0, and the P bit of the frame is clear. Of other codecs each packet can be decoded without one before
abbrev pub begins_keyframe : Codec → List ℕ → Bool
begins_keyframe codecs.Vp8 payload = is_keyframe payload
begins_keyframe codecs.Vp9 payload = begins_vp9 payload
begins_keyframe codecs.Av1 payload = begins_av1 payload
begins_keyframe codec payload = true

-- ---- temporal layers

-- VP8: TID in bits 6 and 7, Y in bit 5
abbrev pub vp8_layer : Option ℕ → Option TemporalLayer
vp8_layer None = None
vp8_layer (Some octet) = Some (record { id = octet / 64; sync = has_bit octet 5 })

-- TL0PICIDX is there if L is set
abbrev pub behind_tl0 : Bool → List ℕ → List ℕ
behind_tl0 false bytes = bytes
behind_tl0 true bytes = drop 1 bytes

-- X and T are set: the octet is behind the PictureID, if I is set, and TL0PICIDX, if L is set
abbrev pub vp8_layer_behind : (extended : Bool) → List ℕ → Option TemporalLayer
vp8_layer_behind false bytes = None
vp8_layer_behind true [] = None
vp8_layer_behind true (flags ∷ bytes) =
    if has_bit flags 5 then vp8_layer (front_of (behind_tl0 (has_bit flags 6) (behind_id (has_bit flags 7) bytes))) else None

abbrev pub vp8_layer_in : List ℕ → Option TemporalLayer
vp8_layer_in [] = None
vp8_layer_in (first ∷ bytes) = vp8_layer_behind (has_bit first 7) bytes

-- VP9: TID in bits 5 to 7, U in bit 4
abbrev pub vp9_layer : Option ℕ → Option TemporalLayer
vp9_layer None = None
vp9_layer (Some octet) = Some (record { id = octet / 32; sync = has_bit octet 4 })

-- L is set: the octet is behind the PictureID, if I is set
abbrev pub vp9_layer_in : List ℕ → Option TemporalLayer
vp9_layer_in [] = None
vp9_layer_in (flags ∷ bytes) = if has_bit flags 5 then vp9_layer (front_of (behind_id (has_bit flags 7) bytes)) else None

abbrev pub temporal_layer : Codec → List ℕ → Option TemporalLayer
temporal_layer codecs.Vp8 payload = vp8_layer_in payload
temporal_layer codecs.Vp9 payload = vp9_layer_in payload
temporal_layer codec payload = None
