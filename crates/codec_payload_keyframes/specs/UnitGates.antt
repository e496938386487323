-- Which units of a stream are passed on: all of them, or those that a decoder can show.
use Rattle.std.specs.Prelude.{◌||◌, ℕ, ◌+◌, ◌%◌, ◌^◌, not, Bool, true, false, List}
use Rattle.codec_payload_base.specs.declared.interface.CodecExtra.{CodecExtra}
use Rattle.codec_payload_base.specs.declared.wire.Codec.{Codec}
use Rattle.codec_payload_base.specs.declared.wire.Codec.TheVariants as codecs
use Rattle.codec_payload_keyframes.specs.Keyframes.{after_loss, after_skip, after_unit, is_key_unit, new_gate, said_of, shows_unit}
use Rattle.codec_payload_keyframes.specs.Vp8Layers.{picture_of}
use Rattle.codec_payload_keyframes.specs.declared.gate.KeyframeGate.{KeyframeGate}
use Rattle.codec_payload_keyframes.specs.declared.references.UnitReferences.{UnitReferences}
use Rattle.codec_payload_keyframes.specs.declared.unit_gate.FromKeyframe.{FromKeyframe}
use Rattle.codec_payload_keyframes.specs.declared.unit_gate.FromKeyframe.TheVariants as modes

-- a gate, as contracts see it; whether units that a decoder cannot show are dropped; whether the unit that came last is a keyframe;
-- and how many units a decoder could not show, modulo 2^64
pub record Gating : Type 0 where
  pub gate : KeyframeGate
  pub drops : Bool
  pub is_keyframe : Bool
  pub undecodable : ℕ

abbrev pub drops_units : FromKeyframe → Bool
drops_units modes.Off = false
drops_units modes.Mark = false
drops_units modes.Drop = true

-- a stream whose frames are not inspected is followed as audio is
abbrev pub followed_codec : FromKeyframe → Codec → Codec
followed_codec modes.Off codec = codecs.Null
followed_codec modes.Mark codec = codec
followed_codec modes.Drop codec = codec

abbrev pub new_gating : Codec → FromKeyframe → Gating
new_gating codec mode = record { gate = new_gate (followed_codec mode codec); drops = drops_units mode; is_keyframe = false; undecodable = 0 }

-- one more unit that a decoder cannot show
abbrev pub undecodable_with : Bool → ℕ → ℕ
undecodable_with true count = count
undecodable_with false count = (count + 1) % 2 ^ 64

-- a decoder can show the unit
abbrev pub is_shown : Gating → List ℕ → Bool → CodecExtra → UnitReferences → Bool
is_shown g bytes contiguous extra references = shows_unit g.gate (is_key_unit g.gate bytes) contiguous (picture_of extra) (said_of extra references)

-- the unit is passed on
abbrev pub is_passed : Gating → List ℕ → Bool → CodecExtra → UnitReferences → Bool
is_passed g bytes contiguous extra references = not g.drops || is_shown g bytes contiguous extra references

abbrev pub with_unit : Gating → List ℕ → Bool → CodecExtra → UnitReferences → Gating
with_unit g bytes contiguous extra references = record {
  gate = after_unit g.gate (is_key_unit g.gate bytes) contiguous (picture_of extra) (said_of extra references);
  drops = g.drops;
  is_keyframe = is_key_unit g.gate bytes;
  undecodable = undecodable_with (is_shown g bytes contiguous extra references) g.undecodable;
}

abbrev pub with_loss : Gating → Gating
with_loss g = record g { gate = after_loss g.gate }

abbrev pub with_skip : Gating → Gating
with_skip g = record g { gate = after_skip g.gate }
