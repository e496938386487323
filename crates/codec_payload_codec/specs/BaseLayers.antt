-- Whether codec-specific data report the picture id of a base layer.
use Rattle.std.specs.Prelude.{ℕ, Bool, true, false, Option, Some, None}
use Rattle.codec_payload_base.specs.declared.interface.CodecExtra.{CodecExtra}
use Rattle.codec_payload_base.specs.declared.interface.CodecExtra.TheVariants as extras

abbrev pub is_absent : Option ℕ → Bool
is_absent None = true
is_absent (Some n) = false

-- the id of the base layer was not reported
abbrev pub lacks_base : CodecExtra → Bool
lacks_base (extras.Vp8 extra) = is_absent extra.tl0_picture_id
lacks_base (extras.Vp9 extra) = is_absent extra.tl0_picture_id
lacks_base extra = true
