-- What a payload says to a server that passes it on.
use Rattle.std.specs.Prelude.{◌≡◌, ℕ, Option, Some, None}
use Rattle.codec_payload_layers.specs.declared.layers.TemporalLayer.{TemporalLayer}
use Rattle.codec_payload_c.specs.declared.layers.TemporalLayerInfo.{TemporalLayerInfo}

-- the layer, if the payload names one; otherwise status 32
abbrev pub TellsLayerOf : Option TemporalLayer → ℕ → (before after : TemporalLayerInfo) → Type 0
TellsLayerOf None status before after = (status ≡ 32) × (after ≡ before)
TellsLayerOf (Some layer) status before after = (status ≡ 0) × (after ≡ record { id = layer.id; sync = layer.sync })
