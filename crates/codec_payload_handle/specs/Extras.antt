-- The codec-specific data of payloads, for C.
use Rattle.std.specs.Prelude.{ℕ, true, false, List, [], ◌∷◌, Option, Some, None, is_some}
use Rattle.codec_payload_core.specs.declared.interface.CodecExtra.{CodecExtra}
use Rattle.codec_payload_core.specs.declared.interface.CodecExtra.TheVariants as extras
use Rattle.codec_payload_core.specs.declared.interface.TelephoneEvent.{TelephoneEvent}
use Rattle.codec_payload_handle.specs.declared.extra.Extra.{Extra}
use Rattle.codec_payload_handle.specs.declared.extra.TeleEvent.{TeleEvent}
use Rattle.codec_payload_handle.specs.declared.extra.Vp9Layer.{Vp9Layer}

-- a number, or 0 if it is missing
abbrev pub or_zero : Option ℕ → ℕ
or_zero None = 0
or_zero (Some n) = n

abbrev pub event_told : TelephoneEvent → TeleEvent
event_told e = record { duration = e.duration; event = e.event; volume = e.volume; end = e.end }

abbrev pub layer_told : Option ℕ → Option ℕ → Option ℕ → Vp9Layer
layer_told end width height = record {
  end = or_zero end;
  width = or_zero width;
  height = or_zero height;
  has_end = is_some end;
  has_width = is_some width;
  has_height = is_some height;
}

-- layer by layer
abbrev pub layers_told : List (Option ℕ) → List (Option ℕ) → List (Option ℕ) → List Vp9Layer
layers_told (e ∷ es) (w ∷ ws) (h ∷ hs) = layer_told e w h ∷ layers_told es ws hs
layers_told es ws hs = []

abbrev pub nothing_told : Extra
nothing_told = record {
  picture_id = 0;
  tl0_picture_id = 0;
  kind = 0;
  has_picture_id = false;
  has_tl0_picture_id = false;
  has_temporal_layer = false;
  temporal_layer = 0;
  is_keyframe = false;
  discardable = false;
  sync = false;
  event = record { duration = 0; event = 0; volume = 0; end = false };
  layers = layer_told None None None ∷ layer_told None None None ∷ layer_told None None None ∷ [];
}

abbrev pub extra_told : CodecExtra → Extra
extra_told extras.None = nothing_told
extra_told (extras.Vp8 x) = record nothing_told {
  picture_id = or_zero x.picture_id;
  tl0_picture_id = or_zero x.tl0_picture_id;
  kind = 1;
  has_picture_id = is_some x.picture_id;
  has_tl0_picture_id = is_some x.tl0_picture_id;
  has_temporal_layer = true;
  temporal_layer = x.layer_index;
  is_keyframe = x.is_keyframe;
  discardable = x.discardable;
  sync = x.sync;
}
extra_told (extras.Vp9 x) = record nothing_told {
  picture_id = or_zero x.picture_id;
  tl0_picture_id = or_zero x.tl0_picture_id;
  kind = 2;
  has_picture_id = is_some x.picture_id;
  has_tl0_picture_id = is_some x.tl0_picture_id;
  has_temporal_layer = is_some x.tid;
  temporal_layer = or_zero x.tid;
  is_keyframe = x.is_keyframe;
  layers = layers_told x.layers_scheme x.layers_widths x.layers_heights;
}
extra_told (extras.Av1 x) = record nothing_told { kind = 3; is_keyframe = x.is_keyframe }
extra_told (extras.Tele e) = record nothing_told { kind = 4; event = event_told e }
