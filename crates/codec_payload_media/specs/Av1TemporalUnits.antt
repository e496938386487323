-- Temporal units as far as their first frame header (AV1 bitstream specification, sections 5.3, 5.9.2 and 7.5).
use Rattle.std.specs.Prelude.{ℕ, ◌==◌, ◌&&◌, ◌||◌, not, Bool, true, false, List, [], ◌∷◌, if◌then◌else◌, Option, Some, None, is_some, Result, Ok, Err}
use Rattle.codec_payload_base.specs.Bits.{bits_of}
use Rattle.codec_payload_vpx.specs.declared.error.MediaError.{MediaError}
use Rattle.codec_payload_media.specs.declared.av1.obu.Av1Extension.{Av1Extension}
use Rattle.codec_payload_media.specs.declared.av1.sequence_header.Av1SequenceHeader.{Av1SequenceHeader}
use Rattle.codec_payload_media.specs.declared.av1.temporal_unit.Av1FrameStart.{Av1FrameStart}
use Rattle.codec_payload_media.specs.declared.av1.temporal_unit.Av1TemporalUnit.{Av1TemporalUnit}
use Rattle.codec_payload_media.specs.Av1SequenceHeaders.{sequence_header}
use Rattle.codec_payload_media.specs.Av1Units.{Obu, obu_at}
use Rattle.codec_payload_media.specs.Items.{items_at}
use Rattle.codec_payload_vpx.specs.Reading.{told}
use Rattle.codec_payload_syntax.specs.Syntax.{value, field, branch, ◌>>=◌, flag}
use Rattle.codec_payload_vpx.specs.Syntax.{Syntax, value_of}

abbrev pub new_frame : ℕ → Syntax Av1FrameStart
new_frame layer = do
  kind ← field 2
  shown ← flag
  value (record { existing = false; keyframe = kind == 0; shown = shown; temporal_id = layer })

abbrev pub existing_frame : ℕ → Av1FrameStart
existing_frame layer = record { existing = true; keyframe = false; shown = true; temporal_id = layer }

-- the frame of a short sequence header has no such bits: it is a keyframe, and shown
abbrev pub still_frame : ℕ → Av1FrameStart
still_frame layer = record { existing = false; keyframe = true; shown = true; temporal_id = layer }

abbrev pub long_start : ℕ → Syntax Av1FrameStart
long_start layer = do
  existing ← flag
  branch existing (value (existing_frame layer)) (new_frame layer)

-- the front of uncompressed_header, for a frame of this temporal layer
abbrev pub frame_start : Bool → ℕ → Syntax Av1FrameStart
frame_start reduced layer = branch reduced (value (still_frame layer)) (long_start layer)

abbrev pub is_reduced : Option Av1SequenceHeader → Bool
is_reduced None = false
is_reduced (Some h) = h.reduced

abbrev pub temporal_layer : Option Av1Extension → ℕ
temporal_layer None = 0
temporal_layer (Some e) = e.temporal_id

abbrev pub with_header : Av1TemporalUnit → Av1SequenceHeader → Av1TemporalUnit
with_header u h = record { sequence_header = Some h; frame = u.frame }

abbrev pub with_frame : Av1TemporalUnit → Av1FrameStart → Av1TemporalUnit
with_frame u f = record { sequence_header = u.sequence_header; frame = Some f }

-- a sequence header (1), or a frame header, alone (3) or before its tiles (6); other OBUs are ignored
abbrev pub with_obu : Av1TemporalUnit → Obu → Result Av1TemporalUnit MediaError
with_obu u o =
    if o.obu_type == 1 then told (with_header u) (value_of sequence_header (bits_of o.payload))
    else if (o.obu_type == 3) || (o.obu_type == 6) then told (with_frame u) (value_of (frame_start (is_reduced u.sequence_header) (temporal_layer o.extension)) (bits_of o.payload))
    else Ok u

-- no further than to the first frame header
abbrev pub until_frame : (Av1TemporalUnit → Result Av1TemporalUnit MediaError) → Result Av1TemporalUnit MediaError → Result Av1TemporalUnit MediaError
until_frame others (Ok u) = if is_some u.frame then Ok u else others u
until_frame others (Err e) = Err e

unfoldable pub unit_from : List (Result Obu MediaError) → Av1TemporalUnit → Result Av1TemporalUnit MediaError
unit_from [] u = Ok u
unit_from (Err e ∷ obus) u = Err e
unit_from (Ok o ∷ obus) u = until_frame (unit_from obus) (with_obu u o)

abbrev pub empty_unit : Av1TemporalUnit
empty_unit = record { sequence_header = None; frame = None }

abbrev pub unit_at : List ℕ → Result Av1TemporalUnit MediaError
unit_at bytes = unit_from (items_at obu_at bytes) empty_unit

-- a keyframe that is shown at once
abbrev pub is_shown_keyframe : Av1FrameStart → Bool
is_shown_keyframe f = f.keyframe && f.shown && not f.existing

abbrev pub begins_sequence : Option Av1SequenceHeader → Option Av1FrameStart → Bool
begins_sequence (Some h) (Some f) = is_shown_keyframe f && (f.temporal_id == 0)
begins_sequence None frame = false
begins_sequence (Some h) None = false
