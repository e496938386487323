-- What a packet says of the frame that it begins.
use Rattle.std.specs.Prelude.{ℕ, Bool, false, List, [], ◌∷◌, Option, Some, None, if◌then◌else◌}
use Rattle.codec_payload_base.specs.Flags.{has_bit}
use Rattle.codec_payload_references.specs.LayerFrames.{layer_frame_of}
use Rattle.codec_payload_references.specs.declared.layer_frame.LayerFrame.{LayerFrame}

pub record Note : Type 0 where
  -- the bytes of the dependency descriptor of the first packet of a frame
  pub descriptor : Option (List ℕ)
  -- what the payload descriptor of VP9 in the flexible mode says of a layer frame
  pub layer_frame : Option LayerFrame

-- start_of_frame, the first bit of a dependency descriptor
abbrev pub starts_frame : List ℕ → Bool
starts_frame [] = false
starts_frame (flags ∷ bytes) = has_bit flags 7

abbrev pub descriptor_if : Option (List ℕ) → Option (List ℕ)
descriptor_if None = None
descriptor_if (Some bytes) = if starts_frame bytes then Some bytes else None

abbrev pub note_if : Option (List ℕ) → Option LayerFrame → Option Note
note_if None None = None
note_if None (Some l) = Some (record { descriptor = None; layer_frame = Some l })
note_if (Some bytes) l = Some (record { descriptor = Some bytes; layer_frame = l })

-- the note of a packet with this payload and this dependency descriptor
abbrev pub note_of : Bool → List ℕ → Option (List ℕ) → Option Note
note_of is_vp9 payload descriptor = note_if (descriptor_if descriptor) (if is_vp9 then layer_frame_of payload else None)
