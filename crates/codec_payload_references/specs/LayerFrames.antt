-- What a payload of VP9 in the flexible mode says of the layer frame that it begins (RFC 9628, section 4.2).
use Rattle.std.specs.Prelude.{ℕ, zero, suc, ◌^◌, ◌/◌, ◌%◌, ◌==◌, ◌&&◌, not, Bool, true, false, List, [], ◌∷◌, Option, Some, None, option_map, if◌then◌else◌}
use Rattle.std.specs.Int.Bits.{bit_or}
use Rattle.codec_payload_base.specs.Flags.{has_bit}
use Rattle.codec_payload_base.specs.PictureIds.{take_id}
use Rattle.codec_payload_references.specs.declared.layer_frame.LayerFrame.{LayerFrame}

-- the bytes after the picture id, which is there if I is set
abbrev pub after_id : Bool → List ℕ → Option (List ℕ)
after_id i bs = if i then option_map (λ x. x.1) (take_id bs) else Some bs

-- TID(3) U SID(3) D, if L is set, and the bytes after it
abbrev pub layer_octet : Bool → List ℕ → Option (ℕ × List ℕ)
layer_octet false bs = Some (0, bs)
layer_octet true [] = None
layer_octet true (b ∷ bs) = Some (b, bs)

-- one bit for each P_DIFF(7), at most n of them: N, the last bit of a byte, says that another follows
abbrev pub differences_in : ℕ → List ℕ → Option ℕ
differences_in zero bs = None
differences_in (suc n) [] = None
differences_in (suc n) (b ∷ bs) = if has_bit b 0 then option_map (bit_or (2 ^ (b / 2))) (differences_in n bs) else Some (2 ^ (b / 2))

-- at most three, if P is set
abbrev pub differences_if : Bool → List ℕ → Option ℕ
differences_if p bs = if p then differences_in 3 bs else Some 0

-- SID is above 0, and D is set
abbrev pub needs_lower : ℕ → Bool
needs_lower octet = has_bit octet 0 && not (octet / 2 % 8 == 0)

abbrev pub with_octet : ℕ → Option (ℕ × List ℕ) → Option LayerFrame
with_octet flags None = None
with_octet flags (Some x) = option_map (λ d. record { differences = d; needs_lower_layer = needs_lower x.0 }) (differences_if (has_bit flags 6) x.1)

abbrev pub with_rest : ℕ → Option (List ℕ) → Option LayerFrame
with_rest flags None = None
with_rest flags (Some bs) = with_octet flags (layer_octet (has_bit flags 5) bs)

-- what follows I P L F B E V Z; none if the bytes end early, or there are more than three P_DIFFs
abbrev pub read_layer_frame : ℕ → List ℕ → Option LayerFrame
read_layer_frame flags bs = with_rest flags (after_id (has_bit flags 7) bs)

-- a layer frame that refers to a picture that is not known
abbrev pub or_unknown : Option LayerFrame → LayerFrame
or_unknown None = record { differences = 1; needs_lower_layer = false }
or_unknown (Some l) = l

-- the layer frame that a payload begins in the flexible mode: B and F are set
abbrev pub layer_frame_of : List ℕ → Option LayerFrame
layer_frame_of [] = None
layer_frame_of (flags ∷ bs) = if has_bit flags 3 && has_bit flags 4 then Some (or_unknown (read_layer_frame flags bs)) else None
