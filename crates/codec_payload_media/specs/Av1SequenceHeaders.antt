-- The sequence header of AV1, by the tables of the bitstream specification (section 5.5). Fields that are not reported here are
-- skipped.
use Rattle.std.specs.Prelude.{ℕ, zero, suc, ◌+◌, ◌*◌, ◌==◌, ◌&&◌, not, nat_lt, Bool, true, false}
use Rattle.codec_payload_vpx.specs.declared.error.MediaError.TheVariants as errors
use Rattle.codec_payload_media.specs.declared.av1.sequence_header.Av1Color.{Av1Color}
use Rattle.codec_payload_media.specs.declared.av1.sequence_header.Av1ColorDescription.{Av1ColorDescription}
use Rattle.codec_payload_media.specs.declared.av1.sequence_header.Av1OperatingPoint.{Av1OperatingPoint}
use Rattle.codec_payload_media.specs.declared.av1.sequence_header.Front.{Front}
use Rattle.codec_payload_media.specs.declared.av1.sequence_header.Av1SequenceHeader.{Av1SequenceHeader}
use Rattle.codec_payload_syntax.specs.Syntax.{value, refuses, field, skips, branch, ◌>>=◌, flag}
use Rattle.codec_payload_vpx.specs.Syntax.{Syntax}

-- uvlc, whose value is not reported: n zeros, a one, and as many bits as zeros; 32 zeros are refused
abbrev pub uvlc_from : ℕ → ℕ → Syntax ℕ
uvlc_from zero count = refuses errors.ReservedValue
uvlc_from (suc n) count = do
  one ← flag
  branch one (skips count) (uvlc_from n (count + 1))

-- decoder_model_info; its length of delays is reported
abbrev pub decoder_model : Syntax ℕ
decoder_model = do
  less ← field 5
  rest ← skips 42
  value (less + 1)

abbrev pub decoder_model_if : Bool → Syntax ℕ
decoder_model_if there = branch there decoder_model (value 0)

-- timing_info and decoder_model_info; 0 without a decoder model
abbrev pub timing : Syntax ℕ
timing = do
  tick_and_scale ← skips 64
  equal ← flag
  ticks ← branch equal (uvlc_from 32 0) (value 0)
  model ← flag
  decoder_model_if model

abbrev pub timing_if : Bool → Syntax ℕ
timing_if there = branch there timing (value 0)

-- operating_parameters_info of two delays and a flag
abbrev pub parameters_if : ℕ → Bool → Syntax ℕ
parameters_if delay there = branch there (skips (2 * delay + 1)) (value 0)

abbrev pub parameters : ℕ → Syntax ℕ
parameters delay = do
  there ← flag
  parameters_if delay there

-- initial_display_delay_minus_1
abbrev pub display_delay : Syntax ℕ
display_delay = do
  there ← flag
  branch there (skips 4) (value 0)

-- an operating point, if delays of a decoder model have n bits
unfoldable pub operating_point : ℕ → Bool → Syntax Av1OperatingPoint
operating_point delay display = do
  idc ← field 12
  level ← field 5
  tier ← branch (nat_lt 7 level) flag (value false)
  model ← branch (delay == 0) (value 0) (parameters delay)
  shown ← branch display display_delay (value 0)
  value (record { idc = idc; level = level; high_tier = tier })

-- further operating points
abbrev pub other_points : ℕ → ℕ → Bool → Syntax ℕ
other_points zero delay display = value 0
other_points (suc n) delay display = do
  point ← operating_point delay display
  other_points n delay display

-- the first operating point, and how many there are
abbrev pub all_points : Syntax (Av1OperatingPoint × ℕ)
all_points = do
  there ← flag
  delay ← timing_if there
  display ← flag
  others ← field 5
  first ← operating_point delay display
  passed ← other_points others delay display
  value (first, others + 1)

abbrev pub reduced_point : Syntax (Av1OperatingPoint × ℕ)
reduced_point = do
  level ← field 5
  value (record { idc = 0; level = level; high_tier = false }, 1)

-- the largest width and height; the number of bits of each comes before both
abbrev pub largest_size : Syntax (ℕ × ℕ)
largest_size = do
  across ← field 4
  down ← field 4
  width ← field (across + 1)
  height ← field (down + 1)
  value (width + 1, height + 1)

-- frame ids, and tools that are not reported
abbrev pub frame_ids : Syntax ℕ
frame_ids = do
  there ← flag
  branch there (skips 7) (value 0)

abbrev pub integer_vectors : Syntax ℕ
integer_vectors = do
  choose ← flag
  branch (not choose) (skips 1) (value 0)

-- seq_force_screen_content_tools, which is 0 if absent
abbrev pub screen_tools : Syntax Bool
screen_tools = do
  choose ← flag
  branch choose (value true) flag

unfoldable pub tools : Syntax ℕ
tools = do
  compound ← skips 4
  order ← flag
  hints ← branch order (skips 2) (value 0)
  screen ← screen_tools
  vectors ← branch screen integer_vectors (value 0)
  branch order (skips 3) (value 0)

-- profile 2 alone has 12 bits
abbrev pub bit_depth : ℕ → Syntax ℕ
bit_depth profile = do
  high ← flag
  twelve ← branch ((profile == 2) && high) flag (value false)
  branch twelve (value 12) (branch high (value 10) (value 8))

abbrev pub description : Syntax Av1ColorDescription
description = do
  primaries ← field 8
  transfer ← field 8
  matrix ← field 8
  value (record { primaries = primaries; transfer = transfer; matrix = matrix })

-- 2 is unspecified
abbrev pub unspecified : Av1ColorDescription
unspecified = record { primaries = 2; transfer = 2; matrix = 2 }

abbrev pub color_description : Syntax Av1ColorDescription
color_description = do
  there ← flag
  branch there description (value unspecified)

-- primaries of BT.709, the transfer of sRGB, the identity matrix
abbrev pub is_srgb : Av1ColorDescription → Bool
is_srgb d = (d.primaries == 1) && (d.transfer == 13) && (d.matrix == 0)

abbrev pub told_subsampling : Syntax (Bool × Bool)
told_subsampling = do
  x ← flag
  y ← branch x flag (value false)
  value (x, y)

-- 4:2:0 in profile 0, 4:4:4 in profile 1; in profile 2 4:2:2, or by explicit bits for 12 bits
abbrev pub subsampling : ℕ → ℕ → Syntax (Bool × Bool)
subsampling profile depth =
    branch (profile == 0) (value (true, true)) (branch (profile == 1) (value (false, false)) (branch (depth == 12) told_subsampling (value (true, false))))

abbrev pub monochrome : ℕ → Av1ColorDescription → Syntax Av1Color
monochrome depth d = do
  full ← flag
  value (record { bit_depth = depth; monochrome = true; description = d; full_range = full; subsampling_x = true; subsampling_y = true; chroma_sample_position = 0 })

abbrev pub srgb : ℕ → Av1ColorDescription → Syntax Av1Color
srgb depth d = do
  separate ← skips 1
  value (record { bit_depth = depth; monochrome = false; description = d; full_range = true; subsampling_x = false; subsampling_y = false; chroma_sample_position = 0 })

abbrev pub with_chroma : ℕ → ℕ → Av1ColorDescription → Syntax Av1Color
with_chroma profile depth d = do
  full ← flag
  sub ← subsampling profile depth
  position ← branch (sub.0 && sub.1) (field 2) (value 0)
  separate ← skips 1
  value (record { bit_depth = depth; monochrome = false; description = d; full_range = full; subsampling_x = sub.0; subsampling_y = sub.1; chroma_sample_position = position })

-- color_config
unfoldable pub color_config : ℕ → Syntax Av1Color
color_config profile = do
  depth ← bit_depth profile
  mono ← branch (not (profile == 1)) flag (value false)
  d ← color_description
  branch mono (monochrome depth d) (branch (is_srgb d) (srgb depth d) (with_chroma profile depth d))

-- the fields after the operating points
abbrev pub behind_points : Front → Av1OperatingPoint × ℕ → Syntax Av1SequenceHeader
behind_points f points = do
  size ← largest_size
  ids ← branch f.reduced (value 0) frame_ids
  superblocks ← skips 3
  passed ← branch f.reduced (value 0) tools
  filters ← skips 3
  color ← color_config f.profile
  grain ← flag
  value (record { profile = f.profile; still_picture = f.still_picture; reduced = f.reduced; operating_point = points.0; operating_points = points.1; max_width = size.0; max_height = size.1; color = color; film_grain = grain })

abbrev pub behind_profile : ℕ → Syntax Front
behind_profile profile = do
  still ← flag
  reduced ← flag
  value (record { profile = profile; still_picture = still; reduced = reduced })

-- profiles above 2 are reserved
abbrev pub front : Syntax Front
front = do
  profile ← field 3
  branch (nat_lt 2 profile) (refuses errors.ReservedValue) (behind_profile profile)

-- sequence_header_obu
unfoldable pub sequence_header : Syntax Av1SequenceHeader
sequence_header = do
  f ← front
  points ← branch f.reduced reduced_point all_points
  behind_points f points
