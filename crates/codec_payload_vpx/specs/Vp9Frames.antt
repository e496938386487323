-- The uncompressed header of VP9 frames, as the tables of the bitstream specification have it (sections 6.2 and 7.2).
use Rattle.std.specs.Prelude.{ℕ, ◌+◌, ◌*◌, ◌==◌, ◌&&◌, ◌||◌, not, nat_le, Bool, true, false, if◌then◌else◌, Option, Some, None}
use Rattle.codec_payload_vpx.specs.declared.error.MediaError.TheVariants as errors
use Rattle.codec_payload_vpx.specs.declared.vp9.Vp9Color.{Vp9Color}
use Rattle.codec_payload_vpx.specs.declared.vp9.Vp9Picture.{Vp9Picture}
use Rattle.codec_payload_vpx.specs.declared.vp9.Vp9FrameHeader.{Vp9FrameHeader}
use Rattle.codec_payload_syntax.specs.Syntax.{value, refuses, field, branch, ◌>>=◌, expects, flag}
use Rattle.codec_payload_vpx.specs.Syntax.{Syntax}

-- frame_sync_code
abbrev pub sync_code : Syntax ℕ
sync_code = do
  first ← expects 8 0x49 errors.WrongMarker
  second ← expects 8 0x83 errors.WrongMarker
  expects 8 0x42 errors.WrongMarker

-- profiles 1 and 3 have other subsampling than 4:2:0, and profiles 2 and 3 more than 8 bits
abbrev pub is_odd : ℕ → Bool
is_odd profile = (profile == 1) || (profile == 3)

abbrev pub bit_depth : ℕ → Syntax ℕ
bit_depth profile = branch (nat_le 2 profile) deep (value 8)
  where
    deep : Syntax ℕ
    deep = do
      twelve ← flag
      value (if twelve then 12 else 10)

-- color space 7 is RGB
abbrev pub rgb : ℕ
rgb = 7

abbrev pub rgb_color : ℕ → ℕ → Syntax Vp9Color
rgb_color profile depth = branch (is_odd profile) in_full (refuses errors.ReservedValue)
  where
    in_full : Syntax Vp9Color
    in_full = do
      reserved ← expects 1 0 errors.ReservedValue
      value (record { bit_depth = depth; color_space = rgb; full_range = true; subsampling_x = false; subsampling_y = false })

-- profiles 1 and 3 do not have 4:2:0
abbrev pub with_subsampling : ℕ → ℕ → Bool → Syntax Vp9Color
with_subsampling depth space full = do
  x ← flag
  y ← flag
  reserved ← expects 1 0 errors.ReservedValue
  branch (x && y) (refuses errors.ReservedValue) (value (record { bit_depth = depth; color_space = space; full_range = full; subsampling_x = x; subsampling_y = y }))

abbrev pub yuv_color : ℕ → ℕ → ℕ → Syntax Vp9Color
yuv_color profile depth space = do
  full ← flag
  branch (is_odd profile) (with_subsampling depth space full) (value (record { bit_depth = depth; color_space = space; full_range = full; subsampling_x = true; subsampling_y = true }))

-- color_config
abbrev pub color_config : ℕ → Syntax Vp9Color
color_config profile = do
  depth ← bit_depth profile
  space ← field 3
  branch (space == rgb) (rgb_color profile depth) (yuv_color profile depth space)

-- a side less one, in 16 bits
abbrev pub side : Syntax ℕ
side = do
  less ← field 16
  value (less + 1)

-- render_size, which is the size of the frame if it is absent
abbrev pub render_size : ℕ → ℕ → Syntax (ℕ × ℕ)
render_size width height = do
  different ← flag
  branch different told (value (width, height))
  where
    told : Syntax (ℕ × ℕ)
    told = do
      width ← side
      height ← side
      value (width, height)

-- frame_size and render_size
abbrev pub picture : Vp9Color → Syntax Vp9Picture
picture color = do
  width ← side
  height ← side
  render ← render_size width height
  value (record { color = color; width = width; height = height; render_width = render.0; render_height = render.1 })

abbrev pub keyframe_picture : ℕ → Syntax Vp9Picture
keyframe_picture profile = do
  sync ← sync_code
  color ← color_config profile
  picture color

-- intra-only frames of profile 0 are in 8 bits, BT.601 (color space 1), 4:2:0
abbrev pub default_color : Vp9Color
default_color = record { bit_depth = 8; color_space = 1; full_range = false; subsampling_x = true; subsampling_y = true }

abbrev pub intra_color : ℕ → Syntax Vp9Color
intra_color profile = branch (profile == 0) (value default_color) (color_config profile)

abbrev pub intra_picture : ℕ → Syntax Vp9Picture
intra_picture profile = do
  sync ← sync_code
  color ← intra_color profile
  refresh ← field 8
  picture color

-- intra_only, which is present if the frame is not shown
abbrev pub intra_flag : Bool → Syntax Bool
intra_flag shown = branch shown (value false) flag

abbrev pub picture_if : Bool → ℕ → Syntax (Option Vp9Picture)
picture_if intra profile = branch intra some (value None)
  where
    some : Syntax (Option Vp9Picture)
    some = do
      p ← intra_picture profile
      value (Some p)

-- reset_frame_context, if error_resilient_mode is clear
abbrev pub reset_if : Bool → Syntax ℕ
reset_if there = branch there (field 2) (value 0)

abbrev pub inter_frame : ℕ → Bool → Bool → Syntax Vp9FrameHeader
inter_frame profile shown resilient = do
  intra ← intra_flag shown
  reset ← reset_if (not resilient)
  p ← picture_if intra profile
  value (record { profile = profile; existing = None; keyframe = false; shown = shown; error_resilient = resilient; intra_only = intra; picture = p })

abbrev pub key_frame : ℕ → Bool → Bool → Syntax Vp9FrameHeader
key_frame profile shown resilient = do
  p ← keyframe_picture profile
  value (record { profile = profile; existing = None; keyframe = true; shown = shown; error_resilient = resilient; intra_only = false; picture = Some p })

-- frame_type is 0 in a keyframe
abbrev pub coded_frame : ℕ → Syntax Vp9FrameHeader
coded_frame profile = do
  inter ← flag
  shown ← flag
  resilient ← flag
  branch inter (inter_frame profile shown resilient) (key_frame profile shown resilient)

-- show_existing_frame: a decoded frame is shown again
abbrev pub shown_again : ℕ → Syntax Vp9FrameHeader
shown_again profile = do
  index ← field 3
  value (record { profile = profile; existing = Some index; keyframe = false; shown = true; error_resilient = false; intra_only = false; picture = None })

-- the bit after profile 3 is reserved
abbrev pub profile_at : Syntax ℕ
profile_at = do
  low ← field 1
  high ← field 1
  branch ((high == 1) && (low == 1)) profile_3 (value (2 * high + low))
  where
    profile_3 : Syntax ℕ
    profile_3 = do
      reserved ← expects 1 0 errors.ReservedValue
      value 3

-- uncompressed_header, up to the last field that is needed here
unfoldable pub frame_header : Syntax Vp9FrameHeader
frame_header = do
  marker ← expects 2 2 errors.WrongMarker
  profile ← profile_at
  existing ← flag
  branch existing (shown_again profile) (coded_frame profile)
