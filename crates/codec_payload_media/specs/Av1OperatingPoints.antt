-- The operating point of an index in a sequence header (AV1 bitstream specification, section 5.5.1).
use Rattle.std.specs.Prelude.{ℕ, ◌==◌, nat_lt, Bool, Option, Some, None}
use Rattle.codec_payload_media.specs.declared.av1.sequence_header.Av1OperatingPoint.{Av1OperatingPoint}
use Rattle.codec_payload_syntax.specs.Syntax.{value, field, branch, ◌>>=◌, flag}
use Rattle.codec_payload_vpx.specs.Syntax.{Syntax}
use Rattle.codec_payload_media.specs.Av1SequenceHeaders.{front, operating_point, other_points, reduced_point, timing_if}

-- the item after n others
abbrev pub point_behind : ℕ → ℕ → Bool → Syntax (Option Av1OperatingPoint)
point_behind index delay display = do
  passed ← other_points index delay display
  point ← operating_point delay display
  value (Some point)

-- None after the last
abbrev pub long_point : ℕ → Syntax (Option Av1OperatingPoint)
long_point index = do
  there ← flag
  delay ← timing_if there
  display ← flag
  others ← field 5
  branch (nat_lt others index) (value None) (point_behind index delay display)

abbrev pub short_point : ℕ → Syntax (Option Av1OperatingPoint)
short_point index = do
  point ← reduced_point
  branch (index == 0) (value (Some point.0)) (value None)

unfoldable pub numbered_point : ℕ → Syntax (Option Av1OperatingPoint)
numbered_point index = do
  f ← front
  branch f.reduced (short_point index) (long_point index)
