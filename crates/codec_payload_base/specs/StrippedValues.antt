-- The extension values of a sample for each of its packets.
use Rattle.std.specs.Prelude.{◌≡◌, ℕ, ◌+◌, ◌==◌, Bool, Option, None, if◌then◌else◌, refl}
use Rattle.codec_payload_base.specs.declared.wire.extension.ExtensionValues.{ExtensionValues}

abbrev pub kept_if : {A : Type 0} → Bool → Option A → Option A
kept_if goes value = if goes then value else None

-- the values for the packet at place i of n: capture time and layers allocation only on the first; orientation, content type and
-- timing only on the last; all others on each
unfoldable pub stripped : ExtensionValues → ℕ → ℕ → ExtensionValues
stripped values i n = record {
  abs_capture_time = kept_if (i == 0) values.abs_capture_time;
  video_orientation = kept_if (i + 1 == n) values.video_orientation;
  video_content_type = kept_if (i + 1 == n) values.video_content_type;
  video_timing = kept_if (i + 1 == n) values.video_timing;
  layers_allocation = kept_if (i == 0) values.layers_allocation;
  audio_level = values.audio_level;
  voice_activity = values.voice_activity;
}

-- the packet of a sample that has one alone has all values
pub stripped-one : (values : ExtensionValues) → stripped values 0 1 ≡ values
unfolding stripped
stripped-one values = refl

-- of three packets, the second has none of the values for the first or the last only
pub stripped-second : (values : ExtensionValues) → stripped values 1 3 ≡ record values { abs_capture_time = None; video_orientation = None; video_content_type = None; video_timing = None; layers_allocation = None }
unfolding stripped
stripped-second values = refl

pub stripped-third : (values : ExtensionValues) → stripped values 2 3 ≡ record values { abs_capture_time = None; layers_allocation = None }
unfolding stripped
stripped-third values = refl
