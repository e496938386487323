-- Values of header extensions, converted for C and back.
use Rattle.std.proofs.Common.{◌≡◌, ◌∙◌, ap, refl, ℕ, ◌-◌, Bool, List, ◌++◌, Option, Some, None, length, take, drop}
use Rattle.std.specs.Prelude.{is_some, replicate}
use Rattle.std.proofs.Math.Seq.{take-append_seam}
use Rattle.std.proofs.lemmas.List.{drop-replicate}
use lib.IntN.{ℤ}
use Rattle.codec_payload_base.specs.declared.wire.extension.AbsCaptureTime.{AbsCaptureTime}
use Rattle.codec_payload_base.specs.declared.wire.extension.ExtensionValues.{ExtensionValues}
use Rattle.codec_payload_base.specs.declared.wire.extension.VideoTiming.{VideoTiming}
use Rattle.codec_payload_handle.specs.Extras.{or_zero}
use Rattle.codec_payload_handle.specs.HeaderValues.{capture_told, given, int_or_zero, is_true, layers_len, layers_told, offset_of, timing_given, timing_told, values_given, values_told}

-- bytes that were copied to the front of 255 zeros
pub padded : (bytes copied : List ℕ) → copied ≡ bytes → copied ++ drop (length bytes) (replicate 255 0) ≡ bytes ++ replicate (255 - length bytes) 0
padded bytes copied same = ap (λ (bs : List ℕ). bs ++ drop (length bytes) (replicate 255 0)) same ∙ ap (λ (bs : List ℕ). bytes ++ bs) (drop-replicate (length bytes) 255 0)

number_back : (x : Option ℕ) → given (is_some x) (or_zero x) ≡ x
number_back None = refl
number_back (Some n) = refl

int_back : (x : Option ℤ) → given (is_some x) (int_or_zero x) ≡ x
int_back None = refl
int_back (Some z) = refl

bool_back : (x : Option Bool) → given (is_some x) (is_true x) ≡ x
bool_back None = refl
bool_back (Some b) = refl

timing_back : (x : Option VideoTiming) → given (is_some x) (timing_given (timing_told x)) ≡ x
timing_back None = refl
timing_back (Some t) = refl

capture_back : (x : Option AbsCaptureTime) → given (is_some x) (record { capture_time = capture_told x; clock_offset = given (is_some (offset_of x)) (int_or_zero (offset_of x)) }) ≡ x
capture_back None = refl
capture_back (Some t) = rw (int_back t.clock_offset) refl

layers_back : (x : Option (List ℕ)) → given (is_some x) (take (layers_len x) (layers_told x)) ≡ x
layers_back None = refl
layers_back (Some bytes) = rw (take-append_seam bytes (replicate (255 - length bytes) 0)) refl

-- values that are converted for C and back are the same
pub values_back : (v : ExtensionValues) → values_given (values_told v) ≡ v
values_back v = rw (capture_back v.abs_capture_time, number_back v.video_orientation, number_back v.video_content_type, timing_back v.video_timing, layers_back v.layers_allocation, int_back v.audio_level, bool_back v.voice_activity) refl
