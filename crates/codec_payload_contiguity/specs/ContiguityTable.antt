-- Whether picture ids allow a frame to be released, and whether it follows the previous frame.
use Rattle.std.specs.Prelude.{◌≡◌, ℕ, ◌+◌, ◌<◌, ◌%◌, ◌^◌, ◌&&◌, Bool, true, false, ◌==◌, nat_le, if◌then◌else◌, Option, Some, None, refl}
use Rattle.codec_payload_base.specs.declared.interface.CodecExtra.{CodecExtra}
use Rattle.codec_payload_base.specs.declared.interface.CodecExtra.TheVariants as extras
use Rattle.codec_payload_base.specs.declared.interface.Vp8CodecExtra.{Vp8CodecExtra}
use Rattle.codec_payload_base.specs.declared.interface.Vp9CodecExtra.{Vp9CodecExtra}
use Rattle.codec_payload_codec.specs.Depacketizers.{DepacketizerKind, Vp8Payloads, Vp9Payloads}
use Rattle.codec_payload_contiguity.specs.declared.contiguity.FrameContiguityState.{FrameContiguityState}
use Rattle.codec_payload_contiguity.specs.declared.contiguity.Contiguity.{Contiguity}
use Rattle.codec_payload_contiguity.specs.declared.contiguity.Contiguity.TheVariants as kept

-- no frame with both ids was released
abbrev pub no_ids : FrameContiguityState
no_ids = record { last_picture_id = None; last_tl0_picture_id = None }

-- the ids of the latest released frame with both ids
abbrev pub both_ids : ℕ → ℕ → FrameContiguityState
both_ids picture base = record { last_picture_id = Some picture; last_tl0_picture_id = Some base }

abbrev pub is_base_layer : Option ℕ → Bool
is_base_layer None = false
is_base_layer (Some layer) = layer == 0

-- a frame with both ids after another one: can it be released, does it follow, and which ids are kept. The first case that
-- applies counts: a keyframe can start again from lower ids; any other frame not above the old id is skipped; a frame of the
-- base layer follows the previous one; a frame of another layer must be the very next picture on the same base
abbrev pub verdict_after : ℕ → ℕ → ℕ → ℕ → Option ℕ → Bool → Bool × Bool × FrameContiguityState
verdict_after old old_base picture base layer keyframe =
    if keyframe && nat_le picture old then (true, false, both_ids picture base)
    else (if nat_le picture old then (false, true, both_ids old old_base)
    else (if is_base_layer layer then (true, base == (old_base + 1) % 2 ^ 64, both_ids picture base)
    else (if (base == old_base) && (picture == (old + 1) % 2 ^ 64) then (true, true, both_ids picture old_base)
    else (false, true, both_ids old old_base))))

-- a frame with both ids, if the kept ids lack one: it can be released, and follows
abbrev pub verdict_with : Option ℕ → Option ℕ → ℕ → ℕ → Option ℕ → Bool → Bool × Bool × FrameContiguityState
verdict_with (Some old) (Some old_base) picture base layer keyframe = verdict_after old old_base picture base layer keyframe
verdict_with (Some old) None picture base layer keyframe = (true, true, both_ids picture base)
verdict_with None old_base picture base layer keyframe = (true, true, both_ids picture base)

-- the whole table. Arguments: the kept ids, the picture id, the id of the base layer, the layer, whether the frame is a
-- keyframe, and whether the sequence numbers follow. A frame that lacks an id can be released, and follows if its numbers do
abbrev pub verdict : FrameContiguityState → Option ℕ → Option ℕ → Option ℕ → Bool → Bool → Bool × Bool × FrameContiguityState
verdict s (Some picture) (Some base) layer keyframe seq = verdict_with s.last_picture_id s.last_tl0_picture_id picture base layer keyframe
verdict s (Some picture) None layer keyframe seq = (true, seq, s)
verdict s None base layer keyframe seq = (true, seq, s)

-- by the codec-specific data of VP8 and VP9 payloads
abbrev pub vp8_verdict : FrameContiguityState → Vp8CodecExtra → Bool → Bool × Bool × FrameContiguityState
vp8_verdict s extra seq = verdict s extra.picture_id extra.tl0_picture_id (Some extra.layer_index) extra.is_keyframe seq

abbrev pub vp9_verdict : FrameContiguityState → Vp9CodecExtra → Bool → Bool × Bool × FrameContiguityState
vp9_verdict s extra seq = verdict s extra.picture_id extra.tl0_picture_id extra.tid extra.is_keyframe seq

abbrev pub kept_by : (FrameContiguityState → Contiguity) → Bool × Bool × FrameContiguityState → Bool × Bool × Contiguity
kept_by wrap answer = (answer.0, answer.1, wrap answer.2)

-- can a unit with this codec-specific data be released, does it follow, and which ids are kept; `seq` says whether the numbers
-- follow
abbrev pub checked : Contiguity → CodecExtra → Bool → Bool × Bool × Contiguity
checked (kept.Vp8 s) (extras.Vp8 extra) seq = kept_by kept.Vp8 (vp8_verdict s extra seq)
checked (kept.Vp9 s) (extras.Vp9 extra) seq = kept_by kept.Vp9 (vp9_verdict s extra seq)
checked c extra seq = (true, seq, c)

-- the first state of a buffer, by the codec of its depacketizer
abbrev pub contiguity_for : DepacketizerKind → Contiguity
contiguity_for Vp8Payloads = kept.Vp8 no_ids
contiguity_for Vp9Payloads = kept.Vp9 no_ids
contiguity_for kind = kept.None

-- after both ids were kept, a released frame with both ids has a higher picture id, unless it is a keyframe
abbrev pub Advances : FrameContiguityState → Option ℕ → Option ℕ → Bool → Bool → Type 0
Advances s (Some picture) (Some base) keyframe may_go = advances s.last_picture_id s.last_tl0_picture_id
  where
    advances : Option ℕ → Option ℕ → Type 0
    advances (Some old) (Some old_base) = keyframe ≡ false → may_go ≡ true → old < picture
    advances (Some old) None = Unit {0}
    advances None old_base = Unit {0}
Advances s (Some picture) None keyframe may_go = Unit {0}
Advances s None base keyframe may_go = Unit {0}

-- three keyframes of the base layer: the first is released, and each later one, not above it, starts again; then a delta frame
-- follows
pub verdict-first : verdict no_ids (Some 40) (Some 40) (Some 0) true true ≡ (true, true, both_ids 40 40)
verdict-first = refl

pub verdict-again : verdict (both_ids 40 40) (Some 1) (Some 1) (Some 0) true true ≡ (true, false, both_ids 1 1)
verdict-again = refl

pub verdict-twice : verdict (both_ids 1 1) (Some 1) (Some 1) (Some 0) true true ≡ (true, false, both_ids 1 1)
verdict-twice = refl

pub verdict-next : verdict (both_ids 1 1) (Some 2) (Some 2) (Some 0) false true ≡ (true, true, both_ids 2 2)
verdict-next = refl

-- an older frame is skipped; on another layer only the next picture on the same base is released
pub verdict-late : verdict (both_ids 10 5) (Some 9) (Some 5) (Some 0) false true ≡ (false, true, both_ids 10 5)
verdict-late = refl

pub verdict-layer : verdict (both_ids 10 5) (Some 11) (Some 5) (Some 1) false false ≡ (true, true, both_ids 11 5)
verdict-layer = refl

pub verdict-layer_apart : verdict (both_ids 10 5) (Some 12) (Some 5) None false true ≡ (false, true, both_ids 10 5)
verdict-layer_apart = refl

-- a frame without the id of the base layer is released, and the kept ids stay
pub verdict-no_base : verdict (both_ids 10 5) (Some 9) None (Some 0) false true ≡ (true, true, both_ids 10 5)
verdict-no_base = refl
