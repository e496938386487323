-- The av1C record (AV1 codec ISO media file format binding, section 2.3): marker (1 bit, set) and version (7, 1); seq_profile (3)
-- and seq_level_idx_0 (5); seq_tier_0, high_bitdepth, twelve_bit, monochrome, subsampling_x and subsampling_y (1 each) and
-- chroma_sample_position (2); no initial presentation delay (a byte of 0); then the sequence header OBU.
use Rattle.std.specs.Prelude.{ℕ, ◌+◌, ◌*◌, ◌%◌, ◌==◌, not, List, [], ◌∷◌, ◌++◌}
use Rattle.codec_payload_vpx.specs.BitFields.{bit_if}
use Rattle.codec_payload_media.specs.declared.av1.sequence_header.Av1SequenceHeader.{Av1SequenceHeader}

unfoldable pub av1c_front : Av1SequenceHeader → List ℕ
av1c_front h =
    0x81
    ∷ (h.profile % 8 * 32 + h.operating_point.level % 32)
    ∷ (bit_if h.operating_point.high_tier 128 + (bit_if (not (h.color.bit_depth == 8)) 64 + bit_if (h.color.bit_depth == 12) 32) + bit_if h.color.monochrome 16 + (bit_if h.color.subsampling_x 8 + bit_if h.color.subsampling_y 4) + h.color.chroma_sample_position % 4)
    ∷ 0
    ∷ []

abbrev pub av1c_bytes : Av1SequenceHeader → List ℕ → List ℕ
av1c_bytes h obu = av1c_front h ++ obu
