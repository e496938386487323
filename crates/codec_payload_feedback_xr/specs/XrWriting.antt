-- The bytes of the packets that are written.
use Rattle.std.specs.Prelude.{ℕ, List, [], ◌∷◌, ◌++◌}
use Rattle.std.specs.Int.{w32, w64, to_be_bytes}
use Rattle.codec_payload_feedback_xr.specs.declared.report.Dlrr.{Dlrr}

-- version 2, type 207, 4 words; block type 4, 2 words
abbrev pub reference_time_bytes : ℕ → ℕ → List ℕ
reference_time_bytes ssrc ntp_time = (128 ∷ 207 ∷ 0 ∷ 4 ∷ []) ++ to_be_bytes w32 ssrc ++ (4 ∷ 0 ∷ 0 ∷ 2 ∷ []) ++ to_be_bytes w64 ntp_time

-- version 2, type 207, 5 words; block type 5, 3 words
abbrev pub dlrr_bytes : ℕ → Dlrr → List ℕ
dlrr_bytes ssrc d = (128 ∷ 207 ∷ 0 ∷ 5 ∷ []) ++ to_be_bytes w32 ssrc ++ (5 ∷ 0 ∷ 0 ∷ 3 ∷ []) ++ to_be_bytes w32 d.ssrc ++ to_be_bytes w32 d.last_rr ++ to_be_bytes w32 d.delay
