-- REMB: a bitrate as a mantissa of 18 bits and an exponent of 6 bits, and the sources that it is about.
use Rattle.std.specs.Prelude.{◌≡◌, ◌⊎◌, ℕ, ◌+◌, ◌*◌, ◌/◌, ◌%◌, ◌^◌, ◌<◌, ◌≤◌, ◌==◌, ◌&&◌, nat_lt, List, [], ◌∷◌, ◌++◌, length, take, drop, if◌then◌else◌, Result, Ok, Err}
use Rattle.std.specs.Int.{w32, from_be_bytes, to_be_bytes}
use Rattle.codec_payload_feedback_congestion.specs.declared.remb.RembFault.{RembFault}
use Rattle.codec_payload_feedback_congestion.specs.declared.remb.RembFault.TheVariants as faults
use Rattle.codec_payload_feedback_congestion.specs.declared.remb.Remb.{Remb}

pub record Estimate : Type 0 where
  pub bitrate : ℕ
  pub ssrcs : List ℕ

abbrev pub estimate_of : Remb → Estimate
estimate_of r = record { bitrate = r.bitrate; ssrcs = r.ssrcs.now }

-- ---- reading

abbrev pub sources_at : ℕ → ℕ → List ℕ → Result Estimate RembFault
sources_at bitrate count bytes =
    if nat_lt (length bytes) (4 * count) then Err faults.SourcesTooShort
    else Ok (record { bitrate = bitrate; ssrcs = take (4 * count) bytes })

abbrev pub scaled_at : ℕ → ℕ → ℕ → List ℕ → Result Estimate RembFault
scaled_at mantissa exponent count bytes =
    if nat_lt (mantissa * 2 ^ exponent) 18446744073709551616 then sources_at (mantissa * 2 ^ exponent) count bytes
    else Err faults.TooLarge

-- the number of sources (8 bits), the exponent (6 bits) and the mantissa (18 bits)
abbrev pub word_at : ℕ → List ℕ → Result Estimate RembFault
word_at word bytes = scaled_at (word % 262144) (word / 262144 % 64) (word / 16777216) bytes

-- feedback control information: "REMB", the word, and the sources
unfoldable pub remb_at : List ℕ → Result Estimate RembFault
remb_at (r ∷ e ∷ m ∷ b ∷ w3 ∷ w2 ∷ w1 ∷ w0 ∷ bytes) =
    if (r == 82) && (e == 69) && (m == 77) && (b == 66) then word_at (from_be_bytes w32 (w3 ∷ w2 ∷ w1 ∷ w0 ∷ [])) bytes
    else Err faults.NotRemb
remb_at bytes = Err faults.TooShort

-- ---- writing

-- the largest bitrate up to this one that has a mantissa of 18 bits: from 2^17 on, unless it is the bitrate itself
pub record IsRounded (bitrate m exponent : ℕ) : Type 0 where
  pub mantissa : m ≡ bitrate / 2 ^ exponent
  pub small : m < 262144
  pub fits : exponent ≤ 46
  pub normal : (exponent ≡ 0) ⊎ (131072 ≤ m)

-- the bytes are read as this estimate, whatever follows them
pub record Estimates (bytes : List ℕ) (estimate : Estimate) : Type 0 where
  pub whole : length bytes ≡ 8 + length estimate.ssrcs
  pub says : (more : List ℕ) → remb_at (bytes ++ more) ≡ Ok estimate

-- new is old with the bytes of the rounded bitrate and the sources at its end
abbrev pub AppendsRemb : List ℕ → List ℕ → ℕ → List ℕ → Type 0
AppendsRemb old new bitrate ssrcs =
    (written : List ℕ) × (mantissa : ℕ) × (exponent : ℕ) × IsRounded bitrate mantissa exponent × Estimates written (record { bitrate = mantissa * 2 ^ exponent; ssrcs = ssrcs }) × (new ≡ old ++ written)

abbrev pub word_of : ℕ → ℕ → ℕ → ℕ
word_of count exponent mantissa = count * 16777216 + exponent * 262144 + mantissa

abbrev pub remb_head : ℕ → List ℕ
remb_head word = 82 ∷ 69 ∷ 77 ∷ 66 ∷ to_be_bytes w32 word
