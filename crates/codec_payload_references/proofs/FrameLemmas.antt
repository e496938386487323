-- Sets of distances as bits.
use Rattle.std.proofs.Common.{◌≡◌, ℕ, zero, suc, ◌<◌, [], ◌∷◌, List, length, get_or, drop, refl, ap, arith}
use Rattle.std.specs.Int.Bits.{bit_or}
use Rattle.codec_payload_references.specs.Frames.{bit_for, mask_of}

-- one more distance goes into the mask
pub mask_next : (mask : ℕ) (ds : List ℕ) (i d : ℕ) → i < length ds → d ≡ get_or ds i d → mask_of (bit_or mask (bit_for d)) (drop (suc i) ds) ≡ mask_of mask (drop i ds)
mask_next mask [] i d l is = absurd (omega arith)
mask_next mask (x ∷ xs) zero d l is = ap (λ k. mask_of (bit_or mask (bit_for k)) xs) is
mask_next mask (x ∷ xs) (suc i) d l is = mask_next mask xs i d (omega arith) is

-- no distance is left
pub mask_end : (mask : ℕ) (ds : List ℕ) → mask_of mask (drop (length ds) ds) ≡ mask
mask_end mask [] = refl
mask_end mask (x ∷ xs) = mask_end mask xs
